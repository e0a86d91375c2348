-- The fields of the entities, one entity after the other.
use Rattle.std.specs.Prelude.{◌≡◌, ℕ, zero, suc, ◌+◌, List, [], ◌∷◌, ◌++◌, map, drop, Some, slice_get}
use Rattle.std.proofs.{Common.{ap, sym, ◌∙◌, arith, append_assoc}, lemmas.Option.{same_Some, none-some}}
use Rattle.pc_core.specs.{declared.declarations.EntityDef.EntityDef, declared.declarations.FieldInfo.FieldInfo}
use Rattle.pc_places.specs.Text.{fields_from}

-- The next entity's fields are the first of the remaining ones.
pub fields_step : (xs : List EntityDef) (i e : ℕ) (x : EntityDef) → slice_get xs i ≡ Some x
    → fields_from e (drop i xs) ≡ map (λ (f : FieldInfo). (e, f)) x.fields ++ fields_from (suc e) (drop (suc i) xs)
fields_step [] i e x h = absurd (none-some x h)
fields_step (y ∷ ys) zero e x h = ap (λ (z : EntityDef). map (λ (f : FieldInfo). (e, f)) z.fields ++ fields_from (suc e) ys) (same_Some y x h)
fields_step (y ∷ ys) (suc i) e x h = fields_step ys i e x h

-- They were appended to those of the earlier entities.
pub fields_more : (all new : List (ℕ × FieldInfo)) (xs : List EntityDef) (i e : ℕ) (x : EntityDef) (whole : List (ℕ × FieldInfo)) → slice_get xs i ≡ Some x
    → new ≡ all ++ map (λ (f : FieldInfo). (e, f)) x.fields → all ++ fields_from e (drop i xs) ≡ whole → new ++ fields_from (e + 1) (drop (i + 1) xs) ≡ whole
fields_more all new xs i e x whole h added rest =
    ap (λ (l : List (ℕ × FieldInfo)). l ++ fields_from (e + 1) (drop (i + 1) xs)) added
    ∙ append_assoc all (map (λ (f : FieldInfo). (e, f)) x.fields) (fields_from (e + 1) (drop (i + 1) xs))
    ∙ ap (λ (n : ℕ). all ++ (map (λ (f : FieldInfo). (e, f)) x.fields ++ fields_from n (drop (i + 1) xs))) (next e)
    ∙ ap (λ (n : ℕ). all ++ (map (λ (f : FieldInfo). (e, f)) x.fields ++ fields_from (suc e) (drop n xs))) (next i)
    ∙ ap (λ (l : List (ℕ × FieldInfo)). all ++ l) (sym (fields_step xs i e x h))
    ∙ rest
  where
    next : (n : ℕ) → n + 1 ≡ suc n
    next n = omega arith
