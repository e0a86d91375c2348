-- The types that are written for locals.
use Rattle.std.proofs.Common.{◌≡◌, ℕ, suc, ◌+◌, ◌<◌, length, List, [], ◌∷◌, Some, Bool, true, false, refl, subst, arith, if◌then◌else◌}
use Rattle.std.specs.Str.{bytes_eq}
use Rattle.pc_caps.specs.declared.capability.Cap.{Cap}
use Rattle.pc_tree.specs.declared.written_names.TypeRef.{TypeRef}
use Rattle.pc_body_spec.specs.{Bodies.KnownEntity, Faults.{unknown, is_entity}, Parts.cap_or, Fold.type_of_name, Laws.WrittenTypesAreThere}
use Rattle.pc_body_spec.proofs.Meanings.{some_fault}

-- The type with a name that an entity has.
abbrev IsThere : ℕ → List KnownEntity → TypeRef → Type 0
IsThere at xs ty = (p : ℕ × Cap) × (type_of_name at xs ty ≡ Some p) × (p.0 < at + length xs)

there : (at : ℕ) (xs : List KnownEntity) (ty : TypeRef) → is_entity xs ty.name.text ≡ true → IsThere at xs ty
there at [] ty h = absurd (true_false h)
  where
    IsNo : Bool → Type 0
    IsNo true = ⊥
    IsNo false = Unit {0}

    true_false : false ≡ true → ⊥
    true_false g = subst IsNo g tt
there at (x ∷ xs) ty h = by (bytes_eq x.name ty.name.text) h (λ g. there (suc at) xs ty g)
  where
    by : (b : Bool) → (if b then true else is_entity xs ty.name.text) ≡ true → (is_entity xs ty.name.text ≡ true → IsThere (suc at) xs ty) → (p : ℕ × Cap) × ((if b then Some (at, cap_or ty.cap x.cap) else type_of_name (suc at) xs ty) ≡ Some p) × (p.0 < at + length (x ∷ xs))
    by true g rest = ((at, cap_or ty.cap x.cap), refl, omega arith)
    by false g rest = let r = rest g in let low = r.2 in (r.0, r.1, omega (arith, low))

pub written_types_are_there : WrittenTypesAreThere
written_types_are_there c ty f = by (is_entity c.entities ty.name.text) refl f
  where
    by : (b : Bool) → is_entity c.entities ty.name.text ≡ b → (if b then [] else unknown ty.name.span ∷ []) ≡ [] → (p : ℕ × Cap) × (type_of_name 0 c.entities ty ≡ Some p) × (p.0 < length c.entities)
    by true e g = let r = there 0 c.entities ty e in let low = r.2 in (r.0, r.1, omega (arith, low))
    by false e g = absurd (some_fault g)
