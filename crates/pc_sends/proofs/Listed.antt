-- The lists of the entities that values may have, entity by entity.
use Rattle.std.specs.Prelude.{◌≡◌, ◌↔◌, ℕ, zero, suc, ◌+◌, ◌<◌, Bool, true, false, List, [], ◌∷◌, ◌++◌, length, Some, slice_get, refl}
use Rattle.std.proofs.{Common.{inl, inr, ap, sym, subst, ◌∙◌, arith, length-append}, lemmas.Option.{same_Some, none-some}}
use Rattle.pc_tree.specs.Kinds.{is_abstract}
use Rattle.pc_core.specs.{declared.declarations.EntityDef.EntityDef, CoreData.CoreData, Further.IsAbstract}
use Rattle.pc_base.specs.Lists.{Has}
use Rattle.pc_base.proofs.Gets.{get_below, get_within, get_push}
use Rattle.pc_sends.specs.{Tables.MayBe, Found.ListsMayBe}

-- What may be is an entity of the core, and so is what it is known to be.
pub may_be_below : (core : CoreData) (d e : ℕ) → MayBe core d e → d < length core.entities
may_be_below core d e m = get_below core.entities d m.own m.is_own

pub known_below : (core : CoreData) (d e : ℕ) → MayBe core d e → e < length core.entities
known_below core d e m =
    elim m.is_one [
      | inl same ↦ let l = may_be_below core d e m in omega (arith, l, same)
      | inr above ↦ get_below core.entities e above.0.0 above.0.1
    ]

-- The lists of the first n entities.
pub record ListsTo (core : CoreData) (n : ℕ) (lists : List (List ℕ)) : Type 0 where
  pub long : length lists ≡ n
  pub each : (e : ℕ) (ds : List ℕ) → slice_get lists e ≡ Some ds → (d : ℕ) → (Has ds d) ↔ (MayBe core d e)

pub lists_none : (core : CoreData) → ListsTo core 0 []
lists_none core = record { long = refl; each = λ e ds g. absurd (none-some ds g) }

pub lists_push : (core : CoreData) (n : ℕ) (lists : List (List ℕ)) (ds : List ℕ) → ListsTo core n lists → ((d : ℕ) → (Has ds d) ↔ (MayBe core d n)) → ListsTo core (n + 1) (lists ++ ds ∷ [])
lists_push core n lists ds l same = record {
  long = let long = l.long in omega (arith, length-append lists (ds ∷ []), long);
  each = λ e es g. elim (get_push lists ds e es g) [
    | inl old ↦ l.each e es old
    | inr last ↦ let at : n ≡ e = sym (last.0 ∙ l.long) in
        subst (λ (fs : List ℕ). (d : ℕ) → (Has fs d) ↔ (MayBe core d e)) last.1 (subst (λ (k : ℕ). (d : ℕ) → (Has ds d) ↔ (MayBe core d k)) at same)
  ];
}

pub lists_all : (core : CoreData) (n : ℕ) (lists : List (List ℕ)) → ListsTo core n lists → n ≡ length core.entities → ListsMayBe core lists
lists_all core n lists l all = record { whole = l.long ∙ all; each = l.each }

-- ---- an entity alone

-- An entity that is neither a trait nor an interface may be itself, and nothing else.
alone_is : (core : CoreData) (e d : ℕ) (x : EntityDef) → slice_get core.entities e ≡ Some x → (IsAbstract core e → ⊥) → (b : Bool) → is_abstract x.kind ≡ b → (d ≡ e) ↔ (MayBe core d e)
alone_is core e d x at concrete true is = absurd (concrete (x, at, is))
alone_is core e d x at concrete false is = (
  λ same. record { own = x; is_own = ap (slice_get core.entities) same ∙ at; concrete = is; is_one = inl same },
  λ m. elim m.is_one [ inl same ↦ same | inr above ↦ absurd (concrete above.0) ],
)

pub alone : (core : CoreData) (e : ℕ) (ds : List ℕ) → e < length core.entities → (IsAbstract core e → ⊥) → ds ≡ e ∷ [] → (d : ℕ) → (Has ds d) ↔ (MayBe core d e)
alone core e ds low concrete is d =
    let there = get_within core.entities e low in
    let k = alone_is core e d there.0 there.1 concrete (is_abstract there.0.kind) refl in
    subst (λ (fs : List ℕ). (Has fs d) ↔ (MayBe core d e)) (sym is) (
      λ h. k.0 (sym (one_item e h.0 d h.1)),
      λ m. (0, ap Some (sym (k.1 m))),
    )
  where
    one_item : (e i d : ℕ) → slice_get (e ∷ []) i ≡ Some d → e ≡ d
    one_item e zero d g = same_Some e d g
    one_item e (suc i) d g = absurd (none-some d g)
