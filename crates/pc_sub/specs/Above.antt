-- In a core that fits together, the computed chains are exactly the chains.
use Rattle.std.proofs.{Common.{inl, inr, ap, sym, ◌∙◌}, lemmas.Option.{same_Some, none-some}, lemmas.Bool.{eqb-true, eq-eqb, or_cases, or_left, or_right}}
use Rattle.pc_base.proofs.Bools.{false_true}
use Rattle.std.specs.Prelude.{◌≡◌, ◌↔◌, ℕ, zero, suc, true, List, [], ◌∷◌, Option, Some, None, IsTrue, nat_eq, slice_get, refl}
use Rattle.pc_core.specs.{declared.declarations.EntityDef.EntityDef, CoreData.CoreData, Entities.{Leads, one, more, Chain}, Formed.Formed}
use Rattle.pc_base.specs.Lists.{Has}
use Rattle.pc_sub.specs.DeclarationFaults.{is_in, above_in, is_chain}

-- A chain starts at an entity that exists.
begins : (core : CoreData) (a b : ℕ) → Leads core a b → slice_get core.entities a ≡ None → ⊥
begins core a b (one n) e = none-some n.0 (sym e ∙ n.1)
begins core a b (more n r) e = none-some n.0 (sym e ∙ n.1)

in_has : (b : ℕ) (xs : List ℕ) → is_in b xs ≡ true → Has xs b
in_has b [] e = absurd (false_true e)
in_has b (x ∷ xs) e =
    elim (or_cases (nat_eq x b) (is_in b xs) e) [
      | inl h ↦ (0, ap Some (eqb-true x b h))
      | inr h ↦ let k = in_has b xs h in (suc k.0, k.1)
    ]

has_in : (b : ℕ) (xs : List ℕ) (i : ℕ) → slice_get xs i ≡ Some b → is_in b xs ≡ true
has_in b [] i e = absurd (none-some b e)
has_in b (x ∷ xs) zero e = or_left (nat_eq x b) (is_in b xs) (eq-eqb x b (same_Some x b e))
has_in b (x ∷ xs) (suc i) e = or_right (nat_eq x b) (is_in b xs) (has_in b xs i e)

above_leads : (core : CoreData) (a b : ℕ) (o : Option EntityDef) → Formed core → slice_get core.entities a ≡ o → is_in b (above_in o) ≡ true → Leads core a b
above_leads core a b None f e h = absurd (false_true h)
above_leads core a b (Some x) f e h = ((f.entities a x e).above b).0 (in_has b x.above h)

leads_above : (core : CoreData) (a b : ℕ) (o : Option EntityDef) → Formed core → slice_get core.entities a ≡ o → Leads core a b → is_in b (above_in o) ≡ true
leads_above core a b None f e h = absurd (begins core a b h e)
leads_above core a b (Some x) f e h = let k = ((f.entities a x e).above b).1 h in has_in b x.above k.0 k.1

pub is_chain_iff : (core : CoreData) (a b : ℕ) → Formed core → (IsTrue (is_chain core a b)) ↔ (Chain core a b)
is_chain_iff core a b f = (
  λ h. elim (or_cases (nat_eq a b) (is_in b (above_in (slice_get core.entities a))) h) [
    | inl e ↦ inl (eqb-true a b e)
    | inr e ↦ inr (above_leads core a b (slice_get core.entities a) f refl e)
  ],
  λ h. elim h [
    | inl e ↦ or_left (nat_eq a b) _ (eq-eqb a b e)
    | inr l ↦ or_right (nat_eq a b) _ (leads_above core a b (slice_get core.entities a) f refl l)
  ],
)
