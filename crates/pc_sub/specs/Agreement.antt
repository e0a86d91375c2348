-- In a core that fits together, the computed order is the order, and computed conformance is conformance.
use Rattle.std.proofs.{Common.{inl, inr, ap, ◌∙◌}, lemmas.Bool.{and_parts, and_from, or_cases, or_left, or_right}}
use Rattle.pc_base.proofs.Bools.{false_true}
use Rattle.std.specs.{Prelude.{◌≡◌, ◌↔◌, ℕ, true, ◌&&◌, Option, Some, None, IsTrue, slice_get, refl}, Option.is_none}
use Rattle.pc_core.specs.{declared.declarations.EntityDef.EntityDef, CoreData.CoreData, Formed.Formed, Entities.Conforms}
use Rattle.pc_sub.specs.{declared.faults.DeclFault.DeclFault, DeclarationFaults.is_chain, Declarations.{IsInterface, Sub}, Computed.{is_interface, is_sub}, Above.is_chain_iff, Faults.{conforms, conformed}}
use Rattle.pc_sub.specs.DeclarationFaults as conform

none_is : (o : Option DeclFault) → is_none o ≡ true → o ≡ None
none_is None e = refl
none_is (Some x) e = absurd (false_true e)

pub conforms_iff : (core : CoreData) (e b : ℕ) → Formed core → (IsTrue (conform.conforms core e b)) ↔ (Conforms core e b)
conforms_iff core e b f = (
  λ h. conforms core e b (slice_get core.entities b) f refl (none_is _ h),
  λ h. ap is_none (conformed core e b (slice_get core.entities b) f refl h),
)

interface_there : (core : CoreData) (b : ℕ) (o : Option EntityDef) → slice_get core.entities b ≡ o → is_interface o ≡ true → IsInterface core b
interface_there core b None e h = absurd (false_true h)
interface_there core b (Some x) e h = (x, e, h)

there_interface : (core : CoreData) (b : ℕ) → IsInterface core b → is_interface (slice_get core.entities b) ≡ true
there_interface core b i = ap is_interface i.1 ∙ i.2

pub is_sub_iff : (core : CoreData) (a b : ℕ) → Formed core → (IsTrue (is_sub core a b)) ↔ (Sub core a b)
is_sub_iff core a b f = (
  λ h. elim (or_cases (is_chain core a b) (is_interface (slice_get core.entities b) && conform.conforms core a b) h) [
    | inl c ↦ inl ((is_chain_iff core a b f).0 c)
    | inr s ↦ let p = and_parts (is_interface (slice_get core.entities b)) (conform.conforms core a b) s in
        inr (interface_there core b (slice_get core.entities b) refl p.0, (conforms_iff core a b f).0 p.1)
  ],
  λ h. elim h [
    | inl c ↦ or_left (is_chain core a b) _ ((is_chain_iff core a b f).1 c)
    | inr s ↦ or_right (is_chain core a b) _ (and_from _ _ (there_interface core b s.0) ((conforms_iff core a b f).1 s.1))
  ],
)
