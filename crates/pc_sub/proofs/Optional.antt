-- A test of a method that may be missing.
use Rattle.std.specs.Prelude.{◌≡◌, ◌↔◌, Bool, false, Option, Some, None, IsTrue}
use Rattle.std.proofs.{Common.{sym, subst, ◌∙◌}, lemmas.Option.{same_Some, none-some}}
use Rattle.pc_base.proofs.Bools.{false_true}
use Rattle.pc_core.specs.declared.declarations.Method.{Method}

-- There is a method with this property.
abbrev pub Of : Option Method → (Method → Type 0) → Type 0
Of o P = (t : Method) × (o ≡ Some t) × P t

pub none_of : (o : Option Method) (P : Method → Type 0) → o ≡ None → (IsTrue false) ↔ (Of o P)
none_of o P none = (λ t. absurd (false_true t), λ h. absurd (none-some h.0 (sym none ∙ h.1)))

pub some_of : (o : Option Method) (P : Method → Type 0) (t : Method) (b : Bool) → o ≡ Some t → (IsTrue b) ↔ (P t) → (IsTrue b) ↔ (Of o P)
some_of o P t b some k = (λ h. (t, some, k.0 h), λ h. k.1 (subst P (same_Some h.0 t (sym h.1 ∙ some)) h.2))
