-- A test of one node decides whether its rule holds.
use Rattle.std.specs.Prelude.{◌≡◌, ◌↔◌, ◌<◌, ℕ, Bool, List, Some, None, IsTrue, length, slice_get}
use Rattle.std.proofs.{Common.{sym, subst, ◌∙◌}, lemmas.Option.{same_Some, none-some}}
use Rattle.pc_core.specs.{declared.nodes.Node.Node, CoreData.CoreData}
use Rattle.pc_ann.specs.{declared.annotation.Note.Note, declared.annotation.Ann.Ann}
use Rattle.pc_rules.specs.Rules.{IsSaid, NoteIsSaid}
use Rattle.pc_rules.proofs.Gathered.{note_within}

pub none_there : {A : Type 0} → (xs : List A) (n : ℕ) → n < length xs → slice_get xs n ≡ None → ⊥
none_there xs n l e = let p = note_within xs n l in none-some p.0 (sym e ∙ p.1)

pub rule_by : (core : CoreData) (ann : Ann) (n : ℕ) (x : Node) (t : Note) (b : Bool) → slice_get core.nodes n ≡ Some x → slice_get ann.notes n ≡ Some t
    → ((IsTrue b) ↔ (IsSaid core ann x t)) → (IsTrue b) ↔ (NoteIsSaid core ann n)
rule_by core ann n x t b e g d =
    (λ u. (x, t, e, g, d.0 u), λ h. d.1 (subst (λ (y : Node). IsSaid core ann y t) (same_Some h.0 x (sym h.2 ∙ e)) (subst (λ (s : Note). IsSaid core ann h.0 s) (same_Some h.1 t (sym h.3 ∙ g)) h.4)))
