use Rattle.std.proofs.Common.{◌≡◌, ◌++◌, drop, length}
use Rattle.pc_explain_words.specs.Caps.{form_words}
use Rattle.pc_explain_words.proofs.caps.push_forms.Given as goal

abbrev pub invariant-loop-form : goal.invariant-loop-form
invariant-loop-form l =
    (l.left ≡ length (drop l.form-index l.forms)) × (l.out.items ++ form_words (drop l.form-index l.forms) ≡ l.initial.out.items ++ form_words l.forms)
