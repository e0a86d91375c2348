use Rattle.std.proofs.Common.{◌≡◌, ◌++◌, drop}
use Rattle.pc_places.specs.Text.{methods_text}
use Rattle.pc_places.proofs.text.push_methods.Given as goal

abbrev pub invariant-loop-method : goal.invariant-loop-method
invariant-loop-method l = l.text.items ++ methods_text l.core (drop l.method-index l.core.methods) ≡ l.initial.text.items ++ methods_text l.core l.core.methods
