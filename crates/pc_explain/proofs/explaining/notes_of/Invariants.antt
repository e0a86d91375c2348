use Rattle.std.proofs.Common.{◌≡◌, ◌++◌, drop}
use Rattle.std.specs.Prelude.{option_map}
use Rattle.pc_rules.specs.Parts.{notes_of}
use Rattle.pc_explain.proofs.explaining.notes_of.Given as goal

abbrev pub invariant-loop-child : goal.invariant-loop-child
invariant-loop-child l = option_map (λ ns. l.found ++ ns) (notes_of l.notes (drop l.child-index l.children)) ≡ notes_of l.notes l.children
