use Rattle.std.proofs.Common.{length, ◌-◌, ◌+◌, ◌≡◌, ◌≤◌, drop}
use Rattle.std.specs.List.{prefix_len}
use Rattle.pc_lex.specs.Reading.{class_test}
use Rattle.pc_lex.proofs.classes.run.Given as goal

abbrev pub invariant-loop-n : goal.invariant-loop-n
invariant-loop-n l = (l.n ≤ length l.text) × (l.n + prefix_len (class_test l.class) (drop l.n l.text) ≡ prefix_len (class_test l.class) l.text)

abbrev pub decreases-loop-n : goal.decreases-loop-n
decreases-loop-n l = length l.text - l.n
