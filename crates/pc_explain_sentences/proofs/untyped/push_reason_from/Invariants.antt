use Rattle.std.proofs.Common.{◌≡◌, ◌++◌, ◌-◌}
use Rattle.pc_explain_sentences.specs.Untyped.{reason_from}
use Rattle.pc_explain_sentences.proofs.untyped.push_reason_from.Given as goal

abbrev pub invariant-loop-step : goal.invariant-loop-step
invariant-loop-step l = l.out.items ++ reason_from l.scene (l.count - l._step) l.at ≡ l.initial.out.items ++ reason_from l.scene l.count l.fn.node
