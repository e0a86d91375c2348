use Rattle.std.proofs.Common.{◌≤◌, take}
use Rattle.std.specs.Io.KnownBytes.{Appends}
use Rattle.pc_semantics.specs.Text.{lines}
use Rattle.pc_run.proofs.writing.put_texts.Given as goal

abbrev pub invariant-loop-text : goal.invariant-loop-text
invariant-loop-text g l =
    Appends (g.O.Sink.written l.initial.out) (g.O.Sink.written l.out) (lines (take l.text-index l.texts)) × (g.O.Sink.faults l.initial.out ≤ g.O.Sink.faults l.out)
