-- Steps are counted.
use Rattle.std.specs.Prelude.{◌+◌}
use Rattle.pc_semantics.specs.declared.outcome.Outcome.{Outcome}
use Rattle.pc_run.specs.{declared.counts.Counts.Counts, declared.counts.Progress.Progress, declared.counts.Progress.TheVariants.{Going, TooLong}}
use Rattle.pc_semantics.specs.declared.outcome.Outcome.TheVariants as outcome

-- The progress of a run after one more step with this outcome. A step that lacks something is not counted.
abbrev pub counted : Counts → Outcome → Progress
counted k outcome.Moved = Going (record { moved = k.moved + 1; skipped = k.skipped })
counted k outcome.Skipped = Going (record { moved = k.moved; skipped = k.skipped + 1 })
counted k outcome.TooLong = TooLong (k.moved + k.skipped + 1)
counted k (outcome.Lacks l) = Going k
