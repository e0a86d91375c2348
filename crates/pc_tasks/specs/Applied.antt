-- The result of an operator, as a move.
use Rattle.pc_semantics.specs.{declared.frames.Frame.Frame, Configurations.{Move, Stuck, Overflows, Goes, pushed}}
use Rattle.pc_tasks.specs.declared.operators.Applied.{Applied}
use Rattle.pc_semantics.specs.declared.outcome.Lack.TheVariants as lack
use Rattle.pc_tasks.specs.declared.operators.Applied.TheVariants as applied

abbrev pub applied_to : Frame → Applied → Move
applied_to f (applied.Gives v) = Goes (pushed f v)
applied_to f applied.OtherKind = Stuck lack.Value
applied_to f applied.TooLong = Overflows
