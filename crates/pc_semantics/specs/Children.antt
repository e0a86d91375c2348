-- The tasks for a node's children.
use Rattle.std.specs.Prelude.{ℕ, List, map}
use Rattle.pc_semantics.specs.declared.frames.Task.{Task}
use Rattle.pc_semantics.specs.declared.frames.Task.TheVariants as task

-- Each child is evaluated.
abbrev pub evaluations : List ℕ → List Task
evaluations children = map (λ c. task.Eval c) children
