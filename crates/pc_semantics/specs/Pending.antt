-- The tasks that the entries of a frame represent.
use Rattle.std.specs.{Prelude.{ℕ, List, [], ◌∷◌, drop}, List.flat_map}
use Rattle.pc_semantics.specs.{declared.frames.Task.Task, Children.evaluations, declared.tasks.After.After, declared.tasks.Entry.Entry}
use Rattle.pc_semantics.specs.declared.frames.Task.TheVariants as task
use Rattle.pc_semantics.specs.declared.tasks.After.TheVariants as after

-- Before each child is evaluated, a value is dropped.
abbrev pub as_items : List ℕ → List Task
as_items children = flat_map (λ c. task.Discard ∷ task.Eval c ∷ []) children

abbrev pub tasks_after : After → List Task
tasks_after after.Nothing = []
tasks_after (after.Evaluations children place) = evaluations (drop place children)
tasks_after (after.Items children place) = as_items (drop place children)
tasks_after (after.Dropped children place) = drop 1 (as_items (drop place children))

abbrev pub entry_tasks : Entry → List Task
entry_tasks e = e.task ∷ tasks_after e.after

-- The entry of a task that is followed by the entry below.
abbrev pub single : Task → Entry
single t = record { task = t; after = after.Nothing }

-- The tasks of all entries, the first entry on top.
abbrev pub all_tasks : List Entry → List Task
all_tasks entries = flat_map entry_tasks entries
