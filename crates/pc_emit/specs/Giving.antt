-- The result of a walk.
use Rattle.std.specs.Prelude.{◌≡◌, ℕ, List, Option, Some, None, Result, Ok, Err}
use Rattle.pc_core.specs.declared.nodes.Node.{Node}
use Rattle.pc_body_spec.specs.{Bodies.Rose, Fold.{Numbered, and_then, put}}
use Rattle.pc_emit.specs.declared.stop.EmitStop.{EmitStop}
use Rattle.pc_emit.specs.declared.stop.EmitStop.TheVariants as stop

-- The wanted result with the wanted nodes; or that there are too many nodes, iff nothing is wanted; or that memory ran
-- out, which says nothing.
abbrev pub GivesNodes : {A : Type 0} → Result A EmitStop → List Node → Numbered A → Type 0
GivesNodes (Ok a) nodes want = want ≡ Some (a, nodes)
GivesNodes (Err stop.Full) nodes want = want ≡ None
GivesNodes (Err stop.Memory) nodes want = Unit {0}

-- A body after some nodes, if one is written.
abbrev pub put_written : ℕ → Option Rose → List Node → Numbered (Option ℕ)
put_written m None nodes = Some (None, nodes)
put_written m (Some r) nodes = and_then (put m r nodes) (λ n. λ all. Some (Some n, all))

abbrev pub GivesBody : Result (Option ℕ) EmitStop → List Node → Option Rose → ℕ → List Node → Type 0
GivesBody result nodes body m before = GivesNodes result nodes (put_written m body before)
