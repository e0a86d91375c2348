use Rattle.std.proofs.Common.{◌≡◌, ◌++◌, drop, map}
use Rattle.pc_body_spec.specs.Fold.{local_slot}
use Rattle.pc_elab.proofs.slots.add_locals.Given as goal

abbrev pub invariant-loop-local : goal.invariant-loop-local
invariant-loop-local l = l.fn.slots ++ map (local_slot l.context l.method) l.locals ≡ l.slots ++ map (local_slot l.context l.method) (drop l.local-index l.locals)
