use Rattle.std.proofs.Common.{◌≡◌, ◌+◌, drop}
use Rattle.pc_core.specs.Parts as parts
use Rattle.pc_core.proofs.lookup.place_of_method.Given as goal
use Rattle.pc_base.specs.Lists.{place_of}

abbrev pub invariant-loop-method : goal.invariant-loop-method
invariant-loop-method l = record { rest : place_of parts.method_name l.name (drop l.method-index l.methods) l.at ≡ place_of parts.method_name l.name l.methods l.first; at : l.at ≡ l.first + l.method-index }
