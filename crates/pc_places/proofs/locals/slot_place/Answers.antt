use Rattle.std.proofs.Common.{sym, ap, ◌∙◌}
use Rattle.std.specs.Option.{option_copied}
use Rattle.pc_places.proofs.Methods.{nodes_ordered, nodes_within}
use Rattle.pc_places.proofs.locals.slot_place.Goals as goal

pub local_place-requires-clause-within : goal.local_place-requires-clause-within
local_place-requires-clause-within c =
    nodes_within c.args.core.now c.formed.ensures c.args.slot.method c.in_ok-method.method.now (sym c.method_at.ensures ∙ ap option_copied c.in_ok-method.was)

pub local_place-requires-clause-ordered : goal.local_place-requires-clause-ordered
local_place-requires-clause-ordered c =
    nodes_ordered c.args.core.now c.formed.ensures c.args.slot.method c.in_ok-method.method.now (sym c.method_at.ensures ∙ ap option_copied c.in_ok-method.was)
