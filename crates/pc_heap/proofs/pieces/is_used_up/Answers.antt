use Rattle.std.proofs.Common.{◌∙◌}
use Rattle.std.specs.List.{concat}
use Rattle.pc_heap.proofs.Fronts.{nothing_left, some_there}
use Rattle.pc_heap.proofs.pieces.is_used_up.Goals as goal

pub returns-else-is_empty : goal.returns-else-is_empty
returns-else-is_empty c = c.if-is_empty.false ∙ nothing_left c.args.rest.piece.now (concat c.args.rest.behind.now) (some_there _ c.args.rest.piece.now c.is_empty.ensures c.if-is_empty.false)
