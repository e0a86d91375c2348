use Rattle.std.proofs.Common.{◌∙◌, ◌++◌, ap}
use Rattle.std.specs.List.{concat}
use Rattle.pc_heap.proofs.Fronts.{equal_so_far}
use Rattle.pc_heap.proofs.pieces.are_equal.Goals as goal

pub rest-preserved : goal.rest-preserved
rest-preserved c = record { so_far = equal_so_far c.in-Some.first.now (concat c.in-Some.behind.now) _ _ _ _ c.rest.invariant.so_far (ap concat c.in-Some.ensures.cases.0) (c.in-Some-strip.ensures ∙ ap (λ z. z ++ (c.in-Some-strip.after.piece.now ++ concat c.in-Some-strip.after.behind.now)) c.as_slice.ensures) }
