use Rattle.std.proofs.Common.{◌∙◌, ◌++◌, ap}
use Rattle.std.specs.List.{concat}
use Rattle.pc_heap.proofs.Fronts.{met}
use Rattle.pc_heap.proofs.pieces.add_both.Goals as goal

pub returns-in_ok-add_all-in-Some-split_first-2 : goal.returns-in_ok-add_all-in-Some-split_first-2
returns-in_ok-add_all-in-Some-split_first-2 c =
    met c.in-Some.front.now c.in-Some.last.now c.in-Some-split_first.first.now c.in-Some-split_first.behind.now _ _ _ _
    (c.in_ok-meet-in-Some-split_first.ensures ∙ ap (λ z. concat z ++ (c.in-Some.last.now ++ c.in-Some-split_first.first.now)) (c.in_ok-add_all-in-Some-split_first.ensures ∙ ap (λ z. z ++ c.in-Some.front.now) c.requires))
    c.in_ok-add_all-in-Some-split_first-2.ensures c.in-Some.ensures.cases.0 c.in-Some-split_first.ensures.cases.0
