use Rattle.std.proofs.Common.{◌∙◌, ◌++◌, ◌∷◌, [], ap, ap₂}
use Rattle.std.specs.List.{concat}
use Rattle.pc_heap.proofs.Fronts.{one_more, two_more}
use Rattle.pc_heap.proofs.pieces.meet.Goals as goal

pub returns-in_ok-push : goal.returns-in_ok-push
returns-in_ok-push c =
    let before = c.args.pieces.now.items in
    ap concat c.in_ok-push.ensures.items ∙ one_more before c.in_ok-joined_piece.field-0 ∙ ap (λ z. concat before ++ z) c.in_ok-joined_piece.ensures

pub returns-in_ok-push-3 : goal.returns-in_ok-push-3
returns-in_ok-push-3 c =
    let before = c.args.pieces.now.items in
    ap concat (c.in_ok-push-3.ensures.items ∙ ap (λ z. z ++ c.in_ok-share-2.field-0 ∷ []) c.in_ok-push-2.ensures.items)
    ∙ two_more before c.in_ok-share.field-0 c.in_ok-share-2.field-0
    ∙ ap₂ (λ x y. concat before ++ (x ++ y)) c.in_ok-share.ensures c.in_ok-share-2.ensures
