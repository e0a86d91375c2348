use Rattle.std.proofs.Common.{◌++◌, ◌∷◌, [], ℕ, List, ap, ◌∙◌}
use Rattle.pc_sends.proofs.Listed.{alone}
use Rattle.pc_sends.proofs.conforming.alone.Goals as goal

pub returns : goal.returns
returns c =
    let known = c.args.known in
    alone c.args.core.now known c.push.new.self c.requires.there c.requires.concrete (c.in_ok-push.ensures.ok ∙ ap (λ (xs : List ℕ). xs ++ known ∷ []) c.new-entities.ensures)
