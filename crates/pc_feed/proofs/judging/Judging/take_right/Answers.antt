use Rattle.std.proofs.Common.{refl, sym, ◌∙◌}
use Rattle.pc_feed.proofs.{NodeLines.{node_unset, node_kept}, Places.node_at, Taking.nothing}
use Rattle.pc_feed.proofs.judging.Judging.take_right.Goals as goal

pub returns-then-leaves_unset : goal.returns-then-leaves_unset
returns-then-leaves_unset c = λ ls m h right.
    let so = nothing c.args.core.now ls c.args.self.now c.requires.right h in
    let at = node_at c.args.core.now ls c.args.self.now so c.args.own m in
    (node_unset c.args.core.now c.formed.ensures ls c.args.self.now so c.args.own at c.args.node.now c.requires.node right (sym c.leaves_unset.ensures ∙ c.if-leaves_unset.true) _ refl, refl)

pub returns : goal.returns
returns c = λ ls m h right.
    let so = nothing c.args.core.now ls c.args.self.now c.requires.right h in
    let at = node_at c.args.core.now ls c.args.self.now so c.args.own m in
    node_kept c.args.core.now c.formed.ensures ls c.args.self.now so c.args.own at c.args.node.now c.requires.node right (sym c.leaves_unset.ensures ∙ c.if-leaves_unset.false) c.requires.right _ c.keep.new.self c.keep.result refl
    c.keep.ensures.ok c.keep.ensures.err
