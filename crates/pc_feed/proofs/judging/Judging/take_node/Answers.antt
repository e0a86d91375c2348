use Rattle.std.proofs.{lemmas.Result.err_from_is_err_and, lemmas.Bool.both_ways}
use Rattle.std.specs.declared.alloc.AllocError.{AllocError}
use Rattle.pc_feed.proofs.{NodeLines.{node_wrong, found_so_far}, Places.node_at, Taking.{nothing, node_lost, node_not, node_yes}}
use Rattle.pc_feed.proofs.judging.Judging.take_node.Goals as goal

pub returns-in_err-is_right : goal.returns-in_err-is_right
returns-in_err-is_right g c = λ ls m h.
    let p = err_from_is_err_and c.from_residual.result c.from_residual.ensures.1 in
    let so = nothing c.args.core.now ls c.args.self.now c.requires.right h in
    let at = node_at c.args.core.now ls c.args.self.now so c.args.own m in
    let found = found_so_far c.args.core.now c.formed.ensures ls c.args.self.now so c.args.own at c.args.node.now c.requires.node in
    rw p.1 (node_lost c.args.core.now ls c.args.own c.args.self.now (g.R.Referee.asked c.args.referee.now) (g.R.Referee.asked c.ask.new.referee) c.in_err-is_right.field-0.0 p.0 h c.in_err-is_right.ensures.list found)

pub returns-then-is_right : goal.returns-then-is_right
returns-then-is_right g c = λ ls m h.
    let so = nothing c.args.core.now ls c.args.self.now c.requires.right h in
    let right = c.in_ok-is_right.ensures.right.0 c.if-is_right.true in
    node_yes AllocError c.args.core.now ls c.args.own c.args.self.now c.take_right.new.self (g.R.Referee.asked c.args.referee.now) (g.R.Referee.asked c.ask.new.referee) c.in_ok-is_right.is_right c.take_right.result c.if-is_right.true so c.in_ok-is_right.ensures.list
    (c.take_right.ensures ls m h right)

pub returns : goal.returns
returns g c = λ ls m h.
    let so = nothing c.args.core.now ls c.args.self.now c.requires.right h in
    let at = node_at c.args.core.now ls c.args.self.now so c.args.own m in (
      node_wrong c.args.core.now c.formed.ensures ls c.args.self.now so c.args.own at c.args.node.now c.requires.node (λ e. both_ways c.in_ok-is_right.is_right c.if-is_right.false (c.in_ok-is_right.ensures.right.1 e)),
      node_not AllocError c.args.core.now ls c.args.own c.args.self.now (g.R.Referee.asked c.args.referee.now) (g.R.Referee.asked c.ask.new.referee) c.in_ok-is_right.is_right c.if-is_right.false h c.in_ok-is_right.ensures.list,
    )
