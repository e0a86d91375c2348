use Rattle.std.proofs.{Common.refl, lemmas.Bool.both_ways}
use Rattle.pc_feed.proofs.{Openings.{head_right, head_wrong}, Taking.{nothing, still_nothing}}
use Rattle.pc_feed.proofs.judging.Judging.take_head.Goals as goal

pub returns-then-has_counts : goal.returns-then-has_counts
returns-then-has_counts c = λ version ls m h.
    let same = c.has_counts.ensures.0 c.if-has_counts.true in
    let so = nothing c.args.core.now ls c.args.self.now c.requires h in
    (still_nothing c.args.core.now _ c.args.self.now c.requires (head_right c.args.core.now ls c.args.self.now so version c.args.slots c.args.nodes m same.0 same.1), refl)

pub returns : goal.returns
returns c = λ version ls m h.
    let so = nothing c.args.core.now ls c.args.self.now c.requires h in
    (head_wrong c.args.core.now ls c.args.self.now so version c.args.slots c.args.nodes m (λ e. both_ways c.has_counts.result c.if-has_counts.false (c.has_counts.ensures.1 e)), refl)
