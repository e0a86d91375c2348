use Rattle.std.proofs.Common.{ap, sym, subst, ◌∙◌}
use Rattle.pc_deriv.specs.Lines.{Taken}
use Rattle.pc_feed.specs.Streams.{IsFed}
use Rattle.pc_feed.proofs.Fed.{feeds_at}
use Rattle.pc_feed.proofs.stream.Stream.feed.Goals as goal

pub returns-clause-fed : goal.returns-clause-fed
returns-clause-fed g c = λ core bytes h.
    let fed = subst (IsFed core bytes) (sym c.self.view_is) h in
    feeds_at core c.self.inside.core.now bytes c.args.piece.now c.self.inside.reading c.take_piece.new.self (g.R.Referee.asked c.args.referee.now) (g.R.Referee.asked c.take_piece.new.referee) c.take_piece.result
    fed.0 fed.1 (c.take_piece.ensures.fed bytes)

pub returns-clause-kept : goal.returns-clause-kept
returns-clause-kept g c = λ core bytes f h e.
    let fed = subst (IsFed core bytes) (sym c.self.view_is) h in
    c.take_piece.ensures.kept f (ap (λ (t : Taken). t.fault) fed.1.taken ∙ e)
