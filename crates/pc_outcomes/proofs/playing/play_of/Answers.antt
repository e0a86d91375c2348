use Rattle.std.proofs.Common.{◌∙◌, ℕ, ap, subst}
use Rattle.pc_semantics.specs.Text.{lines}
use Rattle.pc_play.specs.Plays.{IsThrough}
use Rattle.pc_outcomes.proofs.Ended.{is_play}
use Rattle.pc_outcomes.proofs.playing.play_of.Goals as goal

pub returns : goal.returns
returns c =
    let t = c.in_ok-through.through in
    is_play c.args.core.now c.args.seed t.machine.configuration t.progress t.steps c.in_ok-able.able c.in_ok-text.text c.ending_of.result
    (subst (λ (s : ℕ). IsThrough c.args.core.now s t.machine.configuration t.progress t.steps) c.from.ensures c.in_ok-through.ensures.through)
    c.in_ok-able.ensures (c.in_ok-text.ensures ∙ ap lines (c.as_slice.ensures ∙ c.printed.ensures))
    (λ list h. c.ending_of.ensures c.args.core.now list t.machine.configuration h)
