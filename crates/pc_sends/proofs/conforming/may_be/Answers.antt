use Rattle.std.proofs.{Common.◌∙◌, lemmas.Option.none-some}
use Rattle.pc_base.proofs.Bools.{false_true}
use Rattle.pc_sends.proofs.conforming.may_be.Goals as goal

pub returns-in-None : goal.returns-in-None
returns-in-None c = (λ e. absurd (false_true e), λ m. absurd (none-some m.own (c.in-None.ensures ∙ m.is_own)))
