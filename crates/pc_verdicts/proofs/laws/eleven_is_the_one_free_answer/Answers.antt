use Rattle.pc_verdicts.proofs.Moving.{eleven_free}
use Rattle.pc_verdicts.proofs.laws.eleven_is_the_one_free_answer.Goals as goal

pub returns : goal.returns
returns c = eleven_free c.verdict_is_one.ensures
