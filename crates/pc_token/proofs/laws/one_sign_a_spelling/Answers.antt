use Rattle.pc_token.proofs.SignFacts.{sign_longest, sign_never, sign_one}
use Rattle.pc_token.proofs.laws.one_sign_a_spelling.Goals as goal

pub returns : goal.returns
returns c = record { found = λ text sign size e. sign_longest text (sign, size) e; none = sign_never; only = sign_one }
