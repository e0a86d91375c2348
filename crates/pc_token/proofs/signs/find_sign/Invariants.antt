use Rattle.std.proofs.Common.{◌≡◌, drop}
use Rattle.pc_token.specs.Finding.{first_sign}
use Rattle.pc_token.proofs.signs.find_sign.Given as goal

abbrev pub invariant-loop-sign : goal.invariant-loop-sign
invariant-loop-sign l = first_sign (drop l.sign-index l.signs) l.text ≡ first_sign l.signs l.text
