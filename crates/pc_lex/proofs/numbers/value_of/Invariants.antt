use Rattle.std.proofs.Common.{◌<◌, ◌^◌, ◌≡◌, drop}
use Rattle.pc_lex.specs.Reading.{value_of}
use Rattle.pc_lex.proofs.numbers.value_of.Given as goal

abbrev pub invariant-loop-b : goal.invariant-loop-b
invariant-loop-b l = (l.value < 2 ^ 64) × (value_of l.base l.value (drop l.b-index l.text) ≡ value_of l.base 0 l.text)
