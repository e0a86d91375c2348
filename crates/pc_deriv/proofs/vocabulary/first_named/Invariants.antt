use Rattle.std.proofs.Common.{◌≡◌, drop}
use Rattle.pc_deriv.specs.Reading.{read_named}
use Rattle.pc_deriv.proofs.vocabulary.first_named.Given as goal

abbrev pub invariant-loop-thing : goal.invariant-loop-thing
invariant-loop-thing g l = read_named g.T.Named.spelling l.end (drop l.thing-index l.things) l.text ≡ read_named g.T.Named.spelling l.end l.things l.text
