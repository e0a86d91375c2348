use Rattle.std.proofs.Common.{◌≤◌, length, arith}
use Rattle.pc_choose.proofs.Places.{beyond_known, first_known, none_known, past_known}
use Rattle.pc_choose.proofs.able.first_able.Goals as goal

pub returns-then-first-len : goal.returns-then-first-len
returns-then-first-len c =
    let l : length c.args.marks.now ≤ c.args.first = omega arith in
    beyond_known c.args._machine.now.configuration c.args.marks.now c.requires.known c.args.first c.args.end l

pub returns-in-None : goal.returns-in-None
returns-in-None c = none_known c.args._machine.now.configuration c.args.marks.now c.requires.known c.args.first c.args.end c.rank.result c.rank.ensures c.in-None.ensures.none

pub returns-then-place-end : goal.returns-then-place-end
returns-then-place-end c =
    first_known c.args._machine.now.configuration c.args.marks.now c.requires.known c.args.first c.args.end c.rank.result c.rank.ensures c.in-Some.place c.in-Some.ensures.some c.if-place-end.true

pub returns-else-place-end : goal.returns-else-place-end
returns-else-place-end c =
    past_known c.args._machine.now.configuration c.args.marks.now c.requires.known c.args.first c.args.end c.rank.result c.rank.ensures c.in-Some.place c.in-Some.ensures.some c.if-place-end.false
