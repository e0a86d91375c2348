use Rattle.std.proofs.{Common.{sym, arith}, lemmas.Option.slice_get_within}
use Rattle.pc_choose.proofs.Places.{marks_room}
use Rattle.pc_choose.proofs.able.put_mark.Goals as goal

pub set-requires-clause-few : goal.set-requires-clause-few
set-requires-clause-few c =
    let l = slice_get_within c.args.marks.now c.args.actor c.in-Some.old (sym c.in-Some.ensures) in
    let r = marks_room c.args.marks.now c.args.actor c.requires.marks l in
    omega (arith, r, c.requires.one, c.requires.few)
