use Rattle.std.proofs.{Common.{◌∙◌, ap, length, sym, arith}, lemmas.List.length_push}
use Rattle.pc_semantics.specs.declared.ahead.Ahead.{Ahead}
use Rattle.pc_choose.specs.Marks.{marks_by}
use Rattle.pc_choose.proofs.Places.{marks_sum}
use Rattle.pc_choose.proofs.able.note_others.Goals as goal

pub push-requires-clause-few : goal.push-requires-clause-few
push-requires-clause-few c =
    let n = sym (ap (λ (a : Ahead). length (marks_by a c.args.marks.now)) c.in-Spawn.is) ∙ c.requires.count in
    let p = length_push c.args.marks.now 1 in
    let s = marks_sum c.args.marks.now c.requires.marks in
    omega (arith, n, p, s, c.ranges.actors.fits)
