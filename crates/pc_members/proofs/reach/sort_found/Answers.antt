use Rattle.std.proofs.Common.{sym, ◌∙◌, arith}
use Rattle.pc_members.specs.Edges.{ascending}
use Rattle.pc_members.proofs.{Reaches.{found_goes, missed_goes}, reach.sort_found.Goals.{then-has+in_ok-push, else-has}}
use Rattle.pc_members.proofs.reach.sort_found.Goals as goal

pub loop-number-preserved : goal.loop-number-preserved
loop-number-preserved c =
    let found = c.args.found.now in
    let at = c.loop-number.number in
    elim c.if-has.branch [
      | then-has+in_ok-push w ↦ found_goes found (ascending found 0 c.args.count) c.loop-number.ascending c.if-has.ascending at c.args.count (omega (arith, c.loop-number-test.true)) c.loop-number.invariant (sym c.has.ensures ∙ w.if-has.true) (w.ascending-is ∙ w.in_ok-push.ensures.ok)
      | else-has w ↦ missed_goes found (ascending found 0 c.args.count) c.loop-number.ascending c.if-has.ascending at c.args.count (omega (arith, c.loop-number-test.true)) c.loop-number.invariant (sym c.has.ensures ∙ w.if-has.false) w.ascending-is
    ]
