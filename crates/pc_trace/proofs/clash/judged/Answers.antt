use Rattle.std.proofs.Common.{ℕ, ◌<◌, ◌≤◌, length, arith}
use Rattle.pc_trace.proofs.Clashing.{known_next, found_below, first_found, touch_there}
use Rattle.pc_trace.proofs.clash.judged.Goals as goal

less_to : (n l a : ℕ) → n < l → l ≤ a → n < a
less_to n l a p q = omega (arith, p, q)

pub bounds-touches-before : goal.bounds-touches-before
bounds-touches-before c = found_below c.args.touches.now c.loop-at.at c.loop-at-test.true c.in_ok-before.field-0 c.in_ok-before.ensures.found c.in-Some.before c.in-Some.is

pub bounds-touches-before-in-Some : goal.bounds-touches-before-in-Some
bounds-touches-before-in-Some c = found_below c.args.touches.now c.loop-at.at c.loop-at-test.true c.in_ok-before.field-0 c.in_ok-before.ensures.found c.in-Some.before c.in-Some.is

pub offset_bounds-touches-before : goal.offset_bounds-touches-before
offset_bounds-touches-before c =
    let below = found_below c.args.touches.now c.loop-at.at c.loop-at-test.true c.in_ok-before.field-0 c.in_ok-before.ensures.found c.in-Some.before c.in-Some.is in
    omega (arith, below, c.requires.few)

pub returns-in-Some : goal.returns-in-Some
returns-in-Some c =
    let l = c.args.touches.now in
    let below = found_below l c.loop-at.at c.loop-at-test.true c.in_ok-before.field-0 c.in_ok-before.ensures.found c.in-Some.before c.in-Some.is in
    first_found l c.loop-at.at c.loop-at-test.true c.in_ok-before.field-0 c.in_ok-before.ensures.found c.in-Some.before c.in-Some.is c.loop-at.invariant.known _ _
    (touch_there l c.in-Some.before c.index-touches-before.result below) (touch_there l c.loop-at.at c.index-touches-at.result c.loop-at-test.true)

pub loop-at-preserved : goal.loop-at-preserved
loop-at-preserved c = record {
  known = known_next c.args.touches.now c.loop-at.at c.loop-at-test.true c.in_ok-before.field-0 c.in_ok-before.ensures.found c.in-None.is c.loop-at.invariant.known;
  covers = c.in_ok-before.ensures.covers;
}

pub returns : goal.returns
returns c n p b = c.loop-at.invariant.known n p (less_to n (length c.args.touches.now) c.loop-at.at b c.loop-at-test.false)
