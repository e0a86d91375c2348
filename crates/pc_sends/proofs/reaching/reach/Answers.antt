use Rattle.std.proofs.Common.{length, ap, sym, arith}
use Rattle.pc_sends.proofs.{Closing.{found_next, nothing_left, all_turns}, Walking.known_none}
use Rattle.pc_sends.proofs.reaching.reach.Goals as goal

pub returns-in-None : goal.returns-in-None
returns-in-None c = nothing_left c.args.noted.now.core.now c.args.noted.now.entities.now c.loop-at.at c.loop-at.walk.found c.loop-at.invariant.found (sym c.in-None.ensures)

pub loop-at-init : goal.loop-at-init
loop-at-init c = record { found = c.in_ok-walk.ensures.found; known = known_none _ _ _ c.in_ok-walk.ensures.calls }

pub loop-at-preserved : goal.loop-at-preserved
loop-at-preserved c = record {
  found = found_next c.args.noted.now.core.now c.args.noted.now.entities.now c.loop-at.at c.in-Some.number c.loop-at.walk.found c.see_method.new.self.found c.loop-at.invariant.found (sym c.in-Some.ensures) c.in_ok-see_method-in-Some.ensures.grown;
  known = c.in_ok-see_method-in-Some.ensures.known;
}

pub returns : goal.returns
returns c =
    let high = c.loop-at-test.false in
    let same = ap length c.methods-at-end.ensures in
    all_turns c.args.noted.now.core.now c.args.noted.now.entities.now c.loop-at.at c.loop-at.walk.found c.formed.ensures c.loop-at.invariant.found (omega (arith, high, same))
