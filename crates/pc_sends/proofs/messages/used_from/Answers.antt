use Rattle.std.proofs.Common.{◌≡◌, ℕ, [], sym, subst, arith}
use Rattle.pc_sends.specs.{Growth.{Grown, TurnsBelow}, Reached.ReachedUses}
use Rattle.pc_sends.proofs.{Grows.{grown_none, grown_turn}, Walking.known_none}
use Rattle.pc_sends.proofs.messages.used_from.Goals as goal

pub loop-number-init : goal.loop-number-init
loop-number-init c = record {
  grown =
      let Q = ReachedUses c.args.noted.now.core.now c.args.noted.now.entities.now in
      subst (Grown (TurnsBelow Q c.args.first c.args.first) []) (sym c.new-walk.ensures.found) (grown_none Q c.args.first []);
  known = known_none _ _ _ c.new-walk.ensures.calls;
}

pub loop-number-preserved : goal.loop-number-preserved
loop-number-preserved c = record {
  grown =
      grown_turn (ReachedUses c.args.noted.now.core.now c.args.noted.now.entities.now) c.args.first c.loop-number.number [] c.loop-number.walk.found c.see_reached.new.walk.found
      c.loop-number.auto.number c.loop-number.invariant.grown c.in_ok-see_reached.ensures.grown;
  known = c.in_ok-see_reached.ensures.known;
}

pub returns : goal.returns
returns c =
    let high = c.loop-number-test.false in
    let low = c.loop-number.auto.number-end in
    let ordered = c.requires.ordered in
    let same : c.loop-number.number ≡ c.args.end = omega (arith, high, low ordered) in
    subst (λ (n : ℕ). Grown (TurnsBelow (ReachedUses c.args.noted.now.core.now c.args.noted.now.entities.now) c.args.first n) [] c.loop-number.walk.found) same c.loop-number.invariant.grown
