use Rattle.std.proofs.{Common.{◌+◌, ◌-◌, ◌/◌, ◌<◌, ◌≤◌, length, refl, sym, subst, arith}, lemmas.Option.slice_get_read}
use Rattle.pc_token.specs.declared.kinds.Token.{Token}
use Rattle.pc_places.proofs.Searching.{lower_half, upper_half, middle_below}
use Rattle.pc_places.proofs.locals.count_until.Goals as goal

pub loop-low-preserved-then-tokens-middle : goal.loop-low-preserved-then-tokens-middle
loop-low-preserved-then-tokens-middle c =
    let tokens = c.args.tokens.now in
    let middle = c.loop-low.low + (c.loop-low.high - c.loop-low.low) / 2 in
    let below = middle_below c.loop-low.low c.loop-low.high c.loop-low-test.true in
    let within = c.loop-low.invariant.within in
    let is = slice_get_read tokens (length tokens) middle c.index-tokens-middle.result refl (omega (arith, below, within)) c.index-tokens-middle.is in
    record {
      ordered = omega (arith, below);
      within = within;
      before = lower_half tokens c.requires c.args.place middle c.index-tokens-middle.result is (subst (λ (t : Token). t.span.start ≤ c.args.place) (sym c.index-tokens-middle.is) c.if-tokens-middle.true);
      after = c.loop-low.invariant.after;
    }

pub loop-low-preserved : goal.loop-low-preserved
loop-low-preserved c =
    let tokens = c.args.tokens.now in
    let middle = c.loop-low.low + (c.loop-low.high - c.loop-low.low) / 2 in
    let below = middle_below c.loop-low.low c.loop-low.high c.loop-low-test.true in
    let within = c.loop-low.invariant.within in
    let is = slice_get_read tokens (length tokens) middle c.index-tokens-middle.result refl (omega (arith, below, within)) c.index-tokens-middle.is in
    record {
      ordered = omega arith;
      within = omega (arith, below, within);
      before = c.loop-low.invariant.before;
      after = upper_half tokens c.requires c.args.place middle c.index-tokens-middle.result is (subst (λ (t : Token). c.args.place < t.span.start) (sym c.index-tokens-middle.is) c.if-tokens-middle.false);
    }
