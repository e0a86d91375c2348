use Rattle.std.proofs.{Common.{rules, ◌≡◌, ◌↔◌, ℕ, ◌+◌, ◌∷◌, ◌++◌, [], length, sym, subst, arith}, lemmas.List.length_push}
use Rattle.std.specs.Prelude.{List}
use Rattle.pc_masks.specs.{Masks.IsInMask, declared.mask.Mask.Mask}
use Rattle.pc_core.specs.EntitySets.{mask_at}
use Rattle.pc_core.proofs.EntitySets.{MetTo, met_push, met_all}
use Rattle.pc_core.proofs.entity_set.meet_masks.Goals as goal

pub loop-place-preserved : goal.loop-place-preserved
loop-place-preserved c =
    let first = c.args.first.now in
    let second = c.args.second.now in
    let n = c.loop-place.place in
    let long = length_push c.loop-place.masks c.meet.result in
    let before = c.loop-place.invariant.long in
    let pushed : c.push.new.self ≡ c.loop-place.masks ++ c.meet.result ∷ [] = c.in_ok-push.ensures.ok in
    let here : (j : ℕ) → (IsInMask c.meet.result j) ↔ (IsInMask (mask_at first n) j × IsInMask (mask_at second n) j) = search rules in
    record {
      long = subst (λ (ms : List Mask). length ms ≡ n + 1) (sym pushed) (omega (arith, long, before));
      met = subst (λ (ms : List Mask). MetTo first second ms (n + 1)) (sym pushed) (met_push first second c.loop-place.masks n c.meet.result before c.loop-place.invariant.met here);
    }

pub returns : goal.returns
returns c =
    let high = c.loop-place-test.false in
    let all = c.len-place-end.ensures in
    met_all c.args.first.now c.args.second.now c.loop-place.masks c.loop-place.place c.loop-place.invariant.long (omega (arith, high, all)) c.loop-place.invariant.met
