-- The least number that passes, searched one by one.
use Rattle.std.proofs.Common.{◌≡◌, ◌<◌, ◌≤◌, ◌+◌, ◌-◌, ℕ, suc, Bool, true, false, cond, refl, ap, arith}
use Rattle.pc_base.specs.Limits.{field_limit, slot_limit}
use Rattle.pc_masks.specs.declared.mask.Mask.{Mask}
use Rattle.pc_explain_sentences.specs.Slots.{differs, is_lost, least}

next : (p : ℕ → Bool) (top k : ℕ) → k < top → p k ≡ false → least p (top - k) k ≡ least p (top - (k + 1)) (k + 1)
next p top k l e =
    let left : top - k ≡ suc (top - (k + 1)) = omega (arith, l) in
    rw left (ap (λ b. cond b k (least p (top - (k + 1)) (k + 1))) e)

here : (p : ℕ → Bool) (top k : ℕ) → k < top → p k ≡ true → least p (top - k) k ≡ k
here p top k l e =
    let left : top - k ≡ suc (top - (k + 1)) = omega (arith, l) in
    rw left (ap (λ b. cond b k (least p (top - (k + 1)) (k + 1))) e)

none : (p : ℕ → Bool) (top k : ℕ) → top ≤ k → least p (top - k) k ≡ 0
none p top k e =
    let left : top - k ≡ 0 = omega (arith, e) in
    rw left refl

pub lost_next : (before after : Mask) (k : ℕ) → k < slot_limit → is_lost before after k ≡ false → least (is_lost before after) (slot_limit - k) k ≡ least (is_lost before after) (slot_limit - (k + 1)) (k + 1)
lost_next before after k l e = next (is_lost before after) slot_limit k l e

pub lost_here : (before after : Mask) (k : ℕ) → k < slot_limit → is_lost before after k ≡ true → least (is_lost before after) (slot_limit - k) k ≡ k
lost_here before after k l e = here (is_lost before after) slot_limit k l e

pub lost_none : (before after : Mask) (k : ℕ) → slot_limit ≤ k → least (is_lost before after) (slot_limit - k) k ≡ 0
lost_none before after k e = none (is_lost before after) slot_limit k e

pub differs_next : (before after : Mask) (k : ℕ) → k < field_limit → differs before after k ≡ false → least (differs before after) (field_limit - k) k ≡ least (differs before after) (field_limit - (k + 1)) (k + 1)
differs_next before after k l e = next (differs before after) field_limit k l e

pub differs_here : (before after : Mask) (k : ℕ) → k < field_limit → differs before after k ≡ true → least (differs before after) (field_limit - k) k ≡ k
differs_here before after k l e = here (differs before after) field_limit k l e

pub differs_none : (before after : Mask) (k : ℕ) → field_limit ≤ k → least (differs before after) (field_limit - k) k ≡ 0
differs_none before after k e = none (differs before after) field_limit k e
