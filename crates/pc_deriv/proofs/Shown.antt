-- What is written for a mask after a node.
use Rattle.std.proofs.{Common.{◌≡◌, refl, sym, ap, ◌∙◌}, lemmas.Nat.xor_lt}
use Rattle.std.specs.{Prelude.bit_xor, Int.Bits.{xor_assoc, xor_self, xor_zero_l}}
use Rattle.pc_masks.specs.declared.mask.Mask.{Mask}
use Rattle.pc_deriv.specs.{declared.version.Version.Version, Text.{shown_after, MaskFits}}
use Rattle.pc_deriv.specs.declared.version.Version.TheVariants as version

-- applied to what is written, it gives the mask
pub shown_twice : (v : Version) (before after : Mask) → shown_after v before (shown_after v before after) ≡ after
shown_twice version.One before after = refl
shown_twice version.Two before after =
    let a = before.0 in
    let b = after.0 in
    let same : bit_xor a (bit_xor a b) ≡ b = sym (xor_assoc a a b) ∙ ap (λ x. bit_xor x b) (xor_self a) ∙ xor_zero_l b in
    (λ i. record { 0 = same i })

pub shown_fits : (v : Version) (before after : Mask) → MaskFits before → MaskFits after → MaskFits (shown_after v before after)
shown_fits version.One before after p q = q
shown_fits version.Two before after p q = xor_lt 64 before.0 after.0 p q
