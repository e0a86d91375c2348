use Rattle.std.proofs.{Common.{◌≡◌, ap, sym, ◌∙◌, arith}, lemmas.Bool.le-ltb, lemmas.Nat.Bits.bit_at_above}
use Rattle.std.specs.{Prelude.nat_eq, Int.bit_at}
use Rattle.pc_masks.proofs.mask.Mask.has.Goals as goal

pub returns-else-number-lt64 : goal.returns-else-number-lt64
returns-else-number-lt64 c =
    let above : bit_at c.args.self.0 c.args.number ≡ 0 = bit_at_above c.args.self.0 64 c.args.number (omega arith) (omega arith) in
    le-ltb c.args.number 64 (omega arith) ∙ sym (ap (λ n. nat_eq n 1) above)
