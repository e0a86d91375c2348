use Rattle.std.proofs.{Common.{ap, sym, arith}, lemmas.Nat.Bits.bit_at_above}
use Rattle.std.specs.{Int.bit_at, Prelude.{◌≡◌, nat_eq}}
use Rattle.pc_explain.proofs.setting.is_set.Goals as goal

pub returns-in-Err : goal.returns-in-Err
returns-in-Err c =
    let above : bit_at c.args.set.0 c.args.index ≡ 0 = bit_at_above c.args.set.0 64 c.args.index (omega arith) (omega arith) in
    sym (ap (λ n. nat_eq n 1) above)
