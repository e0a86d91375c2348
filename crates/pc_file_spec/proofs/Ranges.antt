-- The middle of a list.
use Rattle.std.proofs.Common.{◌≡◌, ℕ, ◌+◌, ◌-◌, List, ◌++◌, length, take, ap, ◌∙◌, arith}
use Rattle.std.specs.Prelude.{slice_range}
use Rattle.pc_base.proofs.Cuts.{drop_front, take_front}

pub range_middle : {T : Type 0} → (xs ys zs : List T) (last : ℕ) → last ≡ length xs + length ys → slice_range (xs ++ (ys ++ zs)) (length xs) last ≡ ys
range_middle xs ys zs last e =
    let n : last - length xs ≡ length ys = omega (arith, e) in
    ap (take (last - length xs)) (drop_front xs (ys ++ zs)) ∙ ap (λ k. take k (ys ++ zs)) n ∙ take_front ys zs
