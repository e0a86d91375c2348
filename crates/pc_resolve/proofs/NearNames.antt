-- A row, cut behind the elements that are looked through.
use Rattle.std.proofs.{Common.{◌≡◌, ℕ, List, length, take, drop, min}, lemmas.List.{take_min, drop_min}}

pub taken : {T : Type 0} → (n : ℕ) (row : List T) → take (min n (length row)) row ≡ take n row
taken n row = take_min n row

pub dropped : {T : Type 0} → (n : ℕ) (row : List T) → drop (min n (length row)) row ≡ drop n row
dropped n row = drop_min n row
