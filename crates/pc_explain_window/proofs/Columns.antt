-- A column is within its front.
use Rattle.std.proofs.{Common.{◌≡◌, ◌≤◌, ◌-◌, ◌+◌, ℕ, List, length, reverse, arith}, lemmas.List.length-reverse, lemmas.List.Sums.prefix_len-le-length}
use Rattle.std.specs.List.{prefix_len}
use Rattle.pc_refusal_lines.specs.Lines.{is_in_line, column_number}

pub column_within : (front : List ℕ) → column_number front - 1 ≤ length front
column_within front =
    let within = prefix_len-le-length is_in_line (reverse front) in
    let same = length-reverse front in
    omega (arith, within, same)
