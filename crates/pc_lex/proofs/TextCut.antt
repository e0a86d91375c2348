-- The length of a text literal, from where its closing quote is.
use Rattle.std.proofs.Common.{◌≡◌, ℕ, ◌+◌, ◌-◌, ◌<◌, List, length, take, drop, Some, sym, ap, ap₂, ◌∙◌, arith, length-drop}
use Rattle.pc_lex.specs.{TextReading.{text_behind, unescape}, Reading.{text_at, text_or, value_or}}

pub text_found : (text : List ℕ) (n : ℕ) → n < length (drop 1 text) → Some (drop (n + 1) (drop 1 text)) ≡ text_behind (drop 1 text) → text_at text ≡ value_or (n + 2) (unescape (take n (drop 1 text)))
unfolding text_at
text_found text n within is =
    let size : length text - length (drop (n + 1) (drop 1 text)) ≡ n + 2 = omega (arith, within, length-drop 1 text, length-drop (n + 1) (drop 1 text)) in
    let inner : length text - length (drop (n + 1) (drop 1 text)) - 2 ≡ n = omega (arith, size) in
    ap (text_or text) (sym is) ∙ ap₂ (λ m k. value_or m (unescape (take k (drop 1 text)))) size inner
