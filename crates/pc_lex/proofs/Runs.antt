-- Runs of bytes, and how a text begins.
use Rattle.std.proofs.{Common.{◌≡◌, ℕ, true, List, [], ◌∷◌, length, take, refl, sym, ap₂}, lemmas.Bool.{and_parts, true≢false, eqb-true}}
use Rattle.std.specs.{Prelude.nat_eq, List.starts_with}

pub begins_cut : (text word : List ℕ) → starts_with nat_eq text word ≡ true → take (length word) text ≡ word
begins_cut text [] e = refl
begins_cut [] (b ∷ word) e = absurd (true≢false (sym e))
begins_cut (a ∷ text) (b ∷ word) e =
    let (here, more) = and_parts (nat_eq b a) (starts_with nat_eq text word) e in
    ap₂ (λ h t. h ∷ t) (sym (eqb-true b a here)) (begins_cut text word more)
