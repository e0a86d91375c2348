-- The end of a comment, at an index.
use Rattle.std.proofs.{Common.{◌≡◌, ℕ, zero, suc, ◌+◌, ◌-◌, ◌<◌, ◌≤◌, cond, ◌&&◌, ◌==◌, List, [], ◌∷◌, length, get_or, drop, Some, None, refl, ap, ◌∙◌, arith, length-drop}, lemmas.List.drop_more}
use Rattle.pc_lex.specs.Reading.{behind}

-- one step of `behind`, at two bytes
two : (n : ℕ) (b c : ℕ) (bs : List ℕ) → 0 < n → behind n (b ∷ c ∷ bs) ≡ cond (b == 47 && c == 42) (behind (n + 1) bs) (cond (b == 42 && c == 47) (behind (n - 1) bs) (behind n (c ∷ bs)))
unfolding behind
two zero b c bs some = absurd (omega arith)
two (suc n) b c bs some =
    let more : suc n + 1 ≡ suc (suc n) = omega arith in
    let less : suc n - 1 ≡ n = omega arith in
    rw (more, less)

pub behind_step : (n : ℕ) (text : List ℕ) (at : ℕ) → 0 < n → at + 1 < length text
    → behind n (drop at text) ≡ cond (get_or text at 0 == 47 && get_or text (at + 1) 0 == 42) (behind (n + 1) (drop (at + 2) text)) (cond (get_or text at 0 == 42 && get_or text (at + 1) 0 == 47) (behind (n - 1) (drop (at + 2) text)) (behind n (drop (at + 1) text)))
behind_step n text at some within =
    let one : drop at text ≡ get_or text at 0 ∷ drop (at + 1) text = drop_more text at 0 (omega arith) in
    let two_more : drop (at + 1) text ≡ get_or text (at + 1) 0 ∷ drop (at + 1 + 1) text = drop_more text (at + 1) 0 within in
    let same : at + 1 + 1 ≡ at + 2 = omega arith in
    let whole : drop at text ≡ get_or text at 0 ∷ get_or text (at + 1) 0 ∷ drop (at + 2) text = one ∙ ap (λ l. get_or text at 0 ∷ l) (two_more ∙ ap (λ i. get_or text (at + 1) 0 ∷ drop i text) same) in
    let rest : drop (at + 1) text ≡ get_or text (at + 1) 0 ∷ drop (at + 2) text = two_more ∙ ap (λ i. get_or text (at + 1) 0 ∷ drop i text) same in
    rw (whole, two n (get_or text at 0) (get_or text (at + 1) 0) (drop (at + 2) text) some, rest) refl

short : (n : ℕ) (text : List ℕ) → 0 < n → length text ≤ 1 → behind n text ≡ None
unfolding behind
short zero text some h = absurd (omega arith)
short (suc n) [] some h = refl
short (suc n) (b ∷ []) some h = refl
short (suc n) (b ∷ c ∷ bs) some h = absurd (omega arith)

pub behind_none : (n : ℕ) (text : List ℕ) (at : ℕ) → 0 < n → length text ≤ at + 1 → behind n (drop at text) ≡ None
behind_none n text at some h = short n (drop at text) some (omega (arith, length-drop at text))

pub behind_all : (text : List ℕ) → behind 0 text ≡ Some text
unfolding behind
behind_all text = refl
