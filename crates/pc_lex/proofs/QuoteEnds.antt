-- The end of a text literal, at an index and by the definition.
use Rattle.std.proofs.{Common.{◌≡◌, ℕ, ◌+◌, ◌<◌, ◌≤◌, Bool, true, false, cond, ◌==◌, List, [], ◌∷◌, ◌++◌, length, get_or, drop, Some, None, refl, sym, ap, ap₂, ◌∙◌, arith, drop-drop}, lemmas.List.{drop_more, drop_all}, lemmas.Bool.eqb-true, lemmas.Bool.Decides.nat_tests}
use Rattle.pc_lex.specs.{Pieces.{is_plain, BetweenQuotes, nothing, plain, covered}, TextReading.{text_behind, width}}

one : (b : ℕ) (bs : List ℕ) → text_behind (b ∷ bs) ≡ cond (b == 34) (Some bs) (text_behind (drop (width b) (b ∷ bs)))
unfolding text_behind
one b [] = single b (b == 34) (b == 92)
  where
    single : (b : ℕ) (s t : Bool) → cond s (Some []) None ≡ cond s (Some []) (text_behind (drop (cond t 2 1) (b ∷ [])))
    single b true t = refl
    single b false true = refl
    single b false false = refl
one b (c ∷ bs) = double b c bs (b == 34) (b == 92)
  where
    double : (b c : ℕ) (bs : List ℕ) (s t : Bool) → cond s (Some (c ∷ bs)) (cond t (text_behind bs) (text_behind (c ∷ bs))) ≡ cond s (Some (c ∷ bs)) (text_behind (drop (cond t 2 1) (b ∷ c ∷ bs)))
    double b c bs true t = refl
    double b c bs false true = refl
    double b c bs false false = refl

pub behind_step : (text : List ℕ) (at : ℕ) → at < length text → text_behind (drop at text) ≡ cond (get_or text at 0 == 34) (Some (drop (at + 1) text)) (text_behind (drop (at + width (get_or text at 0)) text))
behind_step text at within =
    let b = get_or text at 0 in
    let here : drop at text ≡ b ∷ drop (at + 1) text = drop_more text at 0 within in
    let on : drop (width b) (b ∷ drop (at + 1) text) ≡ drop (at + width b) text = ap (λ l. drop (width b) l) (sym here) ∙ drop-drop (width b) at text in
    ap text_behind here ∙ one b (drop (at + 1) text) ∙ ap (λ l. cond (b == 34) (Some (drop (at + 1) text)) (text_behind l)) on

pub behind_none : (text : List ℕ) (at : ℕ) → length text ≤ at → text_behind (drop at text) ≡ None
unfolding text_behind
behind_none text at past = ap text_behind (drop_all at text past)

plain_step : (b : ℕ) → is_plain b ≡ true → ((b == 34) ≡ false) × (width b ≡ 1)
plain_step b e = (grind (arith, nat_tests), grind (arith, nat_tests))

-- a text literal ends where reading finds its end
pub covered_behind : {body : List ℕ} → BetweenQuotes body → (rest : List ℕ) → text_behind (body ++ 34 ∷ rest) ≡ Some rest
covered_behind nothing rest = one 34 rest
covered_behind (plain {b = b} {bs = bs} e h) rest =
    let s = plain_step b e in
    one b (bs ++ 34 ∷ rest) ∙ (rw (s.0, s.1) (covered_behind h rest))
covered_behind (covered {b = b} {bs = bs} h) rest = one 92 (b ∷ (bs ++ 34 ∷ rest)) ∙ covered_behind h rest

abbrev Body : List ℕ → List ℕ → Type 0
Body text rest = (body : List ℕ) × (text ≡ body ++ 34 ∷ rest) × BetweenQuotes body

body_step : (b : ℕ) (c : ℕ) (bs rest : List ℕ) (s t : Bool) → (b == 34) ≡ s → (b == 92) ≡ t → cond s (Some (c ∷ bs)) (cond t (text_behind bs) (text_behind (c ∷ bs))) ≡ Some rest
    → (text_behind bs ≡ Some rest → Body bs rest) → (text_behind (c ∷ bs) ≡ Some rest → Body (c ∷ bs) rest) → Body (b ∷ c ∷ bs) rest
body_step b c bs rest true t e1 e2 e skip more =
    let same : c ∷ bs ≡ rest = cc in
    ([], ap₂ (λ x l. x ∷ l) (eqb-true b 34 e1) same, nothing)
body_step b c bs rest false true e1 e2 e skip more =
    let h = skip e in
    (92 ∷ c ∷ h.0, ap₂ (λ x l. x ∷ c ∷ l) (eqb-true b 92 e2) h.1, covered h.2)
body_step b c bs rest false false e1 e2 e skip more =
    let h = more e in
    (b ∷ h.0, ap (λ l. b ∷ l) h.1, plain (rw (e1, e2) refl) h.2)

last_step : (b : ℕ) (rest : List ℕ) (s : Bool) → (b == 34) ≡ s → cond s (Some []) None ≡ Some rest → Body (b ∷ []) rest
last_step b rest true e1 e = let same : [] ≡ rest = cc in ([], ap₂ (λ x l. x ∷ l) (eqb-true b 34 e1) same, nothing)
last_step b rest false e1 e = let bad : ⊥ = cc in absurd bad

pub behind_covered : (text rest : List ℕ) → text_behind text ≡ Some rest → Body text rest
unfolding text_behind
behind_covered [] rest e = let bad : ⊥ = cc in absurd bad
behind_covered (b ∷ []) rest e = last_step b rest (b == 34) refl e
behind_covered (b ∷ c ∷ bs) rest e = body_step b c bs rest (b == 34) (b == 92) refl refl e (behind_covered bs rest) (behind_covered (c ∷ bs) rest)
