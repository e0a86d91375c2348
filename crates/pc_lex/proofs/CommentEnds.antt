-- Comments end where reading finds their end.
use Rattle.std.proofs.{Common.{◌≡◌, ℕ, zero, suc, ◌+◌, ◌-◌, ◌<◌, ◌≤◌, Bool, true, false, cond, ◌&&◌, ◌==◌, List, [], ◌∷◌, ◌++◌, length, get_or, take, drop, Some, refl, sym, ap, ap₂, ◌∙◌, subst, inl, inr, arith, length-append, append_assoc, drop_at, take-append-drop}, lemmas.Bool.{and_parts, eqb-true}, lemmas.Bool.Decides.nat_tests}
use Rattle.std.specs.List.{prefix_len}
use Rattle.pc_lex.specs.{Pieces.{is_line, begins, ClosesComment, close, inner, other, AtLineEnd, IsGap}, Parts.{open_mark, line_mark}, Reading.behind}
use Rattle.pc_lex.proofs.Runs.{begins_cut}
use Rattle.pc_base.proofs.{Prefixes.run_all, Options.none_some}

eq_sym : (a b : ℕ) → (a == b) ≡ (b == a)
eq_sym a b = grind (arith, nat_tests)

and_true : (t : Bool) → (t && true) ≡ t
and_true true = refl
and_true false = refl

pair : (b c x y : ℕ) (bs : List ℕ) → begins (b ∷ c ∷ bs) (x ∷ y ∷ []) ≡ (b == x && c == y)
pair b c x y bs = rw (and_true (y == c), eq_sym x b, eq_sym y c) refl

and_false : (t : Bool) → (t && false) ≡ false
and_false true = refl
and_false false = refl

-- `/` and another byte, in a text of one byte and in a longer one
pub slash_one : (text : List ℕ) (second : ℕ) → length text ≡ 1 → begins text (47 ∷ second ∷ []) ≡ false
slash_one [] second e = absurd (omega (arith, e))
slash_one (b ∷ []) second e = and_false (47 == b)
slash_one (b ∷ c ∷ bs) second e = absurd (omega (arith, e))

pub slash_two : (text : List ℕ) (second : ℕ) → 1 < length text → begins text (47 ∷ second ∷ []) ≡ (get_or text 0 0 == 47 && get_or text 1 0 == second)
slash_two [] second some = absurd (omega (arith, some))
slash_two (b ∷ []) second some = absurd (omega (arith, some))
slash_two (b ∷ c ∷ bs) second some = pair b c 47 second bs

pub closes_some : {text rest : List ℕ} → ClosesComment text rest → text ≡ [] → ⊥
closes_some close e = cc
closes_some (inner h more) e = cc
closes_some (other no_open no_close h) e = cc

pub closes_behind : {text rest : List ℕ} → ClosesComment text rest → (n : ℕ) → behind (suc n) text ≡ behind n rest
unfolding behind
closes_behind close n = refl
closes_behind (inner h more) n = closes_behind h (suc n) ∙ closes_behind more n
closes_behind (other {text = []} no_open no_close h) n = absurd (closes_some h refl)
closes_behind (other {b = b} {text = c ∷ bs} no_open no_close h) n =
    rw (sym (pair b c 47 42 bs) ∙ no_open, sym (pair b c 42 47 bs) ∙ no_close) (closes_behind h n)

-- this number of comments end, one after the other
abbrev pub ClosesAll : ℕ → List ℕ → List ℕ → Type 0
ClosesAll zero text rest = text ≡ rest
ClosesAll (suc n) text rest = (mid : List ℕ) × ClosesComment text mid × ClosesAll n mid rest

all_step : (n b c : ℕ) (bs rest : List ℕ) (s t : Bool) → (b == 47 && c == 42) ≡ s → (b == 42 && c == 47) ≡ t
    → cond s (behind (suc (suc n)) bs) (cond t (behind n bs) (behind (suc n) (c ∷ bs))) ≡ Some rest
    → (behind (suc (suc n)) bs ≡ Some rest → ClosesAll (suc (suc n)) bs rest)
    → (behind n bs ≡ Some rest → ClosesAll n bs rest)
    → (behind (suc n) (c ∷ bs) ≡ Some rest → ClosesAll (suc n) (c ∷ bs) rest)
    → ClosesAll (suc n) (b ∷ c ∷ bs) rest
all_step n b c bs rest true t opens e2 e deep out more =
    let h = deep e in
    let (x, y) = and_parts (b == 47) (c == 42) opens in
    let same : 47 ∷ 42 ∷ bs ≡ b ∷ c ∷ bs = ap₂ (λ p q. p ∷ q ∷ bs) (sym (eqb-true b 47 x)) (sym (eqb-true c 42 y)) in
    (h.2.0, subst (λ l. ClosesComment l h.2.0) same (inner h.1 h.2.1), h.2.2)
all_step n b c bs rest false true e1 closes e deep out more =
    let (x, y) = and_parts (b == 42) (c == 47) closes in
    let same : 42 ∷ 47 ∷ bs ≡ b ∷ c ∷ bs = ap₂ (λ p q. p ∷ q ∷ bs) (sym (eqb-true b 42 x)) (sym (eqb-true c 47 y)) in
    (bs, subst (λ l. ClosesComment l bs) same close, out e)
all_step n b c bs rest false false e1 e2 e deep out more =
    let h = more e in
    (h.0, other (pair b c 47 42 bs ∙ e1) (pair b c 42 47 bs ∙ e2) h.1, h.2)

pub behind_closes : (n : ℕ) (text rest : List ℕ) → behind n text ≡ Some rest → ClosesAll n text rest
unfolding behind
behind_closes zero text rest e = cc
behind_closes (suc n) [] rest e = absurd (none_some e)
behind_closes (suc n) (b ∷ []) rest e = absurd (none_some e)
behind_closes (suc n) (b ∷ c ∷ bs) rest e =
    all_step n b c bs rest (b == 47 && c == 42) (b == 42 && c == 47) refl refl e (behind_closes (suc (suc n)) bs rest) (behind_closes n bs rest) (behind_closes (suc n) (c ∷ bs) rest)

pub closes_suffix : {text rest : List ℕ} → ClosesComment text rest → (pre : List ℕ) × (text ≡ pre ++ rest)
closes_suffix close = (42 ∷ 47 ∷ [], refl)
closes_suffix (inner h more) =
    let one = closes_suffix h in
    let two = closes_suffix more in
    (47 ∷ 42 ∷ (one.0 ++ two.0), ap (λ l. 47 ∷ 42 ∷ l) (one.1 ∙ ap (λ l. one.0 ++ l) two.1 ∙ sym (append_assoc one.0 two.0 _)))
closes_suffix (other {b = b} no_open no_close h) = let one = closes_suffix h in (b ∷ one.0, ap (λ l. b ∷ l) one.1)

-- the text after its first bytes
pub behind_word : (text word : List ℕ) → begins text word ≡ true → text ≡ word ++ drop (length word) text
behind_word text word e = sym (take-append-drop (length word) text) ∙ ap (λ l. l ++ drop (length word) text) (begins_cut text word e)

stops_step : (b : ℕ) (bs : List ℕ) (t : Bool) → is_line b ≡ t → AtLineEnd (drop (prefix_len is_line bs) bs) → AtLineEnd (drop (cond t (1 + prefix_len is_line bs) 0) (b ∷ bs))
stops_step b bs true e more = let one : 1 + prefix_len is_line bs ≡ suc (prefix_len is_line bs) = omega arith in rw one more
stops_step b bs false e more = grind (arith, nat_tests)

line_stops : (bs : List ℕ) → AtLineEnd (drop (prefix_len is_line bs) bs)
line_stops [] = tt
line_stops (b ∷ bs) = stops_step b bs (is_line b) refl (line_stops bs)

pub line_gap : (text : List ℕ) → begins text line_mark ≡ true → IsGap (take (2 + prefix_len is_line (drop 2 text)) text) (drop (2 + prefix_len is_line (drop 2 text)) text)
line_gap text is =
    let t = drop 2 text in
    let n = prefix_len is_line t in
    let whole : text ≡ 47 ∷ 47 ∷ t = behind_word text line_mark is in
    let count : 2 + n ≡ suc (suc n) = omega arith in
    let front : take (2 + n) text ≡ 47 ∷ 47 ∷ take n t = ap₂ (λ m l. take m l) count whole in
    let back : drop (2 + n) text ≡ drop n t = ap₂ (λ m l. drop m l) count whole in
    inr (inl (take n t, front, run_all is_line t, subst AtLineEnd (sym back) (line_stops t)))

pub block_gap : (text rest : List ℕ) → begins text open_mark ≡ true → behind 1 (drop 2 text) ≡ Some rest
    → (length text - length rest ≤ length text) × (0 < length text - length rest) × IsGap (take (length text - length rest) text) (drop (length text - length rest) text)
block_gap text rest is read =
    let t = drop 2 text in
    let all = behind_closes 1 t rest read in
    let closes : ClosesComment t rest = subst (λ r. ClosesComment t r) all.2 all.1 in
    let cut = closes_suffix closes in
    let whole : text ≡ 47 ∷ 42 ∷ t = behind_word text open_mark is in
    let parts : text ≡ (47 ∷ 42 ∷ cut.0) ++ rest = whole ∙ ap (λ l. 47 ∷ 42 ∷ l) cut.1 in
    let count : length text - length rest ≡ length (47 ∷ 42 ∷ cut.0) = omega (arith, ap length parts, length-append (47 ∷ 42 ∷ cut.0) rest) in
    let back : drop (length text - length rest) text ≡ rest = ap (λ l. drop (length text - length rest) l) parts ∙ drop_at (47 ∷ 42 ∷ cut.0) rest _ (sym count) in
    let same : take (length text - length rest) text ++ drop (length text - length rest) text ≡ 47 ∷ 42 ∷ t = take-append-drop (length text - length rest) text ∙ whole in
    (omega arith, omega (arith, count), inr (inr (t, same, subst (λ r. ClosesComment t r) (sym back) closes)))
