-- What is read from a word is what it spells.
use Rattle.std.proofs.{Common.{◌≡◌, ℕ, ◌<◌, ◌≤◌, ◌^◌, ◌==◌, ◌||◌, Bool, true, false, cond, List, [], ◌∷◌, ◌++◌, length, take, drop, Option, Some, None, refl, sym, ap, ap₂, ◌∙◌, subst, inl, inr, arith, take_at, drop_at, take-append-drop, append-nil}, lemmas.Bool.eqb-true, lemmas.Bool.Decides.nat_tests, lemmas.List.{take_all, drop_all}, lemmas.Option.{none-some, same_Some}}
use Rattle.std.specs.{Prelude.nat_lt, List.{prefix_len, list_all}, Char.is_ascii_digit}
use Rattle.pc_sched.specs.{declared.turns.Turn.Turn, Schedules.{decimal_value, Number, SpellsTurn}, Reading.{no_digits, below, number_of, turn_with, turn_at, turn_of}}
use Rattle.pc_sched.proofs.Runs.{run_whole}
use Rattle.pc_base.proofs.Prefixes.{run_app}

-- all digits are read
all_read : (b : List ℕ) → list_all is_ascii_digit b ≡ true → prefix_len is_ascii_digit b ≡ length b
all_read b all = ap (prefix_len is_ascii_digit) (sym (append-nil b)) ∙ (omega (arith, run_app is_ascii_digit b [] all))

good : (n m : ℕ) → 0 < n → n ≤ 10 → m ≡ n → (n == 0 || nat_lt 10 n || nat_lt m n) ≡ false
good n m some few same = grind (arith, nat_tests)

pub number_read : (b : List ℕ) (n : ℕ) → Number b n → number_of b ≡ Some n
unfolding number_of
number_read b n h =
    let tested : no_digits b ≡ false = good (length b) (prefix_len is_ascii_digit b) h.some h.few (all_read b h.digits) in
    let small : nat_lt (decimal_value 0 b) (2 ^ 32) ≡ true = grind (arith, nat_tests, h.small, h.is) in
    ap (λ t. cond t None (below (decimal_value 0 b))) tested ∙ ap (λ t. cond t (Some (decimal_value 0 b)) None) small ∙ ap Some (sym h.is)

parts : (n m : ℕ) → (n == 0 || nat_lt 10 n || nat_lt m n) ≡ false → (0 < n) × (n ≤ 10) × (n ≤ m)
parts n m e = grind (arith, nat_tests)

number_cases : (b : List ℕ) (n : ℕ) (t u : Bool) → no_digits b ≡ t → nat_lt (decimal_value 0 b) (2 ^ 32) ≡ u → cond t None (cond u (Some (decimal_value 0 b)) None) ≡ Some n → Number b n
number_cases b n true u e f g = absurd (none-some n g)
number_cases b n false false e f g = absurd (none-some n g)
number_cases b n false true e f g =
    let p = parts (length b) (prefix_len is_ascii_digit b) e in
    let is : decimal_value 0 b ≡ n = same_Some (decimal_value 0 b) n g in
    let small : decimal_value 0 b < 2 ^ 32 = grind (arith, nat_tests, f) in
    record { some = p.0; few = p.1; digits = run_whole is_ascii_digit b p.2; is = sym is; small = subst (λ v. v < 2 ^ 32) is small }

pub number_sound : (b : List ℕ) (n : ℕ) → number_of b ≡ Some n → Number b n
unfolding number_of
number_sound b n e = number_cases b n (no_digits b) (nat_lt (decimal_value 0 b) (2 ^ 32)) refl refl e

pub turn_read : (b : List ℕ) (turn : Turn) → SpellsTurn b turn → turn_of b ≡ Some turn
unfolding turn_of
turn_read b turn (inl (number, one)) =
    let n : prefix_len is_ascii_digit b ≡ length b = all_read b number.digits in
    let all : take (prefix_len is_ascii_digit b) b ≡ b = ap (λ k. take k b) n ∙ take_all (length b) b (omega arith) in
    let nothing : drop (prefix_len is_ascii_digit b) b ≡ [] = ap (λ k. drop k b) n ∙ drop_all (length b) b (omega arith) in
    ap₂ turn_at (ap number_of all ∙ number_read b turn.actor number) nothing ∙ ap (λ t. Some record { actor = turn.actor; times = t }) (sym one)
turn_read b turn (inr (left, right, e, actor, times)) =
    let n : prefix_len is_ascii_digit b ≡ length left = ap (prefix_len is_ascii_digit) e ∙ (omega (arith, run_app is_ascii_digit left (42 ∷ right) actor.digits)) in
    let front : take (prefix_len is_ascii_digit b) b ≡ left = ap₂ take n e ∙ take_at left (42 ∷ right) (length left) refl in
    let behind : drop (prefix_len is_ascii_digit b) b ≡ 42 ∷ right = ap₂ drop n e ∙ drop_at left (42 ∷ right) (length left) refl in
    ap₂ turn_at (ap number_of front ∙ number_read left turn.actor actor) behind ∙ ap (turn_with turn.actor) (number_read right turn.times times)

star_cases : (b : List ℕ) (n actor x : ℕ) (xs : List ℕ) (turn : Turn) (t : Bool) (m : Option ℕ) → number_of (take n b) ≡ Some actor → drop n b ≡ x ∷ xs → (x == 42) ≡ t → number_of xs ≡ m → cond t (turn_with actor m) None ≡ Some turn → SpellsTurn b turn
star_cases b n actor x xs turn false m left rest star right e = absurd (none-some turn e)
star_cases b n actor x xs turn true None left rest star right e = absurd (none-some turn e)
star_cases b n actor x xs turn true (Some times) left rest star right e =
    let is : record { actor = actor; times = times } ≡ turn = same_Some (record { actor = actor; times = times }) turn e in
    let byte : x ≡ 42 = eqb-true x 42 star in
    let cut : b ≡ take n b ++ 42 ∷ xs = sym (take-append-drop n b) ∙ ap (λ l. take n b ++ l) (rest ∙ ap (λ c. c ∷ xs) byte) in
    subst (SpellsTurn b) is (inr (take n b, xs, cut, number_sound (take n b) actor left, number_sound xs times right))

turn_cases : (b : List ℕ) (n : ℕ) (turn : Turn) (o : Option ℕ) (rest : List ℕ) → number_of (take n b) ≡ o → drop n b ≡ rest → turn_at o rest ≡ Some turn → SpellsTurn b turn
turn_cases b n turn None rest left is e = absurd (none-some turn e)
turn_cases b n turn (Some actor) [] left is e =
    let one : record { actor = actor; times = 1 } ≡ turn = same_Some (record { actor = actor; times = 1 }) turn e in
    let whole : take n b ≡ b = sym (append-nil (take n b)) ∙ ap (λ l. take n b ++ l) (sym is) ∙ take-append-drop n b in
    subst (SpellsTurn b) one (inl (subst (λ l. Number l actor) whole (number_sound (take n b) actor left), refl))
turn_cases b n turn (Some actor) (x ∷ xs) left is e = star_cases b n actor x xs turn (x == 42) (number_of xs) left is refl refl e

pub turn_sound : (b : List ℕ) (turn : Turn) → turn_of b ≡ Some turn → SpellsTurn b turn
unfolding turn_of
turn_sound b turn e = let n = prefix_len is_ascii_digit b in turn_cases b n turn (number_of (take n b)) (drop n b) refl refl e

-- a word spells at most one turn
pub turn_one : (b : List ℕ) (one other : Turn) → SpellsTurn b one → SpellsTurn b other → one ≡ other
turn_one b one other h i = same_Some one other (sym (turn_read b one h) ∙ turn_read b other i)

pub no_turn : (b : List ℕ) → turn_of b ≡ None → (turn : Turn) → SpellsTurn b turn → ⊥
no_turn b none turn h = none-some turn (sym none ∙ turn_read b turn h)
