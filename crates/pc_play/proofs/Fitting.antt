-- How long the line of a list of turns is: at most 11 bytes a turn.
use Rattle.std.proofs.{Common.{◌≡◌, ℕ, zero, suc, ◌+◌, ◌-◌, ◌*◌, ◌<◌, ◌≤◌, ◌^◌, Bool, true, false, nat_eq, List, [], ◌∷◌, ◌++◌, length, replicate, inl, inr, refl, sym, ap, subst, ◌∙◌, arith, length-append}, lemmas.Fmt.length-decimal-le}
use Rattle.std.specs.{Prelude.{decimal, if◌then◌else◌, ◌⊎◌}, List.AllByRecursion}
use Rattle.pc_semantics.specs.Text.{steps_of}
use Rattle.pc_run.specs.Spreading.{spread}
use Rattle.pc_sched.specs.{declared.turns.Turn.Turn, Schedules.{schedule_limit, turn_limit, total}}
use Rattle.pc_sched_lines.specs.Lines.{IsLine, line_of, turn_word, more_words, AreRows, HasOtherActor}
use Rattle.pc_choose.specs.Laws.{InTurns, IsTurn}
use Rattle.pc_choose.proofs.Cutting.{lists_are_in_turns}
use Rattle.pc_play.specs.Laws.{LinesFit}

-- ---- words

digits : (k n : ℕ) → 0 < k → n < 10 ^ k → n < 2 ^ 32 → length (decimal n) ≤ k
digits k n some fits small = length-decimal-le k n some fits (omega (arith, small))

-- A word has its actor's digits and, if the turn has several steps, a sign and the digits of its times.
word_by : (turn : Turn) (d : ℕ) → length (decimal turn.times) ≤ d → (b : Bool) → length (if b then decimal turn.actor else decimal turn.actor ++ 42 ∷ decimal turn.times) ≤ length (decimal turn.actor) + 1 + d
word_by turn d l true = omega arith
word_by turn d l false = let e = length-append (decimal turn.actor) (42 ∷ decimal turn.times) in omega (arith, e, l)

word_most : (turn : Turn) (d : ℕ) → length (decimal turn.times) ≤ d → length (turn_word turn) ≤ length (decimal turn.actor) + 1 + d
word_most turn d l = word_by turn d l (nat_eq turn.times 1)

word_has : (turn : Turn) (b : Bool) → length (decimal turn.actor) ≤ length (if b then decimal turn.actor else decimal turn.actor ++ 42 ∷ decimal turn.times)
word_has turn true = omega arith
word_has turn false = let e = length-append (decimal turn.actor) (42 ∷ decimal turn.times) in omega (arith, e)

word_least : (turn : Turn) → length (decimal turn.actor) ≤ length (turn_word turn)
word_least turn = word_has turn (nat_eq turn.times 1)

-- ---- lines

-- The bytes of the words of rows, each with what follows it.
abbrev bytes : List Turn → ℕ
bytes [] = 0
bytes (turn ∷ turns) = length (turn_word turn) + 1 + bytes turns

behind : (turns : List Turn) → length (more_words turns) ≡ bytes turns + 1
behind [] = refl
behind (turn ∷ turns) =
    let e = length-append (turn_word turn) (more_words turns) in
    let r = behind turns in
    omega (arith, e, r)

line_bytes : (turns : List Turn) → length (line_of turns) ≤ bytes turns + 1
line_bytes [] = omega arith
line_bytes (turn ∷ turns) =
    let e = length-append (turn_word turn) (more_words turns) in
    let r = behind turns in
    omega (arith, e, r)

-- ---- rows against turns

abbrev first_of : ℕ → List ℕ → ℕ
first_of d [] = d
first_of d (x ∷ xs) = x

abbrev rest_of : List ℕ → List ℕ
rest_of [] = []
rest_of (x ∷ xs) = xs

abbrev Filled : List ℕ → Type 0
Filled [] = ⊥
Filled (x ∷ xs) = Unit {0}

-- A row and a turn begin one list: the actor is one. If the row is longer, the rest of it goes on with the list; if it is shorter,
-- the next row begins with the same actor.
Split : (n k x : ℕ) (xs ys : List ℕ) → Type 0
Split n k x xs ys =
    ((n ≡ k) × (xs ≡ ys)) ⊎ (((k < n) × (replicate (n - k) x ++ xs ≡ ys)) ⊎ ((n < k) × (xs ≡ x ∷ (replicate (k - n - 1) x ++ ys))))

split : (n k x : ℕ) (xs ys : List ℕ) → replicate n x ++ xs ≡ replicate k x ++ ys → Split n k x xs ys
unfolding Split
split zero zero x xs ys e = inl (refl, e)
split zero (suc k) x xs ys e =
    let s : k ≡ suc k - 0 - 1 = omega arith in
    inr (inr (omega arith, subst (λ (m : ℕ). xs ≡ x ∷ (replicate m x ++ ys)) s e))
split (suc n) zero x xs ys e =
    let s : suc n ≡ suc n - 0 = omega arith in
    inr (inl (omega arith, subst (λ (m : ℕ). replicate m x ++ xs ≡ ys) s e))
split (suc n) (suc k) x xs ys e = elim (split n k x xs ys (ap rest_of e)) [
  | inl same ↦ inl (ap suc same.0, same.1)
  | inr other ↦ elim other [
    | inl longer ↦
        let s : n - k ≡ suc n - suc k = omega arith in
        inr (inl (let l = longer.0 in omega (arith, l), subst (λ (m : ℕ). replicate m x ++ xs ≡ ys) s longer.1))
    | inr shorter ↦
        let s : k - n - 1 ≡ suc k - suc n - 1 = omega arith in
        inr (inr (let l = shorter.0 in omega (arith, l), subst (λ (m : ℕ). xs ≡ x ∷ (replicate m x ++ ys)) s shorter.1))
  ]
]

-- ---- the bytes of rows

differs_less : (turn : Turn) (times : ℕ) (turns : List Turn) → HasOtherActor turn turns
    → HasOtherActor (record { actor = turn.actor; times = times }) turns
differs_less turn times [] d = tt
differs_less turn times (next ∷ turns) d = d

-- no row begins with the actor of the one before it
not_next : (turn : Turn) (turns : List Turn) (ys : List ℕ) → HasOtherActor turn turns → AreRows turns → spread turns ≡ turn.actor ∷ ys → ⊥
not_next turn [] ys d r e = subst Filled (sym e) tt
not_next turn (next ∷ turns) ys d r e = begins next.times refl
  where
    begins : (n : ℕ) → next.times ≡ n → ⊥
    begins zero s = let some = r.0 in omega (arith, some, s)
    begins (suc n) s = d (sym (ap (first_of 0) (ap (λ (m : ℕ). replicate m next.actor ++ spread turns) (sym s) ∙ e)))

none_left : (turns : List Turn) → AreRows turns → spread turns ≡ [] → bytes turns ≡ 0
none_left [] r e = refl
none_left (turn ∷ turns) r e = begins turn.times refl
  where
    begins : (n : ℕ) → turn.times ≡ n → bytes (turn ∷ turns) ≡ 0
    begins zero s = let some = r.0 in absurd (omega (arith, some, s))
    begins (suc n) s = absurd (subst Filled (ap (λ (m : ℕ). replicate m turn.actor ++ spread turns) (sym s) ∙ e) tt)

module _ (k : ℕ) (ps : List (ℕ × ℕ)) (more : (turns : List Turn) → AreRows turns → total turns ≤ turn_limit → spread turns ≡ steps_of ps → bytes turns ≤ 11 * length ps) where
  module _ (turn : Turn) (turns : List Turn) (r : AreRows (turn ∷ turns)) (few : turn.times + total turns ≤ turn_limit) (is : IsTurn (turn.actor, k)) where
    wide : length (decimal turn.actor) ≤ 7
    wide = let l = is.0 in digits 7 turn.actor (omega arith) (omega (arith, l)) (omega (arith, l))

    -- The row is the turn.
    whole : turn.times ≡ k → spread turns ≡ steps_of ps → bytes (turn ∷ turns) ≤ 11 * suc (length ps)
    whole s e =
        let w = wide in
        let l = is.2 in
        let m = word_most turn 2 (digits 2 turn.times (omega arith) (omega (arith, s, l)) (omega (arith, few))) in
        let b = more turns r.2 (omega (arith, few)) e in
        omega (arith, w, m, b)

    -- The row has more steps.
    longer : k < turn.times → replicate (turn.times - k) turn.actor ++ spread turns ≡ steps_of ps → bytes (turn ∷ turns) ≤ 11 * suc (length ps)
    longer l e =
        let rest : Turn = record { actor = turn.actor; times = turn.times - k } in
        let m = word_most turn 7 (digits 7 turn.times (omega arith) (omega (arith, few)) (omega (arith, few))) in
        let w = word_least rest in
        let b = more (rest ∷ turns) (omega (arith, l), differs_less turn (turn.times - k) turns r.1, r.2) (omega (arith, few)) e in
        omega (arith, m, w, b)

    by_split : Split turn.times k turn.actor (spread turns) (steps_of ps) → bytes (turn ∷ turns) ≤ 11 * suc (length ps)
    unfolding Split
    by_split s = elim s [
      | inl same ↦ whole same.0 same.1
      | inr other ↦ elim other [
        | inl more ↦ longer more.0 more.1
        | inr less ↦ absurd (not_next turn turns (replicate (k - turn.times - 1) turn.actor ++ steps_of ps) r.1 r.2 less.1)
      ]
    ]

  one_actor : (a : ℕ) (turn : Turn) (turns : List Turn) → AreRows (turn ∷ turns) → (n m : ℕ) → turn.times ≡ n → k ≡ m → 0 < k → replicate turn.times turn.actor ++ spread turns ≡ replicate k a ++ steps_of ps → turn.actor ≡ a
  one_actor a turn turns r zero m s t some e = let l = r.0 in absurd (omega (arith, l, s))
  one_actor a turn turns r (suc n) zero s t some e = absurd (omega (arith, some, t))
  one_actor a turn turns r (suc n) (suc m) s t some e =
      ap (first_of 0)
      (ap (λ (i : ℕ). replicate i turn.actor ++ spread turns) (sym s) ∙ e ∙ ap (λ (i : ℕ). replicate i a ++ steps_of ps) t)

  with_turn : (a : ℕ) (rows : List Turn) → IsTurn (a, k) → AreRows rows → total rows ≤ turn_limit → spread rows ≡ replicate k a ++ steps_of ps → bytes rows ≤ 11 * suc (length ps)
  with_turn a [] is r few e = omega arith
  with_turn a (turn ∷ turns) is r few e =
      let one : turn.actor ≡ a = one_actor a turn turns r turn.times k refl refl is.1 e in
      by_split turn turns r few (subst (λ (i : ℕ). IsTurn (i, k)) (sym one) is)
      (split turn.times k turn.actor (spread turns) (steps_of ps) (e ∙ ap (λ (i : ℕ). replicate k i ++ steps_of ps) (sym one)))

rows_fit : (ps : List (ℕ × ℕ)) → AllByRecursion IsTurn ps → (turns : List Turn) → AreRows turns → total turns ≤ turn_limit → spread turns ≡ steps_of ps → bytes turns ≤ 11 * length ps
rows_fit [] is turns r few e = let n = none_left turns r e in omega (arith, n)
rows_fit (p ∷ ps) is turns r few e = with_turn p.1 ps (λ ts s l d. rows_fit ps is.1 ts s l d) p.0 turns is.0 r few e

-- ---- the law

fits : (list line : List ℕ) → InTurns list → IsLine list line → length line ≤ schedule_limit
fits list line t l =
    let b = rows_fit t.turns t.are l.turns l.rows l.spells.1 (l.steps ∙ sym t.steps) in
    let n = line_bytes l.turns in
    let e = ap length l.line in
    let f = t.few in
    omega (arith, b, n, e, f)

pub lines_fit : LinesFit
lines_fit core seed list line c l = fits list line (lists_are_in_turns core seed list c) l
