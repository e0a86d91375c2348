-- The line of turns is a schedule that spells them.
use Rattle.std.proofs.{Common.{rules, ◌≡◌, ◌≤◌, ◌<◌, ◌^◌, ℕ, Bool, true, false, List, [], ◌∷◌, ◌++◌, length, refl, sym, ap, ◌∙◌, subst, inl, inr, arith, length-append, nat_eq}, lemmas.Fmt.{digits_decimal, digits_value-decimal, length-decimal-le, decimal_nonempty}, lemmas.Bool.{and_from, and_parts, eqb-true}, lemmas.Bool.Decides.nat_tests, lemmas.List.Folds.list_all-append, lemmas.Str.Parse.{IsNumeralModel, numerals_by_fold}}
use Rattle.std.specs.{Prelude.{if◌then◌else◌, decimal}, Char.is_ascii_digit, List.{AllByRecursion, list_all}}
use Rattle.pc_sched.specs.{declared.turns.Turn.Turn, Schedules.{turn_limit, AtWordEnd, IsSchedulePiece, Number, SchedulePiece, SchedulePieces, SpelledTurns, SpellsTurn, TurnList, blank, no_blank, total, decimal_value, word}}
use Rattle.pc_sched_lines.specs.{Lines.{IsLine, line_of, turn_word, more_words}, Rows.{Fits, RowsOf}}
use Rattle.pc_sched_lines.proofs.Spreads.{length-spread}

-- ---- numbers

own : IsNumeralModel (λ ds. list_all is_ascii_digit ds ≡ true) (decimal_value 0)
own = numerals_by_fold _ (search rules) decimal_value (search rules)

number : (n : ℕ) → n < 2 ^ 32 → Number (decimal n) n
number n small =
    let wide : n < 2 ^ 64 = omega (arith, small) in
    record {
      some = decimal_nonempty n wide;
      few = length-decimal-le 10 n (omega arith) (omega (arith, small)) wide;
      digits = digits_decimal own n wide;
      is = sym (digits_value-decimal own n wide);
      small = small;
    }

-- ---- words

digit_plain : (b : ℕ) → is_ascii_digit b ≡ true → no_blank b ≡ true
digit_plain b h = grind (arith, nat_tests, h)

digits_plain : (ds : List ℕ) → list_all is_ascii_digit ds ≡ true → list_all no_blank ds ≡ true
digits_plain [] h = refl
digits_plain (d ∷ ds) h =
    let both = and_parts (is_ascii_digit d) (list_all is_ascii_digit ds) h in
    and_from (no_blank d) (list_all no_blank ds) (digit_plain d both.0) (digits_plain ds both.1)

-- What the word of a turn is for the reader of a schedule.
record Read (turn : Turn) (b : List ℕ) : Type 0 where
  some : 0 < length b
  plain : list_all no_blank b ≡ true
  spells : SpellsTurn b turn

one_step : (turn : Turn) → Number (decimal turn.actor) turn.actor → turn.times ≡ 1 → Read turn (decimal turn.actor)
one_step turn a e = record { some = a.some; plain = digits_plain (decimal turn.actor) a.digits; spells = inl (a, e) }

more_steps : (turn : Turn) → Number (decimal turn.actor) turn.actor → Number (decimal turn.times) turn.times → Read turn (decimal turn.actor ++ 42 ∷ decimal turn.times)
more_steps turn a t = record {
  some = let e = length-append (decimal turn.actor) (42 ∷ decimal turn.times) in let f = a.some in omega (arith, e, f);
  plain = list_all-append no_blank (decimal turn.actor) (42 ∷ decimal turn.times)
      ∙ and_from (list_all no_blank (decimal turn.actor)) (list_all no_blank (decimal turn.times)) (digits_plain (decimal turn.actor) a.digits) (digits_plain (decimal turn.times) t.digits);
  spells = inr (decimal turn.actor, decimal turn.times, refl, a, t);
}

read_by : (turn : Turn) (one : Bool) → nat_eq turn.times 1 ≡ one → Fits turn → Read turn (if one then decimal turn.actor else decimal turn.actor ++ 42 ∷ decimal turn.times)
read_by turn true e f = one_step turn (number turn.actor f.0) (eqb-true turn.times 1 e)
read_by turn false e f = more_steps turn (number turn.actor f.0) (number turn.times f.1)

read : (turn : Turn) → Fits turn → Read turn (turn_word turn)
read turn f = read_by turn (nat_eq turn.times 1) refl f

-- ---- pieces

pieces_behind : List Turn → List SchedulePiece
pieces_behind [] = blank 10 ∷ []
pieces_behind (turn ∷ turns) = blank 32 ∷ word (turn_word turn) ∷ pieces_behind turns

pieces : List Turn → List SchedulePiece
pieces [] = blank 10 ∷ []
pieces (turn ∷ turns) = word (turn_word turn) ∷ pieces_behind turns

ends : (turns : List Turn) → AtWordEnd (more_words turns)
ends [] = refl
ends (turn ∷ turns) = refl

is_word : (turn : Turn) (turns : List Turn) → Fits turn → IsSchedulePiece (word (turn_word turn)) (more_words turns)
is_word turn turns f = let r = read turn f in (r.some, r.plain, ends turns)

cut_behind : (turns : List Turn) → AllByRecursion Fits turns → SchedulePieces (more_words turns) (pieces_behind turns) []
unfolding pieces_behind
cut_behind [] f = ([], refl, refl, refl)
cut_behind (turn ∷ turns) f =
    (turn_word turn ++ more_words turns, refl, refl, (more_words turns, refl, is_word turn turns f.0, cut_behind turns f.1))

cut : (turns : List Turn) → AllByRecursion Fits turns → SchedulePieces (line_of turns) (pieces turns) []
unfolding pieces
cut [] f = ([], refl, refl, refl)
cut (turn ∷ turns) f = (more_words turns, refl, is_word turn turns f.0, cut_behind turns f.1)

spelled_behind : (turns : List Turn) → AllByRecursion Fits turns → SpelledTurns (pieces_behind turns) turns
unfolding pieces_behind
spelled_behind [] f = refl
spelled_behind (turn ∷ turns) f = (turn, turns, refl, (read turn f.0).spells, spelled_behind turns f.1)

spelled : (turns : List Turn) → AllByRecursion Fits turns → SpelledTurns (pieces turns) turns
unfolding pieces
spelled [] f = refl
spelled (turn ∷ turns) f = (turn, turns, refl, (read turn f.0).spells, spelled_behind turns f.1)

-- ---- the line

pub is_line : (list text : List ℕ) (turns : List Turn) → length list ≤ turn_limit → RowsOf list turns → text ≡ line_of turns → IsLine list text
is_line list text turns few r e =
    let count : total turns ≤ turn_limit = let n = length-spread turns in let m = ap (λ (l : List ℕ). length l) r.steps in omega (arith, n, m, few) in
    record {
      turns = turns;
      spells = subst (λ (t : List ℕ). TurnList t turns) (sym e) ((pieces turns, cut turns r.fit, spelled turns r.fit), count);
      steps = r.steps;
      rows = r.rows;
      line = e;
    }
