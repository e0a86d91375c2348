-- A word denotes a number or denotes none.
use Rattle.std.proofs.{Common.{◌⊎◌, ◌≤◌, ◌^◌, ℕ, List, [], ◌∷◌, length, inl, inr, refl, subst, arith}, lemmas.Bool.cases_lt}
use Rattle.std.specs.{Char.digit_value, Str.Parse.{AllDigits, digits_value}}
use Rattle.pc_args.specs.Line.{IsNumber, IsSeed, IsSize}
use Rattle.pc_base.specs.Lists.{Text}
use Rattle.pc_refusal_lines.specs.Lines.{usage_line}
use Rattle.pc_refusals.specs.Verdict.{Verdict, refused}
use Rattle.pc_commands.specs.{Outcomes.{IsCount, seeds_limit}, Swap.IsPlace}
use Rattle.pc_top.specs.{Shapes.ByNumber, Shapes.ByNumber.{no_number, spelled}}
use Rattle.pc_verdicts.proofs.{Same.Told, Stages.Answers}

-- A number of which this holds, or that there is none.
abbrev pub Read : (ℕ → Type 0) → Type 0
Read Is = ((n : ℕ) × Is n) ⊎ ((n : ℕ) → Is n → ⊥)

digits_told : (ds : List ℕ) → Told (AllDigits 10 ds)
digits_told [] = inl tt
digits_told (d ∷ ds) = elim (cases_lt (digit_value d) 10) [
  | inl l ↦ elim (digits_told ds) [ inl h ↦ inl (l, h) | inr refuted ↦ inr (λ h. refuted h.1) ]
  | inr l ↦ inr (λ h. let m = h.0 in omega (arith, l, m))
]

number_told : (most : ℕ) (text : Text) → Told (IsNumber most text (digits_value 10 text))
number_told most text = elim (cases_lt most (length text)) [
  | inl long ↦ inr (λ h. let l = h.0 in omega (arith, long, l))
  | inr few ↦ elim (cases_lt 0 (length text)) [
    | inl some ↦ elim (digits_told text) [ inl ds ↦ inl (few, (some, ds), refl) | inr refuted ↦ inr (λ h. refuted h.1.1) ]
    | inr none ↦ inr (λ h. let l = h.1.0 in omega (arith, none, l))
  ]
]

-- The number is the one that the digits write.
own_number : (most : ℕ) (text : Text) (n : ℕ) → IsNumber most text n → IsNumber most text (digits_value 10 text)
own_number most text n h = subst (λ k. IsNumber most text k) h.2 h

-- A number from a least one to a greatest one.
within_read : (most low high : ℕ) (text : Text) → Read (λ n. IsNumber most text n × (low ≤ n) × (n ≤ high))
within_read most low high text = elim (number_told most text) [
  | inl is ↦ elim (cases_lt (digits_value 10 text) low) [
    | inl below ↦ inr (λ n h. let e = h.0.2 in let l = h.1 in omega (arith, e, l, below))
    | inr l ↦ elim (cases_lt high (digits_value 10 text)) [
      | inl above ↦ inr (λ n h. let e = h.0.2 in let m = h.2 in omega (arith, e, m, above))
      | inr m ↦ inl (digits_value 10 text, (is, l, m))
    ]
  ]
  | inr refuted ↦ inr (λ n h. refuted (own_number most text n h.0))
]

pub seed_read : (text : Text) → Read (IsSeed text)
seed_read text = elim (number_told 20 text) [
  | inl is ↦ elim (cases_lt (digits_value 10 text) (2 ^ 64)) [
    | inl small ↦ inl (digits_value 10 text, (is, small))
    | inr big ↦ inr (λ n h. let e = h.0.2 in let l = h.1 in omega (arith, e, l, big))
  ]
  | inr refuted ↦ inr (λ n h. refuted (own_number 20 text n h.0))
]

pub size_read : (text : Text) → Read (IsSize text)
size_read text = within_read 3 1 900 text

pub place_read : (text : Text) → Read (IsPlace text)
place_read text = within_read 7 1 9999999 text

pub count_read : (text : Text) → Read (IsCount text)
count_read text = within_read 5 1 seeds_limit text

-- The verdict of a number, or that of a word that spells none.
pub number_answers : (Is : ℕ → Type 0) (Of : ℕ → Verdict → Type 0) → Read Is → ((n : ℕ) → Answers (Of n)) → Answers (ByNumber Is Of)
number_answers Is Of (inl r) of = let v = of r.0 in (v.0, spelled r.0 r.1 v.1)
number_answers Is Of (inr refuted) of = (refused 2 usage_line, no_number refuted refl)
