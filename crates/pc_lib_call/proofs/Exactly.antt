-- What the statuses of a call mean for its source.
use Rattle.std.proofs.{Common.{◌≡◌, ◌≤◌, ◌<◌, ◌∙◌, ℕ, Bool, true, false, not, List, [], ◌∷◌, Option, Some, refl, sym, ap, subst, arith}, lemmas.Bool.eqb-true, lemmas.Fmt.{decimal_is_IsNumeral, length-decimal-le}}
use Rattle.std.specs.{Prelude.{◌≢◌, ◌↔◌, ◌^◌, ◌==◌, IsTrue, codes, decimal, unwrap_or}, Borrow.Bor, Char.digit_value, Str.Parse.IsNumeral}
use Rattle.pc_args.specs.{Asked.{Asked, check, command_of, judge, upgrade}, Forms.is_plain, Line.IsSeed}
use Rattle.pc_lib_buffers.specs.{declared.place.Place.Place, Laying.Buffer, Points.Pointing, declared.beside.Beside.Beside, declared.beside.Beside.TheVariants.Derivation}
use Rattle.pc_io.specs.Entries.{held_or_empty}
use Rattle.pc_base.specs.Lists.{Text}
use Rattle.pc_refusals.specs.Verdict.{Verdict}
use Rattle.pc_top.specs.{Asked.{OfFile, OfSource}, Commands.{infers, source_of}, Words.HasNumber, CoreOf.{IsDerivable, IsUnderivable}, Exact.{IsDerivationOf, JudgedAreExact, ReadsBoth, ReadsSource, StatusesAreExact}}
use Rattle.pc_commands.specs.{Outcomes.{IsCount, seeds_limit}, Swap.IsPlace}
use Rattle.pc_lib_call.specs.{Answers.{CallAnswers, no_memory, verdict}, Inner.Shelves.{IsVerdictOn, OfSourceOn, shelf}}

-- What holds of the source that the words name holds of the call's.
pub of_source : (Is : Text → Type 0) (asked : Asked) (words : List Text) (source : Text) (beside : Beside) → command_of words ≡ Some asked → source_of asked ≡ Some (codes "source")
    → OfSourceOn Is source beside words → Is source
of_source Is asked words source beside asks from h =
    let all : OfSource Is (held_or_empty h.0) (Some asked) = subst (λ (o : Option Asked). OfSource Is (held_or_empty h.0) o) asks h.2 in
    let file : OfFile Is (held_or_empty h.0) (Some (codes "source")) = subst (λ (o : Option Text). OfFile Is (held_or_empty h.0) o) from all.0 in
    subst (λ (o : Option Text). Is (unwrap_or o [])) h.1.0 file

module _ (exact : StatusesAreExact) (asked : Asked) (words : List Text) (source : Text) (beside : Beside) (asks : command_of words ≡ Some asked) (from : source_of asked ≡ Some (codes "source")) where
  -- a verdict over the files of the call is one that reads its source
  reads : HasNumber asked → (v : Verdict) (h : IsVerdictOn source beside words v) → ReadsSource (shelf h.0 h.2) words asked (codes "source") source v
  reads number v h = record {
    asks = asks;
    is_source = from;
    has_number = number;
    tells = ap (λ (o : Option Text). Some (unwrap_or o [])) h.1.0;
    unfailed = refl;
    verdict = h.3;
  }

  -- 1 exactly when the source has a core without a derivation, for what looks for one
  pub underivable : HasNumber asked → IsTrue (infers asked) → (P : Pointing) (status : ℕ) (a b : Buffer) (place : Place) → CallAnswers (IsVerdictOn source beside words) P status a b place → status ≢ 11
      → (status ≡ 1) ↔ IsUnderivable source
  underivable number infer P status a b place (verdict v h e l m p) other =
      subst (λ (s : ℕ). (s ≡ 1) ↔ IsUnderivable source) (sym e) (exact.refused (shelf h.0 h.2) words asked (codes "source") source v (reads number v h) infer)
  underivable number infer P status a b place (no_memory e l m p) other = absurd (other e)

-- 0 exactly when it has a core with one, for `check`
pub derivable : StatusesAreExact → (words : List Text) (source : Text) (beside : Beside) → command_of words ≡ Some (check (codes "source")) → HasNumber (check (codes "source")) → (P : Pointing) (status : ℕ) (a b : Buffer) (place : Place)
    → CallAnswers (IsVerdictOn source beside words) P status a b place → status ≢ 11 → (status ≡ 0) ↔ IsDerivable source
derivable exact words source beside asks number P status a b place (verdict v h e l m p) other =
    subst (λ (s : ℕ). (s ≡ 0) ↔ IsDerivable source) (sym e) (exact.accepted (shelf h.0 h.2) words (codes "source") source v (reads exact (check (codes "source")) words source beside asks refl number v h))
derivable exact words source beside asks number P status a b place (no_memory e l m p) other = absurd (other e)

-- ---- a derivation

module _ (exact : JudgedAreExact) (words : List Text) (source : Text) (derivation : Bor Text) where
  -- a verdict over the files of the call is one that reads both
  reads_both : (asked : Asked) → command_of words ≡ Some asked → (v : Verdict) (h : IsVerdictOn source (Derivation derivation) words v)
      → ReadsBoth (shelf h.0 h.2) words asked (codes "source") (codes "derivation") source derivation.now v
  reads_both asked asks v h = record {
    asks = asks;
    tells = ap (λ (o : Option Text). Some (unwrap_or o [])) h.1.0;
    tells_text = ap (λ (o : Option Text). Some (unwrap_or o [])) h.1.1;
    unfailed = (refl, (refl, tt));
    verdict = h.3;
  }

  pub judge_exactly : command_of words ≡ Some (judge (codes "source") (codes "derivation")) → (P : Pointing) (status : ℕ) (a b : Buffer) (place : Place)
      → CallAnswers (IsVerdictOn source (Derivation derivation) words) P status a b place → status ≢ 11 → (status ≡ 0) ↔ IsDerivationOf source derivation.now
  judge_exactly asks P status a b place (verdict v h e l m p) other =
      subst (λ (s : ℕ). (s ≡ 0) ↔ IsDerivationOf source derivation.now) (sym e)
      (exact.judged (shelf h.0 h.2) words (codes "source") (codes "derivation") source derivation.now v (reads_both (judge (codes "source") (codes "derivation")) asks v h))
  judge_exactly asks P status a b place (no_memory e l m p) other = absurd (other e)

  pub upgrade_exactly : command_of words ≡ Some (upgrade (codes "source") (codes "derivation")) → (P : Pointing) (status : ℕ) (a b : Buffer) (place : Place)
      → CallAnswers (IsVerdictOn source (Derivation derivation) words) P status a b place → status ≢ 11 → (status ≡ 0) ↔ IsDerivationOf source derivation.now
  upgrade_exactly asks P status a b place (verdict v h e l m p) other =
      subst (λ (s : ℕ). (s ≡ 0) ↔ IsDerivationOf source derivation.now) (sym e)
      (exact.upgraded (shelf h.0 h.2) words (codes "source") (codes "derivation") source derivation.now v (reads_both (upgrade (codes "source") (codes "derivation")) asks v h))
  upgrade_exactly asks P status a b place (no_memory e l m p) other = absurd (other e)

-- ---- the number among the words

is_place : (n : ℕ) → 1 ≤ n → n ≤ 9999999 → IsPlace (decimal n) n
is_place n one most =
    let few : n < 10 ^ 7 = omega (arith, most) in
    let fits : n < 2 ^ 64 = omega (arith, most) in
    let numeral = decimal_is_IsNumeral n fits in
    ((length-decimal-le 7 n (omega arith) few fits, numeral.0, sym numeral.1), one, most)

pub swap_number : (n : ℕ) (text : Text) → text ≡ decimal n → 1 ≤ n → n ≤ 9999999 → (m : ℕ) × IsPlace text m
swap_number n text is one most = (n, subst (λ (q : Text). IsPlace q n) (sym is) (is_place n one most))

pub seed_number : (n : ℕ) (text : Text) → text ≡ decimal n → n < 2 ^ 64 → (m : ℕ) × IsSeed text m
seed_number n text is fits =
    let few : n < 10 ^ 20 = omega (arith, fits) in
    let numeral = decimal_is_IsNumeral n fits in
    (n, subst (λ (q : Text). IsSeed q n) (sym is) ((length-decimal-le 20 n (omega arith) few fits, numeral.0, sym numeral.1), fits))

pub count_number : (n : ℕ) (text : Text) → text ≡ decimal n → 1 ≤ n → n ≤ seeds_limit → (m : ℕ) × IsCount text m
count_number n text is one most =
    let few : n < 10 ^ 5 = omega (arith, most) in
    let fits : n < 2 ^ 64 = omega (arith, most) in
    let numeral = decimal_is_IsNumeral n fits in
    (n, subst (λ (q : Text). IsCount q n) (sym is) ((length-decimal-le 5 n (omega arith) few fits, numeral.0, sym numeral.1), one, most))

-- ---- a number is plain

not_dash : (b : Bool) (d : ℕ) → (d == 45) ≡ b → digit_value d < 10 → not b ≡ true
not_dash true d e less = let dash : digit_value 45 < 10 = subst (λ (x : ℕ). digit_value x < 10) (eqb-true d 45 e) less in absurd (omega (arith, dash))
not_dash false d e less = refl

plain_numeral : (ds : Text) → IsNumeral 10 ds → is_plain ds ≡ true
plain_numeral [] h = absurd (omega (arith, h.0))
plain_numeral (d ∷ ds) h = not_dash (d == 45) d refl h.1.0

pub plain : (n : ℕ) (text : Text) → text ≡ decimal n → n < 2 ^ 64 → is_plain text ≡ true
plain n text is fits = ap is_plain is ∙ plain_numeral (decimal n) (decimal_is_IsNumeral n fits).0
