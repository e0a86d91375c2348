-- A command with a number among its words, which looks for a derivation of its source.
use Rattle.std.proofs.{Common.{◌≡◌, ℕ, Option, Some, None, Ok, Err, inl, inr, refl, sym, ap, ◌∙◌, subst}, lemmas.Option.{none-some, same_Some}}
use Rattle.std.specs.{Prelude.{IsSome, IsTrue, Result}, Io.KnownBytes.Appends}
use Rattle.pc_base.specs.Lists.{Text}
use Rattle.pc_args.specs.{Asked.Asked, Numbers.Reads}
use Rattle.pc_io.specs.Sink.{Change}
use Rattle.pc_refusals.specs.{Source.{AcceptedStage, source_limit}, Inner.Answering.{AnswerStops, AnswersText, EndsCommand}, Verdict.{Files, Named, named, Verdict, IsAccepting}, Knowing.{AllKnown, NoneFailed}, declared.stop.Stop.Stop, declared.typing.Accepted.Accepted}
use Rattle.pc_refusal_lines.specs.Lines.{usage_line}
use Rattle.pc_refusals.proofs.{Ending.{answers_by, ends_by, part_answers, part_ends, part_stops, words_stop}, Statuses.IsLate}
use Rattle.pc_top.specs.{Commands.{IsVerdictOf, OnOutOf, infers, source_of}, Words.{HasNumber, files_of}, Inner.Numbering.{NumberStops, NumberedEnds}, Shapes.{ByNumber, OfAccepted, UnreadNumbered}, Shapes.ByNumber.{no_number, spelled}, declared.numbered.Numbered.Numbered}
use Rattle.pc_top.proofs.{Begins.begins, Premises.Laws, Room.{Goes, Room, inferring, two_refuses}, Shapes.accepted_one}

-- ---- the verdict of a number

module _ (Is : ℕ → Type 0) (Of : ℕ → Verdict → Type 0) where
  pub numbered_one : ((n m : ℕ) → Is n → Is m → n ≡ m) → ((n : ℕ) (v w : Verdict) → Of n v → Of n w → v ≡ w) → (v w : Verdict) → ByNumber Is Of v → ByNumber Is Of w → v ≡ w
  numbered_one same one v w (spelled n p a) (spelled m q b) = one n v w a (subst (λ (k : ℕ). Of k w) (same m n q p) b)
  numbered_one same one v w (spelled n p a) (no_number none is) = absurd (none n p)
  numbered_one same one v w (no_number none is) (spelled m q b) = absurd (none m q)
  numbered_one same one v w (no_number none is) (no_number other was) = is ∙ sym was

  -- words without a number are refused
  pub numbered_says : (v : Verdict) → IsAccepting v.status → ByNumber Is Of v → (n : ℕ) × Is n × Of n v
  numbered_says v e (spelled n p a) = (n, p, a)
  numbered_says v e (no_number none is) = absurd (two_refuses v.status (ap (λ (x : Verdict). x.status) is) e)

-- ---- the room

module _ (files : Files) (asked : Asked) (source : Text) (its : source_of asked ≡ Some source) (looks : IsTrue (infers asked)) (known : AllKnown files.known (files_of asked) → IsSome (files.known source)) (none_of : NoneFailed files (files_of asked) → files.now source ≡ files.before source)
    (Is : ℕ → Type 0) (Last : ℕ → Accepted → Verdict → Type 0) (is_of : (v : Verdict) → IsVerdictOf files (Some asked) v → ByNumber Is (λ n. OfAccepted (Last n) (named files source)) v)
    (has : HasNumber asked → (n : ℕ) × Is n) (same : (n m : ℕ) → Is n → Is m → n ≡ m) (late : (n : ℕ) (a : Accepted) (v : Verdict) → Last n a v → IsLate v.status) where
  abbrev file : Named
  file = named files source

  begins_or_none : (v : Verdict) → ByNumber Is (λ n. OfAccepted (Last n) file) v → Goes files asked source its looks v
  begins_or_none v (spelled n p a) = inl (begins (Last n) file (late n) v a)
  begins_or_none v (no_number none is) = inr (ap (λ (x : Verdict). x.status) is, λ h. let p = has h in none p.0 p.1)

  -- Its room, from what is its own.
  pub numbered : (Laws → (n : ℕ) (a : Accepted) (v w : Verdict) → Last n a v → Last n a w → v ≡ w)
      → ((v : Verdict) (out : Change) (n : ℕ) → Is n → OfAccepted (Last n) file v → IsAccepting v.status → Appends out.before out.now v.out → OnOutOf files.known (Some asked) out)
      → Room files asked
  numbered one writes =
      inferring files asked source its looks (λ v is. begins_or_none v (is_of v is))
      (λ laws unfailed all v w a b.
      numbered_one Is (λ n. OfAccepted (Last n) file) same (λ n. accepted_one (Last n) file laws (known all) (none_of unfailed) (one laws n)) v w (is_of v a) (is_of w b))
      (λ tells v out is e o. let s = numbered_says Is (λ n. OfAccepted (Last n) file) v e (is_of v is) in writes v out s.0 s.1 s.2 e o)

-- ---- from the result of the reading to how the command ends

-- the number that was read is one that is asked for
of_number : (Is : ℕ → Type 0) (number : Option ℕ) (n : ℕ) → Reads Is number → number ≡ Some n → Is n
of_number Is None n none e = absurd (none-some n e)
of_number Is (Some m) n is e = subst Is (same_Some m n e) is

module _ (Is : ℕ → Type 0) (Last : ℕ → Accepted → Verdict → Type 0) (files : Files) (source : Text) where
  abbrev Whole : Verdict → Type 0
  Whole = ByNumber Is (λ n. OfAccepted (Last n) (named files source))

  abbrev Failed : Text → Type 0
  Failed = UnreadNumbered Is (named files source)

  pub number_stops : (number : Option ℕ) → Reads Is number → (s : Stop) → NumberStops files source number s → AnswerStops Whole Failed s
  number_stops None none s h = words_stop Whole Failed 2 usage_line s (no_number none refl) h
  number_stops (Some n) is s h =
      answers_by (OfAccepted (Last n) (named files source)) Whole Failed Failed (λ v l. spelled n is l) (λ m f. f) (Err s)
      (part_stops source_limit (AcceptedStage source) (Last n) Failed (named files source) s (λ m f. ((n, is), f)) h)

  module _ (number : Option ℕ) (reads : Reads Is number) (read : Numbered) (given : NumberedEnds files source number (Ok read)) where
    pub is_number : Is read.number
    is_number = of_number Is number read.number reads given.0

    pub number_answers : (answer : Result Text Stop) → AnswersText (Last read.number read.accepted) (λ n. ⊥) answer → AnswersText Whole Failed answer
    number_answers answer a =
        answers_by (OfAccepted (Last read.number) (named files source)) Whole Failed Failed (λ v l. spelled read.number is_number l) (λ m f. f) answer
        (part_answers source_limit (AcceptedStage source) (Last read.number) Failed (named files source) (λ n. ⊥) read.accepted (λ n f. absurd f) given.1 answer a)

    pub number_ends : (out : Change) (result : Result (Unit {0}) Stop) → EndsCommand (Last read.number read.accepted) (λ n. ⊥) out result → EndsCommand Whole Failed out result
    number_ends out result e =
        ends_by (OfAccepted (Last read.number) (named files source)) Whole Failed Failed (λ v l. spelled read.number is_number l) (λ m f. f) out result
        (part_ends source_limit (AcceptedStage source) (Last read.number) Failed (named files source) (λ n. ⊥) read.accepted (λ n f. absurd f) given.1 out result e)
