-- Any two verdicts on an exchange are equal.
use Rattle.std.proofs.{Common.{◌≡◌, ℕ, List, Some, None, Ok, Err, refl, sym, ap, ◌∙◌, subst, arith}, lemmas.Option.none-some}
use Rattle.pc_core.specs.CoreData.{CoreData}
use Rattle.pc_sched_lines.specs.{Lines.IsLine, Rows.LinesAreOne}
use Rattle.pc_semantics.specs.{Configurations.Configuration, Step.{after, outcomes}, Text.end_of}
use Rattle.pc_semantics.specs.declared.outcome.Outcome.TheVariants as outcome
use Rattle.pc_swap.specs.{Apart.IsKept, Laws.KeptAreNotApart, declared.kept.Kept.Kept, declared.kept.Kept.TheVariants.{SameActor, NotMoved, OneMailbox, BothSpawn}}
use Rattle.pc_base.specs.Lists.{Text}
use Rattle.pc_refusals.specs.{Ends.HasOneEnd, Verdict.refused}
use Rattle.pc_refusal_lines.specs.Lines.{too_long_line}
use Rattle.pc_commands.specs.{Swap.{IsPlace, Neighbours, SwapText, Swapping, kept_line}, Swap.SwapText.{exchanged, stay}, Swap.Swapping.{tells, no_place, too_long}}
use Rattle.pc_commands.proofs.{Neighbouring.{neighbours_one, stands_within}, RunEnds.step_same}

-- The first part that fails is one.
one_reason : (core : CoreData) (c : Configuration) (i j : ℕ) (r s : Kept) → IsKept core c i j r → IsKept core c i j s → r ≡ s
one_reason core c i j SameActor SameActor a b = refl
one_reason core c i j SameActor NotMoved a b = absurd (b.0 a)
one_reason core c i j SameActor OneMailbox a b = absurd (b.0 a)
one_reason core c i j SameActor BothSpawn a b = absurd (b.0 a)
one_reason core c i j NotMoved SameActor a b = absurd (a.0 b)
one_reason core c i j NotMoved NotMoved a b = refl
one_reason core c i j NotMoved OneMailbox a b = absurd (a.1 b.1)
one_reason core c i j NotMoved BothSpawn a b = absurd (a.1 b.1)
one_reason core c i j OneMailbox SameActor a b = absurd (a.0 b)
one_reason core c i j OneMailbox NotMoved a b = absurd (b.1 a.1)
one_reason core c i j OneMailbox OneMailbox a b = refl
one_reason core c i j OneMailbox BothSpawn a b = absurd (b.2 a.2)
one_reason core c i j BothSpawn SameActor a b = absurd (a.0 b)
one_reason core c i j BothSpawn NotMoved a b = absurd (b.1 a.1)
one_reason core c i j BothSpawn OneMailbox a b = absurd (a.2 b.2)
one_reason core c i j BothSpawn BothSpawn a b = refl

goes_on : {core : CoreData} {t : Neighbours} {text : Text} → SwapText core t text → end_of (outcomes core t.front) ≡ None
goes_on (exchanged new e l) = e.goes_on
goes_on (stay reason end k is) = end

module _ (apart : KeptAreNotApart) (line : LinesAreOne) where
  one_text : (core : CoreData) (t : Neighbours) (x y : Text) → SwapText core t x → SwapText core t y → x ≡ y
  one_text core t x y (exchanged new e l) (exchanged other f m) = line new x y l (subst (λ (n : List ℕ). IsLine n y) (f.new_is ∙ sym e.new_is) m)
  one_text core t x y (exchanged new e l) (stay reason end k is) = absurd (apart core (after core t.front) t.i t.j reason k e.apart)
  one_text core t x y (stay reason end k is) (exchanged new e l) = absurd (apart core (after core t.front) t.i t.j reason k e.apart)
  one_text core t x y (stay reason end k is) (stay other last m was) =
      is ∙ ap kept_line (one_reason core (after core t.front) t.i t.j reason other k m) ∙ sym was

  pub one_swapping : (name : Text) (core : CoreData) (list : List ℕ) (place : ℕ) → HasOneEnd (Swapping name core list place)
  one_swapping name core list place _ _ (tells t x a h) (tells u y b k) =
      ap (λ (text : Text). Ok text) (one_text core t x y h (subst (λ (n : Neighbours). SwapText core n y) (neighbours_one list place u t b a) k))
  one_swapping name core list place _ _ (tells t x a h) (no_place past) = let within = stands_within list place t a in absurd (omega (arith, within, past))
  one_swapping name core list place _ _ (tells t x a h) (too_long u n b k) =
      absurd (none-some (n, outcome.TooLong) (sym (goes_on h) ∙ subst (λ (s : Neighbours). end_of (outcomes core s.front) ≡ Some (n, outcome.TooLong)) (neighbours_one list place u t b a) k))
  one_swapping name core list place _ _ (no_place past) (tells t x a h) = let within = stands_within list place t a in absurd (omega (arith, within, past))
  one_swapping name core list place _ _ (no_place past) (no_place also) = refl
  one_swapping name core list place _ _ (no_place past) (too_long u n b k) = let within = stands_within list place u b in absurd (omega (arith, within, past))
  one_swapping name core list place _ _ (too_long t n a h) (tells u y b k) =
      absurd (none-some (n, outcome.TooLong) (sym (goes_on k) ∙ subst (λ (s : Neighbours). end_of (outcomes core s.front) ≡ Some (n, outcome.TooLong)) (neighbours_one list place t u a b) h))
  one_swapping name core list place _ _ (too_long t n a h) (no_place past) = let within = stands_within list place t a in absurd (omega (arith, within, past))
  one_swapping name core list place _ _ (too_long t n a h) (too_long u m b k) =
      let same = step_same n m (end_of (outcomes core t.front)) h (subst (λ (s : Neighbours). end_of (outcomes core s.front) ≡ Some (m, outcome.TooLong)) (neighbours_one list place u t b a) k) in
      ap (λ (x : ℕ). Err (refused 12 (too_long_line name x))) same

-- the place that a word spells
pub one_place : (text : Text) (n m : ℕ) → IsPlace text n → IsPlace text m → n ≡ m
one_place text n m p q = p.0.2 ∙ sym q.0.2
