-- A verdict on files that were read without a failure is that on files that are read through.
use Rattle.std.proofs.Common.{◌≡◌, ◌<◌, ◌+◌, ℕ, List, [], ◌∷◌, Option, Some, None, inl, inr, refl, subst, arith}
use Rattle.std.specs.Prelude.{Result}
use Rattle.pc_args.specs.{Asked.{Asked, check, events, explain, judge, make, outcomes, places, play, run, schedule_of, sends, show, swap, trace, upgrade, command_of}, Line.IsSeed}
use Rattle.pc_deriv.specs.Text.{derivation_limit}
use Rattle.pc_base.specs.Lists.{Text}
use Rattle.pc_refusals.specs.{Source.{AcceptedStage, FromFile, SourceStage, source_limit}, Derivation.in_parts, Source.FromFile.{goes_on, refuses}, Verdict.{FailedAt, Files, Named, Reading, IsReading, longer, named, whole, EndsWith, Verdict}, Knowing.NoneFailed}
use Rattle.pc_ann.specs.declared.annotation.Ann.{Ann}
use Rattle.pc_sched.specs.Schedules.{schedule_limit}
use Rattle.pc_top.specs.{Commands.{FailedOf, IsVerdictOf}, Words.files_of, Commands.Swap.IsSwap.{no_number as no_place, placed}, One.{TellsOf, UnfailedOf, VerdictIsOne}, Shapes.{ByNumber, LastOfTurns, OfDerivation, OfScheduled}, Shapes.ByNumber.{no_number, spelled}}
use Rattle.pc_commands.specs.{Events.EventsTelling, Outcomes.IsCount, Run.Ran, Swap.Swapping, Trace.Tracing}
use Rattle.pc_verdicts.specs.{Free.{ElevenIsFree, IsAnswerOf}, There.read_through}

reading_moves : (limit : ℕ) (known : Option Text) (before now taken many : ℕ) → limit < many → now ≡ before → (r : Reading) → IsReading limit known before now taken r → IsReading limit known 0 0 many r
reading_moves limit known before now taken many far same (whole bytes) h = h
reading_moves limit known before now taken many far same longer h = (far, λ e. h.1 same)

file_moves : {T : Type 0} → (name : Text) (known : Option Text) (before now taken many limit : ℕ) (Stages : Reading → Result T Verdict → Type 0) (One Other : T → Verdict → Type 0) (v : Verdict) → limit < many → now ≡ before
    → ((x : T) → One x v → Other x v) → FromFile (record { name = name; known = known; before = before; now = now; taken = taken }) limit Stages One v
    → FromFile (record { name = name; known = known; before = 0; now = 0; taken = many }) limit Stages Other v
file_moves name known before now taken many limit Stages One Other v far same last (refuses r g h) = refuses r (reading_moves limit known before now taken many far same r g) h
file_moves name known before now taken many limit Stages One Other v far same last (goes_on r x g h l) = goes_on r x (reading_moves limit known before now taken many far same r g) h (last x l)

number_moves : (Is : ℕ → Type 0) (One Other : ℕ → Verdict → Type 0) (v : Verdict) → ((n : ℕ) → One n v → Other n v) → ByNumber Is One v → ByNumber Is Other v
number_moves Is One Other v move (spelled n is h) = spelled n is (move n h)
number_moves Is One Other v move (no_number none is) = no_number none is

module _ (files : Files) where
  abbrev read : Text → Named
  read name = named (read_through files.known) name

  module _ (source : Text) (kept : files.now source ≡ files.before source) (v : Verdict) where
    abbrev source_moves : {T : Type 0} → (Stages : Reading → Result T Verdict → Type 0) (One Other : T → Verdict → Type 0) → ((x : T) → One x v → Other x v)
        → FromFile (named files source) source_limit Stages One v → FromFile (read source) source_limit Stages Other v
    source_moves Stages One Other last h =
        file_moves source (files.known source) (files.before source) (files.now source) files.taken (derivation_limit + 1) source_limit Stages One Other v (omega arith) kept last h

    module _ (other : Text) (also : files.now other ≡ files.before other) where
      scheduled_moves : (Last : LastOfTurns) → OfScheduled Last (named files source) (named files other) v → OfScheduled Last (read source) (read other) v
      scheduled_moves Last h =
          source_moves (AcceptedStage source) _ _
          (λ a k. file_moves other (files.known other) (files.before other) (files.now other) files.taken (derivation_limit + 1) schedule_limit _ _ _ v (omega arith) also (λ x l. l) k) h

      derivation_moves : (text : Ann → Text) → OfDerivation text (named files source) (named files other) v → OfDerivation text (read source) (read other) v
      derivation_moves text h =
          source_moves (SourceStage source) _ _
          (λ s k. file_moves other (files.known other) (files.before other) (files.now other) files.taken (derivation_limit + 1) derivation_limit _ _ _ v (omega arith) also (λ x l. l) k) h

      parts_move : (text : Ann → Text) → OfDerivation text (named files source) (in_parts (named files other)) v → OfDerivation text (read source) (in_parts (read other)) v
      parts_move text h =
          source_moves (SourceStage source) _ _
          (λ s k. file_moves other (files.known other) (files.before other) (files.now other) (derivation_limit + files.taken) (derivation_limit + (derivation_limit + 1)) derivation_limit _ _ _ v (omega arith) also (λ x l. l) k) h

  moves : (asked : Option Asked) (v : Verdict) → UnfailedOf files asked → IsVerdictOf files asked v → IsVerdictOf (read_through files.known) asked v
  moves None v u h = h
  moves (Some (check source)) v u h = source_moves source u.0 v _ _ _ (λ x l. l) h
  moves (Some (judge source derivation)) v u h = parts_move source u.0 v derivation u.1.0 _ h
  moves (Some (run source schedule)) v u h = scheduled_moves source u.0 v schedule u.1.0 Ran h
  moves (Some (show source)) v u h = source_moves source u.0 v _ _ _ (λ x l. l) h
  moves (Some (make seed size)) v u h = h
  moves (Some (swap source schedule place)) v u (placed n is h) = placed n is (scheduled_moves source u.0 v schedule u.1.0 (λ name core list. EndsWith (Swapping name core list n)) h)
  moves (Some (swap source schedule place)) v u (no_place none is) = no_place none is
  moves (Some (trace source schedule)) v u h = scheduled_moves source u.0 v schedule u.1.0 (λ name core list. EndsWith (Tracing name core list)) h
  moves (Some (events source schedule)) v u h = scheduled_moves source u.0 v schedule u.1.0 (λ name core list. EndsWith (EventsTelling name core list)) h
  moves (Some (places source)) v u h = source_moves source u.0 v _ _ _ (λ x l. l) h
  moves (Some (explain source)) v u h = source_moves source u.0 v _ _ _ (λ x l. l) h
  moves (Some (sends source)) v u h = source_moves source u.0 v _ _ _ (λ x l. l) h
  moves (Some (upgrade source derivation)) v u h = derivation_moves source u.0 v derivation u.1.0 _ h
  moves (Some (schedule_of source seed)) v u h = number_moves (IsSeed seed) _ _ v (λ n k. source_moves source u.0 v _ _ _ (λ x l. l) k) h
  moves (Some (play source seed)) v u h = number_moves (IsSeed seed) _ _ v (λ n k. source_moves source u.0 v _ _ _ (λ x l. l) k) h
  moves (Some (outcomes source count)) v u h = number_moves (IsCount count) _ _ v (λ n k. source_moves source u.0 v _ _ _ (λ x l. l) k) h

  -- ---- no file of the command failed

  not_failed : (file name : Text) → files.now file ≡ files.before file → FailedAt (named files file) name → ⊥
  not_failed file name same f = let l = f.1 in omega (arith, same, l)

  pub none_failed : (asked : Option Asked) (name : Text) → UnfailedOf files asked → FailedOf files asked name → ⊥
  none_failed None name u f = f
  none_failed (Some (check source)) name u f = not_failed source name u.0 f
  none_failed (Some (judge source derivation)) name u f = elim f [ inl a ↦ not_failed source name u.0 a | inr b ↦ not_failed derivation name u.1.0 b.1 ]
  none_failed (Some (run source schedule)) name u f = elim f [ inl a ↦ not_failed source name u.0 a | inr b ↦ not_failed schedule name u.1.0 b.1 ]
  none_failed (Some (show source)) name u f = not_failed source name u.0 f
  none_failed (Some (make seed size)) name u f = f
  none_failed (Some (swap source schedule place)) name u f = elim f.1 [ inl a ↦ not_failed source name u.0 a | inr b ↦ not_failed schedule name u.1.0 b.1 ]
  none_failed (Some (trace source schedule)) name u f = elim f [ inl a ↦ not_failed source name u.0 a | inr b ↦ not_failed schedule name u.1.0 b.1 ]
  none_failed (Some (events source schedule)) name u f = elim f [ inl a ↦ not_failed source name u.0 a | inr b ↦ not_failed schedule name u.1.0 b.1 ]
  none_failed (Some (places source)) name u f = not_failed source name u.0 f
  none_failed (Some (explain source)) name u f = not_failed source name u.0 f
  none_failed (Some (sends source)) name u f = not_failed source name u.0 f
  none_failed (Some (upgrade source derivation)) name u f = elim f [ inl a ↦ not_failed source name u.0 a | inr b ↦ not_failed derivation name u.1.0 b.1 ]
  none_failed (Some (schedule_of source seed)) name u f = not_failed source name u.0 f.1
  none_failed (Some (play source seed)) name u f = not_failed source name u.0 f.1
  none_failed (Some (outcomes source count)) name u f = not_failed source name u.0 f.1

-- ---- it is the one verdict

unfailed : (known : Text → Option Text) (names : List Text) → NoneFailed (read_through known) names
unfailed known [] = tt
unfailed known (n ∷ ns) = (refl, unfailed known ns)

unfailed_of : (known : Text → Option Text) (asked : Option Asked) → UnfailedOf (read_through known) asked
unfailed_of known None = tt
unfailed_of known (Some asked) = unfailed known (files_of asked)

pub same_verdict : VerdictIsOne → (files : Files) (words : List Text) (v w : Verdict) → UnfailedOf files (command_of words) → TellsOf files.known (command_of words)
    → IsVerdictOf files (command_of words) v → IsVerdictOf (read_through files.known) (command_of words) w → v ≡ w
same_verdict one files words v w u t h k = one (read_through files.known) words v w (unfailed_of files.known (command_of words)) t (moves files (command_of words) v u h) k

pub eleven_free : VerdictIsOne → ElevenIsFree
eleven_free one files words out err status v u t so se completes is = elim (completes (λ name f. none_failed files (command_of words) name u f) so se) [
  | inl memory ↦ inl memory
  | inr answer ↦ let same : answer.0 ≡ v = same_verdict one files words answer.0 v u t answer.1 is in
      inr (subst (λ (w : Verdict). IsAnswerOf w out err status) same (answer.2, answer.3, answer.4))
]
