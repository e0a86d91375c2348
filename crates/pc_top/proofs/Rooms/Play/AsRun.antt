-- `play` does what `run` does for the line that `schedule` writes.
use Rattle.std.proofs.Common.{◌≡◌, ◌≤◌, ◌∙◌, ℕ, List, length, Option, Some, Ok, inl, refl, sym, ap, subst}
use Rattle.std.specs.Prelude.{IfSome, IsSome}
use Rattle.pc_args.specs.{Asked.{Asked, play, run}, Line.IsSeed}
use Rattle.pc_choose.specs.Lists.{Chosen}
use Rattle.pc_core.specs.CoreData.{CoreData}
use Rattle.pc_base.specs.Lists.{Text}
use Rattle.pc_play.specs.Laws.{LinesFit}
use Rattle.pc_run.specs.{Ends.NeverLacks, Spreading.spread}
use Rattle.pc_sched.specs.Schedules.{schedule_limit}
use Rattle.pc_sched_lines.specs.Lines.{IsLine}
use Rattle.pc_types.specs.Laws.{AcceptedNeverLacks}
use Rattle.pc_refusals.specs.{Source.{AcceptedStage, source_limit}, Source.After.goes, Source.FromFile.goes_on, Verdict.{Files, IsReadingOf, Reading, named, whole, Verdict, done}, Source.Scheduling.scheduled, Source.Length.fits, declared.typing.Accepted.Accepted}
use Rattle.pc_refusals.proofs.{LastStages.passed, Statuses.accepted_refuses}
use Rattle.pc_commands.proofs.{Ran.ran_same, RunEnds.has_verdict}
use Rattle.pc_top.specs.{Commands.IsVerdictOf, Commands.Play.IsPlay, Commands.Run.IsRun, Commands.Schedule.{IsSchedule, Scheduled}, CoresFormed.CoresAreFormed, One.{TellsOf, UnfailedOf, VerdictIsOne}, Played.{Answered, PlayedAsRun}, Shapes.OfAccepted, Shapes.ByNumber.spelled}
use Rattle.pc_commands.specs.Run.{Ran}
use Rattle.pc_top.proofs.{Accepted.source_whole, Deriving.{accepted_lacks_nothing, accepted_source, source_says}, NumberRoom.numbered_says}

-- ---- what `schedule` was done with

-- A source that was accepted, and the list of a seed with its line.
record Begun (source bytes line : Text) (seed : ℕ) : Type 0 where
  pub accepted : Accepted
  pub short : length bytes ≤ source_limit
  pub passes : AcceptedStage source (whole bytes) (Ok accepted)
  pub list : List ℕ
  pub chosen : Chosen accepted.source.core seed list
  pub is_line : IsLine list line

told_is : (known : Option Text) (bytes read : Text) → known ≡ Some bytes → IfSome known (λ b. read ≡ b) → read ≡ bytes
told_is known bytes read e h = subst (λ (o : Option Text). IfSome o (λ b. read ≡ b)) e h

begun : (files : Files) (source bytes line : Text) (seed : ℕ) → files.known source ≡ Some bytes → OfAccepted (Scheduled seed) (named files source) (done line) → Begun source bytes line seed
begun files source bytes line seed tells is =
    let p = passed (named files source) source_limit (AcceptedStage source) (Scheduled seed) (done line) (λ r h. accepted_refuses h (inl refl)) is in
    let s = accepted_source p.3 in
    let read = source_whole (named files source) p.0 p.1.source p.2 s.0 in
    let same : p.1.source.bytes ≡ bytes = told_is (files.known source) bytes p.1.source.bytes tells read.1 in
    let reading : p.0 ≡ whole bytes = (source_says s.0).0 ∙ ap whole same in
    let text : p.4.0 ≡ line = sym (ap (λ (v : Verdict). v.out) p.4.2) in
    record {
      accepted = p.1;
      short = subst (λ (b : Text). length b ≤ source_limit) same read.0;
      passes = subst (λ (r : Reading). AcceptedStage source r (Ok p.1)) reading p.3;
      list = p.4.1.0;
      chosen = p.4.1.1;
      is_line = subst (λ (t : Text). IsLine p.4.1.0 t) text p.4.1.2;
    }

-- ---- the other two

if_told : (known : Option Text) (bytes : Text) → known ≡ Some bytes → IfSome known (λ b. bytes ≡ b)
if_told known bytes e = subst (λ (o : Option Text). IfSome o (λ b. bytes ≡ b)) (sym e) refl

is_told : (known : Option Text) (bytes : Text) → known ≡ Some bytes → IsSome known
is_told known bytes e = subst (λ (o : Option Text). IsSome o) (sym e) refl

module _ (source bytes line : Text) (seed : ℕ) (b : Begun source bytes line seed) where
  abbrev core : CoreData
  core = b.accepted.source.core

  reads : (files : Files) → files.known source ≡ Some bytes → IsReadingOf (named files source) source_limit (whole bytes)
  reads files e = (b.short, if_told (files.known source) bytes e)

  played : (files : Files) (word : Text) (v : Verdict) → files.known source ≡ Some bytes → IsSeed word seed → Ran source core b.list v → IsPlay (named files source) word v
  played files word v e p r = spelled seed p (goes_on (whole bytes) b.accepted (reads files e) b.passes (b.list, b.chosen, r))

  ran : (files : Files) (schedule : Text) (w : Verdict) → files.known source ≡ Some bytes → files.known schedule ≡ Some line → length line ≤ schedule_limit → Ran schedule core (spread b.is_line.turns) w
      → IsRun (named files source) (named files schedule) w
  ran files schedule w e f short r =
      goes_on (whole bytes) b.accepted (reads files e) b.passes
      (goes_on (whole line) b.is_line.turns (short, if_told (files.known schedule) line f) (goes (fits short) (scheduled b.is_line.spells)) r)

module _ (one : VerdictIsOne) (formed : CoresAreFormed) (never : AcceptedNeverLacks) (lines : LinesFit) where
  -- the verdict of words is this one
  is_that : (files : Files) (words : List Text) (asked : Asked) (source bytes : Text) (v w : Verdict) → Answered files words asked source bytes v → TellsOf files.known (Some asked) → IsVerdictOf files (Some asked) w → v ≡ w
  is_that files words asked source bytes v w a tells is =
      one files words v w (subst (λ (o : Option Asked). UnfailedOf files o) (sym a.asks) a.unfailed) (subst (λ (o : Option Asked). TellsOf files.known o) (sym a.asks) tells) a.verdict (subst (λ (o : Option Asked). IsVerdictOf files o w) (sym a.asks) is)

  pub played_as_run : PlayedAsRun
  played_as_run chosen_files played_files ran_files choosing playing running source bytes seed schedule line v w c p r tells =
      let asked : IsSchedule (named chosen_files source) seed (done line) = subst (λ (o : Option Asked). IsVerdictOf chosen_files o (done line)) c.asks c.verdict in
      let s = numbered_says (IsSeed seed) (λ n. OfAccepted (Scheduled n) (named chosen_files source)) (done line) (inl refl) asked in
      let b = begun chosen_files source bytes line s.0 c.tells s.2 in
      let core = b.accepted.source.core in
      let safe : NeverLacks core = accepted_lacks_nothing formed never b.passes in
      let x = has_verdict source core b.list safe in
      let y = has_verdict schedule core (spread b.is_line.turns) safe in
      let short = lines core s.0 b.list line b.chosen b.is_line in
      let first : v ≡ x.0 =
      is_that played_files playing (play source seed) source bytes v x.0 p (is_told (played_files.known source) bytes p.tells, tt)
      (played source bytes line s.0 b played_files seed x.0 p.tells s.1 x.1) in
      let second : w ≡ y.0 =
      is_that ran_files running (run source schedule) source bytes w y.0 r (is_told (ran_files.known source) bytes r.tells, (is_told (ran_files.known schedule) line tells, tt))
      (ran source bytes line s.0 b ran_files schedule y.0 r.tells tells short y.1) in
      let same = ran_same source schedule core b.list x.0 y.0 x.1 (subst (λ (list : List ℕ). Ran schedule core list y.0) b.is_line.steps y.1) in
      (ap (λ (z : Verdict). z.status) first ∙ same.0 ∙ sym (ap (λ (z : Verdict). z.status) second), ap (λ (z : Verdict). z.out) first ∙ same.1 ∙ sym (ap (λ (z : Verdict). z.out) second))
