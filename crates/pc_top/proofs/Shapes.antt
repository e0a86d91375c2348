-- What the shapes of verdicts imply, whatever the last part of the command.
use Rattle.std.proofs.Common.{◌≡◌, ℕ, List, Ok, Err, inl, inr, subst, arith}
use Rattle.std.specs.Prelude.{◌⊎◌, IfSome, IsSome}
use Rattle.pc_ann.specs.declared.annotation.Ann.{Ann}
use Rattle.pc_deriv.specs.Text.{derivation_limit, IsText}
use Rattle.pc_base.specs.Lists.{Text}
use Rattle.pc_core.specs.CoreData.{CoreData}
use Rattle.pc_valid.specs.Valid.{Valid}
use Rattle.pc_run.specs.Spreading.{spread}
use Rattle.pc_sched.specs.{Schedules.{schedule_limit, TurnList}, declared.turns.Turn.Turn}
use Rattle.pc_refusals.specs.{Source.{AcceptedStage, ScheduleStage, SourceStage, source_limit}, Derivation.{DerivationStage, Judging}, Derivation.Judging.{holds, fails}, Verdict.{Named, Reading, whole, IsReadingOf, EndsAs, Verdict, IsAccepting, done}, declared.source.Source.Source, declared.typing.Accepted.Accepted}
use Rattle.pc_refusals.proofs.{Derivations.derivation_says, LastStages.{ends_cases, ends_one, ends_status, from_status, passed}, OneSource.{one_from, one_source}, Scheduled.schedule_says, Statuses.{IsLate, IsOther, accepted_refuses, derivation_other, other_refuses, schedule_other, source_other}}
use Rattle.pc_top.specs.{CoreOf.{CoreOf, IsDerivable}, Shapes.{LastOfTurns, OfAccepted, OfDerivation, OfJudged, OfScheduled, OfTurns}}
use Rattle.pc_top.proofs.{Accepted.{derivable, of_source, of_told}, Deriving.{accepted_source, source_says}, OneStages.{formed_of, one_accepted, one_derivation, one_judging, one_schedule}, Premises.Laws}

-- ---- an accepted source

module _ (Last : Accepted → Verdict → Type 0) (file : Named) where
  -- what holds of its bytes at an accepting status
  pub accepted_says : (Holds : Text → Type 0) (v : Verdict) → IsAccepting v.status
      → ((a : Accepted) → CoreOf a.source.bytes a.source.core → Valid a.source.core a.ann → Last a v → Holds a.source.bytes) → OfAccepted Last file v → IfSome file.known Holds
  accepted_says Holds v e by is =
      let p = passed file source_limit (AcceptedStage file.name) Last v (λ r h. accepted_refuses h e) is in
      let s = accepted_source p.3 in
      of_source Holds file p.0 p.1.source p.2 s.0 (by p.1 (source_says s.0).1 s.1 p.4)

  -- one verdict
  pub accepted_one : Laws → IsSome file.known → file.now ≡ file.before → ((a : Accepted) (v w : Verdict) → Last a v → Last a w → v ≡ w) → (v w : Verdict) → OfAccepted Last file v → OfAccepted Last file w → v ≡ w
  accepted_one laws known unfailed last = one_from file source_limit (AcceptedStage file.name) Last known unfailed (one_accepted laws file.name) (λ r a h. last a)

-- ---- an accepted source and the turns of a schedule

module _ (Last : LastOfTurns) (file schedule : Named) where
  pub scheduled_says : (Holds : Text → Text → Type 0) (v : Verdict) → IsAccepting v.status
      → ((bytes text : Text) (core : CoreData) (turns : List Turn) → CoreOf bytes core → TurnList text turns → Last schedule.name core (spread turns) v → Holds bytes text)
      → OfScheduled Last file schedule v → IfSome file.known (λ bytes. IfSome schedule.known (Holds bytes))
  scheduled_says Holds v e by is = accepted_says (OfTurns Last schedule) file (λ bytes. IfSome schedule.known (Holds bytes)) v e turns is
    where
      turns : (a : Accepted) → CoreOf a.source.bytes a.source.core → Valid a.source.core a.ann → OfTurns Last schedule a v → IfSome schedule.known (Holds a.source.bytes)
      turns a of_bytes valid l =
          let Own : List Turn → Verdict → Type 0 = λ ts. Last schedule.name a.source.core (spread ts) in
          let q = passed schedule schedule_limit (ScheduleStage schedule.name) Own v (λ r h. other_refuses v.status (schedule_other h) e) l in
          let t = schedule_says q.3 in
          let read : IsReadingOf schedule schedule_limit (whole t.0) = subst (λ (x : Reading). IsReadingOf schedule schedule_limit x) t.1 q.2 in
          of_told (Holds a.source.bytes) schedule.known t.0 (by a.source.bytes t.0 a.source.core q.1 of_bytes t.2 q.4) read.1

  pub turns_late : ((name : Text) (core : CoreData) (list : List ℕ) (w : Verdict) → Last name core list w → IsLate w.status) → (a : Accepted) (w : Verdict) → OfTurns Last schedule a w → IsLate w.status
  turns_late late a =
      from_status schedule schedule_limit (ScheduleStage schedule.name) (λ turns. Last schedule.name a.source.core (spread turns)) IsLate
      (λ r w h. inr (inl (schedule_other h))) (λ turns w l. late schedule.name a.source.core (spread turns) w l)

  pub scheduled_one : Laws → IsSome file.known → file.now ≡ file.before → IsSome schedule.known → schedule.now ≡ schedule.before
      → ((name : Text) (core : CoreData) (list : List ℕ) (v w : Verdict) → Last name core list v → Last name core list w → v ≡ w)
      → (v w : Verdict) → OfScheduled Last file schedule v → OfScheduled Last file schedule w → v ≡ w
  scheduled_one laws known unfailed also too last =
      accepted_one (OfTurns Last schedule) file laws known unfailed
      (λ a. one_from schedule schedule_limit (ScheduleStage schedule.name) (λ turns. Last schedule.name a.source.core (spread turns)) also too (one_schedule laws schedule.name)
      (λ d turns k. last schedule.name a.source.core (spread turns)))

-- ---- a source and a derivation

judging_other : {source_name name : Text} {s : Source} {ann : Ann} {v : Verdict} → Judging source_name name s ann (Err v) → IsOther v.status
judging_other (fails f h) = (omega arith, omega arith)

judging_valid : {source_name name : Text} {s : Source} {ann : Ann} {x : Unit {0}} → Judging source_name name s ann (Ok x) → Valid s.core ann
judging_valid (holds v) = v

-- A derivation that was judged, and is valid.
pub record Derives (text : Ann → Text) (file derivation : Named) (v : Verdict) : Type 0 where
  pub reading : Reading
  pub source : Source
  pub is_reading : IsReadingOf file source_limit reading
  pub passes : SourceStage file.name reading (Ok source)
  pub bytes : Text
  pub ann : Ann
  pub is_text : IsText bytes ann
  pub of_file : IfSome derivation.known (λ b. bytes ≡ b)
  pub valid : Valid source.core ann
  pub done_with : v ≡ done (text ann)

module _ (text : Ann → Text) (file derivation : Named) where
  -- Which statuses its verdicts have.
  pub derivation_status : (P : ℕ → Type 0) → ((status : ℕ) → IsOther status → P status) → P 0 → (v : Verdict) → OfDerivation text file derivation v → P v.status
  derivation_status P other zero =
      from_status file source_limit (SourceStage file.name) (OfJudged text file derivation) P
      (λ r w h. other w.status (source_other h))
      (λ s. from_status derivation derivation_limit (DerivationStage derivation.name) (λ ann. EndsAs (λ _. text ann) (Judging file.name derivation.name s ann)) P (λ r w h. other w.status (derivation_other h))
      (λ ann. ends_status (λ _. text ann) (Judging file.name derivation.name s ann) P zero (λ w h. other w.status (judging_other h))))

  judged : (s : Source) (ann : Ann) (v : Verdict) → IsAccepting v.status → ((x : Unit {0}) × Judging file.name derivation.name s ann (Ok x) × (v ≡ done (text ann))) ⊎ Judging file.name derivation.name s ann (Err v)
      → Valid s.core ann × (v ≡ done (text ann))
  judged s ann v e (inl (x, h, is)) = (judging_valid h, is)
  judged s ann v e (inr h) = absurd (other_refuses v.status (judging_other h) e)

  pub derivation_derives : (v : Verdict) → IsAccepting v.status → OfDerivation text file derivation v → Derives text file derivation v
  derivation_derives v e is =
      let Own : Source → Ann → Verdict → Type 0 = λ s ann. EndsAs (λ _. text ann) (Judging file.name derivation.name s ann) in
      let p = passed file source_limit (SourceStage file.name) (OfJudged text file derivation) v (λ r h. other_refuses v.status (source_other h) e) is in
      let d = passed derivation derivation_limit (DerivationStage derivation.name) (Own p.1) v (λ r h. other_refuses v.status (derivation_other h) e) p.4 in
      let t = derivation_says d.3 in
      let read : IsReadingOf derivation derivation_limit (whole t.0) = subst (λ (x : Reading). IsReadingOf derivation derivation_limit x) t.1 d.2 in
      let j = judged p.1 d.1 v e (ends_cases (λ _. text d.1) (Judging file.name derivation.name p.1 d.1) v d.4) in
      record { reading = p.0; source = p.1; is_reading = p.2; passes = p.3; bytes = t.0; ann = d.1; is_text = t.2; of_file = read.1; valid = j.0; done_with = j.1 }

  pub derivation_accepts : (v : Verdict) → IsAccepting v.status → OfDerivation text file derivation v → IfSome file.known IsDerivable
  derivation_accepts v e is = let d = derivation_derives v e is in derivable file d.reading d.source d.ann d.is_reading d.passes d.valid

  pub derivation_one : Laws → IsSome file.known → file.now ≡ file.before → IsSome derivation.known → derivation.now ≡ derivation.before
      → (v w : Verdict) → OfDerivation text file derivation v → OfDerivation text file derivation w → v ≡ w
  derivation_one laws known unfailed also too =
      one_from file source_limit (SourceStage file.name) (OfJudged text file derivation) known unfailed
      (one_source laws.source file.name)
      (λ r s h. one_from derivation derivation_limit (DerivationStage derivation.name) (λ ann. EndsAs (λ _. text ann) (Judging file.name derivation.name s ann)) also too (one_derivation laws derivation.name)
      (λ d ann k. ends_one (λ _. text ann) (Judging file.name derivation.name s ann) (one_judging laws file.name derivation.name s ann (formed_of laws h))))
