-- What holds of each verdict, from the rooms of the commands, and what holds of each answer.
use Rattle.std.proofs.Common.{◌≡◌, ℕ, List, Option, Some, None, inl, sym, ap, subst, ◌∙◌, arith}
use Rattle.std.specs.Io.KnownBytes.{Appends}
use Rattle.pc_base.specs.Lists.{Text}
use Rattle.pc_args.specs.Asked.{Asked, command_of}
use Rattle.pc_io.specs.Sink.{Change}
use Rattle.pc_isolation.specs.ValidLaws.{ValidIsIsolated, ValidIsPassedWhole, ValidKeepsVal}
use Rattle.pc_regions.specs.Laws.{ValidIsSafe}
use Rattle.pc_refusals.specs.{Verdict.{Answer, Files, named, Verdict, IsAccepting}, Verdict.Answer.{given as answer_given, file as answer_file, out_failed, err_failed, file_err_failed, no_memory}}
use Rattle.pc_refusals.proofs.Statuses.{IsOwn}
use Rattle.pc_top.specs.{Asked.{Accepts, FailedIn, HasNoDerivation, HasNoDerivationOf, IsVerdict, OfFile, OfSource}, Laws.{RefusedIsUnderivable, TablesTell, DerivableIsSafe, DerivableIsIsolated, DerivableIsReliable}, Commands.{IsVerdictOf, OnOutOf, source_of}, CoreOf.IsDerivable, CoresFormed.CoresAreFormed, Failures.NoVerdictIsAFailure, OnOut.{OnOut, Swaps, Traces}, One.{TellsOf, UnfailedOf, VerdictIsOne}}
use Rattle.pc_gen.specs.Generated.{generated_text}
use Rattle.pc_guarantees.specs.Laws.{SafeProgresses, ValidIsOwned, ValidReadsVal}
use Rattle.pc_swap.specs.Confluence.{ArrivalsDecide}
use Rattle.pc_top.proofs.{Accepted.{accepting, some_by}, Premises.{Laws, Refusing}, Room.{two_not_one, two_own, two_refuses}, Rooms.room_of, Rooms.Swap.swap_done, Rooms.Trace.trace_done}

-- the status of words that are refused
two : (v : Verdict) (files : Files) → IsVerdictOf files None v → v.status ≡ 2
two v files is = ap (λ (x : Verdict). x.status) is

-- ---- one verdict

one_of : Laws → (files : Files) (asked : Option Asked) (v w : Verdict) → UnfailedOf files asked → TellsOf files.known asked → IsVerdictOf files asked v → IsVerdictOf files asked w → v ≡ w
one_of laws files None v w n t a b = a ∙ sym b
one_of laws files (Some asked) v w n t a b = (room_of files asked).one laws n t v w a b

pub verdict_one : Laws → VerdictIsOne
verdict_one laws files words v w n t a b = one_of laws files (command_of words) v w n t a b

-- ---- its status is that of no failure

own_of : (files : Files) (asked : Option Asked) (v : Verdict) → IsVerdictOf files asked v → IsOwn v.status
own_of files None v is = two_own v.status (two v files is)
own_of files (Some asked) v is = (room_of files asked).own v is

pub verdicts_own : NoVerdictIsAFailure
verdicts_own files words v is = own_of files (command_of words) v is

-- ---- an accepting verdict

accepts_of : (files : Files) (asked : Option Asked) (v : Verdict) → IsVerdictOf files asked v → IsAccepting v.status → OfSource IsDerivable files.known asked
accepts_of files None v is e = two_refuses v.status (two v files is) e
accepts_of files (Some asked) v is e = (room_of files asked).accepts v is e

writes_of : TablesTell → (files : Files) (asked : Option Asked) (v : Verdict) (out : Change) → IsVerdictOf files asked v → IsAccepting v.status → Appends out.before out.now v.out → OnOutOf files.known asked out
writes_of tells files None v out is e o = absurd (two_refuses v.status (two v files is) e)
writes_of tells files (Some asked) v out is e o = (room_of files asked).writes tells v out is e o

-- ---- status 1

refuses_of : Refusing → (files : Files) (asked : Option Asked) (v : Verdict) → IsVerdictOf files asked v → v.status ≡ 1 → HasNoDerivationOf files.known asked
refuses_of laws files None v is e = absurd (two_not_one v.status (two v files is) e)
refuses_of laws files (Some asked) v is e = (room_of files asked).refuses laws v is e

pub refused_underivable : Refusing → RefusedIsUnderivable
refused_underivable laws files words v is e = refuses_of laws files (command_of words) v is e

-- ---- answers

module _ (files : Files) (words : List Text) (out err : Change) (status : ℕ) (answer : Answer (IsVerdict files words) (FailedIn files words) out err status) where
  pub answer_accepts : IsAccepting status → Accepts files.known words
  answer_accepts e = let a = accepting files words out err status answer e in accepts_of files (command_of words) a.0 a.1 (subst IsAccepting a.2 e)

  pub answer_writes : TablesTell → IsAccepting status → OnOut files.known words out
  answer_writes tells e = let a = accepting files words out err status answer e in writes_of tells files (command_of words) a.0 out a.1 (subst IsAccepting a.2 e) a.3

  pub answer_swaps : status ≡ 0 → Swaps files.known words out
  answer_swaps e source schedule place asks =
      let a = accepting files words out err status answer (inl e) in
      swap_done (named files source) (named files schedule) place a.0 out (subst (λ (o : Option Asked). IsVerdictOf files o a.0) asks a.1) (sym a.2 ∙ e) a.3

  pub answer_traces : status ≡ 0 → Traces files.known words out
  answer_traces e source schedule asks =
      let a = accepting files words out err status answer (inl e) in
      trace_done (named files source) (named files schedule) a.0 out (subst (λ (o : Option Asked). IsVerdictOf files o a.0) asks a.1) (sym a.2 ∙ e) a.3

pub answer_refuses : RefusedIsUnderivable → (files : Files) (words : List Text) (out err : Change) (status : ℕ)
    → Answer (IsVerdict files words) (FailedIn files words) out err status → status ≡ 1 → HasNoDerivation files.known words
answer_refuses law files words out err status (answer_given v is s o l) e = law files words v is (sym s ∙ e)
answer_refuses law files words out err status (answer_file n f s o l) e = absurd (omega arith)
answer_refuses law files words out err status (out_failed s r t l) e = absurd (omega arith)
answer_refuses law files words out err status (err_failed v is s r o l) e = absurd (omega arith)
answer_refuses law files words out err status (file_err_failed n f s r o l) e = absurd (omega arith)
answer_refuses law files words out err status (no_memory s o l) e = absurd (omega arith)

-- ---- safety and isolation

pub derivable_safe : CoresAreFormed → ValidIsSafe → DerivableIsSafe
derivable_safe formed never bytes d =
    let core = d.0 in
    let of_bytes = d.1 in
    let ann = d.2.0 in
    (core, of_bytes, never core ann (formed bytes core of_bytes).0 d.2.1)

pub derivable_isolated : CoresAreFormed → ValidIsIsolated → ValidIsPassedWhole → DerivableIsIsolated
derivable_isolated formed apart whole bytes d =
    let core = d.0 in
    let of_bytes = d.1 in
    let ann = d.2.0 in
    let fits = (formed bytes core of_bytes).0 in
    (core, of_bytes, apart core ann fits d.2.1, whole core ann fits d.2.1)

pub derivable_reliable : CoresAreFormed → ValidIsSafe → ValidKeepsVal → ValidReadsVal → ValidIsOwned → SafeProgresses → ArrivalsDecide → DerivableIsReliable
derivable_reliable formed never keeps reads owned progresses decide = record {
  frozen = λ bytes d. (d.0, d.1, keeps d.0 d.2.0 (formed bytes d.0 d.1).0 d.2.1, λ ann valid. reads d.0 ann (formed bytes d.0 d.1).0 valid);
  owned = λ bytes d. (d.0, d.1, owned d.0 d.2.0 (formed bytes d.0 d.1).0 d.2.1);
  progresses = λ bytes d. (d.0, d.1, progresses d.0 (never d.0 d.2.0 (formed bytes d.0 d.1).0 d.2.1));
  decided = λ bytes d. (d.0, d.1, decide d.0 (never d.0 d.2.0 (formed bytes d.0 d.1).0 d.2.1));
}

-- what holds of each derivable source, holds of the one that is accepted
module _ (Holds : Text → Type 0) (law : (bytes : Text) → IsDerivable bytes → Holds bytes) where
  file_holds : (known : Text → Option Text) (source : Option Text) → OfFile IsDerivable known source → OfFile Holds known source
  file_holds known None h = tt
  file_holds known (Some source) h = some_by IsDerivable Holds (known source) law h

  asked_holds : (known : Text → Option Text) (asked : Option Asked) → OfSource IsDerivable known asked → OfSource Holds known asked
  asked_holds known None h = h
  asked_holds known (Some asked) h =
      (file_holds known (source_of asked) h.0, λ seed size is. let m = h.1 seed size is in (m.0, m.1, m.2, m.3, law (generated_text m.0 m.1) m.4))

  pub accepted_holds : (known : Text → Option Text) (words : List Text) → Accepts known words → OfSource Holds known (command_of words)
  accepted_holds known words h = asked_holds known (command_of words) h
