-- From the result of a run to how the command ends.
use Rattle.std.proofs.{Common.{◌≡◌, ℕ, List, [], length, Some, Ok, refl, sym, subst}, Math.Seq.take-length}
use Rattle.std.specs.Io.KnownBytes.{Appends}
use Rattle.pc_core.specs.CoreData.{CoreData}
use Rattle.pc_io.specs.Sink.{GrowsByPrefix, Change}
use Rattle.pc_run.specs.{Ends.{NeverLacks, IsAnswer}, declared.report.Report.Report}
use Rattle.pc_semantics.specs.{Step.outcomes, Text.{end_of, run_text}, declared.outcome.Outcome.TheVariants.TooLong}
use Rattle.pc_base.specs.Lists.{Text}
use Rattle.pc_refusals.specs.{Verdict.{TellsPart, done, stopped}, Inner.Answering.WritesVerdict}
use Rattle.pc_refusal_lines.specs.Lines.{too_long_line}
use Rattle.pc_commands.specs.{Run.Ran, Run.Ran.{whole, cut}}
use Rattle.pc_commands.proofs.RunEnds.{has_verdict}

module _ (name : Text) (core : CoreData) (list : List ℕ) (out : Change) where
  pub run_told : (report : Report) → IsAnswer core list out.faults_before out.faults_now (Ok report) → Appends out.before out.now (run_text core list) → WritesVerdict (Ran name core list) out 0 []
  run_told report a w = (done (run_text core list), whole a.0, refl, refl, w)

  pub cut_told : (n : ℕ) (line : Text) → end_of (outcomes core list) ≡ Some (n, TooLong) → line ≡ too_long_line name n → Appends out.before out.now (run_text core list)
      → WritesVerdict (Ran name core list) out 12 line
  cut_told n line a e w = (stopped 12 (run_text core list) (too_long_line name n), cut n a, refl, sym e, w)

  -- the text is there, but for the line of the step
  pub cut_part : (n : ℕ) → end_of (outcomes core list) ≡ Some (n, TooLong) → Appends out.before out.now (run_text core list) → TellsPart (Ran name core list) out
  cut_part n a w = (stopped 12 (run_text core list) (too_long_line name n), cut n a, (length (run_text core list), rw take-length w))

  pub run_part : NeverLacks core → GrowsByPrefix out.before out.now (run_text core list) → TellsPart (Ran name core list) out
  run_part safe w = let v = has_verdict name core list safe in (v.0, v.1, subst (λ (t : Text). GrowsByPrefix out.before out.now t) (sym v.2) w)
