-- A derivation that is judged after the source was read.
use Rattle.std.proofs.Common.{◌≡◌, ◌≤◌, ℕ, ◌+◌, Option, Ok, Err, inl, inr, refl, sym, subst}
use Rattle.pc_ann.specs.declared.annotation.Ann.{Ann}
use Rattle.pc_deriv.specs.Text.{derivation_limit}
use Rattle.pc_base.specs.Lists.{Text}
use Rattle.pc_refusals.specs.{Derivation.{DerivationStage, Judging, in_parts}, Inner.Answering.AnswerStops, Inner.Derivations.DerivationJudged, Inner.Stages.PartGives, Verdict.{Files, Named, file_at, files_change, named, EndsAs, Verdict, done}, Source.{SourceStage, source_limit}, declared.source.Source.Source, declared.stop.Stop.Stop}
use Rattle.pc_refusals.proofs.{Ending.{both_answer, both_stop, last_stops}, TwoFiles.{second_gives, second_stops}}
use Rattle.pc_commands.specs.Judge.{accepted_text}
use Rattle.pc_top.specs.{Commands.Judge.IsJudge, Shapes.UnreadDerivation}
use Rattle.pc_top.proofs.Deriving.{never_longer}

module _ (s d : Text) (known later : Text → Option Text) (before mid now : Text → ℕ) (taken last_taken : ℕ) (x : Source) (given : PartGives source_limit (SourceStage s) (file_at known before mid taken s) x)
    (same : later d ≡ known d) (risen : before d ≤ mid d) (rises : mid d ≤ now d) where
  abbrev files : Files
  files = files_change known before now last_taken

  abbrev parts : Named
  parts = in_parts (named files d)

  abbrev Last : Source → Ann → Verdict → Type 0
  Last y ann = EndsAs (λ _. accepted_text) (Judging s d y ann)

  abbrev failed : Text → Type 0
  failed = UnreadDerivation (named files s) (named files d)

  pub derivation_refused : (stop : Stop) → DerivationJudged s x (in_parts (file_at later mid now last_taken d)) (Err stop) → AnswerStops (IsJudge (named files s) (named files d)) failed stop
  derivation_refused stop (inl h) =
      both_stop source_limit derivation_limit (SourceStage s) (DerivationStage d) Last failed (named files s) parts stop (λ n f. inl f) (λ n p f. inr (p, f))
      (second_stops source_limit derivation_limit (SourceStage s) (DerivationStage d) s d known later before mid now taken last_taken (derivation_limit + last_taken) x (never_longer s x) given same risen rises stop h)
  derivation_refused stop (inr h) =
      both_answer source_limit derivation_limit (SourceStage s) (DerivationStage d) Last failed (named files s) parts x h.0
      (second_gives source_limit derivation_limit (SourceStage s) (DerivationStage d) s d known later before mid now taken last_taken (derivation_limit + last_taken) x (never_longer s x) given same risen rises h.0 h.1)
      (Err stop) (last_stops (λ _. accepted_text) (Judging s d x h.0) (λ n. ⊥) stop h.2)

  pub derivation_told : (u : Unit {0}) → DerivationJudged s x (in_parts (file_at later mid now last_taken d)) (Ok u) → (text : Text) → text ≡ accepted_text → IsJudge (named files s) (named files d) (done text)
  derivation_told u h text is =
      both_answer source_limit derivation_limit (SourceStage s) (DerivationStage d) Last failed (named files s) parts x h.0
      (second_gives source_limit derivation_limit (SourceStage s) (DerivationStage d) s d known later before mid now taken last_taken (derivation_limit + last_taken) x (never_longer s x) given same risen rises h.0 h.1)
      (Ok text) (subst (λ (t : Text). Last x h.0 (done t)) (sym is) (Ok tt, h.2, refl))
