-- From the results of the parts of `explain` to how it ends.
use Rattle.std.proofs.Common.{◌≡◌, ◌≤◌, length, Ok, Err, inr, refl, subst}
use Rattle.std.specs.Prelude.{IfErr, Result}
use Rattle.pc_elab.specs.Cores.{IsFirstFault}
use Rattle.pc_base.specs.Lists.{Text}
use Rattle.pc_names.specs.{Faults.IsNotMemory, declared.fault.NameFault.NameFault}
use Rattle.pc_places.specs.Text.{HasTokens}
use Rattle.pc_tree.specs.Tree as t
use Rattle.pc_refusals.specs.{Source.After.goes, Source.FromFile.{goes_on, refuses}, Inner.Answering.AnswersText, Inner.Stages.{StageEnds, StageStops}, Verdict.{FailedAt, IsReadingOf, Named, whole, refused}, Source.{SyntaxStage, source_limit}, Source.Length.fits, Source.Lexing.lexed, declared.stop.Stop.Stop, declared.stop.Stop.TheVariants.{File, Memory, Refused, Sink}}
use Rattle.pc_refusals.proofs.Stops.{stops_as}
use Rattle.pc_explain_command.specs.Explain.{Explaining, IsFileFault}
use Rattle.pc_top.specs.{Commands.Explain.{ExplainedStage, IsExplain}, Commands.Explain.ExplainedStage.{has_none, has_tree}}
use Rattle.pc_top.proofs.Facts.{member_fault}

-- ---- a fault of a tree

-- that of its members
pub members_fault : {C : Type 0} (file : t.File) (r : Result C NameFault) → IfErr r (IsFirstFault file)
    → IfErr r (λ f. IsNotMemory f → IsFileFault file f)
members_fault file (Ok core) h = tt
members_fault file (Err f) h = λ o. inr (member_fault file f o h)

-- ---- a source that was read

pub syntax_tokens : {name bytes : Text} {file : t.File} → SyntaxStage name bytes (Ok file) → HasTokens bytes
syntax_tokens (goes (lexed {ts = ts} l) p) = (ts, l)

module _ (name bytes : Text) (short : length bytes ≤ source_limit) where
  pub syntax_stops : (s : Stop) → StageStops (SyntaxStage name bytes) s → StageStops (ExplainedStage name (whole bytes)) s
  syntax_stops s h = stops_as (SyntaxStage name bytes) (ExplainedStage name (whole bytes)) (λ v e. has_none (goes (fits short) e)) s h

  pub tree_ends : (file : t.File) (r : Result Text Stop) → SyntaxStage name bytes (Ok file) → StageEnds (Explaining name bytes file) r → StageEnds (ExplainedStage name (whole bytes)) r
  tree_ends file (Ok text) p h = has_tree (goes (fits short) p) h
  tree_ends file (Err s) p h = stops_as (Explaining name bytes file) (ExplainedStage name (whole bytes)) (λ v e. has_tree (goes (fits short) p) e) s h

-- ---- the command

pub explain_answers : (file : Named) (bytes shown : Text) (r : Result Text Stop) → IsReadingOf file source_limit (whole bytes) → shown ≡ bytes → StageEnds (ExplainedStage file.name (whole shown)) r
    → AnswersText (IsExplain file) (FailedAt file) r
explain_answers file bytes shown (Ok text) g same h = goes_on (whole bytes) text g (subst (λ (b : Text). ExplainedStage file.name (whole b) (Ok text)) same h) refl
explain_answers file bytes shown (Err (Refused status line)) g same h = refuses (whole bytes) g (subst (λ (b : Text). ExplainedStage file.name (whole b) (Err (refused status line))) same h)
explain_answers file bytes shown (Err (File n)) g same h = absurd h
explain_answers file bytes shown (Err Sink) g same h = absurd h
explain_answers file bytes shown (Err Memory) g same h = tt
