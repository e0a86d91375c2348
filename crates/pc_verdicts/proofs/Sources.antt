-- Commands that only read a source, and need no derivation, have a verdict: `show`, `places` and `explain`.
use Rattle.std.proofs.Common.{◌≤◌, List, length, Ok, Err, inl, inr, refl, sym, subst}
use Rattle.std.specs.Prelude.{IsSome, Result}
use Rattle.pc_core.specs.CoreData.{CoreData}
use Rattle.pc_explain.specs.Explanation.IsExplanation.{declared, no_rule, unset}
use Rattle.pc_grammar.specs.FileAnswers.{IsFileAnswer, spelled}
use Rattle.pc_lex.specs.Pieces.{TokenList}
use Rattle.pc_base.specs.Lists.{Text}
use Rattle.pc_places.specs.Text.{places_text}
use Rattle.pc_print.specs.Printing.{printed}
use Rattle.pc_token.specs.declared.kinds.Token.{Token}
use Rattle.pc_tree.specs.Tree as t
use Rattle.pc_refusals.specs.{Verdict.{Named, Reading, Verdict, done}, Source.{Elaborating, FileStage, SourceStage, source_limit}, Source.Elaborating.{elaborated, misnamed, misused}, declared.source.Source.Source}
use Rattle.pc_explain_command.specs.{Explain.{CoreText, Explaining, fault_end}, Explain.CoreText.{accepted, explained}, Explain.Explaining.{has_core as core_explained, has_fault}}
use Rattle.pc_commands.specs.Judge.{accepted_text}
use Rattle.pc_top.specs.{Commands.Explain.{Explained, ExplainedStage, IsExplain}, Commands.Explain.ExplainedStage.{has_none, has_tree}, Commands.Places.{IsPlaces, Placed}, Commands.Show.{IsShow, Shown}, CoresFormed.CoresAreFormed}
use Rattle.pc_top.proofs.Deriving.{file_says, source_says}
use Rattle.pc_verdicts.proofs.{Elaborated.{elaborating_ends, file_ends, source_ends}, Stages.{Answers, HasEnd, ReadOn, file_answers, read_file}, Typed.{Checked, checked, fails, is_valid, left, stopped}}

-- ---- `show`

pub show_answers : (source : Named) → ReadOn source_limit source → IsSome source.known → Answers (IsShow source)
show_answers source on known =
    let r = read_file source source_limit on known in
    file_answers source source_limit (FileStage source.name) Shown r.0 r.1 (file_ends source.name r.0 r.2) (λ file h. (done (printed file), refl))

-- ---- `places`

placed : {name : Text} {r : Reading} (s : Source) → SourceStage name r (Ok s) → Answers (Placed s)
placed s h =
    let core = (source_says h).1 in
    let text = places_text s.bytes core.tokens s.core in
    (done text, (text, (core.tokens, core.lexed, refl), refl))

pub places_answers : (source : Named) → ReadOn source_limit source → IsSome source.known → Answers (IsPlaces source)
places_answers source on known =
    let r = read_file source source_limit on known in
    file_answers source source_limit (SourceStage source.name) Placed r.0 r.1 (source_ends source.name r.0 r.2) (λ s h. placed s h)

-- ---- `explain`

module _ (law : CoresAreFormed) where
  core_told : (name bytes : Text) (tokens : List Token) (core : CoreData) → Checked core → (text : Text) × CoreText name bytes tokens core text
  core_told name bytes tokens core (is_valid ann v small fit) = (accepted_text, accepted (ann, v))
  core_told name bytes tokens core (fails f e) = (_, explained (declared f e))
  core_told name bytes tokens core (stopped ann n m h) = (_, explained (no_rule ann n m h.0.at h h.0.is_at))
  core_told name bytes tokens core (left ann k h) = (_, explained (unset ann k h))

  tree_told : (name bytes : Text) (tokens : List Token) (file : t.File) (end : Result CoreData Verdict) → length bytes ≤ source_limit → TokenList bytes tokens → IsFileAnswer tokens (spelled file)
      → Elaborating name bytes file end → HasEnd (Explaining name bytes file)
  tree_told name bytes tokens file _ short l p (elaborated {core = core} stands) =
      let formed = (law bytes core (record { short = short; tokens = tokens; file = file; lexed = l; parsed = p; stands = stands })).0 in
      let text = core_told name bytes tokens core (checked core formed) in
      (Ok text.0, core_explained l stands text.1)
  tree_told name bytes tokens file _ short l p (misnamed f o h) = (fault_end name bytes file f, has_fault f o (inl h))
  tree_told name bytes tokens file _ short l p (misused f o h) = (fault_end name bytes file f, has_fault f o (inr h))

  explained_ends : (name : Text) (r : Reading) → HasEnd (FileStage name r) → HasEnd (ExplainedStage name r)
  explained_ends name r (Err v, h) = (Err v, has_none h)
  explained_ends name r (Ok file, h) =
      let s = file_says h in
      let core = elaborating_ends name s.0 file s.3 s.5.0 s.4.1 in
      let end = tree_told name s.0 s.3 file core.0 s.2 s.4 s.5 core.1 in
      (end.0, subst (λ (q : Reading). ExplainedStage name q end.0) (sym s.1) (has_tree (subst (λ (q : Reading). FileStage name q (Ok file)) s.1 h) end.1))

  pub explain_answers : (source : Named) → ReadOn source_limit source → IsSome source.known → Answers (IsExplain source)
  explain_answers source on known =
      let r = read_file source source_limit on known in
      file_answers source source_limit (ExplainedStage source.name) Explained r.0 r.1 (explained_ends source.name r.0 (file_ends source.name r.0 r.2)) (λ text h. (done text, refl))
