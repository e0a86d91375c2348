-- `explain SRC`.
use Rattle.std.specs.{Prelude.{◌≡◌, false, List, [], ◌∷◌, None, IfSome, Result, Ok, Err}, Io.KnownBytes.Appends}
use Rattle.pc_grammar.specs.FileAnswers.{IsFileAnswer, spelled}
use Rattle.pc_io.specs.Sink.{Change}
use Rattle.pc_lex.specs.Pieces.{TokenList}
use Rattle.pc_base.specs.Lists.{Text}
use Rattle.pc_refusals.specs.{Source.{FromFile, FileStage, source_limit}, Verdict.{Named, Reading, whole, Verdict, done, named, FailedAt}}
use Rattle.pc_token.specs.declared.kinds.Token.{Token}
use Rattle.pc_explain_command.specs.Explain.{Explaining}
use Rattle.pc_tree.specs.Tree as t
use Rattle.pc_top.specs.Meaning.{CommandMeaning}

-- The stages of a source, one after another: its length, its tokens and its tree, and then the text for the tree.
pub data ExplainedStage (name : Text) : Reading → Result Text Verdict → Type 0 where
  has_tree : {bytes : Text} {file : t.File} {end : Result Text Verdict} → FileStage name (whole bytes) (Ok file) → Explaining name bytes file end
      → ExplainedStage name (whole bytes) end
  has_none : {reading : Reading} {v : Verdict} → FileStage name reading (Err v) → ExplainedStage name reading (Err v)

-- Done, with this text.
abbrev pub Explained : Text → Verdict → Type 0
Explained text v = v ≡ done text

-- The verdict of `explain` on this source. It is also done with a source that `check` refuses with 1 or 4: the text
-- says why.
abbrev pub IsExplain : Named → Verdict → Type 0
IsExplain source = FromFile source source_limit (ExplainedStage source.name) Explained

-- Out grew by the text for the file that the tokens of the source with this name spell.
abbrev pub WritesExplained : Change → Text → Text → Type 0
WritesExplained out name bytes =
    (tokens : List Token) × TokenList bytes tokens × (file : t.File) × IsFileAnswer tokens (spelled file)
    × (text : Text) × Explaining name bytes file (Ok text) × Appends out.before out.now text

-- What `explain` means.
abbrev pub explain_meaning : Text → CommandMeaning
explain_meaning source = record {
  verdict = λ files. IsExplain (named files source);
  failed = λ files. FailedAt (named files source);
  source = None;
  infers = false;
  on_out = λ known out. IfSome (known source) (WritesExplained out source);
  files = source ∷ [];
  has_number = Unit {0};
}
