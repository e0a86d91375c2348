-- `show SRC`.
use Rattle.std.specs.{Prelude.{◌≡◌, false, List, [], ◌∷◌, None, IfSome}, Io.KnownBytes.Appends}
use Rattle.pc_io.specs.Sink.{Change}
use Rattle.pc_base.specs.Lists.{Text}
use Rattle.pc_grammar.specs.FileAnswers.{IsFileAnswer, spelled}
use Rattle.pc_lex.specs.Pieces.{TokenList}
use Rattle.pc_print.specs.Printing.{printed}
use Rattle.pc_token.specs.declared.kinds.Token.{Token}
use Rattle.pc_refusals.specs.{Source.{FromFile, FileStage, source_limit}, Verdict.{Named, Verdict, done, named, FailedAt}}
use Rattle.pc_tree.specs.Tree as t
use Rattle.pc_top.specs.Meaning.{CommandMeaning}

-- Done, with the printed text of the tree.
abbrev pub Shown : t.File → Verdict → Type 0
Shown file v = v ≡ done (printed file)

-- The verdict of `show` on this source, whose core is not needed.
abbrev pub IsShow : Named → Verdict → Type 0
IsShow source = FromFile source source_limit (FileStage source.name) Shown

-- Out grew by the printed text of the file that the source's tokens spell.
abbrev pub WritesTree : Change → Text → Type 0
WritesTree out bytes =
    (tokens : List Token) × TokenList bytes tokens × (file : t.File) × IsFileAnswer tokens (spelled file) × Appends out.before out.now (printed file)

-- What `show` means.
abbrev pub show_meaning : Text → CommandMeaning
show_meaning source = record {
  verdict = λ files. IsShow (named files source);
  failed = λ files. FailedAt (named files source);
  source = None;
  infers = false;
  on_out = λ known out. IfSome (known source) (WritesTree out);
  files = source ∷ [];
  has_number = Unit {0};
}
