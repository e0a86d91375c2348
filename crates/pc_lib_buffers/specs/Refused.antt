-- Where a source is refused: the bytes of the first thing at fault. Its refusal names the first of these bytes, and an
-- explanation has carets under all of them. In each part, `None` means that the part is not at fault, or that its fault
-- has no place.
use Rattle.std.specs.Prelude.{ℕ, ◌<◌, ◌≤◌, ◌+◌, ◌⊎◌, List, ◌∷◌, length, min, Option, Some, None}
use Rattle.pc_ann.specs.declared.annotation.Ann.{Ann}
use Rattle.pc_base.specs.{declared.span.Span.Span, Lists.Text}
use Rattle.pc_core.specs.CoreData.{CoreData}
use Rattle.pc_core_relation.specs.{Files.IsCoreOf, MemberFaults.IsMemberFault}
use Rattle.pc_explain.specs.Explanation.{decl_span}
use Rattle.pc_grammar.specs.FileAnswers.{IsFileAnswer}
use Rattle.pc_lex.specs.{Pieces.TokenList, Faults.FirstLexFault, declared.fault.LexFault.LexFault}
use Rattle.pc_names.specs.{Faults.{IsNotMemory, IsNameFault}, declared.fault.NameFault.NameFault}
use Rattle.pc_refusals.specs.Source.{source_limit}
use Rattle.pc_valid.specs.{Valid.Derivable, NoRule.{NoRule, Unset}}
use Rattle.pc_sub.specs.{FirstFault.IsFirstDeclarationFault, declared.faults.DeclFault.DeclFault}
use Rattle.pc_token.specs.declared.kinds.Token.{Token}
use Rattle.pc_grammar.specs.FileAnswers as answer
use Rattle.pc_lex.specs.declared.fault.LexFault.TheVariants as lexing
use Rattle.pc_names.specs.declared.fault.NameFault.TheVariants as naming
use Rattle.pc_tree.specs.Tree as t

-- ---- the core

-- A core without a derivation: the name of what is declared wrongly, the node at which no rule holds, or the name of
-- the constructor that leaves a field unset.
pub data IsCoreRefusedAt (core : CoreData) : Option Span → Type 0 where
  derived : Derivable core → IsCoreRefusedAt core None
  declared : (f : DeclFault) → IsFirstDeclarationFault core f → IsCoreRefusedAt core (Some (decl_span core f))
  no_rule : (ann : Ann) (n : ℕ) (stop : NoRule core ann n) → IsCoreRefusedAt core (Some stop.at.span)
  unset : (ann : Ann) (m : ℕ) (left : Unset core ann m) → IsCoreRefusedAt core (Some left.method.span)

-- ---- the tree

-- The name that is at fault, or what exceeds a limit. The fault of a file without Main has no place.
abbrev pub name_span : NameFault → Option Span
name_span (naming.Double s) = Some s
name_span (naming.Unknown s) = Some s
name_span naming.NoMain = None
name_span (naming.BadMain s) = Some s
name_span (naming.Cycle s) = Some s
name_span (naming.TooMany w s) = Some s
name_span naming.Memory = None

-- The first fault of a file's names, or else of its methods.
abbrev pub IsFileFault : t.File → NameFault → Type 0
IsFileFault file f = IsNameFault file f ⊎ IsMemberFault file f

pub data IsFileRefusedAt (file : t.File) : Option Span → Type 0 where
  has_core : {core : CoreData} {span : Option Span} → IsCoreOf file core → IsCoreRefusedAt core span → IsFileRefusedAt file span
  has_fault : (f : NameFault) → IsNotMemory f → IsFileFault file f → IsFileRefusedAt file (name_span f)

-- ---- the tokens

-- The token that cannot continue a file, or that opens a level too many.
pub data AreRefusedAt (ts : List Token) : Option Span → Type 0 where
  spell : {file : t.File} {span : Option Span} → IsFileAnswer ts (answer.spelled file) → IsFileRefusedAt file span → AreRefusedAt ts span
  unexpected : {x : Token} {rest : List Token} → IsFileAnswer ts (answer.unexpected (x ∷ rest)) → AreRefusedAt ts (Some x.span)
  too_deep : {x : Token} {rest : List Token} → IsFileAnswer ts (answer.too_deep (x ∷ rest)) → AreRefusedAt ts (Some x.span)

-- ---- the bytes

-- One byte, or nothing at the end of the text.
abbrev pub byte_span : Text → ℕ → Span
byte_span bytes at = record { start = at; end = min (at + 1) (length bytes) }

abbrev pub lex_span : Text → LexFault → Option Span
lex_span bytes (lexing.BadByte p) = Some (byte_span bytes p)
lex_span bytes (lexing.Unclosed p) = Some (byte_span bytes p)
lex_span bytes (lexing.BadNumber p) = Some (byte_span bytes p)
lex_span bytes (lexing.BadEscape p) = Some (byte_span bytes p)
lex_span bytes (lexing.TooMany p) = Some (byte_span bytes p)
lex_span bytes lexing.Memory = None

-- A source that is too long is refused at no byte.
pub data IsRefusedAt (source : Text) : Option Span → Type 0 where
  longer : source_limit < length source → IsRefusedAt source None
  lexed : {ts : List Token} {span : Option Span} → length source ≤ source_limit → TokenList source ts → AreRefusedAt ts span → IsRefusedAt source span
  faulty : (f : LexFault) → length source ≤ source_limit → FirstLexFault source f → IsRefusedAt source (lex_span source f)
