-- The stages of a source have an end.
use Rattle.std.proofs.Common.{◌≡◌, ◌<◌, ◌≤◌, ◌+◌, ◌^◌, List, [], ◌∷◌, length, Some, Ok, Err, inl, inr, refl, ap, subst, arith}
use Rattle.std.specs.Prelude.{Result, codes, slice_get}
use Rattle.pc_core_relation.proofs.{Files.made_cores_stand, MemberFaults.is_first}
use Rattle.pc_file_spec.specs.Cores.{core_with, texts_of_file, members_from, Parts, built_in_parts, if_ok, parts_of}
use Rattle.pc_grammar.specs.{FileAnswers.{FileAnswer, IsFileAnswer, spelled, too_deep, unexpected}, Spells.SpellsFile}
use Rattle.pc_grammar_total.proofs.Answered.{file_has_one}
use Rattle.pc_lex.proofs.Together.{told}
use Rattle.pc_lex.specs.Pieces.{token_limit}
use Rattle.pc_base.proofs.Elements.{differ_none}
use Rattle.pc_base.specs.Lists.{Text}
use Rattle.pc_members.proofs.Closings.{closes}
use Rattle.pc_members.specs.{Edges.{edges_of, above_all}, Members.entity_names}
use Rattle.pc_names.specs.{Faults.{IsFirstNameFault, Collected, NamesData, name_faults}, declared.fault.NameFault.NameFault}
use Rattle.pc_names.specs.declared.fault.NameFault.TheVariants as fault
use Rattle.pc_text_order.proofs.Tokens.{tokens_end}
use Rattle.pc_token.specs.declared.kinds.Token.{Token}
use Rattle.pc_tree.specs.Kinds.{first_own}
use Rattle.pc_tree.specs.Tree as t
use Rattle.pc_refusals.specs.{FaultLines.{fault_line, fault_status, name_line, name_status}, Verdict.{Reading, refused}, Source.{CoreStage, Elaborating, FileStage, Length, Lexing, Parsing, SourceStage, SyntaxStage, TextStage, TreeStage, source_limit}, Source.Elaborating.{elaborated, misnamed, misused}, Source.Lexing.{faulty, lexed}, Source.Parsing.{astray, nested, parsed}, Source.TextStage.{has_core, has_none}}
use Rattle.pc_refusal_lines.specs.Lines.{offset_line}
use Rattle.pc_verdicts.proofs.{Causes.{failed, of_file, of_members}, Fewness.texts_few, Stages.{HasEnd, after_ends}}

-- ---- tokens and trees

pub lexing_ends : (name bytes : Text) → HasEnd (Lexing name bytes)
lexing_ends name bytes = elim (told bytes) [
  | inl tokens ↦ (Ok tokens.0, lexed tokens.1)
  | inr first ↦ (Err (refused (fault_status first.0) (fault_line name bytes first.0)), faulty first.0 first.1)
]

tree_ends : (name bytes : Text) (ts : List Token) (one : FileAnswer) → IsFileAnswer ts one → HasEnd (Parsing name bytes ts)
tree_ends name bytes ts (spelled file) h = (Ok file, parsed h)
tree_ends name bytes ts (unexpected rest) h =
    (Err (refused 3 (offset_line name bytes h.2.span.start (codes "unexpected"))), astray (subst (λ l. IsFileAnswer ts (unexpected l)) h.3 h))
tree_ends name bytes ts (too_deep rest) h =
    (Err (refused 8 (offset_line name bytes h.2.span.start (codes "nested too deep"))), nested (subst (λ l. IsFileAnswer ts (too_deep l)) h.3 h))

pub parsing_ends : (name bytes : Text) (ts : List Token) → Lexing name bytes (Ok ts) → HasEnd (Parsing name bytes ts)
parsing_ends name bytes ts (lexed h) = let one = file_has_one ts (tokens_end bytes ts h.0) in tree_ends name bytes ts one.0 one.1

pub syntax_ends : (name bytes : Text) → HasEnd (SyntaxStage name bytes)
syntax_ends name bytes = after_ends (Lexing name bytes) (Parsing name bytes) (lexing_ends name bytes) (parsing_ends name bytes)

-- ---- the core

first_is : (f : NameFault) (fs : List NameFault) → slice_get fs 0 ≡ Some f → IsFirstNameFault f fs
first_is (fault.Double s) fs h = h
first_is (fault.Unknown s) fs h = h
first_is fault.NoMain fs h = h
first_is (fault.BadMain s) fs h = h
first_is (fault.Cycle s) fs h = h
first_is (fault.TooMany w s) fs h = h
first_is fault.Memory fs h = tt

module _ (name bytes : Text) (file : t.File) where
  collected : name_faults file (above_all (edges_of file)) ≡ [] → Collected file (record { entities = entity_names file; texts = []; above = above_all (edges_of file) })
  collected e = record { faults = e; entities = refl; above = closes file; texts = differ_none }

  by_parts : name_faults file (above_all (edges_of file)) ≡ [] → length (texts_of_file file) < 2 ^ 32 → (r : Result Parts NameFault) → parts_of file ≡ r → HasEnd (Elaborating name bytes file)
  by_parts clear few (Ok p) e =
      let core = core_with file (above_all (edges_of file)) p in
      (Ok core, elaborated (made_cores_stand file core (record { entities = entity_names file; texts = []; above = above_all (edges_of file) }, collected clear, ap (λ r. if_ok r (λ q. Ok (core_with file (above_all (edges_of file)) q))) e, few)))
  by_parts clear few (Err f) e =
      let n : NamesData = record { entities = entity_names file; texts = []; above = above_all (edges_of file) } in (
        Err (refused (name_status f) (name_line name bytes f)),
        misused f (of_members file built_in_parts (members_from file.entities first_own file.entities) f (ap failed e)) (is_first file f (n, collected clear, ap (λ r. if_ok r (λ q. Ok (core_with file (above_all (edges_of file)) q))) e)),
      )

  by_faults : length (texts_of_file file) < 2 ^ 32 → (fs : List NameFault) → name_faults file (above_all (edges_of file)) ≡ fs → HasEnd (Elaborating name bytes file)
  by_faults few [] e = by_parts e few (parts_of file) refl
  by_faults few (f ∷ fs) e =
      let h : slice_get (name_faults file (above_all (edges_of file))) 0 ≡ Some f = ap (λ l. slice_get l 0) e in (
        Err (refused (name_status f) (name_line name bytes f)),
        misnamed f (of_file file (above_all (edges_of file)) f h) (above_all (edges_of file), closes file, first_is f (name_faults file (above_all (edges_of file))) h),
      )

  pub elaborating_ends : (ts : List Token) → SpellsFile file ts → length ts ≤ token_limit + 1 → HasEnd (Elaborating name bytes file)
  elaborating_ends ts spells count =
      let few = texts_few file ts spells in
      by_faults (omega (arith, few, count)) (name_faults file (above_all (edges_of file))) refl

-- ---- the stages of a source

tree_elaborates : (name bytes : Text) (ts : List Token) (file : t.File) → Lexing name bytes (Ok ts) → Parsing name bytes ts (Ok file) → HasEnd (Elaborating name bytes file)
tree_elaborates name bytes ts file (lexed l) (parsed p) = elaborating_ends name bytes file ts p.0 l.1

core_ends : (name bytes : Text) → HasEnd (CoreStage name bytes)
core_ends name bytes =
    after_ends (Lexing name bytes) (TreeStage name bytes) (lexing_ends name bytes)
    (λ ts l. after_ends (Parsing name bytes ts) (Elaborating name bytes) (parsing_ends name bytes ts l) (λ file p. tree_elaborates name bytes ts file l p))

text_ends : (name bytes : Text) → HasEnd (CoreStage name bytes) → HasEnd (TextStage name bytes)
text_ends name bytes (Ok core, h) = (Ok (record { bytes = bytes; core = core }), has_core h)
text_ends name bytes (Err v, h) = (Err v, has_none h)

-- A source whose length ends has a core or a refusal, and a tree or a refusal.
pub source_ends : (name : Text) (r : Reading) → HasEnd (Length source_limit name r) → HasEnd (SourceStage name r)
source_ends name r h = after_ends (Length source_limit name r) (TextStage name) h (λ bytes l. text_ends name bytes (core_ends name bytes))

pub file_ends : (name : Text) (r : Reading) → HasEnd (Length source_limit name r) → HasEnd (FileStage name r)
file_ends name r h = after_ends (Length source_limit name r) (SyntaxStage name) h (λ bytes l. syntax_ends name bytes)
