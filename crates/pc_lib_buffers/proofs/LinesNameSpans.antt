-- The line by which a source is refused names the first byte of the span at which it is refused.
use Rattle.std.proofs.Common.{◌≡◌, ◌≤◌, ℕ, List, Option, Some, None, Ok, Err, inl, inr, length, refl, ap}
use Rattle.std.specs.Prelude.{codes, slice_get}
use Rattle.pc_base.specs.{declared.span.Span.Span, Lists.Text}
use Rattle.pc_core.specs.{CoreData.CoreData, declared.declarations.EntityDef.EntityDef, declared.declarations.Method.Method, declared.declarations.ParamInfo.ParamInfo}
use Rattle.pc_explain.specs.Explanation.{decl_span, entity_span, method_span, own_param_span, param_span}
use Rattle.pc_lex.specs.{Pieces.TokenList, declared.fault.LexFault.LexFault, Faults.FirstLexFault}
use Rattle.pc_lex.specs.declared.fault.LexFault.TheVariants as lexing
use Rattle.pc_names.specs.{Faults.IsNotMemory, declared.fault.NameFault.NameFault}
use Rattle.pc_names.specs.declared.fault.NameFault.TheVariants as naming
use Rattle.pc_refusals.specs.{Source.{Typing, TreeStage, CoreStage, source_limit}, Source.After.{goes, stops}, FaultLines.{decl_offset, decl_text, fault_line, many_text, name_line}, Parts.{entity_start, method_start, own_param_start, param_start}, Source.Elaborating.{elaborated, misnamed, misused}, Source.Length.fits, Source.Parsing.{astray, nested, parsed}, Verdict.Verdict}
use Rattle.pc_refusals.specs.Source as stage
use Rattle.pc_refusal_lines.specs.Lines.{offset_line}
use Rattle.pc_sub.specs.declared.faults.DeclFault.{DeclFault}
use Rattle.pc_sub.specs.declared.faults.DeclFault.TheVariants as decl
use Rattle.pc_token.specs.declared.kinds.Token.{Token}
use Rattle.pc_lib_buffers.specs.{Laws.{LinesNameSpans, NamesSpan}, Refused.{IsCoreRefusedAt, IsRefusedAt, lex_span, name_span}, Refused.AreRefusedAt.{spell, too_deep, unexpected}, Refused.IsCoreRefusedAt.{declared, no_rule, unset}, Refused.IsFileRefusedAt.{has_core, has_fault}, Refused.IsRefusedAt.{faulty, lexed}}

-- ---- where what is declared starts

entity_starts : (o : Option EntityDef) → entity_start o ≡ (entity_span o).start
entity_starts None = refl
entity_starts (Some x) = refl

method_starts : (o : Option Method) → method_start o ≡ (method_span o).start
method_starts None = refl
method_starts (Some x) = refl

param_starts : (o : Option ParamInfo) → param_start o ≡ (param_span o).start
param_starts None = refl
param_starts (Some x) = refl

own_param_starts : (o : Option Method) (i : ℕ) → own_param_start o i ≡ (own_param_span o i).start
own_param_starts None i = refl
own_param_starts (Some x) i = param_starts (slice_get x.params i)

decl_starts : (core : CoreData) (f : DeclFault) → decl_offset core f ≡ (decl_span core f).start
unfolding decl_span
decl_starts core (decl.NotSendable m i) = own_param_starts (slice_get core.methods m) i
decl_starts core (decl.MissingMethod e m) = entity_starts (slice_get core.entities e)
decl_starts core (decl.Mismatch e m) = method_starts (slice_get core.methods m)

-- ---- the stages

module _ (name source : Text) where
  -- The source is refused at a span whose first byte the line names.
  abbrev Refuses : Text → Type 0
  Refuses line = (span : Option Span) × IsRefusedAt source span × NamesSpan name source line span

  lex_named : (f : LexFault) → FirstLexFault source f → NamesSpan name source (fault_line name source f) (lex_span source f)
  lex_named (lexing.BadByte p) h = (codes "bad byte", refl)
  lex_named (lexing.Unclosed p) h = (codes "not closed", refl)
  lex_named (lexing.BadNumber p) h = (codes "bad number", refl)
  lex_named (lexing.BadEscape p) h = (codes "bad escape", refl)
  lex_named (lexing.TooMany p) h = (codes "too many tokens", refl)
  lex_named lexing.Memory h = absurd h.6

  name_named : (f : NameFault) → IsNotMemory f → NamesSpan name source (name_line name source f) (name_span f)
  name_named (naming.Double s) o = (codes "name twice", refl)
  name_named (naming.Unknown s) o = (codes "name unknown", refl)
  name_named naming.NoMain o = refl
  name_named (naming.BadMain s) o = (codes "Main is of another form", refl)
  name_named (naming.Cycle s) o = (codes "trait in a cycle", refl)
  name_named (naming.TooMany w s) o = (many_text w, refl)
  name_named naming.Memory o = absurd (o refl)

  module _ (short : length source ≤ source_limit) where
    module _ (ts : List Token) (l : TokenList source ts) where
      tree_named : (v : Verdict) → TreeStage name source ts (Err v) → Refuses v.err
      tree_named _ (stops (astray {x = x} a)) = (Some x.span, lexed short l (unexpected a), (codes "unexpected", refl))
      tree_named _ (stops (nested {x = x} a)) = (Some x.span, lexed short l (too_deep a), (codes "nested too deep", refl))
      tree_named _ (goes (parsed p) (misnamed f o h)) = (name_span f, lexed short l (spell p (has_fault f o (inl h))), name_named f o)
      tree_named _ (goes (parsed p) (misused f o h)) = (name_span f, lexed short l (spell p (has_fault f o (inr h))), name_named f o)

    text_named : (v : Verdict) → CoreStage name source (Err v) → Refuses v.err
    text_named _ (stops (stage.faulty f h)) = (lex_span source f, faulty f short h, lex_named f h)
    text_named v (goes (stage.lexed {ts = ts} l) h) = tree_named ts l v h

    core_span : (core : CoreData) (span : Option Span) → CoreStage name source (Ok core) → IsCoreRefusedAt core span → IsRefusedAt source span
    core_span core span (goes (stage.lexed l) (goes (parsed p) (elaborated s))) h = lexed short l (spell p (has_core s h))

    core_named : (core : CoreData) (v : Verdict) → CoreStage name source (Ok core) → Typing name (record { bytes = source; core = core }) (Err v) → Refuses v.err
    core_named core _ has (stage.declared f e) =
        (Some (decl_span core f), core_span core (Some (decl_span core f)) has (declared f e), (decl_text f, ap (λ (at : ℕ). offset_line name source at (decl_text f)) (decl_starts core f)))
    core_named core _ has (stage.no_rule ann n stop) = (Some stop.at.span, core_span core (Some stop.at.span) has (no_rule ann n stop), (codes "no rule", refl))
    core_named core _ has (stage.unset ann m left) = (Some left.method.span, core_span core (Some left.method.span) has (unset ann m left), (codes "field not set", refl))

pub lines_name : LinesNameSpans
lines_name name source v (stops (stops none)) = elim none [ ]
lines_name name source v (stops (goes (fits short) (stage.has_none h))) = text_named name source short v h
lines_name name source v (goes (goes (fits short) (stage.has_core {core = core} has)) no_derivation) = core_named name source short core v has no_derivation
