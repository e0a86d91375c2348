-- The results of the parts of `refused_span`.
use Rattle.std.specs.Prelude.{ℕ, ◌≡◌, ◌==◌, List, Option, Some, None, find, option_map, slice_get}
use Rattle.pc_base.specs.{declared.span.Span.Span, Lists.Text}
use Rattle.pc_check.specs.declared.fault.CheckFault.{CheckFault}
use Rattle.pc_core.specs.{CoreData.CoreData, declared.nodes.Node.Node}
use Rattle.pc_explain.specs.Explanation.{decl_span, method_span, missing_span}
use Rattle.pc_expr.specs.declared.fault.ParseFault.{ParseFault}
use Rattle.pc_lex.specs.declared.fault.LexFault.{LexFault}
use Rattle.pc_names.specs.declared.fault.NameFault.{NameFault}
use Rattle.pc_token.specs.declared.kinds.Token.{Token}
use Rattle.pc_lib_buffers.specs.Refused.{lex_span, name_span}
use Rattle.pc_check.specs.declared.fault.CheckFault.TheVariants as fault
use Rattle.pc_expr.specs.declared.fault.ParseFault.TheVariants as syntax
use Rattle.pc_lex.specs.declared.fault.LexFault.TheVariants as lexing
use Rattle.pc_names.specs.declared.fault.NameFault.TheVariants as naming

abbrev pub node_span : Option Node → Span
node_span None = missing_span
node_span (Some x) = x.span

-- The first token that begins at this byte.
abbrev pub token_span : List Token → ℕ → Option Span
token_span tokens at = option_map (λ (token : Token). token.span) (find (λ token. token.span.start == at) tokens)

-- This is the span of a fault, unless memory ran out.
abbrev pub IsLexSpan : Text → LexFault → Option Span → Type 0
IsLexSpan bytes lexing.Memory span = ⊥
IsLexSpan bytes f span = span ≡ lex_span bytes f

abbrev pub IsTokenSpan : List Token → ParseFault → Option Span → Type 0
IsTokenSpan tokens (syntax.Unexpected p) span = span ≡ token_span tokens p
IsTokenSpan tokens (syntax.TooDeep p) span = span ≡ token_span tokens p
IsTokenSpan tokens syntax.Memory span = ⊥

abbrev pub IsNameSpan : NameFault → Option Span → Type 0
IsNameSpan naming.Memory span = ⊥
IsNameSpan f span = span ≡ name_span f

abbrev pub IsCoreSpan : CoreData → CheckFault → Option Span → Type 0
IsCoreSpan core (fault.Decl f) span = span ≡ Some (decl_span core f)
IsCoreSpan core (fault.NoRule n l s ann) span = span ≡ Some (node_span (slice_get core.nodes n))
IsCoreSpan core (fault.Unset m ann) span = span ≡ Some (method_span (slice_get core.methods m))
IsCoreSpan core fault.Memory span = ⊥
