-- From the results of the lexer and the parser to the stages of a source's tokens and tree.
use Rattle.std.proofs.Common.{◌≡◌, ℕ, List, Ok, Err, sym, subst}
use Rattle.std.specs.Prelude.{Result, codes}
use Rattle.pc_token.specs.declared.kinds.Token.{Token}
use Rattle.pc_tree.specs.Tree as t
use Rattle.pc_lex.specs.{Refusals.RefusesTokens, declared.fault.LexFault.LexFault}
use Rattle.pc_lex.specs.declared.fault.LexFault.TheVariants as fault
use Rattle.pc_grammar.specs.FileAnswers.{IsFileAnswer, unexpected, too_deep}
use Rattle.pc_expr.specs.Gives.{EndsWithEnd}
use Rattle.pc_expr.specs.declared.fault.ParseFault.TheVariants as syntax
use Rattle.pc_parse.specs.Answers.{RefusesFile as RefusesTree}
use Rattle.pc_text_order.specs.Laws.{TokensEnd}
use Rattle.pc_base.specs.Lists.{Text}
use Rattle.pc_refusals.specs.{Source.After.{stops, goes}, Inner.Refusals.{IsLexStop, IsRefusal}, Inner.Stages.{StageStops, StageEndsAs}, Source.{Lexing, Parsing, SyntaxStage}, Source.Lexing.{lexed, faulty}, Source.Parsing.{astray, nested}, Verdict.refused, declared.stop.Stop.Stop}
use Rattle.pc_refusal_lines.specs.Lines.{offset_line}
use Rattle.pc_refusals.proofs.Stops.{memory_stops, refusal_stops, stops_as}

-- a text that has no tokens
pub lex_stops : (name bytes : Text) (f : LexFault) (s : Stop) → RefusesTokens bytes f → IsLexStop name bytes f s → StageStops (Lexing name bytes) s
lex_stops name bytes (fault.BadByte p) s r h = refusal_stops (Lexing name bytes) _ _ s (faulty (fault.BadByte p) r) h
lex_stops name bytes (fault.Unclosed p) s r h = refusal_stops (Lexing name bytes) _ _ s (faulty (fault.Unclosed p) r) h
lex_stops name bytes (fault.BadNumber p) s r h = refusal_stops (Lexing name bytes) _ _ s (faulty (fault.BadNumber p) r) h
lex_stops name bytes (fault.BadEscape p) s r h = refusal_stops (Lexing name bytes) _ _ s (faulty (fault.BadEscape p) r) h
lex_stops name bytes (fault.TooMany p) s r h = refusal_stops (Lexing name bytes) _ _ s (faulty (fault.TooMany p) r) h
lex_stops name bytes fault.Memory s r h = memory_stops (Lexing name bytes) s h

-- a token at which no file goes on
pub astray_stops : (name bytes : Text) (ts : List Token) (p : ℕ) (s : Stop) → RefusesTree ts (syntax.Unexpected p) → IsRefusal 3 (offset_line name bytes p (codes "unexpected")) s → StageStops (Parsing name bytes ts) s
astray_stops name bytes ts p s r h =
    let at = r.1 in
    refusal_stops (Parsing name bytes ts) 3 _ s
    (subst (λ (n : ℕ). Parsing name bytes ts (Err (refused 3 (offset_line name bytes n (codes "unexpected"))))) at.3
    (astray {x = at.0} {rest = at.1} (subst (λ (l : List Token). IsFileAnswer ts (unexpected l)) at.2 r.2))) h

pub nested_stops : (name bytes : Text) (ts : List Token) (p : ℕ) (s : Stop) → RefusesTree ts (syntax.TooDeep p) → IsRefusal 8 (offset_line name bytes p (codes "nested too deep")) s → StageStops (Parsing name bytes ts) s
nested_stops name bytes ts p s r h =
    let at = r.1 in
    refusal_stops (Parsing name bytes ts) 8 _ s
    (subst (λ (n : ℕ). Parsing name bytes ts (Err (refused 8 (offset_line name bytes n (codes "nested too deep"))))) at.3
    (nested {x = at.0} {rest = at.1} (subst (λ (l : List Token). IsFileAnswer ts (too_deep l)) at.2 r.2))) h

-- Its tokens end with `End`.
pub lexed_end : (name bytes : Text) (ts shown : List Token) → TokensEnd → Lexing name bytes (Ok ts) → shown ≡ ts → EndsWithEnd shown
lexed_end name bytes ts shown law (lexed l) e = subst EndsWithEnd (sym e) (law bytes ts l.0)

-- The tokens and the tree of a source.
pub syntax_stops : (name bytes : Text) (s : Stop) → StageStops (Lexing name bytes) s → StageStops (SyntaxStage name bytes) s
syntax_stops name bytes s h = stops_as (Lexing name bytes) (SyntaxStage name bytes) (λ v e. stops e) s h

pub syntax_ends : {S : Type 0} (view : S → t.File) (name bytes : Text) (shown ts : List Token) (r : Result S Stop) → shown ≡ ts → Lexing name bytes (Ok ts)
    → StageEndsAs view (Parsing name bytes shown) r → StageEndsAs view (SyntaxStage name bytes) r
syntax_ends view name bytes shown ts (Ok x) e l h = goes l (subst (λ (xs : List Token). Parsing name bytes xs (Ok (view x))) e h)
syntax_ends view name bytes shown ts (Err s) e l h =
    stops_as (Parsing name bytes shown) (SyntaxStage name bytes) (λ v p. goes l (subst (λ (xs : List Token). Parsing name bytes xs (Err v)) e p)) s h
