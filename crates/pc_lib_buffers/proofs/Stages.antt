-- From the results of a source's stages to where it is refused.
use Rattle.std.specs.Prelude.{◌≡◌, ◌<◌, ◌≤◌, ◌==◌, ℕ, zero, suc, cond, List, [], ◌∷◌, Option, Some, Result, Ok, Err, IfErr, drop, find, length, option_map, slice_get, refl}
use Rattle.std.proofs.{Common.{inr, ap, sym, subst, ◌∙◌, arith}, lemmas.Bool.{eq-eqb, ne_eqb}, lemmas.Option.same_Some}
use Rattle.pc_base.specs.{declared.span.Span.Span, Lists.{Ascends, Text}}
use Rattle.pc_check.specs.{Faults.RefusesCore, declared.fault.CheckFault.CheckFault}
use Rattle.pc_check.specs.declared.fault.CheckFault.TheVariants as fault
use Rattle.pc_core.specs.{CoreData.CoreData, declared.declarations.Method.Method, declared.nodes.Node.Node}
use Rattle.pc_core_relation.specs.MemberFaults.{IsMemberFault}
use Rattle.pc_core_relation.proofs.MemberFaults.{is_first}
use Rattle.pc_elab.specs.Cores.{IsFirstFault}
use Rattle.pc_explain.specs.Explanation.{method_span}
use Rattle.pc_expr.specs.declared.fault.ParseFault.{ParseFault}
use Rattle.pc_expr.specs.declared.fault.ParseFault.TheVariants as syntax
use Rattle.pc_grammar.specs.FileAnswers as answer
use Rattle.pc_grammar.specs.FileAnswers.{IsFileAnswer}
use Rattle.pc_lex.specs.Refusals as spec
use Rattle.pc_lex.specs.declared.fault.LexFault.{LexFault}
use Rattle.pc_lex.specs.declared.fault.LexFault.TheVariants as lexing
use Rattle.pc_base.proofs.Gets.{get_map}
use Rattle.pc_names.specs.{Faults.IsNotMemory, declared.fault.NameFault.NameFault}
use Rattle.pc_names.specs.declared.fault.NameFault.TheVariants as naming
use Rattle.pc_parse.specs.Answers as parser
use Rattle.pc_refusals.specs.Source.{source_limit}
use Rattle.pc_text_order.specs.Laws.{starts}
use Rattle.pc_token.specs.declared.kinds.Token.{Token}
use Rattle.pc_tree.specs.Tree as t
use Rattle.pc_lib_buffers.specs.{Refused.{AreRefusedAt, IsCoreRefusedAt, IsFileFault, IsFileRefusedAt, IsRefusedAt, name_span}, Refused.AreRefusedAt.{too_deep, unexpected}, Refused.IsCoreRefusedAt.{declared, no_rule, unset}, Refused.IsFileRefusedAt.has_fault, Refused.IsRefusedAt.faulty, Spans.{IsCoreSpan, IsLexSpan, IsNameSpan, IsTokenSpan, node_span, token_span}}

-- ---- a core

pub core_refused : (core : CoreData) (f : CheckFault) (span : Option Span) → RefusesCore core f → IsCoreSpan core f span → IsCoreRefusedAt core span
core_refused core (fault.Decl d) span r h = subst (IsCoreRefusedAt core) (sym h) (declared d r)
core_refused core (fault.NoRule n l s ann) span r h = subst (IsCoreRefusedAt core) (sym (h ∙ ap (λ (o : Option Node). Some (node_span o)) r.0.is_at)) (no_rule ann n r.0)
core_refused core (fault.Unset m ann) span r h = subst (IsCoreRefusedAt core) (sym (h ∙ ap (λ (o : Option Method). Some (method_span o)) r.0.is_method)) (unset ann m r.0)
core_refused core fault.Memory span r h = absurd h

-- ---- a file

member_fault : (file : t.File) (f : NameFault) → IsNotMemory f → IsFirstFault file f → IsMemberFault file f
member_fault file (naming.Double s) o r = is_first file (naming.Double s) r
member_fault file (naming.Unknown s) o r = is_first file (naming.Unknown s) r
member_fault file naming.NoMain o r = is_first file naming.NoMain r
member_fault file (naming.BadMain s) o r = is_first file (naming.BadMain s) r
member_fault file (naming.Cycle s) o r = is_first file (naming.Cycle s) r
member_fault file (naming.TooMany w s) o r = is_first file (naming.TooMany w s) r
member_fault file naming.Memory o r = absurd (o refl)

-- a fault of its methods
pub members_fault : {C : Type 0} (file : t.File) (r : Result C NameFault) → IfErr r (IsFirstFault file)
    → IfErr r (λ f. IsNotMemory f → IsFileFault file f)
members_fault file (Ok core) h = tt
members_fault file (Err f) h = λ o. inr (member_fault file f o h)

module _ (file : t.File) (span : Option Span) where
  refused_by : (f : NameFault) → IsNotMemory f → (IsNotMemory f → IsFileFault file f) → span ≡ name_span f → IsFileRefusedAt file span
  refused_by f o of h = subst (IsFileRefusedAt file) (sym h) (has_fault f o (of o))

  pub name_refused : (f : NameFault) → (IsNotMemory f → IsFileFault file f) → IsNameSpan f span → IsFileRefusedAt file span
  name_refused (naming.Double s) of h = refused_by (naming.Double s) (λ (e : naming.Double s ≡ naming.Memory). cc) of h
  name_refused (naming.Unknown s) of h = refused_by (naming.Unknown s) (λ (e : naming.Unknown s ≡ naming.Memory). cc) of h
  name_refused naming.NoMain of h = refused_by naming.NoMain (λ (e : naming.NoMain ≡ naming.Memory). cc) of h
  name_refused (naming.BadMain s) of h = refused_by (naming.BadMain s) (λ (e : naming.BadMain s ≡ naming.Memory). cc) of h
  name_refused (naming.Cycle s) of h = refused_by (naming.Cycle s) (λ (e : naming.Cycle s ≡ naming.Memory). cc) of h
  name_refused (naming.TooMany w s) of h = refused_by (naming.TooMany w s) (λ (e : naming.TooMany w s ≡ naming.Memory). cc) of h
  name_refused naming.Memory of h = absurd h

-- ---- tokens

-- The rest begins where a list is cut.
first_left : {T : Type 0} → (xs : List T) (k : ℕ) (x : T) (more : List T) → drop k xs ≡ x ∷ more → slice_get xs k ≡ Some x
first_left [] zero x more e = absurd (omega (arith, ap length e))
first_left [] (suc k) x more e = absurd (omega (arith, ap length e))
first_left (y ∷ ys) zero x more e = ap (λ l. slice_get l 0) e
first_left (y ∷ ys) (suc k) x more e = first_left ys k x more e

-- The first of ascending tokens that begins at a byte is the only one.
found_at : (ts : List Token) (p k : ℕ) (x : Token) (more : List Token) → drop k ts ≡ x ∷ more → x.span.start ≡ p → Ascends (starts ts) → find (λ u. u.span.start == p) ts ≡ Some x
found_at [] p zero x more e at rising = absurd (omega (arith, ap length e))
found_at [] p (suc k) x more e at rising = absurd (omega (arith, ap length e))
found_at (y ∷ ts) p zero x more e at rising =
    let same : y ≡ x = same_Some y x (ap (λ l. slice_get l 0) e) in
    ap (λ b. cond b (Some y) (find (λ u. u.span.start == p) ts)) (eq-eqb y.span.start p (ap (λ (u : Token). u.span.start) same ∙ at)) ∙ ap (λ (u : Token). Some u) same
found_at (y ∷ ts) p (suc k) x more e at rising =
    let behind : slice_get (starts ts) k ≡ Some x.span.start = get_map (λ (u : Token). u.span.start) ts k x (first_left ts k x more e) in
    let less : y.span.start < x.span.start = rising 0 (suc k) y.span.start x.span.start (omega arith) refl behind in
    ap (λ b. cond b (Some y) (find (λ u. u.span.start == p) ts)) (ne_eqb y.span.start p (λ same. omega (arith, less, at, same)))
    ∙ found_at ts p k x more e at (λ i j a b l f g. rising (suc i) (suc j) a b (omega (arith, l)) f g)

module _ (ts : List Token) (rising : Ascends (starts ts)) where
  span_is : (p k : ℕ) (x : Token) (more : List Token) → drop k ts ≡ x ∷ more → x.span.start ≡ p → token_span ts p ≡ Some x.span
  span_is p k x more e at = ap (λ (o : Option Token). option_map (λ (u : Token). u.span) o) (found_at ts p k x more e at rising)

  pub tokens_refused : (f : ParseFault) (span : Option Span) → parser.RefusesFile ts f → IsTokenSpan ts f span → AreRefusedAt ts span
  tokens_refused (syntax.Unexpected p) span r h =
      let at = r.1 in
      subst (AreRefusedAt ts) (sym (h ∙ span_is p r.0 at.0 at.1 at.2 at.3)) (unexpected {x = at.0} {rest = at.1} (subst (λ (l : List Token). IsFileAnswer ts (answer.unexpected l)) at.2 r.2))
  tokens_refused (syntax.TooDeep p) span r h =
      let at = r.1 in
      subst (AreRefusedAt ts) (sym (h ∙ span_is p r.0 at.0 at.1 at.2 at.3)) (too_deep {x = at.0} {rest = at.1} (subst (λ (l : List Token). IsFileAnswer ts (answer.too_deep l)) at.2 r.2))
  tokens_refused syntax.Memory span r h = absurd h

-- ---- a text

module _ (text : Text) (short : length text ≤ source_limit) (span : Option Span) where
  pub lex_refused : (f : LexFault) → spec.RefusesTokens text f → IsLexSpan text f span → IsRefusedAt text span
  lex_refused (lexing.BadByte p) r h = subst (IsRefusedAt text) (sym h) (faulty (lexing.BadByte p) short r)
  lex_refused (lexing.Unclosed p) r h = subst (IsRefusedAt text) (sym h) (faulty (lexing.Unclosed p) short r)
  lex_refused (lexing.BadNumber p) r h = subst (IsRefusedAt text) (sym h) (faulty (lexing.BadNumber p) short r)
  lex_refused (lexing.BadEscape p) r h = subst (IsRefusedAt text) (sym h) (faulty (lexing.BadEscape p) short r)
  lex_refused (lexing.TooMany p) r h = subst (IsRefusedAt text) (sym h) (faulty (lexing.TooMany p) short r)
  lex_refused lexing.Memory r h = absurd h
