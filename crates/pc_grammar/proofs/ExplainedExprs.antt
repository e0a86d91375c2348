-- Terms, operators and assignments are explained if what is inside is.
use Rattle.std.proofs.Common.{◌≡◌, ℕ, suc, ◌-◌, ◌<◌, Bool, true, false, ◌&&◌, List, [], ◌∷◌, ◌++◌, length, Option, Some, None, refl, sym, ap, ◌∙◌, subst, arith, cond, rules, ◌⊎◌, inl, inr}
use denote.Enum.Bare.{same_true}
use Rattle.pc_tree.specs.{contracts.kinds.Op.the_type as op_type, declared.kinds.Op.Op, declared.written_names.Name.Name, Depths.{depth, exprs_depth}, Parts.exprs_of}
use Rattle.pc_tree.specs.Tree as t
use Rattle.pc_token.specs.{declared.kinds.Token.Token, Words.{is_sign, is_word}}
use Rattle.pc_token.specs.declared.words.Word.TheVariants as w
use Rattle.pc_token.specs.declared.signs.Sign.TheVariants as s
use Rattle.pc_grammar.specs.{Spells.{op_of, no_span, span_from_to, over, is_term, is_infix, is_place, IsMore, Spells, SpellsTerms, SpellsMoreTerms}, Parts.same_op, Reading.{Inner, pure, ◌>>=◌, peek, after, is_op, is_this, name, consume, negation, postfix, term, infix_in, infix_with, infix_by, infix_of, first_expr, last_expr, becomes, expr_by, expr_in, expr_with}}
use Rattle.pc_grammar.proofs.{Follow.after_op, Lists.exprs_list, Spans.{over_not, over_assign, terms_span}, Explained.{Fits, fits_zero, fits_max, fits_suc, fits_some, Explained, Then, Only, Listed, some_only, some_then, explained_bind, explained_weaker, explained_only, explained_refuse, explained_deeper, explained_more}, ExplainedParts.{explained_cons, taken, opened, ends_nil, joined, begins_one, TermIn, InfixIn, ExprIn, SeqIn, NameAt, some_term, some_expr, explained_name}, ExplainedChains.{after_is, explained_postfix}}

-- what may come inside is explained
abbrev pub InnerAt : Bool → ℕ → Inner → Type 0
InnerAt u m i = ((ts : List Token) → Explained u (SeqIn u m) ts (i.seq ts)) × ((ts : List Token) → Explained u (ExprIn u m) ts (i.expr ts)) × ((ts : List Token) → Explained u (TermIn u m) ts (i.term ts))

-- the same with one level less
abbrev pub ExplainedInner : Bool → ℕ → Inner → Type 0
ExplainedInner u n i = 0 < n → InnerAt u (n - 1) i

this_op : (o : Op) (w : Option Op) → is_this o w ≡ true → w ≡ Some o
unfolding same_op
this_op o None h = absurd (cc)
this_op o (Some p) h = ap (λ q. Some q) (same_true op_type (search rules) p o h)

op_is : (o : Op) (x : Token) → is_op o x ≡ true → op_of x ≡ Some o
unfolding is_op
op_is o x h = this_op o (op_of x) h

term_is_infix : (e : t.Expr) → is_term e ≡ true → is_infix e ≡ true
term_is_infix (t.assign l r sp) h = cc
term_is_infix (t.infix_ o es sp) h = refl
term_is_infix (t.number v sp) h = refl
term_is_infix (t.truth b sp) h = refl
term_is_infix (t.text b sp) h = refl
term_is_infix (t.name m) h = refl
term_is_infix (t.type_name m) h = refl
term_is_infix (t.this sp) h = refl
term_is_infix (t.consume m sp) h = refl
term_is_infix (t.not_ e sp) h = refl
term_is_infix (t.chain e ss sp) h = refl
term_is_infix (t.group b sp) h = refl
term_is_infix (t.if_ a o sp) h = refl
term_is_infix (t.while_ c b sp) h = refl
term_is_infix (t.recover c b sp) h = refl

is_more : (es : List t.Expr) → 0 < length es → IsMore (exprs_of es)
is_more [] h = absurd (omega arith)
is_more (e ∷ es) h = tt

module _ (u : Bool) (n : ℕ) where
  abbrev MoreTerm : Op → t.Expr → List Token → Type 0
  MoreTerm o e ts = (x : Token) × (a : List Token) × (ts ≡ x ∷ a) × (op_of x ≡ Some o) × TermIn u n e a

  listed_terms : (o : Op) (es : List t.Expr) (ts : List Token) → Listed (MoreTerm o) es ts → SpellsMoreTerms (exprs_of es) o ts × Fits u n (exprs_depth (exprs_of es))
  listed_terms o [] ts h = (h, fits_zero u n)
  listed_terms o (e ∷ es) ts h =
      let x = h.3 in
      let g = listed_terms o es h.1 h.4 in
      ((x.0, x.1, h.1, h.2 ∙ ap (λ l. l ++ h.1) x.2, x.3, x.4.0, x.4.1, g.0), fits_max u n (depth e) (exprs_depth (exprs_of es)) x.4.2 g.1)

  -- ---- `consume`

  consume_at : (x : Token) → is_word w.ConsumeWord x ≡ true → (v : t.Expr) (a : List Token) → Then NameAt (λ m. Only (t.consume m (span_from_to x.span m.span))) v a → TermIn u n v (x ∷ a)
  consume_at x is v a h =
      let y = h.4.0 in
      let cut : x ∷ a ≡ x ∷ y ∷ [] = ap (λ l. x ∷ l) (begins_one y a h.1 h.2 [] h.3 h.4.1 h.5.0) in
      subst (λ v. TermIn u n v (x ∷ a)) (sym h.5.1)
      (refl, (x, y, cut, is, h.4.2, ap (span_from_to x.span) (sym h.4.2.1) ∙ sym (ap over cut)), fits_zero u n)

  explained_consume : (x : Token) (ts : List Token) → is_word w.ConsumeWord x ≡ true → Explained u (TermIn u n) (x ∷ ts) (consume (x ∷ ts))
  unfolding consume
  explained_consume x ts is =
      let made = λ (m : Name). t.consume m (span_from_to x.span m.span) in
      opened u (TermIn u n) (Then NameAt (λ m. Only (made m))) (is_word w.ConsumeWord) x ts _ is (consume_at x is)
      (explained_bind NameAt (λ m. Only (made m)) u ts _ (name ts) (explained_name u ts) (λ m r e. explained_only u _ r) (λ m. some_only _))

  module _ (i : Inner) (hi : ExplainedInner u n i) where
    -- ---- `not`

    abbrev NotRest : Token → t.Expr → List Token → Type 0
    NotRest x = Then (TermIn u (n - 1)) (λ e. Only (t.not_ e (span_from_to x.span (t.span_of e))))

    not_at : (x : Token) → is_word w.NotWord x ≡ true → Fits u n 1 → (v : t.Expr) (a : List Token) → NotRest x v a → TermIn u n v (x ∷ a)
    not_at x is room v a h =
        let cut : x ∷ a ≡ x ∷ h.1 = ap (λ l. x ∷ l) (ends_nil a h.1 h.2 h.3 h.5.0) in
        subst (λ v. TermIn u n v (x ∷ a)) (sym h.5.1) (refl, (x, h.1, cut, is, h.4.0, h.4.1, sym (ap over cut ∙ over_not x h.0 h.1 h.4.1)), fits_suc u n (depth h.0) room h.4.2)

    explained_negation : (x : Token) (ts : List Token) → is_word w.NotWord x ≡ true → Explained u (TermIn u n) (x ∷ ts) (negation n i.term (x ∷ ts))
    unfolding negation
    explained_negation x ts is =
        let M = λ (e : t.Expr). Only (t.not_ e (span_from_to x.span (t.span_of e))) in
        let some = some_then (TermIn u (n - 1)) M (some_term u (n - 1)) (λ e. some_only _) in
        explained_deeper u (TermIn u n) n _ x ts (some_term u n) (λ room. (some.0, some.1, not_at x is room some.1 some.0 some.2))
        (λ lt. opened u (TermIn u n) (NotRest x) (is_word w.NotWord) x ts _ is (not_at x is (fits_some u n lt)) (explained_bind (TermIn u (n - 1)) M u ts _ (i.term ts) ((hi lt).2 ts) (λ e r e1. explained_only u _ r) (λ e. some_only _)))

    -- ---- terms

    term_by : (x : Token) (ts : List Token) (a b : Bool) → is_word w.NotWord x ≡ a → is_word w.ConsumeWord x ≡ b → Explained u (TermIn u n) (x ∷ ts) (cond a (negation n i.term) (cond b consume (postfix n i)) (x ∷ ts))
    term_by x ts true b e f = explained_negation x ts e
    term_by x ts false true e f = explained_consume x ts f
    term_by x ts false false e f = explained_postfix u n i (λ lt. (hi lt).0) (λ lt. (hi lt).1) (x ∷ ts)

    pub explained_term : (ts : List Token) → Explained u (TermIn u n) ts (term n i ts)
    unfolding term peek
    explained_term [] = explained_refuse u (TermIn u n) [] (some_term u n)
    explained_term (x ∷ ts) = term_by x ts (is_word w.NotWord x) (is_word w.ConsumeWord x) refl refl

    -- ---- operators

    each_term : (o : Op) (ts begin : List Token) → after (is_op o) ts ≡ Some begin → Explained u (MoreTerm o) ts (term n i begin)
    each_term o ts begin h =
        let f = after_is (is_op o) ts begin h in
        let P : List Token → Type 0 = λ l. Explained u (MoreTerm o) l (term n i begin) in
        subst P (sym f.1) (explained_cons u (MoreTerm o) (TermIn u n) f.0 begin (λ v a m. (f.0, a, refl, op_is o f.0 f.2, m)) (term n i begin) (explained_term begin))

    abbrev InfixRest : t.Expr → t.Expr → List Token → Type 0
    InfixRest e v b = ((b ≡ []) × (v ≡ e)) ⊎ ((o : Op) × (es : List t.Expr) × (0 < length es) × Listed (MoreTerm o) es b × (v ≡ infix_of o (e ∷ es)))

    infix_rest_by : (e : t.Expr) (x : Token) (ts : List Token) (w : Option Op) → op_of x ≡ w → Explained u (InfixRest e) (x ∷ ts) (infix_by (term n i) e w (x ∷ ts))
    infix_rest_by e x ts None is = ([], refl, inl (refl, refl))
    infix_rest_by e x ts (Some o) is =
        let M = λ (es : List t.Expr) (a : List Token). (0 < length es) × Listed (MoreTerm o) es a in
        let N = λ (es : List t.Expr). Only (infix_of o (e ∷ es)) in
        explained_weaker u (Then M N) (InfixRest e) (x ∷ ts) _
        (λ v a h. let P : List Token → Type 0 = λ l. Listed (MoreTerm o) h.0 l in inr (o, h.0, h.4.0, subst P (sym (ends_nil a h.1 h.2 h.3 h.5.0)) h.4.1, h.5.1))
        (explained_bind M N u (x ∷ ts) _ _ (explained_more u (MoreTerm o) (after (is_op o)) (term n i) (each_term o) x ts ts (after_op x o ts is)) (λ es r e1. explained_only u _ r) (λ es. some_only _))

    infix_rest : (e : t.Expr) (ts : List Token) → Explained u (InfixRest e) ts ((peek >>= λ x. infix_by (term n i) e (op_of x)) ts)
    unfolding peek
    infix_rest e [] = explained_refuse u (InfixRest e) [] ([], e, inl (refl, refl))
    infix_rest e (x ∷ ts) = infix_rest_by e x ts (op_of x) refl

    infix_whole : (v : t.Expr) (ts : List Token) → Then (TermIn u n) InfixRest v ts → InfixIn u n v ts
    unfolding infix_of
    infix_whole v ts h = elim h.5 [
      | inl g ↦ (
          let P : List Token → Type 0 = λ l. Spells h.0 l in
          let Q : t.Expr → Type 0 = λ e. InfixIn u n e ts in
          subst Q (sym g.1) (term_is_infix h.0 h.4.0, subst P (sym (ends_nil ts h.1 h.2 h.3 g.0)) h.4.1, h.4.2))
      | inr g ↦ (
          let Q : t.Expr → Type 0 = λ e. InfixIn u n e ts in
          let more = listed_terms g.0 g.1 h.2 g.3 in
          let terms : SpellsTerms (exprs_of (h.0 ∷ g.1)) g.0 ts = (h.1, h.2, h.3, h.4.0, h.4.1, is_more g.1 g.2, more.0) in
          let span = ap (λ l. span_from_to (first_expr l) (last_expr no_span l)) (sym (exprs_list (h.0 ∷ g.1))) ∙ terms_span (exprs_of (h.0 ∷ g.1)) g.0 ts terms in
          subst Q (sym g.4) (refl, (terms, span), fits_max u n (depth h.0) (exprs_depth (exprs_of g.1)) h.4.2 more.1))
    ]

    pub explained_infix : (ts : List Token) → Explained u (InfixIn u n) ts (infix_in n i ts)
    unfolding infix_in infix_with
    explained_infix ts =
        explained_weaker u (Then (TermIn u n) InfixRest) (InfixIn u n) ts _ infix_whole
        (explained_bind (TermIn u n) InfixRest u ts _ (term n i ts) (explained_term ts) (λ e r e1. infix_rest e r) (λ e. ([], e, inl (refl, refl))))

    -- ---- assignments

    abbrev ExprRest : t.Expr → t.Expr → List Token → Type 0
    ExprRest e v b = ((b ≡ []) × (v ≡ e)) ⊎ ((x : Token) × (c : List Token) × (r : t.Expr) × (b ≡ x ∷ c) × (is_place e ≡ true) × (is_sign s.Assign x ≡ true) × ExprIn u (n - 1) r c × Fits u n 1 × (v ≡ t.assign e r (span_from_to (t.span_of e) (t.span_of r))))

    abbrev AssignEnd : t.Expr → t.Expr → List Token → Type 0
    AssignEnd e = Then (ExprIn u (n - 1)) (λ r. Only (t.assign e r (span_from_to (t.span_of e) (t.span_of r))))

    becomes_at : (e : t.Expr) (x : Token) → is_sign s.Assign x ≡ true → is_place e ≡ true → Fits u n 1 → (v : t.Expr) (a : List Token) → AssignEnd e v a → ExprRest e v (x ∷ a)
    becomes_at e x is place room v a h = inr (x, h.1, h.0, ap (λ l. x ∷ l) (ends_nil a h.1 h.2 h.3 h.5.0), place, is, h.4, room, h.5.1)

    explained_becomes : (e : t.Expr) (x : Token) (ts : List Token) → is_sign s.Assign x ≡ true → is_place e ≡ true → Explained u (ExprRest e) (x ∷ ts) (becomes n i.expr e (x ∷ ts))
    unfolding becomes
    explained_becomes e x ts is place =
        let M = λ (r : t.Expr). Only (t.assign e r (span_from_to (t.span_of e) (t.span_of r))) in
        let some = some_then (ExprIn u (n - 1)) M (some_expr u (n - 1)) (λ r. some_only _) in
        explained_deeper u (ExprRest e) n _ x ts ([], e, inl (refl, refl)) (λ room. (some.0, some.1, becomes_at e x is place room some.1 some.0 some.2))
        (λ lt. rw (taken (is_sign s.Assign) x ts is) (explained_cons u (ExprRest e) (AssignEnd e) x ts (becomes_at e x is place (fits_some u n lt)) _ (explained_bind (ExprIn u (n - 1)) M u ts _ (i.expr ts) ((hi lt).1 ts) (λ r q e1. explained_only u _ q) (λ r. some_only _))))

    expr_rest_by : (e : t.Expr) (x : Token) (ts : List Token) (a b : Bool) → is_sign s.Assign x ≡ a → is_place e ≡ b → Explained u (ExprRest e) (x ∷ ts) (cond (a && b) (becomes n i.expr e) (pure e) (x ∷ ts))
    expr_rest_by e x ts true true is place = explained_becomes e x ts is place
    expr_rest_by e x ts true false is place = ([], refl, inl (refl, refl))
    expr_rest_by e x ts false b is place = ([], refl, inl (refl, refl))

    expr_rest : (e : t.Expr) (ts : List Token) → Explained u (ExprRest e) ts ((peek >>= λ x. expr_by n i.expr e x) ts)
    unfolding peek
    expr_rest e [] = explained_refuse u (ExprRest e) [] ([], e, inl (refl, refl))
    expr_rest e (x ∷ ts) = expr_rest_by e x ts (is_sign s.Assign x) (is_place e) refl refl

    expr_whole : (v : t.Expr) (ts : List Token) → Then (InfixIn u n) ExprRest v ts → ExprIn u n v ts
    expr_whole v ts h = elim h.5 [
      | inl g ↦ (
          let P : List Token → Type 0 = λ l. Spells h.0 l in
          let Q : t.Expr → Type 0 = λ e. ExprIn u n e ts in
          subst Q (sym g.1) (subst P (sym (ends_nil ts h.1 h.2 h.3 g.0)) h.4.1, h.4.2))
      | inr g ↦ (
          let Q : t.Expr → Type 0 = λ e. ExprIn u n e ts in
          let cut = joined ts h.1 h.2 (g.0 ∷ g.1) h.3 g.3 in
          let span = sym (ap over cut ∙ over_assign g.0 h.0 g.2 h.1 g.1 h.4.1 g.6.0) in
          subst Q (sym g.8) ((g.0, h.1, g.1, cut, g.4, h.4.1, g.5, g.6.0, span), fits_max u n (depth h.0) (suc (depth g.2)) h.4.2 (fits_suc u n (depth g.2) g.7 g.6.1)))
    ]

    pub explained_expr : (ts : List Token) → Explained u (ExprIn u n) ts (expr_in n i ts)
    unfolding expr_in expr_with
    explained_expr ts =
        explained_weaker u (Then (InfixIn u n) ExprRest) (ExprIn u n) ts _ expr_whole
        (explained_bind (InfixIn u n) ExprRest u ts _ (infix_in n i ts) (explained_infix ts) (λ e r e1. expr_rest e r) (λ e. ([], e, inl (refl, refl))))
