-- Arguments, suffixes and chains of them are explained if the expressions inside are.
use Rattle.std.proofs.Common.{◌≡◌, ℕ, ◌-◌, ◌<◌, Bool, true, false, not, ◌&&◌, List, [], ◌∷◌, ◌++◌, Option, Some, None, refl, sym, ap, ◌∙◌, subst, cond}
use Rattle.pc_tree.specs.Tree as t
use Rattle.pc_tree.specs.{Depths.{depth, exprs_depth, suffix_depth, suffixes_depth}, Parts.{exprs_of, suffixes_of}}
use Rattle.pc_token.specs.{declared.kinds.Token.Token, Words.is_sign}
use Rattle.pc_token.specs.declared.kinds.TokenKind.TheVariants as k
use Rattle.pc_token.specs.declared.signs.Sign.TheVariants as s
use Rattle.pc_grammar.specs.{Spells.{span_from_to, over, is_atom, is_term, Spells, SpellsMoreArgs, SpellsSuffixes}, Reading.{Parser, Inner, pure, ◌>>=◌, ◌>>◌, peek, take_if, all, after, at, begins_suffix, name, arg_list, args, suffix, postfix, atom, chain_of, last_suffix}}
use Rattle.pc_grammar.proofs.{Lists.suffixes_list, Spans.{over_closed, chain_span}, Explained.{Fits, fits_zero, fits_max, fits_suc, fits_some, Explained, Then, Only, Listed, Inhabited, some_only, some_then, explained_bind, explained_weaker, explained_only, explained_refuse, explained_deeper, explained_all}, ExplainedParts.{explained_cons, taken, opened, ends_nil, joined, begins_one, of_kind, a_sign, AtomIn, TermIn, ExprIn, SuffixIn, ArgsIn, SeqIn, NameAt, some_args, some_suffix, explained_name}, ExplainedAtoms.{Closes, some_close, explained_close, closed, at_is, at_nil, explained_atom}}

-- ---- where lists continue

open_by : (x : Token) (a b : Bool) → is_sign s.OpenParen x ≡ a → x.first ≡ b → (a && not b) ≡ true → (is_sign s.OpenParen x ≡ true) × (x.first ≡ false)
open_by x true false e f h = (e, f)
open_by x true true e f h = absurd (cc)
open_by x false b e f h = absurd (cc)

pub open_suffix_is : (x : Token) → is_sign s.Dot x ≡ false → begins_suffix x ≡ true → (is_sign s.OpenParen x ≡ true) × (x.first ≡ false)
unfolding begins_suffix
open_suffix_is x e h = open_by x (is_sign s.OpenParen x) x.first refl refl (rw e at h)

after_by : (test : Token → Bool) (x : Token) (ts begin : List Token) (b : Bool) → test x ≡ b → ◌≡◌ {A = Option (List Token)} (cond b (Some ts) None) (Some begin) → (y : Token) × (x ∷ ts ≡ y ∷ begin) × (test y ≡ true)
after_by test x ts begin true e h = let f : ts ≡ begin = cc in (x, ap (λ l. x ∷ l) f, e)
after_by test x ts begin false e h = absurd (cc)

pub after_is : (test : Token → Bool) (ts begin : List Token) → after test ts ≡ Some begin → (x : Token) × (ts ≡ x ∷ begin) × (test x ≡ true)
unfolding after
after_is test [] begin h = absurd (cc)
after_is test (x ∷ ts) begin h = after_by test x ts begin (test x) refl h

-- ---- arguments

module _ (u : Bool) (m : ℕ) (p : Parser t.Expr) (hp : (ts : List Token) → Explained u (ExprIn u m) ts (p ts)) where
  abbrev MoreArg : t.Expr → List Token → Type 0
  MoreArg e ts = (x : Token) × (a : List Token) × (ts ≡ x ∷ a) × (is_sign s.Comma x ≡ true) × ExprIn u m e a

  listed_args : (es : List t.Expr) (ts : List Token) → Listed MoreArg es ts → SpellsMoreArgs (exprs_of es) ts × Fits u m (exprs_depth (exprs_of es))
  listed_args [] ts h = (h, fits_zero u m)
  listed_args (e ∷ es) ts h =
      let x = h.3 in
      let g = listed_args es h.1 h.4 in
      ((x.0, x.1, h.1, h.2 ∙ ap (λ l. l ++ h.1) x.2, x.3, x.4.0, g.0), fits_max u m (depth e) (exprs_depth (exprs_of es)) x.4.1 g.1)

  each_arg : (ts begin : List Token) → after (is_sign s.Comma) ts ≡ Some begin → Explained u MoreArg ts (p begin)
  each_arg ts begin h =
      let f = after_is (is_sign s.Comma) ts begin h in
      subst (λ l. Explained u MoreArg l (p begin)) (sym f.1) (explained_cons u MoreArg (ExprIn u m) f.0 begin (λ v a m. (f.0, a, refl, f.2, m)) (p begin) (hp begin))

  abbrev ArgsRest : t.Expr → t.Exprs → List Token → Type 0
  ArgsRest e = Then (Listed MoreArg) (λ es. Only (exprs_of (e ∷ es)))

  args_whole : (v : t.Exprs) (a : List Token) → Then (ExprIn u m) ArgsRest v a → ArgsIn u m v a
  args_whole v a h =
      let g = h.5 in
      let more = listed_args g.0 g.1 g.4 in
      let cut = joined a h.1 h.2 g.1 h.3 (ends_nil h.2 g.1 g.2 g.3 g.5.0) in
      subst (λ v. ArgsIn u m v a) (sym g.5.1) ((h.1, g.1, cut, h.4.0, more.0), fits_max u m (depth h.0) (exprs_depth (exprs_of g.0)) h.4.1 more.1)

  some_args_rest : (e : t.Expr) → Inhabited (ArgsRest e)
  some_args_rest e = some_then (Listed MoreArg) (λ es. Only (exprs_of (e ∷ es))) ([], [], refl) (λ es. some_only _)

  arg_list_by : (x : Token) (ts : List Token) (b : Bool) → Explained u (ArgsIn u m) (x ∷ ts) (cond b (pure t.no_exprs) (p >>= λ first. all (after (is_sign s.Comma)) p >>= λ more. pure (exprs_of (first ∷ more))) (x ∷ ts))
  arg_list_by x ts true = ([], refl, (refl, fits_zero u m))
  arg_list_by x ts false =
      explained_weaker u (Then (ExprIn u m) ArgsRest) (ArgsIn u m) (x ∷ ts) _ args_whole
      (explained_bind (ExprIn u m) ArgsRest u (x ∷ ts) _ (p (x ∷ ts)) (hp (x ∷ ts))
      (λ e r e1. explained_bind (Listed MoreArg) (λ es. Only (exprs_of (e ∷ es))) u r _ _ (explained_all u MoreArg (after (is_sign s.Comma)) p each_arg r) (λ es q e2. explained_only u _ q) (λ es. some_only _)) some_args_rest)

  pub explained_arg_list : (ts : List Token) → Explained u (ArgsIn u m) ts (arg_list p ts)
  unfolding arg_list peek
  explained_arg_list [] = explained_refuse u (ArgsIn u m) [] (some_args u m)
  explained_arg_list (x ∷ ts) = arg_list_by x ts (is_sign s.CloseParen x)

-- ---- suffixes

module _ (u : Bool) (n : ℕ) (p : Parser t.Expr) (hp : 0 < n → (ts : List Token) → Explained u (ExprIn u (n - 1)) ts (p ts)) where
  abbrev ArgsEnd : Token → t.Suffix → List Token → Type 0
  ArgsEnd x = Then (ArgsIn u (n - 1)) (λ es. Closes (is_sign s.CloseParen) (λ y. t.args es (span_from_to x.span y.span)))

  args_at : (x : Token) → is_sign s.OpenParen x ≡ true → x.first ≡ false → Fits u n 1 → (v : t.Suffix) (a : List Token) → ArgsEnd x v a → SuffixIn u n v (x ∷ a)
  args_at x is apart room v a h =
      let j = h.5 in
      let f = λ (y : Token). t.args h.0 (span_from_to x.span y.span) in
      let cut : x ∷ a ≡ x ∷ (h.1 ++ j.0 ∷ []) = ap (λ l. x ∷ l) (joined a h.1 h.2 (j.0 ∷ []) h.3 (closed u (is_sign s.CloseParen) f v h.2 j)) in
      subst (λ v. SuffixIn u n v (x ∷ a)) (sym j.5.1) ((x, j.0, h.1, cut, is, apart, h.4.0, j.4.1, sym (ap over cut ∙ over_closed x j.0 h.1)), fits_suc u n (exprs_depth h.0) room h.4.1)

  explained_args : (x : Token) (ts : List Token) → is_sign s.OpenParen x ≡ true → x.first ≡ false → Explained u (SuffixIn u n) (x ∷ ts) (args n p (x ∷ ts))
  unfolding args
  explained_args x ts is apart =
      let M = λ (es : t.Exprs). Closes (is_sign s.CloseParen) (λ y. t.args es (span_from_to x.span y.span)) in
      let some1 = λ (es : t.Exprs). some_close u (is_sign s.CloseParen) (λ y. t.args es (span_from_to x.span y.span)) (of_kind (k.Sign s.CloseParen)) (a_sign s.CloseParen) in
      let some = some_then (ArgsIn u (n - 1)) M (some_args u (n - 1)) some1 in
      explained_deeper u (SuffixIn u n) n _ x ts (some_suffix u n) (λ room. (some.0, some.1, args_at x is apart room some.1 some.0 some.2))
      (λ lt. opened u (SuffixIn u n) (ArgsEnd x) (is_sign s.OpenParen) x ts _ is (args_at x is apart (fits_some u n lt))
      (explained_bind (ArgsIn u (n - 1)) M u ts _ (arg_list p ts) (explained_arg_list u (n - 1) p (hp lt) ts)
      (λ es r e. explained_close u (is_sign s.CloseParen) (λ y. t.args es (span_from_to x.span y.span)) (of_kind (k.Sign s.CloseParen)) (a_sign s.CloseParen) r) some1))

  dot_at : (x : Token) → is_sign s.Dot x ≡ true → (v : t.Suffix) (a : List Token) → Then NameAt (λ m. Only (t.dot m)) v a → SuffixIn u n v (x ∷ a)
  dot_at x is v a h = subst (λ v. SuffixIn u n v (x ∷ a)) (sym h.5.1) ((x, h.4.0, ap (λ l. x ∷ l) (begins_one h.4.0 a h.1 h.2 [] h.3 h.4.1 h.5.0), is, h.4.2), fits_zero u n)

  suffix_by : (x : Token) (ts : List Token) (b : Bool) → is_sign s.Dot x ≡ b → begins_suffix x ≡ true → Explained u (SuffixIn u n) (x ∷ ts) (cond b (take_if (is_sign s.Dot) >> name >>= λ m. pure (t.dot m)) (args n p) (x ∷ ts))
  suffix_by x ts true e begins =
      rw (taken (is_sign s.Dot) x ts e) (explained_cons u (SuffixIn u n) (Then NameAt (λ m. Only (t.dot m))) x ts (dot_at x e) _
      (explained_bind NameAt (λ m. Only (t.dot m)) u ts _ (name ts) (explained_name u ts) (λ m r e1. explained_only u _ r) (λ m. some_only _)))
  suffix_by x ts false e begins = let f = open_suffix_is x e begins in explained_args x ts f.0 f.1

  explained_suffix : (x : Token) (ts : List Token) → begins_suffix x ≡ true → Explained u (SuffixIn u n) (x ∷ ts) (suffix n p (x ∷ ts))
  unfolding suffix peek
  explained_suffix x ts begins = suffix_by x ts (is_sign s.Dot x) refl begins

  pub each_suffix : (ts begin : List Token) → at begins_suffix ts ≡ Some begin → Explained u (SuffixIn u n) ts (suffix n p begin)
  each_suffix [] begin h = absurd (at_nil begins_suffix begin h)
  each_suffix (x ∷ ts) begin h =
      let f = at_is begins_suffix x ts begin h in
      subst (λ l. Explained u (SuffixIn u n) (x ∷ ts) (suffix n p l)) (sym f.0) (explained_suffix x ts f.1)

-- ---- chains

atom_is_term : (e : t.Expr) → is_atom e ≡ true → is_term e ≡ true
atom_is_term (t.infix_ o es sp) h = cc
atom_is_term (t.assign l r sp) h = cc
atom_is_term (t.number v sp) h = refl
atom_is_term (t.truth b sp) h = refl
atom_is_term (t.text b sp) h = refl
atom_is_term (t.name m) h = refl
atom_is_term (t.type_name m) h = refl
atom_is_term (t.this sp) h = refl
atom_is_term (t.consume m sp) h = refl
atom_is_term (t.not_ e sp) h = refl
atom_is_term (t.chain e ss sp) h = refl
atom_is_term (t.group b sp) h = refl
atom_is_term (t.if_ a o sp) h = refl
atom_is_term (t.while_ c b sp) h = refl
atom_is_term (t.recover c b sp) h = refl

module _ (u : Bool) (n : ℕ) where
  listed_suffixes : (ss : List t.Suffix) (ts : List Token) → Listed (SuffixIn u n) ss ts → SpellsSuffixes (suffixes_of ss) ts × Fits u n (suffixes_depth (suffixes_of ss))
  listed_suffixes [] ts h = (h, fits_zero u n)
  listed_suffixes (x ∷ ss) ts h = let g = listed_suffixes ss h.1 h.4 in ((h.0, h.1, h.2, h.3.0, g.0), fits_max u n (suffix_depth x) (suffixes_depth (suffixes_of ss)) h.3.1 g.1)

  chain_is : (e : t.Expr) (ss : List t.Suffix) (ts a b : List Token) → ts ≡ a ++ b → AtomIn u n e a → Listed (SuffixIn u n) ss b → TermIn u n (chain_of e ss) ts
  unfolding chain_of
  chain_is e [] ts a b cut m h = let P : List Token → Type 0 = λ l. Spells e l in (atom_is_term e m.0, subst P (sym (ends_nil ts a b cut h)) m.1, m.2)
  chain_is e (x ∷ ss) ts a b cut m h =
      let g = listed_suffixes (x ∷ ss) b h in
      let span = ap (λ l. span_from_to (t.span_of e) (last_suffix (t.span_of e) l)) (sym (suffixes_list (x ∷ ss))) ∙ chain_span e (suffixes_of (x ∷ ss)) a b ts cut m.1 g.0 in
      (refl, (a, b, cut, m.0, m.1, tt, g.0, span), fits_max u n (depth e) (suffixes_depth (suffixes_of (x ∷ ss))) m.2 g.1)

  module _ (i : Inner) (hs : 0 < n → (ts : List Token) → Explained u (SeqIn u (n - 1)) ts (i.seq ts)) (he : 0 < n → (ts : List Token) → Explained u (ExprIn u (n - 1)) ts (i.expr ts)) where
    abbrev ChainRest : t.Expr → t.Expr → List Token → Type 0
    ChainRest e = Then (Listed (SuffixIn u n)) (λ ss. Only (chain_of e ss))

    chain_whole : (v : t.Expr) (a : List Token) → Then (AtomIn u n) ChainRest v a → TermIn u n v a
    chain_whole v a h =
        let g = h.5 in
        subst (λ v. TermIn u n v a) (sym g.5.1) (chain_is h.0 g.0 a h.1 g.1 (joined a h.1 h.2 g.1 h.3 (ends_nil h.2 g.1 g.2 g.3 g.5.0)) h.4 g.4)

    some_chain_rest : (e : t.Expr) → Inhabited (ChainRest e)
    some_chain_rest e = some_then (Listed (SuffixIn u n)) (λ ss. Only (chain_of e ss)) ([], [], refl) (λ ss. some_only _)

    pub explained_postfix : (ts : List Token) → Explained u (TermIn u n) ts (postfix n i ts)
    unfolding postfix
    explained_postfix ts =
        explained_weaker u (Then (AtomIn u n) ChainRest) (TermIn u n) ts _ chain_whole
        (explained_bind (AtomIn u n) ChainRest u ts _ (atom n i.seq ts) (explained_atom u n i.seq hs ts)
        (λ e r e1. explained_bind (Listed (SuffixIn u n)) (λ ss. Only (chain_of e ss)) u r _ _ (explained_all u (SuffixIn u n) (at begins_suffix) (suffix n i.expr) (each_suffix u n i.expr he) r) (λ ss q e2. explained_only u _ q) (λ ss. some_only _)) some_chain_rest)
