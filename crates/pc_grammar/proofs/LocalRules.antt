-- Each rule has one token of lookahead.
use Rattle.std.proofs.Common.{◌≡◌, ℕ, zero, suc, ◌<◌, Bool, true, false, List, [], ◌∷◌, ◌++◌, length, Option, Some, None, Ok, Err, ap, ◌∙◌, arith, cond, length-append}
use Rattle.pc_base.specs.declared.span.Span.{Span}
use Rattle.pc_caps.specs.declared.capability.Cap.{Cap}
use Rattle.pc_tree.specs.Tree as t
use Rattle.pc_tree.specs.declared.kinds.Op.{Op}
use Rattle.pc_token.specs.{declared.kinds.Token.Token, declared.kinds.TokenKind.TokenKind, declared.words.Word.Word, Words.{is_sign, is_word}}
use Rattle.pc_token.specs.declared.kinds.TokenKind.TheVariants as k
use Rattle.pc_token.specs.declared.words.Word.TheVariants as w
use Rattle.pc_token.specs.declared.signs.Sign.TheVariants as s
use Rattle.pc_grammar.specs.{Spells.{op_of, cap_of}, Reading.{unexpected, ReadingOutcome, Parser, Inner, refuse, ◌>>=◌, take_if, deeper, name, name_at, type_name, type_name_at, cap_by, maybe_cap, written_type, maybe_type, group, arm, if_, while_, recover_, other, leaf, atom, atom_at, args, arg_list, suffix, postfix, negation, consume, term, infix_in, infix_with, infix_by, becomes, assigns, expr_in, expr_with, local, item, seq_in, seq_with, inner, next_item, after, at, is_op, begins_suffix}}
use Rattle.pc_grammar.proofs.{Lifts.bind_ok, Local.{rest_of, Local, Takes, local_bind, local_pure, local_refuse, local_peek, local_take, local_deeper}, LocalLoops.{after_ahead, at_ahead, item_ahead, local_all}}

pub record Good {A : Type 0} (p : Parser A) : Type 0 where
  pub local : Local p
  pub takes : Takes p

pub good_bind : {A B : Type 0} (p : Parser A) (f : A → Parser B) → Good p → ((x : A) → Local (f x)) → Good (p >>= f)
good_bind p f g l = record {
  local = local_bind p f g.local l;
  takes = λ ts rest x e.
      let q = bind_ok (p ts) f _ e in
      let one = g.takes ts q.0.1 q.0.0 q.1 in
      let two = (l q.0.0).suffix q.0.1 in
      let left : q.0.1 ≡ two.0 ++ rest = two.1 ∙ ap (λ o. two.0 ++ rest_of o) q.2 in
      omega (arith, one, ap length left, length-append two.0 rest);
}

pub good_then : {A B : Type 0} (p : Parser A) (f : A → Parser B) → Local p → ((x : A) → Good (f x)) → Good (p >>= f)
good_then p f l g = record {
  local = local_bind p f l (λ x. (g x).local);
  takes = λ ts rest x e.
      let q = bind_ok (p ts) f _ e in
      let one = l.suffix ts in
      let left : ts ≡ one.0 ++ q.0.1 = one.1 ∙ ap (λ o. one.0 ++ rest_of o) q.1 in
      let two = (g q.0.0).takes q.0.1 rest x q.2 in
      omega (arith, two, ap length left, length-append one.0 q.0.1);
}

pub good_refuse : {A : Type 0} → Good (refuse {A = A})
good_refuse = record { local = local_refuse; takes = λ ts rest x e. absurd (cc e) }

taken : (y : Token) (ts rest : List Token) (x : Token) (b : Bool) → ◌≡◌ {A = ReadingOutcome Token} (cond b (Ok (y, ts)) (Err (unexpected, y ∷ ts))) (Ok (x, rest)) → length rest < length (y ∷ ts)
taken y ts rest x true e = let f : ◌≡◌ {A = Token × List Token} (y, ts) (x, rest) = cc in omega (arith, ap (λ p. length p.1) f)
taken y ts rest x false e = absurd (cc)

take_takes : (test : Token → Bool) → Takes (take_if test)
unfolding take_if
take_takes test [] rest x = λ e. absurd (cc e)
take_takes test (y ∷ ts) rest x = taken y ts rest x (test y)

pub good_take : (test : Token → Bool) → Good (take_if test)
good_take test = record { local = local_take test; takes = take_takes test }

pub good_deeper : {A : Type 0} (n : ℕ) (p : Parser A) → Good p → Good (deeper n p)
unfolding deeper
good_deeper zero p g = record { local = local_deeper zero p g.local; takes = λ ts rest x e. absurd (cc e) }
good_deeper (suc n) p g = g

pub good_cond : {A : Type 0} (b : Bool) (p q : Parser A) → Good p → Good q → Good (cond b p q)
good_cond true p q g h = g
good_cond false p q g h = h

pub local_cond : {A : Type 0} (b : Bool) (p q : Parser A) → Local p → Local q → Local (cond b p q)
local_cond true p q g h = g
local_cond false p q g h = h

pub good_name_at : (kk : TokenKind) → Good (name_at kk)
good_name_at (k.Name text) = good_bind _ _ (good_take _) (λ y. local_pure _)
good_name_at _ = good_refuse

pub good_name : Good name
unfolding name
good_name = good_then _ _ local_peek (λ x. good_name_at x.kind)

pub good_type_name_at : (kk : TokenKind) → Good (type_name_at kk)
good_type_name_at (k.TypeName text) = good_bind _ _ (good_take _) (λ y. local_pure _)
good_type_name_at _ = good_refuse

pub good_type_name : Good type_name
unfolding type_name
good_type_name = good_then _ _ local_peek (λ x. good_type_name_at x.kind)

pub local_cap_by : (o : Option Cap) → Local (cap_by o)
local_cap_by None = local_pure _
local_cap_by (Some c) = local_bind _ _ (local_take _) (λ y. local_pure _)

pub local_maybe_cap : Local maybe_cap
unfolding maybe_cap
local_maybe_cap = local_bind _ _ local_peek (λ x. local_cap_by (cap_of x))

pub good_written_type : Good written_type
unfolding written_type
good_written_type = good_bind _ _ good_type_name (λ m. local_bind _ _ local_maybe_cap (λ c. local_pure _))

pub local_maybe_type : Local maybe_type
unfolding maybe_type
local_maybe_type = local_bind _ _ local_peek (λ x. local_cond (is_sign s.Colon x) _ _ (local_bind _ _ (local_bind _ _ (local_take _) (λ y. good_written_type.local)) (λ r. local_pure _)) (local_pure _))

pub good_leaf : (f : Span → t.Expr) → Good (leaf f)
good_leaf f = good_bind _ _ (good_take _) (λ x. local_pure _)

pub good_consume : Good consume
unfolding consume
good_consume = good_bind _ _ (good_take _) (λ x. local_bind _ _ good_name.local (λ m. local_pure _))

module _ (n : ℕ) (p : Parser t.Seq) (lp : Local p) where
  pub good_group : Good (group n p)
  unfolding group
  good_group = good_deeper n _ (good_bind _ _ (good_take _) (λ x. local_bind _ _ lp (λ b. local_bind _ _ (local_take _) (λ y. local_pure _))))

  pub local_other : Local (other p)
  unfolding other
  local_other = local_bind _ _ local_peek (λ x. local_cond (is_word w.ElseWord x) _ _ (local_bind _ _ (local_bind _ _ (local_take _) (λ y. lp)) (λ b. local_pure _)) (local_pure _))

  pub good_arm : (word : Word) → Good (arm word p)
  unfolding arm
  good_arm word = good_bind _ _ (good_take _) (λ x. local_bind _ _ lp (λ c. local_bind _ _ (local_bind _ _ (local_take _) (λ y. lp)) (λ b. local_pure _)))

  pub good_if : Good (if_ n p)
  unfolding if_
  good_if =
      let more = good_arm w.ElseifWord in
      good_deeper n _ (good_bind _ _ (good_arm w.IfWord) (λ a. local_bind _ _ (local_all (at (is_word w.ElseifWord)) (arm w.ElseifWord p) (at_ahead _) more.local more.takes) (λ xs. local_bind _ _ local_other (λ o. local_bind _ _ (local_take _) (λ z. local_pure _)))))

  pub good_while : Good (while_ n p)
  unfolding while_
  good_while = good_deeper n _ (good_bind _ _ (good_take _) (λ x. local_bind _ _ lp (λ c. local_bind _ _ (local_bind _ _ (local_take _) (λ y. lp)) (λ b. local_bind _ _ (local_take _) (λ z. local_pure _)))))

  pub good_recover : Good (recover_ n p)
  unfolding recover_
  good_recover = good_deeper n _ (good_bind _ _ (good_take _) (λ x. local_bind _ _ local_maybe_cap (λ c. local_bind _ _ lp (λ b. local_bind _ _ (local_take _) (λ z. local_pure _)))))

  pub good_atom_at : (kk : TokenKind) → Good (atom_at n p kk)
  good_atom_at (k.Name text) = good_bind _ _ good_name (λ m. local_pure _)
  good_atom_at (k.TypeName text) = good_bind _ _ good_type_name (λ m. local_pure _)
  good_atom_at (k.Number v) = good_leaf (t.number v)
  good_atom_at (k.Text b) = good_leaf (t.text b)
  good_atom_at (k.Word w.ThisWord) = good_leaf t.this
  good_atom_at (k.Word w.TrueWord) = good_leaf (t.truth true)
  good_atom_at (k.Word w.FalseWord) = good_leaf (t.truth false)
  good_atom_at (k.Sign s.OpenParen) = good_group
  good_atom_at (k.Word w.IfWord) = good_if
  good_atom_at (k.Word w.WhileWord) = good_while
  good_atom_at (k.Word w.RecoverWord) = good_recover
  good_atom_at _ = good_refuse

  pub good_atom : Good (atom n p)
  unfolding atom
  good_atom = good_then _ _ local_peek (λ x. good_atom_at x.kind)

module _ (p : Parser t.Expr) (g : Good p) where
  pub local_arg_list : Local (arg_list p)
  unfolding arg_list
  local_arg_list = local_bind _ _ local_peek (λ x. local_cond (is_sign s.CloseParen x) _ _ (local_pure _) (local_bind _ _ g.local (λ e. local_bind _ _ (local_all (after (is_sign s.Comma)) p (after_ahead _) g.local g.takes) (λ es. local_pure _))))

  pub good_local : (f : Bool) → Good (local f p)
  unfolding local
  good_local f = good_bind _ _ (good_take _) (λ x. local_bind _ _ good_name.local (λ m. local_bind _ _ local_maybe_type (λ ty. local_bind _ _ (local_bind _ _ (local_take _) (λ z. g.local)) (λ v. local_pure _))))

  pub good_item : Good (item p)
  unfolding item
  good_item = good_then _ _ local_peek (λ x. good_cond (is_word w.LetWord x) _ _ (good_local true) (good_cond (is_word w.VarWord x) _ _ (good_local false) (good_bind _ _ g (λ v. local_pure _))))

  pub local_infix_by : (e : t.Expr) (o : Option Op) → Local (infix_by p e o)
  local_infix_by e None = local_pure _
  local_infix_by e (Some o) = local_bind _ _ (local_all (after (is_op o)) p (after_ahead _) g.local g.takes) (λ es. local_pure _)

  pub good_infix_with : Good (infix_with p)
  unfolding infix_with
  good_infix_with = good_bind _ _ g (λ e. local_bind _ _ local_peek (λ x. local_infix_by e (op_of x)))

pub good_seq_with : (p : Parser t.Item) → Good p → Good (seq_with p)
unfolding seq_with
good_seq_with p g = good_bind _ _ g (λ e. local_bind _ _ (local_all next_item p item_ahead g.local g.takes) (λ es. local_pure _))

module _ (n : ℕ) (p : Parser t.Expr) (g : Good p) where
  pub good_args : Good (args n p)
  unfolding args
  good_args = good_deeper n _ (good_bind _ _ (good_take _) (λ x. local_bind _ _ (local_arg_list p g) (λ es. local_bind _ _ (local_take _) (λ y. local_pure _))))

  pub good_suffix : Good (suffix n p)
  unfolding suffix
  good_suffix = good_then _ _ local_peek (λ x. good_cond (is_sign s.Dot x) _ _ (good_bind _ _ (good_bind _ _ (good_take _) (λ y. good_name.local)) (λ m. local_pure _)) good_args)

  pub good_negation : Good (negation n p)
  unfolding negation
  good_negation = good_deeper n _ (good_bind _ _ (good_take _) (λ x. local_bind _ _ g.local (λ e. local_pure _)))

  pub local_becomes : (l : t.Expr) → Local (becomes n p l)
  unfolding becomes
  local_becomes l = local_deeper n _ (local_bind _ _ (local_bind _ _ (local_take _) (λ x. g.local)) (λ e. local_pure _))

pub record GoodInner (i : Inner) : Type 0 where
  pub seq : Good i.seq
  pub expr : Good i.expr
  pub term : Good i.term

module _ (n : ℕ) (i : Inner) (g : GoodInner i) where
  pub good_postfix : Good (postfix n i)
  unfolding postfix
  good_postfix = good_bind _ _ (good_atom n i.seq g.seq.local) (λ e. local_bind _ _ (local_all (at begins_suffix) (suffix n i.expr) (at_ahead _) (good_suffix n i.expr g.expr).local (good_suffix n i.expr g.expr).takes) (λ ss. local_pure _))

  pub good_term : Good (term n i)
  unfolding term
  good_term = good_then _ _ local_peek (λ x. good_cond (is_word w.NotWord x) _ _ (good_negation n i.term g.term) (good_cond (is_word w.ConsumeWord x) _ _ good_consume good_postfix))

  pub good_infix : Good (infix_in n i)
  unfolding infix_in
  good_infix = good_infix_with (term n i) good_term

  pub good_expr : Good (expr_in n i)
  unfolding expr_in expr_with
  good_expr = good_bind _ _ good_infix (λ e. local_bind _ _ local_peek (λ x. local_cond (assigns x e) _ _ (local_becomes n i.expr g.expr e) (local_pure _)))

  pub good_seq : Good (seq_in n i)
  unfolding seq_in
  good_seq = good_seq_with (item (expr_in n i)) (good_item (expr_in n i) good_expr)

pub good_inner : (n : ℕ) → GoodInner (inner n)
unfolding inner
good_inner zero = record { seq = good_refuse; expr = good_refuse; term = good_refuse }
good_inner (suc n) = record { seq = good_seq n (inner n) (good_inner n); expr = good_expr n (inner n) (good_inner n); term = good_term n (inner n) (good_inner n) }
