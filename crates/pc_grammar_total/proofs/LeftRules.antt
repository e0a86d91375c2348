-- The same for each rule of sequences and expressions.
use Rattle.std.proofs.Common.{◌≡◌, ◌≢◌, ℕ, zero, suc, Bool, true, false, ◌&&◌, List, [], ◌∷◌, Option, Some, None, refl, subst, ap, sym, ◌∙◌, cond}
use Rattle.pc_base.specs.declared.span.Span.{Span}
use Rattle.pc_caps.specs.declared.capability.Cap.{Cap}
use Rattle.pc_base.proofs.Bools.{first_true}
use Rattle.pc_tree.specs.Tree as t
use Rattle.pc_tree.specs.declared.kinds.Op.{Op}
use Rattle.pc_token.specs.{declared.kinds.Token.Token, declared.kinds.TokenKind.TokenKind, declared.words.Word.Word, declared.signs.Sign.Sign, Words.{is_sign, is_word}}
use Rattle.pc_token.specs.declared.kinds.TokenKind.TheVariants as k
use Rattle.pc_token.specs.declared.words.Word.TheVariants as w
use Rattle.pc_token.specs.declared.signs.Sign.TheVariants as s
use Rattle.pc_grammar.specs.{Spells.{op_of, cap_of, local_word, is_place}, Reading.{Parser, Inner, peek, take_if, name, name_at, type_name, type_name_at, cap_by, maybe_cap, written_type, maybe_type, group, arm, if_, while_, recover_, other, leaf, atom, atom_at, args, arg_list, suffix, postfix, negation, consume, term, infix_in, infix_with, infix_by, becomes, assigns, expr_in, expr_with, local, item, seq_in, seq_with, inner, next_item, begins_item, is_op, begins_suffix}}
use Rattle.pc_grammar.proofs.{Follow.{kind_of_sign, kind_of_word}, ExplainedChains.open_suffix_is}
use Rattle.pc_expr.proofs.Ends.{is_sign_not_end, is_word_not_end, is_op_not_end, is_cap_not_end}
use Rattle.pc_expr.specs.Gives.{EndsWithEnd}
use Rattle.pc_grammar_total.specs.Levels.{kind_opens, opens_level}
use Rattle.pc_grammar_total.proofs.Left.{Left, Leaves, LeavesAt, anywhere, behind, leaves_pure, leaves_refuse, leaves_bind, at_bind, leaves_peek, leaves_cond, at_cond, leaves_take, at_any, at_deeper, leaves_all, leaves_all_at, leaves_all_after}

-- ---- tokens

pub leaves_sign : (sign : Sign) → Leaves (take_if (is_sign sign))
leaves_sign sign = leaves_take (is_sign sign) (is_sign_not_end sign)

pub leaves_word : (word : Word) → Leaves (take_if (is_word word))
leaves_word word = leaves_take (is_word word) (is_word_not_end word)

pub kind_apart : (kk : TokenKind) (x : Token) → x.kind ≡ kk → kk ≢ k.End → x.kind ≢ k.End
kind_apart kk x e apart end = apart (sym e ∙ end)

opening : (kk : TokenKind) (x : Token) → x.kind ≡ kk → kind_opens kk ≡ true → opens_level x ≡ true
unfolding opens_level
opening kk x e opens = ap kind_opens e ∙ opens

-- ---- names, capabilities and types

at_name_at : (kk : TokenKind) (x : Token) → x.kind ≡ kk → LeavesAt x (name_at kk)
at_name_at (k.Name text) x e = at_bind x _ _ (at_any x (kind_apart (k.Name text) x e (λ end. cc end))) (λ y. leaves_pure _)
at_name_at _ x e = anywhere x _ leaves_refuse

pub leaves_name : Leaves name
unfolding name
leaves_name = leaves_peek (λ x. name_at x.kind) (λ x. at_name_at x.kind x refl)

at_type_name_at : (kk : TokenKind) (x : Token) → x.kind ≡ kk → LeavesAt x (type_name_at kk)
at_type_name_at (k.TypeName text) x e = at_bind x _ _ (at_any x (kind_apart (k.TypeName text) x e (λ end. cc end))) (λ y. leaves_pure _)
at_type_name_at _ x e = anywhere x _ leaves_refuse

pub leaves_type_name : Leaves type_name
unfolding type_name
leaves_type_name = leaves_peek (λ x. type_name_at x.kind) (λ x. at_type_name_at x.kind x refl)

at_cap_by : (o : Option Cap) (x : Token) → cap_of x ≡ o → LeavesAt x (cap_by o)
at_cap_by None x e = anywhere x _ (leaves_pure _)
at_cap_by (Some c) x e = at_bind x _ _ (at_any x (is_cap_not_end c x e)) (λ y. leaves_pure _)

pub leaves_maybe_cap : Leaves maybe_cap
unfolding maybe_cap
leaves_maybe_cap = leaves_peek (λ x. cap_by (cap_of x)) (λ x. at_cap_by (cap_of x) x refl)

pub leaves_written_type : Leaves written_type
unfolding written_type
leaves_written_type = leaves_bind _ _ leaves_type_name (λ m. leaves_bind _ _ leaves_maybe_cap (λ c. leaves_pure _))

leaves_maybe_type : Leaves maybe_type
unfolding maybe_type
leaves_maybe_type = leaves_peek _ (λ x. anywhere x _ (leaves_cond (is_sign s.Colon x) _ _ (leaves_bind _ _ (leaves_bind _ _ (leaves_sign s.Colon) (λ y. leaves_written_type)) (λ r. leaves_pure _)) (leaves_pure _)))

at_leaf : (f : Span → t.Expr) (kk : TokenKind) (x : Token) → x.kind ≡ kk → kk ≢ k.End → LeavesAt x (leaf f)
at_leaf f kk x e apart = at_bind x _ _ (at_any x (kind_apart kk x e apart)) (λ y. leaves_pure _)

leaves_consume : Leaves consume
unfolding consume
leaves_consume = leaves_bind _ _ (leaves_word w.ConsumeWord) (λ x. leaves_bind _ _ leaves_name (λ m. leaves_pure _))

-- ---- atoms

module _ (n : ℕ) (p : Parser t.Seq) (a : Leaves p) where
  at_group : (x : Token) → opens_level x ≡ true → LeavesAt x (group n p)
  unfolding group
  at_group x opens = at_deeper x n _ opens (anywhere x _ (leaves_bind _ _ (leaves_sign s.OpenParen) (λ y. leaves_bind _ _ a (λ b. leaves_bind _ _ (leaves_sign s.CloseParen) (λ z. leaves_pure _)))))

  leaves_other : Leaves (other p)
  unfolding other
  leaves_other = leaves_peek _ (λ x. anywhere x _ (leaves_cond (is_word w.ElseWord x) _ _ (leaves_bind _ _ (leaves_bind _ _ (leaves_word w.ElseWord) (λ y. a)) (λ b. leaves_pure _)) (leaves_pure _)))

  leaves_arm : (word : Word) → Leaves (arm word p)
  unfolding arm
  leaves_arm word = leaves_bind _ _ (leaves_word word) (λ x. leaves_bind _ _ a (λ c. leaves_bind _ _ (leaves_bind _ _ (leaves_word w.ThenWord) (λ y. a)) (λ b. leaves_pure _)))

  at_if : (x : Token) → opens_level x ≡ true → LeavesAt x (if_ n p)
  unfolding if_
  at_if x opens =
      let more = leaves_all_at (is_word w.ElseifWord) (arm w.ElseifWord p) (λ y is. anywhere y _ (leaves_arm w.ElseifWord)) in
      at_deeper x n _ opens (anywhere x _ (leaves_bind _ _ (leaves_arm w.IfWord) (λ b. leaves_bind _ _ more (λ bs. leaves_bind _ _ leaves_other (λ o. leaves_bind _ _ (leaves_word w.EndWord) (λ z. leaves_pure _))))))

  at_while : (x : Token) → opens_level x ≡ true → LeavesAt x (while_ n p)
  unfolding while_
  at_while x opens = at_deeper x n _ opens (anywhere x _ (leaves_bind _ _ (leaves_word w.WhileWord) (λ y. leaves_bind _ _ a (λ c. leaves_bind _ _ (leaves_bind _ _ (leaves_word w.DoWord) (λ u. a)) (λ b. leaves_bind _ _ (leaves_word w.EndWord) (λ z. leaves_pure _))))))

  at_recover : (x : Token) → opens_level x ≡ true → LeavesAt x (recover_ n p)
  unfolding recover_
  at_recover x opens = at_deeper x n _ opens (anywhere x _ (leaves_bind _ _ (leaves_word w.RecoverWord) (λ y. leaves_bind _ _ leaves_maybe_cap (λ c. leaves_bind _ _ a (λ b. leaves_bind _ _ (leaves_word w.EndWord) (λ z. leaves_pure _))))))

  at_atom_at : (kk : TokenKind) (x : Token) → x.kind ≡ kk → LeavesAt x (atom_at n p kk)
  at_atom_at (k.Name text) x e = anywhere x _ (leaves_bind _ _ leaves_name (λ m. leaves_pure _))
  at_atom_at (k.TypeName text) x e = anywhere x _ (leaves_bind _ _ leaves_type_name (λ m. leaves_pure _))
  at_atom_at (k.Number v) x e = at_leaf (t.number v) (k.Number v) x e (λ end. cc end)
  at_atom_at (k.Text b) x e = at_leaf (t.text b) (k.Text b) x e (λ end. cc end)
  at_atom_at (k.Word w.ThisWord) x e = at_leaf t.this (k.Word w.ThisWord) x e (λ end. cc end)
  at_atom_at (k.Word w.TrueWord) x e = at_leaf (t.truth true) (k.Word w.TrueWord) x e (λ end. cc end)
  at_atom_at (k.Word w.FalseWord) x e = at_leaf (t.truth false) (k.Word w.FalseWord) x e (λ end. cc end)
  at_atom_at (k.Sign s.OpenParen) x e = at_group x (opening (k.Sign s.OpenParen) x e refl)
  at_atom_at (k.Word w.IfWord) x e = at_if x (opening (k.Word w.IfWord) x e refl)
  at_atom_at (k.Word w.WhileWord) x e = at_while x (opening (k.Word w.WhileWord) x e refl)
  at_atom_at (k.Word w.RecoverWord) x e = at_recover x (opening (k.Word w.RecoverWord) x e refl)
  at_atom_at _ x e = anywhere x _ leaves_refuse

  leaves_atom : Leaves (atom n p)
  unfolding atom
  leaves_atom = leaves_peek (λ x. atom_at n p x.kind) (λ x. at_atom_at x.kind x refl)

-- ---- arguments and items

module _ (p : Parser t.Expr) (a : Leaves p) where
  leaves_arg_list : Leaves (arg_list p)
  unfolding arg_list
  leaves_arg_list = leaves_peek _ (λ x. anywhere x _ (leaves_cond (is_sign s.CloseParen x) _ _ (leaves_pure _) (leaves_bind _ _ a (λ e. leaves_bind _ _ (leaves_all_after (is_sign s.Comma) p (is_sign_not_end s.Comma) a) (λ es. leaves_pure _)))))

  leaves_local : (f : Bool) → Leaves (local f p)
  unfolding local
  leaves_local f = leaves_bind _ _ (leaves_word (local_word f)) (λ x. leaves_bind _ _ leaves_name (λ m. leaves_bind _ _ leaves_maybe_type (λ ty. leaves_bind _ _ (leaves_bind _ _ (leaves_sign s.Assign) (λ z. a)) (λ v. leaves_pure _))))

  leaves_item : Leaves (item p)
  unfolding item
  leaves_item = leaves_peek _ (λ x. anywhere x _ (leaves_cond (is_word w.LetWord x) _ _ (leaves_local true) (leaves_cond (is_word w.VarWord x) _ _ (leaves_local false) (leaves_bind _ _ a (λ v. leaves_pure _)))))

  leaves_infix_by : (e : t.Expr) (o : Option Op) → Leaves (infix_by p e o)
  leaves_infix_by e None = leaves_pure _
  leaves_infix_by e (Some o) = leaves_bind _ _ (leaves_all_after (is_op o) p (is_op_not_end o) a) (λ es. leaves_pure _)

  leaves_infix_with : Leaves (infix_with p)
  unfolding infix_with
  leaves_infix_with = leaves_bind _ _ a (λ e. leaves_peek _ (λ x. anywhere x _ (leaves_infix_by e (op_of x))))

module _ (p : Parser t.Item) (a : Leaves p) where
  next_by : (x : Token) (ts begin : List Token) (b c : Bool) → is_sign s.Semicolon x ≡ b → EndsWithEnd (x ∷ ts) → ◌≡◌ {A = Option (List Token)} (cond b (Some ts) (cond c (Some (x ∷ ts)) None)) (Some begin) → EndsWithEnd begin
  next_by x ts begin true c e ends h = let f : ts ≡ begin = cc h in subst EndsWithEnd f (behind x ts (is_sign_not_end s.Semicolon x e) ends)
  next_by x ts begin false true e ends h = let f : x ∷ ts ≡ begin = cc h in subst EndsWithEnd f ends
  next_by x ts begin false false e ends h = absurd (cc h)

  next_ends : (ts begin : List Token) → EndsWithEnd ts → next_item ts ≡ Some begin → EndsWithEnd begin
  unfolding next_item
  next_ends [] begin ends h = absurd ends
  next_ends (x ∷ ts) begin ends h = next_by x ts begin (is_sign s.Semicolon x) (x.first && begins_item x) refl ends h

  leaves_seq_with : Leaves (seq_with p)
  unfolding seq_with
  leaves_seq_with = leaves_bind _ _ a (λ i. leaves_bind _ _ (leaves_all next_item p (λ ts begin ends e. a.leaves begin (next_ends ts begin ends e))) (λ is. leaves_pure _))

-- ---- suffixes and terms

module _ (n : ℕ) (p : Parser t.Expr) (a : Leaves p) where
  at_args : (x : Token) → opens_level x ≡ true → LeavesAt x (args n p)
  unfolding args
  at_args x opens = at_deeper x n _ opens (anywhere x _ (leaves_bind _ _ (leaves_sign s.OpenParen) (λ y. leaves_bind _ _ (leaves_arg_list p a) (λ es. leaves_bind _ _ (leaves_sign s.CloseParen) (λ z. leaves_pure _)))))

  opens_args : (x : Token) → begins_suffix x ≡ true → is_sign s.Dot x ≡ false → opens_level x ≡ true
  opens_args x begins e = opening (k.Sign s.OpenParen) x (kind_of_sign s.OpenParen x (open_suffix_is x e begins).0) refl

  suffix_left : (x : Token) → begins_suffix x ≡ true → (more : List Token) → EndsWithEnd (x ∷ more) → Left (suffix n p (x ∷ more))
  unfolding suffix peek
  suffix_left x begins more ends =
      (at_cond x (is_sign s.Dot x) _ _ (λ is. anywhere x _ (leaves_bind _ _ (leaves_bind _ _ (leaves_sign s.Dot) (λ y. leaves_name)) (λ m. leaves_pure _))) (λ e. at_args x (opens_args x begins e))).leaves_at more ends

  at_suffix : (x : Token) → begins_suffix x ≡ true → LeavesAt x (suffix n p)
  at_suffix x begins = record { leaves_at = suffix_left x begins }

  at_negation : (x : Token) → is_word w.NotWord x ≡ true → LeavesAt x (negation n p)
  unfolding negation
  at_negation x is = at_deeper x n _ (opening (k.Word w.NotWord) x (kind_of_word w.NotWord x is) refl) (anywhere x _ (leaves_bind _ _ (leaves_word w.NotWord) (λ y. leaves_bind _ _ a (λ e. leaves_pure _))))

  at_becomes : (l : t.Expr) (x : Token) → is_sign s.Assign x ≡ true → LeavesAt x (becomes n p l)
  unfolding becomes
  at_becomes l x is = at_deeper x n _ (opening (k.Sign s.Assign) x (kind_of_sign s.Assign x is) refl) (anywhere x _ (leaves_bind _ _ (leaves_bind _ _ (leaves_sign s.Assign) (λ y. a)) (λ e. leaves_pure _)))

pub record LeavesInner (i : Inner) : Type 0 where
  pub seq : Leaves i.seq
  pub expr : Leaves i.expr
  pub term : Leaves i.term

module _ (n : ℕ) (i : Inner) (a : LeavesInner i) where
  leaves_postfix : Leaves (postfix n i)
  unfolding postfix
  leaves_postfix = leaves_bind _ _ (leaves_atom n i.seq a.seq) (λ e. leaves_bind _ _ (leaves_all_at begins_suffix (suffix n i.expr) (at_suffix n i.expr a.expr)) (λ ss. leaves_pure _))

  leaves_term : Leaves (term n i)
  unfolding term
  leaves_term = leaves_peek _ (λ x. at_cond x (is_word w.NotWord x) _ _ (at_negation n i.term a.term x) (λ e. anywhere x _ (leaves_cond (is_word w.ConsumeWord x) _ _ leaves_consume leaves_postfix)))

  pub leaves_infix : Leaves (infix_in n i)
  unfolding infix_in
  leaves_infix = leaves_infix_with (term n i) leaves_term

  pub leaves_expr : Leaves (expr_in n i)
  unfolding expr_in expr_with
  leaves_expr = leaves_bind _ _ leaves_infix (λ e. leaves_peek _ (λ x. at_cond x (assigns x e) _ _ (λ is. at_becomes n i.expr a.expr e x (first_true (is_sign s.Assign x) (is_place e) is)) (λ f. anywhere x _ (leaves_pure _))))

  pub leaves_seq : Leaves (seq_in n i)
  unfolding seq_in
  leaves_seq = leaves_seq_with (item (expr_in n i)) (leaves_item (expr_in n i) leaves_expr)

pub leaves_inner : (n : ℕ) → LeavesInner (inner n)
unfolding inner
leaves_inner zero = record { seq = leaves_refuse; expr = leaves_refuse; term = leaves_refuse }
leaves_inner (suc n) = record { seq = leaves_seq n (inner n) (leaves_inner n); expr = leaves_expr n (inner n) (leaves_inner n); term = leaves_term n (inner n) (leaves_inner n) }
