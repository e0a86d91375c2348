-- The same for each rule.
use Rattle.std.proofs.Common.{◌≡◌, ℕ, zero, suc, Bool, true, false, ◌&&◌, List, [], ◌∷◌, ◌++◌, length, Option, Some, None, Ok, Err, refl, sym, ap, ◌∙◌, subst, arith, cond}
use Rattle.pc_base.specs.declared.span.Span.{Span}
use Rattle.pc_caps.specs.declared.capability.Cap.{Cap}
use Rattle.pc_tree.specs.Tree as t
use Rattle.pc_tree.specs.{declared.kinds.Op.Op, Parts.{exprs_of, arms_of, arm_span, seq_span}}
use Rattle.pc_token.specs.{declared.kinds.Token.Token, declared.kinds.TokenKind.TokenKind, declared.words.Word.Word, declared.signs.Sign.Sign, Words.{is_sign, is_word, kind_is_word, same_word}}
use Rattle.pc_token.specs.declared.kinds.TokenKind.TheVariants as k
use Rattle.pc_token.specs.declared.words.Word.TheVariants as w
use Rattle.pc_token.specs.declared.signs.Sign.TheVariants as s
use Rattle.pc_grammar.specs.{Spells.{op_of, cap_of, local_word, is_place, span_from_to}, Reading.{ReadingOutcome, Parser, Inner, and_then, pure, refuse, ◌>>=◌, ◌>>◌, peek, take_if, deeper, all, name, name_at, type_name, type_name_at, cap_by, maybe_cap, written_type, maybe_type, typed_at, group, arm, if_, while_, recover_, other, other_at, leaf, atom, atom_at, args, arg_list, arg_list_at, suffix, suffix_at, postfix, negation, consume, term, term_at, infix_in, infix_with, infix_by, becomes, assigns, expr_by, expr_in, expr_with, local, item, item_at, seq_in, seq_with, inner, next_item, after, at, is_op, begins_suffix, begins_item, kind_begins}}
use Rattle.pc_grammar.proofs.{Follow.after_op, Local.{rest_of, with_rest, Local, Takes, local_bind, local_pure, local_refuse, local_peek, local_take, local_deeper}, LocalLoops.{OneAhead, after_ahead, at_ahead, item_ahead, local_all, local_same}, LocalRules.{Good, GoodInner, good_bind, good_take, good_name_at, good_name, good_type_name_at, good_type_name, good_arm, good_atom_at, good_atom, good_item, good_suffix, good_term, good_infix, good_expr, good_inner}, Steady.{the_end, Plain, Steady, Enters, Ends, steady_bind, enters_bind, steady_pure, steady_refuse, steady_take, enters_take, steady_deeper, enters_deeper, steady_peek, enters_peek, ends_cond, ends_refuse, steady_all, all_enters}, ExplainedParts.{word_is, sign_is}, ExplainedAtoms.at_is, ExplainedChains.{after_is, open_suffix_is}}
use Rattle.pc_base.proofs.Bools.{first_true}

-- ---- the end is no token of any kind

word_unlike : (word : Word) (x : Token) → is_word word x ≡ false → is_word word the_end ≡ false
unfolding is_word
word_unlike word x h = refl

sign_unlike : (sign : Sign) (x : Token) → is_sign sign x ≡ false → is_sign sign the_end ≡ false
unfolding is_sign
sign_unlike sign x h = refl

no_end : (word : Word) → is_word word the_end ≡ false
unfolding is_word
no_end word = refl

any_unlike : (x : Token) → true ≡ false → true ≡ false
any_unlike x h = h

-- ---- both at once

pub record Fine {A : Type 0} (p : Parser A) : Type 0 where
  pub local : Local p
  pub steady : Steady p

fine_bind : {A B : Type 0} (p : Parser A) (f : A → Parser B) → Fine p → ((x : A) → Fine (f x)) → Fine (p >>= f)
fine_bind p f a b = record { local = local_bind p f a.local (λ x. (b x).local); steady = steady_bind p f a.local (λ x. (b x).local) a.steady (λ x. (b x).steady) }

fine_pure : {A : Type 0} (v : A) → Fine (pure v)
fine_pure v = record { local = local_pure v; steady = steady_pure v }

fine_refuse : {A : Type 0} → Fine (refuse {A = A})
fine_refuse = record { local = local_refuse; steady = steady_refuse }

fine_word : (word : Word) → Fine (take_if (is_word word))
fine_word word = record { local = local_take _; steady = steady_take (is_word word) (word_unlike word) }

fine_sign : (sign : Sign) → Fine (take_if (is_sign sign))
fine_sign sign = record { local = local_take _; steady = steady_take (is_sign sign) (sign_unlike sign) }

fine_any : Fine (take_if (λ _. true))
fine_any = record { local = local_take _; steady = steady_take (λ _. true) any_unlike }

fine_deeper : {A : Type 0} (n : ℕ) (p : Parser A) → Fine p → Fine (deeper n p)
fine_deeper n p a = record { local = local_deeper n p a.local; steady = steady_deeper n p a.steady }

fine_cond : {A : Type 0} (b : Bool) (p q : Parser A) → Fine p → Fine q → Fine (cond b p q)
fine_cond true p q a c = a
fine_cond false p q a c = c

fine_peek : {A : Type 0} (g : Token → Parser A) → ((y : Token) → Fine (g y)) → Ends g → Fine (peek >>= g)
fine_peek g a ends = record { local = local_bind peek g local_peek (λ x. (a x).local); steady = steady_peek g (λ y. (a y).steady) ends }

fine_all : {A : Type 0} (next : List Token → Option (List Token)) (p : Parser A) → OneAhead next → Takes p → Fine p → ((ts : List Token) → next (the_end ∷ ts) ≡ None) → ((x : Token) (more : List Token) → next (x ∷ more) ≡ Some (x ∷ more) → Enters p x) → Fine (all next p)
fine_all next p ahead takes a none enters = record { local = local_all next p ahead a.local takes; steady = steady_all next p ahead a.local takes a.steady none enters }

enters_fine : {B : Type 0} (test : Token → Bool) (f : Token → Parser B) (x : Token) → ((y : Token) → Fine (f y)) → test x ≡ true → Enters (take_if test >>= f) x
enters_fine test f x a is = enters_take test f x (λ y. (a y).local) is

-- ---- names, capabilities and types

fine_name_at : (kk : TokenKind) → Fine (name_at kk)
fine_name_at (k.Name text) = fine_bind _ _ fine_any (λ y. fine_pure _)
fine_name_at _ = fine_refuse

fine_name : Fine name
unfolding name
fine_name = fine_peek (λ x. name_at x.kind) (λ y. fine_name_at y.kind) (λ x more others ends plain. ends_refuse (name_at x.kind) (good_name_at x.kind).takes x more others ends plain)

fine_type_name_at : (kk : TokenKind) → Fine (type_name_at kk)
fine_type_name_at (k.TypeName text) = fine_bind _ _ fine_any (λ y. fine_pure _)
fine_type_name_at _ = fine_refuse

fine_type_name : Fine type_name
unfolding type_name
fine_type_name = fine_peek (λ x. type_name_at x.kind) (λ y. fine_type_name_at y.kind) (λ x more others ends plain. ends_refuse (type_name_at x.kind) (good_type_name_at x.kind).takes x more others ends plain)

fine_cap_by : (o : Option Cap) → Fine (cap_by o)
fine_cap_by None = fine_pure _
fine_cap_by (Some c) = fine_bind _ _ fine_any (λ y. fine_pure _)

ends_cap_by : (o : Option Cap) (x : Token) (more others : List Token) → rest_of (cap_by o (x ∷ more)) ≡ x ∷ more → Plain (cap_by o (x ∷ more)) → cap_by None (the_end ∷ others) ≡ with_rest (the_end ∷ others) (cap_by o (x ∷ more))
ends_cap_by None x more others ends plain = refl
ends_cap_by (Some c) x more others ends plain = absurd ((enters_fine (λ _. true) (λ _. pure (Some c)) x (λ y. fine_pure _) refl).never more ends plain)

fine_maybe_cap : Fine maybe_cap
unfolding maybe_cap cap_of
fine_maybe_cap = fine_peek (λ x. cap_by (cap_of x)) (λ y. fine_cap_by (cap_of y)) (λ x more others ends plain. ends_cap_by (cap_of x) x more others ends plain)

fine_written_type : Fine written_type
unfolding written_type
fine_written_type = fine_bind _ _ fine_type_name (λ m. fine_bind _ _ fine_maybe_cap (λ c. fine_pure _))

-- a token followed by a parser, then a value
fine_behind : {A B : Type 0} (test : Token → Bool) (p : Parser A) (f : A → B) → Fine (take_if test) → Fine p → Fine (take_if test >> p >>= λ v. pure (f v))
fine_behind test p f a b = fine_bind _ _ (fine_bind _ _ a (λ _. b)) (λ v. fine_pure _)

enters_behind : {A B : Type 0} (test : Token → Bool) (p : Parser A) (f : A → B) (x : Token) → Fine p → test x ≡ true → Enters (take_if test >> p >>= λ v. pure (f v)) x
enters_behind test p f x b is =
    let g = good_bind (take_if test) (λ _. p) (good_take test) (λ _. b.local) in
    enters_bind (take_if test >> p) (λ v. pure (f v)) g.local (λ v. local_pure _) x (enters_fine test (λ _. p) x (λ _. b) is) g.takes

fine_maybe_type : Fine maybe_type
unfolding maybe_type is_sign
fine_maybe_type = fine_peek typed_at (λ y. fine_cond (is_sign s.Colon y) _ _ (fine_behind (is_sign s.Colon) written_type (λ r. Some r) (fine_sign s.Colon) fine_written_type) (fine_pure None))
    (λ x more others ends plain. ends_cond _ _ x more others (Ok (None, the_end ∷ others)) (is_sign s.Colon x) (λ is. enters_behind (is_sign s.Colon) written_type (λ r. Some r) x fine_written_type is) (λ e q. refl) ends plain)

fine_leaf : (f : Span → t.Expr) → Fine (leaf f)
fine_leaf f = fine_bind _ _ fine_any (λ x. fine_pure _)

enters_leaf : (f : Span → t.Expr) (x : Token) → Enters (leaf f) x
enters_leaf f x = enters_fine (λ _. true) (λ x. pure (f x.span)) x (λ y. fine_pure _) refl

fine_consume : Fine consume
unfolding consume
fine_consume = fine_bind _ _ (fine_word w.ConsumeWord) (λ x. fine_bind _ _ fine_name (λ m. fine_pure _))

enters_consume : (x : Token) → is_word w.ConsumeWord x ≡ true → Enters consume x
unfolding consume
enters_consume x is = enters_fine (is_word w.ConsumeWord) _ x (λ x. fine_bind _ _ fine_name (λ m. fine_pure _)) is

-- ---- atoms

at_end : (test : Token → Bool) → test the_end ≡ false → (ts : List Token) → at test (the_end ∷ ts) ≡ None
unfolding at
at_end test h ts = rw h

module _ (n : ℕ) (p : Parser t.Seq) (a : Fine p) where
  closing : {B : Type 0} (test : Token → Bool) (f : t.Seq → Token → B) → Fine (take_if test) → Fine (p >>= λ b. take_if test >>= λ y. pure (f b y))
  closing test f c = fine_bind _ _ a (λ b. fine_bind _ _ c (λ y. fine_pure _))

  fine_group : Fine (group n p)
  unfolding group
  fine_group = fine_deeper n _ (fine_bind _ _ (fine_sign s.OpenParen) (λ x. closing (is_sign s.CloseParen) _ (fine_sign s.CloseParen)))

  enters_group : (x : Token) → is_sign s.OpenParen x ≡ true → Enters (group n p) x
  unfolding group
  enters_group x is = enters_deeper n _ x (enters_fine (is_sign s.OpenParen) _ x (λ x. closing (is_sign s.CloseParen) _ (fine_sign s.CloseParen)) is)

  fine_other : Fine (other p)
  unfolding other is_word
  fine_other = fine_peek (other_at p) (λ y. fine_cond (is_word w.ElseWord y) _ _ (fine_behind (is_word w.ElseWord) p (λ b. t.other b) (fine_word w.ElseWord) a) (fine_pure t.no_other))
      (λ x more others ends plain. ends_cond _ _ x more others (Ok (t.no_other, the_end ∷ others)) (is_word w.ElseWord x) (λ is. enters_behind (is_word w.ElseWord) p (λ b. t.other b) x a is) (λ e q. refl) ends plain)

  arm_inside : (x : Token) → Fine (p >>= λ c. take_if (is_word w.ThenWord) >> p >>= λ b. pure (t.arm_of c b (span_from_to x.span (seq_span b))))
  arm_inside x = fine_bind _ _ a (λ c. fine_bind _ _ (fine_bind _ _ (fine_word w.ThenWord) (λ y. a)) (λ b. fine_pure _))

  fine_arm : (word : Word) → Fine (arm word p)
  unfolding arm
  fine_arm word = fine_bind _ _ (fine_word word) arm_inside

  enters_arm : (word : Word) (x : Token) → is_word word x ≡ true → Enters (arm word p) x
  unfolding arm
  enters_arm word x is = enters_fine (is_word word) _ x arm_inside is

  fine_arms : Fine (all (at (is_word w.ElseifWord)) (arm w.ElseifWord p))
  fine_arms = fine_all (at (is_word w.ElseifWord)) (arm w.ElseifWord p) (at_ahead _) (good_arm n p a.local w.ElseifWord).takes (fine_arm w.ElseifWord) (at_end (is_word w.ElseifWord) (no_end w.ElseifWord))
      (λ x more e. enters_arm w.ElseifWord x (at_is (is_word w.ElseifWord) x more (x ∷ more) e).1)

  if_inside : (x : t.Arm) → Fine (all (at (is_word w.ElseifWord)) (arm w.ElseifWord p) >>= λ more. other p >>= λ o. take_if (is_word w.EndWord) >>= λ close. pure (t.if_ (arms_of (x ∷ more)) o (span_from_to (arm_span x) close.span)))
  if_inside x = fine_bind _ _ fine_arms (λ xs. fine_bind _ _ fine_other (λ o. fine_bind _ _ (fine_word w.EndWord) (λ z. fine_pure _)))

  fine_if : Fine (if_ n p)
  unfolding if_
  fine_if = fine_deeper n _ (fine_bind _ _ (fine_arm w.IfWord) if_inside)

  enters_if : (x : Token) → is_word w.IfWord x ≡ true → Enters (if_ n p) x
  unfolding if_
  enters_if x is = enters_deeper n _ x (enters_bind _ _ (fine_arm w.IfWord).local (λ v. (if_inside v).local) x (enters_arm w.IfWord x is) (good_arm n p a.local w.IfWord).takes)

  while_inside : (x : Token) → Fine (p >>= λ c. take_if (is_word w.DoWord) >> p >>= λ b. take_if (is_word w.EndWord) >>= λ close. pure (t.while_ c b (span_from_to x.span close.span)))
  while_inside x = fine_bind _ _ a (λ c. fine_bind _ _ (fine_bind _ _ (fine_word w.DoWord) (λ y. a)) (λ b. fine_bind _ _ (fine_word w.EndWord) (λ z. fine_pure _)))

  fine_while : Fine (while_ n p)
  unfolding while_
  fine_while = fine_deeper n _ (fine_bind _ _ (fine_word w.WhileWord) while_inside)

  enters_while : (x : Token) → is_word w.WhileWord x ≡ true → Enters (while_ n p) x
  unfolding while_
  enters_while x is = enters_deeper n _ x (enters_fine (is_word w.WhileWord) _ x while_inside is)

  recover_inside : (x : Token) → Fine (maybe_cap >>= λ c. p >>= λ b. take_if (is_word w.EndWord) >>= λ close. pure (t.recover c b (span_from_to x.span close.span)))
  recover_inside x = fine_bind _ _ fine_maybe_cap (λ c. fine_bind _ _ a (λ b. fine_bind _ _ (fine_word w.EndWord) (λ z. fine_pure _)))

  fine_recover : Fine (recover_ n p)
  unfolding recover_
  fine_recover = fine_deeper n _ (fine_bind _ _ (fine_word w.RecoverWord) recover_inside)

  enters_recover : (x : Token) → is_word w.RecoverWord x ≡ true → Enters (recover_ n p) x
  unfolding recover_
  enters_recover x is = enters_deeper n _ x (enters_fine (is_word w.RecoverWord) _ x recover_inside is)

  fine_atom_at : (kk : TokenKind) → Fine (atom_at n p kk)
  fine_atom_at (k.Name text) = fine_bind _ _ fine_name (λ m. fine_pure _)
  fine_atom_at (k.TypeName text) = fine_bind _ _ fine_type_name (λ m. fine_pure _)
  fine_atom_at (k.Number v) = fine_leaf (t.number v)
  fine_atom_at (k.Text b) = fine_leaf (t.text b)
  fine_atom_at (k.Word w.ThisWord) = fine_leaf t.this
  fine_atom_at (k.Word w.TrueWord) = fine_leaf (t.truth true)
  fine_atom_at (k.Word w.FalseWord) = fine_leaf (t.truth false)
  fine_atom_at (k.Sign s.OpenParen) = fine_group
  fine_atom_at (k.Word w.IfWord) = fine_if
  fine_atom_at (k.Word w.WhileWord) = fine_while
  fine_atom_at (k.Word w.RecoverWord) = fine_recover
  fine_atom_at _ = fine_refuse

  fine_atom : Fine (atom n p)
  unfolding atom
  fine_atom = fine_peek (λ x. atom_at n p x.kind) (λ y. fine_atom_at y.kind) (λ x more others ends plain. ends_refuse (atom_at n p x.kind) (good_atom_at n p a.local x.kind).takes x more others ends plain)

  -- an atom's first token is taken
  abbrev NoWord : Word → TokenKind → Type 0
  NoWord word kk = kind_is_word word kk ≡ false

  enters_name : (x : Token) (text : List ℕ) → x.kind ≡ k.Name text → Enters name x
  unfolding name
  enters_name x text e = let P : TokenKind → Type 0 = λ kk. Enters (name_at kk) x in enters_peek (λ x. name_at x.kind) x (subst P (sym e) (enters_fine (λ _. true) _ x (λ y. fine_pure _) refl))

  enters_type_name : (x : Token) (text : List ℕ) → x.kind ≡ k.TypeName text → Enters type_name x
  unfolding type_name
  enters_type_name x text e = let P : TokenKind → Type 0 = λ kk. Enters (type_name_at kk) x in enters_peek (λ x. type_name_at x.kind) x (subst P (sym e) (enters_fine (λ _. true) _ x (λ y. fine_pure _) refl))

  enters_atom_at : (x : Token) (kk : TokenKind) → x.kind ≡ kk → kind_begins kk ≡ true → NoWord w.LetWord kk → NoWord w.VarWord kk → NoWord w.NotWord kk → NoWord w.ConsumeWord kk → Enters (atom_at n p kk) x
  unfolding same_word
  enters_atom_at x (k.Name text) e b l v m c = enters_bind _ _ fine_name.local (λ m. local_pure _) x (enters_name x text e) good_name.takes
  enters_atom_at x (k.TypeName text) e b l v m c = enters_bind _ _ fine_type_name.local (λ m. local_pure _) x (enters_type_name x text e) good_type_name.takes
  enters_atom_at x (k.Number v) e b l r m c = enters_leaf (t.number v) x
  enters_atom_at x (k.Text v) e b l r m c = enters_leaf (t.text v) x
  enters_atom_at x (k.Word w.ThisWord) e b l v m c = enters_leaf t.this x
  enters_atom_at x (k.Word w.TrueWord) e b l v m c = enters_leaf (t.truth true) x
  enters_atom_at x (k.Word w.FalseWord) e b l v m c = enters_leaf (t.truth false) x
  enters_atom_at x (k.Sign s.OpenParen) e b l v m c = enters_group x (sign_is x s.OpenParen e)
  enters_atom_at x (k.Word w.IfWord) e b l v m c = enters_if x (word_is x w.IfWord e)
  enters_atom_at x (k.Word w.WhileWord) e b l v m c = enters_while x (word_is x w.WhileWord e)
  enters_atom_at x (k.Word w.RecoverWord) e b l v m c = enters_recover x (word_is x w.RecoverWord e)
  enters_atom_at x (k.Word w.LetWord) e b l v m c = absurd (cc l)
  enters_atom_at x (k.Word w.VarWord) e b l v m c = absurd (cc v)
  enters_atom_at x (k.Word w.NotWord) e b l v m c = absurd (cc m)
  enters_atom_at x (k.Word w.ConsumeWord) e b l v m c = absurd (cc c)
  enters_atom_at x _ e b l v m c = absurd (cc b)

  enters_atom : (x : Token) → begins_item x ≡ true → is_word w.LetWord x ≡ false → is_word w.VarWord x ≡ false → is_word w.NotWord x ≡ false → is_word w.ConsumeWord x ≡ false → Enters (atom n p) x
  unfolding atom begins_item is_word
  enters_atom x b l v m c = enters_peek (λ x. atom_at n p x.kind) x (enters_atom_at x x.kind refl b l v m c)

-- ---- arguments and suffixes

fine_same : {A : Type 0} (p q : Parser A) → ((ts : List Token) → p ts ≡ q ts) → Fine q → Fine p
fine_same p q e a = record {
  local = local_same p q e a.local;
  steady = record {
    steady = λ pre x more others ends plain.
        let P : ReadingOutcome _ → Type 0 = λ o. Plain o in
        e (pre ++ the_end ∷ others) ∙ a.steady.steady pre x more others (ap rest_of (sym (e (pre ++ x ∷ more))) ∙ ends) (subst P (e (pre ++ x ∷ more)) plain) ∙ ap (with_rest (the_end ∷ others)) (sym (e (pre ++ x ∷ more)));
  };
}

peek_again : {A B : Type 0} (g : Token → Parser A) (f : A → Parser B) (ts : List Token) → ((peek >>= g) >>= f) ts ≡ (peek >>= λ y. g y >>= f) ts
unfolding peek
peek_again g f [] = refl
peek_again g f (x ∷ ts) = refl

module _ (e : Parser t.Expr) (a : Fine e) (takes : Takes e) where
  after_end : (ts : List Token) → after (is_sign s.Comma) (the_end ∷ ts) ≡ None
  unfolding after is_sign
  after_end ts = refl

  after_stays : (test : Token → Bool) (x : Token) (more : List Token) → after test (x ∷ more) ≡ Some (x ∷ more) → ⊥
  after_stays test x more h = let f = after_is test (x ∷ more) (x ∷ more) h in omega (arith, ap length f.1)

  fine_first_args : Fine (e >>= λ first. all (after (is_sign s.Comma)) e >>= λ more. pure (exprs_of (first ∷ more)))
  fine_first_args = fine_bind _ _ a (λ first. fine_bind _ _ (fine_all (after (is_sign s.Comma)) e (after_ahead _) takes a after_end (λ x more h. absurd (after_stays (is_sign s.Comma) x more h))) (λ more. fine_pure _))

  module _ (f : t.Exprs → Token → t.Suffix) where
    abbrev close_args : t.Exprs → Parser t.Suffix
    close_args es = take_if (is_sign s.CloseParen) >>= λ y. pure (f es y)

    fine_close : (es : t.Exprs) → Fine (close_args es)
    fine_close es = fine_bind _ _ (fine_sign s.CloseParen) (λ y. fine_pure _)

    abbrev chosen : Bool → Parser t.Suffix
    chosen b = cond b (pure t.no_exprs) (e >>= λ first. all (after (is_sign s.Comma)) e >>= λ more. pure (exprs_of (first ∷ more))) >>= close_args

    fine_chosen : (b : Bool) → Fine (chosen b)
    fine_chosen true = fine_close t.no_exprs
    fine_chosen false = fine_bind _ _ fine_first_args fine_close

    chosen_ends : (x : Token) (more others : List Token) (b : Bool) → is_sign s.CloseParen x ≡ b → rest_of (chosen b (x ∷ more)) ≡ x ∷ more → Plain (chosen b (x ∷ more)) → chosen false (the_end ∷ others) ≡ with_rest (the_end ∷ others) (chosen b (x ∷ more))
    chosen_ends x more others true is ends plain = absurd ((enters_fine (is_sign s.CloseParen) (λ y. pure (f t.no_exprs y)) x (λ y. fine_pure _) is).never more ends plain)
    chosen_ends x more others false is ends plain = (fine_chosen false).steady.steady [] x more others ends plain

    fine_closed_args : Fine (arg_list e >>= close_args)
    unfolding arg_list is_sign
    fine_closed_args = fine_same (arg_list e >>= close_args) (peek >>= λ y. chosen (is_sign s.CloseParen y)) (peek_again (arg_list_at e) close_args)
        (fine_peek (λ y. chosen (is_sign s.CloseParen y)) (λ y. fine_chosen (is_sign s.CloseParen y)) (λ x more others ends plain. chosen_ends x more others (is_sign s.CloseParen x) refl ends plain))

module _ (n : ℕ) (e : Parser t.Expr) (a : Fine e) (takes : Takes e) where
  args_inside : (x : Token) → Fine (arg_list e >>= λ es. take_if (is_sign s.CloseParen) >>= λ close. pure (t.args es (span_from_to x.span close.span)))
  args_inside x = fine_closed_args e a takes (λ es y. t.args es (span_from_to x.span y.span))

  fine_args : Fine (args n e)
  unfolding args
  fine_args = fine_deeper n _ (fine_bind _ _ (fine_sign s.OpenParen) args_inside)

  enters_args : (x : Token) → is_sign s.OpenParen x ≡ true → Enters (args n e) x
  unfolding args
  enters_args x is = enters_deeper n _ x (enters_fine (is_sign s.OpenParen) _ x args_inside is)

  fine_suffix : Fine (suffix n e)
  unfolding suffix is_sign
  fine_suffix = fine_peek (suffix_at n e) (λ y. fine_cond (is_sign s.Dot y) _ _ (fine_behind (is_sign s.Dot) name (λ m. t.dot m) (fine_sign s.Dot) fine_name) fine_args)
      (λ x more others ends plain. ends_cond _ _ x more others (args n e (the_end ∷ others)) (is_sign s.Dot x) (λ is. enters_behind (is_sign s.Dot) name (λ m. t.dot m) x fine_name is) (λ f q. fine_args.steady.steady [] x more others f q) ends plain)

  suffix_by : (x : Token) (b : Bool) → is_sign s.Dot x ≡ b → begins_suffix x ≡ true → Enters (cond b (take_if (is_sign s.Dot) >> name >>= λ m. pure (t.dot m)) (args n e)) x
  suffix_by x true is begins = enters_behind (is_sign s.Dot) name (λ m. t.dot m) x fine_name is
  suffix_by x false is begins = enters_args x (open_suffix_is x is begins).0

  enters_suffix : (x : Token) → begins_suffix x ≡ true → Enters (suffix n e) x
  unfolding suffix
  enters_suffix x begins = enters_peek (suffix_at n e) x (suffix_by x (is_sign s.Dot x) refl begins)

  suffix_end : (ts : List Token) → at begins_suffix (the_end ∷ ts) ≡ None
  unfolding at begins_suffix is_sign
  suffix_end ts = refl

  good_e : Good e
  good_e = record { local = a.local; takes = takes }

  fine_suffixes : Fine (all (at begins_suffix) (suffix n e))
  fine_suffixes = fine_all (at begins_suffix) (suffix n e) (at_ahead _) (good_suffix n e good_e).takes fine_suffix suffix_end (λ x more h. enters_suffix x (at_is begins_suffix x more (x ∷ more) h).1)

-- ---- terms, operators and assignments

pub record FineInner (i : Inner) : Type 0 where
  pub seq : Fine i.seq
  pub expr : Fine i.expr
  pub term : Fine i.term

rest_pure : {A B : Type 0} (o : ReadingOutcome A) (f : A → B) → rest_of (and_then o (λ v. pure (f v))) ≡ rest_of o
rest_pure (Ok r) f = refl
rest_pure (Err e) f = refl

plain_pure : {A B : Type 0} (o : ReadingOutcome A) (f : A → B) → Plain (and_then o (λ v. pure (f v))) → Plain o
plain_pure (Ok r) f h = h
plain_pure (Err e) f h = h

module _ (n : ℕ) (i : Inner) (a : FineInner i) (g : GoodInner i) where
  fine_postfix : Fine (postfix n i)
  unfolding postfix
  fine_postfix = fine_bind _ _ (fine_atom n i.seq a.seq) (λ e. fine_bind _ _ (fine_suffixes n i.expr a.expr g.expr.takes) (λ ss. fine_pure _))

  fine_negation : Fine (negation n i.term)
  unfolding negation
  fine_negation = fine_deeper n _ (fine_bind _ _ (fine_word w.NotWord) (λ x. fine_bind _ _ a.term (λ e. fine_pure _)))

  enters_negation : (x : Token) → is_word w.NotWord x ≡ true → Enters (negation n i.term) x
  unfolding negation
  enters_negation x is = enters_deeper n _ x (enters_fine (is_word w.NotWord) _ x (λ x. fine_bind _ _ a.term (λ e. fine_pure _)) is)

  fine_term : Fine (term n i)
  unfolding term is_word
  fine_term = fine_peek (term_at n i) (λ y. fine_cond (is_word w.NotWord y) _ _ fine_negation (fine_cond (is_word w.ConsumeWord y) _ _ fine_consume fine_postfix))
      (λ x more others ends plain. ends_cond _ _ x more others (postfix n i (the_end ∷ others)) (is_word w.NotWord x) (λ is. enters_negation x is)
      (λ f q. ends_cond _ _ x more others (postfix n i (the_end ∷ others)) (is_word w.ConsumeWord x) (λ is. enters_consume x is) (λ h r. fine_postfix.steady.steady [] x more others h r) f q) ends plain)

  enters_postfix : (x : Token) → Enters (atom n i.seq) x → Enters (postfix n i) x
  unfolding postfix
  enters_postfix x e = enters_bind _ _ (fine_atom n i.seq a.seq).local (λ e. (fine_bind _ _ (fine_suffixes n i.expr a.expr g.expr.takes) (λ ss. fine_pure _)).local) x e (good_atom n i.seq a.seq.local).takes

  term_by : (x : Token) (b c : Bool) → is_word w.NotWord x ≡ b → is_word w.ConsumeWord x ≡ c → begins_item x ≡ true → is_word w.LetWord x ≡ false → is_word w.VarWord x ≡ false → Enters (cond b (negation n i.term) (cond c consume (postfix n i))) x
  term_by x true c m o begins l v = enters_negation x m
  term_by x false true m o begins l v = enters_consume x o
  term_by x false false m o begins l v = enters_postfix x (enters_atom n i.seq a.seq x begins l v m o)

  enters_term : (x : Token) → begins_item x ≡ true → is_word w.LetWord x ≡ false → is_word w.VarWord x ≡ false → Enters (term n i) x
  unfolding term
  enters_term x begins l v = enters_peek (term_at n i) x (term_by x (is_word w.NotWord x) (is_word w.ConsumeWord x) refl refl begins l v)

  op_end : (o : Op) (ts : List Token) → after (is_op o) (the_end ∷ ts) ≡ None
  unfolding after is_op op_of
  op_end o ts = refl

  op_stays : (o : Op) (x : Token) (more : List Token) → after (is_op o) (x ∷ more) ≡ Some (x ∷ more) → ⊥
  op_stays o x more h = let f = after_is (is_op o) (x ∷ more) (x ∷ more) h in omega (arith, ap length f.1)

  fine_terms : (o : Op) → Fine (all (after (is_op o)) (term n i))
  fine_terms o = fine_all (after (is_op o)) (term n i) (after_ahead _) (good_term n i g).takes fine_term (op_end o) (λ x more h. absurd (op_stays o x more h))

  fine_infix_by : (e : t.Expr) (o : Option Op) → Fine (infix_by (term n i) e o)
  fine_infix_by e None = fine_pure _
  fine_infix_by e (Some o) = fine_bind _ _ (fine_terms o) (λ es. fine_pure _)

  ends_infix_by : (e : t.Expr) (x : Token) (more others : List Token) (o : Option Op) → op_of x ≡ o → rest_of (infix_by (term n i) e o (x ∷ more)) ≡ x ∷ more → Plain (infix_by (term n i) e o (x ∷ more)) → Ok (e, the_end ∷ others) ≡ with_rest (the_end ∷ others) (infix_by (term n i) e o (x ∷ more))
  ends_infix_by e x more others None is ends plain = refl
  ends_infix_by e x more others (Some o) is ends plain =
      let read = all (after (is_op o)) (term n i) (x ∷ more) in
      absurd (all_enters (after (is_op o)) (term n i) (after_ahead _) fine_term.local (good_term n i g).takes fine_term.steady (op_end o) (λ x more h. absurd (op_stays o x more h)) x more more (after_op x o more is) (sym (rest_pure read _) ∙ ends) (plain_pure read _ plain))

  infix_inside : (e : t.Expr) → Fine (peek >>= λ x. infix_by (term n i) e (op_of x))
  unfolding op_of
  infix_inside e = fine_peek (λ x. infix_by (term n i) e (op_of x)) (λ y. fine_infix_by e (op_of y)) (λ x more others ends plain. ends_infix_by e x more others (op_of x) refl ends plain)

  pub fine_infix : Fine (infix_in n i)
  unfolding infix_in infix_with
  fine_infix = fine_bind _ _ fine_term infix_inside

  enters_infix : (x : Token) → Enters (term n i) x → Enters (infix_in n i) x
  unfolding infix_in infix_with
  enters_infix x e = enters_bind _ _ fine_term.local (λ e. (infix_inside e).local) x e (good_term n i g).takes

  fine_becomes : (l : t.Expr) → Fine (becomes n i.expr l)
  unfolding becomes
  fine_becomes l = fine_deeper n _
      (fine_behind (is_sign s.Assign) i.expr (λ r. t.assign l r (span_from_to (t.span_of l) (t.span_of r))) (fine_sign s.Assign) a.expr)

  enters_becomes : (l : t.Expr) (x : Token) → is_sign s.Assign x ≡ true → Enters (becomes n i.expr l) x
  unfolding becomes
  enters_becomes l x is =
      enters_deeper n _ x (enters_behind (is_sign s.Assign) i.expr (λ r. t.assign l r (span_from_to (t.span_of l) (t.span_of r))) x a.expr is)

  expr_inside : (e : t.Expr) → Fine (peek >>= λ x. expr_by n i.expr e x)
  unfolding is_sign
  expr_inside e = fine_peek (expr_by n i.expr e) (λ y. fine_cond (assigns y e) _ _ (fine_becomes e) (fine_pure _))
      (λ x more others ends plain. ends_cond _ _ x more others (Ok (e, the_end ∷ others)) (assigns x e) (λ is. enters_becomes e x (first_true (is_sign s.Assign x) (is_place e) is)) (λ f q. refl) ends plain)

  pub fine_expr : Fine (expr_in n i)
  unfolding expr_in expr_with
  fine_expr = fine_bind _ _ fine_infix expr_inside

  enters_expr : (x : Token) → begins_item x ≡ true → is_word w.LetWord x ≡ false → is_word w.VarWord x ≡ false → Enters (expr_in n i) x
  unfolding expr_in expr_with
  enters_expr x begins l v = enters_bind _ _ fine_infix.local (λ e. (expr_inside e).local) x (enters_infix x (enters_term x begins l v)) (good_infix n i g).takes

  -- ---- items and sequences

  local_inside : (f : Bool) (x : Token) → Fine (name >>= λ m. maybe_type >>= λ ty. take_if (is_sign s.Assign) >> expr_in n i >>= λ v. pure (t.local f m ty v (span_from_to x.span (t.span_of v))))
  local_inside f x = fine_bind _ _ fine_name (λ m. fine_bind _ _ fine_maybe_type (λ ty. fine_bind _ _ (fine_bind _ _ (fine_sign s.Assign) (λ z. fine_expr)) (λ v. fine_pure _)))

  fine_local : (f : Bool) → Fine (local f (expr_in n i))
  unfolding local
  fine_local f = fine_bind _ _ (fine_word (local_word f)) (local_inside f)

  enters_local : (f : Bool) (x : Token) → is_word (local_word f) x ≡ true → Enters (local f (expr_in n i)) x
  unfolding local
  enters_local f x is = enters_fine (is_word (local_word f)) _ x (local_inside f) is

  fine_plain : Fine (expr_in n i >>= λ v. pure (t.plain v))
  fine_plain = fine_bind _ _ fine_expr (λ v. fine_pure _)

  fine_item : Fine (item (expr_in n i))
  unfolding item is_word
  fine_item = fine_peek (item_at (expr_in n i)) (λ y. fine_cond (is_word w.LetWord y) _ _ (fine_local true) (fine_cond (is_word w.VarWord y) _ _ (fine_local false) fine_plain))
      (λ x more others ends plain. ends_cond _ _ x more others ((expr_in n i >>= λ v. pure (t.plain v)) (the_end ∷ others)) (is_word w.LetWord x) (λ is. enters_local true x is)
      (λ f q. ends_cond _ _ x more others ((expr_in n i >>= λ v. pure (t.plain v)) (the_end ∷ others)) (is_word w.VarWord x) (λ is. enters_local false x is) (λ h r. fine_plain.steady.steady [] x more others h r) f q) ends plain)

  item_by : (x : Token) (b c : Bool) → is_word w.LetWord x ≡ b → is_word w.VarWord x ≡ c → begins_item x ≡ true → Enters (cond b (local true (expr_in n i)) (cond c (local false (expr_in n i)) (expr_in n i >>= λ v. pure (t.plain v)))) x
  item_by x true c l v begins = enters_local true x l
  item_by x false true l v begins = enters_local false x v
  item_by x false false l v begins = enters_bind _ _ fine_expr.local (λ v. local_pure _) x (enters_expr x begins l v) (good_expr n i g).takes

  enters_item : (x : Token) → begins_item x ≡ true → Enters (item (expr_in n i)) x
  unfolding item
  enters_item x begins = enters_peek (item_at (expr_in n i)) x (item_by x (is_word w.LetWord x) (is_word w.VarWord x) refl refl begins)

  item_end : (ts : List Token) → next_item (the_end ∷ ts) ≡ None
  unfolding next_item is_sign
  item_end ts = refl

  item_starts : (x : Token) (more : List Token) (b c : Bool) → x.first && begins_item x ≡ c → ◌≡◌ {A = Option (List Token)} (cond b (Some more) (cond c (Some (x ∷ more)) None)) (Some (x ∷ more)) → x.first && begins_item x ≡ true
  item_starts x more true c e h = let f : more ≡ x ∷ more = cc in absurd (omega (arith, ap length f))
  item_starts x more false true e h = e
  item_starts x more false false e h = absurd (cc)

  both_second : (p q : Bool) → (p && q) ≡ true → q ≡ true
  both_second true q h = h
  both_second false q h = cc

  item_begins : (x : Token) (more : List Token) → next_item (x ∷ more) ≡ Some (x ∷ more) → begins_item x ≡ true
  unfolding next_item
  item_begins x more h = both_second x.first (begins_item x) (item_starts x more (is_sign s.Semicolon x) (x.first && begins_item x) refl h)

  pub fine_seq : Fine (seq_in n i)
  unfolding seq_in seq_with
  fine_seq = fine_bind _ _ fine_item (λ v. fine_bind _ _ (fine_all next_item (item (expr_in n i)) item_ahead (good_item (expr_in n i) (good_expr n i g)).takes fine_item item_end (λ x more h. enters_item x (item_begins x more h))) (λ vs. fine_pure _))

pub fine_inner : (n : ℕ) → FineInner (inner n)
unfolding inner
fine_inner zero = record { seq = fine_refuse; expr = fine_refuse; term = fine_refuse }
fine_inner (suc n) = record { seq = fine_seq n (inner n) (fine_inner n) (good_inner n); expr = fine_expr n (inner n) (fine_inner n) (good_inner n); term = fine_term n (inner n) (fine_inner n) (good_inner n) }
