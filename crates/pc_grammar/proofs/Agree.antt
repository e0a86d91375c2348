-- With more levels left the result is the same, except if a level was one too many.
use Rattle.std.proofs.Common.{◌≡◌, ℕ, zero, suc, ◌<◌, ◌≤◌, Bool, true, false, List, ◌∷◌, length, Option, Some, None, Ok, Err, refl, ap, subst, arith, cond, ◌⊎◌, inl, inr}
use Rattle.pc_tree.specs.Tree as t
use Rattle.pc_tree.specs.declared.kinds.Op.{Op}
use Rattle.pc_token.specs.{declared.kinds.Token.Token, declared.kinds.TokenKind.TokenKind, declared.words.Word.Word, Words.{is_sign, is_word}}
use Rattle.pc_token.specs.declared.kinds.TokenKind.TheVariants as k
use Rattle.pc_token.specs.declared.words.Word.TheVariants as w
use Rattle.pc_token.specs.declared.signs.Sign.TheVariants as s
use Rattle.pc_grammar.specs.{Spells.op_of, Reading.{too_deep, ReadingOutcome, Parser, Inner, and_then, pure, ◌>>=◌, peek, take_if, deeper, many, many_step, all, name, maybe_type, maybe_cap, group, arm, if_, while_, recover_, other, atom, atom_at, args, arg_list, suffix, postfix, negation, consume, term, infix_in, infix_with, infix_by, becomes, assigns, expr_in, expr_with, local, item, seq_in, seq_with, inner, next_item, after, at, is_op, begins_suffix}}

abbrev pub Agree : {A : Type 0} → ReadingOutcome A → ReadingOutcome A → Type 0
Agree o q = (o ≡ q) ⊎ ((r : List Token) × (o ≡ Err (too_deep, r)))

abbrev pub Agrees : {A : Type 0} → Parser A → Parser A → Type 0
Agrees p q = (ts : List Token) → Agree (p ts) (q ts)

pub same : {A : Type 0} (p : Parser A) → Agrees p p
same p ts = inl refl

bound : {A B : Type 0} (o : ReadingOutcome A) (f g : A → Parser B) → ((x : A) → Agrees (f x) (g x)) → Agree (and_then o f) (and_then o g)
bound (Ok r) f g h = h r.0 r.1
bound (Err e) f g h = inl refl

pub bind_agrees : {A B : Type 0} (p q : Parser A) (f g : A → Parser B) → Agrees p q → ((x : A) → Agrees (f x) (g x)) → Agrees (p >>= f) (q >>= g)
bind_agrees p q f g a h ts = elim (a ts) [ inl e ↦ subst (λ o. Agree (and_then (p ts) f) (and_then o g)) e (bound (p ts) f g h) | inr e ↦ inr (e.0, ap (λ o. and_then o f) e.1) ]

pub cond_agrees : {A : Type 0} (b : Bool) (p q p' q' : Parser A) → Agrees p p' → Agrees q q' → Agrees (cond b p q) (cond b p' q')
cond_agrees true p q p' q' a c = a
cond_agrees false p q p' q' a c = c

deeper_agrees : {A : Type 0} (n m : ℕ) (p q : Parser A) → n ≤ m → (0 < n → Agrees p q) → Agrees (deeper n p) (deeper m q)
unfolding deeper
deeper_agrees zero m p q le a ts = inr (ts, refl)
deeper_agrees (suc n) zero p q le a ts = absurd (omega arith)
deeper_agrees (suc n) (suc m) p q le a ts = a (omega arith) ts

module _ {A : Type 0} (next : List Token → Option (List Token)) (p q : Parser A) (a : Agrees p q) where
  step_agrees : (m : ℕ) → Agrees (many next p m) (many next q m) → (ts : List Token) (o : Option (List Token)) → Agree (many_step p (many next p m) ts o) (many_step q (many next q m) ts o)
  step_agrees m h ts None = inl refl
  step_agrees m h ts (Some begin) = bind_agrees p q _ _ a (λ x. bind_agrees (many next p m) (many next q m) _ _ h (λ xs. same (pure (x ∷ xs)))) begin

  many_agrees : (m : ℕ) → Agrees (many next p m) (many next q m)
  unfolding many
  many_agrees zero ts = inl refl
  many_agrees (suc m) ts = step_agrees m (many_agrees m) ts (next ts)

  pub all_agrees : Agrees (all next p) (all next q)
  unfolding all
  all_agrees ts = many_agrees (length ts) ts

module _ (p q : Parser t.Expr) (a : Agrees p q) where
  arg_list_agrees : Agrees (arg_list p) (arg_list q)
  unfolding arg_list
  arg_list_agrees = bind_agrees _ _ _ _ (same peek) (λ x. cond_agrees (is_sign s.CloseParen x) _ _ _ _ (same _) (bind_agrees p q _ _ a (λ e. bind_agrees _ _ _ _ (all_agrees (after (is_sign s.Comma)) p q a) (λ es. same _))))

  local_agrees : (f : Bool) → Agrees (local f p) (local f q)
  unfolding local
  local_agrees f = bind_agrees _ _ _ _ (same (take_if _)) (λ x. bind_agrees _ _ _ _ (same name) (λ m. bind_agrees _ _ _ _ (same maybe_type) (λ ty. bind_agrees _ _ _ _ (bind_agrees _ _ _ _ (same (take_if _)) (λ z. a)) (λ v. same _))))

  item_agrees : Agrees (item p) (item q)
  unfolding item
  item_agrees = bind_agrees _ _ _ _ (same peek) (λ x. cond_agrees (is_word w.LetWord x) _ _ _ _ (local_agrees true) (cond_agrees (is_word w.VarWord x) _ _ _ _ (local_agrees false) (bind_agrees p q _ _ a (λ v. same _))))

  infix_by_agrees : (e : t.Expr) (o : Option Op) → Agrees (infix_by p e o) (infix_by q e o)
  infix_by_agrees e None = same _
  infix_by_agrees e (Some o) = bind_agrees _ _ _ _ (all_agrees (after (is_op o)) p q a) (λ es. same _)

  infix_with_agrees : Agrees (infix_with p) (infix_with q)
  unfolding infix_with
  infix_with_agrees = bind_agrees p q _ _ a (λ e. bind_agrees _ _ _ _ (same peek) (λ x. infix_by_agrees e (op_of x)))

seq_with_agrees : (p q : Parser t.Item) → Agrees p q → Agrees (seq_with p) (seq_with q)
unfolding seq_with
seq_with_agrees p q a = bind_agrees p q _ _ a (λ e. bind_agrees _ _ _ _ (all_agrees next_item p q a) (λ es. same _))

module _ (n m : ℕ) (le : n ≤ m) where
  module _ (p q : Parser t.Seq) (a : 0 < n → Agrees p q) where
    group_agrees : Agrees (group n p) (group m q)
    unfolding group
    group_agrees = deeper_agrees n m _ _ le (λ lt. bind_agrees _ _ _ _ (same (take_if _)) (λ x. bind_agrees p q _ _ (a lt) (λ b. same _)))

    other_agrees : 0 < n → Agrees (other p) (other q)
    unfolding other
    other_agrees lt = bind_agrees _ _ _ _ (same peek) (λ x. cond_agrees (is_word w.ElseWord x) _ _ _ _ (bind_agrees _ _ _ _ (bind_agrees _ _ _ _ (same (take_if _)) (λ y. a lt)) (λ b. same _)) (same _))

    arm_agrees : (word : Word) → 0 < n → Agrees (arm word p) (arm word q)
    unfolding arm
    arm_agrees word lt = bind_agrees _ _ _ _ (same (take_if _)) (λ x. bind_agrees p q _ _ (a lt) (λ c. bind_agrees _ _ _ _ (bind_agrees _ _ _ _ (same (take_if _)) (λ y. a lt)) (λ b. same _)))

    if_agrees : Agrees (if_ n p) (if_ m q)
    unfolding if_
    if_agrees = deeper_agrees n m _ _ le (λ lt. bind_agrees _ _ _ _ (arm_agrees w.IfWord lt) (λ x. bind_agrees _ _ _ _ (all_agrees (at (is_word w.ElseifWord)) _ _ (arm_agrees w.ElseifWord lt)) (λ xs. bind_agrees _ _ _ _ (other_agrees lt) (λ o. same _))))

    while_agrees : Agrees (while_ n p) (while_ m q)
    unfolding while_
    while_agrees = deeper_agrees n m _ _ le (λ lt. bind_agrees _ _ _ _ (same (take_if _)) (λ x. bind_agrees p q _ _ (a lt) (λ c. bind_agrees _ _ _ _ (bind_agrees _ _ _ _ (same (take_if _)) (λ y. a lt)) (λ b. same _))))

    recover_agrees : Agrees (recover_ n p) (recover_ m q)
    unfolding recover_
    recover_agrees = deeper_agrees n m _ _ le (λ lt. bind_agrees _ _ _ _ (same (take_if _)) (λ x. bind_agrees _ _ _ _ (same maybe_cap) (λ c. bind_agrees p q _ _ (a lt) (λ b. same _))))

    atom_at_agrees : (kk : TokenKind) → Agrees (atom_at n p kk) (atom_at m q kk)
    atom_at_agrees (k.Name text) = same _
    atom_at_agrees (k.TypeName text) = same _
    atom_at_agrees (k.Number v) = same _
    atom_at_agrees (k.Text b) = same _
    atom_at_agrees (k.Word w.ThisWord) = same _
    atom_at_agrees (k.Word w.TrueWord) = same _
    atom_at_agrees (k.Word w.FalseWord) = same _
    atom_at_agrees (k.Sign s.OpenParen) = group_agrees
    atom_at_agrees (k.Word w.IfWord) = if_agrees
    atom_at_agrees (k.Word w.WhileWord) = while_agrees
    atom_at_agrees (k.Word w.RecoverWord) = recover_agrees
    atom_at_agrees _ = same _

    atom_agrees : Agrees (atom n p) (atom m q)
    unfolding atom
    atom_agrees = bind_agrees _ _ _ _ (same peek) (λ x. atom_at_agrees x.kind)

  module _ (p q : Parser t.Expr) (a : 0 < n → Agrees p q) where
    args_agrees : Agrees (args n p) (args m q)
    unfolding args
    args_agrees = deeper_agrees n m _ _ le (λ lt. bind_agrees _ _ _ _ (same (take_if _)) (λ x. bind_agrees _ _ _ _ (arg_list_agrees p q (a lt)) (λ es. same _)))

    suffix_agrees : Agrees (suffix n p) (suffix m q)
    unfolding suffix
    suffix_agrees = bind_agrees _ _ _ _ (same peek) (λ x. cond_agrees (is_sign s.Dot x) _ _ _ _ (same _) args_agrees)

    negation_agrees : Agrees (negation n p) (negation m q)
    unfolding negation
    negation_agrees = deeper_agrees n m _ _ le (λ lt. bind_agrees _ _ _ _ (same (take_if _)) (λ x. bind_agrees p q _ _ (a lt) (λ e. same _)))

    becomes_agrees : (l : t.Expr) → Agrees (becomes n p l) (becomes m q l)
    unfolding becomes
    becomes_agrees l = deeper_agrees n m _ _ le (λ lt. bind_agrees _ _ _ _ (bind_agrees _ _ _ _ (same (take_if _)) (λ y. a lt)) (λ e. same _))

  module _ (i j : Inner) (a : 0 < n → Agrees i.seq j.seq × Agrees i.expr j.expr × Agrees i.term j.term) where
    postfix_agrees : Agrees (postfix n i) (postfix m j)
    unfolding postfix
    postfix_agrees = bind_agrees _ _ _ _ (atom_agrees i.seq j.seq (λ lt. (a lt).0)) (λ e. bind_agrees _ _ _ _ (all_agrees (at begins_suffix) _ _ (suffix_agrees i.expr j.expr (λ lt. (a lt).1))) (λ ss. same _))

    term_agrees : Agrees (term n i) (term m j)
    unfolding term
    term_agrees = bind_agrees _ _ _ _ (same peek) (λ x. cond_agrees (is_word w.NotWord x) _ _ _ _ (negation_agrees i.term j.term (λ lt. (a lt).2)) (cond_agrees (is_word w.ConsumeWord x) _ _ _ _ (same consume) postfix_agrees))

    pub infix_agrees : Agrees (infix_in n i) (infix_in m j)
    unfolding infix_in
    infix_agrees = infix_with_agrees (term n i) (term m j) term_agrees

    pub expr_agrees : Agrees (expr_in n i) (expr_in m j)
    unfolding expr_in expr_with
    expr_agrees = bind_agrees _ _ _ _ infix_agrees (λ e. bind_agrees _ _ _ _ (same peek) (λ x. cond_agrees (assigns x e) _ _ _ _ (becomes_agrees i.expr j.expr (λ lt. (a lt).1) e) (same _)))

    pub seq_agrees : Agrees (seq_in n i) (seq_in m j)
    unfolding seq_in
    seq_agrees = seq_with_agrees (item (expr_in n i)) (item (expr_in m j)) (item_agrees (expr_in n i) (expr_in m j) expr_agrees)

pub inner_agrees : (n m : ℕ) → n ≤ m → 0 < n → Agrees (inner n).seq (inner m).seq × Agrees (inner n).expr (inner m).expr × Agrees (inner n).term (inner m).term
unfolding inner
inner_agrees zero m le lt = absurd (omega arith)
inner_agrees (suc n) zero le lt = absurd (omega arith)
inner_agrees (suc n) (suc m) le lt =
    let l : n ≤ m = omega arith in
    (seq_agrees n m l (inner n) (inner m) (inner_agrees n m l), expr_agrees n m l (inner n) (inner m) (inner_agrees n m l), term_agrees n m l (inner n) (inner m) (inner_agrees n m l))
