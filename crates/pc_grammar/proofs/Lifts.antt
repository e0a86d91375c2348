-- A part alone is the larger part.
use Rattle.std.proofs.Common.{◌≡◌, ℕ, zero, suc, Bool, true, false, List, [], ◌∷◌, length, Option, None, Ok, Err, refl, ap, ◌∙◌, subst}
use Rattle.pc_tree.specs.Tree as t
use Rattle.pc_token.specs.{declared.kinds.Token.Token, Words.{is_sign, is_word}}
use Rattle.pc_token.specs.declared.kinds.TokenKind.TheVariants as k
use Rattle.pc_token.specs.declared.words.Word.TheVariants as w
use Rattle.pc_token.specs.declared.signs.Sign.TheVariants as s
use Rattle.pc_grammar.specs.{Spells.op_of, Reading.{ReadingOutcome, Parser, Inner, and_then, pure, ◌>>=◌, peek, many, many_step, all, at, begins_suffix, expr_in, expr_with, expr_by, infix_in, infix_with, infix_by, term, atom, atom_at, suffix, postfix, chain_of}}
use Rattle.pc_grammar.proofs.Follow.{Stops_chain, kind_of_word}

pub many_none : {A : Type 0} (next : List Token → Option (List Token)) (p : Parser A) (n : ℕ) (ts : List Token) → next ts ≡ None → many next p n ts ≡ Ok ([], ts)
unfolding many
many_none next p zero ts e = refl
many_none next p (suc n) ts e = ap (many_step p (many next p n) ts) e

-- nothing more is read if `next` says that nothing begins
pub none_more : {A : Type 0} (next : List Token → Option (List Token)) (p : Parser A) (ts : List Token) → next ts ≡ None → all next p ts ≡ Ok ([], ts)
unfolding all many
none_more next p ts e = many_none next p (length ts) ts e

module _ (n : ℕ) (i : Inner) (ts more : List Token) (y : Token) (e : t.Expr) where
  pub atom_alone : atom n i.seq ts ≡ Ok (e, y ∷ more) → Stops_chain y → postfix n i ts ≡ Ok (e, y ∷ more)
  unfolding postfix at chain_of
  atom_alone read stops =
      let go = λ (e : t.Expr). all (at begins_suffix) (suffix n i.expr) >>= λ ss. pure (chain_of e ss) in
      let ends : at begins_suffix (y ∷ more) ≡ None = rw stops.suffix in
      ap (λ o. and_then o go) read ∙ ap (λ o. and_then o (λ ss. pure (chain_of e ss))) (none_more (at begins_suffix) (suffix n i.expr) (y ∷ more) ends)

  pub term_alone : term n i ts ≡ Ok (e, y ∷ more) → op_of y ≡ None → infix_in n i ts ≡ Ok (e, y ∷ more)
  unfolding infix_in infix_with peek
  term_alone read ends =
      let go = λ (e : t.Expr). peek >>= λ x. infix_by (term n i) e (op_of x) in
      ap (λ o. and_then o go) read ∙ ap (λ o. infix_by (term n i) e o (y ∷ more)) ends

  pub infix_alone : infix_in n i ts ≡ Ok (e, y ∷ more) → is_sign s.Assign y ≡ false → expr_in n i ts ≡ Ok (e, y ∷ more)
  unfolding expr_in expr_with peek
  infix_alone read ends =
      let go = λ (e : t.Expr). peek >>= λ x. expr_by n i.expr e x in
      ap (λ o. and_then o go) read ∙ rw ends

pub bind_ok : {A B : Type 0} (o : ReadingOutcome A) (f : A → Parser B) (r : B × List Token) → and_then o f ≡ Ok r → (q : A × List Token) × (o ≡ Ok q) × (f q.0 q.1 ≡ Ok r)
bind_ok (Ok q) f r e = (q, refl, e)
bind_ok (Err q) f r e = absurd (cc)

module _ (n : ℕ) (p : Parser t.Seq) (r : t.Expr × List Token) where
  -- what begins as an atom does not begin with `not` or `consume`
  no_not : (x : Token) (ts : List Token) → atom n p (x ∷ ts) ≡ Ok r → (b : Bool) → is_word w.NotWord x ≡ b → is_word w.NotWord x ≡ false
  unfolding atom peek
  no_not x ts h false e = e
  no_not x ts h true e = let f : atom_at n p (k.Word w.NotWord) (x ∷ ts) ≡ Ok r = subst (λ kk. atom_at n p kk (x ∷ ts) ≡ Ok r) (kind_of_word w.NotWord x e) h in absurd (cc)

  no_consume : (x : Token) (ts : List Token) → atom n p (x ∷ ts) ≡ Ok r → (b : Bool) → is_word w.ConsumeWord x ≡ b → is_word w.ConsumeWord x ≡ false
  unfolding atom peek
  no_consume x ts h false e = e
  no_consume x ts h true e = let f : atom_at n p (k.Word w.ConsumeWord) (x ∷ ts) ≡ Ok r = subst (λ kk. atom_at n p kk (x ∷ ts) ≡ Ok r) (kind_of_word w.ConsumeWord x e) h in absurd (cc)

  no_atom : atom n p [] ≡ Ok r → ⊥
  unfolding atom peek
  no_atom h = cc

pub postfix_alone : (n : ℕ) (i : Inner) (ts : List Token) (r : t.Expr × List Token) → postfix n i ts ≡ Ok r → term n i ts ≡ Ok r
unfolding term peek postfix
postfix_alone n i [] r h = let q = bind_ok (atom n i.seq []) (λ e. all (at begins_suffix) (suffix n i.expr) >>= λ ss. pure (chain_of e ss)) r h in absurd (no_atom n i.seq q.0 q.1)
postfix_alone n i (x ∷ ts) r h =
    let q = bind_ok (atom n i.seq (x ∷ ts)) (λ e. all (at begins_suffix) (suffix n i.expr) >>= λ ss. pure (chain_of e ss)) r h in
    rw (no_not n i.seq q.0 x ts q.1 (is_word w.NotWord x) refl, no_consume n i.seq q.0 x ts q.1 (is_word w.ConsumeWord x) refl) h
