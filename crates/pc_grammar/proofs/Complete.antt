-- What is spelled is read, if what follows does not continue it.
use Rattle.std.proofs.Common.{◌≡◌, ℕ, zero, suc, ◌-◌, ◌<◌, ◌≤◌, true, false, List, [], ◌∷◌, ◌++◌, length, Option, Some, Ok, refl, sym, ap, ap₂, ◌∙◌, subst, arith, append_assoc, length-append}
use Rattle.pc_base.specs.declared.span.Span.{Span}
use Rattle.pc_tree.specs.Tree as t
use Rattle.pc_tree.specs.{Depths.{depth, exprs_depth, suffix_depth, suffixes_depth, arm_depth, arms_depth, other_depth, seq_depth, item_depth, items_depth}, declared.kinds.Op.Op}
use Rattle.pc_token.specs.{declared.kinds.Token.Token, declared.words.Word.Word, Words.{is_sign, is_word}}
use Rattle.pc_token.specs.declared.kinds.TokenKind.TheVariants as k
use Rattle.pc_token.specs.declared.words.Word.TheVariants as w
use Rattle.pc_token.specs.declared.signs.Sign.TheVariants as s
use Rattle.pc_grammar.specs.{Spells.{IsNext, IsSome, is_atom, is_term, is_infix, is_place, span_from_to, over, Spells, SpellsTerms, SpellsMoreTerms, SpellsSuffix, SpellsSuffixes, SpellsArgs, SpellsMoreArgs, SpellsArm, SpellsMoreArms, SpellsOther, SpellsSeq, SpellsItems, SpellsMoreItems, SpellsItem}, Reading.{Parser, Inner, many, all, next_item, after, at, begins_suffix, begins_item, is_op, arm, arg_list, other, suffix, atom, term, item, infix_in, expr_in, seq_in, seq_of, infix_of, postfix, chain_of, inner, last_suffix, maybe_cap, if_}}
use Rattle.pc_grammar.proofs.{Levels.{inner_seq, inner_expr, inner_term}, Follow.{Stops_chain, Stops_infix, Stops_expr, Stops_seq, kind_of_sign, kind_of_word, close_stops, then_stops, elseif_stops, else_stops, do_stops, end_stops, comma_stops, semicolon_stops, assign_stops, assign_no_cap, assign_no_colon, op_stops, item_stops, item_no_close, item_no_cap, to_infix, to_chain, to_expr, after_op, after_no_op, after_sign, after_no_sign, at_one, at_none, open_no_dot, next_semicolon, next_first, next_none, end_no_else, else_no_elseif, close_no_comma}, First.{First, Item, first_of, first_arm, first_item, first_seq, first_suffix}, Lists.{list_of, suffix_list, arm_list, item_list, exprs_back, suffixes_back, arms_back, items_back}, Spans.{over_closed, over_two, over_three, over_not, over_arm, over_local, over_assign, over_if, chain_span, terms_span, items_span}, Lifts.{atom_alone, term_alone, infix_alone, postfix_alone, many_none}, Steps.{name_atom, type_name_atom, atom_by, truth_atom, leaf_read, group_read, if_read, while_read, recover_read, arm_read, other_read, no_other_read, negation_read, becomes_read, args_read, dot_read, args_suffix, no_args_read, consume_read, one_more, not_term, consume_term, infix_read, chain_read, assign_read, args_list_read, seq_read, plain_read, local_read, local_item_read, cap_read, typed_read}}

-- what reads an expression of its kind
abbrev Own : ℕ → t.Expr → List Token → Token → List Token → Type 0
Own n (t.number v sp) ts y more = atom n (inner n).seq ts ≡ Ok (t.number v sp, y ∷ more)
Own n (t.truth b sp) ts y more = atom n (inner n).seq ts ≡ Ok (t.truth b sp, y ∷ more)
Own n (t.text b sp) ts y more = atom n (inner n).seq ts ≡ Ok (t.text b sp, y ∷ more)
Own n (t.name m) ts y more = atom n (inner n).seq ts ≡ Ok (t.name m, y ∷ more)
Own n (t.type_name m) ts y more = atom n (inner n).seq ts ≡ Ok (t.type_name m, y ∷ more)
Own n (t.this sp) ts y more = atom n (inner n).seq ts ≡ Ok (t.this sp, y ∷ more)
Own n (t.group b sp) ts y more = atom n (inner n).seq ts ≡ Ok (t.group b sp, y ∷ more)
Own n (t.if_ a o sp) ts y more = atom n (inner n).seq ts ≡ Ok (t.if_ a o sp, y ∷ more)
Own n (t.while_ c b sp) ts y more = atom n (inner n).seq ts ≡ Ok (t.while_ c b sp, y ∷ more)
Own n (t.recover c b sp) ts y more = atom n (inner n).seq ts ≡ Ok (t.recover c b sp, y ∷ more)
Own n (t.chain e ss sp) ts y more = Stops_chain y → postfix n (inner n) ts ≡ Ok (t.chain e ss sp, y ∷ more)
Own n (t.consume m sp) ts y more = term n (inner n) ts ≡ Ok (t.consume m sp, y ∷ more)
Own n (t.not_ e sp) ts y more = Stops_chain y → term n (inner n) ts ≡ Ok (t.not_ e sp, y ∷ more)
Own n (t.infix_ o es sp) ts y more = Stops_infix y → infix_in n (inner n) ts ≡ Ok (t.infix_ o es sp, y ∷ more)
Own n (t.assign l r sp) ts y more = Stops_expr y → expr_in n (inner n) ts ≡ Ok (t.assign l r sp, y ∷ more)

module _ (n : ℕ) (ts : List Token) (y : Token) (more : List Token) where
  as_atom : (e : t.Expr) → is_atom e ≡ true → Own n e ts y more → atom n (inner n).seq ts ≡ Ok (e, y ∷ more)
  as_atom (t.number v sp) a h = h
  as_atom (t.truth b sp) a h = h
  as_atom (t.text b sp) a h = h
  as_atom (t.name m) a h = h
  as_atom (t.type_name m) a h = h
  as_atom (t.this sp) a h = h
  as_atom (t.group b sp) a h = h
  as_atom (t.if_ c o sp) a h = h
  as_atom (t.while_ c b sp) a h = h
  as_atom (t.recover c b sp) a h = h
  as_atom (t.chain e ss sp) a h = cc
  as_atom (t.consume m sp) a h = cc
  as_atom (t.not_ e sp) a h = cc
  as_atom (t.infix_ o es sp) a h = cc
  as_atom (t.assign l r sp) a h = cc

  atom_term : (e : t.Expr) → Stops_chain y → atom n (inner n).seq ts ≡ Ok (e, y ∷ more) → term n (inner n) ts ≡ Ok (e, y ∷ more)
  atom_term e s h = postfix_alone n (inner n) ts _ (atom_alone n (inner n) ts more y e h s)

  as_term : (e : t.Expr) → is_term e ≡ true → Stops_chain y → Own n e ts y more → term n (inner n) ts ≡ Ok (e, y ∷ more)
  as_term (t.number v sp) a s h = atom_term (t.number v sp) s h
  as_term (t.truth b sp) a s h = atom_term (t.truth b sp) s h
  as_term (t.text b sp) a s h = atom_term (t.text b sp) s h
  as_term (t.name m) a s h = atom_term (t.name m) s h
  as_term (t.type_name m) a s h = atom_term (t.type_name m) s h
  as_term (t.this sp) a s h = atom_term (t.this sp) s h
  as_term (t.group b sp) a s h = atom_term (t.group b sp) s h
  as_term (t.if_ c o sp) a s h = atom_term (t.if_ c o sp) s h
  as_term (t.while_ c b sp) a s h = atom_term (t.while_ c b sp) s h
  as_term (t.recover c b sp) a s h = atom_term (t.recover c b sp) s h
  as_term (t.chain e ss sp) a s h = postfix_alone n (inner n) ts _ (h s)
  as_term (t.consume m sp) a s h = h
  as_term (t.not_ e sp) a s h = h s
  as_term (t.infix_ o es sp) a s h = cc
  as_term (t.assign l r sp) a s h = cc

  term_infix : (e : t.Expr) → is_term e ≡ true → Stops_infix y → Own n e ts y more → infix_in n (inner n) ts ≡ Ok (e, y ∷ more)
  term_infix e a s h = term_alone n (inner n) ts more y e (as_term e a (to_chain y s) h) s.op

  pub as_infix : (e : t.Expr) → is_infix e ≡ true → Stops_infix y → Own n e ts y more → infix_in n (inner n) ts ≡ Ok (e, y ∷ more)
  as_infix (t.number v sp) a s h = term_infix (t.number v sp) refl s h
  as_infix (t.truth b sp) a s h = term_infix (t.truth b sp) refl s h
  as_infix (t.text b sp) a s h = term_infix (t.text b sp) refl s h
  as_infix (t.name m) a s h = term_infix (t.name m) refl s h
  as_infix (t.type_name m) a s h = term_infix (t.type_name m) refl s h
  as_infix (t.this sp) a s h = term_infix (t.this sp) refl s h
  as_infix (t.group b sp) a s h = term_infix (t.group b sp) refl s h
  as_infix (t.if_ c o sp) a s h = term_infix (t.if_ c o sp) refl s h
  as_infix (t.while_ c b sp) a s h = term_infix (t.while_ c b sp) refl s h
  as_infix (t.recover c b sp) a s h = term_infix (t.recover c b sp) refl s h
  as_infix (t.chain e ss sp) a s h = term_infix (t.chain e ss sp) refl s h
  as_infix (t.consume m sp) a s h = term_infix (t.consume m sp) refl s h
  as_infix (t.not_ e sp) a s h = term_infix (t.not_ e sp) refl s h
  as_infix (t.infix_ o es sp) a s h = h s
  as_infix (t.assign l r sp) a s h = cc

  expr_by_infix : (e : t.Expr) → is_infix e ≡ true → Stops_expr y → Own n e ts y more → expr_in n (inner n) ts ≡ Ok (e, y ∷ more)
  expr_by_infix e a s h = infix_alone n (inner n) ts more y e (as_infix e a (to_infix y s) h) s.assign

  pub as_expr : (e : t.Expr) → Stops_expr y → Own n e ts y more → expr_in n (inner n) ts ≡ Ok (e, y ∷ more)
  as_expr (t.number v sp) s h = expr_by_infix (t.number v sp) refl s h
  as_expr (t.truth b sp) s h = expr_by_infix (t.truth b sp) refl s h
  as_expr (t.text b sp) s h = expr_by_infix (t.text b sp) refl s h
  as_expr (t.name m) s h = expr_by_infix (t.name m) refl s h
  as_expr (t.type_name m) s h = expr_by_infix (t.type_name m) refl s h
  as_expr (t.this sp) s h = expr_by_infix (t.this sp) refl s h
  as_expr (t.group b sp) s h = expr_by_infix (t.group b sp) refl s h
  as_expr (t.if_ c o sp) s h = expr_by_infix (t.if_ c o sp) refl s h
  as_expr (t.while_ c b sp) s h = expr_by_infix (t.while_ c b sp) refl s h
  as_expr (t.recover c b sp) s h = expr_by_infix (t.recover c b sp) refl s h
  as_expr (t.chain e ss sp) s h = expr_by_infix (t.chain e ss sp) refl s h
  as_expr (t.consume m sp) s h = expr_by_infix (t.consume m sp) refl s h
  as_expr (t.not_ e sp) s h = expr_by_infix (t.not_ e sp) refl s h
  as_expr (t.infix_ o es sp) s h = expr_by_infix (t.infix_ o es sp) refl s h
  as_expr (t.assign l r sp) s h = h s

  as_place : (e : t.Expr) → is_place e ≡ true → Stops_infix y → Own n e ts y more → infix_in n (inner n) ts ≡ Ok (e, y ∷ more)
  as_place (t.name m) a s h = term_infix (t.name m) refl s h
  as_place (t.chain e ss sp) a s h = term_infix (t.chain e ss sp) refl s h
  as_place (t.number v sp) a s h = cc
  as_place (t.truth b sp) a s h = cc
  as_place (t.text b sp) a s h = cc
  as_place (t.type_name m) a s h = cc
  as_place (t.this sp) a s h = cc
  as_place (t.group b sp) a s h = cc
  as_place (t.if_ c o sp) a s h = cc
  as_place (t.while_ c b sp) a s h = cc
  as_place (t.recover c b sp) a s h = cc
  as_place (t.consume m sp) a s h = cc
  as_place (t.not_ e sp) a s h = cc
  as_place (t.infix_ o es sp) a s h = cc
  as_place (t.assign l r sp) a s h = cc

-- ---- the token after a part, before others of its kind

abbrev NoElseif : Token → Type 0
NoElseif z = Stops_seq z × (is_word w.ElseifWord z ≡ false)

module _ (y : Token) (more : List Token) where
  behind_term : (es : t.Exprs) (o : Op) (b : List Token) → SpellsMoreTerms es o b → Stops_chain y → First Stops_chain (b ++ y ∷ more)
  behind_term t.no_exprs o b h stops = (y, more, ap (λ l. l ++ y ∷ more) h, stops)
  behind_term (t.expr e es) o b h stops = (h.0, (h.1 ++ h.2) ++ y ∷ more, ap (λ l. l ++ y ∷ more) h.3, op_stops h.0 o h.4)

  behind_arg : (es : t.Exprs) (b : List Token) → SpellsMoreArgs es b → Stops_expr y → First Stops_expr (b ++ y ∷ more)
  behind_arg t.no_exprs b h stops = (y, more, ap (λ l. l ++ y ∷ more) h, stops)
  behind_arg (t.expr e es) b h stops = (h.0, (h.1 ++ h.2) ++ y ∷ more, ap (λ l. l ++ y ∷ more) h.3, comma_stops h.0 (kind_of_sign s.Comma h.0 h.4))

  next_stops : (n a b : List Token) → IsNext n a → First Item a → (zs : List Token) → First Stops_expr ((n ++ (a ++ b)) ++ zs)
  next_stops [] [] b h f zs = absurd h
  next_stops [] (x ∷ a) b h f zs = (x, (a ++ b) ++ zs, refl, item_stops x (let e : f.0 ≡ x = cc (f.2) in subst (λ z. begins_item z ≡ true) e f.3) h)
  next_stops (x ∷ []) a b h f zs = (x, (a ++ b) ++ zs, refl, semicolon_stops x (kind_of_sign s.Semicolon x h))
  next_stops (x ∷ z ∷ n) a b h f zs = absurd h

  behind_item : (is : t.Items) (b : List Token) → SpellsMoreItems is b → Stops_expr y → First Stops_expr (b ++ y ∷ more)
  behind_item t.no_items b h stops = (y, more, ap (λ l. l ++ y ∷ more) h, stops)
  behind_item (t.item i is) b h stops = let r = next_stops h.0 h.1 h.2 h.4 (first_item i h.1 h.5) (y ∷ more) in (r.0, r.1, ap (λ l. l ++ y ∷ more) h.3 ∙ r.2, r.3)

  behind_arms : (xs : t.Arms) (b : List Token) → SpellsMoreArms xs b → Stops_seq y → First Stops_seq (b ++ y ∷ more)
  behind_arms t.no_arms b h stops = (y, more, ap (λ l. l ++ y ∷ more) h, stops)
  behind_arms (t.arm x xs) b h stops = let f = first_arm x w.ElseifWord h.0 h.3 in (f.0, (f.1 ++ h.1) ++ y ∷ more, ap (λ l. l ++ y ∷ more) (h.2 ∙ ap (λ l. l ++ h.1) f.2), elseif_stops f.0 (kind_of_word w.ElseifWord f.0 f.3))

  behind_other : (o : t.Other) (b : List Token) → SpellsOther o b → y.kind ≡ k.Word w.EndWord → First NoElseif (b ++ y ∷ more)
  behind_other t.no_other b h e = (y, more, ap (λ l. l ++ y ∷ more) h, (end_stops y e, (end_no_else y e).1))
  behind_other (t.other c) b h e = let else = kind_of_word w.ElseWord h.0 h.3 in (h.0, h.1 ++ y ∷ more, ap (λ l. l ++ y ∷ more) h.2, (else_stops h.0 else, else_no_elseif h.0 else))

  behind_suffixes : (ss : t.Suffixes) (b : List Token) → SpellsSuffixes ss b → IsSome ss → First (λ z. Unit {0}) (b ++ y ∷ more)
  behind_suffixes t.no_suffixes b h some = absurd some
  behind_suffixes (t.suffix x ss) b h some = let f = first_suffix x h.0 h.3 in (f.0, (f.1 ++ h.1) ++ y ∷ more, ap (λ l. l ++ y ∷ more) (h.2 ∙ ap (λ l. l ++ h.1) f.2), tt)

next_begins : (n a zs : List Token) → IsNext n a → First Item a → next_item (n ++ (a ++ zs)) ≡ Some (a ++ zs)
next_begins [] [] zs h f = absurd h
next_begins [] (x ∷ a) zs h f = next_first x (a ++ zs) (let e : f.0 ≡ x = cc (f.2) in subst (λ z. begins_item z ≡ true) e f.3) h
next_begins (x ∷ []) a zs h f = next_semicolon x (a ++ zs) h
next_begins (x ∷ z ∷ n) a zs h f = absurd h

-- ---- what is built from the parts

infix_made : (o : Op) (es : t.Exprs) (sp : Span) (ts : List Token) → SpellsTerms es o ts → sp ≡ over ts → infix_of o (list_of es) ≡ t.infix_ o es sp
unfolding infix_of
infix_made o es sp ts h e = rw (exprs_back es, terms_span es o ts h, sym e)

seq_made : (is : t.Items) (sp : Span) (ts : List Token) → SpellsItems is ts → sp ≡ over ts → seq_of (item_list is) ≡ t.seq is sp
unfolding seq_of
seq_made is sp ts h e = rw (items_back is, items_span is ts h, sym e)

chain_made : (e : t.Expr) (ss : t.Suffixes) (sp : Span) → IsSome ss → span_from_to (t.span_of e) (last_suffix (t.span_of e) (suffix_list ss)) ≡ sp → chain_of e (suffix_list ss) ≡ t.chain e ss sp
unfolding chain_of
chain_made e t.no_suffixes sp some h = absurd some
chain_made e (t.suffix x ss) sp some h = rw (suffixes_back ss, h)

-- any sufficient number of repetitions gives the same as that for the whole list
pub all_enough : {A : Type 0} (next : List Token → Option (List Token)) (p : Parser A) (ts : List Token) (r : List A × List Token) → many next p (length ts) ts ≡ Ok r → all next p ts ≡ Ok r
unfolding all
all_enough next p ts r h = h

pub one_token : (x y : Token) (a b : List Token) (more : List Token) (ts : List Token) → ts ≡ x ∷ (a ++ b) → ts ++ y ∷ more ≡ x ∷ (a ++ (b ++ y ∷ more))
one_token x y a b more ts e = ap (λ l. l ++ y ∷ more) e ∙ ap (λ l. x ∷ l) (append_assoc a b (y ∷ more))

pub two_parts : (a b ts zs : List Token) → ts ≡ a ++ b → ts ++ zs ≡ a ++ (b ++ zs)
two_parts a b ts zs e = ap (λ l. l ++ zs) e ∙ append_assoc a b zs

three_parts : (n a b ts zs : List Token) → ts ≡ n ++ (a ++ b) → ts ++ zs ≡ n ++ (a ++ (b ++ zs))
three_parts n a b ts zs e = ap (λ l. l ++ zs) e ∙ append_assoc n (a ++ b) zs ∙ ap (λ l. n ++ l) (append_assoc a b zs)

seq_in_read : (n : ℕ) (i : Inner) (ts rest end : List Token) (v : t.Item) (vs : List t.Item) → item (expr_in n i) ts ≡ Ok (v, rest) → all next_item (item (expr_in n i)) rest ≡ Ok (vs, end) → seq_in n i ts ≡ Ok (seq_of (v ∷ vs), end)
unfolding seq_in
seq_in_read n i ts rest end v vs one more = seq_read (item (expr_in n i)) ts rest end v vs one more

mutual
  pub complete : (e : t.Expr) (n : ℕ) (ts : List Token) (y : Token) (more : List Token) → Spells e ts → depth e ≤ n → Own n e (ts ++ y ∷ more) y more
  complete (t.number v sp) n ts y more h d =
      let p = (inner n).seq in
      ap (λ l. atom n p (l ++ y ∷ more)) h.1 ∙ atom_by n p h.0 (k.Number v) (y ∷ more) _ h.2 (leaf_read n p (t.number v) h.0 (y ∷ more)) ∙ ap (λ sp. Ok (t.number v sp, y ∷ more)) (sym (h.3 ∙ ap over h.1))
  complete (t.truth b sp) n ts y more h d =
      let p = (inner n).seq in
      ap (λ l. atom n p (l ++ y ∷ more)) h.1 ∙ truth_atom n p b h.0 (y ∷ more) h.2 ∙ ap (λ sp. Ok (t.truth b sp, y ∷ more)) (sym (h.3 ∙ ap over h.1))
  complete (t.text b sp) n ts y more h d =
      let p = (inner n).seq in
      ap (λ l. atom n p (l ++ y ∷ more)) h.1 ∙ atom_by n p h.0 (k.Text b) (y ∷ more) _ h.2 (leaf_read n p (t.text b) h.0 (y ∷ more)) ∙ ap (λ sp. Ok (t.text b sp, y ∷ more)) (sym (h.3 ∙ ap over h.1))
  complete (t.name m) n ts y more h d = ap (λ l. atom n (inner n).seq (l ++ y ∷ more)) h.1 ∙ name_atom n (inner n).seq h.0 m (y ∷ more) h.2
  complete (t.type_name m) n ts y more h d = ap (λ l. atom n (inner n).seq (l ++ y ∷ more)) h.1 ∙ type_name_atom n (inner n).seq h.0 m (y ∷ more) h.2
  complete (t.this sp) n ts y more h d =
      let p = (inner n).seq in
      ap (λ l. atom n p (l ++ y ∷ more)) h.1 ∙ atom_by n p h.0 (k.Word w.ThisWord) (y ∷ more) _ (kind_of_word w.ThisWord h.0 h.2) (leaf_read n p t.this h.0 (y ∷ more)) ∙ ap (λ sp. Ok (t.this sp, y ∷ more)) (sym (h.3 ∙ ap over h.1))
  complete (t.consume m sp) n ts y more h d =
      ap (λ l. term n (inner n) (l ++ y ∷ more)) h.2 ∙ consume_term n (inner n) h.0 (h.1 ∷ y ∷ more) _ h.3 (consume_read h.0 h.1 m (y ∷ more) h.3 h.4)
      ∙ ap (λ sp. Ok (t.consume m sp, y ∷ more)) (ap (span_from_to h.0.span) (sym h.4.1) ∙ sym (h.5 ∙ ap over h.2))
  complete (t.not_ e sp) n ts y more h d = λ stops.
      let some : 0 < n = omega arith in
      let inside = h.1 ++ y ∷ more in
      let read = ap (λ p. p inside) (inner_term n some) ∙ as_term (n - 1) inside y more e h.4 stops (complete e (n - 1) h.1 y more h.5 (omega arith)) in
      ap (λ l. term n (inner n) (l ++ y ∷ more)) h.2 ∙ not_term n (inner n) h.0 inside _ h.3 (negation_read n (inner n).term h.0 inside (y ∷ more) e some h.3 read)
      ∙ ap (λ sp. Ok (t.not_ e sp, y ∷ more)) (sym (h.6 ∙ ap over h.2 ∙ over_not h.0 e h.1 h.5))
  complete (t.infix_ o t.no_exprs sp) n ts y more h d = absurd h.0
  complete (t.infix_ o (t.expr e t.no_exprs) sp) n ts y more h d = absurd h.0.5
  complete (t.infix_ o (t.expr e (t.expr f es)) sp) n ts y more h d = λ stops.
      let g = h.0 in
      let k = g.6 in
      let b = g.1 ++ y ∷ more in
      let at_op : b ≡ k.0 ∷ ((k.1 ++ k.2) ++ y ∷ more) = ap (λ l. l ++ y ∷ more) k.3 in
      let one = ap (λ l. term n (inner n) (g.0 ++ l)) at_op ∙ as_term n (g.0 ++ k.0 ∷ ((k.1 ++ k.2) ++ y ∷ more)) k.0 ((k.1 ++ k.2) ++ y ∷ more) e g.3 (op_stops k.0 o k.4) (complete e n g.0 k.0 ((k.1 ++ k.2) ++ y ∷ more) g.4 (omega arith)) in
      let two = all_enough (after (is_op o)) (term n (inner n)) b _ (complete_terms (t.expr f es) o n g.1 y more (length b) g.6 (omega arith) (omega (arith, length-append g.1 (y ∷ more))) stops) in
      ap (infix_in n (inner n)) (two_parts g.0 g.1 ts (y ∷ more) g.2) ∙ infix_read n (inner n) (g.0 ++ b) ((k.1 ++ k.2) ++ y ∷ more) (y ∷ more) k.0 e o (list_of (t.expr f es)) one k.4 (ap (all (after (is_op o)) (term n (inner n))) (sym at_op) ∙ two)
      ∙ ap (λ e. Ok (e, y ∷ more)) (infix_made o (t.expr e (t.expr f es)) sp ts h.0 h.1)
  complete (t.chain e ss sp) n ts y more h d = λ stops.
      let b = h.1 ++ y ∷ more in
      let behind = behind_suffixes y more ss h.1 h.6 h.5 in
      let one = ap (λ l. atom n (inner n).seq (h.0 ++ l)) behind.2 ∙ as_atom n (h.0 ++ behind.0 ∷ behind.1) behind.0 behind.1 e h.3 (complete e n h.0 behind.0 behind.1 h.4 (omega arith)) ∙ ap (λ l. Ok (e, l)) (sym behind.2) in
      let two = all_enough (at begins_suffix) (suffix n (inner n).expr) b _ (complete_suffixes ss n h.1 y more (length b) h.6 (omega arith) (omega (arith, length-append h.1 (y ∷ more))) stops.suffix) in
      ap (postfix n (inner n)) (two_parts h.0 h.1 ts (y ∷ more) h.2) ∙ chain_read n (inner n) (h.0 ++ b) b (y ∷ more) e (suffix_list ss) one two
      ∙ ap (λ e. Ok (e, y ∷ more)) (chain_made e ss sp h.5 (chain_span e ss h.0 h.1 ts h.2 h.4 h.6 ∙ sym h.7))
  complete (t.group b sp) n ts y more h d =
      let some : 0 < n = omega arith in
      let p = (inner n).seq in
      let inside = h.2 ++ h.1 ∷ (y ∷ more) in
      let read = ap (λ p. p inside) (inner_seq n some) ∙ complete_seq b (n - 1) h.2 h.1 (y ∷ more) h.5 (omega arith) (close_stops h.1 (kind_of_sign s.CloseParen h.1 h.6)) in
      let whole = atom_by n p h.0 (k.Sign s.OpenParen) inside _ (kind_of_sign s.OpenParen h.0 h.4) (group_read n p h.0 h.1 inside (y ∷ more) b some h.4 read h.6) in
      ap (atom n p) (one_token h.0 y h.2 (h.1 ∷ []) more ts h.3) ∙ whole ∙ ap (λ sp. Ok (t.group b sp, y ∷ more)) (sym (h.7 ∙ ap over h.3 ∙ over_closed h.0 h.1 h.2))
  complete (t.if_ t.no_arms o sp) n ts y more h d = absurd h.4
  complete (t.if_ (t.arm x xs) o sp) n ts y more h d =
      let some : 0 < n = omega arith in
      let p = (inner n).seq in
      let q = seq_in (n - 1) (inner (n - 1)) in
      let g = h.4 in
      let z = h.0 in
      let is_end = kind_of_word w.EndWord z h.6 in
      let third = h.2 ++ z ∷ (y ∷ more) in
      let second = g.1 ++ third in
      let behind3 = behind_other z (y ∷ more) o h.2 h.5 is_end in
      let behind2 = behind_arms behind3.0 behind3.1 xs g.1 g.4 behind3.3.0 in
      let here : second ≡ behind2.0 ∷ behind2.1 = ap (λ l. g.1 ++ l) behind3.2 ∙ behind2.2 in
      let one = ap (λ p. arm w.IfWord p (g.0 ++ second)) (inner_seq n some) ∙ ap (λ l. arm w.IfWord q (g.0 ++ l)) here ∙ complete_arm x w.IfWord (n - 1) g.0 behind2.0 behind2.1 g.3 (omega arith) behind2.3 ∙ ap (λ l. Ok (x, l)) (sym here) in
      let turns = all_enough (at (is_word w.ElseifWord)) (arm w.ElseifWord q) (g.1 ++ behind3.0 ∷ behind3.1) _ (complete_arms xs (n - 1) g.1 behind3.0 behind3.1 (length (g.1 ++ behind3.0 ∷ behind3.1)) g.4 (omega arith) (omega (arith, length-append g.1 (behind3.0 ∷ behind3.1))) behind3.3.0 behind3.3.1) in
      let two = ap (λ p. all (at (is_word w.ElseifWord)) (arm w.ElseifWord p) second) (inner_seq n some) ∙ ap (λ l. all (at (is_word w.ElseifWord)) (arm w.ElseifWord q) (g.1 ++ l)) behind3.2 ∙ turns ∙ ap (λ l. Ok (arm_list xs, l)) (sym behind3.2) in
      let three = ap (λ p. other p third) (inner_seq n some) ∙ complete_other o (n - 1) h.2 z (y ∷ more) h.5 (omega arith) (end_stops z is_end) (end_no_else z is_end).0 in
      let whole = if_read n p (g.0 ++ second) second third (y ∷ more) z x (arm_list xs) o some one two three h.6 in
      let f = first_arm x w.IfWord g.0 g.3 in
      let head : g.0 ++ second ≡ f.0 ∷ (f.1 ++ second) = ap (λ l. l ++ second) f.2 in
      let parts = two_parts h.1 (h.2 ++ z ∷ []) ts (y ∷ more) h.3 ∙ ap (λ l. h.1 ++ l) (append_assoc h.2 (z ∷ []) (y ∷ more)) ∙ two_parts g.0 g.1 h.1 third g.2 in
      ap (atom n p) (parts ∙ head) ∙ atom_by n p f.0 (k.Word w.IfWord) (f.1 ++ second) _ (kind_of_word w.IfWord f.0 f.3) (ap (if_ n p) (sym head) ∙ whole)
      ∙ ap₂ (λ l sp. Ok (t.if_ (t.arm x l) o sp, y ∷ more)) (arms_back xs) (sym (h.7 ∙ ap over h.3 ∙ over_if x w.IfWord z g.0 g.1 h.2 h.1 g.3 g.2))
  complete (t.while_ c b sp) n ts y more h d =
      let some : 0 < n = omega arith in
      let p = (inner n).seq in
      let second = h.4 ++ h.2 ∷ (y ∷ more) in
      let first = h.3 ++ h.1 ∷ second in
      let one = ap (λ p. p first) (inner_seq n some) ∙ complete_seq c (n - 1) h.3 h.1 second h.7 (omega arith) (do_stops h.1 (kind_of_word w.DoWord h.1 h.8)) in
      let two = ap (λ p. p second) (inner_seq n some) ∙ complete_seq b (n - 1) h.4 h.2 (y ∷ more) h.9 (omega arith) (end_stops h.2 (kind_of_word w.EndWord h.2 h.10)) in
      let whole = atom_by n p h.0 (k.Word w.WhileWord) first _ (kind_of_word w.WhileWord h.0 h.6) (while_read n p h.0 h.1 h.2 first second (y ∷ more) c b some h.6 one h.8 two h.10) in
      let parts = one_token h.0 y h.3 (h.1 ∷ (h.4 ++ h.2 ∷ [])) more ts h.5 ∙ ap (λ l. h.0 ∷ (h.3 ++ h.1 ∷ l)) (append_assoc h.4 (h.2 ∷ []) (y ∷ more)) in
      ap (atom n p) parts ∙ whole ∙ ap (λ sp. Ok (t.while_ c b sp, y ∷ more)) (sym (h.11 ∙ ap over h.5 ∙ over_two h.0 h.1 h.2 h.3 h.4))
  complete (t.recover c b sp) n ts y more h d =
      let some : 0 < n = omega arith in
      let p = (inner n).seq in
      let second = h.3 ++ h.1 ∷ (y ∷ more) in
      let f = first_seq b h.3 h.7 in
      let here : second ≡ f.0 ∷ (f.1 ++ h.1 ∷ (y ∷ more)) = ap (λ l. l ++ h.1 ∷ (y ∷ more)) f.2 in
      let one = ap (λ l. maybe_cap (h.2 ++ l)) here ∙ cap_read c h.2 f.0 (f.1 ++ h.1 ∷ (y ∷ more)) h.6 (item_no_cap f.0 f.3) ∙ ap (λ l. Ok (c, l)) (sym here) in
      let two = ap (λ p. p second) (inner_seq n some) ∙ complete_seq b (n - 1) h.3 h.1 (y ∷ more) h.7 (omega arith) (end_stops h.1 (kind_of_word w.EndWord h.1 h.8)) in
      let whole = atom_by n p h.0 (k.Word w.RecoverWord) (h.2 ++ second) _ (kind_of_word w.RecoverWord h.0 h.5) (recover_read n p h.0 h.1 (h.2 ++ second) second (y ∷ more) c b some h.5 one two h.8) in
      let parts = one_token h.0 y h.2 (h.3 ++ h.1 ∷ []) more ts h.4 ∙ ap (λ l. h.0 ∷ (h.2 ++ l)) (append_assoc h.3 (h.1 ∷ []) (y ∷ more)) in
      ap (atom n p) parts ∙ whole ∙ ap (λ sp. Ok (t.recover c b sp, y ∷ more)) (sym (h.9 ∙ ap over h.4 ∙ over_three h.0 h.1 h.2 h.3))
  complete (t.assign l r sp) n ts y more h d = λ stops.
      let some : 0 < n = omega arith in
      let inside = h.2 ++ y ∷ more in
      let one = as_place n (h.1 ++ h.0 ∷ inside) h.0 inside l h.4 (assign_stops h.0 (kind_of_sign s.Assign h.0 h.6)) (complete l n h.1 h.0 inside h.5 (omega arith)) in
      let read = ap (λ p. p inside) (inner_expr n some) ∙ as_expr (n - 1) inside y more r stops (complete r (n - 1) h.2 y more h.7 (omega arith)) in
      let two = becomes_read n (inner n).expr l h.0 inside (y ∷ more) r some h.6 read in
      ap (expr_in n (inner n)) (two_parts h.1 (h.0 ∷ h.2) ts (y ∷ more) h.3) ∙ assign_read n (inner n) (h.1 ++ h.0 ∷ inside) inside h.0 l _ one h.6 h.4 two
      ∙ ap (λ sp. Ok (t.assign l r sp, y ∷ more)) (sym (h.8 ∙ ap over h.3 ∙ over_assign h.0 l r h.1 h.2 h.5 h.7))

  complete_terms : (es : t.Exprs) (o : Op) (n : ℕ) (ts : List Token) (y : Token) (more : List Token) (m : ℕ) → SpellsMoreTerms es o ts → exprs_depth es ≤ n → length ts ≤ m → Stops_infix y
      → many (after (is_op o)) (term n (inner n)) m (ts ++ y ∷ more) ≡ Ok (list_of es, y ∷ more)
  complete_terms t.no_exprs o n ts y more m h d fits stops = ap (λ l. many (after (is_op o)) (term n (inner n)) m (l ++ y ∷ more)) h ∙ many_none (after (is_op o)) (term n (inner n)) m (y ∷ more) (after_no_op y o more stops.op)
  complete_terms (t.expr e es) o n ts y more zero h d fits stops = absurd (omega (arith, ap length h.3))
  complete_terms (t.expr e es) o n ts y more (suc m) h d fits stops =
      let b = h.2 ++ y ∷ more in
      let behind = behind_term y more es o h.2 h.7 (to_chain y stops) in
      let one = ap (λ l. term n (inner n) (h.1 ++ l)) behind.2 ∙ as_term n (h.1 ++ behind.0 ∷ behind.1) behind.0 behind.1 e h.5 behind.3 (complete e n h.1 behind.0 behind.1 h.6 (omega arith)) ∙ ap (λ l. Ok (e, l)) (sym behind.2) in
      let two = complete_terms es o n h.2 y more m h.7 (omega arith) (omega (arith, ap length h.3, length-append h.1 h.2)) stops in
      ap (many (after (is_op o)) (term n (inner n)) (suc m)) (one_token h.0 y h.1 h.2 more ts h.3) ∙ one_more (after (is_op o)) (term n (inner n)) m (h.0 ∷ (h.1 ++ b)) (h.1 ++ b) b (y ∷ more) e (list_of es) (after_op h.0 o (h.1 ++ b) h.4) one two

  complete_suffixes : (ss : t.Suffixes) (n : ℕ) (ts : List Token) (y : Token) (more : List Token) (m : ℕ) → SpellsSuffixes ss ts → suffixes_depth ss ≤ n → length ts ≤ m → begins_suffix y ≡ false
      → many (at begins_suffix) (suffix n (inner n).expr) m (ts ++ y ∷ more) ≡ Ok (suffix_list ss, y ∷ more)
  complete_suffixes t.no_suffixes n ts y more m h d fits stops = ap (λ l. many (at begins_suffix) (suffix n (inner n).expr) m (l ++ y ∷ more)) h ∙ many_none (at begins_suffix) (suffix n (inner n).expr) m (y ∷ more) (at_none begins_suffix y more stops)
  complete_suffixes (t.suffix x ss) n ts y more zero h d fits stops = let f = first_suffix x h.0 h.3 in absurd (omega (arith, ap length h.2, ap length f.2, length-append h.0 h.1))
  complete_suffixes (t.suffix x ss) n ts y more (suc m) h d fits stops =
      let b = h.1 ++ y ∷ more in
      let f = first_suffix x h.0 h.3 in
      let here : h.0 ++ b ≡ f.0 ∷ (f.1 ++ b) = ap (λ l. l ++ b) f.2 in
      let goes = ap (at begins_suffix) here ∙ at_one begins_suffix f.0 (f.1 ++ b) f.3 ∙ ap (λ l. Some l) (sym here) in
      let one = complete_suffix x n h.0 b h.3 (omega arith) in
      let two = complete_suffixes ss n h.1 y more m h.4 (omega arith) (omega (arith, ap length h.2, ap length f.2, length-append h.0 h.1)) stops in
      ap (many (at begins_suffix) (suffix n (inner n).expr) (suc m)) (two_parts h.0 h.1 ts (y ∷ more) h.2) ∙ one_more (at begins_suffix) (suffix n (inner n).expr) m (h.0 ++ b) (h.0 ++ b) b (y ∷ more) x (suffix_list ss) goes one two

  complete_suffix : (x : t.Suffix) (n : ℕ) (ts rest : List Token) → SpellsSuffix x ts → suffix_depth x ≤ n → suffix n (inner n).expr (ts ++ rest) ≡ Ok (x, rest)
  complete_suffix (t.dot m) n ts rest h d = ap (λ l. suffix n (inner n).expr (l ++ rest)) h.2 ∙ dot_read n (inner n).expr h.0 h.1 m rest h.3 h.4
  complete_suffix (t.args es sp) n ts rest h d =
      let some : 0 < n = omega arith in
      let inside = h.2 ++ h.1 ∷ rest in
      let read = ap (λ p. arg_list p inside) (inner_expr n some) ∙ complete_args es (n - 1) h.2 h.1 rest h.6 (omega arith) h.7 in
      ap (suffix n (inner n).expr) (ap (λ l. l ++ rest) h.3 ∙ ap (λ l. h.0 ∷ l) (append_assoc h.2 (h.1 ∷ []) rest)) ∙ args_suffix n (inner n).expr h.0 inside _ (open_no_dot h.0 h.4) (args_read n (inner n).expr h.0 h.1 inside rest es some h.4 read h.7)
      ∙ ap (λ sp. Ok (t.args es sp, rest)) (sym (h.8 ∙ ap over h.3 ∙ over_closed h.0 h.1 h.2))

  complete_args : (es : t.Exprs) (n : ℕ) (ts : List Token) (y : Token) (more : List Token) → SpellsArgs es ts → exprs_depth es ≤ n → is_sign s.CloseParen y ≡ true → arg_list (expr_in n (inner n)) (ts ++ y ∷ more) ≡ Ok (es, y ∷ more)
  complete_args t.no_exprs n ts y more h d closes = ap (λ l. arg_list (expr_in n (inner n)) (l ++ y ∷ more)) h ∙ no_args_read n (expr_in n (inner n)) y more closes
  complete_args (t.expr e es) n ts y more h d closes =
      let p = expr_in n (inner n) in
      let stops = to_expr y (close_stops y (kind_of_sign s.CloseParen y closes)) in
      let b = h.1 ++ y ∷ more in
      let f = first_of e h.0 h.3 in
      let behind = behind_arg y more es h.1 h.4 stops in
      let one = ap (λ l. p (h.0 ++ l)) behind.2 ∙ as_expr n (h.0 ++ behind.0 ∷ behind.1) behind.0 behind.1 e behind.3 (complete e n h.0 behind.0 behind.1 h.3 (omega arith)) ∙ ap (λ l. Ok (e, l)) (sym behind.2) in
      let two = all_enough (after (is_sign s.Comma)) p b _ (complete_more_args es n h.1 y more (length b) h.4 (omega arith) (omega (arith, length-append h.1 (y ∷ more))) closes) in
      let here : h.0 ++ b ≡ f.0 ∷ (f.1 ++ b) = ap (λ l. l ++ b) f.2 in
      ap (arg_list p) (two_parts h.0 h.1 ts (y ∷ more) h.2 ∙ here) ∙ args_list_read p f.0 (f.1 ++ b) b (y ∷ more) e (list_of es) (item_no_close f.0 f.3.item) (ap p (sym here) ∙ one) two ∙ ap (λ es. Ok (t.expr e es, y ∷ more)) (exprs_back es)

  complete_more_args : (es : t.Exprs) (n : ℕ) (ts : List Token) (y : Token) (more : List Token) (m : ℕ) → SpellsMoreArgs es ts → exprs_depth es ≤ n → length ts ≤ m → is_sign s.CloseParen y ≡ true
      → many (after (is_sign s.Comma)) (expr_in n (inner n)) m (ts ++ y ∷ more) ≡ Ok (list_of es, y ∷ more)
  complete_more_args t.no_exprs n ts y more m h d fits closes =
      ap (λ l. many (after (is_sign s.Comma)) (expr_in n (inner n)) m (l ++ y ∷ more)) h ∙ many_none (after (is_sign s.Comma)) (expr_in n (inner n)) m (y ∷ more) (after_no_sign y s.Comma more (close_no_comma y (kind_of_sign s.CloseParen y closes)))
  complete_more_args (t.expr e es) n ts y more zero h d fits closes = absurd (omega (arith, ap length h.3))
  complete_more_args (t.expr e es) n ts y more (suc m) h d fits closes =
      let p = expr_in n (inner n) in
      let b = h.2 ++ y ∷ more in
      let behind = behind_arg y more es h.2 h.6 (to_expr y (close_stops y (kind_of_sign s.CloseParen y closes))) in
      let one = ap (λ l. p (h.1 ++ l)) behind.2 ∙ as_expr n (h.1 ++ behind.0 ∷ behind.1) behind.0 behind.1 e behind.3 (complete e n h.1 behind.0 behind.1 h.5 (omega arith)) ∙ ap (λ l. Ok (e, l)) (sym behind.2) in
      let two = complete_more_args es n h.2 y more m h.6 (omega arith) (omega (arith, ap length h.3, length-append h.1 h.2)) closes in
      ap (many (after (is_sign s.Comma)) p (suc m)) (one_token h.0 y h.1 h.2 more ts h.3) ∙ one_more (after (is_sign s.Comma)) p m (h.0 ∷ (h.1 ++ b)) (h.1 ++ b) b (y ∷ more) e (list_of es) (after_sign h.0 s.Comma (h.1 ++ b) h.4) one two

  complete_arm : (a : t.Arm) (word : Word) (n : ℕ) (ts : List Token) (y : Token) (more : List Token) → SpellsArm a word ts → arm_depth a ≤ n → Stops_seq y → arm word (seq_in n (inner n)) (ts ++ y ∷ more) ≡ Ok (a, y ∷ more)
  complete_arm (t.arm_of c b sp) word n ts y more h d stops =
      let p = seq_in n (inner n) in
      let second = h.3 ++ y ∷ more in
      let first = h.2 ++ h.1 ∷ second in
      let one = complete_seq c n h.2 h.1 second h.6 (omega arith) (then_stops h.1 (kind_of_word w.ThenWord h.1 h.7)) in
      let two = complete_seq b n h.3 y more h.8 (omega arith) stops in
      ap (arm word p) (one_token h.0 y h.2 (h.1 ∷ h.3) more ts h.4) ∙ arm_read p word h.0 h.1 first second (y ∷ more) c b h.5 one h.7 two ∙ ap (λ sp. Ok (t.arm_of c b sp, y ∷ more)) (sym (h.9 ∙ ap over h.4 ∙ over_arm h.0 h.1 b h.2 h.3 h.8))

  complete_arms : (xs : t.Arms) (n : ℕ) (ts : List Token) (y : Token) (more : List Token) (m : ℕ) → SpellsMoreArms xs ts → arms_depth xs ≤ n → length ts ≤ m → Stops_seq y → is_word w.ElseifWord y ≡ false
      → many (at (is_word w.ElseifWord)) (arm w.ElseifWord (seq_in n (inner n))) m (ts ++ y ∷ more) ≡ Ok (arm_list xs, y ∷ more)
  complete_arms t.no_arms n ts y more m h d fits stops apart =
      let next = at (is_word w.ElseifWord) in
      let p = arm w.ElseifWord (seq_in n (inner n)) in
      ap (λ l. many next p m (l ++ y ∷ more)) h ∙ many_none next p m (y ∷ more) (at_none (is_word w.ElseifWord) y more apart)
  complete_arms (t.arm x xs) n ts y more zero h d fits stops apart = let f = first_arm x w.ElseifWord h.0 h.3 in absurd (omega (arith, ap length h.2, ap length f.2, length-append h.0 h.1))
  complete_arms (t.arm x xs) n ts y more (suc m) h d fits stops apart =
      let next = at (is_word w.ElseifWord) in
      let p = arm w.ElseifWord (seq_in n (inner n)) in
      let b = h.1 ++ y ∷ more in
      let f = first_arm x w.ElseifWord h.0 h.3 in
      let here : h.0 ++ b ≡ f.0 ∷ (f.1 ++ b) = ap (λ l. l ++ b) f.2 in
      let goes = ap next here ∙ at_one (is_word w.ElseifWord) f.0 (f.1 ++ b) f.3 ∙ ap (λ l. Some l) (sym here) in
      let behind = behind_arms y more xs h.1 h.4 stops in
      let one = ap (λ l. p (h.0 ++ l)) behind.2 ∙ complete_arm x w.ElseifWord n h.0 behind.0 behind.1 h.3 (omega arith) behind.3 ∙ ap (λ l. Ok (x, l)) (sym behind.2) in
      let two = complete_arms xs n h.1 y more m h.4 (omega arith) (omega (arith, ap length h.2, ap length f.2, length-append h.0 h.1)) stops apart in
      ap (many next p (suc m)) (two_parts h.0 h.1 ts (y ∷ more) h.2) ∙ one_more next p m (h.0 ++ b) (h.0 ++ b) b (y ∷ more) x (arm_list xs) goes one two

  complete_other : (o : t.Other) (n : ℕ) (ts : List Token) (y : Token) (more : List Token) → SpellsOther o ts → other_depth o ≤ n → Stops_seq y → is_word w.ElseWord y ≡ false → other (seq_in n (inner n)) (ts ++ y ∷ more) ≡ Ok (o, y ∷ more)
  complete_other t.no_other n ts y more h d stops apart = ap (λ l. other (seq_in n (inner n)) (l ++ y ∷ more)) h ∙ no_other_read (seq_in n (inner n)) y more apart
  complete_other (t.other b) n ts y more h d stops apart = ap (λ l. other (seq_in n (inner n)) (l ++ y ∷ more)) h.2 ∙ other_read (seq_in n (inner n)) h.0 (h.1 ++ y ∷ more) (y ∷ more) b h.3 (complete_seq b n h.1 y more h.4 d stops)

  complete_item : (i : t.Item) (n : ℕ) (ts : List Token) (y : Token) (more : List Token) → SpellsItem i ts → item_depth i ≤ n → Stops_expr y → item (expr_in n (inner n)) (ts ++ y ∷ more) ≡ Ok (i, y ∷ more)
  complete_item (t.plain e) n ts y more h d stops =
      let p = expr_in n (inner n) in
      let f = first_of e ts h in
      let here : ts ++ y ∷ more ≡ f.0 ∷ (f.1 ++ y ∷ more) = ap (λ l. l ++ y ∷ more) f.2 in
      let read = as_expr n (ts ++ y ∷ more) y more e stops (complete e n ts y more h d) in
      ap (item p) here ∙ plain_read p f.0 (f.1 ++ y ∷ more) (y ∷ more) e f.3 (ap p (sym here) ∙ read)
  complete_item (t.local f m ty e sp) n ts y more h d stops =
      let p = expr_in n (inner n) in
      let inside = h.4 ++ y ∷ more in
      let third = h.3 ++ h.2 ∷ inside in
      let is = kind_of_sign s.Assign h.2 h.9 in
      let typed = typed_read ty h.3 h.2 inside h.8 (assign_no_colon h.2 is) (assign_no_cap h.2 is) in
      let read = as_expr n inside y more e stops (complete e n h.4 y more h.10 d) in
      let whole = local_item_read p f h.0 (h.1 ∷ third) _ h.6 (local_read p f h.0 h.1 h.2 m ty third inside (y ∷ more) e h.6 h.7 typed h.9 read) in
      let parts = ap (λ l. l ++ y ∷ more) h.5 ∙ ap (λ l. h.0 ∷ h.1 ∷ l) (append_assoc h.3 (h.2 ∷ h.4) (y ∷ more)) in
      ap (item p) parts ∙ whole ∙ ap (λ sp. Ok (t.local f m ty e sp, y ∷ more)) (sym (h.11 ∙ ap over h.5 ∙ over_local h.0 h.1 h.2 e h.3 h.4 h.10))

  pub complete_seq : (b : t.Seq) (n : ℕ) (ts : List Token) (y : Token) (more : List Token) → SpellsSeq b ts → seq_depth b ≤ n → Stops_seq y → seq_in n (inner n) (ts ++ y ∷ more) ≡ Ok (b, y ∷ more)
  complete_seq (t.seq t.no_items sp) n ts y more h d stops = absurd h.0
  complete_seq (t.seq (t.item i is) sp) n ts y more h d stops =
      let g = h.0 in
      let p = item (expr_in n (inner n)) in
      let b = g.1 ++ y ∷ more in
      let behind = behind_item y more is g.1 g.4 (to_expr y stops) in
      let one = ap (λ l. p (g.0 ++ l)) behind.2 ∙ complete_item i n g.0 behind.0 behind.1 g.3 (omega arith) behind.3 ∙ ap (λ l. Ok (i, l)) (sym behind.2) in
      let two = all_enough next_item p b _ (complete_items is n g.1 y more (length b) g.4 (omega arith) (omega (arith, length-append g.1 (y ∷ more))) stops) in
      ap (seq_in n (inner n)) (two_parts g.0 g.1 ts (y ∷ more) g.2) ∙ seq_in_read n (inner n) (g.0 ++ b) b (y ∷ more) i (item_list is) one two ∙ ap (λ b. Ok (b, y ∷ more)) (seq_made (t.item i is) sp ts h.0 h.1)

  complete_items : (is : t.Items) (n : ℕ) (ts : List Token) (y : Token) (more : List Token) (m : ℕ) → SpellsMoreItems is ts → items_depth is ≤ n → length ts ≤ m → Stops_seq y
      → many next_item (item (expr_in n (inner n))) m (ts ++ y ∷ more) ≡ Ok (item_list is, y ∷ more)
  complete_items t.no_items n ts y more m h d fits stops = ap (λ l. many next_item (item (expr_in n (inner n))) m (l ++ y ∷ more)) h ∙ many_none next_item (item (expr_in n (inner n))) m (y ∷ more) (next_none y more stops)
  complete_items (t.item i is) n ts y more zero h d fits stops = let f = first_item i h.1 h.5 in absurd (omega (arith, ap length h.3, ap length f.2, length-append h.0 (h.1 ++ h.2), length-append h.1 h.2))
  complete_items (t.item i is) n ts y more (suc m) h d fits stops =
      let p = item (expr_in n (inner n)) in
      let f = first_item i h.1 h.5 in
      let b = h.2 ++ y ∷ more in
      let behind = behind_item y more is h.2 h.6 (to_expr y stops) in
      let one = ap (λ l. p (h.1 ++ l)) behind.2 ∙ complete_item i n h.1 behind.0 behind.1 h.5 (omega arith) behind.3 ∙ ap (λ l. Ok (i, l)) (sym behind.2) in
      let two = complete_items is n h.2 y more m h.6 (omega arith) (omega (arith, ap length h.3, ap length f.2, length-append h.0 (h.1 ++ h.2), length-append h.1 h.2)) stops in
      ap (many next_item p (suc m)) (three_parts h.0 h.1 h.2 ts (y ∷ more) h.3) ∙ one_more next_item p m (h.0 ++ (h.1 ++ b)) (h.1 ++ b) b (y ∷ more) i (item_list is) (next_begins h.0 h.1 b h.4 f) one two
