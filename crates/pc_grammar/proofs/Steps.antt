-- A rule is read if its parts are.
use Rattle.std.proofs.Common.{◌≡◌, ℕ, suc, ◌<◌, Bool, true, false, List, ◌∷◌, ◌++◌, Option, Some, None, Ok, refl, sym, ap, ◌∙◌}
use Rattle.pc_base.specs.declared.span.Span.{Span}
use Rattle.pc_caps.specs.declared.capability.Cap.{Cap}
use Rattle.pc_tree.specs.Tree as t
use Rattle.pc_tree.specs.{declared.written_names.Name.Name, declared.written_names.TypeRef.TypeRef, declared.kinds.Op.Op, Parts.{exprs_of, arms_of, arm_span, seq_span}}
use Rattle.pc_token.specs.{declared.kinds.Token.Token, declared.kinds.TokenKind.TokenKind, declared.words.Word.Word, Words.{is_sign, is_word}}
use Rattle.pc_token.specs.declared.kinds.TokenKind.TheVariants as k
use Rattle.pc_token.specs.declared.words.Word.TheVariants as w
use Rattle.pc_token.specs.declared.signs.Sign.TheVariants as s
use Rattle.pc_grammar.specs.{Spells.{op_of, cap_of, local_word, truth_word, span_from_to, is_place, IsName, IsTypeName, SpellsCap, SpellsType, SpellsTyped}, Reading.{ReadingOutcome, Parser, Inner, and_then, pure, ◌>>=◌, peek, take_if, many, all, next_item, after, at, is_op, begins_suffix, name, type_name, cap_by, maybe_cap, written_type, maybe_type, group, arm, if_, while_, recover_, leaf, negation, consume, becomes, args, arg_list, other, suffix, atom, atom_at, term, local, item, seq_with, seq_of, infix_in, infix_with, infix_of, expr_in, expr_with, postfix, chain_of}}
use Rattle.pc_grammar.proofs.{Levels.one_deeper, Follow.{Leads, kind_of_word, consume_not_not, var_not_let}}

-- ---- names, capabilities and types

pub name_read : (x : Token) (m : Name) (rest : List Token) → IsName x m → name (x ∷ rest) ≡ Ok (m, rest)
unfolding name peek take_if
name_read x m rest h = rw (h.0, h.1)

pub type_name_read : (x : Token) (m : Name) (rest : List Token) → IsTypeName x m → type_name (x ∷ rest) ≡ Ok (m, rest)
unfolding type_name peek take_if
type_name_read x m rest h = rw (h.0, h.1)

pub cap_read : (c : Option Cap) (a : List Token) (z : Token) (more : List Token) → SpellsCap c a → cap_of z ≡ None → maybe_cap (a ++ z ∷ more) ≡ Ok (c, z ∷ more)
unfolding maybe_cap peek take_if
cap_read None a z more h e = ap (λ l. maybe_cap (l ++ z ∷ more)) h ∙ ap (λ o. cap_by o (z ∷ more)) e
cap_read (Some c) a z more h e = ap (λ l. maybe_cap (l ++ z ∷ more)) h.1 ∙ ap (λ o. cap_by o (h.0 ∷ z ∷ more)) h.2

pub type_read : (r : TypeRef) (a : List Token) (z : Token) (more : List Token) → SpellsType r a → cap_of z ≡ None → written_type (a ++ z ∷ more) ≡ Ok (r, z ∷ more)
unfolding written_type
type_read r a z more h e =
    let inside = h.1 ++ z ∷ more in
    let go = λ (m : Name). maybe_cap >>= λ c. pure (record { name = m; cap = c; hat = false }) in
    let last = λ (c : Option Cap). pure (record { name = r.name; cap = c; hat = false }) in
    ap (λ l. written_type (l ++ z ∷ more)) h.2 ∙ ap (λ o. and_then o go) (type_name_read h.0 r.name inside h.3) ∙ ap (λ o. and_then o last) (cap_read r.cap h.1 z more h.4 e)
    ∙ ap (λ b. Ok (record { name = r.name; cap = r.cap; hat = b }, z ∷ more)) (sym h.5)

pub typed_read : (ty : Option TypeRef) (a : List Token) (z : Token) (more : List Token) → SpellsTyped ty a → is_sign s.Colon z ≡ false → cap_of z ≡ None → maybe_type (a ++ z ∷ more) ≡ Ok (ty, z ∷ more)
unfolding maybe_type peek take_if
typed_read None a z more h colon e = ap (λ l. maybe_type (l ++ z ∷ more)) h ∙ rw colon
typed_read (Some r) a z more h colon e =
    let inside = h.1 ++ z ∷ more in
    let step : and_then (and_then (take_if (is_sign s.Colon) (h.0 ∷ inside)) (λ _. written_type)) (λ r. pure (Some r)) ≡ Ok (Some r, z ∷ more) = rw (h.3, type_read r h.1 z more h.4 e) in
    ap (λ l. maybe_type (l ++ z ∷ more)) h.2 ∙ rw h.3 step

-- ---- atoms

module _ (n : ℕ) (p : Parser t.Seq) where
  pub name_atom : (x : Token) (m : Name) (rest : List Token) → IsName x m → atom n p (x ∷ rest) ≡ Ok (t.name m, rest)
  unfolding atom peek
  name_atom x m rest h = ap (λ kk. atom_at n p kk (x ∷ rest)) h.0 ∙ ap (λ o. and_then o (λ m. pure (t.name m))) (name_read x m rest h)

  pub type_name_atom : (x : Token) (m : Name) (rest : List Token) → IsTypeName x m → atom n p (x ∷ rest) ≡ Ok (t.type_name m, rest)
  unfolding atom peek
  type_name_atom x m rest h = ap (λ kk. atom_at n p kk (x ∷ rest)) h.0 ∙ ap (λ o. and_then o (λ m. pure (t.type_name m))) (type_name_read x m rest h)

  -- the rule that the kind of the first token chooses
  pub atom_by : (x : Token) (kk : TokenKind) (ts : List Token) (r : ReadingOutcome t.Expr) → x.kind ≡ kk → atom_at n p kk (x ∷ ts) ≡ r → atom n p (x ∷ ts) ≡ r
  unfolding atom peek
  atom_by x kk ts r h read = ap (λ kk. atom_at n p kk (x ∷ ts)) h ∙ read

  pub leaf_read : (f : Span → t.Expr) (x : Token) (ts : List Token) → leaf f (x ∷ ts) ≡ Ok (f x.span, ts)
  unfolding take_if
  leaf_read f x ts = refl

  pub truth_atom : (b : Bool) (x : Token) (ts : List Token) → is_word (truth_word b) x ≡ true → atom n p (x ∷ ts) ≡ Ok (t.truth b x.span, ts)
  unfolding take_if
  truth_atom true x ts h = atom_by x (k.Word w.TrueWord) ts _ (kind_of_word w.TrueWord x h) refl
  truth_atom false x ts h = atom_by x (k.Word w.FalseWord) ts _ (kind_of_word w.FalseWord x h) refl

  pub group_read : (x y : Token) (inside rest : List Token) (b : t.Seq) → 0 < n → is_sign s.OpenParen x ≡ true → p inside ≡ Ok (b, y ∷ rest) → is_sign s.CloseParen y ≡ true
      → group n p (x ∷ inside) ≡ Ok (t.group b (span_from_to x.span y.span), rest)
  unfolding group take_if
  group_read x y inside rest b some opens read closes = rw (one_deeper, opens, read, closes)

  pub if_read : (ts second third rest : List Token) (z : Token) (a : t.Arm) (xs : List t.Arm) (o : t.Other) → 0 < n → arm w.IfWord p ts ≡ Ok (a, second) → all (at (is_word w.ElseifWord)) (arm w.ElseifWord p) second ≡ Ok (xs, third)
      → other p third ≡ Ok (o, z ∷ rest) → is_word w.EndWord z ≡ true → if_ n p ts ≡ Ok (t.if_ (arms_of (a ∷ xs)) o (span_from_to (arm_span a) z.span), rest)
  unfolding if_ take_if
  if_read ts second third rest z a xs o some one two three ends = rw (one_deeper, one, two, three, ends)

  pub while_read : (x y z : Token) (first second rest : List Token) (c b : t.Seq) → 0 < n → is_word w.WhileWord x ≡ true → p first ≡ Ok (c, y ∷ second) → is_word w.DoWord y ≡ true → p second ≡ Ok (b, z ∷ rest) → is_word w.EndWord z ≡ true
      → while_ n p (x ∷ first) ≡ Ok (t.while_ c b (span_from_to x.span z.span), rest)
  unfolding while_ take_if
  while_read x y z first second rest c b some opens one then two ends = rw (one_deeper, opens, one, then, two, ends)

  pub recover_read : (x z : Token) (first second rest : List Token) (c : Option Cap) (b : t.Seq) → 0 < n → is_word w.RecoverWord x ≡ true → maybe_cap first ≡ Ok (c, second) → p second ≡ Ok (b, z ∷ rest) → is_word w.EndWord z ≡ true
      → recover_ n p (x ∷ first) ≡ Ok (t.recover c b (span_from_to x.span z.span), rest)
  unfolding recover_ take_if
  recover_read x z first second rest c b some opens one two ends = rw (one_deeper, opens, one, two, ends)

module _ (p : Parser t.Seq) where
  pub arm_read : (word : Word) (x y : Token) (first second rest : List Token) (c b : t.Seq) → is_word word x ≡ true → p first ≡ Ok (c, y ∷ second) → is_word w.ThenWord y ≡ true → p second ≡ Ok (b, rest)
      → arm word p (x ∷ first) ≡ Ok (t.arm_of c b (span_from_to x.span (seq_span b)), rest)
  unfolding arm take_if
  arm_read word x y first second rest c b opens one then two = rw (opens, one, then, two)

  pub other_read : (x : Token) (inside rest : List Token) (b : t.Seq) → is_word w.ElseWord x ≡ true → p inside ≡ Ok (b, rest) → other p (x ∷ inside) ≡ Ok (t.other b, rest)
  unfolding other peek take_if
  other_read x inside rest b else read =
      let step : and_then (and_then (take_if (is_word w.ElseWord) (x ∷ inside)) (λ _. p)) (λ b. pure (t.other b)) ≡ Ok (t.other b, rest) = rw (else, read) in
      rw else step

  pub no_other_read : (x : Token) (rest : List Token) → is_word w.ElseWord x ≡ false → other p (x ∷ rest) ≡ Ok (t.no_other, x ∷ rest)
  unfolding other peek
  no_other_read x rest else = rw else

-- ---- suffixes, terms and what is built from them

module _ (n : ℕ) (p : Parser t.Expr) where
  pub negation_read : (x : Token) (inside rest : List Token) (e : t.Expr) → 0 < n → is_word w.NotWord x ≡ true → p inside ≡ Ok (e, rest)
      → negation n p (x ∷ inside) ≡ Ok (t.not_ e (span_from_to x.span (t.span_of e)), rest)
  unfolding negation take_if
  negation_read x inside rest e some opens read = rw (one_deeper, opens, read)

  pub becomes_read : (l : t.Expr) (x : Token) (inside rest : List Token) (e : t.Expr) → 0 < n → is_sign s.Assign x ≡ true → p inside ≡ Ok (e, rest)
      → becomes n p l (x ∷ inside) ≡ Ok (t.assign l e (span_from_to (t.span_of l) (t.span_of e)), rest)
  unfolding becomes take_if
  becomes_read l x inside rest e some opens read = rw (one_deeper, opens, read)

  pub args_read : (x y : Token) (inside rest : List Token) (es : t.Exprs) → 0 < n → is_sign s.OpenParen x ≡ true → arg_list p inside ≡ Ok (es, y ∷ rest) → is_sign s.CloseParen y ≡ true
      → args n p (x ∷ inside) ≡ Ok (t.args es (span_from_to x.span y.span), rest)
  unfolding args take_if
  args_read x y inside rest es some opens read closes = rw (one_deeper, opens, read, closes)

  pub dot_read : (x y : Token) (m : Name) (rest : List Token) → is_sign s.Dot x ≡ true → IsName y m → suffix n p (x ∷ y ∷ rest) ≡ Ok (t.dot m, rest)
  unfolding suffix peek take_if
  dot_read x y m rest dot h =
      let step : and_then (and_then (take_if (is_sign s.Dot) (x ∷ y ∷ rest)) (λ _. name)) (λ m. pure (t.dot m)) ≡ Ok (t.dot m, rest) = rw (dot, name_read y m rest h) in
      rw dot step

  pub args_suffix : (x : Token) (inside : List Token) (r : t.Suffix × List Token) → is_sign s.Dot x ≡ false → args n p (x ∷ inside) ≡ Ok r → suffix n p (x ∷ inside) ≡ Ok r
  unfolding suffix peek
  args_suffix x inside r dot read = rw dot read

  pub no_args_read : (y : Token) (rest : List Token) → is_sign s.CloseParen y ≡ true → arg_list p (y ∷ rest) ≡ Ok (t.no_exprs, y ∷ rest)
  unfolding arg_list peek
  no_args_read y rest closes = rw closes

pub consume_read : (x y : Token) (m : Name) (rest : List Token) → is_word w.ConsumeWord x ≡ true → IsName y m → consume (x ∷ y ∷ rest) ≡ Ok (t.consume m (span_from_to x.span m.span), rest)
unfolding consume take_if
consume_read x y m rest opens h = rw (opens, name_read y m rest h)

pub one_more : {A : Type 0} (next : List Token → Option (List Token)) (p : Parser A) (m : ℕ) (ts begin rest end : List Token) (x : A) (xs : List A) → next ts ≡ Some begin → p begin ≡ Ok (x, rest) → many next p m rest ≡ Ok (xs, end)
    → many next p (suc m) ts ≡ Ok (x ∷ xs, end)
unfolding many
one_more next p m ts begin rest end x xs goes read more = rw (goes, read, more)

module _ (n : ℕ) (i : Inner) where
  pub not_term : (x : Token) (ts : List Token) (r : t.Expr × List Token) → is_word w.NotWord x ≡ true → negation n i.term (x ∷ ts) ≡ Ok r → term n i (x ∷ ts) ≡ Ok r
  unfolding term peek
  not_term x ts r h e = rw h e

  pub consume_term : (x : Token) (ts : List Token) (r : t.Expr × List Token) → is_word w.ConsumeWord x ≡ true → consume (x ∷ ts) ≡ Ok r → term n i (x ∷ ts) ≡ Ok r
  unfolding term peek
  consume_term x ts r h e = rw (consume_not_not x (kind_of_word w.ConsumeWord x h), h) e

  pub infix_read : (ts rest end : List Token) (x : Token) (e : t.Expr) (o : Op) (es : List t.Expr) → term n i ts ≡ Ok (e, x ∷ rest) → op_of x ≡ Some o → all (after (is_op o)) (term n i) (x ∷ rest) ≡ Ok (es, end)
      → infix_in n i ts ≡ Ok (infix_of o (e ∷ es), end)
  unfolding infix_in infix_with peek
  infix_read ts rest end x e o es one op more = rw (one, op, more)

  pub chain_read : (ts rest end : List Token) (e : t.Expr) (ss : List t.Suffix) → atom n i.seq ts ≡ Ok (e, rest) → all (at begins_suffix) (suffix n i.expr) rest ≡ Ok (ss, end) → postfix n i ts ≡ Ok (chain_of e ss, end)
  unfolding postfix
  chain_read ts rest end e ss one more = rw (one, more)

  pub assign_read : (ts rest : List Token) (x : Token) (e : t.Expr) (r : t.Expr × List Token) → infix_in n i ts ≡ Ok (e, x ∷ rest) → is_sign s.Assign x ≡ true → is_place e ≡ true → becomes n i.expr e (x ∷ rest) ≡ Ok r → expr_in n i ts ≡ Ok r
  unfolding expr_in expr_with peek
  assign_read ts rest x e r one opens place two = rw (one, opens, place) two

-- ---- lists and items

pub args_list_read : (p : Parser t.Expr) (x : Token) (ts rest end : List Token) (e : t.Expr) (es : List t.Expr) → is_sign s.CloseParen x ≡ false → p (x ∷ ts) ≡ Ok (e, rest) → all (after (is_sign s.Comma)) p rest ≡ Ok (es, end)
    → arg_list p (x ∷ ts) ≡ Ok (exprs_of (e ∷ es), end)
unfolding arg_list peek
args_list_read p x ts rest end e es other one more = rw (other, one, more)

pub seq_read : (p : Parser t.Item) (ts rest end : List Token) (i : t.Item) (is : List t.Item) → p ts ≡ Ok (i, rest) → all next_item p rest ≡ Ok (is, end) → seq_with p ts ≡ Ok (seq_of (i ∷ is), end)
unfolding seq_with
seq_read p ts rest end i is one more = rw (one, more)

module _ (p : Parser t.Expr) where
  pub plain_read : (x : Token) (ts rest : List Token) (e : t.Expr) → Leads x → p (x ∷ ts) ≡ Ok (e, rest) → item p (x ∷ ts) ≡ Ok (t.plain e, rest)
  unfolding item peek
  plain_read x ts rest e leads read = rw (leads.fixed, leads.free, read)

  pub local_read : (f : Bool) (x y z : Token) (m : Name) (ty : Option TypeRef) (third inside rest : List Token) (v : t.Expr) → is_word (local_word f) x ≡ true → IsName y m → maybe_type third ≡ Ok (ty, z ∷ inside) → is_sign s.Assign z ≡ true → p inside ≡ Ok (v, rest)
      → local f p (x ∷ y ∷ third) ≡ Ok (t.local f m ty v (span_from_to x.span (t.span_of v)), rest)
  unfolding local take_if
  local_read f x y z m ty third inside rest v opens h typed assigns read = rw (opens, name_read y m third h, typed, assigns, read)

  pub local_item_read : (f : Bool) (x : Token) (ts : List Token) (r : t.Item × List Token) → is_word (local_word f) x ≡ true → local f p (x ∷ ts) ≡ Ok r → item p (x ∷ ts) ≡ Ok r
  unfolding item peek
  local_item_read true x ts r h read = rw h read
  local_item_read false x ts r h read = rw (var_not_let x (kind_of_word w.VarWord x h), h) read
