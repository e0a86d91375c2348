-- What a token is, and what it does not continue.
use Rattle.std.proofs.Common.{◌≡◌, ℕ, Bool, true, false, ◌&&◌, not, List, ◌∷◌, Some, None, refl, ap, rules}
use denote.Enum.Bare.{same_true, same_false, sameb}
use Rattle.pc_token.specs.{contracts.words.Word.the_type as word_type, contracts.signs.Sign.the_type as sign_type, declared.words.Word.Word, declared.signs.Sign.Sign, declared.kinds.Token.Token, declared.kinds.TokenKind.TokenKind, Words.{is_sign, is_word, kind_is_sign, kind_is_word, same_sign, same_word}}
use Rattle.pc_tree.specs.{contracts.kinds.Op.the_type as op_type, declared.kinds.Op.Op}
use Rattle.pc_token.specs.declared.words.Word.TheVariants as w
use Rattle.pc_token.specs.declared.signs.Sign.TheVariants as s
use Rattle.pc_token.specs.declared.kinds.TokenKind.TheVariants as k
use Rattle.pc_grammar.specs.{Spells.{op_of, kind_op, cap_of, kind_cap, local_word, truth_word}, Parts.same_op, Reading.{begins_suffix, begins_item, kind_begins, is_op, after, at, next_item}}

sign_kind : (s : Sign) (x : TokenKind) → kind_is_sign s x ≡ true → x ≡ k.Sign s
unfolding same_sign
sign_kind s (k.Sign x) h = ap (λ y. k.Sign y) (same_true sign_type (search rules) x s h)
sign_kind s _ h = cc

word_kind : (s : Word) (x : TokenKind) → kind_is_word s x ≡ true → x ≡ k.Word s
unfolding same_word
word_kind s (k.Word x) h = ap (λ y. k.Word y) (same_true word_type (search rules) x s h)
word_kind s _ h = cc

pub kind_of_sign : (s : Sign) (x : Token) → is_sign s x ≡ true → x.kind ≡ k.Sign s
unfolding is_sign
kind_of_sign s x h = sign_kind s x.kind h

pub kind_of_word : (w : Word) (x : Token) → is_word w x ≡ true → x.kind ≡ k.Word w
unfolding is_word
kind_of_word w x h = word_kind w x.kind h

-- what does not continue any of the parts
pub record Stops_chain (y : Token) : Type 0 where
  pub suffix : begins_suffix y ≡ false

pub record Stops_infix (y : Token) : Type 0 where
  pub suffix : begins_suffix y ≡ false
  pub op : op_of y ≡ None

pub record Stops_expr (y : Token) : Type 0 where
  pub suffix : begins_suffix y ≡ false
  pub op : op_of y ≡ None
  pub assign : is_sign s.Assign y ≡ false

pub record Stops_seq (y : Token) : Type 0 where
  pub suffix : begins_suffix y ≡ false
  pub op : op_of y ≡ None
  pub assign : is_sign s.Assign y ≡ false
  pub semicolon : is_sign s.Semicolon y ≡ false
  pub item : begins_item y ≡ false

module _ (y : Token) where
  pub close_stops : y.kind ≡ k.Sign s.CloseParen → Stops_seq y
  unfolding begins_suffix op_of is_sign begins_item same_sign
  close_stops e = record { suffix = rw e; op = rw e; assign = rw e; semicolon = rw e; item = rw e }

  pub then_stops : y.kind ≡ k.Word w.ThenWord → Stops_seq y
  unfolding begins_suffix op_of is_sign begins_item same_sign
  then_stops e = record { suffix = rw e; op = rw e; assign = rw e; semicolon = rw e; item = rw e }

  pub elseif_stops : y.kind ≡ k.Word w.ElseifWord → Stops_seq y
  unfolding begins_suffix op_of is_sign begins_item same_sign
  elseif_stops e = record { suffix = rw e; op = rw e; assign = rw e; semicolon = rw e; item = rw e }

  pub else_stops : y.kind ≡ k.Word w.ElseWord → Stops_seq y
  unfolding begins_suffix op_of is_sign begins_item same_sign
  else_stops e = record { suffix = rw e; op = rw e; assign = rw e; semicolon = rw e; item = rw e }

  pub do_stops : y.kind ≡ k.Word w.DoWord → Stops_seq y
  unfolding begins_suffix op_of is_sign begins_item same_sign
  do_stops e = record { suffix = rw e; op = rw e; assign = rw e; semicolon = rw e; item = rw e }

  pub end_stops : y.kind ≡ k.Word w.EndWord → Stops_seq y
  unfolding begins_suffix op_of is_sign begins_item same_sign
  end_stops e = record { suffix = rw e; op = rw e; assign = rw e; semicolon = rw e; item = rw e }

  pub last_stops : y.kind ≡ k.End → Stops_seq y
  unfolding begins_suffix op_of is_sign begins_item same_sign
  last_stops e = record { suffix = rw e; op = rw e; assign = rw e; semicolon = rw e; item = rw e }

  pub comma_stops : y.kind ≡ k.Sign s.Comma → Stops_expr y
  unfolding begins_suffix op_of is_sign same_sign
  comma_stops e = record { suffix = rw e; op = rw e; assign = rw e }

  pub semicolon_stops : y.kind ≡ k.Sign s.Semicolon → Stops_expr y
  unfolding begins_suffix op_of is_sign same_sign
  semicolon_stops e = record { suffix = rw e; op = rw e; assign = rw e }

  pub assign_stops : y.kind ≡ k.Sign s.Assign → Stops_infix y
  unfolding begins_suffix op_of is_sign same_sign
  assign_stops e = record { suffix = rw e; op = rw e }

  pub assign_no_cap : y.kind ≡ k.Sign s.Assign → cap_of y ≡ None
  unfolding cap_of
  assign_no_cap e = rw e

  pub assign_no_colon : y.kind ≡ k.Sign s.Assign → is_sign s.Colon y ≡ false
  unfolding is_sign same_sign
  assign_no_colon e = rw e

op_kind : (x : TokenKind) (first : Bool) (o : Op) → kind_op first x ≡ Some o → (kind_is_sign s.Dot x ≡ false) × (kind_is_sign s.OpenParen x ≡ false)
unfolding same_sign
op_kind (k.Sign s.Dot) first o h = cc
op_kind (k.Sign s.OpenParen) first o h = cc
op_kind _ first o h = (refl, refl)

pub op_stops : (y : Token) (o : Op) → op_of y ≡ Some o → Stops_chain y
unfolding begins_suffix op_of is_sign
op_stops y o h = let e = op_kind y.kind y.first o h in record { suffix = rw (e.0, e.1) }

-- what an item's first token is not
abbrev Led : TokenKind → Type 0
Led x = (kind_is_sign s.Dot x ≡ false) × (kind_op true x ≡ None) × (kind_is_sign s.Assign x ≡ false) × (kind_is_sign s.CloseParen x ≡ false) × (kind_is_sign s.Semicolon x ≡ false) × (kind_cap x ≡ None)

item_kind : (x : TokenKind) → kind_begins x ≡ true → Led x
unfolding same_sign
item_kind (k.Name n) h = (refl, refl, refl, refl, refl, refl)
item_kind (k.TypeName n) h = (refl, refl, refl, refl, refl, refl)
item_kind (k.Number n) h = (refl, refl, refl, refl, refl, refl)
item_kind (k.Text n) h = (refl, refl, refl, refl, refl, refl)
item_kind (k.Sign s.OpenParen) h = (refl, refl, refl, refl, refl, refl)
item_kind (k.Word w.ThisWord) h = (refl, refl, refl, refl, refl, refl)
item_kind (k.Word w.TrueWord) h = (refl, refl, refl, refl, refl, refl)
item_kind (k.Word w.FalseWord) h = (refl, refl, refl, refl, refl, refl)
item_kind (k.Word w.IfWord) h = (refl, refl, refl, refl, refl, refl)
item_kind (k.Word w.WhileWord) h = (refl, refl, refl, refl, refl, refl)
item_kind (k.Word w.RecoverWord) h = (refl, refl, refl, refl, refl, refl)
item_kind (k.Word w.NotWord) h = (refl, refl, refl, refl, refl, refl)
item_kind (k.Word w.ConsumeWord) h = (refl, refl, refl, refl, refl, refl)
item_kind (k.Word w.LetWord) h = (refl, refl, refl, refl, refl, refl)
item_kind (k.Word w.VarWord) h = (refl, refl, refl, refl, refl, refl)
item_kind _ h = cc

not_and_true : (b : Bool) → (b && not true) ≡ false
not_and_true true = refl
not_and_true false = refl

pub item_stops : (y : Token) → begins_item y ≡ true → y.first ≡ true → Stops_expr y
unfolding begins_suffix op_of is_sign begins_item
item_stops y h f =
    let e = item_kind y.kind h in
    record { suffix = rw (e.0, f) (not_and_true _); op = rw f e.1; assign = e.2 }

pub item_no_close : (x : Token) → begins_item x ≡ true → is_sign s.CloseParen x ≡ false
unfolding is_sign begins_item
item_no_close x h = (item_kind x.kind h).3

pub item_no_cap : (x : Token) → begins_item x ≡ true → cap_of x ≡ None
unfolding cap_of begins_item
item_no_cap x h = (item_kind x.kind h).5

pub to_infix : (y : Token) → Stops_expr y → Stops_infix y
to_infix y h = record { suffix = h.suffix; op = h.op }

pub to_chain : (y : Token) → Stops_infix y → Stops_chain y
to_chain y h = record { suffix = h.suffix }

pub to_expr : (y : Token) → Stops_seq y → Stops_expr y
to_expr y h = record { suffix = h.suffix; op = h.op; assign = h.assign }

same_self : (o : Op) (b : Bool) → sameb op_type o o ≡ b → sameb op_type o o ≡ true
same_self o true e = e
same_self o false e = absurd (same_false op_type o o e refl)

op_self : (o : Op) → same_op o o ≡ true
unfolding same_op
op_self o = same_self o _ refl

pub after_op : (x : Token) (o : Op) (ts : List Token) → op_of x ≡ Some o → after (is_op o) (x ∷ ts) ≡ Some ts
unfolding after is_op
after_op x o ts h = rw (h, op_self o)

pub after_no_op : (x : Token) (o : Op) (ts : List Token) → op_of x ≡ None → after (is_op o) (x ∷ ts) ≡ None
unfolding after is_op
after_no_op x o ts h = rw h

pub after_sign : (x : Token) (s : Sign) (ts : List Token) → is_sign s x ≡ true → after (is_sign s) (x ∷ ts) ≡ Some ts
unfolding after
after_sign x s ts h = rw h

pub after_no_sign : (x : Token) (s : Sign) (ts : List Token) → is_sign s x ≡ false → after (is_sign s) (x ∷ ts) ≡ None
unfolding after
after_no_sign x s ts h = rw h

pub at_one : (test : Token → Bool) (x : Token) (ts : List Token) → test x ≡ true → at test (x ∷ ts) ≡ Some (x ∷ ts)
unfolding at
at_one test x ts h = rw h

pub at_none : (test : Token → Bool) (x : Token) (ts : List Token) → test x ≡ false → at test (x ∷ ts) ≡ None
unfolding at
at_none test x ts h = rw h

pub dot_suffix : (x : Token) → is_sign s.Dot x ≡ true → begins_suffix x ≡ true
unfolding begins_suffix
dot_suffix x h = rw h

pub open_suffix : (x : Token) → is_sign s.OpenParen x ≡ true → x.first ≡ false → begins_suffix x ≡ true
unfolding begins_suffix is_sign same_sign
open_suffix x h f = let e = kind_of_sign s.OpenParen x h in rw (e, f)

pub open_no_dot : (x : Token) → is_sign s.OpenParen x ≡ true → is_sign s.Dot x ≡ false
unfolding is_sign same_sign
open_no_dot x h = let e = kind_of_sign s.OpenParen x h in rw e

pub next_semicolon : (x : Token) (ts : List Token) → is_sign s.Semicolon x ≡ true → next_item (x ∷ ts) ≡ Some ts
unfolding next_item
next_semicolon x ts h = rw h

pub next_first : (x : Token) (ts : List Token) → begins_item x ≡ true → x.first ≡ true → next_item (x ∷ ts) ≡ Some (x ∷ ts)
unfolding next_item is_sign begins_item
next_first x ts h f = let e = (item_kind x.kind h).4 in rw (e, f, h)

and_false : (b : Bool) → (b && false) ≡ false
and_false true = refl
and_false false = refl

pub next_none : (x : Token) (ts : List Token) → Stops_seq x → next_item (x ∷ ts) ≡ None
unfolding next_item
next_none x ts h = rw (h.semicolon, h.item, and_false x.first)

-- An expression may begin with it: an item that is not a local.
pub record Leads (x : Token) : Type 0 where
  pub item : begins_item x ≡ true
  pub fixed : is_word w.LetWord x ≡ false
  pub free : is_word w.VarWord x ≡ false

module _ (x : Token) where
  pub name_leads : (text : List ℕ) → x.kind ≡ k.Name text → Leads x
  unfolding begins_item is_word same_word
  name_leads text e = record { item = rw e; fixed = rw e; free = rw e }

  pub type_name_leads : (text : List ℕ) → x.kind ≡ k.TypeName text → Leads x
  unfolding begins_item is_word same_word
  type_name_leads text e = record { item = rw e; fixed = rw e; free = rw e }

  pub number_leads : (n : ℕ) → x.kind ≡ k.Number n → Leads x
  unfolding begins_item is_word same_word
  number_leads n e = record { item = rw e; fixed = rw e; free = rw e }

  pub text_leads : (text : List ℕ) → x.kind ≡ k.Text text → Leads x
  unfolding begins_item is_word same_word
  text_leads text e = record { item = rw e; fixed = rw e; free = rw e }

  pub open_leads : x.kind ≡ k.Sign s.OpenParen → Leads x
  unfolding begins_item is_word same_word
  open_leads e = record { item = rw e; fixed = rw e; free = rw e }

  pub this_leads : x.kind ≡ k.Word w.ThisWord → Leads x
  unfolding begins_item is_word same_word
  this_leads e = record { item = rw e; fixed = rw e; free = rw e }

  pub truth_leads : (b : Bool) → x.kind ≡ k.Word (truth_word b) → Leads x
  unfolding begins_item is_word same_word
  truth_leads true e = record { item = rw e; fixed = rw e; free = rw e }
  truth_leads false e = record { item = rw e; fixed = rw e; free = rw e }

  pub if_leads : x.kind ≡ k.Word w.IfWord → Leads x
  unfolding begins_item is_word same_word
  if_leads e = record { item = rw e; fixed = rw e; free = rw e }

  pub while_leads : x.kind ≡ k.Word w.WhileWord → Leads x
  unfolding begins_item is_word same_word
  while_leads e = record { item = rw e; fixed = rw e; free = rw e }

  pub recover_leads : x.kind ≡ k.Word w.RecoverWord → Leads x
  unfolding begins_item is_word same_word
  recover_leads e = record { item = rw e; fixed = rw e; free = rw e }

  pub not_leads : x.kind ≡ k.Word w.NotWord → Leads x
  unfolding begins_item is_word same_word
  not_leads e = record { item = rw e; fixed = rw e; free = rw e }

  pub consume_leads : x.kind ≡ k.Word w.ConsumeWord → Leads x
  unfolding begins_item is_word same_word
  consume_leads e = record { item = rw e; fixed = rw e; free = rw e }

  pub local_item : (f : Bool) → x.kind ≡ k.Word (local_word f) → begins_item x ≡ true
  unfolding begins_item
  local_item true e = rw e
  local_item false e = rw e

  pub consume_not_not : x.kind ≡ k.Word w.ConsumeWord → is_word w.NotWord x ≡ false
  unfolding is_word same_word
  consume_not_not e = rw e

  pub var_not_let : x.kind ≡ k.Word w.VarWord → is_word w.LetWord x ≡ false
  unfolding is_word same_word
  var_not_let e = rw e

  pub end_no_else : x.kind ≡ k.Word w.EndWord → (is_word w.ElseWord x ≡ false) × (is_word w.ElseifWord x ≡ false)
  unfolding is_word same_word
  end_no_else e = (rw e, rw e)

  pub else_no_elseif : x.kind ≡ k.Word w.ElseWord → is_word w.ElseifWord x ≡ false
  unfolding is_word same_word
  else_no_elseif e = rw e

  pub close_no_comma : x.kind ≡ k.Sign s.CloseParen → is_sign s.Comma x ≡ false
  unfolding is_sign same_sign
  close_no_comma e = rw e
