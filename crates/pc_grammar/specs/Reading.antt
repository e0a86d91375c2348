-- How the grammar is read from the left, with one token of lookahead.
use Rattle.std.specs.Prelude.{ℕ, zero, suc, Bool, true, false, not, ◌&&◌, ◌||◌, List, [], ◌∷◌, length, Option, Some, None, Result, Ok, Err, if◌then◌else◌}
use Rattle.pc_base.specs.declared.span.Span.{Span}
use Rattle.pc_caps.specs.declared.capability.Cap.{Cap}
use Rattle.pc_tree.specs.{declared.written_names.Name.Name, declared.written_names.TypeRef.TypeRef, declared.kinds.Op.Op, Parts.{exprs_of, suffixes_of, arms_of, items_of, suffix_span, arm_span, seq_span, item_span}}
use Rattle.pc_token.specs.{declared.kinds.Token.Token, declared.kinds.TokenKind.TokenKind, declared.words.Word.Word, Words.{is_sign, is_word}}
use Rattle.pc_grammar.specs.{Spells.{op_of, cap_of, local_word, no_span, span_from_to, is_place}, Parts.same_op}
use Rattle.pc_tree.specs.Tree as t
use Rattle.pc_token.specs.declared.kinds.TokenKind.TheVariants as k
use Rattle.pc_token.specs.declared.words.Word.TheVariants as w
use Rattle.pc_token.specs.declared.signs.Sign.TheVariants as s

-- Why reading stops: no rule continues with the next token, or it would open a level too many.
pub data ReadingFault : Type 0 where
  unexpected : ReadingFault
  too_deep : ReadingFault

-- The outcome of a rule: what it has read and the tokens after that, or a fault and the tokens from the faulty one on.
abbrev pub ReadingOutcome : Type 0 → Type 0
ReadingOutcome A = Result (A × List Token) (ReadingFault × List Token)

-- A rule gives an outcome for any tokens.
abbrev pub Parser : Type 0 → Type 0
Parser A = List Token → ReadingOutcome A

-- ---- one token. The end of a text is a token too, so the tokens of a text are never empty.

-- Looks at the next token, and leaves it for the next rule.
unfoldable pub peek : Parser Token
peek [] = Err (unexpected, [])
peek (x ∷ ts) = Ok (x, x ∷ ts)

-- Reads the next token if it passes a test; if not, the fault is at this token.
unfoldable pub take_if : (Token → Bool) → Parser Token
take_if test [] = Err (unexpected, [])
take_if test (x ∷ ts) = if test x then Ok (x, ts) else Err (unexpected, x ∷ ts)

-- Reads the next token, whatever it is.
abbrev pub take_any : Parser Token
take_any = take_if (λ _. true)

-- No rule begins with the next token.
abbrev pub refuse : {A : Type 0} → Parser A
refuse ts = Err (unexpected, ts)

-- ---- one rule after another

-- This value, without reading a token.
abbrev pub pure : {A : Type 0} → A → Parser A
pure x ts = Ok (x, ts)

-- What was read determines the next rule, which reads the tokens after it. A fault of the first rule is the fault of
-- both.
abbrev pub and_then : {A B : Type 0} → ReadingOutcome A → (A → Parser B) → ReadingOutcome B
and_then (Err fault) next = Err fault
and_then (Ok read) next = next read.0 read.1

-- The same as an operator on two rules.
infixl 10 ◌>>=◌
abbrev pub ◌>>=◌ : {A B : Type 0} → Parser A → (A → Parser B) → Parser B
p >>= f = λ ts. and_then (p ts) f

-- The same if the second rule does not depend on what the first has read.
infixl 10 ◌>>◌
abbrev pub ◌>>◌ : {A B : Type 0} → Parser A → Parser B → Parser B
p >> q = p >>= λ _. q

-- A rule that is read one level further inside, with this number of levels left.
unfoldable pub deeper : {A : Type 0} → ℕ → Parser A → Parser A
deeper zero p ts = Err (too_deep, ts)
deeper (suc n) p ts = p ts

-- ---- one rule repeatedly. The next token alone decides whether there is one more, and where it begins:

-- at that token,
unfoldable pub at : (Token → Bool) → List Token → Option (List Token)
at test [] = None
at test (x ∷ ts) = if test x then Some (x ∷ ts) else None

-- or after it, if that token separates the two.
unfoldable pub after : (Token → Bool) → List Token → Option (List Token)
after test [] = None
after test (x ∷ ts) = if test x then Some ts else None

-- One repetition: there is no more, or one is read from where it begins, and then the rest.
abbrev pub many_step : {A : Type 0} → Parser A → Parser (List A) → List Token → Option (List Token) → ReadingOutcome (List A)
many_step p more ts None = Ok ([], ts)
many_step p more ts (Some begin) = and_then (p begin) (λ x. more >>= λ xs. pure (x ∷ xs))

-- All repetitions, but at most this number of them.
unfoldable pub many : {A : Type 0} → (List Token → Option (List Token)) → Parser A → ℕ → Parser (List A)
many next p zero ts = Ok ([], ts)
many next p (suc n) ts = many_step p (many next p n) ts (next ts)

-- The number of tokens is always enough, since each repetition reads at least one.
unfoldable pub all : {A : Type 0} → (List Token → Option (List Token)) → Parser A → Parser (List A)
all next p ts = many next p (length ts) ts

abbrev pub kind_begins : TokenKind → Bool
kind_begins (k.Name n) = true
kind_begins (k.TypeName n) = true
kind_begins (k.Number n) = true
kind_begins (k.Text b) = true
kind_begins (k.Sign s.OpenParen) = true
kind_begins (k.Word w.ThisWord) = true
kind_begins (k.Word w.TrueWord) = true
kind_begins (k.Word w.FalseWord) = true
kind_begins (k.Word w.IfWord) = true
kind_begins (k.Word w.WhileWord) = true
kind_begins (k.Word w.RecoverWord) = true
kind_begins (k.Word w.NotWord) = true
kind_begins (k.Word w.ConsumeWord) = true
kind_begins (k.Word w.LetWord) = true
kind_begins (k.Word w.VarWord) = true
kind_begins _ = false

-- an item may begin with this token
unfoldable pub begins_item : Token → Bool
begins_item x = kind_begins x.kind

unfoldable pub next_item : List Token → Option (List Token)
next_item [] = None
next_item (x ∷ ts) = if is_sign s.Semicolon x then Some ts else (if x.first && begins_item x then Some (x ∷ ts) else None)

abbrev pub is_this : Op → Option Op → Bool
is_this o None = false
is_this o (Some p) = same_op p o

unfoldable pub is_op : Op → Token → Bool
is_op o x = is_this o (op_of x)

unfoldable pub begins_suffix : Token → Bool
begins_suffix x = is_sign s.Dot x || (is_sign s.OpenParen x && not x.first)

-- ---- names, capabilities and types

abbrev pub name_at : TokenKind → Parser Name
name_at (k.Name text) = take_any >>= λ x. pure (record { text = text; span = x.span })
name_at _ = refuse

unfoldable pub name : Parser Name
name = peek >>= λ x. name_at x.kind

abbrev pub type_name_at : TokenKind → Parser Name
type_name_at (k.TypeName text) = take_any >>= λ x. pure (record { text = text; span = x.span })
type_name_at _ = refuse

unfoldable pub type_name : Parser Name
type_name = peek >>= λ x. type_name_at x.kind

abbrev pub cap_by : Option Cap → Parser (Option Cap)
cap_by None = pure None
cap_by (Some c) = take_any >> pure (Some c)

-- [Cap]
unfoldable pub maybe_cap : Parser (Option Cap)
maybe_cap = peek >>= λ x. cap_by (cap_of x)

-- TypeName [Cap]
unfoldable pub written_type : Parser TypeRef
written_type = type_name >>= λ m. maybe_cap >>= λ c. pure (record { name = m; cap = c; hat = false })

abbrev pub typed_at : Token → Parser (Option TypeRef)
typed_at x = if is_sign s.Colon x then (take_if (is_sign s.Colon) >> written_type >>= λ r. pure (Some r)) else pure None

-- [":" Type]
unfoldable pub maybe_type : Parser (Option TypeRef)
maybe_type = peek >>= typed_at

-- ---- the rules, with n levels left

-- what may come inside, with a number of levels left
pub record Inner : Type 0 where
  pub seq : Parser t.Seq
  pub expr : Parser t.Expr
  pub term : Parser t.Expr

abbrev pub first_item : List t.Item → Span
first_item [] = no_span
first_item (i ∷ is) = item_span i

abbrev pub last_item : Span → List t.Item → Span
last_item s [] = s
last_item s (i ∷ is) = last_item (item_span i) is

abbrev pub first_expr : List t.Expr → Span
first_expr [] = no_span
first_expr (e ∷ es) = t.span_of e

abbrev pub last_expr : Span → List t.Expr → Span
last_expr s [] = s
last_expr s (e ∷ es) = last_expr (t.span_of e) es

abbrev pub last_suffix : Span → List t.Suffix → Span
last_suffix s [] = s
last_suffix s (e ∷ es) = last_suffix (suffix_span e) es

unfoldable pub seq_of : List t.Item → t.Seq
seq_of is = t.seq (items_of is) (span_from_to (first_item is) (last_item no_span is))

-- Item {Next Item}
unfoldable pub seq_with : Parser t.Item → Parser t.Seq
seq_with item = item >>= λ i. all next_item item >>= λ is. pure (seq_of (i ∷ is))

-- ("var" | "let") Name [":" Type] "=" Expr
unfoldable pub local : Bool → Parser t.Expr → Parser t.Item
local f e = take_if (is_word (local_word f)) >>= λ x. name >>= λ m. maybe_type >>= λ ty. take_if (is_sign s.Assign) >> e >>= λ v. pure (t.local f m ty v (span_from_to x.span (t.span_of v)))

abbrev pub item_at : Parser t.Expr → Token → Parser t.Item
item_at e x = if is_word w.LetWord x then local true e else (if is_word w.VarWord x then local false e else (e >>= λ v. pure (t.plain v)))

unfoldable pub item : Parser t.Expr → Parser t.Item
item e = peek >>= item_at e

abbrev pub arg_list_at : Parser t.Expr → Token → Parser t.Exprs
arg_list_at e x = if is_sign s.CloseParen x then pure t.no_exprs else (e >>= λ first. all (after (is_sign s.Comma)) e >>= λ more. pure (exprs_of (first ∷ more)))

-- [Expr {"," Expr}], before a ")"
unfoldable pub arg_list : Parser t.Expr → Parser t.Exprs
arg_list e = peek >>= arg_list_at e

-- "(" [Expr {"," Expr}] ")"
unfoldable pub args : ℕ → Parser t.Expr → Parser t.Suffix
args n e = deeper n (take_if (is_sign s.OpenParen) >>= λ opener. arg_list e >>= λ es. take_if (is_sign s.CloseParen) >>= λ close. pure (t.args es (span_from_to opener.span close.span)))

abbrev pub suffix_at : ℕ → Parser t.Expr → Token → Parser t.Suffix
suffix_at n e x = if is_sign s.Dot x then (take_if (is_sign s.Dot) >> name >>= λ m. pure (t.dot m)) else args n e

unfoldable pub suffix : ℕ → Parser t.Expr → Parser t.Suffix
suffix n e = peek >>= suffix_at n e

unfoldable pub group : ℕ → Parser t.Seq → Parser t.Expr
group n body = deeper n (take_if (is_sign s.OpenParen) >>= λ opener. body >>= λ b. take_if (is_sign s.CloseParen) >>= λ close. pure (t.group b (span_from_to opener.span close.span)))

-- "if" Seq "then" Seq, or the same with another keyword
unfoldable pub arm : Word → Parser t.Seq → Parser t.Arm
arm word body = take_if (is_word word) >>= λ opener. body >>= λ c. take_if (is_word w.ThenWord) >> body >>= λ b. pure (t.arm_of c b (span_from_to opener.span (seq_span b)))

abbrev pub other_at : Parser t.Seq → Token → Parser t.Other
other_at body x = if is_word w.ElseWord x then (take_if (is_word w.ElseWord) >> body >>= λ b. pure (t.other b)) else pure t.no_other

-- ["else" Seq]
unfoldable pub other : Parser t.Seq → Parser t.Other
other body = peek >>= other_at body

unfoldable pub if_ : ℕ → Parser t.Seq → Parser t.Expr
if_ n body = deeper n (
    arm w.IfWord body >>= λ a. all (at (is_word w.ElseifWord)) (arm w.ElseifWord body) >>= λ more. other body >>= λ o.
    take_if (is_word w.EndWord) >>= λ close. pure (t.if_ (arms_of (a ∷ more)) o (span_from_to (arm_span a) close.span)))

unfoldable pub while_ : ℕ → Parser t.Seq → Parser t.Expr
while_ n body = deeper n (
    take_if (is_word w.WhileWord) >>= λ opener. body >>= λ c. take_if (is_word w.DoWord) >> body >>= λ b.
    take_if (is_word w.EndWord) >>= λ close. pure (t.while_ c b (span_from_to opener.span close.span)))

unfoldable pub recover_ : ℕ → Parser t.Seq → Parser t.Expr
recover_ n body = deeper n (
    take_if (is_word w.RecoverWord) >>= λ opener. maybe_cap >>= λ c. body >>= λ b.
    take_if (is_word w.EndWord) >>= λ close. pure (t.recover c b (span_from_to opener.span close.span)))

-- one token, as it is
abbrev pub leaf : (Span → t.Expr) → Parser t.Expr
leaf f = take_any >>= λ x. pure (f x.span)

abbrev pub atom_at : ℕ → Parser t.Seq → TokenKind → Parser t.Expr
atom_at n body (k.Name text) = name >>= λ m. pure (t.name m)
atom_at n body (k.TypeName text) = type_name >>= λ m. pure (t.type_name m)
atom_at n body (k.Number v) = leaf (t.number v)
atom_at n body (k.Text b) = leaf (t.text b)
atom_at n body (k.Word w.ThisWord) = leaf t.this
atom_at n body (k.Word w.TrueWord) = leaf (t.truth true)
atom_at n body (k.Word w.FalseWord) = leaf (t.truth false)
atom_at n body (k.Sign s.OpenParen) = group n body
atom_at n body (k.Word w.IfWord) = if_ n body
atom_at n body (k.Word w.WhileWord) = while_ n body
atom_at n body (k.Word w.RecoverWord) = recover_ n body
atom_at n body _ = refuse

unfoldable pub atom : ℕ → Parser t.Seq → Parser t.Expr
atom n body = peek >>= λ x. atom_at n body x.kind

abbrev pub chain_at : t.Expr → List t.Suffix → Span → t.Expr
chain_at e [] sp = e
chain_at e (s ∷ ss) sp = t.chain e (suffixes_of (s ∷ ss)) sp

unfoldable pub chain_of : t.Expr → List t.Suffix → t.Expr
chain_of e ss = chain_at e ss (span_from_to (t.span_of e) (last_suffix (t.span_of e) ss))

unfoldable pub postfix : ℕ → Inner → Parser t.Expr
postfix n i = atom n i.seq >>= λ e. all (at begins_suffix) (suffix n i.expr) >>= λ ss. pure (chain_of e ss)

-- "not" Term
unfoldable pub negation : ℕ → Parser t.Expr → Parser t.Expr
negation n term = deeper n (take_if (is_word w.NotWord) >>= λ opener. term >>= λ e. pure (t.not_ e (span_from_to opener.span (t.span_of e))))

-- "consume" Name
unfoldable pub consume : Parser t.Expr
consume = take_if (is_word w.ConsumeWord) >>= λ opener. name >>= λ m. pure (t.consume m (span_from_to opener.span m.span))

abbrev pub term_at : ℕ → Inner → Token → Parser t.Expr
term_at n i x = if is_word w.NotWord x then negation n i.term else (if is_word w.ConsumeWord x then consume else postfix n i)

unfoldable pub term : ℕ → Inner → Parser t.Expr
term n i = peek >>= term_at n i

unfoldable pub infix_of : Op → List t.Expr → t.Expr
infix_of o es = t.infix_ o (exprs_of es) (span_from_to (first_expr es) (last_expr no_span es))

abbrev pub infix_by : Parser t.Expr → t.Expr → Option Op → Parser t.Expr
infix_by term e None = pure e
infix_by term e (Some o) = all (after (is_op o)) term >>= λ es. pure (infix_of o (e ∷ es))

-- Term {Op Term}, with one operator
unfoldable pub infix_with : Parser t.Expr → Parser t.Expr
infix_with term = term >>= λ e. peek >>= λ x. infix_by term e (op_of x)

abbrev pub assigns : Token → t.Expr → Bool
assigns x e = is_sign s.Assign x && is_place e

-- "=" Expr, after e
unfoldable pub becomes : ℕ → Parser t.Expr → t.Expr → Parser t.Expr
becomes n inner e = deeper n (take_if (is_sign s.Assign) >> inner >>= λ r. pure (t.assign e r (span_from_to (t.span_of e) (t.span_of r))))

abbrev pub expr_by : ℕ → Parser t.Expr → t.Expr → Token → Parser t.Expr
expr_by n inner e x = if assigns x e then becomes n inner e else pure e

-- Infix ["=" Expr]
unfoldable pub expr_with : ℕ → Parser t.Expr → Parser t.Expr → Parser t.Expr
expr_with n infix_ inner = infix_ >>= λ e. peek >>= λ x. expr_by n inner e x

unfoldable pub infix_in : ℕ → Inner → Parser t.Expr
infix_in n i = infix_with (term n i)

unfoldable pub expr_in : ℕ → Inner → Parser t.Expr
expr_in n i = expr_with n (infix_in n i) i.expr

unfoldable pub seq_in : ℕ → Inner → Parser t.Seq
seq_in n i = seq_with (item (expr_in n i))

unfoldable pub inner : ℕ → Inner
inner zero = record { seq = refuse; expr = refuse; term = refuse }
inner (suc n) = record { seq = seq_in n (inner n); expr = expr_in n (inner n); term = term n (inner n) }

abbrev pub seq : ℕ → Parser t.Seq
seq n = seq_in n (inner n)

abbrev pub expr : ℕ → Parser t.Expr
expr n = expr_in n (inner n)

abbrev pub infix_ : ℕ → Parser t.Expr
infix_ n = infix_in n (inner n)
