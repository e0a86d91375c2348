-- The repetitions of the grammar, and the rules around them.
use Rattle.std.specs.Prelude.{ℕ, List, [], ◌∷◌, ◌++◌, Option, Some, None, if◌then◌else◌}
use Rattle.pc_base.specs.declared.span.Span.{Span}
use Rattle.pc_token.specs.{declared.kinds.Token.Token, declared.kinds.TokenKind.TokenKind, Words.{is_sign, is_word}}
use Rattle.pc_tree.specs.{declared.kinds.Op.Op, Parts.{exprs_of, arms_of, arm_span}}
use Rattle.pc_grammar.specs.{Spells.{span_from_to, op_of}, Reading.{Parser, Inner, ◌>>=◌, pure, name, type_name, refuse, leaf, peek, deeper, take_if, all, next_item, after, at, is_op, begins_suffix, item, expr_in, seq_of, arm, other, term, infix_of, atom, suffix, chain_of}}
use Rattle.pc_tree.specs.Tree as t
use Rattle.pc_token.specs.declared.kinds.TokenKind.TheVariants as k
use Rattle.pc_token.specs.declared.words.Word.TheVariants as w
use Rattle.pc_token.specs.declared.signs.Sign.TheVariants as s

-- what is read as long as `next` says where one more begins, appended to what was read before
unfoldable pub onto : {A : Type 0} → (List Token → Option (List Token)) → Parser A → List A → Parser (List A)
onto next p xs = all next p >>= λ more. pure (xs ++ more)

-- {Next Item}
abbrev pub more_items : ℕ → Inner → List t.Item → Parser (List t.Item)
more_items n i = onto next_item (item (expr_in n i))

-- {"," Expr}
abbrev pub more_args : Parser t.Expr → List t.Expr → Parser (List t.Expr)
more_args e = onto (after (is_sign s.Comma)) e

-- {Op Term}
abbrev pub more_terms : ℕ → Inner → Op → List t.Expr → Parser (List t.Expr)
more_terms n i o = onto (after (is_op o)) (term n i)

-- {"." Name | "(" [Expr {"," Expr}] ")"}
abbrev pub more_suffixes : ℕ → Inner → List t.Suffix → Parser (List t.Suffix)
more_suffixes n i = onto (at begins_suffix) (suffix n i.expr)

-- {"elseif" Seq "then" Seq}
abbrev pub more_arms : Parser t.Seq → List t.Arm → Parser (List t.Arm)
more_arms body = onto (at (is_word w.ElseifWord)) (arm w.ElseifWord body)

-- Item {Next Item}
unfoldable pub seq_parts : ℕ → Inner → Parser t.Seq
seq_parts n i = item (expr_in n i) >>= λ x. more_items n i (x ∷ []) >>= λ is. pure (seq_of is)

-- Expr {"," Expr}
unfoldable pub some_args : Parser t.Expr → Parser (List t.Expr)
some_args e = e >>= λ x. more_args e (x ∷ [])

abbrev pub arg_list_by : Parser t.Expr → Token → Parser t.Exprs
arg_list_by e x = if is_sign s.CloseParen x then pure t.no_exprs else (some_args e >>= λ es. pure (exprs_of es))

-- [Expr {"," Expr}], before a ")"
unfoldable pub arg_list_parts : Parser t.Expr → Parser t.Exprs
arg_list_parts e = peek >>= arg_list_by e

-- Op Term {Op Term}, after a term
unfoldable pub chain_terms : ℕ → Inner → Op → t.Expr → Parser t.Expr
chain_terms n i o e = more_terms n i o (e ∷ []) >>= λ es. pure (infix_of o es)

abbrev pub chain_by : ℕ → Inner → t.Expr → Option Op → Parser t.Expr
chain_by n i e None = pure e
chain_by n i e (Some o) = chain_terms n i o e

-- Term {Op Term}
unfoldable pub infix_parts : ℕ → Inner → Parser t.Expr
infix_parts n i = term n i >>= λ e. peek >>= λ x. chain_by n i e (op_of x)

-- Atom {"." Name | "(" [Expr {"," Expr}] ")"}
unfoldable pub postfix_parts : ℕ → Inner → Parser t.Expr
postfix_parts n i = atom n i.seq >>= λ e. more_suffixes n i [] >>= λ ss. pure (chain_of e ss)

-- "if" Seq "then" Seq {"elseif" Seq "then" Seq}
unfoldable pub arms : Parser t.Seq → Parser (List t.Arm)
arms body = arm w.IfWord body >>= λ a. more_arms body (a ∷ [])

abbrev pub first_arm : List t.Arm → Span
first_arm [] = record { start = 0; end = 0 }
first_arm (a ∷ more) = arm_span a

unfoldable pub if_parts : ℕ → Parser t.Seq → Parser t.Expr
if_parts n body = deeper n (arms body >>= λ as'. other body >>= λ o. take_if (is_word w.EndWord) >>= λ close. pure (t.if_ (arms_of as') o (span_from_to (first_arm as') close.span)))

-- a name, or a type name, as an expression
unfoldable pub named : Parser t.Expr
named = name >>= λ m. pure (t.name m)

unfoldable pub type_named : Parser t.Expr
type_named = type_name >>= λ m. pure (t.type_name m)

-- a text literal
abbrev pub text_of : TokenKind → Parser t.Expr
text_of (k.Text b) = leaf (t.text b)
text_of _ = refuse

unfoldable pub text_at : Parser t.Expr
text_at = peek >>= λ x. text_of x.kind
