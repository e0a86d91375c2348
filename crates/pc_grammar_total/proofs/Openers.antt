-- Each token that opens a level is too deep in some list: after as many `(` as there are levels.
use Rattle.std.proofs.Common.{◌≡◌, ℕ, zero, suc, true, false, List, [], ◌∷◌, Err, refl}
use Rattle.pc_token.specs.{declared.kinds.Token.Token, declared.kinds.TokenKind.TokenKind, Words.{is_sign, is_word, same_sign, same_word}}
use Rattle.pc_token.specs.declared.kinds.TokenKind.TheVariants as k
use Rattle.pc_token.specs.declared.words.Word.TheVariants as w
use Rattle.pc_token.specs.declared.signs.Sign.TheVariants as s
use Rattle.pc_grammar.specs.{Spells.{op_of, cap_of}, Reading.{ReadingFault, too_deep, Inner, peek, take_if, deeper, all, many, at, begins_suffix, name, group, if_, while_, recover_, atom, postfix, negation, term, chain_of, infix_in, infix_with, becomes, expr_in, expr_with, item, seq_in, seq_with, inner, seq, expr, infix_, type_name, maybe_cap}, ReadingFile.{is_doc, file, maybe_doc, entity, entity_of, provides, begins_field, begins_method, some_method, method_of, params, param_list, returns, written_body}}
use Rattle.pc_grammar.proofs.{Follow.{Leads, open_leads, name_leads, if_leads, while_leads, recover_leads, not_leads}, ExplainedParts.of_kind}
use Rattle.pc_grammar_total.specs.Levels.{kind_opens, opens_level}

abbrev pub an_open : Token
an_open = of_kind (k.Sign s.OpenParen)

abbrev a_name : Token
a_name = of_kind (k.Name [])

-- a list in which a token is too deep
pub record Deep (n : ℕ) (x : Token) : Type 0 where
  pub first : Token
  pub behind : List Token
  pub more : List Token
  pub leads : Leads first
  pub plain : is_doc first ≡ false
  pub read : expr n (first ∷ behind) ≡ Err (too_deep, x ∷ more)

pub seq_deep_in : (n : ℕ) (x : Token) (d : Deep n x) → seq n (d.first ∷ d.behind) ≡ Err (too_deep, x ∷ d.more)
unfolding seq_in seq_with item peek
seq_deep_in n x d = rw (d.leads.fixed, d.leads.free, d.read)

-- ---- with no level left

at_once : (kk : TokenKind) (x : Token) → x.kind ≡ kk → kind_opens kk ≡ true → Deep 0 x
unfolding is_doc expr_in expr_with infix_in infix_with term negation peek postfix atom group if_ while_ recover_ name take_if deeper all many at chain_of begins_suffix op_of becomes is_sign is_word same_sign same_word
at_once (k.Sign s.OpenParen) x e o = record { first = x; behind = []; more = []; leads = open_leads x e; plain = rw e; read = rw e }
at_once (k.Word w.IfWord) x e o = record { first = x; behind = []; more = []; leads = if_leads x e; plain = rw e; read = rw e }
at_once (k.Word w.WhileWord) x e o = record { first = x; behind = []; more = []; leads = while_leads x e; plain = rw e; read = rw e }
at_once (k.Word w.RecoverWord) x e o = record { first = x; behind = []; more = []; leads = recover_leads x e; plain = rw e; read = rw e }
at_once (k.Word w.NotWord) x e o = record { first = x; behind = []; more = []; leads = not_leads x e; plain = rw e; read = rw e }
at_once (k.Sign s.Assign) x e o = record { first = a_name; behind = x ∷ []; more = []; leads = name_leads a_name [] refl; plain = refl; read = rw e }
at_once _ x e o = absurd (cc o)

-- ---- one level more

infix_deep : (n : ℕ) (i : Inner) (ts : List Token) (e : ReadingFault × List Token) → i.seq ts ≡ Err e → infix_in (suc n) i (an_open ∷ ts) ≡ Err e
unfolding infix_in infix_with term peek postfix atom group deeper take_if is_sign is_word same_sign
infix_deep n i ts e h = rw h

expr_deep : (n : ℕ) (i : Inner) (ts : List Token) (e : ReadingFault × List Token) → i.seq ts ≡ Err e → expr_in (suc n) i (an_open ∷ ts) ≡ Err e
unfolding expr_in expr_with
expr_deep n i ts e h = rw (infix_deep n i ts e h)

under : (n : ℕ) (x : Token) → Deep n x → Deep (suc n) x
unfolding is_doc inner
under n x d = record {
  first = an_open;
  behind = d.first ∷ d.behind;
  more = d.more;
  leads = open_leads an_open refl;
  plain = refl;
  read = expr_deep n (inner (suc n)) (d.first ∷ d.behind) (too_deep, x ∷ d.more) (seq_deep_in n x d);
}

pub deep_in : (n : ℕ) (x : Token) → opens_level x ≡ true → Deep n x
unfolding opens_level
deep_in zero x opens = at_once x.kind x refl opens
deep_in (suc n) x opens = under n x (deep_in n x opens)

pub infix_deep_in : (n : ℕ) (x : Token) (d : Deep n x) → infix_ (suc n) (an_open ∷ d.first ∷ d.behind) ≡ Err (too_deep, x ∷ d.more)
unfolding inner
infix_deep_in n x d = infix_deep n (inner (suc n)) (d.first ∷ d.behind) (too_deep, x ∷ d.more) (seq_deep_in n x d)

-- ---- in the body of a method

abbrev pub with_body : List Token → List Token
with_body ts =
    of_kind (k.Word w.ClassWord) ∷ of_kind (k.TypeName []) ∷ of_kind (k.Word w.FunWord) ∷ of_kind (k.Name [])
    ∷ of_kind (k.Sign s.OpenParen) ∷ of_kind (k.Sign s.CloseParen) ∷ of_kind (k.Sign s.Arrow) ∷ ts

pub file_deep_in : (n : ℕ) (x : Token) (d : Deep n x) → file n (with_body (d.first ∷ d.behind)) ≡ Err (too_deep, x ∷ d.more)
unfolding file maybe_doc is_doc entity entity_of type_name name provides all many at begins_field begins_method some_method method_of maybe_cap cap_of params param_list returns written_body peek take_if is_sign is_word same_sign same_word
file_deep_in n x d = rw (d.plain, seq_deep_in n x d)
