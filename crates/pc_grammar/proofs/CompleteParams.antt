-- Docs, results and parameters that are spelled are read.
use Rattle.std.proofs.Common.{◌≡◌, ℕ, zero, suc, ◌≤◌, Bool, true, false, List, [], ◌∷◌, ◌++◌, length, Option, Some, None, Ok, sym, ap, ◌∙◌, subst, arith, append_assoc, length-append}
use Rattle.pc_caps.specs.declared.capability.Cap.{Cap}
use Rattle.pc_tree.specs.{declared.written_names.TypeRef.TypeRef, declared.file.ParamDef.ParamDef}
use Rattle.pc_token.specs.{declared.kinds.Token.Token, Words.is_sign}
use Rattle.pc_token.specs.declared.kinds.TokenKind.TheVariants as k
use Rattle.pc_token.specs.declared.signs.Sign.TheVariants as s
use Rattle.pc_grammar.specs.{Spells.{cap_of, SpellsCap, SpellsType, IsDoc, SpellsHat, SpellsResult, SpellsReturns, SpellsParam, SpellsMoreParams, SpellsParamList, SpellsParams}, Reading.{pure, peek, take_if, and_then, many, all, after, maybe_cap, written_type}, ReadingFile.{is_doc, maybe_doc, maybe_hat, result_type, returns, param, param_list, params}}
use Rattle.pc_grammar.proofs.{Follow.{kind_of_sign, after_sign, after_no_sign, close_no_comma}, First.First, Lifts.many_none, Steps.{name_read, type_name_read, cap_read, type_read, one_more}, Complete.{two_parts, one_token, all_enough}}

abbrev pub NoDoc : Token → Type 0
NoDoc x = is_doc x ≡ false

abbrev pub NoCap : Token → Type 0
NoCap x = cap_of x ≡ None

abbrev pub NoSign : Token → Type 0
NoSign x = (is_sign s.Colon x ≡ false) × (is_sign s.Caret x ≡ false)

-- ---- docs

doc_true : (x : Token) → x.kind ≡ k.Doc → is_doc x ≡ true
unfolding is_doc
doc_true x e = rw e

no_doc : (rest : List Token) → First NoDoc rest → maybe_doc rest ≡ Ok (tt, rest)
unfolding maybe_doc peek
no_doc rest f =
    let P : List Token → Type 0 = λ l. maybe_doc l ≡ Ok (tt, l) in
    let step : maybe_doc (f.0 ∷ f.1) ≡ Ok (tt, f.0 ∷ f.1) = rw f.3 in
    subst P (sym f.2) step

pub doc_reads : (d rest : List Token) → IsDoc d → First NoDoc rest → maybe_doc (d ++ rest) ≡ Ok (tt, rest)
unfolding maybe_doc peek take_if
doc_reads [] rest h f = no_doc rest f
doc_reads (x ∷ []) rest h f = rw (doc_true x h)
doc_reads (x ∷ y ∷ ts) rest h f = absurd h

-- ---- results

sign_no_cap : (x : Token) → x.kind ≡ k.Sign s.Caret → cap_of x ≡ None
unfolding cap_of
sign_no_cap x e = rw e

comma_no_cap : (x : Token) → x.kind ≡ k.Sign s.Comma → cap_of x ≡ None
unfolding cap_of
comma_no_cap x e = rw e

close_no_cap : (x : Token) → x.kind ≡ k.Sign s.CloseParen → cap_of x ≡ None
unfolding cap_of
close_no_cap x e = rw e

pub cap_reads : (c : Option Cap) (a rest : List Token) → SpellsCap c a → First NoCap rest → maybe_cap (a ++ rest) ≡ Ok (c, rest)
cap_reads c a rest h f = ap (λ l. maybe_cap (a ++ l)) f.2 ∙ cap_read c a f.0 f.1 h f.3 ∙ ap (λ l. Ok (c, l)) (sym f.2)

pub type_reads : (r : TypeRef) (a rest : List Token) → SpellsType r a → First NoCap rest → written_type (a ++ rest) ≡ Ok (r, rest)
type_reads r a rest h f = ap (λ l. written_type (a ++ l)) f.2 ∙ type_read r a f.0 f.1 h f.3 ∙ ap (λ l. Ok (r, l)) (sym f.2)

no_hat : (rest : List Token) → First NoSign rest → maybe_hat rest ≡ Ok (false, rest)
unfolding maybe_hat peek
no_hat rest f =
    let P : List Token → Type 0 = λ l. maybe_hat l ≡ Ok (false, l) in
    let step : maybe_hat (f.0 ∷ f.1) ≡ Ok (false, f.0 ∷ f.1) = rw f.3.1 in
    subst P (sym f.2) step

hat_reads : (b : Bool) (a rest : List Token) → SpellsHat b a → First NoSign rest → maybe_hat (a ++ rest) ≡ Ok (b, rest)
unfolding maybe_hat peek take_if
hat_reads false a rest h f = ap (λ l. maybe_hat (l ++ rest)) h ∙ no_hat rest f
hat_reads true a rest h f = ap (λ l. maybe_hat (l ++ rest)) h.1 ∙ rw h.2

hat_first : (b : Bool) (a rest : List Token) → SpellsHat b a → First NoCap rest → First NoCap (a ++ rest)
hat_first false a rest h f = (f.0, f.1, ap (λ l. l ++ rest) h ∙ f.2, f.3)
hat_first true a rest h f = (h.0, rest, ap (λ l. l ++ rest) h.1, sign_no_cap h.0 (kind_of_sign s.Caret h.0 h.2))

result_reads : (r : TypeRef) (b rest : List Token) → SpellsResult r b → First NoCap rest → First NoSign rest → result_type (b ++ rest) ≡ Ok (r, rest)
unfolding result_type
result_reads r b rest h f g =
    let third = h.2 ++ rest in
    let second = h.1 ++ third in
    let step : result_type (h.0 ∷ second) ≡ Ok (r, rest) = rw (type_name_read h.0 r.name second h.4, cap_reads r.cap h.1 third h.5 (hat_first r.hat h.2 rest h.6 f), hat_reads r.hat h.2 rest h.6 g) in
    ap result_type (ap (λ l. l ++ rest) h.3 ∙ ap (λ l. h.0 ∷ l) (append_assoc h.1 h.2 rest)) ∙ step

no_returns : (rest : List Token) → First NoSign rest → returns rest ≡ Ok (None, rest)
unfolding returns peek
no_returns rest f =
    let P : List Token → Type 0 = λ l. returns l ≡ Ok (None, l) in
    let step : returns (f.0 ∷ f.1) ≡ Ok (None, f.0 ∷ f.1) = rw f.3.0 in
    subst P (sym f.2) step

pub returns_reads : (r : Option TypeRef) (a rest : List Token) → SpellsReturns r a → First NoCap rest → First NoSign rest → returns (a ++ rest) ≡ Ok (r, rest)
unfolding returns peek take_if
returns_reads None a rest h f g = ap (λ l. returns (l ++ rest)) h ∙ no_returns rest g
returns_reads (Some r) a rest h f g =
    let inside = h.1 ++ rest in
    let step : and_then (and_then (take_if (is_sign s.Colon) (h.0 ∷ inside)) (λ _. result_type)) (λ r. pure (Some r)) ≡ Ok (Some r, rest) = rw (h.3, result_reads r h.1 rest h.4 f g) in
    ap (λ l. returns (l ++ rest)) h.2 ∙ rw h.3 step

-- ---- parameters

param_reads : (p : ParamDef) (a : List Token) (z : Token) (more : List Token) → SpellsParam p a → cap_of z ≡ None → param (a ++ z ∷ more) ≡ Ok (p, z ∷ more)
unfolding param take_if
param_reads p a z more h e = ap (λ l. param (l ++ z ∷ more)) h.3 ∙ rw (name_read h.0 p.name (h.1 ∷ (h.2 ++ z ∷ more)) h.4, h.5, type_read p.ty h.2 z more h.6 e)

behind_param : (ps : List ParamDef) (b : List Token) (y : Token) (more : List Token) → SpellsMoreParams ps b → is_sign s.CloseParen y ≡ true → First NoCap (b ++ y ∷ more)
behind_param [] b y more h closes = (y, more, ap (λ l. l ++ y ∷ more) h, close_no_cap y (kind_of_sign s.CloseParen y closes))
behind_param (p ∷ ps) b y more h closes = (h.0, (h.1 ++ h.2) ++ y ∷ more, ap (λ l. l ++ y ∷ more) h.3, comma_no_cap h.0 (kind_of_sign s.Comma h.0 h.4))

one_param : (p : ParamDef) (a rest : List Token) → SpellsParam p a → First NoCap rest → param (a ++ rest) ≡ Ok (p, rest)
one_param p a rest h f = ap (λ l. param (a ++ l)) f.2 ∙ param_reads p a f.0 f.1 h f.3 ∙ ap (λ l. Ok (p, l)) (sym f.2)

more_params : (ps : List ParamDef) (ts : List Token) (y : Token) (more : List Token) (m : ℕ) → SpellsMoreParams ps ts → length ts ≤ m → is_sign s.CloseParen y ≡ true → many (after (is_sign s.Comma)) param m (ts ++ y ∷ more) ≡ Ok (ps, y ∷ more)
more_params [] ts y more m h fits closes =
    ap (λ l. many (after (is_sign s.Comma)) param m (l ++ y ∷ more)) h ∙ many_none (after (is_sign s.Comma)) param m (y ∷ more) (after_no_sign y s.Comma more (close_no_comma y (kind_of_sign s.CloseParen y closes)))
more_params (p ∷ ps) ts y more zero h fits closes = absurd (omega (arith, ap length h.3))
more_params (p ∷ ps) ts y more (suc m) h fits closes =
    let b = h.2 ++ y ∷ more in
    let one = one_param p h.1 b h.5 (behind_param ps h.2 y more h.6 closes) in
    let two = more_params ps h.2 y more m h.6 (omega (arith, ap length h.3, length-append h.1 h.2)) closes in
    ap (many (after (is_sign s.Comma)) param (suc m)) (one_token h.0 y h.1 h.2 more ts h.3) ∙ one_more (after (is_sign s.Comma)) param m (h.0 ∷ (h.1 ++ b)) (h.1 ++ b) b (y ∷ more) p ps (after_sign h.0 s.Comma (h.1 ++ b) h.4) one two

name_no_close : (x : Token) (text : List ℕ) → x.kind ≡ k.Name text → is_sign s.CloseParen x ≡ false
unfolding is_sign
name_no_close x text e = rw e

list_read : (x : Token) (ts rest end : List Token) (p : ParamDef) (ps : List ParamDef) → is_sign s.CloseParen x ≡ false → param (x ∷ ts) ≡ Ok (p, rest) → all (after (is_sign s.Comma)) param rest ≡ Ok (ps, end) → param_list (x ∷ ts) ≡ Ok (p ∷ ps, end)
unfolding param_list peek
list_read x ts rest end p ps other one two = rw (other, one, two)

none_read : (y : Token) (more : List Token) → is_sign s.CloseParen y ≡ true → param_list (y ∷ more) ≡ Ok ([], y ∷ more)
unfolding param_list peek
none_read y more closes = rw closes

list_reads : (ps : List ParamDef) (ts : List Token) (y : Token) (more : List Token) → SpellsParamList ps ts → is_sign s.CloseParen y ≡ true → param_list (ts ++ y ∷ more) ≡ Ok (ps, y ∷ more)
list_reads [] ts y more h closes = ap (λ l. param_list (l ++ y ∷ more)) h ∙ none_read y more closes
list_reads (p ∷ ps) ts y more h closes =
    let b = h.1 ++ y ∷ more in
    let x = h.3.0 in
    let inside = h.3.1 ∷ (h.3.2 ++ b) in
    let here : h.0 ++ b ≡ x ∷ inside = ap (λ l. l ++ b) h.3.3 in
    let one = one_param p h.0 b h.3 (behind_param ps h.1 y more h.4 closes) in
    let two = all_enough (after (is_sign s.Comma)) param b _ (more_params ps h.1 y more (length b) h.4 (omega (arith, length-append h.1 (y ∷ more))) closes) in
    ap param_list (two_parts h.0 h.1 ts (y ∷ more) h.2 ∙ here) ∙ list_read x inside b (y ∷ more) p ps (name_no_close x _ h.3.4.0) (ap param (sym here) ∙ one) two

pub params_reads : (ps : List ParamDef) (a rest : List Token) → SpellsParams ps a → params (a ++ rest) ≡ Ok (ps, rest)
unfolding params take_if
params_reads ps a rest h =
    let inside = h.2 ++ h.1 ∷ rest in
    let step : params (h.0 ∷ inside) ≡ Ok (ps, rest) = rw (h.4, list_reads ps h.2 h.1 rest h.5 h.6, h.6) in
    ap params (ap (λ l. l ++ rest) h.3 ∙ ap (λ l. h.0 ∷ l) (append_assoc h.2 (h.1 ∷ []) rest)) ∙ step
