-- Fields that are spelled are read.
use Rattle.std.proofs.Common.{◌≡◌, ℕ, zero, suc, ◌≤◌, Bool, true, false, List, [], ◌∷◌, ◌++◌, length, Option, Some, None, Ok, refl, sym, ap, ◌∙◌, subst, arith, append_assoc, length-append}
use Rattle.pc_tree.specs.Tree as t
use Rattle.pc_tree.specs.{Depths.depth, Levels.{value_depth, fields_depth}}
use Rattle.pc_token.specs.{declared.kinds.Token.Token, Words.{is_sign, is_word, same_sign}}
use Rattle.pc_token.specs.declared.kinds.TokenKind.TheVariants as k
use Rattle.pc_token.specs.declared.words.Word.TheVariants as w
use Rattle.pc_token.specs.declared.signs.Sign.TheVariants as s
use Rattle.pc_grammar.specs.{Spells.{op_of, cap_of, local_word, SpellsInfix, IsDoc, SpellsValue, SpellsField}, Parts.SpellsFields, Reading.{pure, peek, take_if, and_then, many, all, at, infix_, begins_suffix}, ReadingFile.{is_doc, value, field, begins_field, some_field}}
use Rattle.pc_grammar.proofs.{Follow.{kind_of_sign, kind_of_word, assign_no_cap, var_not_let, at_one, at_none}, First.First, Lifts.many_none, Steps.{name_read, one_more}, Complete.{complete, as_infix, two_parts, all_enough}, CompleteParams.{NoDoc, NoCap, NoSign, doc_reads, type_reads}}

-- no header, no type and no value continues with it
pub record Quiet (y : Token) : Type 0 where
  pub suffix : begins_suffix y ≡ false
  pub op : op_of y ≡ None
  pub cap : cap_of y ≡ None
  pub colon : is_sign s.Colon y ≡ false
  pub hat : is_sign s.Caret y ≡ false
  pub assign : is_sign s.Assign y ≡ false

-- and is no doc
pub record Calm (y : Token) : Type 0 where
  pub quiet : Quiet y
  pub doc : NoDoc y

pub to_cap : (rest : List Token) → First Quiet rest → First NoCap rest
to_cap rest f = (f.0, f.1, f.2, f.3.cap)

pub to_sign : (rest : List Token) → First Quiet rest → First NoSign rest
to_sign rest f = (f.0, f.1, f.2, (f.3.colon, f.3.hat))

pub to_quiet : (rest : List Token) → First Calm rest → First Quiet rest
to_quiet rest f = (f.0, f.1, f.2, f.3.quiet)

pub to_doc : (rest : List Token) → First Calm rest → First NoDoc rest
to_doc rest f = (f.0, f.1, f.2, f.3.doc)

doc_quiet : (x : Token) → x.kind ≡ k.Doc → Quiet x
unfolding begins_suffix op_of cap_of is_sign same_sign
doc_quiet x e = record { suffix = rw e; op = rw e; cap = rw e; colon = rw e; hat = rw e; assign = rw e }

let_calm : (x : Token) → x.kind ≡ k.Word w.LetWord → Calm x
unfolding begins_suffix op_of cap_of is_sign same_sign is_doc
let_calm x e = record { quiet = record { suffix = rw e; op = rw e; cap = rw e; colon = rw e; hat = rw e; assign = rw e }; doc = rw e }

var_calm : (x : Token) → x.kind ≡ k.Word w.VarWord → Calm x
unfolding begins_suffix op_of cap_of is_sign same_sign is_doc
var_calm x e = record { quiet = record { suffix = rw e; op = rw e; cap = rw e; colon = rw e; hat = rw e; assign = rw e }; doc = rw e }

local_calm : (f : Bool) (x : Token) → is_word (local_word f) x ≡ true → Calm x
local_calm true x h = let_calm x (kind_of_word w.LetWord x h)
local_calm false x h = var_calm x (kind_of_word w.VarWord x h)

pub doc_first : (d rest : List Token) → IsDoc d → First Quiet rest → First Quiet (d ++ rest)
doc_first [] rest h f = f
doc_first (x ∷ []) rest h f = (x, rest, refl, doc_quiet x h)
doc_first (x ∷ y ∷ ts) rest h f = absurd h

module _ (n : ℕ) where
  -- ---- values

  infix_reads : (e : t.Expr) (a rest : List Token) → SpellsInfix e a → depth e ≤ n → First Quiet rest → infix_ n (a ++ rest) ≡ Ok (e, rest)
  infix_reads e a rest h d f =
      let y = f.0 in
      let more = f.1 in
      ap (λ l. infix_ n (a ++ l)) f.2 ∙ as_infix n (a ++ y ∷ more) y more e h.0 (record { suffix = f.3.suffix; op = f.3.op }) (complete e n a y more h.1 d) ∙ ap (λ l. Ok (e, l)) (sym f.2)

  no_value : (rest : List Token) → First Quiet rest → value n rest ≡ Ok (None, rest)
  unfolding value peek
  no_value rest f =
      let P : List Token → Type 0 = λ l. value n l ≡ Ok (None, l) in
      let step : value n (f.0 ∷ f.1) ≡ Ok (None, f.0 ∷ f.1) = rw f.3.assign in
      subst P (sym f.2) step

  value_reads : (v : Option t.Expr) (b rest : List Token) → SpellsValue v b → value_depth v ≤ suc n → First Quiet rest → value n (b ++ rest) ≡ Ok (v, rest)
  unfolding value peek take_if
  value_reads None b rest h d f = ap (λ l. value n (l ++ rest)) h ∙ no_value rest f
  value_reads (Some e) b rest h d f =
      let inside = h.1 ++ rest in
      let step : and_then (and_then (take_if (is_sign s.Assign) (h.0 ∷ inside)) (λ _. infix_ n)) (λ e. pure (Some e)) ≡ Ok (Some e, rest) = rw (h.3, infix_reads e h.1 rest h.4 (omega arith) f) in
      ap (λ l. value n (l ++ rest)) h.2 ∙ rw h.3 step

  value_first : (v : Option t.Expr) (b rest : List Token) → SpellsValue v b → First Quiet rest → First NoCap (b ++ rest)
  value_first None b rest h f = (f.0, f.1, ap (λ l. l ++ rest) h ∙ f.2, f.3.cap)
  value_first (Some e) b rest h f = (h.0, h.1 ++ rest, ap (λ l. l ++ rest) h.2, assign_no_cap h.0 (kind_of_sign s.Assign h.0 h.3))

  -- ---- fields

  field_parts : (f : t.Field) (a rest : List Token) (h : SpellsField f a) → a ++ rest ≡ h.0 ∷ h.1 ∷ h.2 ∷ (h.3 ++ (h.4 ++ (h.5 ++ rest)))
  field_parts f a rest h = ap (λ l. l ++ rest) h.6 ∙ ap (λ l. h.0 ∷ h.1 ∷ h.2 ∷ l) (append_assoc h.3 (h.4 ++ h.5) rest ∙ ap (λ l. h.3 ++ l) (append_assoc h.4 h.5 rest))

  field_reads : (f : t.Field) (a rest : List Token) → SpellsField f a → value_depth f.value ≤ suc n → First Calm rest → field n f.fixed (a ++ rest) ≡ Ok (f, rest)
  unfolding field take_if
  field_reads f a rest h d calm =
      let third = h.5 ++ rest in
      let second = h.4 ++ third in
      let first = h.3 ++ second in
      let quiet = doc_first h.5 rest h.12 (to_quiet rest calm) in
      let step : field n f.fixed (h.0 ∷ h.1 ∷ h.2 ∷ first) ≡ Ok (f, rest) =
      rw (h.7, name_read h.1 f.name (h.2 ∷ first) h.8, h.9, type_reads f.ty h.3 second h.10 (value_first f.value h.4 third h.11 quiet), value_reads f.value h.4 third h.11 d quiet, doc_reads h.5 rest h.12 (to_doc rest calm)) in
      ap (field n f.fixed) (field_parts f a rest h) ∙ step

  fixed_is : (f : Bool) (x : Token) → is_word (local_word f) x ≡ true → is_word w.LetWord x ≡ f
  fixed_is true x h = h
  fixed_is false x h = var_not_let x (kind_of_word w.VarWord x h)

  some_field_by : (x : Token) (ts : List Token) (f : Bool) → is_word w.LetWord x ≡ f → some_field n (x ∷ ts) ≡ field n f (x ∷ ts)
  unfolding some_field peek
  some_field_by x ts f h = ap (λ b. field n b (x ∷ ts)) h

  some_field_reads : (f : t.Field) (a rest : List Token) → SpellsField f a → value_depth f.value ≤ suc n → First Calm rest → some_field n (a ++ rest) ≡ Ok (f, rest)
  some_field_reads f a rest h d calm =
      let here = field_parts f a rest h in
      ap (some_field n) here ∙ some_field_by h.0 _ f.fixed (fixed_is f.fixed h.0 h.7) ∙ ap (field n f.fixed) (sym here) ∙ field_reads f a rest h d calm

  -- ---- lists of fields

  begins_by : (f : Bool) (x : Token) → is_word (local_word f) x ≡ true → begins_field x ≡ true
  unfolding begins_field
  begins_by true x h = rw h
  begins_by false x h = rw (var_not_let x (kind_of_word w.VarWord x h), h)

  pub fields_first : (fs : List t.Field) (ts rest : List Token) → SpellsFields fs ts → First Calm rest → First Calm (ts ++ rest)
  fields_first [] ts rest h f = (f.0, f.1, ap (λ l. l ++ rest) h ∙ f.2, f.3)
  fields_first (g ∷ gs) ts rest h f =
      let x = h.3.0 in
      (x, _, two_parts h.0 h.1 ts rest h.2 ∙ field_parts g h.0 (h.1 ++ rest) h.3, local_calm g.fixed x h.3.7)

  abbrev pub NoField : Token → Type 0
  NoField x = begins_field x ≡ false

  none_left : (rest : List Token) → First NoField rest → at begins_field rest ≡ None
  none_left rest f = ap (at begins_field) f.2 ∙ at_none begins_field f.0 f.1 f.3

  fields_by : (fs : List t.Field) (ts rest : List Token) (m : ℕ) → SpellsFields fs ts → fields_depth fs ≤ suc n → length ts ≤ m → First Calm rest → First NoField rest → many (at begins_field) (some_field n) m (ts ++ rest) ≡ Ok (fs, rest)
  fields_by [] ts rest m h d fits calm last = ap (λ l. many (at begins_field) (some_field n) m (l ++ rest)) h ∙ many_none (at begins_field) (some_field n) m rest (none_left rest last)
  fields_by (f ∷ fs) ts rest zero h d fits calm last = absurd (omega (arith, ap length h.2, ap length h.3.6, length-append h.0 h.1))
  fields_by (f ∷ fs) ts rest (suc m) h d fits calm last =
      let b = h.1 ++ rest in
      let here = field_parts f h.0 b h.3 in
      let one = some_field_reads f h.0 b h.3 (omega arith) (fields_first fs h.1 rest h.4 calm) in
      let two = fields_by fs h.1 rest m h.4 (omega arith) (omega (arith, ap length h.2, ap length h.3.6, length-append h.0 h.1)) calm last in
      let goes : at begins_field (h.0 ++ b) ≡ Some (h.0 ++ b) = ap (at begins_field) here ∙ at_one begins_field h.3.0 _ (begins_by f.fixed h.3.0 h.3.7) ∙ ap Some (sym here) in
      ap (many (at begins_field) (some_field n) (suc m)) (two_parts h.0 h.1 ts rest h.2) ∙ one_more (at begins_field) (some_field n) m (h.0 ++ b) (h.0 ++ b) b rest f fs goes one two

  pub fields_read : (fs : List t.Field) (ts rest : List Token) → SpellsFields fs ts → fields_depth fs ≤ suc n → First Calm rest → First NoField rest → all (at begins_field) (some_field n) (ts ++ rest) ≡ Ok (fs, rest)
  fields_read fs ts rest h d calm last = all_enough (at begins_field) (some_field n) (ts ++ rest) _ (fields_by fs ts rest (length (ts ++ rest)) h d (omega (arith, length-append ts rest)) calm last)
