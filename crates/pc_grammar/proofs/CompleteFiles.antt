-- Entities and files that are spelled are read.
use Rattle.std.proofs.Common.{◌≡◌, ℕ, zero, suc, ◌≤◌, max, Bool, true, false, List, [], ◌∷◌, ◌++◌, length, Some, None, Ok, refl, sym, ap, ◌∙◌, subst, arith, cond, append_assoc, length-append, ◌⊎◌, inl, inr}
use Rattle.pc_tree.specs.Tree as t
use Rattle.pc_tree.specs.{Depths.file_depth, Levels.{fields_depth, methods_depth, entities_depth}, declared.written_names.Name.Name, declared.kinds.EntityKind.EntityKind, Kinds.{may_have_cap, may_have_fields, FieldsIf}}
use Rattle.pc_tree.specs.declared.kinds.Op.TheVariants as o
use Rattle.pc_tree.specs.declared.kinds.EntityKind.TheVariants as kind
use Rattle.pc_token.specs.{declared.kinds.Token.Token, Words.{is_sign, is_word, same_sign, same_word}}
use Rattle.pc_token.specs.declared.kinds.TokenKind.TheVariants as k
use Rattle.pc_token.specs.declared.words.Word.TheVariants as w
use Rattle.pc_token.specs.declared.signs.Sign.TheVariants as s
use Rattle.pc_grammar.specs.{Spells.{op_of, cap_of, SpellsMoreNames, SpellsNames, SpellsAlone, SpellsBracketed, SpellsProvides, entity_word, SpellsEntity, SpellsFile}, Parts.{SpellsFields, SpellsMoreEntities}, Reading.{pure, ◌>>◌, peek, take_if, and_then, many, all, after, at, type_name, begins_suffix, begins_item}, ReadingFile.{is_doc, is_end, type_names, provided, provides, entity_of, entity, begins_entity, begins_field, some_field, file}}
use Rattle.pc_grammar.proofs.{Follow.{kind_of_sign, kind_of_word, after_sign, after_no_sign, at_one, at_none}, First.First, Lifts.many_none, Steps.{type_name_read, one_more}, Complete.{two_parts, all_enough}, CompleteParams.{NoDoc, doc_reads}, CompleteFields.{Quiet, Calm, to_quiet, to_doc, doc_first, fields_first, fields_read, NoField}, CompleteMethods.{Outer, to_calm, cap_if_reads, methods_first, methods_read, no_method, NoMethod}}

-- ---- the traits of an entity

abbrev NoIs : Token → Type 0
NoIs x = is_word w.IsWord x ≡ false

is_an_op : (x : Token) → x.kind ≡ k.Word w.IsWord → op_of x ≡ Some o.Is
unfolding op_of
is_an_op x e = rw e

no_is_by : (x : Token) (b : Bool) → is_word w.IsWord x ≡ b → op_of x ≡ None → is_word w.IsWord x ≡ false
no_is_by x false e h = e
no_is_by x true e h = let f : None ≡ Some o.Is = sym h ∙ is_an_op x (kind_of_word w.IsWord x e) in absurd (cc)

to_no_is : (rest : List Token) → First Quiet rest → First NoIs rest
to_no_is rest f = (f.0, f.1, f.2, no_is_by f.0 (is_word w.IsWord f.0) refl f.3.op)

close_no_amp : (x : Token) → x.kind ≡ k.Sign s.CloseParen → is_sign s.Ampersand x ≡ false
unfolding is_sign same_sign
close_no_amp x e = rw e

type_no_open : (x : Token) (text : List ℕ) → x.kind ≡ k.TypeName text → is_sign s.OpenParen x ≡ false
unfolding is_sign
type_no_open x text e = rw e

type_no_cap : (x : Token) (text : List ℕ) → x.kind ≡ k.TypeName text → cap_of x ≡ None
unfolding cap_of
type_no_cap x text e = rw e

more_names : (ms : List Name) (ts : List Token) (y : Token) (more : List Token) (i : ℕ) → SpellsMoreNames ms ts → length ts ≤ i → is_sign s.CloseParen y ≡ true → many (after (is_sign s.Ampersand)) type_name i (ts ++ y ∷ more) ≡ Ok (ms, y ∷ more)
more_names [] ts y more i h fits closes =
    ap (λ l. many (after (is_sign s.Ampersand)) type_name i (l ++ y ∷ more)) h ∙ many_none (after (is_sign s.Ampersand)) type_name i (y ∷ more) (after_no_sign y s.Ampersand more (close_no_amp y (kind_of_sign s.CloseParen y closes)))
more_names (m ∷ ms) ts y more zero h fits closes = absurd (omega (arith, ap length h.3))
more_names (m ∷ ms) ts y more (suc i) h fits closes =
    let b = h.2 ++ y ∷ more in
    let two = more_names ms h.2 y more i h.6 (omega (arith, ap length h.3)) closes in
    ap (λ l. many (after (is_sign s.Ampersand)) type_name (suc i) (l ++ y ∷ more)) h.3 ∙ one_more (after (is_sign s.Ampersand)) type_name i (h.0 ∷ h.1 ∷ b) (h.1 ∷ b) b (y ∷ more) m ms (after_sign h.0 s.Ampersand (h.1 ∷ b) h.4) (type_name_read h.1 m b h.5) two

names_reads : (ms : List Name) (a : List Token) (y : Token) (more : List Token) → SpellsNames ms a → is_sign s.CloseParen y ≡ true → type_names (a ++ y ∷ more) ≡ Ok (ms, y ∷ more)
unfolding type_names
names_reads [] a y more h closes = absurd h
names_reads (m ∷ ms) a y more h closes =
    let b = h.1 ++ y ∷ more in
    let two = all_enough (after (is_sign s.Ampersand)) type_name b _ (more_names ms h.1 y more (length b) h.4 (omega (arith, length-append h.1 (y ∷ more))) closes) in
    let step : type_names (h.0 ∷ b) ≡ Ok (m ∷ ms, y ∷ more) = rw (type_name_read h.0 m b h.3, two) in
    ap (λ l. type_names (l ++ y ∷ more)) h.2 ∙ step

alone_reads : (ms : List Name) (a rest : List Token) → SpellsAlone ms a → provided (a ++ rest) ≡ Ok (ms, rest)
unfolding provided peek
alone_reads [] a rest h = absurd h
alone_reads (m ∷ []) a rest h =
    let step : provided (h.0 ∷ rest) ≡ Ok (m ∷ [], rest) = rw (type_no_open h.0 _ h.2.0, type_name_read h.0 m rest h.2) in
    ap (λ l. provided (l ++ rest)) h.1 ∙ step
alone_reads (m ∷ p ∷ ms) a rest h = absurd h

bracketed_reads : (ms : List Name) (a rest : List Token) → SpellsBracketed ms a → provided (a ++ rest) ≡ Ok (ms, rest)
unfolding provided peek take_if
bracketed_reads ms a rest h =
    let inside = h.2 ++ h.1 ∷ rest in
    let here : a ++ rest ≡ h.0 ∷ inside = ap (λ l. l ++ rest) h.3 ∙ ap (λ l. h.0 ∷ l) (append_assoc h.2 (h.1 ∷ []) rest) in
    let step : and_then (and_then (take_if (is_sign s.OpenParen) (h.0 ∷ inside)) (λ _. type_names)) (λ ms. take_if (is_sign s.CloseParen) >> pure ms) ≡ Ok (ms, rest) = rw (h.4, names_reads ms h.2 h.1 rest h.5 h.6, h.6) in
    ap provided here ∙ rw h.4 step

provided_reads : (ms : List Name) (a rest : List Token) → SpellsAlone ms a ⊎ SpellsBracketed ms a → provided (a ++ rest) ≡ Ok (ms, rest)
provided_reads ms a rest (inl h) = alone_reads ms a rest h
provided_reads ms a rest (inr h) = bracketed_reads ms a rest h

no_provides : (rest : List Token) → First NoIs rest → provides rest ≡ Ok ([], rest)
unfolding provides peek
no_provides rest f =
    let P : List Token → Type 0 = λ l. provides l ≡ Ok ([], l) in
    let step : provides (f.0 ∷ f.1) ≡ Ok ([], f.0 ∷ f.1) = rw f.3 in
    subst P (sym f.2) step

provides_reads : (ms : List Name) (a rest : List Token) → SpellsProvides ms a → First NoIs rest → provides (a ++ rest) ≡ Ok (ms, rest)
unfolding provides peek take_if
provides_reads [] a rest h f = ap (λ l. provides (l ++ rest)) h ∙ no_provides rest f
provides_reads (m ∷ ms) a rest h f =
    let inside = h.1 ++ rest in
    let step : and_then (take_if (is_word w.IsWord) (h.0 ∷ inside)) (λ _. provided) ≡ Ok (m ∷ ms, rest) = rw (h.3, provided_reads (m ∷ ms) h.1 rest h.4) in
    ap (λ l. provides (l ++ rest)) h.2 ∙ rw h.3 step

-- ---- what comes after an entity

pub record Next (y : Token) : Type 0 where
  pub outer : Outer y
  pub functions : is_word w.FunWord y ≡ false
  pub behaviours : is_word w.BeWord y ≡ false
  pub constructors : is_word w.NewWord y ≡ false

module _ (y : Token) where
  class_next : y.kind ≡ k.Word w.ClassWord → Next y
  unfolding begins_suffix op_of cap_of is_sign same_sign is_doc begins_item begins_field is_word same_word
  class_next e = record { outer = record { calm = record { quiet = record { suffix = rw e; op = rw e; cap = rw e; colon = rw e; hat = rw e; assign = rw e }; doc = rw e }; stops = record { suffix = rw e; op = rw e; assign = rw e; semicolon = rw e; item = rw e }; arrow = rw e; field = rw e; names = rw e }; functions = rw e; behaviours = rw e; constructors = rw e }

  actor_next : y.kind ≡ k.Word w.ActorWord → Next y
  unfolding begins_suffix op_of cap_of is_sign same_sign is_doc begins_item begins_field is_word same_word
  actor_next e = record { outer = record { calm = record { quiet = record { suffix = rw e; op = rw e; cap = rw e; colon = rw e; hat = rw e; assign = rw e }; doc = rw e }; stops = record { suffix = rw e; op = rw e; assign = rw e; semicolon = rw e; item = rw e }; arrow = rw e; field = rw e; names = rw e }; functions = rw e; behaviours = rw e; constructors = rw e }

  primitive_next : y.kind ≡ k.Word w.PrimitiveWord → Next y
  unfolding begins_suffix op_of cap_of is_sign same_sign is_doc begins_item begins_field is_word same_word
  primitive_next e = record { outer = record { calm = record { quiet = record { suffix = rw e; op = rw e; cap = rw e; colon = rw e; hat = rw e; assign = rw e }; doc = rw e }; stops = record { suffix = rw e; op = rw e; assign = rw e; semicolon = rw e; item = rw e }; arrow = rw e; field = rw e; names = rw e }; functions = rw e; behaviours = rw e; constructors = rw e }

  trait_next : y.kind ≡ k.Word w.TraitWord → Next y
  unfolding begins_suffix op_of cap_of is_sign same_sign is_doc begins_item begins_field is_word same_word
  trait_next e = record { outer = record { calm = record { quiet = record { suffix = rw e; op = rw e; cap = rw e; colon = rw e; hat = rw e; assign = rw e }; doc = rw e }; stops = record { suffix = rw e; op = rw e; assign = rw e; semicolon = rw e; item = rw e }; arrow = rw e; field = rw e; names = rw e }; functions = rw e; behaviours = rw e; constructors = rw e }

  interface_next : y.kind ≡ k.Word w.InterfaceWord → Next y
  unfolding begins_suffix op_of cap_of is_sign same_sign is_doc begins_item begins_field is_word same_word
  interface_next e = record { outer = record { calm = record { quiet = record { suffix = rw e; op = rw e; cap = rw e; colon = rw e; hat = rw e; assign = rw e }; doc = rw e }; stops = record { suffix = rw e; op = rw e; assign = rw e; semicolon = rw e; item = rw e }; arrow = rw e; field = rw e; names = rw e }; functions = rw e; behaviours = rw e; constructors = rw e }

  end_next : y.kind ≡ k.End → Next y
  unfolding begins_suffix op_of cap_of is_sign same_sign is_doc begins_item begins_field is_word same_word
  end_next e = record { outer = record { calm = record { quiet = record { suffix = rw e; op = rw e; cap = rw e; colon = rw e; hat = rw e; assign = rw e }; doc = rw e }; stops = record { suffix = rw e; op = rw e; assign = rw e; semicolon = rw e; item = rw e }; arrow = rw e; field = rw e; names = rw e }; functions = rw e; behaviours = rw e; constructors = rw e }

  end_no_entity : y.kind ≡ k.End → begins_entity y ≡ false
  unfolding begins_entity is_word
  end_no_entity e = rw e

  end_is : y.kind ≡ k.End → is_end y ≡ true
  unfolding is_end
  end_is e = rw e

entity_next : (e : EntityKind) (x : Token) → is_word (entity_word e) x ≡ true → Next x
entity_next kind.Class x h = class_next x (kind_of_word w.ClassWord x h)
entity_next kind.Actor x h = actor_next x (kind_of_word w.ActorWord x h)
entity_next kind.Primitive x h = primitive_next x (kind_of_word w.PrimitiveWord x h)
entity_next kind.Trait x h = trait_next x (kind_of_word w.TraitWord x h)
entity_next kind.Interface x h = interface_next x (kind_of_word w.InterfaceWord x h)

begins_by : (e : EntityKind) (x : Token) → is_word (entity_word e) x ≡ true → begins_entity x ≡ true
unfolding begins_entity is_word same_word
begins_by kind.Class x h = rw (kind_of_word w.ClassWord x h)
begins_by kind.Actor x h = rw (kind_of_word w.ActorWord x h)
begins_by kind.Primitive x h = rw (kind_of_word w.PrimitiveWord x h)
begins_by kind.Trait x h = rw (kind_of_word w.TraitWord x h)
begins_by kind.Interface x h = rw (kind_of_word w.InterfaceWord x h)

-- ---- entities

module _ (n : ℕ) where
  no_fields : (fs : List t.Field) (a rest : List Token) → SpellsFields fs a → fs ≡ [] → pure [] (a ++ rest) ≡ Ok (fs, rest)
  no_fields [] a rest h e = ap (λ l. Ok ([], l ++ rest)) h
  no_fields (f ∷ fs) a rest h e = absurd (cc)

  fields_reads : (b : Bool) (fs : List t.Field) (a rest : List Token) → SpellsFields fs a → FieldsIf b fs → fields_depth fs ≤ suc n → First Calm rest → First (NoField n) rest → cond b (all (at begins_field) (some_field n)) (pure []) (a ++ rest) ≡ Ok (fs, rest)
  fields_reads true fs a rest h may d calm last = fields_read n fs a rest h d calm last
  fields_reads false fs a rest h may d calm last = no_fields fs a rest h may

  entity_parts : (e : t.Entity) (a rest : List Token) (h : SpellsEntity e a) → a ++ rest ≡ h.0 ∷ (h.2 ++ h.1 ∷ (h.3 ++ (h.4 ++ (h.5 ++ (h.6 ++ rest)))))
  entity_parts e a rest h =
      let last = ap (λ l. h.4 ++ l) (append_assoc h.5 h.6 rest) in
      let third = ap (λ l. h.3 ++ l) (append_assoc h.4 (h.5 ++ h.6) rest ∙ last) in
      let second = ap (λ l. h.2 ++ h.1 ∷ l) (append_assoc h.3 (h.4 ++ (h.5 ++ h.6)) rest ∙ third) in
      ap (λ l. l ++ rest) h.7 ∙ ap (λ l. h.0 ∷ l) (append_assoc h.2 (h.1 ∷ (h.3 ++ (h.4 ++ (h.5 ++ h.6)))) rest ∙ second)

  abbrev depth_of : t.Entity → ℕ
  depth_of e = max (fields_depth e.fields) (methods_depth e.methods)

  entity_of_reads : (e : t.Entity) (a rest : List Token) → SpellsEntity e a → depth_of e ≤ suc n → First Next rest → entity_of n e.kind (a ++ rest) ≡ Ok (e, rest)
  unfolding entity_of take_if
  entity_of_reads e a rest h d f =
      let l5 = h.6 ++ rest in
      let l4 = h.5 ++ l5 in
      let l3 = h.4 ++ l4 in
      let l2 = h.3 ++ l3 in
      let l1 = h.2 ++ h.1 ∷ l2 in
      let outer : First Outer rest = (f.0, f.1, f.2, f.3.outer) in
      let last : First (NoMethod n e.kind) rest = (f.0, f.1, f.2, no_method n e.kind f.0 f.3.functions f.3.behaviours f.3.constructors) in
      let behind = methods_first n e.kind e.methods h.6 rest h.14 outer in
      let apart : First (NoField n) l5 = (behind.0, behind.1, behind.2, behind.3.field) in
      let calm = fields_first n e.fields h.5 l5 h.13 (to_calm l5 behind) in
      let quiet = doc_first h.4 l4 h.12 (to_quiet l4 calm) in
      let cap = cap_if_reads n (may_have_cap e.kind) e.cap h.2 (h.1 ∷ l2) h.9 h.15 (h.1, l2, refl, type_no_cap h.1 _ h.10.0) in
      let step : entity_of n e.kind (h.0 ∷ l1) ≡ Ok (e, rest) =
      rw (h.8, cap, type_name_read h.1 e.name l2 h.10, provides_reads e.provides h.3 l3 h.11 (to_no_is l3 quiet), doc_reads h.4 l4 h.12 (to_doc l4 calm), fields_reads (may_have_fields e.kind) e.fields h.5 l5 h.13 h.16 (omega (arith, d)) (to_calm l5 behind) apart, methods_read n e.kind e.methods h.6 rest h.14 (omega (arith, d)) outer last) in
      ap (entity_of n e.kind) (entity_parts e a rest h) ∙ step

  chosen : (e : EntityKind) (x : Token) (ts : List Token) → is_word (entity_word e) x ≡ true → entity n (x ∷ ts) ≡ entity_of n e (x ∷ ts)
  unfolding entity peek is_word same_word
  chosen kind.Class x ts h = rw (kind_of_word w.ClassWord x h)
  chosen kind.Actor x ts h = rw (kind_of_word w.ActorWord x h)
  chosen kind.Primitive x ts h = rw (kind_of_word w.PrimitiveWord x h)
  chosen kind.Trait x ts h = rw (kind_of_word w.TraitWord x h)
  chosen kind.Interface x ts h = rw (kind_of_word w.InterfaceWord x h)

  entity_reads : (e : t.Entity) (a rest : List Token) → SpellsEntity e a → depth_of e ≤ suc n → First Next rest → entity n (a ++ rest) ≡ Ok (e, rest)
  entity_reads e a rest h d f =
      let here = entity_parts e a rest h in
      ap (entity n) here ∙ chosen e.kind h.0 _ h.8 ∙ ap (entity_of n e.kind) (sym here) ∙ entity_of_reads e a rest h d f

  -- ---- files

  entities_first : (es : List t.Entity) (ts : List Token) (x : Token) (more : List Token) → SpellsMoreEntities es ts → x.kind ≡ k.End → First Next (ts ++ x ∷ more)
  entities_first [] ts x more h last = (x, more, ap (λ l. l ++ x ∷ more) h, end_next x last)
  entities_first (e ∷ es) ts x more h last =
      let y = h.3.0 in
      (y, _, two_parts h.0 h.1 ts (x ∷ more) h.2 ∙ entity_parts e h.0 (h.1 ++ x ∷ more) h.3, entity_next e.kind y h.3.8)

  more_entities : (es : List t.Entity) (ts : List Token) (x : Token) (more : List Token) (i : ℕ) → SpellsMoreEntities es ts → entities_depth es ≤ suc n → length ts ≤ i → x.kind ≡ k.End → many (at begins_entity) (entity n) i (ts ++ x ∷ more) ≡ Ok (es, x ∷ more)
  more_entities [] ts x more i h d fits last = ap (λ l. many (at begins_entity) (entity n) i (l ++ x ∷ more)) h ∙ many_none (at begins_entity) (entity n) i (x ∷ more) (at_none begins_entity x more (end_no_entity x last))
  more_entities (e ∷ es) ts x more zero h d fits last = absurd (omega (arith, ap length h.2, ap length h.3.7, length-append h.0 h.1))
  more_entities (e ∷ es) ts x more (suc i) h d fits last =
      let b = h.1 ++ x ∷ more in
      let here = entity_parts e h.0 b h.3 in
      let one = entity_reads e h.0 b h.3 (omega (arith, d)) (entities_first es h.1 x more h.4 last) in
      let two = more_entities es h.1 x more i h.4 (omega (arith, d)) (omega (arith, ap length h.2, ap length h.3.7, length-append h.0 h.1)) last in
      let goes : at begins_entity (h.0 ++ b) ≡ Some (h.0 ++ b) = ap (at begins_entity) here ∙ at_one begins_entity h.3.0 _ (begins_by e.kind h.3.0 h.3.8) ∙ ap Some (sym here) in
      ap (many (at begins_entity) (entity n) (suc i)) (two_parts h.0 h.1 ts (x ∷ more) h.2) ∙ one_more (at begins_entity) (entity n) i (h.0 ++ b) (h.0 ++ b) b (x ∷ more) e es goes one two

  file_by : (es : List t.Entity) (ts more : List Token) → SpellsFile (record { entities = es }) ts → entities_depth es ≤ suc n → file n (ts ++ more) ≡ Ok (record { entities = es }, more)
  unfolding file take_if
  file_by [] ts more h d = absurd h.5
  file_by (e ∷ es) ts more h d =
      let g = h.5 in
      let last = h.2 ∷ more in
      let l2 = g.1 ++ last in
      let l1 = g.0 ++ l2 in
      let here : ts ++ more ≡ h.0 ++ l1 = ap (λ l. l ++ more) h.3 ∙ append_assoc h.0 (h.1 ++ h.2 ∷ []) more ∙ ap (λ l. h.0 ++ l) (append_assoc h.1 (h.2 ∷ []) more ∙ two_parts g.0 g.1 h.1 last g.2) in
      let first : First NoDoc l1 = (g.3.0, _, entity_parts e g.0 l2 g.3, (entity_next e.kind g.3.0 g.3.8).outer.calm.doc) in
      let one = entity_reads e g.0 l2 g.3 (omega (arith, d)) (entities_first es g.1 h.2 more g.4 h.6) in
      let two = all_enough (at begins_entity) (entity n) l2 _ (more_entities es g.1 h.2 more (length l2) g.4 (omega (arith, d)) (omega (arith, length-append g.1 last)) h.6) in
      let step : file n (h.0 ++ l1) ≡ Ok (record { entities = e ∷ es }, more) = rw (doc_reads h.0 l1 h.4 first, one, two, end_is h.2 h.6) in
      ap (file n) here ∙ step

  -- A file that is spelled within the levels is read, whatever comes after its end.
  pub file_reads : (f : t.File) (ts more : List Token) → SpellsFile f ts → file_depth f ≤ suc n → file n (ts ++ more) ≡ Ok (f, more)
  file_reads f ts more h d = file_by f.entities ts more h d
