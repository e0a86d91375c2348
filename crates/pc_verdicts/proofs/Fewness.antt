-- A file has no more names of fields and methods, and no more names after a `.`, than there are tokens that spell it.
use Rattle.std.proofs.Common.{◌≡◌, ◌≤◌, ◌+◌, ◌*◌, Bool, true, false, codes, List, [], ◌∷◌, ◌++◌, Option, Some, None, length, refl, sym, subst, arith, length-append, if◌then◌else◌}
use Rattle.pc_base.specs.Lists.{Text}
use Rattle.pc_tree.specs.Tree as t
use Rattle.pc_tree.specs.{declared.kinds.Op.Op, declared.kinds.EntityKind.EntityKind}
use Rattle.pc_token.specs.{declared.kinds.Token.Token, declared.words.Word.Word}
use Rattle.pc_token.specs.declared.words.Word.TheVariants as w
use Rattle.pc_grammar.specs.{Spells.{Spells, SpellsTerms, SpellsMoreTerms, SpellsSuffixes, SpellsArgs, SpellsMoreArgs, SpellsArm, SpellsArms, SpellsMoreArms, SpellsOther, SpellsSeq, SpellsItems, SpellsMoreItems, SpellsItem, SpellsValue, SpellsBody, SpellsMethod, SpellsEntity, SpellsEntities, SpellsFile}, Parts.{SpellsFields, SpellsMethods, SpellsMoreEntities}}
use Rattle.pc_members.specs.{Members.{field_texts, method_texts}, MemberLists.{is_among, with_name, with_names}}
use Rattle.pc_names.specs.Faults.{built_in_texts, with_members}
use Rattle.pc_body_spec.specs.{Slots.{expr_texts, exprs_texts, suffixes_texts, arm_texts, arms_texts, other_texts, seq_texts, items_texts, item_texts, entities_texts}, Parts.{value_texts, body_texts, values_texts, bodies_texts}}
use Rattle.pc_file_spec.specs.Cores.{texts_of_file}

-- There are no more texts than tokens.
pub record Few (xs : List Text) (ts : List Token) : Type 0 where
  pub few : length xs ≤ length ts

nothing : {ts : List Token} → Few [] ts
nothing {ts} = record { few = omega arith }

put : {x : Text} {y : Token} {xs : List Text} {ts : List Token} → Few xs ts → Few (x ∷ xs) (y ∷ ts)
put {x} {y} {xs} {ts} f = let l = f.few in record { few = omega (arith, l) }

after : {y : Token} {xs : List Text} {ts : List Token} → Few xs ts → Few xs (y ∷ ts)
after {y} {xs} {ts} f = let l = f.few in record { few = omega (arith, l) }

both : {xs ys : List Text} {ts us : List Token} → Few xs ts → Few ys us → Few (xs ++ ys) (ts ++ us)
both {xs} {ys} {ts} {us} f g =
    let l = f.few in
    let m = g.few in
    let a = length-append xs ys in
    let b = length-append ts us in
    record { few = omega (arith, l, m, a, b) }

past : (ts : List Token) {xs : List Text} {us : List Token} → Few xs us → Few xs (ts ++ us)
past ts {xs} {us} f = let l = f.few in let a = length-append ts us in record { few = omega (arith, l, a) }

before : {xs : List Text} {ts : List Token} (us : List Token) → Few xs ts → Few xs (ts ++ us)
before {xs} {ts} us f = let l = f.few in let a = length-append ts us in record { few = omega (arith, l, a) }

moved : {xs : List Text} {ts us : List Token} → ts ≡ us → Few xs us → Few xs ts
moved {xs} e f = subst (Few xs) (sym e) f

-- ---- names after a `.`

mutual
  expr_few : (e : t.Expr) (ts : List Token) → Spells e ts → Few (expr_texts e) ts
  expr_few (t.number n s) ts h = nothing
  expr_few (t.truth b s) ts h = nothing
  expr_few (t.text b s) ts h = nothing
  expr_few (t.name n) ts h = nothing
  expr_few (t.type_name n) ts h = nothing
  expr_few (t.this s) ts h = nothing
  expr_few (t.consume n s) ts h = nothing
  expr_few (t.not_ e s) ts h = moved h.2 (after (expr_few e h.1 h.5))
  expr_few (t.infix_ o es s) ts h = terms_few es o ts h.0
  expr_few (t.chain e ss s) ts h = moved h.2 (both (expr_few e h.0 h.4) (suffixes_few ss h.1 h.6))
  expr_few (t.group b s) ts h = moved h.3 (after (before (h.1 ∷ []) (seq_few b h.2 h.5)))
  expr_few (t.if_ as' o s) ts h = moved h.3 (both (arms_few as' h.1 h.4) (before (h.0 ∷ []) (other_few o h.2 h.5)))
  expr_few (t.while_ c b s) ts h = moved h.5 (after (both (seq_few c h.3 h.7) (after (before (h.2 ∷ []) (seq_few b h.4 h.9)))))
  expr_few (t.recover k b s) ts h = moved h.4 (after (past h.2 (before (h.1 ∷ []) (seq_few b h.3 h.7))))
  expr_few (t.assign l r s) ts h = moved h.3 (both (expr_few l h.1 h.5) (after (expr_few r h.2 h.7)))

  terms_few : (es : t.Exprs) (o : Op) (ts : List Token) → SpellsTerms es o ts → Few (exprs_texts es) ts
  terms_few t.no_exprs o ts h = absurd h
  terms_few (t.expr e es) o ts h = moved h.2 (both (expr_few e h.0 h.4) (more_terms_few es o h.1 h.6))

  more_terms_few : (es : t.Exprs) (o : Op) (ts : List Token) → SpellsMoreTerms es o ts → Few (exprs_texts es) ts
  more_terms_few t.no_exprs o ts h = nothing
  more_terms_few (t.expr e es) o ts h = moved h.3 (after (both (expr_few e h.1 h.6) (more_terms_few es o h.2 h.7)))

  suffixes_few : (ss : t.Suffixes) (ts : List Token) → SpellsSuffixes ss ts → Few (suffixes_texts ss) ts
  suffixes_few t.no_suffixes ts h = nothing
  suffixes_few (t.suffix (t.dot n) ss) ts h = moved h.2 (both (moved h.3.2 (put nothing)) (suffixes_few ss h.1 h.4))
  suffixes_few (t.suffix (t.args es s) ss) ts h = moved h.2 (both (moved h.3.3 (after (before (h.3.1 ∷ []) (args_few es h.3.2 h.3.6)))) (suffixes_few ss h.1 h.4))

  args_few : (es : t.Exprs) (ts : List Token) → SpellsArgs es ts → Few (exprs_texts es) ts
  args_few t.no_exprs ts h = nothing
  args_few (t.expr e es) ts h = moved h.2 (both (expr_few e h.0 h.3) (more_args_few es h.1 h.4))

  more_args_few : (es : t.Exprs) (ts : List Token) → SpellsMoreArgs es ts → Few (exprs_texts es) ts
  more_args_few t.no_exprs ts h = nothing
  more_args_few (t.expr e es) ts h = moved h.3 (after (both (expr_few e h.1 h.5) (more_args_few es h.2 h.6)))

  arm_few : (a : t.Arm) (word : Word) (ts : List Token) → SpellsArm a word ts → Few (arm_texts a) ts
  arm_few (t.arm_of c b s) word ts h = moved h.4 (after (both (seq_few c h.2 h.6) (after (seq_few b h.3 h.8))))

  arms_few : (as' : t.Arms) (ts : List Token) → SpellsArms as' ts → Few (arms_texts as') ts
  arms_few t.no_arms ts h = absurd h
  arms_few (t.arm a as') ts h = moved h.2 (both (arm_few a w.IfWord h.0 h.3) (more_arms_few as' h.1 h.4))

  more_arms_few : (as' : t.Arms) (ts : List Token) → SpellsMoreArms as' ts → Few (arms_texts as') ts
  more_arms_few t.no_arms ts h = nothing
  more_arms_few (t.arm a as') ts h = moved h.2 (both (arm_few a w.ElseifWord h.0 h.3) (more_arms_few as' h.1 h.4))

  other_few : (o : t.Other) (ts : List Token) → SpellsOther o ts → Few (other_texts o) ts
  other_few t.no_other ts h = nothing
  other_few (t.other b) ts h = moved h.2 (after (seq_few b h.1 h.4))

  seq_few : (b : t.Seq) (ts : List Token) → SpellsSeq b ts → Few (seq_texts b) ts
  seq_few (t.seq is s) ts h = items_few is ts h.0

  items_few : (is : t.Items) (ts : List Token) → SpellsItems is ts → Few (items_texts is) ts
  items_few t.no_items ts h = absurd h
  items_few (t.item i is) ts h = moved h.2 (both (item_few i h.0 h.3) (more_items_few is h.1 h.4))

  more_items_few : (is : t.Items) (ts : List Token) → SpellsMoreItems is ts → Few (items_texts is) ts
  more_items_few t.no_items ts h = nothing
  more_items_few (t.item i is) ts h = moved h.3 (past h.0 (both (item_few i h.1 h.5) (more_items_few is h.2 h.6)))

  item_few : (i : t.Item) (ts : List Token) → SpellsItem i ts → Few (item_texts i) ts
  item_few (t.local fixed n ty e s) ts h = moved h.5 (after (after (past h.3 (after (expr_few e h.4 h.10)))))
  item_few (t.plain e) ts h = expr_few e ts h

value_few : (v : Option t.Expr) (ts : List Token) → SpellsValue v ts → Few (value_texts v) ts
value_few None ts h = nothing
value_few (Some e) ts h = moved h.2 (after (expr_few e h.1 h.4.1))

values_few : (fs : List t.Field) (ts : List Token) → SpellsFields fs ts → Few (values_texts fs) ts
values_few [] ts h = nothing
values_few (f ∷ fs) ts h = moved h.2 (both (moved h.3.6 (after (after (after (past h.3.3 (before h.3.5 (value_few f.value h.3.4 h.3.11))))))) (values_few fs h.1 h.4))

body_few : (b : Option t.Seq) (ts : List Token) → SpellsBody b ts → Few (body_texts b) ts
body_few None ts h = nothing
body_few (Some b) ts h = moved h.3 (after (past h.1 (seq_few b h.2 h.6)))

method_few : (k : EntityKind) (m : t.Method) (ts : List Token) → SpellsMethod k m ts → Few (body_texts m.body) ts
method_few k m ts h = moved h.7 (after (past h.2 (after (past h.3 (past h.4 (past h.5 (body_few m.body h.6 h.14)))))))

bodies_few : (k : EntityKind) (ms : List t.Method) (ts : List Token) → SpellsMethods k ms ts → Few (bodies_texts ms) ts
bodies_few k [] ts h = nothing
bodies_few k (m ∷ ms) ts h = moved h.2 (both (method_few k m h.0 h.3) (bodies_few k ms h.1 h.4))

entity_few : (e : t.Entity) (ts : List Token) → SpellsEntity e ts → Few (values_texts e.fields ++ bodies_texts e.methods) ts
entity_few e ts h = moved h.7 (after (past h.2 (after (past h.3 (past h.4 (both (values_few e.fields h.5 h.13) (bodies_few e.kind e.methods h.6 h.14)))))))

more_few : (es : List t.Entity) (ts : List Token) → SpellsMoreEntities es ts → Few (entities_texts es) ts
more_few [] ts h = nothing
more_few (e ∷ es) ts h = moved h.2 (both (entity_few e h.0 h.3) (more_few es h.1 h.4))

entities_few : (es : List t.Entity) (ts : List Token) → SpellsEntities es ts → Few (entities_texts es) ts
entities_few [] ts h = absurd h
entities_few (e ∷ es) ts h = moved h.2 (both (entity_few e h.0 h.3) (more_few es h.1 h.4))

-- ---- names of fields and methods

fields_few : (fs : List t.Field) (ts : List Token) → SpellsFields fs ts → Few (field_texts fs) ts
fields_few [] ts h = nothing
fields_few (f ∷ fs) ts h = moved h.2 (both (moved h.3.6 (put nothing)) (fields_few fs h.1 h.4))

methods_few : (k : EntityKind) (ms : List t.Method) (ts : List Token) → SpellsMethods k ms ts → Few (method_texts ms) ts
methods_few k [] ts h = nothing
methods_few k (m ∷ ms) ts h = moved h.2 (both (moved h.3.7 (put nothing)) (methods_few k ms h.1 h.4))

abbrev own_names : t.Entity → List Text
own_names e = field_texts e.fields ++ method_texts e.methods

abbrev all_names : List t.Entity → List Text
all_names [] = []
all_names (e ∷ es) = own_names e ++ all_names es

own_few : (e : t.Entity) (ts : List Token) → SpellsEntity e ts → Few (own_names e) ts
own_few e ts h = moved h.7 (after (past h.2 (after (past h.3 (past h.4 (both (fields_few e.fields h.5 h.13) (methods_few e.kind e.methods h.6 h.14)))))))

more_own_few : (es : List t.Entity) (ts : List Token) → SpellsMoreEntities es ts → Few (all_names es) ts
more_own_few [] ts h = nothing
more_own_few (e ∷ es) ts h = moved h.2 (both (own_few e h.0 h.3) (more_own_few es h.1 h.4))

all_few : (es : List t.Entity) (ts : List Token) → SpellsEntities es ts → Few (all_names es) ts
all_few [] ts h = absurd h
all_few (e ∷ es) ts h = moved h.2 (both (own_few e h.0 h.3) (more_own_few es h.1 h.4))

-- ---- each once

name_longer : (names : List Text) (x : Text) → length (with_name names x) ≤ length names + 1
name_longer names x = by (is_among x names)
  where
    by : (b : Bool) → length (if b then names else names ++ x ∷ []) ≤ length names + 1
    by true = omega arith
    by false = let a = length-append names (x ∷ []) in omega (arith, a)

names_longer : (names xs : List Text) → length (with_names names xs) ≤ length names + length xs
names_longer names [] = omega arith
names_longer names (x ∷ xs) = let l = name_longer names x in let m = names_longer (with_name names x) xs in omega (arith, l, m)

members_longer : (names : List Text) (es : List t.Entity) → length (with_members names es) ≤ length names + length (all_names es)
members_longer names [] = omega arith
members_longer names (e ∷ es) =
    let l = names_longer names (own_names e) in
    let m = members_longer (with_names names (own_names e)) es in
    let a = length-append (own_names e) (all_names es) in
    omega (arith, l, m, a)

all_longer : (first : List Text) (es : List t.Entity) (xs : List Text) → length (with_names (with_members (with_names [] first) es) xs) ≤ length first + length (all_names es) + length xs
all_longer first es xs =
    let k = names_longer [] first in
    let l = members_longer (with_names [] first) es in
    let m = names_longer (with_members (with_names [] first) es) xs in
    omega (arith, k, l, m)

-- The texts of a file: four of the language, and the names in it.
pub texts_few : (file : t.File) (ts : List Token) → SpellsFile file ts → length (texts_of_file file) ≤ 4 + 2 * length ts
texts_few file ts h =
    let es = file.entities in
    let inner : Few (all_names es) ts = moved h.3 (past h.0 (before (h.2 ∷ []) (all_few es h.1 h.5))) in
    let dotted : Few (entities_texts es) ts = moved h.3 (past h.0 (before (h.2 ∷ []) (entities_few es h.1 h.5))) in
    let a = inner.few in
    let b = dotted.few in
    let first : length (built_in_texts ++ codes "apply" ∷ []) ≡ 4 = refl in
    let l = all_longer (built_in_texts ++ codes "apply" ∷ []) es (entities_texts es) in
    omega (arith, a, b, first, l)
