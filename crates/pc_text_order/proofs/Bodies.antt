-- The places of a body are starts of tokens that spell it.
use Rattle.std.proofs.{Common.{◌≡◌, ℕ, zero, suc, List, [], ◌∷◌, Option, Some, None, refl, sym, ap, ◌∙◌, subst}, lemmas.Option.{same_Some, none-some}}
use Rattle.std.specs.Prelude.{slice_get}
use Rattle.pc_base.specs.declared.span.Span.{Span}
use Rattle.pc_tree.specs.Tree as t
use Rattle.pc_tree.specs.{declared.written_names.TypeRef.TypeRef, declared.kinds.Op.Op, declared.kinds.EntityKind.EntityKind, declared.kinds.MethodWord.MethodWord}
use Rattle.pc_tree.specs.declared.kinds.MethodWord.TheVariants as method
use Rattle.pc_token.specs.{declared.kinds.Token.Token, declared.words.Word.Word}
use Rattle.pc_token.specs.declared.words.Word.TheVariants as w
use Rattle.pc_grammar.specs.{Spells.{over, SpellsType, SpellsTyped, Spells, SpellsTerms, SpellsMoreTerms, SpellsSuffixes, SpellsArgs, SpellsMoreArgs, SpellsArm, SpellsArms, SpellsMoreArms, SpellsOther, SpellsSeq, SpellsItems, SpellsMoreItems, SpellsItem, SpellsValue, SpellsField, SpellsBody, SpellsMethod, SpellsEntity}, Parts.{SpellsFields, SpellsMethods}}
use Rattle.pc_body_spec.specs.{Bodies.initial_fields, Places.{written_places, places, exprs_places, suffixes_places, arm_places, arms_places, other_places, seq_places, items_places, item_places, value_places, initial_places, written_body_places, body_places}}
use Rattle.pc_text_order.specs.Laws.{BodiesAscend}
use Rattle.pc_text_order.proofs.{Among.{Among, nothing, put, after, both, past, before, moved, among_ascends}, Files.file_in}

pub type_in : (r : TypeRef) (ts : List Token) → SpellsType r ts → Among (r.name.span.start ∷ []) ts
type_in r ts h = moved h.2 (put h.3.1 nothing)

typed_in : (r : Option TypeRef) (ts : List Token) → SpellsTyped r ts → Among (written_places r) ts
typed_in None ts h = nothing
typed_in (Some r) ts h = moved h.2 (after (type_in r h.1 h.4))

-- The span of a text is that of its token.
text_in : (x : Token) (s : Span) (ts : List Token) → ts ≡ x ∷ [] → s ≡ over ts → Among (s.start ∷ []) ts
text_in x s ts one is =
    let same : x.span.start ≡ s.start = sym (ap (λ (z : Span). z.start) (is ∙ ap over one)) in
    moved one (subst (λ (n : ℕ). Among (n ∷ []) (x ∷ [])) same (put refl nothing))

mutual
  expr_in : (e : t.Expr) (ts : List Token) → Spells e ts → Among (places e) ts
  expr_in (t.number n s) ts h = nothing
  expr_in (t.truth b s) ts h = nothing
  expr_in (t.text b s) ts h = text_in h.0 s ts h.1 h.3
  expr_in (t.name n) ts h = moved h.1 (put h.2.1 nothing)
  expr_in (t.type_name n) ts h = moved h.1 (put h.2.1 nothing)
  expr_in (t.this s) ts h = nothing
  expr_in (t.consume n s) ts h = moved h.2 (after (put h.4.1 nothing))
  expr_in (t.not_ e s) ts h = moved h.2 (after (expr_in e h.1 h.5))
  expr_in (t.infix_ o es s) ts h = terms_in es o ts h.0
  expr_in (t.chain e ss s) ts h = moved h.2 (both (expr_in e h.0 h.4) (suffixes_in ss h.1 h.6))
  expr_in (t.group b s) ts h = moved h.3 (after (before (h.1 ∷ []) (seq_in b h.2 h.5)))
  expr_in (t.if_ as' o s) ts h = moved h.3 (both (arms_in as' h.1 h.4) (before (h.0 ∷ []) (other_in o h.2 h.5)))
  expr_in (t.while_ c b s) ts h = moved h.5 (after (both (seq_in c h.3 h.7) (after (before (h.2 ∷ []) (seq_in b h.4 h.9)))))
  expr_in (t.recover k b s) ts h = moved h.4 (after (past h.2 (before (h.1 ∷ []) (seq_in b h.3 h.7))))
  expr_in (t.assign l r s) ts h = moved h.3 (both (expr_in l h.1 h.5) (after (expr_in r h.2 h.7)))

  terms_in : (es : t.Exprs) (o : Op) (ts : List Token) → SpellsTerms es o ts → Among (exprs_places es) ts
  terms_in t.no_exprs o ts h = absurd h
  terms_in (t.expr e es) o ts h = moved h.2 (both (expr_in e h.0 h.4) (more_terms_in es o h.1 h.6))

  more_terms_in : (es : t.Exprs) (o : Op) (ts : List Token) → SpellsMoreTerms es o ts → Among (exprs_places es) ts
  more_terms_in t.no_exprs o ts h = nothing
  more_terms_in (t.expr e es) o ts h = moved h.3 (after (both (expr_in e h.1 h.6) (more_terms_in es o h.2 h.7)))

  suffixes_in : (ss : t.Suffixes) (ts : List Token) → SpellsSuffixes ss ts → Among (suffixes_places ss) ts
  suffixes_in t.no_suffixes ts h = nothing
  suffixes_in (t.suffix (t.dot n) ss) ts h = moved h.2 (both (moved h.3.2 (after (put h.3.4.1 nothing))) (suffixes_in ss h.1 h.4))
  suffixes_in (t.suffix (t.args es s) ss) ts h = moved h.2 (both (moved h.3.3 (after (before (h.3.1 ∷ []) (args_in es h.3.2 h.3.6)))) (suffixes_in ss h.1 h.4))

  args_in : (es : t.Exprs) (ts : List Token) → SpellsArgs es ts → Among (exprs_places es) ts
  args_in t.no_exprs ts h = nothing
  args_in (t.expr e es) ts h = moved h.2 (both (expr_in e h.0 h.3) (more_args_in es h.1 h.4))

  more_args_in : (es : t.Exprs) (ts : List Token) → SpellsMoreArgs es ts → Among (exprs_places es) ts
  more_args_in t.no_exprs ts h = nothing
  more_args_in (t.expr e es) ts h = moved h.3 (after (both (expr_in e h.1 h.5) (more_args_in es h.2 h.6)))

  arm_in : (a : t.Arm) (word : Word) (ts : List Token) → SpellsArm a word ts → Among (arm_places a) ts
  arm_in (t.arm_of c b s) word ts h = moved h.4 (after (both (seq_in c h.2 h.6) (after (seq_in b h.3 h.8))))

  arms_in : (as' : t.Arms) (ts : List Token) → SpellsArms as' ts → Among (arms_places as') ts
  arms_in t.no_arms ts h = absurd h
  arms_in (t.arm a as') ts h = moved h.2 (both (arm_in a w.IfWord h.0 h.3) (more_arms_in as' h.1 h.4))

  more_arms_in : (as' : t.Arms) (ts : List Token) → SpellsMoreArms as' ts → Among (arms_places as') ts
  more_arms_in t.no_arms ts h = nothing
  more_arms_in (t.arm a as') ts h = moved h.2 (both (arm_in a w.ElseifWord h.0 h.3) (more_arms_in as' h.1 h.4))

  other_in : (o : t.Other) (ts : List Token) → SpellsOther o ts → Among (other_places o) ts
  other_in t.no_other ts h = nothing
  other_in (t.other b) ts h = moved h.2 (after (seq_in b h.1 h.4))

  seq_in : (b : t.Seq) (ts : List Token) → SpellsSeq b ts → Among (seq_places b) ts
  seq_in (t.seq is s) ts h = items_in is ts h.0

  items_in : (is : t.Items) (ts : List Token) → SpellsItems is ts → Among (items_places is) ts
  items_in t.no_items ts h = absurd h
  items_in (t.item i is) ts h = moved h.2 (both (item_in i h.0 h.3) (more_items_in is h.1 h.4))

  more_items_in : (is : t.Items) (ts : List Token) → SpellsMoreItems is ts → Among (items_places is) ts
  more_items_in t.no_items ts h = nothing
  more_items_in (t.item i is) ts h = moved h.3 (past h.0 (both (item_in i h.1 h.5) (more_items_in is h.2 h.6)))

  item_in : (i : t.Item) (ts : List Token) → SpellsItem i ts → Among (item_places i) ts
  item_in (t.local fixed n ty e s) ts h = moved h.5 (after (put h.7.1 (both (typed_in ty h.3 h.8) (after (expr_in e h.4 h.10)))))
  item_in (t.plain e) ts h = expr_in e ts h

-- ---- initial values and bodies

value_in : (v : Option t.Expr) (ts : List Token) → SpellsValue v ts → Among (value_places v) ts
value_in None ts h = nothing
value_in (Some e) ts h = moved h.2 (after (expr_in e h.1 h.4.1))

field_in : (f : t.Field) (ts : List Token) → SpellsField f ts → Among (value_places f.value) ts
field_in f ts h = moved h.6 (after (after (after (past h.3 (before h.5 (value_in f.value h.4 h.11))))))

initials_in : (fs : List t.Field) (ts : List Token) → SpellsFields fs ts → Among (initial_places fs) ts
initials_in [] ts h = nothing
initials_in (f ∷ fs) ts h = moved h.2 (both (field_in f h.0 h.3) (initials_in fs h.1 h.4))

-- A method that is not a constructor has none.
initials_of : (word : MethodWord) (fs : List t.Field) (ts : List Token) → Among (initial_places fs) ts → Among (initial_places (initial_fields word fs)) ts
initials_of method.Fun fs ts a = nothing
initials_of method.Be fs ts a = nothing
initials_of method.New fs ts a = a

body_in : (b : Option t.Seq) (ts : List Token) → SpellsBody b ts → Among (written_body_places b) ts
body_in None ts h = nothing
body_in (Some b) ts h = moved h.3 (after (past h.1 (seq_in b h.2 h.6)))

method_in : (k : EntityKind) (m : t.Method) (ts : List Token) → SpellsMethod k m ts → Among (written_body_places m.body) ts
method_in k m ts h = moved h.7 (after (past h.2 (after (past h.3 (past h.4 (past h.5 (body_in m.body h.6 h.14)))))))

module _ (k : EntityKind) (m : t.Method) where
  one_in : (x : t.Method) (ts : List Token) → x ≡ m → SpellsMethod k x ts → Among (written_body_places m.body) ts
  one_in x ts same h = method_in k m ts (subst (λ (z : t.Method). SpellsMethod k z ts) same h)

  methods_in : (ms : List t.Method) (i : ℕ) (ts : List Token) → slice_get ms i ≡ Some m → SpellsMethods k ms ts → Among (written_body_places m.body) ts
  methods_in [] i ts at h = absurd (none-some m at)
  methods_in (x ∷ ms) zero ts at h = moved h.2 (before h.1 (one_in x h.0 (same_Some x m at) h.3))
  methods_in (x ∷ ms) (suc i) ts at h = moved h.2 (past h.0 (methods_in ms i h.1 at h.4))

-- ---- entities

entity_initials : (e : t.Entity) (ts : List Token) → SpellsEntity e ts → Among (initial_places e.fields) ts
entity_initials e ts h = moved h.7 (after (past h.2 (after (past h.3 (past h.4 (before h.6 (initials_in e.fields h.5 h.13)))))))

entity_body : (e : t.Entity) (m : t.Method) (i : ℕ) → slice_get e.methods i ≡ Some m → (ts : List Token) → SpellsEntity e ts → Among (body_places e.fields m) ts
entity_body e m i at ts h =
    moved h.7 (after (past h.2 (after (past h.3 (past h.4 (both (initials_of m.word e.fields h.5 (initials_in e.fields h.5 h.13)) (methods_in e.kind m e.methods i h.6 at h.14)))))))

pub bodies_ascend : BodiesAscend
bodies_ascend f ts h a i e at = (
  among_ascends (file_in e (initial_places e.fields) (entity_initials e) f i ts at h) a,
  λ j m there. among_ascends (file_in e (body_places e.fields m) (entity_body e m j there) f i ts at h) a,
)
