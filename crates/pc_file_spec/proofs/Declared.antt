-- The declaration of a member fits.
use Rattle.std.proofs.{Common.{◌≡◌, ℕ, ◌+◌, ◌<◌, List, [], ◌++◌, length, Option, Some, None, Bool, true, false, refl, sym, ap, ◌∙◌, subst, arith, inl, inr, append-nil}, lemmas.Option.none-some}
use Rattle.std.specs.Prelude.{◌⊎◌, is_some, IsSome}
use Rattle.pc_caps.specs.{declared.capability.Cap.Cap, declared.capability.Form.Form}
use Rattle.pc_caps.specs.declared.capability.Cap.TheVariants as cap
use Rattle.pc_caps.specs.declared.capability.Form.TheVariants as form
use Rattle.pc_tree.specs.{declared.kinds.EntityKind.EntityKind, declared.kinds.MethodWord.MethodWord, declared.written_names.TypeRef.TypeRef, Kinds.{is_abstract, may_stand, BodyUnless, first_own}}
use Rattle.pc_tree.specs.declared.kinds.EntityKind.TheVariants as kind
use Rattle.pc_tree.specs.declared.kinds.MethodWord.TheVariants as word
use Rattle.pc_tree.specs.Tree as t
use Rattle.pc_tree.proofs.KindFacts.{no_new, same_methods}
use Rattle.pc_core.specs.{declared.declarations.Method.Method, declared.declarations.ParamInfo.ParamInfo, Methods.{StandsIn, ResultFits}, Entities.{constructor_kind, word_kind}}
use Rattle.pc_base.specs.Lists.{Each, Has, Ascends}
use Rattle.pc_base.proofs.{Elements.ascends_none, Gets.map_get, Bools.{true_false, false_true, first_true, second_true}}
use Rattle.pc_members.specs.Members.{entity_names, Member, written, added, without_body}
use Rattle.pc_body_spec.specs.{Bodies.{Context, KnownEntity, initial_fields}, Parts.{maybe_body, cap_or, body_locals}, Places.{body_places, initial_places, written_body_places}, Slots.initial_locals}
use Rattle.pc_file_spec.specs.{Cores.{known_of, param_of, params_of, kind_of, word_receiver, receiver_cap, written_result, object_of, word_result, result_of, member_locals}, Order.{NamesInOrder, InPlace}}
use Rattle.pc_file_spec.proofs.{Steps.member_rose, Collects.{Collects, TypesAre, IsType}, Origins.{Origin, Comes, as_declared, as_own, as_taken, Sort, added_kind, fieldless}, Types.type_below, Definitions.MemberOrder}

-- ---- where methods are allowed

-- A member of a trait has no body, and one of another entity has one.
abbrev BodyFor : Bool → Option t.Seq → Type 0
BodyFor true b = b ≡ None
BodyFor false b = IsSome b

abbrev Placed : t.Entity → Member → Type 0
Placed e (written x) = (may_stand e.kind x.word ≡ true) × BodyFor (is_abstract e.kind) x.body
Placed e added = (e.kind ≡ kind.Class) ⊎ (e.kind ≡ kind.Actor)

own_body : (b : Option t.Seq) → BodyUnless false b → IsSome b
own_body None h = absurd h
own_body (Some b) h = refl

comes_placed : (file : t.File) (e origin : t.Entity) (source x : t.Method) → InPlace file → Has file.entities origin → Has origin.methods source → Comes e origin source x → Placed e (written x)
comes_placed file e origin source x p ho hs (as_declared d f h) =
    let stands : may_stand e.kind source.word ≡ true = same_methods e.kind origin.kind source.word d f ∙ ((p origin ho).1 source hs).0 in
    subst (λ y. Placed e (written y)) h (stands, subst (λ b. BodyFor b None) (sym d) refl)
comes_placed file e origin source x p ho hs (as_own d f h) =
    let there = (p origin ho).1 source hs in
    let own : Placed origin (written source) = (there.0, by (is_abstract origin.kind) (ap (λ (y : t.Entity). is_abstract y.kind) f ∙ d) there.1) in
    subst (λ y. Placed e (written y)) h (subst (λ y. Placed y (written source)) f own)
  where
    by : (b : Bool) → b ≡ false → BodyUnless b source.body → BodyFor b source.body
    by true e k = absurd (true_false e)
    by false e k = own_body source.body k
comes_placed file e origin source x p ho hs (as_taken d f k h) = (second_true (is_some x.body) (may_stand e.kind x.word) k, subst (λ b. BodyFor b x.body) (sym d) (first_true (is_some x.body) (may_stand e.kind x.word) k))

pub placed_of : (file : t.File) (e : t.Entity) (m : Member) → InPlace file → Sort file e m → Placed e m
placed_of file e (written x) p o = comes_placed file e o.origin o.source x p o.is_entity o.is_method o.comes
placed_of file e added p h = added_kind e h

pub member_stands : (e : t.Entity) (m : Member) → Placed e m → StandsIn (kind_of e.kind m) e.kind
member_stands e (written x) p = (x.word, p.0, refl)
member_stands e added (inl h) = (word.New, ap (λ k. may_stand k word.New) h, refl)
member_stands e added (inr h) = (word.New, ap (λ k. may_stand k word.New) h, refl)

-- ---- bodies

-- A member without a body is that of a trait or an interface, and has no locals.
no_locals : (k : EntityKind) (fs : List t.Field) (w : MethodWord) → is_abstract k ≡ true → may_stand k w ≡ true → initial_locals (initial_fields w fs) ≡ []
no_locals k fs word.Fun e h = refl
no_locals k fs word.Be e h = refl
no_locals k fs word.New e h = absurd (true_false (sym h ∙ no_new k e))

only_abstract : (b : Bool) → BodyFor b None → b ≡ true
only_abstract true h = refl
only_abstract false h = absurd (false_true h)

no_seq : (c : Context) (fs : List t.Field) (x : t.Method) (o : Option t.Seq) → maybe_body c fs x o ≡ None → o ≡ None
no_seq c fs x None h = refl
no_seq c fs x (Some b) h = absurd (none-some _ (sym h))

pub bodiless : (c : Context) (e : t.Entity) (m : Member) → Placed e m → member_rose c e m ≡ None → (is_abstract e.kind ≡ true) × (member_locals e m ≡ [])
bodiless c e added p h = absurd (none-some _ (sym h))
bodiless c e (written x) p h =
    let none : x.body ≡ None = no_seq c e.fields x x.body h in
    let is : is_abstract e.kind ≡ true = only_abstract (is_abstract e.kind) (subst (BodyFor (is_abstract e.kind)) none p.1) in
    (is, ap (λ ls. ls ++ body_locals x.body) (no_locals e.kind e.fields x.word is p.0) ∙ ap body_locals none)

-- The places in a function or behaviour are those of its body, whichever fields its entity has.
same_places : (k : EntityKind) (fs gs : List t.Field) (x : t.Method) → is_abstract k ≡ true → may_stand k x.word ≡ true → body_places fs x ≡ body_places gs x
same_places k fs gs x d h = by x.word h
  where
    by : (w : MethodWord) → may_stand k w ≡ true → initial_places (initial_fields w fs) ++ written_body_places x.body ≡ initial_places (initial_fields w gs) ++ written_body_places x.body
    by word.Fun g = refl
    by word.Be g = refl
    by word.New g = absurd (true_false (sym g ∙ no_new k d))

no_initials : (w : MethodWord) → initial_places (initial_fields w []) ≡ []
no_initials word.Fun = refl
no_initials word.Be = refl
no_initials word.New = refl

comes_ordered : (file : t.File) (e origin : t.Entity) (source x : t.Method) → NamesInOrder file → InPlace file → Has file.entities e → Has file.entities origin → Has origin.methods source → Comes e origin source x → MemberOrder e (written x)
comes_ordered file e origin source x o p he ho hs (as_declared d f h) =
    let fields : e.fields ≡ [] = fieldless e.kind e.fields d (p e he).0 in
    let nothing : body_places e.fields (without_body source) ≡ [] = ap (λ (fs : List t.Field). body_places fs (without_body source)) fields ∙ append-nil (initial_places (initial_fields source.word [])) ∙ no_initials source.word in
    subst (λ y. MemberOrder e (written y)) h (subst Ascends (sym nothing) ascends_none)
comes_ordered file e origin source x o p he ho hs (as_own d f h) = subst (λ y. MemberOrder e (written y)) h (subst (λ y. MemberOrder y (written source)) f ((o origin ho).1 source hs))
comes_ordered file e origin source x o p he ho hs (as_taken d f k h) =
    let places : body_places origin.fields source ≡ body_places e.fields source = same_places origin.kind origin.fields e.fields source f ((p origin ho).1 source hs).0 in
    subst (λ y. MemberOrder e (written y)) h (subst Ascends places ((o origin ho).1 source hs))

-- The names in a member's body are in the order of the text.
pub member_order : (file : t.File) (e : t.Entity) (m : Member) → NamesInOrder file → InPlace file → Has file.entities e → Sort file e m
    → MemberOrder e m
member_order file e added o p he h = (o e he).0
member_order file e (written x) o p he s = comes_ordered file e s.origin s.source x o p he s.is_entity s.is_method s.comes

-- ---- types

pub types_are : (file : t.File) (above : List (List ℕ)) (e : t.Entity) (x : t.Method) → Collects file above → Origin file e x → TypesAre (entity_names file) x
types_are file above e x c o =
    let types : TypesAre (entity_names file) o.source = (c.sound o.origin o.is_entity).methods o.source o.is_method in
    bodies (subst (λ y. TypesAre (entity_names file) y) o.same (record { params = types.params; result = types.result }))
  where
    bodies : TypesAre (entity_names file) (without_body x) → TypesAre (entity_names file) x
    bodies t = record { params = t.params; result = t.result }

pub params_below : (file : t.File) (above : List (List ℕ)) (e : t.Entity) (m : Member) → Collects file above → Sort file e m → Each (λ i p. p.entity < first_own + length file.entities) (params_of (known_of file) m)
params_below file above e added c s i p h = absurd (none-some p h)
params_below file above e (written x) c s i p h =
    let r = map_get (param_of (known_of file)) x.params i p h in
    subst (λ (y : ParamInfo). y.entity < first_own + length file.entities) r.2 (type_below file r.0.ty ((types_are file above e x c s).params r.0 (i, r.1)))

result_below : (file : t.File) (r : Option TypeRef) → ((ty : TypeRef) → r ≡ Some ty → IsType (entity_names file) ty) → (written_result (known_of file) r).0 < first_own + length file.entities
result_below file None h = omega arith
result_below file (Some ty) h = type_below file ty (h ty refl)

object_below : (k : EntityKind) (n all : ℕ) (c : Cap) → n < all → (object_of k n c).0 < all
object_below kind.Actor n all c l = l
object_below k n all c l = l

pub member_result : (file : t.File) (above : List (List ℕ)) (e : t.Entity) (n : ℕ) (m : Member) → Collects file above → Sort file e m → n < first_own + length file.entities → (result_of (known_of file) e.kind n m).0 < first_own + length file.entities
member_result file above e n added c s l = object_below e.kind n (first_own + length file.entities) cap.Iso l
member_result file above e n (written x) c s l = by x.word
  where
    by : (w : MethodWord) → (word_result (known_of file) e.kind n x w).0 < first_own + length file.entities
    by word.Fun = result_below file x.result (types_are file above e x c s).result
    by word.Be = omega arith
    by word.New = object_below e.kind n (first_own + length file.entities) (cap_or x.cap cap.Ref) l

-- ---- results

object_fits : (k : EntityKind) (n : ℕ) (c : Cap) (x : Method) → x.receiver ≡ cap.Ref → x.entity ≡ n → x.result ≡ object_of k n c → ResultFits (constructor_kind k) x
object_fits kind.Actor n c x r e o = (r, o ∙ ap (λ i. (i, form.Tag)) (sym e))
object_fits kind.Class n c x r e o = (r, ap (λ (p : ℕ × Form). p.0) o ∙ sym e, (c, ap (λ (p : ℕ × Form). p.1) o))
object_fits kind.Primitive n c x r e o = (r, ap (λ (p : ℕ × Form). p.0) o ∙ sym e, (c, ap (λ (p : ℕ × Form). p.1) o))
object_fits kind.Trait n c x r e o = (r, ap (λ (p : ℕ × Form). p.0) o ∙ sym e, (c, ap (λ (p : ℕ × Form). p.1) o))
object_fits kind.Interface n c x r e o = (r, ap (λ (p : ℕ × Form). p.0) o ∙ sym e, (c, ap (λ (p : ℕ × Form). p.1) o))

word_fits : (entities : List KnownEntity) (k : EntityKind) (n : ℕ) (m : t.Method) (w : MethodWord) (x : Method) → x.receiver ≡ word_receiver w m.cap → x.entity ≡ n → x.result ≡ word_result entities k n m w → ResultFits (word_kind k w) x
word_fits entities k n m word.Fun x r e o = tt
word_fits entities k n m word.Be x r e o = (r, o)
word_fits entities k n m word.New x r e o = object_fits k n (cap_or m.cap cap.Ref) x r e o

pub member_fits : (entities : List KnownEntity) (k : EntityKind) (n : ℕ) (m : Member) (x : Method) → x.receiver ≡ receiver_cap m → x.entity ≡ n → x.result ≡ result_of entities k n m → ResultFits (kind_of k m) x
member_fits entities k n (written m) x r e o = word_fits entities k n m m.word x r e o
member_fits entities k n added x r e o = object_fits k n cap.Iso x r e o
