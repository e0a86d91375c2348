-- Which core a file has, and which method of a finished core represents a member of an entity.
use Rattle.std.specs.Prelude.{◌≡◌, ℕ, List, length, Some, slice_get, ◌↔◌, Option, None, ◌+◌, [], ◌∷◌, suc, Bool, true, false, map, if◌then◌else◌, ◌≤◌, ◌++◌, codes, unwrap_or, ◌<◌, ◌-◌, ◌^◌, flat_map}
use Rattle.pc_base.specs.{Limits.{slot_limit, entity_limit, field_limit, method_limit, node_limit}, Lists.{Text, Has, Differ, Each, Follow, one_if}}
use Rattle.pc_caps.specs.{declared.capability.Cap.Cap, Tables.{plain, unalias}, declared.capability.Form.Form}
use Rattle.pc_tree.specs.{declared.written_names.Name.Name, declared.written_names.TypeRef.TypeRef, declared.kinds.EntityKind.EntityKind, declared.kinds.MethodWord.MethodWord, declared.file.ParamDef.ParamDef, Kinds.{none_entity, at_kind, is_abstract, first_own}}
use Rattle.pc_core.specs.{declared.declarations.EntityDef.EntityDef, CoreData.{CoreData, own_methods, own_slots, node_end}, declared.nodes.Node.Node, declared.declarations.Method.Method, declared.declarations.MethodKind.MethodKind, declared.declarations.ParamInfo.ParamInfo, declared.nodes.Slot.Slot, Entities.{constructor_kind, word_kind, this_slot, param_slot, HasBuiltIn}, declared.declarations.FieldInfo.FieldInfo}
use Rattle.pc_body_spec.specs.{Slots.{Local, added_slots, initial_locals, local_kind, method_locals, slots_of, entities_texts}, Bodies.{Rose, Roses, rose, more as and_more, no_roses, node_of, body_of, added_body, Context, KnownEntity, Constructor, PlacedLocal}, Faults.{body_faults, initial_faults}}
use Rattle.pc_members.specs.Members.{field_texts, Member, member_text, written, added, entity_names, InCycle, own_texts, method_texts, has_added, without_body, is_takable, IsTransitiveClosure}
use Rattle.pc_names.specs.Mains.{is_main}
use Rattle.pc_tree.specs.Tree as t
use Rattle.pc_core.specs.declared.declarations.MethodKind.TheVariants as method
use Rattle.pc_caps.specs.declared.capability.Cap.TheVariants as cap
use Rattle.pc_caps.specs.declared.capability.Form.TheVariants as form
use Rattle.pc_tree.specs.declared.kinds.MethodWord.TheVariants as word

-- The lists are equally long, and their elements at each place are related in this way.
abbrev pub Match : {A B : Type 0} → (A → B → Type 0) → List A → List B → Type 0
Match {A} {B} R xs ys = (length xs ≡ length ys) × ((i : ℕ) (x : A) (y : B) → slice_get xs i ≡ Some x → slice_get ys i ≡ Some y → R x y)

-- ---- what a type written in a file is in a finished core

-- Entity number e has this name.
abbrev pub EntityHasName : CoreData → Name → ℕ → Type 0
EntityHasName core n e = (x : EntityDef) × (slice_get core.entities e ≡ Some x) × (x.name ≡ n.text)

-- A type: the entity with its name, and the capability that is written, or else that of the entity.
abbrev pub IsType : CoreData → TypeRef → ℕ × Cap → Type 0
IsType core ty p = (x : EntityDef) × (slice_get core.entities p.0 ≡ Some x) × (x.name ≡ ty.name.text) × (p.1 ≡ unwrap_or ty.cap x.cap)

-- The same for an optional type: if none is written, there is none.
abbrev pub IsWritten : CoreData → Option TypeRef → Option (ℕ × Cap) → Type 0
IsWritten core None w = w ≡ None
IsWritten core (Some ty) w = (p : ℕ × Cap) → (w ≡ Some p) ↔ IsType core ty p

-- The nodes of a rose of method m have exactly the numbers from `from` to n: first come those of its children, one
-- child after the other in the order of evaluation, and then its own, number n, which has the rose's kind, span and
-- depth, and refers to the children by their numbers.
abbrev mutual
  pub IsNumbered : List Node → (m from : ℕ) → Rose → (n : ℕ) → Type 0
  IsNumbered nodes m from (rose k s d rs) n = (ks : List ℕ) × AreNumbered nodes m from rs ks n × (slice_get nodes n ≡ Some (node_of m k s d ks))

  -- Roses whose own nodes have these numbers take the numbers from `from` up to, but not including, `next`.
  pub AreNumbered : List Node → (m from : ℕ) → Roses → (ks : List ℕ) → (next : ℕ) → Type 0
  AreNumbered nodes m from no_roses ks next = (ks ≡ []) × (from ≡ next)
  AreNumbered nodes m from (and_more r rs) ks next = (k : ℕ) × (rest : List ℕ) × (ks ≡ k ∷ rest) × IsNumbered nodes m from r k × AreNumbered nodes m (k + 1) rs rest next

-- ---- what the body of a method knows of a finished core

-- A method of this kind makes an object.
abbrev pub makes : MethodKind → Bool
makes method.Fun = false
makes method.Be = false
makes method.New = true
makes method.Spawn = true

-- The constructors among these methods, the first of which has this number.
abbrev pub constructors_among : List Text → ℕ → List Method → List Constructor
constructors_among names at [] = []
constructors_among names at (m ∷ ms) = if makes m.kind then record { name = unwrap_or (slice_get names m.name) []; method = at } ∷ constructors_among names (suc at) ms else constructors_among names (suc at) ms

-- An entity of the core, with its constructors.
abbrev pub seen_entity : CoreData → EntityDef → KnownEntity
seen_entity core x = record { name = x.name; kind = x.kind; cap = x.cap; constructors = constructors_among core.names x.first_method (own_methods core x) }

-- What the body of a member knows: the names of its entity's fields and of these members, the entities and texts of the
-- core, and for each of its locals, by the place of its name, the slot.
abbrev pub context_in : CoreData → List Member → t.Entity → List PlacedLocal → Context
context_in core members e slots = record {
  fields = field_texts e.fields;
  methods = map member_text members;
  entities = map (seen_entity core) core.entities;
  texts = core.names;
  slots = slots;
}

-- ---- receivers, parameters and results

-- `this` is `box` in a function without a written capability, and `ref` in behaviours and constructors.
abbrev pub IsReceiver : t.Method → MethodWord → Cap → Type 0
IsReceiver w word.Fun k = k ≡ unwrap_or w.cap cap.Box
IsReceiver w word.Be k = k ≡ cap.Ref
IsReceiver w word.New k = k ≡ cap.Ref

pub record ParamStands (core : CoreData) (p : ParamDef) (x : ParamInfo) : Type 0 where
  pub ty : IsType core p.ty (x.entity, x.cap)
  pub span : x.span ≡ p.name.span

-- With `^` no place holds the value yet.
abbrev pub IsForm : (hat : Bool) → Cap → Form → Type 0
IsForm true k f = f ≡ unalias k
IsForm false k f = f ≡ plain k

-- A function returns what is written, or else None.
abbrev pub IsFunctionResult : CoreData → Option TypeRef → ℕ × Form → Type 0
IsFunctionResult core None r = r ≡ (none_entity, form.Val)
IsFunctionResult core (Some ty) r = (k : Cap) × IsType core ty (r.0, k) × IsForm ty.hat k r.1

-- A new object of entity n: an actor is `tag`, and an object of a class has the capability that its constructor gives
-- it, and is in no place yet. Only classes and actors have constructors; the other kinds are never asked about.
abbrev pub IsObject : EntityKind → (n : ℕ) → Cap → ℕ × Form → Type 0
IsObject e n k r = r ≡ (n, at_kind (unalias k) form.Tag (unalias k) (unalias k) (unalias k) e)

-- A behaviour returns None. A constructor returns a new object of its entity: with the capability that is written for
-- it, or else as `ref`.
abbrev pub IsResult : CoreData → EntityKind → (n : ℕ) → t.Method → MethodWord → ℕ × Form → Type 0
IsResult core k n w word.Fun r = IsFunctionResult core w.result r
IsResult core k n w word.Be r = r ≡ (none_entity, form.Val)
IsResult core k n w word.New r = IsObject k n (unwrap_or w.cap cap.Ref) r

-- Slot x represents a local of method m.
pub record LocalStands (core : CoreData) (m : ℕ) (l : Local) (x : Slot) : Type 0 where
  pub method : x.method ≡ m
  pub kind : x.kind ≡ local_kind l.fixed
  pub depth : x.depth ≡ l.depth
  pub written : IsWritten core l.ty x.written

-- The slots of method m, which is x: `this`, the parameters, and these locals in the order of the text.
abbrev pub SlotsStand : CoreData → (m : ℕ) → Method → List Local → Type 0
SlotsStand core m x locals = (slots : List Slot) × (own_slots core x ≡ this_slot m x ∷ map (param_slot m) x.params ++ slots) × Match (LocalStands core m) locals slots

-- The nodes from the method's first one up to its body are those of the rose, and there is no body if there is no rose.
abbrev pub BodyIs : CoreData → (m : ℕ) → Method → Option Rose → Type 0
BodyIs core m x None = x.body ≡ None
BodyIs core m x (Some r) = (b : ℕ) × (x.body ≡ Some b) × IsNumbered core.nodes m x.first_node r b

-- ---- methods

-- Method number m of the core, which is x, represents a written method that is a member of entity number n of the core,
-- which has these members. Its body has no fault.
pub record WrittenStands (core : CoreData) (members : List Member) (n : ℕ) (e : t.Entity) (w : t.Method) (m : ℕ) (x : Method) : Type 0 where
  pub name : slice_get core.names x.name ≡ Some w.name.text
  pub kind : x.kind ≡ word_kind e.kind w.word
  pub receiver : IsReceiver w w.word x.receiver
  pub params : Match (ParamStands core) w.params x.params
  pub result : IsResult core e.kind n w w.word x.result
  pub span : x.span ≡ w.name.span
  pub slots : SlotsStand core m x (method_locals e.fields w)
  pub no_fault : body_faults (context_in core members e (slots_of e.fields w)) e.fields w ≡ []
  pub body : BodyIs core m x (body_of (context_in core members e (slots_of e.fields w)) e.fields w)

-- It represents the `create` that is added to that entity: with the entity's name as its span, without parameters. An
-- object of a class is returned as `iso^`, an actor as `tag`.
pub record AddedStands (core : CoreData) (members : List Member) (n : ℕ) (e : t.Entity) (m : ℕ) (x : Method) : Type 0 where
  pub name : slice_get core.names x.name ≡ Some (codes "create")
  pub kind : x.kind ≡ constructor_kind e.kind
  pub receiver : x.receiver ≡ cap.Ref
  pub params : x.params ≡ []
  pub result : IsObject e.kind n cap.Iso x.result
  pub span : x.span ≡ e.name.span
  pub slots : SlotsStand core m x (initial_locals e.fields)
  pub no_fault : initial_faults (context_in core members e (added_slots e.fields)) e.fields ≡ []
  pub body : BodyIs core m x (Some (added_body (context_in core members e (added_slots e.fields)) e.fields e.name.span))

abbrev pub MemberStands : CoreData → List Member → (n : ℕ) → t.Entity → Member → (m : ℕ) → Method → Type 0
MemberStands core members n e (written w) m x = WrittenStands core members n e w m x
MemberStands core members n e added m x = AddedStands core members n e m x

-- It represents that member.
pub record MethodStands (core : CoreData) (members : List Member) (n : ℕ) (e : t.Entity) (member : Member) (m : ℕ) (x : Method) : Type 0 where
  pub entity : x.entity ≡ n
  pub few_slots : x.slots ≤ slot_limit
  pub stands : MemberStands core members n e member m x

-- ---- the names and declarations of a file without faults

-- The name is that of an entity, built-in or of the file.
abbrev pub NamesEntity : t.File → Name → Type 0
NamesEntity file n = Has (entity_names file) n.text

-- The name is that of a trait or an interface of the file.
abbrev pub NamesTrait : t.File → Name → Type 0
NamesTrait file n = (e : t.Entity) × Has file.entities e × (is_abstract e.kind ≡ true) × (e.name.text ≡ n.text)

-- A method of an entity with these fields. The names of its parameters differ, and none is that of a field.
pub record SignatureIsRight (file : t.File) (fields : List t.Field) (m : t.Method) : Type 0 where
  pub names : Differ (field_texts fields ++ map (λ (p : ParamDef). p.name.text) m.params)
  pub params : (p : ParamDef) → Has m.params p → NamesEntity file p.ty.name
  pub result : (ty : TypeRef) → m.result ≡ Some ty → NamesEntity file ty.name

-- An entity. The names in its `is` list differ, and so do those of its fields and methods, including an added `create`.
pub record DeclarationsAreRight (file : t.File) (e : t.Entity) : Type 0 where
  pub provides : (n : Name) → Has e.provides n → NamesTrait file n
  pub provides_differ : Differ (map (λ (n : Name). n.text) e.provides)
  pub names : Differ (own_texts e)
  pub few_fields : length e.fields ≤ field_limit
  pub fields : (f : t.Field) → Has e.fields f → NamesEntity file f.ty.name
  pub methods : (m : t.Method) → Has e.methods m → SignatureIsRight file e.fields m

-- The whole file. The names of all entities differ, including the built-in ones; no trait or interface leads back to
-- itself; and there is a Main with which a program starts.
pub record NamesAreRight (file : t.File) : Type 0 where
  pub names : Differ (entity_names file)
  pub few_entities : length file.entities ≤ entity_limit
  pub entities : (e : t.Entity) → Has file.entities e → DeclarationsAreRight file e
  pub straight : (a : ℕ) → InCycle file a → ⊥
  pub main : (e : t.Entity) × Has file.entities e × (e.name.text ≡ codes "Main") × (is_main e ≡ true)

-- ---- the texts that a file needs, and a list of them

-- All of them in order: the built-in ones, the names of the fields and methods, entity by entity, and the names after
-- a `.`.
abbrev pub needed_texts : t.File → List Text
needed_texts file =
    (codes "out" ∷ codes "print" ∷ codes "create" ∷ codes "apply" ∷ [])
    ++ (flat_map (λ (e : t.Entity). field_texts e.fields ++ method_texts e.methods) file.entities ++ entities_texts file.entities)

-- In a list one text appears before another.
abbrev pub AppearsBefore : List Text → Text → Text → Type 0
AppearsBefore all x y = (p : ℕ) × (slice_get all p ≡ Some x) × ((q : ℕ) → slice_get all q ≡ Some y → p < q)

-- The names are the texts of a list in the order of their first appearance: so each occurs once.
pub record AreFirsts (all names : List Text) : Type 0 where
  pub same : (x : Text) → Has names x ↔ Has all x
  pub order : (i j : ℕ) (x y : Text) → i < j → slice_get names i ≡ Some x → slice_get names j ≡ Some y → AppearsBefore all x y

-- Of the methods with a property, the one at this place of a list is the first with its name.
pub record IsFirstOfName (P : t.Method → Type 0) (all : List t.Method) (place : ℕ) (m : t.Method) : Type 0 where
  pub there : slice_get all place ≡ Some m
  pub fits : P m
  pub first : (q : ℕ) (x : t.Method) → q < place → slice_get all q ≡ Some x → P x → x.name.text ≡ m.name.text → ⊥

-- The methods of a list that are the first with their names among those with a property, and no others, in the order of
-- the list.
pub record AreFirstOfNames (P : t.Method → Type 0) (all firsts : List t.Method) : Type 0 where
  pub same : (m : t.Method) → Has firsts m ↔ ((p : ℕ) × IsFirstOfName P all p m)
  pub order : (i j p q : ℕ) (x y : t.Method) → i < j → slice_get firsts i ≡ Some x → slice_get firsts j ≡ Some y
      → IsFirstOfName P all p x → IsFirstOfName P all q y → p < q

-- ---- traits and interfaces

abbrev pub AnyMethod : t.Method → Type 0
AnyMethod m = Unit {0}

mutual
  -- The methods of a trait or an interface: the first with each name, of its own methods and then those given by its
  -- `is` list.
  pub data HasMethods (file : t.File) : t.Entity → List t.Method → Type 0 where
    inherits : {e : t.Entity} {given ms : List t.Method} → Gives file e.provides given → AreFirstOfNames AnyMethod (e.methods ++ given) ms
        → HasMethods file e ms

  -- The methods of the entities with these names, one after the other.
  pub data Gives (file : t.File) : List Name → List t.Method → Type 0 where
    no_more : Gives file [] []
    more : {n : Name} {ns : List Name} {ms rest : List t.Method} (f : t.Entity) → Has file.entities f → f.name.text ≡ n.text → HasMethods file f ms
        → Gives file ns rest → Gives file (n ∷ ns) (ms ++ rest)

-- Another entity takes over a method that has a body, is allowed in the entity, and has none of the entity's own names.
abbrev pub MayTake : t.Entity → t.Method → Type 0
MayTake e m = (is_takable e.kind m ≡ true) × (Has (own_texts e) m.name.text → ⊥)

-- The members of an entity, in the order of their numbers. Those of a trait or an interface are its methods without
-- bodies. Another entity has its own methods, an added `create` if it is a class or an actor without a constructor, and
-- those that it takes over of the methods given by its `is` list: the first with each name.
pub data HasMembers (file : t.File) (e : t.Entity) : List Member → Type 0 where
  bodiless : {ms : List t.Method} → is_abstract e.kind ≡ true → HasMethods file e ms → HasMembers file e (map (λ m. written (without_body m)) ms)
  with_bodies : {given taken : List t.Method} → is_abstract e.kind ≡ false → Gives file e.provides given → AreFirstOfNames (MayTake e) given taken
      → HasMembers file e (map written e.methods ++ (one_if (has_added e) added ++ map written taken))

-- ---- which entity of a finished core represents an entity of a file

-- The capability of an entity's type: that of its declaration, for classes, traits and interfaces, or else `ref`.
abbrev pub IsOwnCap : EntityKind → Option Cap → Cap → Type 0
IsOwnCap e given k = k ≡ at_kind (unwrap_or given cap.Ref) cap.Tag cap.Val (unwrap_or given cap.Ref) (unwrap_or given cap.Ref) e

pub record FieldStands (core : CoreData) (f : t.Field) (x : FieldInfo) : Type 0 where
  pub name : slice_get core.names x.name ≡ Some f.name.text
  pub fixed : x.fixed ≡ f.fixed
  pub ty : IsType core f.ty (x.entity, x.cap)

-- Entity number n of the core, which is x, represents an entity of the file.
pub record EntityStands (file : t.File) (core : CoreData) (n : ℕ) (e : t.Entity) (x : EntityDef) : Type 0 where
  pub kind : x.kind ≡ e.kind
  pub cap : IsOwnCap e.kind e.cap x.cap
  pub name : x.name ≡ e.name.text
  pub span : x.span ≡ e.name.span
  -- what its `is` list names
  pub provides : Match (EntityHasName core) e.provides x.provides
  pub fields : Match (FieldStands core) e.fields x.fields
  -- its methods are its members, in order
  pub members : List Member
  pub are_members : HasMembers file e members
  pub count : x.methods ≡ length members
  pub methods : Each (λ j member. (y : Method) × (slice_get core.methods (x.first_method + j) ≡ Some y) × MethodStands core members n e member (x.first_method + j) y) members

-- This is the core of this file.
pub record IsCoreOf (file : t.File) (core : CoreData) : Type 0 where
  -- there are the built-in entities and those of the file, and above each is what chains of `is` lead to
  pub above : IsTransitiveClosure file (map (λ x. x.above) core.entities)
  -- the names and declarations of the file have no fault
  pub names_are_right : NamesAreRight file
  -- the texts, each once
  pub texts : AreFirsts (needed_texts file) core.names
  pub few_texts : length core.names < 2 ^ 32
  -- the entities: the built-in ones, and then those of the file in the order of the text, each with its methods
  pub built_in : HasBuiltIn core
  pub entities : Each (λ i e. (x : EntityDef) × (slice_get core.entities (first_own + i) ≡ Some x) × EntityStands file core (first_own + i) e x) file.entities
  -- the methods of the entities, and the slots and nodes of the methods, are adjacent and in order, and there are no
  -- others
  pub methods_follow : Follow 0 (map (λ x. (x.first_method, x.methods)) core.entities) (length core.methods)
  pub slots_follow : Follow 0 (map (λ x. (x.first_slot, x.slots)) core.methods) (length core.slots)
  pub nodes_follow : Follow 0 (map (λ x. (x.first_node, node_end x.first_node x.body - x.first_node)) core.methods) (length core.nodes)
  -- no more methods than the limit, besides the built-in one, and no more nodes
  pub few_methods : length core.methods ≤ 1 + method_limit
  pub few_nodes : length core.nodes ≤ node_limit
