-- The core of a file, made member by member.
use Rattle.std.specs.Prelude.{ℕ, suc, ◌+◌, List, [], ◌∷◌, ◌++◌, length, Option, codes, if◌then◌else◌, map, Bool, true, false, Some, None, Result, Ok, Err, ◌≡◌, ◌<◌, ◌^◌, slice_get, unwrap_or}
use Rattle.pc_caps.specs.{declared.capability.Cap.Cap, Tables.{plain, unalias}, declared.capability.Form.Form}
use Rattle.pc_tree.specs.{declared.kinds.EntityKind.EntityKind, declared.kinds.MethodWord.MethodWord, declared.written_names.TypeRef.TypeRef, declared.file.ParamDef.ParamDef, Kinds.{none_entity, first_own}}
use Rattle.pc_base.specs.Lists.{Text}
use Rattle.pc_names.specs.{Faults.{built_in_texts, with_members, NamesData, Collected}, declared.fault.NameFault.NameFault}
use Rattle.pc_members.specs.{MemberLists.{with_names, is_constructor, members, member_span}, Members.{Member, member_text, field_texts, written, added, entity_names}, Edges.entity_numbers}
use Rattle.pc_body_spec.specs.{Bodies.{KnownEntity, Constructor, Context, PlacedLocal, number_of_text, text_from}, Slots.{Local, initial_locals, method_locals, slots_of, added_slots, entities_texts}, Fold.{type_of_name, local_slot}, Faults.{BodyNameFault, unknown, double, long_text}, Methods.{MethodFault, in_body, slots_full, nodes_full, MethodOutcome, method_of, added_of}}
use Rattle.pc_core.specs.{declared.declarations.Method.Method, declared.declarations.MethodKind.MethodKind, declared.declarations.ParamInfo.ParamInfo, declared.nodes.Slot.Slot, Entities.{constructor_kind, word_kind, param_slot, print_method, built_in, built_in_value, out_field}, declared.nodes.Node.Node, declared.declarations.EntityDef.EntityDef, declared.declarations.FieldInfo.FieldInfo, CoreData.CoreData}
use Rattle.pc_caps.specs.declared.capability.Cap.TheVariants as cap
use Rattle.pc_tree.specs.declared.kinds.EntityKind.TheVariants as kind
use Rattle.pc_tree.specs.Tree as t
use Rattle.pc_caps.specs.declared.capability.Form.TheVariants as form
use Rattle.pc_tree.specs.declared.kinds.MethodWord.TheVariants as word
use Rattle.pc_core.specs.declared.nodes.SlotKind.TheVariants as slot
use Rattle.pc_names.specs.declared.fault.NameFault.TheVariants as fault
use Rattle.pc_names.specs.declared.fault.Which.TheVariants as which

-- ---- texts

-- The texts of a file, each once, in the order in which they first appear: the built-in ones, then the names of the
-- fields and methods, entity by entity, and then the names after a `.`.
abbrev pub texts_of_file : t.File → List Text
texts_of_file file = with_names (with_members (with_names [] (built_in_texts ++ codes "apply" ∷ [])) file.entities) (entities_texts file.entities)

-- ---- entities

-- The capability of an entity's type if none is written: that of its declaration, for classes, traits and interfaces.
abbrev pub default_cap : EntityKind → Option Cap → Cap
default_cap kind.Class k = unwrap_or k cap.Ref
default_cap kind.Trait k = unwrap_or k cap.Ref
default_cap kind.Interface k = unwrap_or k cap.Ref
default_cap kind.Actor k = cap.Tag
default_cap kind.Primitive k = cap.Val

-- The constructors among these members, of which the first has this number among the methods.
abbrev pub constructors_from : ℕ → List Member → List Constructor
constructors_from at [] = []
constructors_from at (m ∷ ms) = if is_constructor m then record { name = member_text m; method = at } ∷ constructors_from (suc at) ms else constructors_from (suc at) ms

-- Entities whose methods start with this number.
abbrev pub known_from : List t.Entity → ℕ → List t.Entity → List KnownEntity
known_from all at [] = []
known_from all at (e ∷ es) =
    record { name = e.name.text; kind = e.kind; cap = default_cap e.kind e.cap; constructors = constructors_from at (members all e) }
    ∷ known_from all (at + length (members all e)) es

abbrev pub known_value : Text → KnownEntity
known_value text = record { name = text; kind = kind.Primitive; cap = cap.Val; constructors = [] }

-- The built-in entities.
abbrev pub built_in_known : List KnownEntity
built_in_known =
    known_value (codes "None") ∷ known_value (codes "U64") ∷ known_value (codes "Bool") ∷ known_value (codes "String")
    ∷ record { name = codes "Env"; kind = kind.Class; cap = cap.Val; constructors = [] }
    ∷ record { name = codes "OutStream"; kind = kind.Actor; cap = cap.Tag; constructors = [] } ∷ []

-- Method 0 is that of OutStream.
abbrev pub known_of : t.File → List KnownEntity
known_of file = built_in_known ++ known_from file.entities 1 file.entities

-- ---- all members of a file, in the order of their numbers

-- A member, with its entity and the entity's number.
pub record Owned : Type 0 where
  pub number : ℕ
  pub owner : t.Entity
  pub member : Member

abbrev pub owned : ℕ → t.Entity → Member → Owned
owned at e m = record { number = at; owner = e; member = m }

-- The members of these entities, whose numbers start with this one.
abbrev pub members_from : List t.Entity → ℕ → List t.Entity → List Owned
members_from all at [] = []
members_from all at (e ∷ es) = map (owned at e) (members all e) ++ members_from all (suc at) es

-- ---- what a member declares: the types of its parameters and result, and its slots

-- A type among these entities. In a file whose names have no fault every type is there.
abbrev pub or_value : Option (ℕ × Cap) → ℕ × Cap
or_value None = (none_entity, cap.Val)
or_value (Some ty) = ty

abbrev pub type_in : List KnownEntity → TypeRef → ℕ × Cap
type_in entities ty = or_value (type_of_name 0 entities ty)

-- ---- parameters, receiver and result

abbrev pub param_of : List KnownEntity → ParamDef → ParamInfo
param_of entities p = record { entity = (type_in entities p.ty).0; cap = (type_in entities p.ty).1; span = p.name.span }

abbrev pub params_of : List KnownEntity → Member → List ParamInfo
params_of entities (written m) = map (param_of entities) m.params
params_of entities added = []

abbrev pub kind_of : EntityKind → Member → MethodKind
kind_of k (written m) = word_kind k m.word
kind_of k added = constructor_kind k

-- `this` is `box` in a function without a written capability, and `ref` in behaviours and constructors.
abbrev pub word_receiver : MethodWord → Option Cap → Cap
word_receiver word.Fun k = unwrap_or k cap.Box
word_receiver word.Be k = cap.Ref
word_receiver word.New k = cap.Ref

abbrev pub receiver_cap : Member → Cap
receiver_cap (written m) = word_receiver m.word m.cap
receiver_cap added = cap.Ref

-- With `^` no place holds the value yet.
abbrev pub result_form : Bool → Cap → Form
result_form true k = unalias k
result_form false k = plain k

abbrev pub written_result : List KnownEntity → Option TypeRef → ℕ × Form
written_result entities None = (none_entity, form.Val)
written_result entities (Some ty) = ((type_in entities ty).0, result_form ty.hat (type_in entities ty).1)

-- A new object of entity e: an actor is `tag`, and an object of a class has the capability that its constructor gives
-- it.
abbrev pub object_of : EntityKind → ℕ → Cap → ℕ × Form
object_of kind.Class e k = (e, unalias k)
object_of kind.Actor e k = (e, form.Tag)
object_of kind.Primitive e k = (e, unalias k)
object_of kind.Trait e k = (e, unalias k)
object_of kind.Interface e k = (e, unalias k)

abbrev pub word_result : List KnownEntity → EntityKind → ℕ → t.Method → MethodWord → ℕ × Form
word_result entities k e m word.Fun = written_result entities m.result
word_result entities k e m word.Be = (none_entity, form.Val)
word_result entities k e m word.New = object_of k e (unwrap_or m.cap cap.Ref)

-- The object made by an added `create` is isolated.
abbrev pub result_of : List KnownEntity → EntityKind → ℕ → Member → ℕ × Form
result_of entities k e (written m) = word_result entities k e m m.word
result_of entities k e added = object_of k e cap.Iso

-- ---- slots

abbrev pub placed_of : t.Entity → Member → List PlacedLocal
placed_of e (written m) = slots_of e.fields m
placed_of e added = added_slots e.fields

abbrev pub member_locals : t.Entity → Member → List Local
member_locals e (written m) = method_locals e.fields m
member_locals e added = initial_locals e.fields

-- What stays the same throughout the body of a member.
abbrev pub context_of : t.File → Owned → Context
context_of file o = record {
  fields = field_texts o.owner.fields;
  methods = map member_text (members file.entities o.owner);
  entities = known_of file;
  texts = texts_of_file file;
  slots = placed_of o.owner o.member;
}

-- The slots of a member that is method m: `this`, then the parameters, then the locals.
abbrev pub own_this : ℕ → Owned → Slot
own_this m o = record { method = m; kind = slot.This; depth = 0; written = Some (o.number, receiver_cap o.member) }

abbrev pub slots_from : Context → ℕ → Owned → List Slot
slots_from c m o = own_this m o ∷ map (param_slot m) (params_of c.entities o.member) ++ map (local_slot c m) (member_locals o.owner o.member)

-- The member as a method, with its first slot, the number of its slots, its first node and its body.
abbrev pub declared : Context → Owned → (first_slot slots first_node : ℕ) → (body : Option ℕ) → Method
declared c o first_slot slots first_node body = record {
  entity = o.number;
  name = number_of_text c (member_text o.member);
  kind = kind_of o.owner.kind o.member;
  receiver = receiver_cap o.member;
  params = params_of c.entities o.member;
  result = result_of c.entities o.owner.kind o.number o.member;
  first_slot = first_slot;
  slots = slots;
  first_node = first_node;
  body = body;
  span = member_span o.owner.name.span o.member;
}

-- ---- the methods of a program, with their slots and nodes, member by member

pub record Parts : Type 0 where
  pub methods : List Method
  pub slots : List Slot
  pub nodes : List Node

-- The fault of a file that corresponds to a fault of a body or method.
abbrev pub body_fault : BodyNameFault → NameFault
body_fault (unknown s) = fault.Unknown s
body_fault (double s) = fault.Double s
body_fault (long_text s) = fault.TooMany which.Text s

abbrev pub name_fault : MethodFault → NameFault
name_fault (in_body f) = body_fault f
name_fault (slots_full s) = fault.TooMany which.Slots s
name_fault (nodes_full s) = fault.TooMany which.Nodes s

-- The elaboration of a member that is method m, after the nodes of the methods before it.
abbrev pub outcome : Context → ℕ → t.Entity → Member → List Node → MethodOutcome
outcome c m e (written x) before = method_of c m e.fields x before
outcome c m e added before = added_of c m e.fields e.name.span before

-- The parts so far, followed by the member's method, its slots and its nodes.
abbrev pub joined_parts : Context → Parts → Owned → Option ℕ × List Node → Parts
joined_parts c p o r = record {
  methods = p.methods ++ declared c o (length p.slots) (length (slots_from c (length p.methods) o)) (length p.nodes) r.0 ∷ [];
  slots = p.slots ++ slots_from c (length p.methods) o;
  nodes = r.1;
}

abbrev pub with_outcome : Context → Parts → Owned → MethodOutcome → Result Parts NameFault
with_outcome c p o (Ok r) = Ok (joined_parts c p o r)
with_outcome c p o (Err f) = Err (name_fault f)

-- The number of a method is the number of methods before it.
abbrev pub and_member : Context → Parts → Owned → Result Parts NameFault
and_member c p o = with_outcome c p o (outcome c (length p.methods) o.owner o.member p.nodes)

-- The parts with all of these members, or the fault of the first member with one.
abbrev pub if_ok : {A B : Type 0} → Result A NameFault → (A → Result B NameFault) → Result B NameFault
if_ok (Ok a) f = f a
if_ok (Err e) f = Err e

abbrev pub and_members : t.File → Parts → List Owned → Result Parts NameFault
and_members file p [] = Ok p
and_members file p (o ∷ os) = if_ok (and_member (context_of file o) p o) (λ q. and_members file q os)

-- Method 0 is `print` of OutStream, whose name is text 1. It has no slots and no nodes.
abbrev pub built_in_parts : Parts
built_in_parts = record { methods = print_method 1 ∷ []; slots = []; nodes = [] }

abbrev pub parts_of : t.File → Result Parts NameFault
parts_of file = and_members file built_in_parts (members_from file.entities first_own file.entities)

-- ---- entities

-- The built-in entities, with OutStream's method. The name of Env's field is text 0.
abbrev pub built_ins : List EntityDef
built_ins =
    built_in_value (codes "None") ∷ built_in_value (codes "U64") ∷ built_in_value (codes "Bool") ∷ built_in_value (codes "String")
    ∷ built_in kind.Class cap.Val (codes "Env") (out_field 0 ∷ []) 0 ∷ built_in kind.Actor cap.Tag (codes "OutStream") [] 1 ∷ []

-- A field, with the number of its name among these texts, and its type among these entities.
abbrev pub core_field : List Text → List KnownEntity → t.Field → FieldInfo
core_field texts entities f = record { name = text_from 0 texts f.name.text; fixed = f.fixed; entity = (type_in entities f.ty).0; cap = (type_in entities f.ty).1 }

-- Entity number n of the file, whose methods start with this number.
abbrev pub core_entity : t.File → List (List ℕ) → (number first_method : ℕ) → t.Entity → EntityDef
core_entity file above n first_method e = record {
  kind = e.kind;
  cap = default_cap e.kind e.cap;
  name = e.name.text;
  span = e.name.span;
  provides = entity_numbers (entity_names file) e.provides;
  above = unwrap_or (slice_get above n) [];
  fields = map (core_field (texts_of_file file) (known_of file)) e.fields;
  first_method = first_method;
  methods = length (members file.entities e);
}

-- Entities of the file, the first of which has number n and this first method.
abbrev pub entities_from : t.File → List (List ℕ) → (number first_method : ℕ) → List t.Entity → List EntityDef
entities_from file above n at [] = []
entities_from file above n at (e ∷ es) = core_entity file above n at e ∷ entities_from file above (suc n) (at + length (members file.entities e)) es

-- ---- the core

abbrev pub core_with : t.File → List (List ℕ) → Parts → CoreData
core_with file above p = record {
  entities = built_ins ++ entities_from file above first_own 1 file.entities;
  methods = p.methods;
  slots = p.slots;
  nodes = p.nodes;
  names = texts_of_file file;
}

-- The core of a file, given what is above each of its entities, or the first fault of its members.
abbrev pub core_of : List (List ℕ) → t.File → Result CoreData NameFault
core_of above file = if_ok (parts_of file) (λ p. Ok (core_with file above p))

-- The names of the file have no fault, and this is its core. The number of its texts fits in 32 bits.
abbrev pub Stands : t.File → CoreData → Type 0
Stands file core = (names : NamesData) × Collected file names × (core_of names.above file ≡ Ok core) × (length (texts_of_file file) < 2 ^ 32)

-- The names have no fault, and this is the first fault of its members.
abbrev pub IsElabFault : t.File → NameFault → Type 0
IsElabFault file f = (names : NamesData) × Collected file names × (core_of names.above file ≡ Err f)
