-- The first fault of a file's members: of their bodies, their slots and their nodes.
use Rattle.std.specs.{Prelude.{◌≡◌, ◌≤◌, ℕ, suc, ◌+◌, ◌-◌, List, [], ◌∷◌, ◌++◌, map, filter, flat_map, drop, length, Some, None, slice_get, nat_lt, codes}, Option.option_map_or}
use Rattle.pc_base.specs.{Limits.{method_limit, node_limit, slot_limit}, Lists.{Has, Text, one_if}}
use Rattle.pc_tree.specs.{declared.file.ParamDef.ParamDef, declared.kinds.EntityKind.EntityKind, declared.written_names.Name.Name}
use Rattle.pc_members.specs.{Members.{Member, written, added, member_text, field_texts, built_in_names}, MemberLists.is_constructor}
use Rattle.pc_names.specs.declared.fault.NameFault.{NameFault}
use Rattle.pc_body_spec.specs.{Bodies.{Context, KnownEntity, Rose, rose, Roses, no_roses, more, body_of}, Slots.{Local, method_locals}, Faults.{BodyNameFault, unknown, double, long_text, body_faults}}
use Rattle.pc_core_relation.specs.Files.{NamesAreRight, HasMembers}
use Rattle.pc_tree.specs.Tree as t
use Rattle.pc_caps.specs.declared.capability.Cap.TheVariants as cap
use Rattle.pc_tree.specs.declared.kinds.EntityKind.TheVariants as kind
use Rattle.pc_tree.specs.declared.kinds.MethodWord.TheVariants as word
use Rattle.pc_names.specs.declared.fault.NameFault.TheVariants as fault
use Rattle.pc_names.specs.declared.fault.Which.TheVariants as which

-- ---- the bodies of a file's members, and what they know

-- An entity of a file, and its members.
pub record Owner : Type 0 where
  pub entity : t.Entity
  pub members : List Member

-- An entity by its name, its kind and the names of its constructors. No fault depends on its capability, or on numbers.
abbrev pub known_by_name : Text → EntityKind → List Member → KnownEntity
known_by_name name kind ms = record { name = name; kind = kind; cap = cap.Val; constructors = map (λ m. record { name = member_text m; method = 0 }) (filter is_constructor ms) }

-- What the bodies of a member of one of these entities know, which are all of a file. Of the built-in ones only None is
-- a value, that of a primitive.
abbrev pub known_in : List Owner → Owner → Context
known_in all o = record {
  fields = field_texts o.entity.fields;
  methods = map member_text o.members;
  entities = map (λ name. known_by_name name kind.Primitive []) built_in_names ++ map (λ (x : Owner). known_by_name x.entity.name.text x.entity.kind x.members) all;
  texts = [];
  slots = [];
}

-- A member as it is written. An added `create` counts as if `new create() => None` were written at the name of its
-- entity.
abbrev pub in_full : Name → Member → t.Method
in_full entity (written m) = m
in_full entity added = record {
  word = word.New;
  cap = None;
  name = record { text = codes "create"; span = entity.span };
  params = [];
  result = None;
  body = Some (t.seq (t.item (t.plain (t.type_name (record { text = codes "None"; span = entity.span }))) t.no_items) entity.span);
}

-- A member as it is written, with the fields of its entity, and what its body knows.
pub record Bodied : Type 0 where
  pub method : t.Method
  pub fields : List t.Field
  pub context : Context

-- Those of these entities, in the order of their numbers.
abbrev pub bodies_of : List Owner → List Bodied
bodies_of all = flat_map (λ (o : Owner). map (λ m. record { method = in_full o.entity.name m; fields = o.entity.fields; context = known_in all o }) o.members) all

-- ---- how many nodes a body has

abbrev mutual
  pub node_count : Rose → ℕ
  node_count (rose k s d rs) = suc (nodes_count rs)

  pub nodes_count : Roses → ℕ
  nodes_count no_roses = 0
  nodes_count (more r rs) = node_count r + nodes_count rs

abbrev pub nodes_in : Bodied → ℕ
nodes_in b = option_map_or node_count (body_of b.context b.fields b.method) 0

-- ---- faults

abbrev pub fault_of_body : BodyNameFault → NameFault
fault_of_body (unknown s) = fault.Unknown s
fault_of_body (double s) = fault.Double s
fault_of_body (long_text s) = fault.TooMany which.Text s

-- The names of its slots, after that of `this`.
abbrev pub names_of_slots : Bodied → List Name
names_of_slots b = map (λ (p : ParamDef). p.name) b.method.params ++ map (λ (l : Local). l.name) (method_locals b.fields b.method)

-- The faults of a member, given how many nodes there are up to its last: those of its body, then each name of a slot
-- past the limit, and then its own name if there are too many nodes.
abbrev pub faults_of_member : Bodied → (nodes : ℕ) → List NameFault
faults_of_member b nodes =
    map fault_of_body (body_faults b.context b.fields b.method)
    ++ (map (λ (n : Name). fault.TooMany which.Slots n.span) (drop (slot_limit - 1) (names_of_slots b))
    ++ one_if (nat_lt node_limit nodes) (fault.TooMany which.Nodes b.method.name.span))

-- The faults of members, one member after the other, after so many nodes.
abbrev pub faults_after : (nodes : ℕ) → List Bodied → List NameFault
faults_after nodes [] = []
faults_after nodes (b ∷ bs) = faults_of_member b (nodes + nodes_in b) ++ faults_after (nodes + nodes_in b) bs

-- The names and declarations of the file have no fault, and its members are not too many. Of the faults of its members
-- this is the first.
pub record IsMemberFault (file : t.File) (f : NameFault) : Type 0 where
  pub names_are_right : NamesAreRight file
  pub owners : List Owner
  pub are_entities : map (λ (o : Owner). o.entity) owners ≡ file.entities
  pub are_members : (o : Owner) → Has owners o → HasMembers file o.entity o.members
  pub few_members : length (bodies_of owners) ≤ method_limit
  pub is_first : slice_get (faults_after 0 (bodies_of owners)) 0 ≡ Some f
