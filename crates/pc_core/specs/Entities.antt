-- The built-in entities, chains of `is` in a core, the kinds of methods, and the slots that a declaration gives; when two
-- entities are the same, or the first is declared by `is` to be the second; and when an entity has what a trait or an
-- interface declares.
use Rattle.std.specs.Prelude.{◌≡◌, ℕ, true, List, [], ◌∷◌, Some, None, slice_get, codes, ◌⊎◌, length}
use Rattle.pc_base.specs.{declared.span.Span.Span, Lists.{Has, Each}}
use Rattle.pc_caps.specs.{declared.capability.Cap.Cap, Tables.{IsBelow, unalias}}
use Rattle.pc_tree.specs.{declared.kinds.EntityKind.EntityKind, Kinds.{none_entity, u64_entity, bool_entity, string_entity, env_entity, out_stream_entity, at_kind}, declared.kinds.MethodWord.MethodWord}
use Rattle.pc_core.specs.{declared.declarations.EntityDef.EntityDef, declared.declarations.FieldInfo.FieldInfo, declared.declarations.Method.Method, CoreData.{CoreData, own_methods, IsMethod}, declared.declarations.MethodKind.MethodKind, declared.declarations.ParamInfo.ParamInfo, declared.nodes.Slot.Slot}
use Rattle.pc_caps.specs.declared.capability.Cap.TheVariants as cap
use Rattle.pc_caps.specs.declared.capability.Form.TheVariants as form
use Rattle.pc_tree.specs.declared.kinds.EntityKind.TheVariants as kind
use Rattle.pc_core.specs.declared.declarations.MethodKind.TheVariants as method
use Rattle.pc_tree.specs.declared.kinds.MethodWord.TheVariants as word
use Rattle.pc_core.specs.declared.nodes.SlotKind.TheVariants as slot

-- Built-in parts have no place in the text.
abbrev pub nowhere : Span
nowhere = record { start = 0; end = 0 }

-- A built-in entity, with no names after `is`.
abbrev pub built_in : EntityKind → Cap → List ℕ → List FieldInfo → ℕ → EntityDef
built_in k c name fields methods = record { kind = k; cap = c; name = name; span = nowhere; provides = []; above = []; fields = fields; first_method = 0; methods = methods }

-- A built-in primitive with this name.
abbrev pub built_in_value : List ℕ → EntityDef
built_in_value name = built_in kind.Primitive cap.Val name [] 0

-- The only field of the environment, the stream of the program's output.
abbrev pub out_field : ℕ → FieldInfo
out_field name = record { name = name; fixed = true; entity = out_stream_entity; cap = cap.Tag }

-- The only method of the stream, a behaviour that takes a text.
abbrev pub print_method : ℕ → Method
print_method name = record {
  entity = out_stream_entity;
  name = name;
  kind = method.Be;
  receiver = cap.Ref;
  params = record { entity = string_entity; cap = cap.Val; span = nowhere } ∷ [];
  result = (none_entity, form.Val);
  first_slot = 0;
  slots = 0;
  first_node = 0;
  body = None;
  span = nowhere;
}

-- The first six entities and the first method are the built-in ones.
pub record HasBuiltIn (core : CoreData) : Type 0 where
  pub none : slice_get core.entities none_entity ≡ Some (built_in_value (codes "None"))
  pub numbers : slice_get core.entities u64_entity ≡ Some (built_in_value (codes "U64"))
  pub truths : slice_get core.entities bool_entity ≡ Some (built_in_value (codes "Bool"))
  pub texts : slice_get core.entities string_entity ≡ Some (built_in_value (codes "String"))
  pub out : ℕ
  pub out_name : slice_get core.names out ≡ Some (codes "out")
  pub env : slice_get core.entities env_entity ≡ Some (built_in kind.Class cap.Val (codes "Env") (out_field out ∷ []) 0)
  pub stream : slice_get core.entities out_stream_entity ≡ Some (built_in kind.Actor cap.Tag (codes "OutStream") [] 1)
  pub print : ℕ
  pub print_name : slice_get core.names print ≡ Some (codes "print")
  pub method : slice_get core.methods 0 ≡ Some (print_method print)

-- The `is` list of an entity names another.
abbrev pub Provides : CoreData → (entity above : ℕ) → Type 0
Provides core a b = (x : EntityDef) × (slice_get core.entities a ≡ Some x) × Has x.provides b

-- A chain of one or more `is` leads from one entity to another.
pub data Leads (core : CoreData) : (entity above : ℕ) → Type 0 where
  one : {a b : ℕ} → Provides core a b → Leads core a b
  more : {a b c : ℕ} → Provides core a b → Leads core b c → Leads core a c

-- ---- the kinds of methods, and the slots that a declaration gives

-- The kind of a constructor, and of a method with this keyword: an actor's constructor spawns it.
abbrev pub constructor_kind : EntityKind → MethodKind
constructor_kind = at_kind method.New method.Spawn method.New method.New method.New

abbrev pub word_kind : EntityKind → MethodWord → MethodKind
word_kind e word.Fun = method.Fun
word_kind e word.Be = method.Be
word_kind e word.New = constructor_kind e

-- The slot of `this`, and that of a parameter.
abbrev pub this_slot : ℕ → Method → Slot
this_slot m x = record { method = m; kind = slot.This; depth = 0; written = Some (x.entity, x.receiver) }

abbrev pub param_slot : ℕ → ParamInfo → Slot
param_slot m p = record { method = m; kind = slot.Param; depth = 0; written = Some (p.entity, p.cap) }

-- The entities are the same, or a chain of `is` leads from the first to the second (nominal subtyping, in the Pony
-- tutorial).
abbrev pub Chain : CoreData → (entity above : ℕ) → Type 0
Chain core a b = (a ≡ b) ⊎ Leads core a b

-- ---- when an entity has what a trait or an interface declares

-- A parameter of the entity's method accepts whatever the declared method's parameter accepts. Here and below entities
-- are compared by chains of `is` alone, not by their methods.
abbrev pub ParamFits : CoreData → ParamInfo → ParamInfo → Type 0
ParamFits core p q = Chain core p.entity q.entity × IsBelow (unalias p.cap) (unalias q.cap)

-- The entity's method y may replace the method t of a trait or an interface.
pub record StandsFor (core : CoreData) (t y : Method) : Type 0 where
  pub count : length y.params ≡ length t.params
  pub receiver : IsBelow (unalias t.receiver) (unalias y.receiver)
  pub params : Each (λ i p. (q : ParamInfo) → slice_get y.params i ≡ Some q → ParamFits core p q) t.params
  pub entity : Chain core y.result.0 t.result.0
  pub form : IsBelow y.result.1 t.result.1

-- The entity has a method with the name and kind of method t, and it may replace t.
abbrev pub HasFor : CoreData → ℕ → Method → Type 0
HasFor core e t = (m : ℕ) × (y : Method) × (IsMethod core e t.name m) × (slice_get core.methods m ≡ Some y) × (y.kind ≡ t.kind) × StandsFor core t y

-- An entity conforms to a trait or an interface: it has a method for each of the methods there. Every entity conforms
-- to one without methods.
abbrev pub Conforms : CoreData → (entity above : ℕ) → Type 0
Conforms core e b = (x : EntityDef) → slice_get core.entities b ≡ Some x → Each (λ i t. HasFor core e t) (own_methods core x)
