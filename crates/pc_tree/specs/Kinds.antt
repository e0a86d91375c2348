-- What each kind of entity may contain (the Pony tutorial):
--
--               a capability   fields   `fun`   `be`   `new`                  bodies
--   class       yes            yes      yes     no     yes, with a capability  each method
--   actor       no             yes      yes     yes    yes                     each method
--   primitive   no             no       yes     no     no                      each method
--   trait       yes            no       yes     yes    no                      some methods
--   interface   yes            no       yes     yes    no                      some methods
use Rattle.std.specs.Prelude.{ℕ, ◌≡◌, Bool, true, false, List, [], Option, Some, None}
use Rattle.pc_caps.specs.declared.capability.Cap.{Cap}
use Rattle.pc_tree.specs.{declared.kinds.EntityKind.EntityKind, declared.kinds.MethodWord.MethodWord}
use Rattle.pc_tree.specs.declared.kinds.EntityKind.TheVariants as kind
use Rattle.pc_tree.specs.declared.kinds.MethodWord.TheVariants as word
use Rattle.pc_tree.specs.Tree as t

-- ---- the entities of the language, by their numbers; those of a file come after them

abbrev pub none_entity : ℕ
none_entity = 0

abbrev pub u64_entity : ℕ
u64_entity = 1

abbrev pub bool_entity : ℕ
bool_entity = 2

abbrev pub string_entity : ℕ
string_entity = 3

abbrev pub env_entity : ℕ
env_entity = 4

abbrev pub out_stream_entity : ℕ
out_stream_entity = 5

-- The number of the first entity of the file, which is the number of built-in ones.
abbrev pub first_own : ℕ
first_own = 6

-- ---- what each kind of entity may contain

-- A row of a table: one entry for each kind, in the order class, actor, primitive, trait, interface.
abbrev pub at_kind : {T : Type 0} → T → T → T → T → T → EntityKind → T
at_kind class actor primitive trait interface kind.Class = class
at_kind class actor primitive trait interface kind.Actor = actor
at_kind class actor primitive trait interface kind.Primitive = primitive
at_kind class actor primitive trait interface kind.Trait = trait
at_kind class actor primitive trait interface kind.Interface = interface

-- A trait or an interface: it only says which methods others have, and has no objects of its own.
abbrev pub is_abstract : EntityKind → Bool
is_abstract = at_kind false false false true true

-- A capability may be written after the keyword of the entity.
abbrev pub may_have_cap : EntityKind → Bool
may_have_cap = at_kind true false false true true

abbrev pub may_have_fields : EntityKind → Bool
may_have_fields = at_kind true true false false false

-- Behaviours may be in actors, traits and interfaces, and constructors in classes and actors.
abbrev pub may_stand : EntityKind → MethodWord → Bool
may_stand e word.Fun = true
may_stand e word.Be = at_kind false true false true true e
may_stand e word.New = at_kind true true false false false e

-- A capability may be written after the keyword of the method.
abbrev pub may_have_method_cap : EntityKind → MethodWord → Bool
may_have_method_cap e word.Fun = true
may_have_method_cap e word.Be = false
may_have_method_cap e word.New = at_kind true false false false false e

-- ---- the same for the parts of a tree

-- A capability is written only if one may be.
abbrev pub CapIf : Bool → Option Cap → Type 0
CapIf true c = Unit {0}
CapIf false c = c ≡ None

abbrev pub FieldsIf : Bool → List t.Field → Type 0
FieldsIf true fs = Unit {0}
FieldsIf false fs = fs ≡ []

-- A body is optional in a trait or an interface, and required elsewhere.
abbrev pub BodyUnless : Bool → Option t.Seq → Type 0
BodyUnless true b = Unit {0}
BodyUnless false None = ⊥
BodyUnless false (Some b) = Unit {0}
