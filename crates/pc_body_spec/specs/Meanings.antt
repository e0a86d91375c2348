-- The numbers in a rose refer to something that exists.
use Rattle.std.specs.Prelude.{◌≡◌, ◌⊎◌, ℕ, ◌<◌, ◌≤◌, true, length, Some, slice_get}
use Rattle.pc_tree.specs.{declared.kinds.EntityKind.EntityKind, Kinds.{none_entity, first_own}}
use Rattle.pc_core.specs.{declared.nodes.NodeKind.NodeKind, Nodes.is_binary}
use Rattle.pc_base.specs.Lists.{Has}
use Rattle.pc_body_spec.specs.Bodies.{Rose, Roses, rose, more, no_roses, Context, KnownEntity, Constructor}
use Rattle.pc_tree.specs.declared.kinds.EntityKind.TheVariants as kind
use Rattle.pc_core.specs.declared.nodes.NodeKind.TheVariants as node

-- Each node of a rose has this property.
abbrev mutual
  pub Every : (NodeKind → Type 0) → Rose → Type 0
  Every P (rose k s d rs) = P k × EveryOf P rs

  pub EveryOf : (NodeKind → Type 0) → Roses → Type 0
  EveryOf P no_roses = Unit {0}
  EveryOf P (more r rs) = Every P r × EveryOf P rs

-- Entity number e is of this kind.
abbrev pub IsOfKind : Context → EntityKind → ℕ → Type 0
IsOfKind c k e = (x : KnownEntity) × (slice_get c.entities e ≡ Some x) × (x.kind ≡ k)

-- The number of a constructor of an entity of this kind.
abbrev pub IsConstructor : Context → EntityKind → ℕ → Type 0
IsConstructor c k m = (e : ℕ) × (x : KnownEntity) × (slice_get c.entities e ≡ Some x) × (x.kind ≡ k) × ((y : Constructor) × Has x.constructors y × (y.method ≡ m))

-- A node of this kind refers to something that exists: None or a primitive of the program, a constructor of a class or
-- of an actor, or a text; an operator is one without a node kind of its own. There is no body among them.
abbrev pub NamesWhatIsThere : Context → NodeKind → Type 0
NamesWhatIsThere c (node.Prim e) = (e ≡ none_entity) ⊎ ((first_own ≤ e) × IsOfKind c kind.Primitive e)
NamesWhatIsThere c (node.New m) = IsConstructor c kind.Class m
NamesWhatIsThere c (node.Spawn m) = IsConstructor c kind.Actor m
NamesWhatIsThere c (node.Field f) = f < length c.texts
NamesWhatIsThere c (node.SetField f) = f < length c.texts
NamesWhatIsThere c (node.Call f) = f < length c.texts
NamesWhatIsThere c (node.Binary o) = is_binary o ≡ true
NamesWhatIsThere c node.Body = ⊥
NamesWhatIsThere c k = Unit {0}
