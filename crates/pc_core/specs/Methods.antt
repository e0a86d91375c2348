-- When a method fits its core.
use Rattle.std.specs.Prelude.{◌≡◌, ◌⊎◌, ℕ, ◌+◌, ◌<◌, ◌≤◌, Bool, true, false, List, [], ◌∷◌, ◌++◌, map, length, Some, IsSome, slice_get}
use Rattle.pc_base.specs.{Limits.slot_limit, Lists.{Each, Has}}
use Rattle.pc_caps.specs.{Tables.unalias, declared.capability.Cap.Cap}
use Rattle.pc_tree.specs.{declared.kinds.EntityKind.EntityKind, declared.kinds.MethodWord.MethodWord, Kinds.{is_abstract, may_stand, none_entity}}
use Rattle.pc_core.specs.{declared.declarations.EntityDef.EntityDef, declared.declarations.Method.Method, declared.declarations.MethodKind.MethodKind, declared.nodes.Slot.Slot, declared.nodes.SlotKind.SlotKind, declared.nodes.Node.Node, declared.nodes.NodeKind.NodeKind, CoreData.{CoreData, own_slots}, Further.own_nodes, Entities.{word_kind, this_slot, param_slot}}
use Rattle.pc_caps.specs.declared.capability.Cap.TheVariants as cap
use Rattle.pc_caps.specs.declared.capability.Form.TheVariants as form
use Rattle.pc_core.specs.declared.declarations.MethodKind.TheVariants as method
use Rattle.pc_core.specs.declared.nodes.SlotKind.TheVariants as slot
use Rattle.pc_core.specs.declared.nodes.NodeKind.TheVariants as node

-- A method of this kind may be in such an entity: a keyword that is allowed there gives it.
abbrev pub StandsIn : MethodKind → EntityKind → Type 0
StandsIn m e = (w : MethodWord) × (may_stand e w ≡ true) × (word_kind e w ≡ m)

-- A behaviour returns None, and a constructor a new object of its entity: an actor's as `tag`, a class's as a value of
-- some capability that no place holds. In all three `this` is `ref`.
abbrev pub ResultFits : MethodKind → Method → Type 0
ResultFits method.Fun x = Unit {0}
ResultFits method.Be x = (x.receiver ≡ cap.Ref) × (x.result ≡ (none_entity, form.Val))
ResultFits method.New x = (x.receiver ≡ cap.Ref) × (x.result.0 ≡ x.entity) × ((k : Cap) × (x.result.1 ≡ unalias k))
ResultFits method.Spawn x = (x.receiver ≡ cap.Ref) × (x.result ≡ (x.entity, form.Tag))

abbrev pub is_local : SlotKind → Bool
is_local slot.Let = true
is_local slot.Var = true
is_local slot.This = false
is_local slot.Param = false

-- A node of this kind uses the slot with index s.
abbrev pub UsesSlot : ℕ → NodeKind → Type 0
UsesSlot s (node.Local i) = i ≡ s
UsesSlot s (node.Consume i) = i ≡ s
UsesSlot s (node.Assign i) = i ≡ s
UsesSlot s k = ⊥

-- The slot with index s in method m is that of a local. It is defined once, by an item of a sequence, at its own depth,
-- and is used only in later items of that sequence. Since nodes are in post-order, those are the nodes between the item
-- and the sequence.
pub record LocalFits (core : CoreData) (m s : ℕ) (x : Slot) : Type 0 where
  pub kind : is_local x.kind ≡ true
  pub method : x.method ≡ m
  pub written : (ty : ℕ × Cap) → x.written ≡ Some ty → ty.0 < length core.entities
  -- its definition
  pub define : ℕ
  pub definition : Node
  pub is_definition : slice_get core.nodes define ≡ Some definition
  pub defines : definition.kind ≡ node.Define s
  pub own : definition.method ≡ m
  pub depth : definition.depth ≡ x.depth
  -- the sequence of which that is an item
  pub sequence : ℕ
  pub around : Node
  pub is_around : slice_get core.nodes sequence ≡ Some around
  pub is_sequence : around.kind ≡ node.Seq
  pub item : Has around.children define
  -- there is no other definition, and every use comes after it
  pub only : Each (λ n y. y.method ≡ m → y.kind ≡ node.Define s → n ≡ define) core.nodes
  pub later : Each (λ n y. y.method ≡ m → UsesSlot s y.kind → (define < n) × (n < sequence)) core.nodes

-- The slots of method m: `this`, then the parameters, then the locals.
abbrev pub SlotsFit : CoreData → ℕ → Method → Type 0
SlotsFit core m x =
    (locals : List Slot) × (own_slots core x ≡ this_slot m x ∷ map (param_slot m) x.params ++ locals)
    × Each (λ i s. LocalFits core m (1 + length x.params + i) s) locals

-- These nodes, numbered from n on, are in post-order. `waiting` is the list of the nodes without a parent so far: each
-- node's children are the last of that list, in order, and the node takes their place. `last` is the list after all
-- these nodes.
abbrev pub PostOrder : ℕ → List Node → List ℕ → List ℕ → Type 0
PostOrder n [] waiting last = waiting ≡ last
PostOrder n (x ∷ xs) waiting last = (rest : List ℕ) × (waiting ≡ rest ++ x.children) × PostOrder (n + 1) xs (rest ++ n ∷ []) last

-- The nodes of method m are in post-order up to its body, which is their only root.
pub record BodyFits (core : CoreData) (m : ℕ) (x : Method) (body : ℕ) : Type 0 where
  pub from : x.first_node ≤ body
  pub own : Each (λ i y. y.method ≡ m) (own_nodes core x)
  pub post_order : PostOrder x.first_node (own_nodes core x) [] (body ∷ [])
  pub root : Node
  pub is_root : slice_get core.nodes body ≡ Some root
  pub is_body : root.kind ≡ node.Body
  pub depth : root.depth ≡ 0
  pub one : Each (λ i y. y.kind ≡ node.Body → x.first_node + i ≡ body) (own_nodes core x)

-- Method number m fits the core.
pub record MethodFits (core : CoreData) (m : ℕ) (x : Method) : Type 0 where
  -- the entity that it belongs to
  pub owner : EntityDef
  pub is_owner : slice_get core.entities x.entity ≡ Some owner
  pub placed : StandsIn x.kind owner.kind
  -- its declaration
  pub name : x.name < length core.names
  pub params : Each (λ i p. p.entity < length core.entities) x.params
  pub result : x.result.0 < length core.entities
  pub result_fits : ResultFits x.kind x
  -- its slots
  pub few_slots : x.slots ≤ slot_limit
  pub slots : (m ≡ 0) ⊎ SlotsFit core m x
  -- its nodes
  pub has_body : (m ≡ 0) ⊎ (is_abstract owner.kind ≡ true) ⊎ IsSome x.body
  pub body : (b : ℕ) → x.body ≡ Some b → BodyFits core m x b
