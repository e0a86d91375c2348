-- What shows that no annotation is valid: the first node whose rule no note satisfies, or the first constructor after which a
-- field is not set.
use Rattle.std.specs.Prelude.{◌≡◌, ℕ, suc, ◌+◌, ◌<◌, ◌≤◌, List, length, Some, None, slice_get}
use Rattle.pc_sub.specs.Declarations.{DeclOk}
use Rattle.pc_core.specs.{declared.declarations.Method.Method, declared.nodes.Slot.Slot, declared.nodes.Node.Node, CoreData.CoreData}
use Rattle.pc_base.specs.Lists.{Each}
use Rattle.pc_masks.specs.{declared.mask.Mask.Mask, Masks.first}
use Rattle.pc_ann.specs.{declared.annotation.Note.Note, declared.annotation.Ann.Ann}
use Rattle.pc_valid.specs.{Words.{Slots, Masks, before, masks_after, IsConstructor, AllSet, StartsSet}, Valid.{Means, KeepsWritten, Meets, SetsFields}}
use Rattle.pc_core.specs.declared.nodes.NodeKind.TheVariants as node_kind

-- This note of the node with this number satisfies its rule, by the types of the slots and by the notes of the node's
-- children, in order.
abbrev pub Holds : CoreData → Slots → Note → List Note → ℕ → Type 0
Holds core slots own notes number = (node : Node) × (slice_get core.nodes number ≡ Some node) × Means core slots own notes node own.rule node.kind

-- A method's body is reached by the masks with which the method starts, and a first child by those that reach its parent.
-- An `else` branch is reached by the masks after the condition, and any other child by those after the child before it.
pub data Reaches (core : CoreData) (ann : Ann) : ℕ → Masks → Type 0 where
  body : {number : ℕ} {set : Mask} (node : Node) (home : Method) → slice_get core.nodes number ≡ Some node → node.kind ≡ node_kind.Body
      → slice_get core.methods node.method ≡ Some home → StartsSet core home set → Reaches core ann number (first (1 + length home.params), set)
  first_child : {number : ℕ} {masks : Masks} (parent : ℕ) (node : Node) → slice_get core.nodes parent ≡ Some node
      → slice_get node.children 0 ≡ Some number → Reaches core ann parent masks → Reaches core ann number masks
  else_branch : {number : ℕ} (parent condition : ℕ) (node : Node) (note : Note) → slice_get core.nodes parent ≡ Some node → node.kind ≡ node_kind.If
      → slice_get node.children 2 ≡ Some number → slice_get node.children 0 ≡ Some condition → slice_get ann.notes condition ≡ Some note
      → Reaches core ann number (masks_after note)
  next_child : {number : ℕ} (parent child index : ℕ) (node : Node) (note : Note) → slice_get core.nodes parent ≡ Some node
      → (node.kind ≡ node_kind.If → index ≡ 1 → ⊥) → slice_get node.children (suc index) ≡ Some number → slice_get node.children index ≡ Some child
      → slice_get ann.notes child ≡ Some note → Reaches core ann number (masks_after note)

-- The node with this number has a note that satisfies its rule, and the masks before it are those that reach the node.
abbrev pub MeetsReached : CoreData → Ann → ℕ → Type 0
MeetsReached core ann number =
    (node : Node) × (own : Note) × (slice_get core.nodes number ≡ Some node) × (slice_get ann.notes number ≡ Some own)
    × Meets core ann.slots ann.notes node own × Reaches core ann number (before own)

-- The node defines a slot without a written type, and this is the slot's number.
abbrev pub Infers : CoreData → Node → ℕ → Type 0
Infers core node number =
    (own : ℕ) × (home : Method) × (slot : Slot) × (node.kind ≡ node_kind.Define own) × (slice_get core.methods node.method ≡ Some home)
    × (number ≡ home.first_slot + own) × (slice_get core.slots number ≡ Some slot) × (slot.written ≡ None)

-- The types of the slots differ at most for the slot that the node defines without a written type.
abbrev pub DifferAt : CoreData → Node → Slots → Slots → Type 0
DifferAt core node old new = (length new ≡ length old) × ((number : ℕ) → (Infers core node number → ⊥) → slice_get new number ≡ slice_get old number)

-- Before this node there is no fault, and no note with the masks that reach it satisfies a rule, whatever the type of
-- the slot that the node defines, if none is written.
pub record NoRule (core : CoreData) (ann : Ann) (number : ℕ) : Type 0 where
  pub declarations : DeclOk core
  pub slots : length ann.slots ≡ length core.slots
  pub written : KeepsWritten core ann
  pub nodes_before : (earlier : ℕ) → earlier < number → MeetsReached core ann earlier
  pub sets : Each (λ index home. ((body : ℕ) → home.body ≡ Some body → body < number) → SetsFields core ann home) core.methods
  pub at : Node
  pub is_at : slice_get core.nodes number ≡ Some at
  pub masks : Masks
  pub reaches : Reaches core ann number masks
  pub none : (own : Note) (slots : Slots) → DifferAt core at ann.slots slots → before own ≡ masks → Meets core slots ann.notes at own → ⊥

-- After the body of this constructor some field is not set, and there is no fault before it.
pub record Unset (core : CoreData) (ann : Ann) (number : ℕ) : Type 0 where
  pub declarations : DeclOk core
  pub slots : length ann.slots ≡ length core.slots
  pub written : KeepsWritten core ann
  pub method : Method
  pub is_method : slice_get core.methods number ≡ Some method
  pub constructor : IsConstructor method.kind
  pub body : ℕ
  pub is_body : method.body ≡ Some body
  pub nodes_before : (earlier : ℕ) → earlier ≤ body → MeetsReached core ann earlier
  pub note : Note
  pub is_note : slice_get ann.notes body ≡ Some note
  pub not_all_set : AllSet core method.entity note.set_after → ⊥
  pub sets : Each (λ index home. index < number → SetsFields core ann home) core.methods
