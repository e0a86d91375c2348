-- Valid annotations as computed, and what shows that there is none: the code is proved to compute this, and the laws of
-- `specs/Statements.antt` state that it is what `pc_valid` defines by records.
use Rattle.std.specs.Prelude.{◌≡◌, ℕ, zero, suc, ◌+◌, ◌<◌, ◌≤◌, Bool, true, false, length, Some, None, slice_get}
use Rattle.pc_ann.specs.{declared.annotation.Rule.Rule, declared.annotation.Note.Note, declared.annotation.Ann.Ann}
use Rattle.pc_sub.specs.Declarations.{DeclOk}
use Rattle.pc_rules.specs.{Parts.{constructs, full}, Control.start_set, Rules.{says, IsSaid, NoteIsSaid}}
use Rattle.pc_valid.specs.{Words.{Masks, Slots, before, masks_after}, Valid.KeepsWritten, NoRule.DifferAt}
use Rattle.pc_core.specs.{declared.declarations.Method.Method, declared.nodes.Node.Node, declared.nodes.NodeKind.NodeKind, CoreData.CoreData}
use Rattle.pc_base.specs.Lists.{Each}
use Rattle.pc_masks.specs.Masks.{first}
use Rattle.pc_core.specs.declared.nodes.NodeKind.TheVariants as node

-- If this method is a constructor, the mask after its body is full.
abbrev pub FillsFields : CoreData → Ann → Method → Type 0
FillsFields core ann x =
    constructs x.kind ≡ true → (b : ℕ) (t : Note) → x.body ≡ Some b → slice_get ann.notes b ≡ Some t → full core x.entity t.set_after ≡ true

-- A valid annotation: each note is the conclusion of its rule.
pub record Checks (core : CoreData) (ann : Ann) : Type 0 where
  pub declarations : DeclOk core
  pub slots : length ann.slots ≡ length core.slots
  pub notes : length ann.notes ≡ length core.nodes
  pub written : KeepsWritten core ann
  pub rules : (n : ℕ) → n < length core.nodes → NoteIsSaid core ann n
  pub sets : Each (λ m x. FillsFields core ann x) core.methods

-- ---- the masks that reach a node

-- The child with index i is an `else` branch.
abbrev pub is_else : NodeKind → ℕ → Bool
is_else node.If (suc (suc zero)) = true
is_else k i = false

-- A method's body starts from the masks of the method, and a first child from those of its parent. An `else` branch starts
-- from those after the condition, and any other child from those after the child before it.
pub data StartsFrom (core : CoreData) (ann : Ann) : ℕ → Masks → Type 0 where
  body : {n : ℕ} (x : Node) (f : Method) → slice_get core.nodes n ≡ Some x → x.kind ≡ node.Body → slice_get core.methods x.method ≡ Some f
      → StartsFrom core ann n (first (1 + length f.params), start_set core f)
  first_child : {n : ℕ} {m : Masks} (p : ℕ) (x : Node) → slice_get core.nodes p ≡ Some x → slice_get x.children 0 ≡ Some n
      → StartsFrom core ann p m → StartsFrom core ann n m
  else_branch : {n : ℕ} (p c : ℕ) (x : Node) (t : Note) → slice_get core.nodes p ≡ Some x → x.kind ≡ node.If → slice_get x.children 2 ≡ Some n
      → slice_get x.children 0 ≡ Some c → slice_get ann.notes c ≡ Some t → StartsFrom core ann n (masks_after t)
  next_child : {n : ℕ} (p c i : ℕ) (x : Node) (t : Note) → slice_get core.nodes p ≡ Some x → is_else x.kind (suc i) ≡ false
      → slice_get x.children (suc i) ≡ Some n → slice_get x.children i ≡ Some c → slice_get ann.notes c ≡ Some t
      → StartsFrom core ann n (masks_after t)

-- ---- that no annotation is valid

-- Node n has a note that is the conclusion of its rule, and the node starts from the masks before the note.
abbrev pub GoesWell : CoreData → Ann → ℕ → Type 0
GoesWell core ann n =
    (x : Node) × (t : Note) × (slice_get core.nodes n ≡ Some x) × (slice_get ann.notes n ≡ Some t) × IsSaid core ann x t
    × StartsFrom core ann n (before t)

-- With the masks from which node n starts, no rule applies to it, whatever the type of its slot if that follows from
-- it.
pub record SaysNothing (core : CoreData) (ann : Ann) (n : ℕ) : Type 0 where
  pub declarations : DeclOk core
  pub slots : length ann.slots ≡ length core.slots
  pub written : KeepsWritten core ann
  pub before : (k : ℕ) → k < n → GoesWell core ann k
  pub sets : Each (λ m x. ((b : ℕ) → x.body ≡ Some b → b < n) → FillsFields core ann x) core.methods
  pub at : Node
  pub is_at : slice_get core.nodes n ≡ Some at
  pub masks : Masks
  pub reaches : StartsFrom core ann n masks
  pub none : (r : Rule) (slots : Slots) → DifferAt core at ann.slots slots → says core (record { slots = slots; notes = ann.notes }) at masks r at.kind ≡ None

-- After the body of constructor m the mask is not full, while it is full after those of the constructors before it.
pub record StaysUnset (core : CoreData) (ann : Ann) (m : ℕ) : Type 0 where
  pub declarations : DeclOk core
  pub slots : length ann.slots ≡ length core.slots
  pub written : KeepsWritten core ann
  pub method : Method
  pub is_method : slice_get core.methods m ≡ Some method
  pub constructor : constructs method.kind ≡ true
  pub body : ℕ
  pub is_body : method.body ≡ Some body
  pub before : (k : ℕ) → k ≤ body → GoesWell core ann k
  pub note : Note
  pub is_note : slice_get ann.notes body ≡ Some note
  pub lacks : full core method.entity note.set_after ≡ false
  pub sets : Each (λ k x. k < m → FillsFields core ann x) core.methods
