-- The nodes without a parent so far, for every core whose parts fit together.
use Rattle.std.specs.Prelude.{◌≡◌, ◌↔◌, ℕ, List, [], ◌∷◌, ◌++◌, length, Some, slice_get}
use Rattle.pc_core.specs.{declared.nodes.Node.Node, CoreData.CoreData, Formed.Formed}
use Rattle.pc_ann.specs.{declared.annotation.Note.Note, declared.annotation.Ann.Ann}
use Rattle.pc_rules.specs.Parts.{notes_of}
use Rattle.pc_valid.specs.{Words.Slots, Valid.MeetsRule, NoRule.Holds}
use Rattle.pc_feed.specs.Waiting.{WaitingNodes, BeginsAnnotation}
use Rattle.pc_core.specs.declared.nodes.NodeKind.TheVariants as node

-- A node's children are the last of the nodes without a parent, and those of a body the only ones.
abbrev pub ChildrenWaitLast : Type 0
ChildrenWaitLast =
    (core : CoreData) (n : ℕ) (waiting : List ℕ) (x : Node) → Formed core → WaitingNodes core n waiting → slice_get core.nodes n ≡ Some x
    → (rest : List ℕ) × (waiting ≡ rest ++ x.children) × (x.kind ≡ node.Body → rest ≡ [])

-- The children's notes are the last of the notes of the nodes without a parent. By them the node satisfies the rule of
-- a note iff it does so in every annotation that begins like this.
abbrev pub WaitingTells : Type 0
WaitingTells =
    (core : CoreData) (slots : Slots) (notes waiting : List Note) (numbers : List ℕ) (own : Note) (x : Node) → Formed core
    → WaitingNodes core (length notes) numbers → notes_of notes numbers ≡ Some waiting → slice_get core.nodes (length notes) ≡ Some x
    → (front : List Note) × (children : List Note) × (waiting ≡ front ++ children) × (length children ≡ length x.children)
    × ((ann : Ann) → BeginsAnnotation ann slots (notes ++ own ∷ []) → Holds core slots own children (length notes) ↔ MeetsRule core ann (length notes))
