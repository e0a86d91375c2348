-- The nodes of a core, one by one, and those without a parent so far.
use Rattle.std.specs.Prelude.{◌≡◌, ◌≢◌, ℕ, ◌+◌, List, [], ◌∷◌, ◌++◌, Some, slice_get}
use Rattle.pc_core.specs.{declared.nodes.Node.Node, CoreData.CoreData}
use Rattle.pc_ann.specs.{declared.annotation.Note.Note, declared.annotation.Ann.Ann}
use Rattle.pc_valid.specs.Words.{Slots}
use Rattle.pc_core.specs.declared.nodes.NodeKind.TheVariants as node

-- The nodes before node n that are without a parent: a node takes the place of its children, which are the last ones. A
-- body has no parent, and nothing is left after it.
pub data WaitingNodes (core : CoreData) : ℕ → List ℕ → Type 0 where
  start : WaitingNodes core 0 []
  next : {n : ℕ} (rest : List ℕ) (x : Node) → slice_get core.nodes n ≡ Some x → x.kind ≢ node.Body → WaitingNodes core n (rest ++ x.children) → WaitingNodes core (n + 1) (rest ++ n ∷ [])
  body : {n : ℕ} (x : Node) → slice_get core.nodes n ≡ Some x → x.kind ≡ node.Body → WaitingNodes core n x.children → WaitingNodes core (n + 1) []

-- An annotation with these types of slots whose notes begin with these.
abbrev pub BeginsAnnotation : Ann → Slots → List Note → Type 0
BeginsAnnotation ann slots notes = (more : List Note) × (ann.slots ≡ slots) × (ann.notes ≡ notes ++ more)
