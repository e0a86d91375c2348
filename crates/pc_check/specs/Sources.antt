-- Where the masks that reach a node come from.
use Rattle.std.specs.Prelude.{◌≡◌, ◌⊎◌, ℕ, ◌+◌, ◌<◌, ◌≤◌, List, length, Some, slice_get}
use Rattle.pc_core.specs.{declared.declarations.Method.Method, declared.nodes.Node.Node, CoreData.CoreData}
use Rattle.pc_base.specs.Lists.{Each, Has}
use Rattle.pc_ann.specs.{declared.annotation.Note.Note, declared.annotation.Ann.Ann}
use Rattle.pc_masks.specs.Masks.{first}
use Rattle.pc_valid.specs.Words.{Masks, masks_after}
use Rattle.pc_rules.specs.{Control.start_set, Trees.Tree, Checks.StartsFrom}
use Rattle.pc_check.specs.declared.sources.Source.{Source}
use Rattle.pc_check.specs.declared.sources.Source.TheVariants as source

-- The masks with which a method starts.
abbrev pub start_masks : CoreData → Method → Masks
start_masks core f = (first (1 + length f.params), start_set core f)

-- Whatever the notes are, the masks of this source reach node n: those with which a method starts, or those after a
-- node that comes before number `low`.
abbrev pub Comes : CoreData → (low node : ℕ) → Source → Type 0
Comes core low n (source.Start m) = (f : Method) × (slice_get core.methods m ≡ Some f) × ((ann : Ann) → StartsFrom core ann n (start_masks core f))
Comes core low n (source.Behind s) = (s < low) × ((ann : Ann) (t : Note) → slice_get ann.notes s ≡ Some t → StartsFrom core ann n (masks_after t))

-- It is the source of node n, and comes before the subtree of n.
abbrev pub IsPlacedSource : CoreData → ℕ → Source → Type 0
IsPlacedSource core n s = (low : ℕ) × Tree core low n × Comes core low n s

-- Each node has its source.
abbrev pub Sourced : CoreData → List Source → Type 0
Sourced core sources = (length sources ≡ length core.nodes) × Each (λ n s. IsPlacedSource core n s) sources

-- ---- while the sources are being found

-- Node n is the body of a method.
abbrev pub IsBody : CoreData → ℕ → Type 0
IsBody core n = (m : ℕ) × (f : Method) × (slice_get core.methods m ≡ Some f) × (f.body ≡ Some n)

-- Node n is a child of node p.
abbrev pub IsChild : CoreData → (parent node : ℕ) → Type 0
IsChild core p n = (x : Node) × (slice_get core.nodes p ≡ Some x) × Has x.children n

-- Node n is a body, or a child of a node from number i on.
abbrev pub IsBodyOrChild : CoreData → (first node : ℕ) → Type 0
IsBodyOrChild core i n = IsBody core n ⊎ ((p : ℕ) × (i ≤ p) × IsChild core p n)

-- Each of these has its source.
abbrev pub Filled : CoreData → List Source → ℕ → Type 0
Filled core sources i = (length sources ≡ length core.nodes) × Each (λ n s. IsBodyOrChild core i n → IsPlacedSource core n s) sources

-- In addition, so have the first j children of node x, which come before it.
abbrev pub PartFilled : CoreData → List Source → ℕ → Node → ℕ → Type 0
PartFilled core sources i x j =
    (length sources ≡ length core.nodes)
    × Each (λ n s. (IsBodyOrChild core i n ⊎ ((k : ℕ) × (k < j) × (slice_get x.children k ≡ Some n))) → IsPlacedSource core n s) sources

-- If node x has the first source, its child with index i has the second.
abbrev pub PassesOn : Node → ℕ → Source → Source → Type 0
PassesOn x i s t = (core : CoreData) (p c : ℕ) → slice_get core.nodes p ≡ Some x → IsPlacedSource core p s → slice_get x.children i ≡ Some c → IsPlacedSource core c t

-- The same, whatever the source of node x is.
abbrev pub ComesLater : Node → ℕ → Source → Type 0
ComesLater x i t = (s : Source) → PassesOn x i s t
