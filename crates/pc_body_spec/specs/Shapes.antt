-- How many children a rose has, and their depths.
use Rattle.std.specs.Prelude.{◌≡◌, ℕ, suc}
use Rattle.pc_core.specs.{declared.nodes.NodeKind.NodeKind, Nodes.HasArity}
use Rattle.pc_body_spec.specs.Bodies.{Rose, Roses, rose, more, no_roses, deeper}
use Rattle.pc_core.specs.declared.nodes.NodeKind.TheVariants as node

abbrev pub count : Roses → ℕ
count no_roses = 0
count (more r rs) = suc (count rs)

-- The depth of the children of a node of this kind and depth.
abbrev pub depth_inside : NodeKind → ℕ → ℕ
depth_inside (node.Recover cap) d = deeper d
depth_inside k d = d

-- A rose of depth d in which each node has as many children as its kind requires, each at the required depth.
abbrev mutual
  pub Shaped : ℕ → Rose → Type 0
  Shaped d (rose k s e rs) = (e ≡ d) × HasArity k (count rs) × AllShaped (depth_inside k d) rs

  pub AllShaped : ℕ → Roses → Type 0
  AllShaped d no_roses = Unit {0}
  AllShaped d (more r rs) = Shaped d r × AllShaped d rs
