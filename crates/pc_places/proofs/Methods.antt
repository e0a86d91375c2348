-- The nodes of a method are within those of the core.
use Rattle.std.specs.Prelude.{◌≡◌, ◌≤◌, ◌-◌, ℕ, length, Option, Some, None, slice_get, refl}
use Rattle.std.proofs.Common.{arith}
use Rattle.pc_core.specs.{CoreData.{CoreData, node_end}, Formed.Formed, Methods.BodyFits, declared.declarations.Method.Method}
use Rattle.pc_base.proofs.{Gets.get_map, Ranges.run_within}

module _ (core : CoreData) (formed : Formed core) (m : ℕ) (x : Method) (is : slice_get core.methods m ≡ Some x) where
  ends_by : (body : Option ℕ) → ((b : ℕ) → body ≡ Some b → BodyFits core m x b) → x.first_node ≤ node_end x.first_node body
  ends_by None fits = omega arith
  ends_by (Some b) fits = let from = (fits b refl).from in omega (arith, from)

  pub nodes_ordered : x.first_node ≤ node_end x.first_node x.body
  nodes_ordered = ends_by x.body (formed.methods m x is).body

  pub nodes_within : node_end x.first_node x.body ≤ length core.nodes
  nodes_within =
      let r = run_within 0 _ (length core.nodes) m (x.first_node, node_end x.first_node x.body - x.first_node) formed.nodes_follow
      (get_map (λ (y : Method). (y.first_node, node_end y.first_node y.body - y.first_node)) core.methods m x is) in
      let last = r.1 in
      let ordered = nodes_ordered in
      omega (arith, last, ordered)
