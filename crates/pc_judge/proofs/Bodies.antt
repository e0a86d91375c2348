-- A body is a node of its method.
use Rattle.std.specs.Prelude.{◌≡◌, ℕ, ◌-◌, ◌<◌, length, Some, slice_get}
use Rattle.std.proofs.Common.{sym, subst, ◌∙◌, arith}
use Rattle.pc_core.specs.{declared.declarations.Method.Method, declared.nodes.Node.Node, CoreData.{CoreData, node_end}, Formed.Formed}
use Rattle.pc_base.proofs.Gets.{range_get, get_below}

pub body_within : (core : CoreData) (m b : ℕ) (x : Method) → Formed core → slice_get core.methods m ≡ Some x → x.body ≡ Some b → b < length core.nodes
body_within core m b x f g e = let fit = (f.methods m x g).body b e in get_below core.nodes b fit.root fit.is_root

pub body_method : (core : CoreData) (m b : ℕ) (x : Method) (y : Node) → Formed core → slice_get core.methods m ≡ Some x → x.body ≡ Some b → slice_get core.nodes b ≡ Some y → y.method ≡ m
body_method core m b x y f g e h =
    let fit = (f.methods m x g).body b e in
    let from = fit.from in
    let last : b < node_end x.first_node x.body = subst (λ o. b < node_end x.first_node o) (sym e) (omega arith) in
    fit.own (b - x.first_node) y (range_get core.nodes x.first_node (node_end x.first_node x.body) b y from last h)

-- A node is the body of only one method.
pub one_body : (core : CoreData) (m k b : ℕ) (x y : Method) → Formed core → slice_get core.methods m ≡ Some x → x.body ≡ Some b → slice_get core.methods k ≡ Some y → y.body ≡ Some b → m ≡ k
one_body core m k b x y f g e h i =
    let fit = (f.methods m x g).body b e in
    sym (body_method core m b x fit.root f g e fit.is_root) ∙ body_method core k b y fit.root f h i fit.is_root
