-- The method to which a node belongs.
use Rattle.std.specs.Prelude.{◌≡◌, ℕ, ◌+◌, ◌-◌, ◌<◌, ◌≤◌, length, Option, Some, None, slice_get, refl}
use Rattle.std.proofs.Common.{ap, sym, subst, arith}
use Rattle.pc_base.proofs.{Gets.{map_get, range_get}, Ranges.run_around}
use Rattle.pc_core.specs.{declared.declarations.Method.Method, declared.nodes.Node.Node, CoreData.{CoreData, node_end}, Formed.Formed, Methods.BodyFits}

-- The method with a body to which node n belongs.
pub record Home (core : CoreData) (n : ℕ) : Type 0 where
  pub number : ℕ
  pub method : Method
  pub is_method : slice_get core.methods number ≡ Some method
  pub body : ℕ
  pub is_body : method.body ≡ Some body
  pub fits : BodyFits core number method body
  pub from : method.first_node ≤ n
  pub to : n ≤ body

home_in : (core : CoreData) (n i : ℕ) (f : Method) (o : Option ℕ) → Formed core → slice_get core.methods i ≡ Some f → f.body ≡ o → f.first_node ≤ n → n < f.first_node + (node_end f.first_node o - f.first_node) → Home core n
home_in core n i f None formed g e l h = absurd (omega (arith, l, h))
home_in core n i f (Some b) formed g e l h =
    let fit = (formed.methods i f g).body b e in
    let from = fit.from in
    record { number = i; method = f; is_method = g; body = b; is_body = e; fits = fit; from = l; to = omega (arith, from, h) }

pub home : (core : CoreData) (n : ℕ) → Formed core → n < length core.nodes → Home core n
home core n formed l =
    let r = run_around 0 _ (length core.nodes) n formed.nodes_follow (omega arith) l in
    let q = map_get (λ (x : Method). (x.first_node, node_end x.first_node x.body - x.first_node)) core.methods r.0 r.1 r.2 in
    let f = q.0 in
    let low : f.first_node ≤ n = subst (λ (z : ℕ × ℕ). z.0 ≤ n) (sym q.2) r.3 in
    let high : n < f.first_node + (node_end f.first_node f.body - f.first_node) = subst (λ (z : ℕ × ℕ). n < z.0 + z.1) (sym q.2) r.4 in
    home_in core n r.0 f f.body formed q.1 refl low high

-- A node between the first one of a method and its body belongs to the method.
pub between : (core : CoreData) (m b n : ℕ) (f : Method) (y : Node) → f.body ≡ Some b → BodyFits core m f b → f.first_node ≤ n → n ≤ b → slice_get core.nodes n ≡ Some y → y.method ≡ m
between core m b n f y has fits from to at =
    let end : node_end f.first_node f.body ≡ b + 1 = ap (node_end f.first_node) has in
    let last : n < node_end f.first_node f.body = omega (arith, end, to) in
    fits.own (n - f.first_node) y (range_get core.nodes f.first_node (node_end f.first_node f.body) n y from last at)

-- The node names that method.
pub home_method : (core : CoreData) (n : ℕ) (x : Node) (h : Home core n) → slice_get core.nodes n ≡ Some x → x.method ≡ h.number
home_method core n x h g = between core h.number h.body n h.method x h.is_body h.fits h.from h.to g
