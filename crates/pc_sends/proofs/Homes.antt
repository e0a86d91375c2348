-- In a core that fits together the children of a node are of its method, and so is a method's body.
use Rattle.std.specs.Prelude.{◌≡◌, ℕ, zero, suc, ◌+◌, ◌-◌, ◌<◌, ◌≤◌, List, [], ◌∷◌, ◌++◌, length, Option, Some, None, slice_get, refl}
use Rattle.std.proofs.{Common.{inl, inr, ap, sym, subst, ◌∙◌, arith}, lemmas.Option.{same_Some, none-some}}
use Rattle.pc_base.proofs.{Gets.{get_below, get_front, get_push, get_append, get_map, get_range, range_get}, Ranges.run_within}
use Rattle.pc_core.specs.{declared.declarations.Method.Method, declared.nodes.Node.Node, CoreData.{CoreData, node_end}, Further.own_nodes, Methods.PostOrder, Growing.children_before, Formed.Formed}
use Rattle.pc_base.specs.Lists.{Each}
use Rattle.pc_core.proofs.Homes.{Home, between, home}

-- Node n, if there is one, is of method m.
abbrev pub NodeIn : CoreData → ℕ → ℕ → Type 0
NodeIn core m n = (y : Node) → slice_get core.nodes n ≡ Some y → y.method ≡ m

-- Those that wait are from a on, and so is one more.
from_next : (a n : ℕ) (rest : List ℕ) → a ≤ n → Each (λ i c. a ≤ c) rest → Each (λ i c. a ≤ c) (rest ++ n ∷ [])
from_next a n rest l b i c e =
    elim (get_push rest n i c e) [
      | inl h ↦ b i c h
      | inr h ↦ let s = h.1 in omega (arith, l, s)
    ]

-- Children come from the method's first node on.
children_from : (a n : ℕ) (xs : List Node) (waiting last : List ℕ) → PostOrder n xs waiting last → a ≤ n → Each (λ i c. a ≤ c) waiting → Each (λ i x. Each (λ k c. a ≤ c) x.children) xs
children_from a n [] waiting last p l b i x e = absurd (none-some x e)
children_from a n (y ∷ ys) waiting last p l b zero x e = λ k c h.
    let own : slice_get y.children k ≡ Some c = subst (λ (z : Node). slice_get z.children k ≡ Some c) (sym (same_Some y x e)) h in
    b (length p.0 + k) c (ap (λ ws. slice_get ws (length p.0 + k)) p.1 ∙ get_append p.0 y.children k ∙ own)
children_from a n (y ∷ ys) waiting last p l b (suc i) x e =
    let front : Each (λ i c. a ≤ c) p.0 = λ j d g. b j d (ap (λ ws. slice_get ws j) p.1 ∙ get_front p.0 y.children j d g) in
    let next : a ≤ n + 1 = omega (arith, l) in
    children_from a (n + 1) ys (p.0 ++ n ∷ []) last p.2 next (from_next a n p.0 l front) i x e

home_children : (core : CoreData) (n : ℕ) (x : Node) (h : Home core n) → slice_get core.nodes n ≡ Some x → Each (λ i c. NodeIn core x.method c) x.children
home_children core n x h at i c e y is =
    let first : ℕ = h.method.first_node in
    let end : node_end first h.method.body ≡ h.body + 1 = ap (node_end first) h.is_body in
    let from = h.from in
    let to = h.to in
    let last : n < node_end first h.method.body = omega (arith, end, to) in
    let here : slice_get (own_nodes core h.method) (n - first) ≡ Some x = range_get core.nodes first (node_end first h.method.body) n x from last at in
    let order = h.fits.post_order in
    let low : first ≤ c = children_from first first (own_nodes core h.method) [] (h.body ∷ []) order (omega arith) (λ j d g. absurd (none-some d g)) (n - first) x here i c e in
    let high : c < first + (n - first) = children_before first (own_nodes core h.method) [] (h.body ∷ []) order (λ j d g. absurd (none-some d g)) (n - first) x here i c e in
    let within : c ≤ h.body = omega (arith, high, from, to) in
    between core h.number h.body c h.method y h.is_body h.fits low within is ∙ sym (between core h.number h.body n h.method x h.is_body h.fits from to at)

pub children_in : (core : CoreData) (n : ℕ) (x : Node) → Formed core → slice_get core.nodes n ≡ Some x → Each (λ i c. NodeIn core x.method c) x.children
children_in core n x formed at = home_children core n x (home core n formed (get_below core.nodes n x at)) at

pub body_in : (core : CoreData) (m b : ℕ) (f : Method) → Formed core → slice_get core.methods m ≡ Some f → f.body ≡ Some b → NodeIn core m b
body_in core m b f formed is has y at =
    let fits = (formed.methods m f is).body b has in
    between core m b b f y has fits fits.from (omega arith) at

-- A node of a method is in the method's range.
node_at : (core : CoreData) (m n : ℕ) (f : Method) (y : Node) (h : Home core n) → slice_get core.methods m ≡ Some f → slice_get core.nodes n ≡ Some y → y.method ≡ m → (f.first_node ≤ n) × (n < node_end f.first_node f.body)
node_at core m n f y h is at own =
    let number : m ≡ h.number = sym own ∙ between core h.number h.body n h.method y h.is_body h.fits h.from h.to at in
    let same : h.method ≡ f = same_Some h.method f (sym h.is_method ∙ ap (slice_get core.methods) (sym number) ∙ is) in
    let end : node_end h.method.first_node h.method.body ≡ h.body + 1 = ap (node_end h.method.first_node) h.is_body in
    let from = h.from in
    let to = h.to in
    subst (λ (g : Method). (g.first_node ≤ n) × (n < node_end g.first_node g.body)) same (from, omega (arith, end, to))

pub node_range : (core : CoreData) (m n : ℕ) (f : Method) (y : Node) → Formed core → slice_get core.methods m ≡ Some f → slice_get core.nodes n ≡ Some y → y.method ≡ m → (f.first_node ≤ n) × (n < node_end f.first_node f.body)
node_range core m n f y formed is at own = node_at core m n f y (home core n formed (get_below core.nodes n y at)) is at own

-- ---- the nodes of a method

own_of : (core : CoreData) (m k : ℕ) (f : Method) (y : Node) (o : Option ℕ) → Formed core → slice_get core.methods m ≡ Some f → f.body ≡ o → slice_get (own_nodes core f) k ≡ Some y → y.method ≡ m
own_of core m k f y None formed is has at =
    let none : node_end f.first_node f.body ≡ f.first_node = ap (node_end f.first_node) has in
    let within = (get_range core.nodes f.first_node (node_end f.first_node f.body) k y at).0 in
    absurd (omega (arith, none, within))
own_of core m k f y (Some b) formed is has at = ((formed.methods m f is).body b has).own k y at

pub own_node : (core : CoreData) (m k : ℕ) (f : Method) (y : Node) → Formed core → slice_get core.methods m ≡ Some f → slice_get (own_nodes core f) k ≡ Some y → y.method ≡ m
own_node core m k f y formed is at = own_of core m k f y f.body formed is refl at

ends_behind : (core : CoreData) (m : ℕ) (f : Method) (o : Option ℕ) → Formed core → slice_get core.methods m ≡ Some f → f.body ≡ o → f.first_node ≤ node_end f.first_node o
ends_behind core m f None formed is has = omega arith
ends_behind core m f (Some b) formed is has = let from = ((formed.methods m f is).body b has).from in omega (arith, from)

pub nodes_from : (core : CoreData) (m : ℕ) (f : Method) → Formed core → slice_get core.methods m ≡ Some f → f.first_node ≤ node_end f.first_node f.body
nodes_from core m f formed is = ends_behind core m f f.body formed is refl

pub nodes_to : (core : CoreData) (m : ℕ) (f : Method) → Formed core → slice_get core.methods m ≡ Some f → node_end f.first_node f.body ≤ length core.nodes
nodes_to core m f formed is =
    let to : f.first_node + (node_end f.first_node f.body - f.first_node) ≤ length core.nodes = (run_within 0 _ (length core.nodes) m (f.first_node, node_end f.first_node f.body - f.first_node) formed.nodes_follow (get_map (λ (x : Method). (x.first_node, node_end x.first_node x.body - x.first_node)) core.methods m f is)).1 in
    let from = nodes_from core m f formed is in
    omega (arith, to, from)

-- The method that a node names is there.
pub method_there : (core : CoreData) (n : ℕ) (y : Node) → Formed core → slice_get core.nodes n ≡ Some y → (f : Method) × (slice_get core.methods y.method ≡ Some f)
method_there core n y formed at =
    let h = home core n formed (get_below core.nodes n y at) in
    (h.method, ap (slice_get core.methods) (between core h.number h.body n h.method y h.is_body h.fits h.from h.to at) ∙ h.is_method)
