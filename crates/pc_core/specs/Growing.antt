-- Extending a core at its ends by methods, slots and nodes, and nodes in post-order one by one.
use Rattle.std.proofs.{Common.{inl, inr, ap, sym, subst, ◌∙◌, arith}, lemmas.Option.{same_Some, none-some}}
use Rattle.pc_base.proofs.{Gets.{get_below, get_front, get_append, append_get}, Elements.below_next, Cuts.range_front}
use Rattle.std.specs.Prelude.{◌≡◌, ◌≢◌, ℕ, zero, suc, ◌+◌, ◌-◌, ◌<◌, ◌≤◌, List, [], ◌∷◌, ◌++◌, length, Some, slice_get}
use Rattle.pc_core.specs.{declared.declarations.Method.Method, declared.nodes.Slot.Slot, declared.nodes.Node.Node, declared.nodes.NodeKind.NodeKind, CoreData.{CoreData, node_end}, Further.own_nodes, Methods.{LocalFits, SlotsFit, PostOrder, BodyFits, MethodFits}, Nodes.{NodeFits, NamesFit, NamesSlot}}
use Rattle.pc_base.specs.Lists.{Each}
use Rattle.pc_core.specs.declared.nodes.NodeKind.TheVariants as node

-- ---- post-order

-- One more node, whose children are the last of the nodes without a parent.
pub post_order_push : (n : ℕ) (xs : List Node) (waiting rest : List ℕ) (x : Node) → PostOrder n xs waiting (rest ++ x.children) → PostOrder n (xs ++ x ∷ []) waiting (rest ++ (n + length xs) ∷ [])
post_order_push n [] waiting rest x p = let e : n ≡ n + 0 = omega arith in (rest, p, ap (λ k. rest ++ k ∷ []) e)
post_order_push n (y ∷ ys) waiting rest x p =
    let e : n + 1 + length ys ≡ n + length (y ∷ ys) = omega arith in
    (p.0, p.1, subst (λ k. PostOrder (n + 1) (ys ++ x ∷ []) (p.0 ++ n ∷ []) (rest ++ k ∷ [])) e (post_order_push (n + 1) ys (p.0 ++ n ∷ []) rest x p.2))

-- The children of a node come before it.
pub children_before : (n : ℕ) (xs : List Node) (waiting last : List ℕ) → PostOrder n xs waiting last → Each (λ i c. c < n) waiting → Each (λ i x. Each (λ k c. c < n + i) x.children) xs
children_before n [] waiting last p b i x e = absurd (none-some x e)
children_before n (y ∷ ys) waiting last p b zero x e = λ k c h.
    let own : slice_get y.children k ≡ Some c = subst (λ (z : Node). slice_get z.children k ≡ Some c) (sym (same_Some y x e)) h in
    let there : slice_get waiting (length p.0 + k) ≡ Some c = ap (λ ws. slice_get ws (length p.0 + k)) p.1 ∙ get_append p.0 y.children k ∙ own in
    let l = b (length p.0 + k) c there in
    omega (arith, l)
children_before n (y ∷ ys) waiting last p b (suc i) x e = λ k c h.
    let front : Each (λ i c. c < n) p.0 = λ j d g. b j d (ap (λ ws. slice_get ws j) p.1 ∙ get_front p.0 y.children j d g) in
    let l = children_before (n + 1) ys (p.0 ++ n ∷ []) last p.2 (below_next n p.0 front) i x e k c h in
    omega (arith, l)

-- ---- more methods, slots and nodes

-- A core with more methods, slots and nodes.
abbrev pub grown : CoreData → List Method → List Slot → List Node → CoreData
grown core ms ss ns = record { entities = core.entities; methods = core.methods ++ ms; slots = core.slots ++ ss; nodes = core.nodes ++ ns; names = core.names }

-- What is extended keeps its places.
module _ (core : CoreData) (ms : List Method) (ss : List Slot) (ns : List Node) where
  slot_kept : (m s : ℕ) → NamesSlot core m s → NamesSlot (grown core ms ss ns) m s
  slot_kept m s h = (h.0, (h.1.0, get_front core.methods ms m h.1.0 h.1.1, h.1.2))

  names_kept : (m : ℕ) (k : NodeKind) → NamesFit core m k → NamesFit (grown core ms ss ns) m k
  names_kept m (node.Local s) h = slot_kept m s h
  names_kept m (node.Consume s) h = slot_kept m s h
  names_kept m (node.Assign s) h = slot_kept m s h
  names_kept m (node.Define s) h = (h.0, h.1, get_front core.methods ms m h.0 h.2, h.3, get_front core.slots ss (h.0.first_slot + s) h.1 h.4, h.5)
  names_kept m (node.New k) h = (h.0, get_front core.methods ms k h.0 h.1, h.2)
  names_kept m (node.Spawn k) h = (h.0, get_front core.methods ms k h.0 h.1, h.2)
  names_kept m k h = h

  -- A node whose children are present fits as before.
  pub node_kept : (n : ℕ) (x : Node) → Each (λ i c. c < length core.nodes) x.children → NodeFits core n x → NodeFits (grown core ms ss ns) n x
  node_kept n x b f = record {
    arity = f.arity;
    depths = λ i c e y g. elim (append_get core.nodes ns c y g) [ inl old ↦ f.depths i c e y old | inr new ↦ let low = b i c e in let high = new.0 in absurd (omega (arith, low, high)) ];
    names = names_kept x.method x.kind f.names;
  }

  local_kept : (m s : ℕ) (x : Slot) → Each (λ i y. y.method ≢ m) ns → LocalFits core m s x → LocalFits (grown core ms ss ns) m s x
  local_kept m s x other f = record {
    kind = f.kind;
    method = f.method;
    written = f.written;
    define = f.define;
    definition = f.definition;
    is_definition = get_front core.nodes ns f.define f.definition f.is_definition;
    defines = f.defines;
    own = f.own;
    depth = f.depth;
    sequence = f.sequence;
    around = f.around;
    is_around = get_front core.nodes ns f.sequence f.around f.is_around;
    is_sequence = f.is_sequence;
    item = f.item;
    only = λ n y g o d. elim (append_get core.nodes ns n y g) [ inl old ↦ f.only n y old o d | inr new ↦ absurd (other (n - length core.nodes) y new.1 o) ];
    later = λ n y g o u. elim (append_get core.nodes ns n y g) [ inl old ↦ f.later n y old o u | inr new ↦ absurd (other (n - length core.nodes) y new.1 o) ];
  }

  slots_kept : (m : ℕ) (x : Method) → x.first_slot + x.slots ≤ length core.slots → Each (λ i y. y.method ≢ m) ns → SlotsFit core m x → SlotsFit (grown core ms ss ns) m x
  slots_kept m x room other f = (f.0, range_front core.slots ss x.first_slot (x.first_slot + x.slots) (omega arith) room ∙ f.1, λ i s e. local_kept m (1 + length x.params + i) s other (f.2 i s e))

  body_kept : (m : ℕ) (x : Method) (b : ℕ) → x.body ≡ Some b → BodyFits core m x b → BodyFits (grown core ms ss ns) m x b
  body_kept m x b is f =
      let from = f.from in
      let within = get_below core.nodes b f.root f.is_root in
      let end : node_end x.first_node x.body ≡ b + 1 = ap (node_end x.first_node) is in
      let same : own_nodes (grown core ms ss ns) x ≡ own_nodes core x = range_front core.nodes ns x.first_node (node_end x.first_node x.body) (omega (arith, from, end)) (omega (arith, within, end)) in
      record {
        from = f.from;
        own = subst (λ ys. Each (λ i y. y.method ≡ m) ys) (sym same) f.own;
        post_order = subst (λ ys. PostOrder x.first_node ys [] (b ∷ [])) (sym same) f.post_order;
        root = f.root;
        is_root = get_front core.nodes ns b f.root f.is_root;
        is_body = f.is_body;
        depth = f.depth;
        one = subst (λ ys. Each (λ i y. y.kind ≡ node.Body → x.first_node + i ≡ b) ys) (sym same) f.one;
      }

  -- A method fits as before if the new nodes belong to other methods.
  pub method_kept : (m : ℕ) (x : Method) → x.first_slot + x.slots ≤ length core.slots → Each (λ i y. y.method ≢ m) ns → MethodFits core m x → MethodFits (grown core ms ss ns) m x
  method_kept m x room other f = record {
    owner = f.owner;
    is_owner = f.is_owner;
    placed = f.placed;
    name = f.name;
    params = f.params;
    result = f.result;
    result_fits = f.result_fits;
    few_slots = f.few_slots;
    slots = elim f.slots [ inl first ↦ inl first | inr fit ↦ inr (slots_kept m x room other fit) ];
    has_body = f.has_body;
    body = λ b e. body_kept m x b e (f.body b e);
  }
