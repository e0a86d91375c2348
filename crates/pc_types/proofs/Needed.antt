-- A core that fits together and a valid annotation give everything that the proof uses.
use Rattle.std.specs.Prelude.{◌≡◌, ◌≢◌, ℕ, zero, suc, ◌+◌, ◌-◌, ◌<◌, ◌≤◌, true, false, List, [], ◌∷◌, ◌++◌, length, map, Option, Some, None, IsSome, slice_get, refl}
use Rattle.std.proofs.{Common.{inl, inr, ap, sym, subst, ◌∙◌, arith, length-append}, lemmas.Option.{same_Some, none-some}, lemmas.List.length-map}
use Rattle.pc_base.proofs.{Gets.{get_below, get_within, get_front, get_push, get_append, get_map, get_range, range_get}, Bools.false_true}
use Rattle.pc_caps.specs.declared.capability.Cap.{Cap}
use Rattle.pc_tree.specs.Kinds.{is_abstract}
use Rattle.pc_core.specs.{declared.declarations.EntityDef.EntityDef, declared.declarations.Method.Method, declared.declarations.ParamInfo.ParamInfo, declared.nodes.Slot.Slot, declared.nodes.Node.Node, CoreData.{CoreData, own_slots, node_end}, Further.own_nodes, Methods.{is_local, SlotsFit, PostOrder}, Entities.{this_slot, param_slot}, Members.method_among, Nodes.{NamesFit, NamesLocal, NamesSlot}, Formed.Formed}
use Rattle.pc_core.specs.declared.nodes.NodeKind.TheVariants as nodes
use Rattle.pc_base.specs.Lists.{Each}
use Rattle.pc_ann.specs.declared.annotation.Ann.{Ann}
use Rattle.pc_rules.proofs.{ByNumber.slot_of, Homes.children_before}
use Rattle.pc_core.proofs.Homes.{Home, home, home_method}
use Rattle.pc_rules.specs.Checks.{Checks}
use Rattle.pc_types.proofs.{Needs.{IsChild, Needs}, Notes.slot_at, Declarations.{under_trans, under_no_trait, sub_under, all_declared}}

-- ---- the children of a node

after_next : (a n : ℕ) (rest : List ℕ) → a ≤ n → Each (λ i c. a ≤ c) rest → Each (λ i c. a ≤ c) (rest ++ n ∷ [])
after_next a n rest l b i c e =
    elim (get_push rest n i c e) [
      | inl h ↦ b i c h
      | inr h ↦ let s = h.1 in omega (arith, l, s)
    ]

-- They come after the first node of the method.
children_behind : (a n : ℕ) (xs : List Node) (waiting last : List ℕ) → PostOrder n xs waiting last → a ≤ n → Each (λ i c. a ≤ c) waiting → Each (λ i x. Each (λ k c. a ≤ c) x.children) xs
children_behind a n [] waiting last p l b i x e = absurd (none-some x e)
children_behind a n (y ∷ ys) waiting last p l b zero x e = λ k c h.
    let own : slice_get y.children k ≡ Some c = subst (λ (z : Node). slice_get z.children k ≡ Some c) (sym (same_Some y x e)) h in
    b (length p.0 + k) c (ap (λ ws. slice_get ws (length p.0 + k)) p.1 ∙ get_append p.0 y.children k ∙ own)
children_behind a n (y ∷ ys) waiting last p l b (suc i) x e =
    let front : Each (λ i c. a ≤ c) p.0 = λ j d g. b j d (ap (λ ws. slice_get ws j) p.1 ∙ get_front p.0 y.children j d g) in
    let next : a ≤ n + 1 = omega (arith, l) in
    children_behind a (n + 1) ys (p.0 ++ n ∷ []) last p.2 next (after_next a n p.0 l front) i x e

module _ (core : CoreData) (formed : Formed core) where
  home_of : (n : ℕ) (x : Node) → slice_get core.nodes n ≡ Some x → Home core n
  home_of n x at = home core n formed (get_below core.nodes n x at)

  own_children : (n : ℕ) (x : Node) (h : Home core n) → slice_get core.nodes n ≡ Some x → Each (λ i c. IsChild core x.method c) x.children
  own_children n x h at i c e =
      let first : ℕ = h.method.first_node in
      let end : node_end first h.method.body ≡ h.body + 1 = ap (node_end first) h.is_body in
      let from = h.from in
      let to = h.to in
      let last : n < node_end first h.method.body = omega (arith, end, to) in
      let behind : first ≤ c = children_behind first first (own_nodes core h.method) [] (h.body ∷ []) h.fits.post_order (omega arith) (λ j d g. absurd (none-some d g)) (n - first) x (range_get core.nodes first (node_end first h.method.body) n x from last at) i c e in
      let before = children_before core n x formed at i c e in
      let within = get_below core.nodes n x at in
      let y = get_within core.nodes c (omega (arith, before, within)) in
      let inside : c < node_end first h.method.body = omega (arith, before, last) in
      (y.0, y.1, h.fits.own (c - first) y.0 (range_get core.nodes first (node_end first h.method.body) c y.0 behind inside y.1) ∙ sym (home_method core n x h at))

  children : (n : ℕ) (x : Node) → slice_get core.nodes n ≡ Some x → Each (λ i c. IsChild core x.method c) x.children
  children n x at = own_children n x (home_of n x at) at

  -- ---- the slots of a method

  -- The first method has no nodes.
  pub not_first : (n : ℕ) (x : Node) → slice_get core.nodes n ≡ Some x → x.method ≢ 0
  not_first n x at none =
      let h = home_of n x at in
      let number : h.number ≡ 0 = sym (home_method core n x h at) ∙ none in
      none-some h.body (ap (λ (f : Method). f.body) (same_Some _ h.method (sym formed.built_in.method ∙ ap (slice_get core.methods) (sym number) ∙ h.is_method)) ∙ h.is_body)

  slots_fit : (m : ℕ) (f : Method) → slice_get core.methods m ≡ Some f → m ≢ 0 → SlotsFit core m f
  slots_fit m f at other = elim (formed.methods m f at).slots [ inl none ↦ absurd (other none) | inr fit ↦ fit ]

  -- A slot of the method's own list, among those of the core.
  own_slot : (i : ℕ) (f : Method) (y : Slot) → slice_get (own_slots core f) i ≡ Some y → (f.first_slot + i < f.first_slot + f.slots) × (slice_get core.slots (f.first_slot + i) ≡ Some y)
  own_slot i f y e = get_range core.slots f.first_slot (f.first_slot + f.slots) i y e

  pub first_own : (m : ℕ) (f : Method) → slice_get core.methods m ≡ Some f → m ≢ 0 → slice_get core.slots (f.first_slot + 0) ≡ Some (this_slot m f)
  first_own m f at other =
      let fit = slots_fit m f at other in
      (own_slot 0 f (this_slot m f) (ap (λ (ys : List Slot). slice_get ys 0) fit.1)).1

  pub param_own : (m i : ℕ) (f : Method) (p : ParamInfo) → slice_get core.methods m ≡ Some f → m ≢ 0 → slice_get f.params i ≡ Some p → slice_get core.slots (f.first_slot + suc i) ≡ Some (param_slot m p)
  param_own m i f p at other e =
      let fit = slots_fit m f at other in
      (own_slot (suc i) f (param_slot m p) (ap (λ (ys : List Slot). slice_get ys (suc i)) fit.1 ∙ get_front (map (param_slot m) f.params) fit.0 i (param_slot m p) (get_map (param_slot m) f.params i p e))).1

  counted : (l p k : ℕ) → l ≡ suc (p + k) → p < l
  counted l p k e = omega (arith, e)

  fewer : (a p s : ℕ) → a + p < a + s → suc p ≤ s
  fewer a p s l = omega (arith, l)

  room : (m : ℕ) (f : Method) → slice_get core.methods m ≡ Some f → m ≢ 0 → suc (length f.params) ≤ f.slots
  room m f at other =
      let fit = slots_fit m f at other in
      let total : length (own_slots core f) ≡ suc (length f.params + length fit.0) =
      ap length fit.1 ∙ ap suc (length-append (map (param_slot m) f.params) fit.0 ∙ ap (λ (n : ℕ). n + length fit.0) (length-map f.params (param_slot m)))
      in
      let y = get_within (own_slots core f) (length f.params) (counted (length (own_slots core f)) (length f.params) (length fit.0) total) in
      fewer f.first_slot (length f.params) f.slots (own_slot (length f.params) f y.0 y.1).0

  -- A local is not in the slot of `this`.
  not_this : (m s : ℕ) (f : Method) (y : Slot) → slice_get core.methods m ≡ Some f → m ≢ 0 → slice_get core.slots (f.first_slot + s) ≡ Some y → is_local y.kind ≡ true → 0 < s
  not_this m zero f y at other e local = absurd (false_true (ap (λ (z : Slot). is_local z.kind) (same_Some (this_slot m f) y (sym (first_own m f at other) ∙ e)) ∙ local))
  not_this m (suc s) f y at other e local = omega arith

  defined_slot : (n s : ℕ) (x : Node) → slice_get core.nodes n ≡ Some x → x.kind ≡ nodes.Define s → NamesSlot core x.method s
  defined_slot n s x at is =
      let named : NamesLocal core x.method s = subst (NamesFit core x.method) is (formed.nodes n x at).names in
      (not_this x.method s named.0 named.1 named.2 (not_first n x at) named.4 named.5, (named.0, named.2, named.3))

  -- ---- bodies

  body : (m b : ℕ) (f : Method) → slice_get core.methods m ≡ Some f → f.body ≡ Some b → (y : Node) × (slice_get core.nodes b ≡ Some y) × (y.method ≡ m) × (y.kind ≡ nodes.Body)
  body m b f at has =
      let fit = (formed.methods m f at).body b has in
      let end : node_end f.first_node f.body ≡ b + 1 = ap (node_end f.first_node) has in
      let last : b < node_end f.first_node f.body = omega (arith, end) in
      (fit.root, fit.is_root, fit.own (b - f.first_node) fit.root (range_get core.nodes f.first_node (node_end f.first_node f.body) b fit.root fit.from last fit.is_root), fit.is_body)

  some_is : (o : Option ℕ) → IsSome o → (b : ℕ) × (o ≡ Some b)
  some_is None h = absurd (false_true h)
  some_is (Some b) h = (b, refl)

  has_body : (m : ℕ) (f : Method) (e : EntityDef) → slice_get core.methods m ≡ Some f → m ≢ 0 → slice_get core.entities f.entity ≡ Some e → is_abstract e.kind ≡ false → (b : ℕ) × (f.body ≡ Some b)
  has_body m f e at other is no_trait =
      let fit = formed.methods m f at in
      elim fit.has_body [
        | inl none ↦ absurd (other none)
        | inr some ↦ elim some [
          | inl trait ↦ absurd (false_true (sym no_trait ∙ ap (λ (z : EntityDef). is_abstract z.kind) (same_Some e fit.owner (sym is ∙ fit.is_owner)) ∙ trait))
          | inr some ↦ some_is f.body some
        ]
      ]

  -- The stream's methods are the first one alone.
  stream : (m : ℕ) (f : Method) → slice_get core.methods m ≡ Some f → f.entity ≡ 5 → m ≡ 0
  stream m f at five =
      let a = method_among core m f formed at (get_below core.methods m f at) in
      let first : a.0.first_method ≡ 0 = ap (λ (z : EntityDef). z.first_method) (same_Some a.0 _ (sym a.1 ∙ ap (slice_get core.entities) five ∙ formed.built_in.stream)) in
      let one : a.0.methods ≡ 1 = ap (λ (z : EntityDef). z.methods) (same_Some a.0 _ (sym a.1 ∙ ap (slice_get core.entities) five ∙ formed.built_in.stream)) in
      let below = a.3 in
      omega (arith, first, one, below)

  -- ---- with the annotation

  module _ (ann : Ann) (valid : Checks core ann) where
    this_type : (n : ℕ) (x : Node) (f : Method) (i : Slot × (ℕ × Cap)) → slice_get core.nodes n ≡ Some x → slice_get core.methods x.method ≡ Some f → slot_of core ann x.method 0 ≡ Some i → i.1 ≡ (f.entity, f.receiver)
    this_type n x f i at own is =
        let is_typed = slot_at core ann x.method 0 f i own is in
        let written = valid.written (f.first_slot + 0) (this_slot x.method f) (first_own x.method f own (not_first n x at)) (f.entity, f.receiver) refl in
        same_Some i.1 (f.entity, f.receiver) (sym is_typed ∙ written)

    param_types : (m : ℕ) (f : Method) → slice_get core.methods m ≡ Some f → m ≢ 0 → (i : ℕ) (p : ParamInfo) → slice_get f.params i ≡ Some p → slice_get ann.slots (f.first_slot + suc i) ≡ Some (p.entity, p.cap)
    param_types m f at other i p e = valid.written (f.first_slot + suc i) (param_slot m p) (param_own m i f p at other e) (p.entity, p.cap) refl

    pub needed : Needs core ann
    needed = record {
      formed = formed;
      valid = valid;
      children = children;
      defined_slot = defined_slot;
      this_slot = this_type;
      param_slots = param_types;
      room = room;
      body = body;
      has_body = has_body;
      stream = stream;
      under = sub_under core formed valid.declarations;
      trans = under_trans core formed;
      only_traits = under_no_trait core;
      declared = all_declared core formed;
    }
