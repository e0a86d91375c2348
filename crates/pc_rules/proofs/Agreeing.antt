-- Two annotations of a core, node by node: if they agree before a node, and start it from the same masks, they agree at
-- it.
use Rattle.std.specs.Prelude.{◌≡◌, ℕ, ◌+◌, ◌-◌, ◌<◌, ◌≤◌, true, ◌&&◌, nat_eq, length, Some, slice_get, refl}
use Rattle.std.proofs.{Common.{inl, inr, ap, sym, subst, ◌∙◌, arith}, lemmas.Option.{same_Some, none-some}, lemmas.Bool.{cases_lt, and_parts, eqb-true}}
use Rattle.pc_base.proofs.{Gets.{get_below, get_within, get_map, range_get}, Ranges.run_within, Options.{bind_some, kept}, Bools.false_true}
use Rattle.pc_caps.specs.declared.capability.Cap.{Cap}
use Rattle.pc_caps.specs.declared.capability.Cap.TheVariants as cap
use Rattle.pc_core.specs.{declared.declarations.Method.Method, declared.nodes.Slot.Slot, declared.nodes.Node.Node, declared.nodes.NodeKind.NodeKind, CoreData.{CoreData, node_end}, Methods.{LocalFits, BodyFits, UsesSlot}, Entities.this_slot, Nodes.{NamesSlot, NamesFit}, Formed.Formed}
use Rattle.pc_core.specs.declared.nodes.NodeKind.TheVariants as node
use Rattle.pc_base.specs.Lists.{Each}
use Rattle.pc_masks.specs.{declared.mask.Mask.Mask, Masks.{same, first}}
use Rattle.pc_ann.specs.{declared.annotation.Note.Note, declared.annotation.Ann.Ann, declared.annotation.Rule.Rule}
use Rattle.pc_rules.specs.{declared.said.Said.Said, Parts.{through, type_of, one_child, goes_to}, Values.{same_cap, same_place, defined_type, defines}, Control.{start_set, starts_method, result_ok}, Rules.{says, said_by, IsSaid}}
use Rattle.pc_valid.specs.{Words.{Ty, Masks, before}, Valid.KeepsWritten}
use Rattle.pc_rules.proofs.{ByNumber.{slot_of, defined, define_says, body_says}, OneRule.{define_rule, body_rule}, Threads.is_rule_at, Bridge.by_number, Alike.{LooksAlike, slot_same, says_same, type_same, at_one}, Slotted.{slot_known, this_known}}
use Rattle.pc_core.proofs.Homes.{home, home_method}

-- ---- equalities

pub same_mask : (a b : Mask) → same a b ≡ true → a ≡ b
same_mask a b e = ap (λ n. record { 0 = n }) (eqb-true a.0 b.0 e)

abbrev pair : {A B : Type 0} → A → B → A × B
pair x y = (x, y)

pub same_pair : {A B : Type 0} → (a b : A) (c d : B) → a ≡ b → c ≡ d → ◌≡◌ {A = A × B} (a, c) (b, d)
same_pair {A} {B} a b c d e f = ap (λ (x : A). pair x c) e ∙ ap (λ (y : B). pair b y) f

pub caps_equal : (a b : Cap) → same_cap a b ≡ true → a ≡ b
caps_equal cap.Iso cap.Iso e = refl
caps_equal cap.Trn cap.Trn e = refl
caps_equal cap.Ref cap.Ref e = refl
caps_equal cap.Val cap.Val e = refl
caps_equal cap.Box cap.Box e = refl
caps_equal cap.Tag cap.Tag e = refl
caps_equal a b e = absurd (false_true e)

pub places_equal : (a b : ℕ × Cap) → same_place a b ≡ true → a ≡ b
places_equal a b e = let p = and_parts (nat_eq a.0 b.0) (same_cap a.1 b.1) e in same_pair a.0 b.0 a.1 b.1 (eqb-true a.0 b.0 p.0) (caps_equal a.1 b.1 p.1)

pub notes_equal : (s t : Note) → s.rule ≡ t.rule → before s ≡ before t → said_by s ≡ said_by t → s ≡ t
notes_equal s t r m q =
    ap (λ k. record { rule = k; ty = s.ty; live_before = s.live_before; set_before = s.set_before; live_after = s.live_after; set_after = s.set_after }) r
    ∙ ap (λ (k : Masks). record { rule = t.rule; ty = s.ty; live_before = k.0; set_before = k.1; live_after = s.live_after; set_after = s.set_after }) m
    ∙ ap (λ (k : Said). record { rule = t.rule; ty = k.ty; live_before = t.live_before; set_before = t.set_before; live_after = k.live; set_after = k.set }) q

-- ---- slots

pub slot_parts : (core : CoreData) (ann : Ann) (m s : ℕ) (i : Slot × (ℕ × Cap)) → slot_of core ann m s ≡ Some i → (f : Method) → slice_get core.methods m ≡ Some f → (slice_get core.slots (f.first_slot + s) ≡ Some i.0) × (slice_get ann.slots (f.first_slot + s) ≡ Some i.1)
slot_parts core ann m s i e f g =
    let a = bind_some (slice_get core.methods m) _ i e in
    let b = bind_some (slice_get core.slots (a.0.first_slot + s)) _ i a.2 in
    let c = bind_some (slice_get ann.slots (a.0.first_slot + s)) _ i b.2 in
    let is = same_Some _ i c.2 in
    let at : a.0 ≡ f = same_Some a.0 f (sym a.1 ∙ g) in (
      subst (λ (z : Method). slice_get core.slots (z.first_slot + s) ≡ Some i.0) at (b.1 ∙ ap (λ (j : Slot × (ℕ × Cap)). Some j.0) is),
      subst (λ (z : Method). slice_get ann.slots (z.first_slot + s) ≡ Some i.1) at (c.1 ∙ ap (λ (j : Slot × (ℕ × Cap)). Some j.1) is),
    )

-- What a definition determines about its slot's type.
pub record Defined (core : CoreData) (ann : Ann) (x : Node) (s : ℕ) : Type 0 where
  pub child : ℕ
  pub is_child : one_child x.children ≡ Some child
  pub value : Ty
  pub is_value : type_of ann child ≡ Some value
  pub slot : Slot × (ℕ × Cap)
  pub is_slot : slot_of core ann x.method s ≡ Some slot
  pub ty : slot.1 ≡ defined_type slot.0.written value

pub define_inv : (core : CoreData) (ann : Ann) (x : Node) (s : ℕ) (m : Masks) (q : Said) → define_says core ann x s m ≡ Some q → Defined core ann x s
define_inv core ann x s m q e =
    let a = bind_some (one_child x.children) _ q e in
    let b = bind_some (type_of ann a.0) _ q a.2 in
    let c = bind_some (slot_of core ann x.method s) _ q b.2 in
    let d = kept (defines core c.0 b.0) (defined ann x s m) q c.2 in
    let p = and_parts (same_place c.0.1 (defined_type c.0.0.written b.0)) (goes_to core b.0 c.0.1) d.0 in
    record { child = a.0; is_child = a.1; value = b.0; is_value = b.1; slot = c.0; is_slot = c.1; ty = places_equal c.0.1 (defined_type c.0.0.written b.0) p.0 }

-- ---- bodies

pub body_starts : (core : CoreData) (ann : Ann) (x : Node) (m : Masks) (q : Said) (f : Method) → body_says core ann x m ≡ Some q → slice_get core.methods x.method ≡ Some f → m ≡ (first (1 + length f.params), start_set core f)
body_starts core ann x m q f e g =
    let a = bind_some (slice_get core.methods x.method) _ q e in
    let b = bind_some (one_child x.children) _ q a.2 in
    let c = bind_some (slice_get ann.notes b.0) _ q b.2 in
    let d = bind_some (through ann x.children m) _ q c.2 in
    let k = kept (starts_method core a.0 m && result_ok core a.0.kind a.0.result c.0.ty) _ q d.2 in
    let p = and_parts (starts_method core a.0 m) (result_ok core a.0.kind a.0.result c.0.ty) k.0 in
    let r = and_parts (same m.0 (first (1 + length a.0.params))) (same m.1 (start_set core a.0)) p.0 in
    subst (λ (z : Method). m ≡ (first (1 + length z.params), start_set core z)) (same_Some a.0 f (sym a.1 ∙ g))
    (same_pair m.0 (first (1 + length a.0.params)) m.1 (start_set core a.0) (same_mask m.0 (first (1 + length a.0.params)) r.0) (same_mask m.1 (start_set core a.0) r.1))

-- ---- two annotations

pub body_method : (core : CoreData) (m : ℕ) (x : Method) (body : ℕ) (is : x.body ≡ Some body) (fit : BodyFits core m x body) → fit.root.method ≡ m
body_method core m x body is fit =
    let from = fit.from in
    let at : node_end x.first_node x.body ≡ body + 1 = ap (node_end x.first_node) is in
    let end : body < node_end x.first_node x.body = omega (arith, at) in
    fit.own (body - x.first_node) fit.root (range_get core.nodes x.first_node (node_end x.first_node x.body) body fit.root from end fit.is_root)

pub body_says_at : (core : CoreData) (ann : Ann) (x : Node) (t : Note) → x.kind ≡ node.Body → IsSaid core ann x t → body_says core ann x (before t) ≡ Some (said_by t)
body_says_at core ann x t e m = body_rule core ann x (before t) t.rule (said_by t) (by_number core ann x (before t) t.rule node.Body (said_by t) (subst (λ k. says core ann x (before t) t.rule k ≡ Some (said_by t)) e m))

-- They agree on the notes below n, and on the slots that nodes below n define.
pub record Agree (core : CoreData) (a b : Ann) (n : ℕ) : Type 0 where
  pub notes : (k : ℕ) → k < n → slice_get a.notes k ≡ slice_get b.notes k
  pub slots : (d : ℕ) (y : Node) (s : ℕ) (f : Method) → d < n → slice_get core.nodes d ≡ Some y → y.kind ≡ node.Define s → slice_get core.methods y.method ≡ Some f → slice_get a.slots (f.first_slot + s) ≡ slice_get b.slots (f.first_slot + s)

module _ (core : CoreData) (a b : Ann) (formed : Formed core) (wa : KeepsWritten core a) (wb : KeepsWritten core b) where
  pub slots_within : (m : ℕ) (f : Method) → slice_get core.methods m ≡ Some f → f.first_slot + f.slots ≤ length core.slots
  slots_within m f g = (run_within 0 _ (length core.slots) m (f.first_slot, f.slots) formed.slots_follow (get_map (λ y. (y.first_slot, y.slots)) core.methods m f g)).1

  -- A slot whose definition comes before n, or whose type is written.
  pub known_alike : (n m s : ℕ) (f : Method) (y : Slot) → Agree core a b n → slice_get core.methods m ≡ Some f → slice_get core.slots (f.first_slot + s) ≡ Some y → s < f.slots → ((l : LocalFits core m s y) → l.define < n) → slice_get a.slots (f.first_slot + s) ≡ slice_get b.slots (f.first_slot + s)
  known_alike n m s f y same g h l before_n =
      elim (slot_known core m f s y formed g l h) [
        | inl w ↦ wa (f.first_slot + s) y h w.0 w.1 ∙ sym (wb (f.first_slot + s) y h w.0 w.1)
        | inr fit ↦ same.slots fit.define fit.definition s f (before_n fit) fit.is_definition fit.defines (ap (slice_get core.methods) fit.own ∙ g)
      ]

  pub used_alike : (n : ℕ) (x : Node) (s : ℕ) → Agree core a b n → slice_get core.nodes n ≡ Some x → NamesSlot core x.method s → UsesSlot s x.kind → (f : Method) → slice_get core.methods x.method ≡ Some f → slice_get a.slots (f.first_slot + s) ≡ slice_get b.slots (f.first_slot + s)
  used_alike n x s same g names uses f i =
      let l : s < f.slots = subst (λ (z : Method). s < z.slots) (same_Some names.1.0 f (sym names.1.1 ∙ i)) names.1.2 in
      let room = slots_within x.method f i in
      let y = get_within core.slots (f.first_slot + s) (omega (arith, l, room)) in
      known_alike n x.method s f y.0 same i y.1 l (λ fit. (fit.later n x g refl uses).0)

  pub define_alike : (n : ℕ) (x : Node) (s : ℕ) → Agree core a b n → Each (λ i c. c < n) x.children → Defined core a x s → Defined core b x s → (f : Method) → slice_get core.methods x.method ≡ Some f → slice_get a.slots (f.first_slot + s) ≡ slice_get b.slots (f.first_slot + s)
  define_alike n x s same h p q f i =
      let pa = slot_parts core a x.method s p.slot p.is_slot f i in
      let pb = slot_parts core b x.method s q.slot q.is_slot f i in
      let c : p.child ≡ q.child = same_Some p.child q.child (sym p.is_child ∙ q.is_child) in
      let v : p.value ≡ q.value = same_Some p.value q.value (sym p.is_value ∙ type_same a b p.child (at_one a b x.children p.child (λ i d g. same.notes d (h i d g)) p.is_child) ∙ ap (type_of b) c ∙ q.is_value) in
      let y : p.slot.0 ≡ q.slot.0 = same_Some p.slot.0 q.slot.0 (sym pa.0 ∙ pb.0) in
      pa.1 ∙ ap Some (p.ty ∙ ap (λ (z : Slot). defined_type z.written p.value) y ∙ ap (defined_type q.slot.0.written) v ∙ sym q.ty) ∙ sym pb.1

  pub this_alike : (n : ℕ) (x : Node) → slice_get core.nodes n ≡ Some x → (f : Method) → slice_get core.methods x.method ≡ Some f → slice_get a.slots (f.first_slot + 0) ≡ slice_get b.slots (f.first_slot + 0)
  this_alike n x g f i =
      let h = home core n formed (get_below core.nodes n x g) in
      let is : f ≡ h.method = same_Some f h.method (sym i ∙ ap (slice_get core.methods) (home_method core n x h g) ∙ h.is_method) in
      let y = this_known core x.method f h.body formed i (ap (λ (k : Method). k.body) is ∙ h.is_body) in
      wa (f.first_slot + 0) (this_slot x.method f) y (f.entity, f.receiver) refl ∙ sym (wb (f.first_slot + 0) (this_slot x.method f) y (f.entity, f.receiver) refl)

  looks_at : (x : Node) (s i : ℕ) → Some s ≡ Some i → ((f : Method) → slice_get core.methods x.method ≡ Some f → slice_get a.slots (f.first_slot + s) ≡ slice_get b.slots (f.first_slot + s)) → slot_of core a x.method i ≡ slot_of core b x.method i
  looks_at x s i l h = subst (λ j. slot_of core a x.method j ≡ slot_of core b x.method j) (same_Some s i l) (slot_same a b core x.method s h)

  pub use_alike : (n : ℕ) (x : Node) (k : NodeKind) (s : ℕ) → Agree core a b n → slice_get core.nodes n ≡ Some x → x.kind ≡ k → UsesSlot s k → NamesSlot core x.method s → (f : Method) → slice_get core.methods x.method ≡ Some f → slice_get a.slots (f.first_slot + s) ≡ slice_get b.slots (f.first_slot + s)
  use_alike n x k s same g e u names = used_alike n x s same g names (subst (UsesSlot s) (sym e) u)

  -- What node n depends on is the same in both.
  pub looks_alike : (n : ℕ) (x : Node) (k : NodeKind) (m : Masks) (r o : Rule) (p q : Said) → Agree core a b n → slice_get core.nodes n ≡ Some x → Each (λ i c. c < n) x.children → x.kind ≡ k → says core a x m r k ≡ Some p → says core b x m o k ≡ Some q → LooksAlike core a b x.method k
  looks_alike n x node.This m r o p q same g h e u v i l = looks_at x 0 i l (this_alike n x g)
  looks_alike n x (node.Local s) m r o p q same g h e u v i l = looks_at x s i l (use_alike n x (node.Local s) s same g e refl (subst (NamesFit core x.method) e (formed.nodes n x g).names))
  looks_alike n x (node.Consume s) m r o p q same g h e u v i l = looks_at x s i l (use_alike n x (node.Consume s) s same g e refl (subst (NamesFit core x.method) e (formed.nodes n x g).names))
  looks_alike n x (node.Assign s) m r o p q same g h e u v i l = looks_at x s i l (use_alike n x (node.Assign s) s same g e refl (subst (NamesFit core x.method) e (formed.nodes n x g).names))
  looks_alike n x (node.Define s) m r o p q same g h e u v i l = looks_at x s i l (define_alike n x s same h (define_inv core a x s m p (define_rule core a x m r s p (by_number core a x m r (node.Define s) p u))) (define_inv core b x s m q (define_rule core b x m o s q (by_number core b x m o (node.Define s) q v))))
  looks_alike n x k m r o p q same g h e u v i l = absurd (none-some i l)

  -- The note and the slot of node n agree too.
  pub defined_at : (n : ℕ) (x : Node) (k : NodeKind) (m : Masks) (r o : Rule) (p q : Said) (s : ℕ) → Agree core a b n → Each (λ i c. c < n) x.children → k ≡ node.Define s → says core a x m r k ≡ Some p → says core b x m o k ≡ Some q → (f : Method) → slice_get core.methods x.method ≡ Some f → slice_get a.slots (f.first_slot + s) ≡ slice_get b.slots (f.first_slot + s)
  defined_at n x k m r o p q s same h e u v =
      define_alike n x s same h
      (define_inv core a x s m p (define_rule core a x m r s p (by_number core a x m r (node.Define s) p (subst (λ j. says core a x m r j ≡ Some p) e u))))
      (define_inv core b x s m q (define_rule core b x m o s q (by_number core b x m o (node.Define s) q (subst (λ j. says core b x m o j ≡ Some q) e v))))

  pub node_step : (n : ℕ) (x : Node) (s t : Note) → slice_get core.nodes n ≡ Some x → Each (λ i c. c < n) x.children → Agree core a b n → slice_get a.notes n ≡ Some s → slice_get b.notes n ≡ Some t → IsSaid core a x s → IsSaid core b x t → before s ≡ before t → Agree core a b (n + 1)
  node_step n x s t g h same ga gb ma mb m =
      let eb : says core b x (before s) t.rule x.kind ≡ Some (said_by t) = subst (λ k. says core b x k t.rule x.kind ≡ Some (said_by t)) (sym m) mb in
      let looks = looks_alike n x x.kind (before s) s.rule t.rule (said_by s) (said_by t) same g h refl ma eb in
      let ec : says core b x (before s) s.rule x.kind ≡ Some (said_by s) = sym (says_same core a b x (λ i c e. same.notes c (h i c e)) s.rule x.kind (before s) looks) ∙ ma in
      let rule = is_rule_at core b x (before s) s.rule x.kind (said_by s) formed (by_number core b x (before s) s.rule x.kind (said_by s) ec) ∙ sym (is_rule_at core b x (before s) t.rule x.kind (said_by t) formed (by_number core b x (before s) t.rule x.kind (said_by t) eb)) in
      let said = same_Some (said_by s) (said_by t) (sym ec ∙ ap (λ r. says core b x (before s) r x.kind) rule ∙ eb) in
      let eq = notes_equal s t rule m said in
      record {
        notes = λ k l. elim (cases_lt k n) [
          | inl below ↦ same.notes k below
          | inr at ↦ let e : n ≡ k = omega (arith, l, at) in subst (λ j. slice_get a.notes j ≡ slice_get b.notes j) e (ga ∙ ap Some eq ∙ sym gb)
        ];
        slots = λ d y i f l gd kd md. elim (cases_lt d n) [
          | inl below ↦ same.slots d y i f below gd kd md
          | inr at ↦ let e : d ≡ n = omega (arith, l, at) in
              let is : y ≡ x = same_Some y x (sym gd ∙ ap (slice_get core.nodes) e ∙ g) in
              defined_at n x x.kind (before s) s.rule t.rule (said_by s) (said_by t) i same h (sym (ap (λ (z : Node). z.kind) is) ∙ kd) ma eb f (sym (ap (λ (z : Node). slice_get core.methods z.method) is) ∙ md)
        ];
      }
