-- What is known at a node that was reached: the masks from which its children start, and its slots.
use Rattle.std.specs.Prelude.{◌≡◌, ℕ, zero, suc, ◌+◌, ◌<◌, ◌≤◌, Bool, true, false, ◌&&◌, List, [], ◌∷◌, length, Option, Some, None, nat_eq, slice_get, slice_set, refl}
use Rattle.std.proofs.{Common.{ap, sym, subst, ◌∙◌, arith}, lemmas.Bool.eq-eqb, lemmas.List.length-set, lemmas.Option.{same_Some, none-some}}
use Rattle.pc_base.specs.Lists.{◌>>=◌}
use Rattle.pc_base.proofs.{Gets.{get_below, get_within, get_set_same}, Options.{bind_some, bind_is}}
use Rattle.pc_masks.specs.{Masks.same, declared.mask.Mask.Mask}
use Rattle.pc_ann.specs.{declared.annotation.Ann.Ann, declared.annotation.Note.Note}
use Rattle.pc_caps.specs.{Tables.stored, declared.capability.Cap.Cap}
use Rattle.pc_caps.specs.declared.capability.Cap.TheVariants as cap
use Rattle.pc_core.specs.{CoreData.CoreData, declared.declarations.Method.Method, declared.nodes.Node.Node, declared.nodes.Slot.Slot, Entities.this_slot}
use Rattle.pc_core.specs.declared.nodes.NodeKind.TheVariants as node
use Rattle.pc_rules.specs.{Parts.{starts, through_notes, notes_of, slot_of, one_child, type_of}, Values.{same_cap, same_place, defined_type}, Checks.{StartsFrom, is_else}, Checks.StartsFrom.{first_child, else_branch, next_child}}
use Rattle.pc_valid.specs.Words.{Ty, Masks, before, masks_after}
use Rattle.pc_rules.proofs.{Derivations.{to_reaches, to_reached}, Agreeing.slots_within, Homes.children_before, Slotted.this_known}
use Rattle.pc_core.proofs.Homes.{home, home_method}
use Rattle.pc_check.specs.Inference.{with_inferred, inferred_slot, with_inferred_slot, unwritten}
use Rattle.pc_check.proofs.OneFault.{reaches_one}
use Rattle.pc_explain_conditions.specs.Laws.{ReachedNode}

-- ---- the notes of children

pub notes_length : (notes : List Note) (cs : List ℕ) (ns : List Note) → notes_of notes cs ≡ Some ns → length ns ≡ length cs
notes_length notes [] ns e = ap length (sym (same_Some [] ns e))
notes_length notes (c ∷ cs) ns e =
    let t = bind_some (slice_get notes c) _ ns e in
    let ts = bind_some (notes_of notes cs) _ ns t.2 in
    ap length (sym (same_Some (t.0 ∷ ts.0) ns ts.2)) ∙ ap suc (notes_length notes cs ts.0 ts.1)

-- The note of the child with an index.
noted : (notes : List Note) (cs : List ℕ) (ns : List Note) (i : ℕ) (t : Note) → notes_of notes cs ≡ Some ns → slice_get ns i ≡ Some t → (c : ℕ) × (slice_get cs i ≡ Some c) × (slice_get notes c ≡ Some t)
noted notes [] ns i t e g = absurd (none-some t (ap (λ ts. slice_get ts i) (same_Some [] ns e) ∙ g))
noted notes (c ∷ cs) ns zero t e g =
    let a = bind_some (slice_get notes c) _ ns e in
    let b = bind_some (notes_of notes cs) _ ns a.2 in
    let is : Some a.0 ≡ Some t = ap (λ ts. slice_get ts 0) (same_Some (a.0 ∷ b.0) ns b.2) ∙ g in
    (c, refl, a.1 ∙ is)
noted notes (c ∷ cs) ns (suc i) t e g =
    let a = bind_some (slice_get notes c) _ ns e in
    let b = bind_some (notes_of notes cs) _ ns a.2 in
    noted notes cs b.0 i t b.1 (ap (λ ts. slice_get ts (suc i)) (same_Some (a.0 ∷ b.0) ns b.2) ∙ g)

-- ---- where they start

same_refl : (a : Mask) → same a a ≡ true
same_refl a = eq-eqb a.0 a.0 refl

pub starts_at : (t : Note) (m : Masks) → before t ≡ m → starts t m ≡ true
starts_at t m e =
    let one = same_refl t.live_before in
    let own : starts t (before t) ≡ true = ap (λ b. b && same t.set_before t.set_before) one ∙ same_refl t.set_before in
    subst (λ (k : Masks). starts t k ≡ true) e own

module _ (core : CoreData) (ann : Ann) (n : ℕ) (x : Node) (m : Masks) (ns : List Note) (at : ReachedNode core ann n x m ns) where
  -- A child's note starts from masks that reach the child.
  child_before : (i c : ℕ) (t : Note) (k : Masks) → slice_get x.children i ≡ Some c → slice_get ann.notes c ≡ Some t → StartsFrom core ann c k → before t ≡ k
  child_before i c t k e g r =
      let h = to_reached core at.formed ann c (at.prefix.before c (children_before core n x at.formed at.is_at i c e)) in
      let is : h.1 ≡ t = same_Some h.1 t (sym h.3 ∙ g) in
      sym (ap before is) ∙ reaches_one core ann at.formed c (before h.1) k h.5 r

  pub first_before : (t : Note) → slice_get ns 0 ≡ Some t → before t ≡ m
  first_before t e = let c = noted ann.notes x.children ns 0 t at.are_children e in child_before 0 c.0 t m c.1 c.2 (first_child n x at.is_at c.1 (to_reaches core at.formed ann n m at.reaches))

  pub next_before : (i : ℕ) (t u : Note) → is_else x.kind (suc i) ≡ false → slice_get ns (suc i) ≡ Some t → slice_get ns i ≡ Some u → before t ≡ masks_after u
  next_before i t u k e g =
      let c = noted ann.notes x.children ns (suc i) t at.are_children e in
      let d = noted ann.notes x.children ns i u at.are_children g in
      child_before (suc i) c.0 t (masks_after u) c.1 c.2 (next_child n d.0 i x u at.is_at k c.1 d.1 d.2)

  pub else_before : (t u : Note) → x.kind ≡ node.If → slice_get ns 2 ≡ Some t → slice_get ns 0 ≡ Some u → before t ≡ masks_after u
  else_before t u k e g =
      let c = noted ann.notes x.children ns 2 t at.are_children e in
      let d = noted ann.notes x.children ns 0 u at.are_children g in
      child_before 2 c.0 t (masks_after u) c.1 c.2 (else_branch n d.0 x u at.is_at k c.1 d.1 d.2)

  -- Each starts from the masks after the one before it.
  abbrev Follows : List Note → Masks → Type 0
  Follows ts k = ((t : Note) → slice_get ts 0 ≡ Some t → before t ≡ k) × ((i : ℕ) (t u : Note) → slice_get ts (suc i) ≡ Some t → slice_get ts i ≡ Some u → before t ≡ masks_after u)

  follow_through : (ts : List Note) (k : Masks) → Follows ts k → (l : Masks) × (through_notes ts k ≡ Some l)
  follow_through [] k h = (k, refl)
  follow_through (t ∷ ts) k h =
      let more = follow_through ts (masks_after t) ((λ u e. h.1 0 u t e refl), (λ i u w e g. h.1 (suc i) u w e g)) in
      let s = starts_at t k (h.0 t refl) in
      (more.0, ap (λ b. Rattle.std.specs.Prelude.cond b (through_notes ts (masks_after t)) None) s ∙ more.1)

  pub through_at : ((i : ℕ) → is_else x.kind i ≡ false) → (l : Masks) × (through_notes ns m ≡ Some l)
  through_at plain = follow_through ns m (first_before, (λ i t u e g. next_before i t u (plain (suc i)) e g))

  -- ---- slots

  with_length : (o : Option (ℕ × (ℕ × Cap))) → length (with_inferred_slot ann o).slots ≡ length ann.slots
  with_length None = refl
  with_length (Some i) = length-set ann.slots i.0 i.1

  slots_length : length (with_inferred core ann x).slots ≡ length core.slots
  slots_length = with_length (inferred_slot core ann x x.kind) ∙ at.prefix.slots

  -- A slot of the node's method.
  pub slot_at : (s : ℕ) (f : Method) (y : Slot) → slice_get core.methods x.method ≡ Some f → slice_get core.slots (f.first_slot + s) ≡ Some y
      → (ty : ℕ × Cap) × (slice_get (with_inferred core ann x).slots (f.first_slot + s) ≡ Some ty) × (slot_of core (with_inferred core ann x).slots x.method s ≡ Some (y, ty))
  slot_at s f y g h =
      let l = get_below core.slots (f.first_slot + s) y h in
      let count = slots_length in
      let ty = get_within (with_inferred core ann x).slots (f.first_slot + s) (omega (arith, l, count)) in
      (ty.0, ty.1, bind_is (slice_get core.methods x.method) _ f g ∙ bind_is (slice_get core.slots (f.first_slot + s)) _ y h ∙ bind_is (slice_get (with_inferred core ann x).slots (f.first_slot + s)) _ ty.0 ty.1)

  pub slot_there : (s : ℕ) (f : Method) → slice_get core.methods x.method ≡ Some f → s < f.slots → (i : Slot × (ℕ × Cap)) × (slot_of core (with_inferred core ann x).slots x.method s ≡ Some i)
  slot_there s f g l =
      let w = at.prefix.written in
      let room = slots_within core ann ann at.formed w w x.method f g in
      let y = get_within core.slots (f.first_slot + s) (omega (arith, l, room)) in
      let ty = slot_at s f y.0 g y.1 in
      ((y.0, ty.0), ty.2)

  -- `this`.
  pub this_there : (f : Method) → slice_get core.methods x.method ≡ Some f → (i : Slot × (ℕ × Cap)) × (slot_of core (with_inferred core ann x).slots x.method 0 ≡ Some i)
  this_there f g =
      let h = home core n at.formed (get_below core.nodes n x at.is_at) in
      let is : f ≡ h.method = same_Some f h.method (sym g ∙ ap (slice_get core.methods) (home_method core n x h at.is_at) ∙ h.is_method) in
      let y = this_known core x.method f h.body at.formed g (ap (λ (k : Method). k.body) is ∙ h.is_body) in
      let ty = slot_at 0 f (this_slot x.method f) g y in
      ((this_slot x.method f, ty.0), ty.2)

  -- The node's method.
  pub own_method : (f : Method) × (slice_get core.methods x.method ≡ Some f)
  own_method = let h = home core n at.formed (get_below core.nodes n x at.is_at) in (h.method, ap (slice_get core.methods) (home_method core n x h at.is_at) ∙ h.is_method)

  -- ---- the type of the slot that the node defines

  same_cap_refl : (k : Cap) → same_cap k k ≡ true
  same_cap_refl cap.Iso = refl
  same_cap_refl k = refl

  same_place_refl : (p : ℕ × Cap) → same_place p p ≡ true
  same_place_refl p = ap (λ b. b && same_cap p.1 p.1) (eq-eqb p.0 p.0 refl) ∙ same_cap_refl p.1

  -- The only child's type, by its number.
  only_type : (cs : List ℕ) (t : Note) → notes_of ann.notes cs ≡ Some (t ∷ []) → (one_child cs >>= type_of ann) ≡ t.ty
  only_type [] t e = let l = ap length (same_Some [] (t ∷ []) e) in absurd (omega (arith, l))
  only_type (c ∷ []) t e =
      let g = noted ann.notes (c ∷ []) (t ∷ []) 0 t e refl in
      let is : c ≡ g.0 = same_Some c g.0 g.1 in
      ap (λ (o : Option Note). o >>= λ u. u.ty) (ap (slice_get ann.notes) is ∙ g.2)
  only_type (c ∷ d ∷ cs) t e = let l = notes_length ann.notes (c ∷ d ∷ cs) (t ∷ []) e in absurd (omega (arith, l))

  inferred_at : (s : ℕ) (f : Method) (y : Slot) → x.kind ≡ node.Define s → slice_get core.methods x.method ≡ Some f → slice_get core.slots (f.first_slot + s) ≡ Some y
      → inferred_slot core ann x x.kind ≡ (unwritten ann x.children y.written >>= λ v. Some (f.first_slot + s, (v.0, stored v.1)))
  inferred_at s f y k g h = ap (inferred_slot core ann x) k ∙ bind_is (slice_get core.methods x.method) _ f g ∙ bind_is (slice_get core.slots (f.first_slot + s)) _ y h

  pub placed : (s : ℕ) (f : Method) (y : Slot) (t : Note) (v : Ty) (w : Option (ℕ × Cap)) → x.kind ≡ node.Define s → slice_get core.methods x.method ≡ Some f → s < f.slots → slice_get core.slots (f.first_slot + s) ≡ Some y → y.written ≡ w
      → notes_of ann.notes x.children ≡ Some (t ∷ []) → t.ty ≡ Some v → slice_get (with_inferred core ann x).slots (f.first_slot + s) ≡ Some (defined_type w v)
  placed s f y t v (Some ty) k g l h e are is =
      let none : inferred_slot core ann x x.kind ≡ None = inferred_at s f y k g h ∙ ap (λ o. unwritten ann x.children o >>= λ v. Some (f.first_slot + s, (v.0, stored v.1))) e in
      ap (λ o. slice_get (with_inferred_slot ann o).slots (f.first_slot + s)) none ∙ at.prefix.written (f.first_slot + s) y h ty e
  placed s f y t v None k g l h e are is =
      let some : inferred_slot core ann x x.kind ≡ Some (f.first_slot + s, (v.0, stored v.1)) =
      inferred_at s f y k g h ∙ ap (λ o. unwritten ann x.children o >>= λ v. Some (f.first_slot + s, (v.0, stored v.1))) e
      ∙ ap (λ o. o >>= λ v. Some (f.first_slot + s, (v.0, stored v.1))) (only_type x.children t are ∙ is) in
      let room = slots_within core ann ann at.formed at.prefix.written at.prefix.written x.method f g in
      let count = at.prefix.slots in
      ap (λ o. slice_get (with_inferred_slot ann o).slots (f.first_slot + s)) some ∙ get_set_same ann.slots (f.first_slot + s) (v.0, stored v.1) (omega (arith, l, room, count))

  pub define_place : (s : ℕ) (f : Method) (y : Slot) (ty : ℕ × Cap) (t : Note) (v : Ty) → x.kind ≡ node.Define s → slice_get core.methods x.method ≡ Some f → s < f.slots → slice_get core.slots (f.first_slot + s) ≡ Some y
      → slice_get (with_inferred core ann x).slots (f.first_slot + s) ≡ Some ty → notes_of ann.notes x.children ≡ Some (t ∷ []) → t.ty ≡ Some v → same_place ty (defined_type y.written v) ≡ true
  define_place s f y ty t v k g l h e are is =
      let p = placed s f y t v y.written k g l h refl are is in
      subst (λ (q : ℕ × Cap). same_place q (defined_type y.written v) ≡ true) (same_Some (defined_type y.written v) ty (sym p ∙ e)) (same_place_refl (defined_type y.written v))
