-- Eval at literals, `this` and slots, in regions.
use Rattle.std.specs.Prelude.{◌≡◌, ◌≢◌, ◌⊎◌, ℕ, ◌+◌, ◌<◌, ◌≤◌, Bool, true, false, ◌&&◌, cond, List, [], ◌∷◌, length, Option, Some, None, nat_eq, slice_get, slice_set, refl}
use Rattle.std.proofs.{Common.{inl, inr, ap, sym, subst, ◌∙◌, arith}, lemmas.Bool.{eqb-true, eq-eqb, ne_eqb, and_parts, or_cases, and_right}, lemmas.Option.{same_Some, none-some}}
use Rattle.pc_heap.specs.{declared.value.Value.Value, declared.value.Value.TheVariants.{Num, Truth, Text, Prim, At}}
use Rattle.pc_base.proofs.{Gets.get_set, Options.bind_some, Bools.false_true}
use Rattle.pc_caps.specs.{Tables.{plain, unalias, sendable}, declared.capability.Cap.Cap, declared.capability.Form.Form}
use Rattle.pc_caps.specs.declared.capability.Cap.TheVariants as cap
use Rattle.pc_caps.specs.declared.capability.Form.TheVariants as form
use Rattle.pc_core.specs.{declared.declarations.Method.Method, declared.nodes.Node.Node, declared.nodes.Slot.Slot, CoreData.CoreData, Entities.this_slot}
use Rattle.pc_core.specs.declared.nodes.NodeKind.TheVariants as nodes
use Rattle.pc_masks.specs.{declared.mask.Mask.Mask, Masks.{IsInMask, without_number}, MaskLaws.without_number_bits}
use Rattle.pc_ann.specs.{declared.annotation.Note.Note, declared.annotation.Ann.Ann}
use Rattle.pc_semantics.specs.{declared.frames.Frame.Frame, Configurations.{Around, Goes, pushed, with_slot}, Parts.{push_slot, take_slot}}
use Rattle.pc_semantics.specs.declared.frames.Task.TheVariants as task
use Rattle.pc_rules.specs.{Parts.{reachable, full}, Values.this_form}
use Rattle.pc_valid.specs.Words.{Ty, before}
use Rattle.pc_rules.proofs.ByNumber.{slot_of}
use Rattle.pc_types.proofs.{Types.{OfType, held_in}, Tasks.{Within, Follows, EvalOk, TasksOk}, Moves.Runs, Needs.Needs, Needed.{first_own, not_first}, Basic.of_lower, EvalValue.{not_zero, seen_this, slot_ok}, Places.taken_lower, Inverse.{Says, Used, ThisRule}, Notes.names_fit}
use Rattle.pc_regions.proofs.{World.{Place, InSlot, OnStack, InField, InMail, Opened, World, Seen, Fits, Alias, AliasIn, FitsSome}, StackForms.{Entry, Rises, entry_of, EvalRises, TasksRise}, Fitting.{OpenedTo, ThisFits, SlotsFit, StackFits}, MoveFits.{elsewhere, RegionMoveOk, Situated}, Changes.Shifts, Climbed.ClimbLaw, Shifts.{others_kept, fields_kept, below_kept, shifts_none}, Rising.{Pushes, rise, others_both, not_here, lower_frame}, ChildForms.at_depth, SlotSeen.{slot_read, iso_free, trn_free}, Waiting.slot_depth, Taken.{Free, Takes, TakeLaw}}

-- ---- forms that require nothing

pub tag_fits : (w : World) (p : Place) (v : Value) → Fits w p form.Tag v
tag_fits w p (At a) = tt
tag_fits w p (Num n) = tt
tag_fits w p (Truth b) = tt
tag_fits w p (Text t) = tt
tag_fits w p (Prim e) = tt

pub tag_alias : (w : World) (i b k : ℕ) (v : Value) → Alias w i b k form.Tag v
tag_alias w i b k (At a) = tt
tag_alias w i b k (Num n) = tt
tag_alias w i b k (Truth t) = tt
tag_alias w i b k (Text t) = tt
tag_alias w i b k (Prim e) = tt

-- What a place holds is not an alias.
stored_alias : (w : World) (i b l : ℕ) (k : Cap) (q : ℕ) → AliasIn w i b l (unalias k) q
stored_alias w i b l cap.Iso q = tt
stored_alias w i b l cap.Trn q = tt
stored_alias w i b l cap.Ref q = tt
stored_alias w i b l cap.Val q = tt
stored_alias w i b l cap.Box q = tt
stored_alias w i b l cap.Tag q = tt

pub no_alias : (w : World) (i b l : ℕ) (k : Cap) (v : Value) → Alias w i b l (unalias k) v
no_alias w i b l k (At a) = stored_alias w i b l k (w.region a)
no_alias w i b l k (Num n) = tt
no_alias w i b l k (Truth t) = tt
no_alias w i b l k (Text t) = tt
no_alias w i b l k (Prim e) = tt

-- ---- places that live with one region

pub val_moved : (w : World) (p q : Place) (v : Value) → Fits w p form.Val v → Fits w q form.Val v
val_moved w p q (At a) e = e
val_moved w p q (Num n) e = tt
val_moved w p q (Truth b) e = tt
val_moved w p q (Text t) e = tt
val_moved w p q (Prim n) e = tt

ref_moved : (w : World) (i h s n l k : ℕ) (v : Value) → w.context i l ≡ w.context i k → Fits w (InSlot i h s l) form.Ref v → Fits w (OnStack i h n k) form.Ref v
ref_moved w i h s n l k (At a) is e = e ∙ is
ref_moved w i h s n l k (Num m) is e = tt
ref_moved w i h s n l k (Truth b) is e = tt
ref_moved w i h s n l k (Text t) is e = tt
ref_moved w i h s n l k (Prim m) is e = tt

box_moved : (w : World) (i h s n l k : ℕ) (v : Value) → w.context i l ≡ w.context i k → Fits w (InSlot i h s l) form.Box v → Fits w (OnStack i h n k) form.Box v
box_moved w i h s n l k (At a) is e = subst (λ (u : ℕ). Seen w u (w.region a)) is e
box_moved w i h s n l k (Num m) is e = tt
box_moved w i h s n l k (Truth b) is e = tt
box_moved w i h s n l k (Text t) is e = tt
box_moved w i h s n l k (Prim m) is e = tt

-- ---- one slot

-- This slot of the frame of height h, at any level.
abbrev pub one_slot : (i h s : ℕ) → Place → Bool
one_slot i h s (InSlot j g t l) = nat_eq i j && (nat_eq h g && nat_eq s t)
one_slot i h s (OnStack j g d l) = false
one_slot i h s (InField a f) = false
one_slot i h s (InMail j t f) = false

pub that_slot : (i h s l : ℕ) → one_slot i h s (InSlot i h s l) ≡ true
that_slot i h s l = ap (λ (b : Bool). b && (nat_eq h h && nat_eq s s)) (eq-eqb i i refl) ∙ ap (λ (b : Bool). b && nat_eq s s) (eq-eqb h h refl) ∙ eq-eqb s s refl

other_slot : (i h s t l : ℕ) → s ≢ t → one_slot i h s (InSlot i h t l) ≡ false
other_slot i h s t l n = and_right (nat_eq i i) (nat_eq h h && nat_eq s t) (and_right (nat_eq h h) (nat_eq s t) (ne_eqb s t n))

slot_elsewhere : (i h s : ℕ) (p : Place) → elsewhere i p ≡ true → one_slot i h s p ≡ false
slot_elsewhere i h s (InSlot j g t l) e = not_here (nat_eq i j) (nat_eq h g && nat_eq s t) e
slot_elsewhere i h s (OnStack j g d l) e = refl
slot_elsewhere i h s (InField a f) e = refl
slot_elsewhere i h s (InMail j t f) e = refl

module _ (core : CoreData) (ann : Ann) (needs : Needs core ann) (climb : ClimbLaw core) (take : TakeLaw) (around : Around) (f : Frame) (fs : List Frame) (r : Runs core ann around f fs) (w : World) (n : ℕ) (s : Situated core ann w around f (task.Eval n ∷ f.tasks) fs)
    (e : EvalRises core ann f.method s.active.depth s.active.holds.live s.active.holds.entries n (λ d l g. TasksRise core ann f.method f.tasks d l g)) (t : EvalOk core ann f.method r.held.live r.held.set r.held.wants n (λ l z g. TasksOk core ann f.method f.tasks l z g)) where
  abbrev i : ℕ
  i = around.actor

  abbrev h : ℕ
  h = length fs

  abbrev base : ℕ
  base = s.active.holds.base

  abbrev d : ℕ
  d = s.active.depth

  abbrev place : Place
  place = OnStack i h (length f.stack) (base + d)

  top_at : w.top i ≡ base + d
  top_at = sym s.active.last

  pushes : Pushes core ann w around.objects around.actors i f.method base d s.active.holds.live s.active.holds.entries f.slots f.stack fs
  pushes = record {
    world = s.world;
    fields = s.fields;
    here = s.here;
    top = top_at;
    opened = s.active.opened;
    this_fits = s.active.holds.this_fits;
    slots_fit = s.active.holds.slots_fit;
    stack_fit = s.active.holds.stack_fit;
    wait = s.wait;
  }

  follows_at : (ty : Option Ty) → e.note.ty ≡ ty → Rises core f.method e.note.live_after (at_depth d ty) s.active.holds.entries (λ d l g. TasksRise core ann f.method f.tasks d l g)
  follows_at ty is =
      let at : entry_of e.node e.note ≡ at_depth d ty = ap (λ (k : ℕ). at_depth k e.note.ty) e.depth ∙ ap (at_depth d) is in
      subst (λ (x : Entry). Rises core f.method e.note.live_after x s.active.holds.entries (λ d l g. TasksRise core ann f.method f.tasks d l g)) at e.follows

  -- A value of the note's type, by a node that leaves slots as they are.
  leaf_goes : (ty : Ty) (v : Value) → Says e.note (Some ty) (before e.note) → OfType core around.objects ty v → Fits w place ty.1 v → Alias w i base (base + d) ty.1 v → RegionMoveOk core ann w around fs (Goes (pushed f v))
  leaf_goes ty v q typed fits alias =
      rise core ann climb around.objects around.actors i f.method base d s.active.holds.live s.active.holds.entries f.slots f.stack fs w pushes e.note.live_after (Some ty) v f.tasks
      (subst (λ (m : Mask). Within m s.active.holds.live) (sym q.live) e.live) typed fits alias (follows_at (Some ty) q.ty)

  pub number_goes : (k : ℕ) → Says e.note (Some (1, form.Val)) (before e.note) → RegionMoveOk core ann w around fs (Goes (pushed f (Num k)))
  number_goes k q = leaf_goes (1, form.Val) (Num k) q (record { entity = 1; is_entity = refl; below = inl refl; kind = tt; finished = λ h. tt }) tt tt

  pub truth_goes : (b : Bool) → Says e.note (Some (2, form.Val)) (before e.note) → RegionMoveOk core ann w around fs (Goes (pushed f (Truth b)))
  truth_goes b q = leaf_goes (2, form.Val) (Truth b) q (record { entity = 2; is_entity = refl; below = inl refl; kind = tt; finished = λ h. tt }) tt tt

  pub text_goes : (x : List ℕ) → Says e.note (Some (3, form.Val)) (before e.note) → RegionMoveOk core ann w around fs (Goes (pushed f (Text x)))
  text_goes x q = leaf_goes (3, form.Val) (Text x) q (record { entity = 3; is_entity = refl; below = inl refl; kind = tt; finished = λ h. tt }) tt tt

  pub prim_goes : (p : ℕ) → e.node.kind ≡ nodes.Prim p → Says e.note (Some (p, form.Val)) (before e.note) → RegionMoveOk core ann w around fs (Goes (pushed f (Prim p)))
  prim_goes p is q = leaf_goes (p, form.Val) (Prim p) q (record { entity = p; is_entity = refl; below = inl refl; kind = names_fit core ann needs n e.node e.is_node (nodes.Prim p) is; finished = λ h. tt }) tt tt

  -- ---- the typed evaluation, of the same node and note

  abbrev typed_eval : EvalOk core ann f.method r.held.live r.held.set r.held.wants n (λ l z g. TasksOk core ann f.method f.tasks l z g)
  typed_eval = record {
    node = e.node;
    is_node = e.is_node;
    note = e.note;
    is_note = e.is_note;
    own = e.own;
    live = subst (λ (u : Note). Within u.live_before r.held.live) note_is t.live;
    set = subst (λ (u : Note). Within u.set_before r.held.set) note_is t.set;
    follows = subst (λ (x : Node). Follows core x e.note r.held.wants (λ l z g. TasksOk core ann f.method f.tasks l z g)) node_is
        (subst (λ (u : Note). Follows core t.node u r.held.wants (λ l z g. TasksOk core ann f.method f.tasks l z g)) note_is t.follows);
  }
    where
      node_is : t.node ≡ e.node
      node_is = same_Some t.node e.node (sym t.is_node ∙ e.is_node)

      note_is : t.note ≡ e.note
      note_is = same_Some t.note e.note (sym t.is_note ∙ e.is_note)

  -- ---- `this`

  own_method : slice_get core.methods e.node.method ≡ Some r.held.own
  own_method = ap (slice_get core.methods) e.own ∙ r.held.is_own

  -- The slot of `this` is of depth 0.
  this_depth : (y : Slot × (ℕ × Cap)) → slot_of core ann e.node.method 0 ≡ Some y → y.0.depth ≡ 0
  this_depth y is =
      let a = bind_some (slice_get core.methods e.node.method) _ y is in
      let b = bind_some (slice_get core.slots (a.0.first_slot + 0)) _ y a.2 in
      let c = bind_some (slice_get ann.slots (a.0.first_slot + 0)) _ y b.2 in
      let at : b.0 ≡ y.0 = ap (λ (z : Slot × (ℕ × Cap)). z.0) (same_Some (b.0, c.0) y c.2) in
      let first : b.0 ≡ this_slot e.node.method a.0 = same_Some b.0 (this_slot e.node.method a.0) (sym b.1 ∙ first_own core needs.formed e.node.method a.0 a.1 (not_first core needs.formed n e.node e.is_node)) in
      ap (λ (z : Slot). z.depth) (sym at ∙ first)

  -- What is reachable is of the same depth, or may be sent.
  near_slot : (y : Slot × (ℕ × Cap)) → reachable e.node y ≡ true → (y.0.depth ≡ d) ⊎ (sendable y.1.1 ≡ true)
  near_slot y is =
      elim (or_cases (nat_eq y.0.depth e.node.depth) (sendable y.1.1) is) [
        | inl q ↦ inl (eqb-true y.0.depth e.node.depth q ∙ e.depth)
        | inr q ↦ inr q
      ]

  level_zero : base + 0 ≡ base
  level_zero = omega arith

  this_read : (k : Cap) → k ≡ r.held.own.receiver → (0 ≡ d) ⊎ (sendable k ≡ true) → Fits w place (plain k) r.held.this × Alias w i base (base + d) (plain k) r.held.this
  this_read k is near =
      slot_read w around.objects around.actors i base d s.world s.here top_at s.active.opened h 0 (length f.stack) 0 (omega arith) k r.held.this near
      (subst (λ (l : ℕ). Fits w (InSlot i h 0 l) (unalias k) r.held.this) (sym level_zero)
      (subst (λ (c : Cap). Fits w (InSlot i h 0 base) (unalias c) r.held.this) (sym is) (s.active.holds.this_fits r.held.own r.held.this r.held.is_own r.held.is_this)))

  this_seen : (b : Bool) (k : Cap) → (b ≡ true → Fits w place (plain k) r.held.this × Alias w i base (base + d) (plain k) r.held.this)
      → Fits w place (cond b (plain k) form.Tag) r.held.this × Alias w i base (base + d) (cond b (plain k) form.Tag) r.held.this
  this_seen true k read = read refl
  this_seen false k read = (tag_fits w place r.held.this, tag_alias w i base (base + d) r.held.this)

  pub this_goes : ThisRule core ann e.node e.note → RegionMoveOk core ann w around fs (push_slot f (slice_get f.slots 0))
  this_goes q =
      let own : q.own ≡ r.held.own = same_Some q.own r.held.own (sym q.is_own ∙ own_method) in
      let slot : q.slot.1 ≡ (r.held.own.entity, r.held.own.receiver) = needs.this_slot n e.node r.held.own q.slot e.is_node own_method q.is_slot in
      let ty : Ty = (r.held.own.entity, this_form core e.node r.held.own.entity q.slot e.note.set_before) in
      let said : Says e.note (Some ty) (before e.note) = subst (λ (x : Method). Says e.note (Some (x.entity, this_form core e.node x.entity q.slot e.note.set_before)) (before e.note)) own q.says in
      let typed : OfType core around.objects ty r.held.this = record { entity = r.held.own.entity; is_entity = r.held.this_ok.is_entity; below = inl refl; kind = r.held.this_ok.kind; finished = seen_this core ann needs around f fs r n typed_eval q.slot slot } in
      let read = this_seen (full core r.held.own.entity e.note.set_before && reachable e.node q.slot) q.slot.1.1
      (λ b. this_read q.slot.1.1 (ap (λ (p : ℕ × Cap). p.1) slot)
      (elim (near_slot q.slot (and_parts (full core r.held.own.entity e.note.set_before) (reachable e.node q.slot) b).1) [
        | inl z ↦ inl (sym (this_depth q.slot q.is_slot) ∙ z)
        | inr z ↦ inr z
      ]))
      in
      subst (λ (o : Option (Option Value)). RegionMoveOk core ann w around fs (push_slot f o)) (sym r.held.is_this) (leaf_goes ty r.held.this said typed read.0 read.1)

  -- ---- slots

  module _ (z : ℕ) (low : 0 < z) (p : ℕ × Cap) (u : Used core ann e.node z e.note.live_before p) where
    value_at : Rattle.pc_types.proofs.EvalValue.InSlot core ann needs around f fs r n typed_eval z p
    value_at = slot_ok core ann needs around f fs r n typed_eval z p low u

    slot_here : slot_of core ann f.method z ≡ Some u.slot
    slot_here = subst (λ (m : ℕ). slot_of core ann m z ≡ Some u.slot) e.own u.is_slot

    is_outer : u.slot.0.depth ≤ d
    is_outer = slot_depth core ann f.method z d s.active.holds.live u.slot s.active.not_deeper (e.live z u.live) slot_here

    held_fits : Fits w (InSlot i h z (base + u.slot.0.depth)) (unalias p.1) value_at.value
    held_fits = subst (λ (y : ℕ × Cap). Fits w (InSlot i h z (base + u.slot.0.depth)) (unalias y.1) value_at.value) u.ty (s.active.holds.slots_fit z low (e.live z u.live) value_at.value value_at.is_value u.slot slot_here)

    near_it : (u.slot.0.depth ≡ d) ⊎ (sendable p.1 ≡ true)
    near_it = subst (λ (y : ℕ × Cap). (u.slot.0.depth ≡ d) ⊎ (sendable y.1 ≡ true)) u.ty (near_slot u.slot u.near)

    pub slot_goes : Says e.note (Some (p.0, plain p.1)) (before e.note) → RegionMoveOk core ann w around fs (push_slot f (slice_get f.slots z))
    slot_goes q =
        let read = slot_read w around.objects around.actors i base d s.world s.here top_at s.active.opened h z (length f.stack) u.slot.0.depth is_outer p.1 value_at.value near_it held_fits in
        subst (λ (o : Option (Option Value)). RegionMoveOk core ann w around fs (push_slot f o)) (sym value_at.is_value) (leaf_goes (held_in p) value_at.value q value_at.typed read.0 read.1)

    -- ---- the slot is emptied

    module _ (q : Says e.note (Some (p.0, unalias p.1)) (without_number e.note.live_before z, e.note.set_before)) where
      here_typed : OfType core around.objects (p.0, unalias p.1) value_at.value
      here_typed = of_lower core ann needs around.objects (held_in p) (p.0, unalias p.1) value_at.value (taken_lower core p) value_at.typed

      module _ (v : World) (x : Shifts w v around.objects around.actors i base (one_slot i h z)) (last : v.top i ≡ base + d) (ajar : OpenedTo v i base d) (fits : Fits v place (unalias p.1) value_at.value) where
        this_left : ThisFits core v i h f.method base (slice_set f.slots z None)
        this_left y c a b =
            elim (get_set f.slots z None 0 (Some c) b) [
              | inl k ↦ absurd (not_zero z low k.0)
              | inr k ↦ x.fits (InSlot i h 0 base) (unalias y.receiver) c (other_slot i h z 0 base (λ g. absurd (omega (arith, g, low)))) (s.active.holds.this_fits y c a k)
            ]

        slots_left : SlotsFit core ann v i h f.method base e.note.live_after (slice_set f.slots z None)
        slots_left k up is c at y slot =
            let apart = (without_number_bits e.note.live_before z k).0 (subst (λ (m : Mask). IsInMask m k) q.live is) in
            elim (get_set f.slots z None k (Some c) at) [
              | inl g ↦ absurd (none-some c (sym g.1))
              | inr g ↦ x.fits (InSlot i h k (base + y.0.depth)) (unalias y.1.1) c (other_slot i h z k (base + y.0.depth) (λ same. apart.0 (sym same))) (s.active.holds.slots_fit k up (e.live k apart.1) c g y slot)
            ]

        some_left : (l : ℕ) (b : ℕ) (o : Option Ty) (c : Value) → FitsSome w (OnStack i h l b) o c → FitsSome v (OnStack i h l b) o c
        some_left l b None c k = tt
        some_left l b (Some y) c k = x.fits (OnStack i h l b) y.1 c refl k

        stack_left : (es : List Entry) (vs : List Value) → StackFits w i h base es vs → StackFits v i h base es vs
        stack_left [] [] k = k
        stack_left [] (c ∷ vs) k = k
        stack_left (y ∷ es) [] k = k
        stack_left (y ∷ es) (c ∷ vs) k = (some_left (length vs) (base + y.depth) y.ty c k.0, stack_left es vs k.1)

        left_pushes : Pushes core ann v around.objects around.actors i f.method base d e.note.live_after s.active.holds.entries (slice_set f.slots z None) f.stack fs
        left_pushes = record {
          world = x.world;
          fields = fields_kept w v around.objects around.actors i base (one_slot i h z) x core (λ a k. refl) s.fields;
          here = s.here;
          top = last;
          opened = ajar;
          this_fits = this_left;
          slots_fit = slots_left;
          stack_fit = stack_left s.active.holds.entries f.stack s.active.holds.stack_fit;
          wait = below_kept w v around.objects around.actors i base (one_slot i h z) x core ann h (λ g k l under. lower_frame (nat_eq i i) h g (nat_eq z k) under) (λ g k l under. refl) base f.method fs refl (omega arith) s.wait;
        }

        taken_goes : RegionMoveOk core ann w around fs (Goes (pushed (with_slot f z None) value_at.value))
        taken_goes =
            let up = rise core ann climb around.objects around.actors i f.method base d e.note.live_after s.active.holds.entries (slice_set f.slots z None) f.stack fs v left_pushes e.note.live_after (Some (p.0, unalias p.1)) value_at.value f.tasks
            (λ k b. b) here_typed fits (no_alias v i base (base + d) p.1 value_at.value) (follows_at (Some (p.0, unalias p.1)) q.ty)
            in (
              up.0,
              record {
                world = up.1.world;
                fields = up.1.fields;
                others = others_both w v up.0 i around.actors (others_kept w v around.objects around.actors i base (one_slot i h z) x (λ y g. slot_elsewhere i h z y g)) up.1.others;
                frames = up.1.frames;
              },
            )

      -- What is not `iso` or `trn` is only copied.
      copied : Fits w place (unalias p.1) value_at.value → RegionMoveOk core ann w around fs (Goes (pushed (with_slot f z None) value_at.value))
      copied fits = taken_goes w (shifts_none w around.objects around.actors i base (one_slot i h z) s.world) top_at s.active.opened fits

      abbrev held_at : Place
      held_at = InSlot i h z (base + u.slot.0.depth)

      -- What is, is held by the stack.
      moved : (k : Form) → k ≡ unalias p.1 → Takes w held_at k place → Fits w held_at k value_at.value → Free w i base value_at.value → RegionMoveOk core ann w around fs (Goes (pushed (with_slot f z None) value_at.value))
      moved k is may fits free =
          let above = λ (j : ℕ) (a : base < j) (b : j ≤ w.top i). s.active.opened j a (subst (λ (l : ℕ). j ≤ l) top_at b) in
          let got = take w around.objects around.actors s.world i s.here base above held_at (one_slot i h z) (that_slot i h z (base + u.slot.0.depth)) h (length f.stack) (base + d) (omega (arith, top_at)) k value_at.value fits free may in
          taken_goes got.0 got.1.shifts (got.1.top i ∙ top_at)
          (λ j a b. subst (λ (c : ℕ). got.0.stands c ≡ Opened i) (sym (got.1.context i j s.here (omega (arith, b, top_at)))) (got.1.opened (w.context i j) i (s.active.opened j a b)))
          (subst (λ (o : Form). Fits got.0 place o value_at.value) is got.1.fits)

      same_level : (k : Cap) → p.1 ≡ k → sendable k ≡ false → u.slot.0.depth ≡ d
      same_level k is bound =
          elim near_it [
            | inl c ↦ c
            | inr c ↦ absurd (false_true (sym bound ∙ ap sendable (sym is) ∙ c))
          ]

      as_form : (k : Cap) → p.1 ≡ k → Fits w held_at (unalias k) value_at.value
      as_form k is = subst (λ (c : Cap). Fits w held_at (unalias c) value_at.value) is held_fits

      at_place : (k : Cap) → p.1 ≡ k → Fits w place (unalias k) value_at.value → Fits w place (unalias p.1) value_at.value
      at_place k is fit = subst (λ (c : Cap). Fits w place (unalias c) value_at.value) (sym is) fit

      near_home : (k : Cap) → p.1 ≡ k → sendable k ≡ false → w.context i (base + u.slot.0.depth) ≡ w.context i (base + d)
      near_home k is bound = ap (λ (l : ℕ). w.context i (base + l)) (same_level k is bound)

      emptied : (k : Cap) → p.1 ≡ k → RegionMoveOk core ann w around fs (Goes (pushed (with_slot f z None) value_at.value))
      emptied cap.Iso is = moved form.IsoE (ap unalias (sym is)) tt (as_form cap.Iso is) (iso_free w around.objects around.actors i base d s.world s.here top_at s.active.opened h z (length f.stack) u.slot.0.depth is_outer value_at.value (as_form cap.Iso is))
      emptied cap.Trn is = moved form.TrnE (ap unalias (sym is)) (sym (near_home cap.Trn is refl)) (as_form cap.Trn is) (trn_free w around.objects around.actors i base d s.world s.here top_at s.active.opened h z (length f.stack) u.slot.0.depth is_outer value_at.value (as_form cap.Trn is))
      emptied cap.Ref is = copied (at_place cap.Ref is (ref_moved w i h z (length f.stack) (base + u.slot.0.depth) (base + d) value_at.value (near_home cap.Ref is refl) (as_form cap.Ref is)))
      emptied cap.Val is = copied (at_place cap.Val is (val_moved w held_at place value_at.value (as_form cap.Val is)))
      emptied cap.Box is = copied (at_place cap.Box is (box_moved w i h z (length f.stack) (base + u.slot.0.depth) (base + d) value_at.value (near_home cap.Box is refl) (as_form cap.Box is)))
      emptied cap.Tag is = copied (at_place cap.Tag is (tag_fits w place value_at.value))

      pub consume_goes : RegionMoveOk core ann w around fs (take_slot f z (slice_get f.slots z))
      consume_goes = subst (λ (o : Option (Option Value)). RegionMoveOk core ann w around fs (take_slot f z o)) (sym value_at.is_value) (emptied p.1 refl)
