-- The task Store, by regions: a definition or an assignment of a slot, which holds no value before or an old one, which is pushed.
use Rattle.std.specs.Prelude.{◌≡◌, ◌⊎◌, ℕ, suc, ◌+◌, ◌<◌, ◌≤◌, true, false, ◌||◌, List, ◌∷◌, length, Option, Some, None, slice_get, refl}
use Rattle.std.proofs.{Common.{inl, inr, ap, sym, subst, ◌∙◌, arith}, lemmas.Bool.{and_parts, or_from}, lemmas.Option.{same_Some, none-some}}
use Rattle.pc_heap.specs.declared.value.Value.{Value}
use Rattle.pc_caps.specs.{Computed.{is_below, fits}, Tables.{unalias, sendable}, declared.capability.Cap.Cap, declared.capability.Form.Form}
use Rattle.pc_core.specs.{declared.nodes.Slot.Slot, CoreData.CoreData, Nodes.NamesSlot, declared.nodes.NodeKind.NodeKind}
use Rattle.pc_masks.specs.{declared.mask.Mask.Mask, Masks.{IsInMask, with_number}, MaskLaws.with_number_bits}
use Rattle.pc_ann.specs.{declared.annotation.Ann.Ann, declared.annotation.Rule.Rule}
use Rattle.pc_semantics.specs.{declared.frames.Frame.Frame, Configurations.{Around, with_stack}, Parts.{value_or_none, with_top, held}, Calls.{store, store_task}}
use Rattle.pc_semantics.specs.declared.frames.Task.TheVariants as task
use Rattle.pc_sub.specs.Computed.{is_sub}
use Rattle.pc_rules.specs.{Parts.type_of, Rules.said_by}
use Rattle.pc_valid.specs.Words.{Ty, Masks, before}
use Rattle.pc_core.specs.declared.nodes.NodeKind.TheVariants as nodes
use Rattle.pc_ann.specs.declared.annotation.Rule.TheVariants as rule
use Rattle.pc_rules.proofs.{ByNumber.{slot_of, says}, OneRule.define_rule}
use Rattle.pc_base.proofs.Bools.{false_true}
use Rattle.pc_types.proofs.{Types.OfSome, Tasks.{FinishOk, stores, TasksOk}, Moves.Runs, Needs.Needs, Needed.not_first, Finish.{one_top, rule_is}, StoreTask.{StoreRule, old_ok, room, define_is, assign_is}, Notes.names_fit}
use Rattle.pc_regions.proofs.{World.{Place, InSlot, OnStack, InField, InMail, World, Fits, FitsSome, AliasSome, WorldOk}, StackForms.{Entry, FinishRises, TasksRise, piled, LiveShallow}, Fitting.StackFits, MoveFits.{Situated, RegionMoveOk}, Changes.Shifts, Settled.{Near, SettleLaw}, Climbed.ClimbLaw, ArgumentsSettle.{near_home, near_sent, sent_form, the_place, one_later, other_place, PassedOne, pass_near}, ValueKeeps.{no_alias, one_slot}, Shifts.{shifts_both, lower_shift, wider}, SlotTaken.slot_taken, SlotStored.{stored_gone, stored_goes}, ControlKeeps.same_below, FieldPut.other_depth, Taken.TakeLaw, CallBegins.finish_at, Schedules.KeepsRegions, Waiting.slot_depth, SlotDepth.{define_depth, assign_near}}

-- From the stack to the slot: the place lives with the same region, or the form may be sent.
near_stored : (w : World) (i h s n c d base : ℕ) (f : Form) (k : Cap) → (c ≡ d) ⊎ (sendable k ≡ true) → Near w (OnStack i h n (base + d)) f (unalias k) (InSlot i h s (base + c))
near_stored w i h s n c d base f k (inl e) = near_home w (OnStack i h n (base + d)) f (unalias k) (InSlot i h s (base + c)) (ap (λ (l : ℕ). w.context i (base + l)) e)
near_stored w i h s n c d base f k (inr e) = near_sent w (OnStack i h n (base + d)) f (unalias k) (InSlot i h s (base + c)) (sent_form k e)

-- A slot or a place of the stack that is left is one of all these.
slot_among : (i h s n : ℕ) (p : Place) → stored_gone i h s n p ≡ false → one_slot i h s p ≡ false
slot_among i h s n (InSlot j g t l) e = e
slot_among i h s n (OnStack j g d l) e = refl
slot_among i h s n (InField a k) e = refl
slot_among i h s n (InMail j t k) e = refl

place_among : (i h s n m : ℕ) → n ≤ m → (p : Place) → stored_gone i h s n p ≡ false → the_place i h m p ≡ false
place_among i h s n m up (InSlot j g t l) e = refl
place_among i h s n m up (OnStack j g d l) e = one_later i h n m up (OnStack j g d l) e
place_among i h s n m up (InField a k) e = refl
place_among i h s n m up (InMail j t k) e = refl

module _ (settle : SettleLaw) (take : TakeLaw) (core : CoreData) (climb : ClimbLaw core) (ann : Ann) (needs : Needs core ann) (around : Around) (f : Frame) (fs : List Frame) (r : Runs core ann around f fs) (n : ℕ)
    (w : World) (s : Situated core ann w around f (task.Store n ∷ f.tasks) fs)
    (g : FinishRises core ann f.method s.active.depth s.active.holds.live s.active.holds.entries stores n (λ d l st. TasksRise core ann f.method f.tasks d l st))
    (z : ℕ) (low : 0 < z) (has_room : z < length f.slots) (y : Slot × (ℕ × Cap)) (is_slot : slot_of core ann f.method z ≡ Some y) (left : g.note.live_after ≡ with_number g.behind.0 z) (v : Value) (rest : List Value) (fits_rest : StackFits w around.actor (length fs) s.active.holds.base g.below rest)
    (near : (y.0.depth ≡ s.active.depth) ⊎ (sendable y.1.1 ≡ true)) (outer : y.0.depth ≤ s.active.depth) (form : Form) (less : is_below form (unalias y.1.1) ≡ true)
    (fit : Fits w (OnStack around.actor (length fs) (length rest) (s.active.holds.base + s.active.depth)) form v) where
  pub level_ok : s.active.holds.base + s.active.depth ≤ s.active.holds.base + s.active.depth
  level_ok = omega arith

  slot_level : s.active.holds.base + y.0.depth ≤ s.active.holds.base + s.active.depth
  slot_level = omega (arith, outer)

  base_level : (t : ℕ) → t ≡ s.active.holds.base + s.active.depth → s.active.holds.base ≤ t
  base_level t e = omega (arith, e)

  open_level : (j t : ℕ) → t ≡ s.active.holds.base + s.active.depth → j ≤ s.active.holds.base + s.active.depth → j ≤ t
  open_level j t e k = omega (arith, e, k)

  -- The value settles in the slot.
  pub in_slot : (u : World) → WorldOk u around.objects around.actors → (top : u.top around.actor ≡ s.active.holds.base + s.active.depth)
      → Fits u (OnStack around.actor (length fs) (length rest) (s.active.holds.base + s.active.depth)) form v
      → PassedOne core ann settle around.objects around.actors around.actor (length fs) (s.active.holds.base + s.active.depth) (s.active.holds.base + s.active.depth) s.here level_ok u (length rest) (InSlot around.actor (length fs) z (s.active.holds.base + y.0.depth)) (unalias y.1.1) v
  in_slot u ok top at =
      pass_near core ann settle around.objects around.actors around.actor (length fs) (s.active.holds.base + s.active.depth) (s.active.holds.base + s.active.depth) s.here level_ok u ok top (length rest)
      (InSlot around.actor (length fs) z (s.active.holds.base + y.0.depth)) form (unalias y.1.1) v less at
      (near_stored u around.actor (length fs) z (length rest) y.0.depth s.active.depth s.active.holds.base form y.1.1 near) (refl, subst (λ (t : ℕ). s.active.holds.base + y.0.depth ≤ t) (sym top) slot_level)

  is_top : w.top around.actor ≡ s.active.holds.base + s.active.depth
  is_top = sym s.active.last

  -- There is no old value that is looked at.
  pub without_old : g.note.ty ≡ None → RegionMoveOk core ann w around fs (store z v (with_stack f rest))
  without_old none =
      let i : ℕ = around.actor in
      let one = in_slot w s.world is_top fit in
      let old : Value = value_or_none (held (slice_get f.slots z)) in
      let x : Shifts w one.world around.objects around.actors i s.active.holds.base (stored_gone i (length fs) z (length rest)) =
      wider w one.world around.objects around.actors i s.active.holds.base (the_place i (length fs) (length rest)) (stored_gone i (length fs) z (length rest)) (λ p e. place_among i (length fs) z (length rest) (length rest) (omega arith) p e)
      (lower_shift w one.world around.objects around.actors i (w.top i) s.active.holds.base (the_place i (length fs) (length rest)) (base_level (w.top i) is_top) one.calm.shifts)
      in
      stored_goes core climb ann needs around f fs r n w s g z low has_room y is_slot left v rest fits_rest one.world x (one.calm.top i ∙ is_top)
      (λ j up to. ap one.world.stands (one.calm.context i j s.here (open_level j (w.top i) is_top to)) ∙ one.calm.opened (w.context i j) i (s.active.opened j up to))
      one.fits
      (subst (λ (o : Option Ty). OfSome core around.objects o old) (sym none) tt)
      (subst (λ (o : Option Ty). FitsSome one.world (OnStack i (length fs) (length rest) (s.active.holds.base + s.active.depth)) o old) (sym none) tt)
      (subst (λ (o : Option Ty). AliasSome one.world i s.active.holds.base (s.active.holds.base + s.active.depth) o old) (sym none) tt)

  -- The old value comes to the stack, above the new one, which settles; then it takes its place.
  pub with_old : (old : Value) → value_or_none (held (slice_get f.slots z)) ≡ old → (e : ℕ) → g.note.ty ≡ Some (e, unalias y.1.1) → OfSome core around.objects g.note.ty old
      → Fits w (InSlot around.actor (length fs) z (s.active.holds.base + y.0.depth)) (unalias y.1.1) old → RegionMoveOk core ann w around fs (store z v (with_stack f rest))
  with_old old is e ty typed was =
      let i : ℕ = around.actor in
      let h : ℕ = length fs in
      let m : ℕ = length rest in
      let base : ℕ = s.active.holds.base in
      let lv : ℕ = s.active.holds.base + s.active.depth in
      let k : Form = unalias y.1.1 in
      let up = slot_taken take w around.objects around.actors i base s.active.depth s.world s.here is_top s.active.opened h z (suc m) y.0.depth outer old y.1.1 near was in
      let a : World = up.world in
      let top_a : a.top i ≡ lv = up.last ∙ is_top in
      let one = in_slot a up.shifts.world top_a (up.shifts.fits (OnStack i h m lv) form v refl fit) in
      let b : World = one.world in
      let top_b : b.top i ≡ lv = one.calm.top i ∙ top_a in
      let two = pass_near core ann settle around.objects around.actors i h lv lv s.here level_ok b one.calm.shifts.world top_b (suc m) (OnStack i h m lv) k k old (same_below k)
      (one.calm.shifts.fits (OnStack i h (suc m) lv) k old (other_place i h m (suc m) lv (λ q. other_depth m (sym q))) up.fits)
      (near_home b (OnStack i h (suc m) lv) k k (OnStack i h m lv) refl) (refl, subst (λ (t : ℕ). lv ≤ t) (sym top_b) level_ok)
      in
      let u : World = two.world in
      let gone = stored_gone i h z m in
      let xa : Shifts w a around.objects around.actors i base gone = wider w a around.objects around.actors i base (one_slot i h z) gone (λ p q. slot_among i h z m p q) up.shifts in
      let xb : Shifts a b around.objects around.actors i base gone = wider a b around.objects around.actors i base (the_place i h m) gone (λ p q. place_among i h z m m (omega arith) p q)
      (lower_shift a b around.objects around.actors i (a.top i) base (the_place i h m) (base_level (a.top i) top_a) one.calm.shifts)
      in
      let xu : Shifts b u around.objects around.actors i base gone = wider b u around.objects around.actors i base (the_place i h (suc m)) gone (λ p q. place_among i h z m (suc m) (omega arith) p q)
      (lower_shift b u around.objects around.actors i (b.top i) base (the_place i h (suc m)) (base_level (b.top i) top_b) two.calm.shifts)
      in
      let thrice = λ (p : Place) (q : gone p ≡ false). or_from (gone p || gone p) (gone p) (or_from (gone p) (gone p) q q) q in
      let x : Shifts w u around.objects around.actors i base gone =
      wider w u around.objects around.actors i base (λ p. (gone p || gone p) || gone p) gone thrice
      (shifts_both w b u around.objects around.actors i base (λ p. gone p || gone p) gone (shifts_both w a b around.objects around.actors i base gone gone xa xb) xu)
      in
      stored_goes core climb ann needs around f fs r n w s g z low has_room y is_slot left v rest fits_rest u x (two.calm.top i ∙ top_b)
      (λ j above to.
      ap u.stands (two.calm.context i j s.here (open_level j (b.top i) top_b to)) ∙ two.calm.opened (b.context i j) i
      (ap b.stands (one.calm.context i j s.here (open_level j (a.top i) top_a to)) ∙ one.calm.opened (a.context i j) i (up.ajar j above to)))
      (two.calm.shifts.fits (InSlot i h z (base + y.0.depth)) k v refl one.fits)
      (subst (λ (c : Value). OfSome core around.objects g.note.ty c) (sym is) typed)
      (subst (λ (c : Value). FitsSome u (OnStack i h m lv) g.note.ty c) (sym is) (subst (λ (o : Option Ty). FitsSome u (OnStack i h m lv) o old) (sym ty) two.fits))
      (subst (λ (c : Value). AliasSome u i base lv g.note.ty c) (sym is) (subst (λ (o : Option Ty). AliasSome u i base lv o old) (sym ty) (no_alias u i base lv y.1.1 old)))

-- ---- definitions and assignments

module _ (settle : SettleLaw) (take : TakeLaw) (core : CoreData) (climb : ClimbLaw core) (ann : Ann) (flat : LiveShallow core ann) (needs : Needs core ann) (around : Around) (f : Frame) (fs : List Frame) (r : Runs core ann around f fs) (n : ℕ)
    (e : FinishOk core ann f.method r.held.live r.held.set r.held.wants stores n (λ l s g. TasksOk core ann f.method f.tasks l s g)) (w : World) (s : Situated core ann w around f (task.Store n ∷ f.tasks) fs)
    (g : FinishRises core ann f.method s.active.depth s.active.holds.live s.active.holds.entries stores n (λ d l st. TasksRise core ann f.method f.tasks d l st)) where
  abbrev me : FinishOk core ann f.method r.held.live r.held.set r.held.wants stores n (λ l s g. TasksOk core ann f.method f.tasks l s g)
  me = finish_at core ann f.method r.held.live r.held.set r.held.wants stores n (λ l s g. TasksOk core ann f.method f.tasks l s g) e g.node g.note g.is_node g.is_note

  few : (z a : ℕ) → z < a → a ≤ 64 → z < 64
  few z a k l = omega (arith, k, l)

  stored : (z : ℕ) → NamesSlot core g.node.method z → (q : StoreRule core ann g.node g.note e.behind z) → (q.slot.0.depth ≡ g.node.depth) ⊎ (sendable q.slot.1.1 ≡ true) → RegionMoveOk core ann w around fs (with_top f f.stack (store z))
  stored z names q near =
      let t = one_top core ann needs around f fs r stores n me q.child q.children in
      let pile : s.active.holds.entries ≡ record { ty = type_of ann q.child; depth = s.active.depth } ∷ g.below = g.stack ∙ ap (λ (ds : List ℕ). piled ann s.active.depth ds g.below) q.children in
      let fit : FitsSome w (OnStack around.actor (length fs) (length t.below) (s.active.holds.base + s.active.depth)) (type_of ann q.child) t.top × StackFits w around.actor (length fs) s.active.holds.base g.below t.below =
      subst (λ (vs : List Value). StackFits w around.actor (length fs) s.active.holds.base (record { ty = type_of ann q.child; depth = s.active.depth } ∷ g.below) vs) t.is
      (subst (λ (es : List Entry). StackFits w around.actor (length fs) s.active.holds.base es f.stack) pile s.active.holds.stack_fit)
      in
      let same : e.behind ≡ g.behind = same_Some e.behind g.behind (sym me.is_behind ∙ g.is_behind) in
      let left : g.note.live_after ≡ with_number g.behind.0 z = q.says.live ∙ ap (λ (m : Masks). with_number m.0 z) same in
      let is_slot : slot_of core ann f.method z ≡ Some q.slot = subst (λ (m : ℕ). slot_of core ann m z ≡ Some q.slot) g.own q.is_slot in
      let bit : IsInMask g.note.live_after z = subst (λ (m : Mask). IsInMask m z) (sym left) ((with_number_bits g.behind.0 z z).1 (inl (refl, few z names.1.0.slots names.1.2 (needs.formed.methods g.node.method names.1.0 names.1.1).few_slots))) in
      let outer : q.slot.0.depth ≤ s.active.depth = subst (λ (d : ℕ). q.slot.0.depth ≤ d) g.depth (slot_depth core ann g.node.method z g.node.depth g.note.live_after q.slot ((flat n g.node g.note g.is_node g.is_note).1 (λ b. false_true (sym (ap stores b) ∙ g.kind))) bit q.is_slot) in
      let close : (q.slot.0.depth ≡ s.active.depth) ⊎ (sendable q.slot.1.1 ≡ true) = elim near [ inl k ↦ inl (k ∙ g.depth) | inr k ↦ inr k ] in
      let less = (and_parts (is_sub core q.value.0 q.slot.1.0) (fits q.value.1 q.slot.1.1) q.goes).1 in
      let typed : OfSome core around.objects g.note.ty (value_or_none (held (slice_get f.slots z))) = subst (λ (o : Option Ty). OfSome core around.objects o (value_or_none (held (slice_get f.slots z)))) (sym q.says.ty) (old_ok core ann needs around f fs r n me z names q) in
      let value = subst (λ (o : Option Ty). FitsSome w (OnStack around.actor (length fs) (length t.below) (s.active.holds.base + s.active.depth)) o t.top) q.is_value fit.0 in
      subst (λ (vs : List Value). RegionMoveOk core ann w around fs (with_top f vs (store z))) (sym t.is)
      (elim q.is_old [
        | inl none ↦ without_old settle take core climb ann needs around f fs r n w s g z names.0 (room core ann needs around f fs r n me z names q) q.slot is_slot left t.top t.below fit.1 close outer q.value.1 less value (q.says.ty ∙ none)
        | inr there ↦ let old = r.held.slots_ok z names.0 (e.live z there.0) in
            let is : value_or_none (held (slice_get f.slots z)) ≡ old.0 = ap (λ (o : Option (Option Value)). value_or_none (held o)) old.2 in
            with_old settle take core climb ann needs around f fs r n w s g z names.0 (room core ann needs around f fs r n me z names q) q.slot is_slot left t.top t.below fit.1 close outer q.value.1 less value
            old.0 is q.slot.1.0 (q.says.ty ∙ there.1) (subst (λ (v : Value). OfSome core around.objects g.note.ty v) is typed)
            (s.active.holds.slots_fit z names.0 (g.live z (subst (λ (m : Masks). IsInMask m.0 z) same there.0)) old.0 old.2 q.slot is_slot)
      ])

  rule_of : (z : ℕ) (k : Rule) → says core ann g.node (before g.note) k (nodes.Assign z) ≡ Some (said_by g.note) → (q : StoreRule core ann g.node g.note e.behind z) × ((q.slot.0.depth ≡ g.node.depth) ⊎ (sendable q.slot.1.1 ≡ true))
  rule_of z rule.Assign h = let q = assign_is core ann g.node g.note e.behind me.is_behind z h in (q, assign_near core ann g.node g.note z h q.slot q.is_slot)
  rule_of z k h = absurd (none-some (said_by g.note) h)

  store_kind : (k : NodeKind) → g.node.kind ≡ k → stores k ≡ true → says core ann g.node (before g.note) g.note.rule k ≡ Some (said_by g.note) → RegionMoveOk core ann w around fs (store_task f k)
  store_kind (nodes.Define z) is h said =
      let q = define_is core ann g.node g.note e.behind me.is_behind z (define_rule core ann g.node (before g.note) g.note.rule z (said_by g.note) said) in
      stored z (needs.defined_slot n z g.node g.is_node is) q (inl (define_depth core ann needs.formed n z g.node g.is_node is (not_first core needs.formed n g.node g.is_node) q.slot q.is_slot))
  store_kind (nodes.Assign z) is h said = let q = rule_of z g.note.rule said in stored z (names_fit core ann needs n g.node g.is_node (nodes.Assign z) is) q.0 q.1
  store_kind k is h said = absurd (false_true h)

pub regions_store : SettleLaw → TakeLaw → ((core : CoreData) (ann : Ann) → Needs core ann → ClimbLaw core) → ((core : CoreData) (ann : Ann) → Needs core ann → LiveShallow core ann) → (n : ℕ) → KeepsRegions (task.Store n)
regions_store settle take climb flat n core ann needs around f fs r e w s =
    let g = s.tasks in
    rw (g.is_node) (store_kind settle take core (climb core ann needs) ann (flat core ann needs) needs around f fs r n e w s g g.node.kind refl g.kind
    (rule_is core ann needs around f fs r stores n (finish_at core ann f.method r.held.live r.held.set r.held.wants stores n (λ l s g. TasksOk core ann f.method f.tasks l s g) e g.node g.note g.is_node g.is_note)))
