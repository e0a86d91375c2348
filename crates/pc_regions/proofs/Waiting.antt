-- Frames that wait fit if the values at their places do, up to their levels, and the regions that are open for them
-- stay so: nothing of such a frame is at a higher level than the node that waits, and the frame above begins at none
-- below.
use Rattle.std.specs.Prelude.{◌≡◌, ◌⊎◌, ◌≤◌, ℕ, suc, ◌+◌, ◌<◌, List, [], ◌∷◌, length, Option, Some, None, slice_get}
use Rattle.std.proofs.{Common.{inl, inr, ap, subst, arith}, lemmas.Option.same_Some}
use Rattle.pc_heap.specs.declared.value.Value.{Value}
use Rattle.pc_caps.specs.{declared.capability.Cap.Cap, declared.capability.Form.Form}
use Rattle.pc_core.specs.{declared.declarations.Method.Method, declared.nodes.Slot.Slot, CoreData.CoreData, declared.declarations.MethodKind.MethodKind}
use Rattle.pc_base.proofs.Options.{bind_some}
use Rattle.pc_masks.specs.{declared.mask.Mask.Mask, Masks.IsInMask}
use Rattle.pc_ann.specs.declared.annotation.Ann.{Ann}
use Rattle.pc_semantics.specs.declared.frames.Frame.{Frame}
use Rattle.pc_valid.specs.Words.{Ty}
use Rattle.pc_rules.proofs.ByNumber.{slot_of}
use Rattle.pc_core.specs.declared.declarations.MethodKind.TheVariants as method
use Rattle.pc_regions.proofs.{World.{Over, World, Opened, InSlot, OnStack, Fits, FitsSome}, StackForms.{Entry, Ascent, Joins, Decides, Recovers, Shallow, SlotsShallow, ascend, top_of}, Fitting.{StackFits, ThisFits, SlotsFit, Entered, Awaits, WaitFits, Holds}}

-- A value that goes up becomes no deeper.
ascends_down : (a : Ascent) (e : Entry) → (ascend a e).depth ≤ e.depth
ascends_down (Joins t) e = omega arith
ascends_down Decides e = omega arith
ascends_down (Recovers k) e = omega arith

pub top_down : (way : List Ascent) (e : Entry) → (top_of way e).depth ≤ e.depth
top_down [] e = omega arith
top_down (a ∷ way) e = both_down (top_of way (ascend a e)).depth (ascend a e).depth e.depth (top_down way (ascend a e)) (ascends_down a e)
  where
    both_down : (a b c : ℕ) → a ≤ b → b ≤ c → a ≤ c
    both_down a b c m n = omega (arith, m, n)

-- The depth of a live slot.
pub slot_depth : (core : CoreData) (ann : Ann) (m s d : ℕ) (live : Mask) (y : Slot × (ℕ × Cap)) → SlotsShallow core m live d → IsInMask live s → slot_of core ann m s ≡ Some y → y.0.depth ≤ d
slot_depth core ann m s d live y flat is e =
    let a = bind_some (slice_get core.methods m) _ y e in
    let b = bind_some (slice_get core.slots (a.0.first_slot + s)) _ y a.2 in
    let c = bind_some (slice_get ann.slots (a.0.first_slot + s)) _ y b.2 in
    let at : b.0 ≡ y.0 = ap (λ (z : Slot × (ℕ × Cap)). z.0) (same_Some (b.0, c.0) y c.2) in
    subst (λ (z : Slot). z.depth ≤ d) at (flat s a.0 b.0 is a.1 b.1)

level_low : (base d c b : ℕ) → d ≤ c → base + c ≤ b → base + d ≤ b
level_low base d c b m n = omega (arith, m, n)

-- ---- one frame, of which this is kept up to a level

module _ (w w' : World) (i h top : ℕ)
    (in_slot : (s l : ℕ) (f : Form) (v : Value) → l ≤ top → Fits w (InSlot i h s l) f v → Fits w' (InSlot i h s l) f v) (most : ℕ)
    (on_stack : (d l : ℕ) (f : Form) (v : Value) → d < most → l ≤ top → Fits w (OnStack i h d l) f v → Fits w' (OnStack i h d l) f v) where
  pub this_low : (core : CoreData) (m base : ℕ) (slots : List (Option Value)) → base ≤ top → ThisFits core w i h m base slots → ThisFits core w' i h m base slots
  this_low core m base slots low k x v is at = in_slot 0 base _ v low (k x v is at)

  pub slots_low : (core : CoreData) (ann : Ann) (m base d : ℕ) (live : Mask) (slots : List (Option Value)) → base + d ≤ top → SlotsShallow core m live d → SlotsFit core ann w i h m base live slots → SlotsFit core ann w' i h m base live slots
  slots_low core ann m base d live slots low flat k s up is v at y e =
      in_slot s (base + y.0.depth) _ v (level_low base y.0.depth d top (slot_depth core ann m s d live y flat is e) low) (k s up is v at y e)

  some_low : (n l : ℕ) (t : Option Ty) (v : Value) → n < most → l ≤ top → FitsSome w (OnStack i h n l) t v → FitsSome w' (OnStack i h n l) t v
  some_low n l None v under low k = tt
  some_low n l (Some t) v under low k = on_stack n l t.1 v under low k

  pub stack_low : (base d : ℕ) (es : List Entry) (vs : List Value) → base + d ≤ top → length vs ≤ most → Shallow es d → StackFits w i h base es vs → StackFits w' i h base es vs
  stack_low base d [] [] low few flat k = k
  stack_low base d [] (v ∷ vs) low few flat k = k
  stack_low base d (e ∷ es) [] low few flat k = k
  stack_low base d (e ∷ es) (v ∷ vs) low few flat k =
      (some_low (length vs) (base + e.depth) e.ty v (omega (arith, few)) (level_low base e.depth d top flat.0 low) k.0, stack_low base d es vs low (omega (arith, few)) flat.1 k.1)

-- ---- where the frame above began

module _ (w : World) (j : ℕ) where
  at_most : (at b : ℕ) → (b ≡ at) ⊎ (b ≡ suc at) → at ≤ b
  at_most at b (inl e) = omega (arith, e)
  at_most at b (inr e) = omega (arith, e)

  -- A frame begins at no lower level than that of the node that waits for it.
  pub entered_at : (x : Method) (t : Option Ty) (base at b : ℕ) (k : MethodKind) → Entered w j x t base at b k → at ≤ b
  entered_at x t base at b method.New (inl e) = at_most at b (inl e.1)
  entered_at x t base at b method.New (inr e) = at_most at b (inr e.1)
  entered_at x t base at b method.Fun (inl e) = at_most at b (inl e)
  entered_at x t base at b method.Fun (inr e) = at_most at b (inr e.0)
  entered_at x t base at b method.Be (inl e) = at_most at b (inl e)
  entered_at x t base at b method.Be (inr e) = at_most at b (inr e.0)
  entered_at x t base at b method.Spawn (inl e) = at_most at b (inl e)
  entered_at x t base at b method.Spawn (inr e) = at_most at b (inr e.0)

module _
    (w w' : World) (j level : ℕ)
    -- what is open for the actor up to this level is, and what is over its contexts at lower levels is over them still
    (ajar : (l : ℕ) → l ≤ level → w.stands (w.context j l) ≡ Opened j → w'.stands (w'.context j l) ≡ Opened j)
    (over : (m l : ℕ) → m ≤ level → l < level → Over w j (w.context j m) l → Over w' j (w'.context j m) l)
  where
    down : (l b : ℕ) → l < b → b ≤ level → l < level
    down l b m n = omega (arith, m, n)

    pub entered_kept : (x : Method) (t : Option Ty) (base at b : ℕ) (k : MethodKind) → b ≤ level → Entered w j x t base at b k → Entered w' j x t base at b k
    entered_kept x t base at b method.New low (inl e) = inl e
    entered_kept x t base at b method.New low (inr e) = inr (e.0, e.1, ajar b low e.2)
    entered_kept x t base at b method.Fun low (inl e) = inl e
    entered_kept x t base at b method.Fun low (inr e) = inr (e.0, e.1, e.2, e.3, e.4, over b e.2 low (down e.2 b e.4 low) e.5)
    entered_kept x t base at b method.Be low (inl e) = inl e
    entered_kept x t base at b method.Be low (inr e) = inr (e.0, e.1, e.2, e.3, e.4, over b e.2 low (down e.2 b e.4 low) e.5)
    entered_kept x t base at b method.Spawn low (inl e) = inl e
    entered_kept x t base at b method.Spawn low (inr e) = inr (e.0, e.1, e.2, e.3, e.4, over b e.2 low (down e.2 b e.4 low) e.5)

-- ---- the frames that wait

module _
    (core : CoreData) (ann : Ann) (w w' : World) (j bound level : ℕ)
    -- what fits the frames of actor j below this height, at levels up to this one, fits them still
    (in_slot : (h s l : ℕ) (f : Form) (v : Value) → h < bound → l ≤ level → Fits w (InSlot j h s l) f v → Fits w' (InSlot j h s l) f v)
    (on_stack : (h d l : ℕ) (f : Form) (v : Value) → h < bound → l ≤ level → Fits w (OnStack j h d l) f v → Fits w' (OnStack j h d l) f v)
    (ajar : (l : ℕ) → l ≤ level → w.stands (w.context j l) ≡ Opened j → w'.stands (w'.context j l) ≡ Opened j)
    (over : (m l : ℕ) → m ≤ level → l < level → Over w j (w.context j m) l → Over w' j (w'.context j m) l)
  where
    abbrev awaits_low : (h b : ℕ) (x : Method) (f : Frame) → h < bound → b ≤ level → Awaits core ann w j h b x f → Awaits core ann w' j h b x f
    awaits_low h b x f under floor k =
        let at = entered_at w j x k.call.ty k.holds.base (k.holds.base + k.call.depth) b x.kind k.entered in
        let d = top_down k.way k.call in
        let slots = λ (s l : ℕ) (g : Form) (v : Value) (low : l ≤ level) (e : Fits w (InSlot j h s l) g v). in_slot h s l g v under low e in
        let stacks = λ (n l : ℕ) (g : Form) (v : Value) (few : n < length f.stack) (low : l ≤ level) (e : Fits w (OnStack j h n l) g v). on_stack h n l g v under low e in
        record {
          holds = record {
            base = k.holds.base;
            live = k.holds.live;
            entries = k.holds.entries;
            this_fits = this_low w w' j h level slots (length f.stack) stacks core f.method k.holds.base f.slots (omega (arith, at, floor)) k.holds.this_fits;
            slots_fit = slots_low w w' j h level slots (length f.stack) stacks core ann f.method k.holds.base k.call.depth k.holds.live f.slots (omega (arith, at, floor)) k.deep k.holds.slots_fit;
            stack_fit = stack_low w w' j h level slots (length f.stack) stacks k.holds.base (top_of k.way k.call).depth k.holds.entries f.stack (omega (arith, at, floor, d)) (omega arith) k.shallow k.holds.stack_fit;
          };
          call = k.call;
          entered = entered_kept w w' j level ajar over x k.call.ty k.holds.base (k.holds.base + k.call.depth) b x.kind floor k.entered;
          opened = λ l a z. ajar l (omega (arith, z, at, floor)) (k.opened l a z);
          result = k.result;
          way = k.way;
          climbs = k.climbs;
          shallow = k.shallow;
          deep = k.deep;
          low = k.low;
          less = k.less;
          not_deeper = k.not_deeper;
          next = k.next;
        }

    pub wait_low : (b m : ℕ) (fs : List Frame) → length fs ≤ bound → b ≤ level → WaitFits core ann w j b m fs → WaitFits core ann w' j b m fs
    wait_low b m [] few floor k = k
    wait_low b m (f ∷ fs) few floor k =
        let at = entered_at w j k.0 k.2.call.ty k.2.holds.base (k.2.holds.base + k.2.call.depth) b k.0.kind k.2.entered in
        (k.0, k.1, awaits_low (length fs) b k.0 f (omega (arith, few)) floor k.2, wait_low k.2.holds.base f.method fs (omega (arith, few)) (omega (arith, at, floor)) k.3)

-- ---- if all their values fit, at whatever level

module _
    (core : CoreData) (ann : Ann) (w w' : World) (j bound : ℕ)
    (in_slot : (h s l : ℕ) (f : Form) (v : Value) → h < bound → Fits w (InSlot j h s l) f v → Fits w' (InSlot j h s l) f v)
    (on_stack : (h d l : ℕ) (f : Form) (v : Value) → h < bound → Fits w (OnStack j h d l) f v → Fits w' (OnStack j h d l) f v)
    (level : ℕ) (ajar : (l : ℕ) → l ≤ level → w.stands (w.context j l) ≡ Opened j → w'.stands (w'.context j l) ≡ Opened j)
    (over : (m l : ℕ) → m ≤ level → l < level → Over w j (w.context j m) l → Over w' j (w'.context j m) l)
  where
    some_fits : (h d l : ℕ) (t : Option Ty) (v : Value) → h < bound → FitsSome w (OnStack j h d l) t v → FitsSome w' (OnStack j h d l) t v
    some_fits h d l None v low k = tt
    some_fits h d l (Some t) v low k = on_stack h d l t.1 v low k

    pub stack_fits : (h base : ℕ) (es : List Entry) (vs : List Value) → h < bound → StackFits w j h base es vs → StackFits w' j h base es vs
    stack_fits h base [] [] low k = k
    stack_fits h base [] (v ∷ vs) low k = k
    stack_fits h base (e ∷ es) [] low k = k
    stack_fits h base (e ∷ es) (v ∷ vs) low k = (some_fits h (length vs) (base + e.depth) e.ty v low k.0, stack_fits h base es vs low k.1)

    abbrev pub holds_kept : (h m : ℕ) (slots : List (Option Value)) (stack : List Value) → h < bound → Holds core ann w j h m slots stack → Holds core ann w' j h m slots stack
    holds_kept h m slots stack low k = record {
      base = k.base;
      live = k.live;
      entries = k.entries;
      this_fits = λ x v e is. in_slot h 0 k.base _ v low (k.this_fits x v e is);
      slots_fit = λ s more l v e y is. in_slot h s (k.base + y.0.depth) _ v low (k.slots_fit s more l v e y is);
      stack_fit = stack_fits h k.base k.entries stack low k.stack_fit;
    }

    pub wait_kept : (b m : ℕ) (fs : List Frame) → length fs ≤ bound → b ≤ level → WaitFits core ann w j b m fs → WaitFits core ann w' j b m fs
    wait_kept b m fs few floor k =
        wait_low core ann w w' j bound level (λ h s l f v low under e. in_slot h s l f v low e) (λ h d l f v low under e. on_stack h d l f v low e) ajar over b m fs few floor k
