-- A frame whose node takes what its children left on the stack: what is preserved of it, of the frames below, of fields
-- and of the other actors while these values settle elsewhere.
use Rattle.std.specs.Prelude.{◌≡◌, ℕ, suc, ◌+◌, ◌<◌, ◌≤◌, Bool, true, false, ◌&&◌, List, [], ◌∷◌, length, Option, Some, None, nat_eq, nat_lt, refl}
use Rattle.std.proofs.{Common.{inr, ap, sym, subst, ◌∙◌, arith}, lemmas.Bool.{ne_eqb, le-ltb, and_right}}
use Rattle.pc_heap.specs.{Objects.ObjectMap, declared.value.Address.Address, declared.value.Value.Value}
use Rattle.pc_caps.specs.Tables.{unalias}
use Rattle.pc_core.specs.{declared.declarations.Method.Method, declared.nodes.NodeKind.NodeKind, CoreData.CoreData}
use Rattle.pc_masks.specs.declared.mask.Mask.{Mask}
use Rattle.pc_ann.specs.declared.annotation.Ann.{Ann}
use Rattle.pc_semantics.specs.{declared.frames.Frame.Frame, declared.frames.Task.Task, Configurations.{Around, popped}}
use Rattle.pc_rules.specs.Parts.{through}
use Rattle.pc_valid.specs.Words.{Ty, Masks, before}
use Rattle.pc_types.proofs.{Tasks.Within, Basic.within_same, Callers.left_within}
use Rattle.pc_regions.proofs.{World.{Place, InSlot, OnStack, InField, InMail, World, FitsSome, WorldOk}, StackForms.{Entry, Shallow, TasksRise, FinishRises, Rises, SlotsShallow}, Fitting.{ThisFits, SlotsFit, StackFits, Entered, OpenedTo, GoesTo, Awaits, WaitFits, FieldsFit}, MoveFits.{elsewhere, Others, Situated}, Changes.Shifts, Shifts.{others_kept, fields_kept, below_kept, below_under}, Arguments.{Pulled, pull, ChildrenStand, children_stand}, ArgumentsSettle.from_place, Rising.{Pushes, not_here}, Waiting.{this_low, slots_low, stack_low}}

-- ---- places from a depth of the stack on

pub from_elsewhere : (i h n : ℕ) (p : Place) → elsewhere i p ≡ true → from_place i h n p ≡ false
from_elsewhere i h n (InSlot j g s l) e = refl
from_elsewhere i h n (OnStack j g d l) e = not_here (nat_eq i j) (nat_eq h g && nat_lt n (suc d)) e
from_elsewhere i h n (InField a f) e = refl
from_elsewhere i h n (InMail j t f) e = refl

pub from_lower : (i h n g d l : ℕ) → g < h → from_place i h n (OnStack i g d l) ≡ false
from_lower i h n g d l low = and_right (nat_eq i i) (nat_eq h g && nat_lt n (suc d)) (ap (λ (c : Bool). c && nat_lt n (suc d)) (ne_eqb h g (λ e. absurd (omega (arith, e, low)))))

pub from_under : (i h n d l : ℕ) → d < n → from_place i h n (OnStack i h d l) ≡ false
from_under i h n d l under = and_right (nat_eq i i) (nat_eq h h && nat_lt n (suc d)) (and_right (nat_eq h h) (nat_lt n (suc d)) (le-ltb n (suc d) (omega (arith, under))))

-- ---- the frame

-- A frame of level `base` at depth d that waits, and the frames below it.
pub record Rests (core : CoreData) (ann : Ann) (w : World) (i m base d : ℕ) (live : Mask) (below : List Entry) (slots : List (Option Value)) (vs : List Value) (fs : List Frame) : Type 0 where
  pub opened : OpenedTo w i base d
  pub this_fits : ThisFits core w i (length fs) m base slots
  pub slots_fit : SlotsFit core ann w i (length fs) m base live slots
  pub stack_fit : StackFits w i (length fs) base below vs
  pub deep : SlotsShallow core m live d
  pub wait : WaitFits core ann w i base m fs

-- A value may be pushed in it if the last level is that of its node.
pub pushes_of : (core : CoreData) (ann : Ann) (w : World) (objects : ObjectMap) (count i m base d : ℕ) (live : Mask) (below : List Entry) (slots : List (Option Value)) (vs : List Value) (fs : List Frame) → Rests core ann w i m base d live below slots vs fs
    → WorldOk w objects count → FieldsFit core w objects → i < count → w.top i ≡ base + d → Pushes core ann w objects count i m base d live below slots vs fs
pushes_of core ann w objects count i m base d live below slots vs fs rests world fields here top = record {
  world = world;
  fields = fields;
  here = here;
  top = top;
  opened = rests.opened;
  this_fits = rests.this_fits;
  slots_fit = rests.slots_fit;
  stack_fit = rests.stack_fit;
  wait = rests.wait;
}

module _ (core : CoreData) (ann : Ann) (around : Around) (f : Frame) (fs : List Frame) (ts : List Task) (w : World) (s : Situated core ann w around f ts fs)
    (does : NodeKind → Bool) (n : ℕ) (go : ℕ → Mask → List Entry → Type 0) (e : FinishRises core ann f.method s.active.depth s.active.holds.live s.active.holds.entries does n go) where
  -- What the children left is taken.
  pub pull_all : Pulled ann w around.actor (length fs) s.active.holds.base s.active.depth e.node.children e.below f.stack
  pull_all = pull ann w around.actor (length fs) s.active.holds.base s.active.depth e.node.children e.below f.stack (subst (λ (g : List Entry). StackFits w around.actor (length fs) s.active.holds.base g f.stack) e.stack s.active.holds.stack_fit)

  -- These values are what they left, over what was below.
  pub children_on : (values rest : List Value) → popped (length e.node.children) f.stack [] ≡ Some (values, rest) → ChildrenStand ann w around.actor (length fs) s.active.holds.base s.active.depth e.node.children e.below values rest
  children_on values rest is = children_stand ann w around.actor (length fs) s.active.holds.base s.active.depth e.node.children e.below f.stack pull_all values rest is

  -- The live slots after the node.
  pub live_left : (behind : Masks) → through ann e.node.children (before e.note) ≡ Some behind → e.note.live_after ≡ behind.0 → Within e.note.live_after s.active.holds.live
  live_left behind is left = (left_within (through ann e.node.children (before e.note)) e.behind behind e.note.live_after behind.1 s.active.holds.live e.behind.1 e.is_behind is left refl e.live (within_same e.behind.1)).0

  -- What follows the node, at the frame's depth.
  pub follows_at : Rises core f.method e.note.live_after (record { ty = e.note.ty; depth = s.active.depth }) e.below go
  follows_at = subst (λ (k : ℕ). Rises core f.method e.note.live_after (record { ty = e.note.ty; depth = k }) e.below go) e.depth e.follows

  low_base : s.active.holds.base ≤ w.top around.actor
  low_base = let last = s.active.last in omega (arith, last)

  low_depth : (j : ℕ) → j ≤ s.active.holds.base + s.active.depth → j ≤ w.top around.actor
  low_depth j to = let last = s.active.last in omega (arith, last, to)

  module _ (w' : World) (m : ℕ) (x : Shifts w w' around.objects around.actors around.actor (w.top around.actor) (from_place around.actor (length fs) m)) where
    some_on : (d l : ℕ) (t : Option Ty) (v : Value) → d < m → FitsSome w (OnStack around.actor (length fs) d l) t v → FitsSome w' (OnStack around.actor (length fs) d l) t v
    some_on d l None v under k = tt
    some_on d l (Some t) v under k = x.fits (OnStack around.actor (length fs) d l) t.1 v (from_under around.actor (length fs) m d l under) k

    pub stack_on : (base : ℕ) (es : List Entry) (vs : List Value) → length vs ≤ m → StackFits w around.actor (length fs) base es vs → StackFits w' around.actor (length fs) base es vs
    stack_on base [] [] few k = k
    stack_on base [] (v ∷ vs) few k = k
    stack_on base (y ∷ es) [] few k = k
    stack_on base (y ∷ es) (v ∷ vs) few k = (some_on (length vs) (base + y.depth) y.ty v (omega (arith, few)) k.0, stack_on base es vs (omega (arith, few)) k.1)

    pub others_on : Others w w' around.actor around.actors None
    others_on = others_kept w w' around.objects around.actors around.actor (w.top around.actor) (from_place around.actor (length fs) m) x (λ p k. from_elsewhere around.actor (length fs) m p k)

    pub fields_on : FieldsFit core w' around.objects
    fields_on = fields_kept w w' around.objects around.actors around.actor (w.top around.actor) (from_place around.actor (length fs) m) x core (λ a k. refl) s.fields

    pub wait_on : WaitFits core ann w' around.actor s.active.holds.base f.method fs
    wait_on = below_kept w w' around.objects around.actors around.actor (w.top around.actor) (from_place around.actor (length fs) m) x core ann (length fs) (λ h t l low. refl) (λ h d l low. from_lower around.actor (length fs) m h d l low) s.active.holds.base f.method fs refl low_base s.wait

    -- What is below the values that were taken stays.
    pub rests_on : (rest : List Value) → length rest ≤ m → StackFits w around.actor (length fs) s.active.holds.base e.below rest → Rests core ann w' around.actor f.method s.active.holds.base s.active.depth s.active.holds.live e.below f.slots rest fs
    rests_on rest few fit = record {
      opened = λ j up to. x.opened around.actor j (inr (low_depth j to)) (s.active.opened j up to);
      this_fits = λ y v is at. x.fits (InSlot around.actor (length fs) 0 s.active.holds.base) (unalias y.receiver) v refl (s.active.holds.this_fits y v is at);
      slots_fit = λ t up live v at y is. x.fits (InSlot around.actor (length fs) t (s.active.holds.base + y.0.depth)) (unalias y.1.1) v refl (s.active.holds.slots_fit t up live v at y is);
      stack_fit = stack_on s.active.holds.base e.below rest few fit;
      deep = s.active.not_deeper;
      wait = wait_on;
    }

    -- A value may be pushed if the last level is that of the node.
    pub pushes_on : w'.top around.actor ≡ w.top around.actor → (rest : List Value) → length rest ≤ m → StackFits w around.actor (length fs) s.active.holds.base e.below rest
        → Pushes core ann w' around.objects around.actors around.actor f.method s.active.holds.base s.active.depth s.active.holds.live e.below f.slots rest fs
    pushes_on top rest few fit =
        pushes_of core ann w' around.objects around.actors around.actor f.method s.active.holds.base s.active.depth s.active.holds.live e.below f.slots rest fs (rests_on rest few fit) x.world fields_on s.here (top ∙ sym s.active.last)

  -- What is kept while only such places are left.
  pub record LeftAbove (m : ℕ) (gone : Place → Bool) : Type 0 where
    pub far : (p : Place) → elsewhere around.actor p ≡ true → gone p ≡ false
    pub fieldless : (a : Address) (k : ℕ) → gone (InField a k) ≡ false
    pub slots : (h t l : ℕ) → l ≤ w.top around.actor → gone (InSlot around.actor h t l) ≡ false
    pub lower : (h d l : ℕ) → h < length fs → l ≤ w.top around.actor → gone (OnStack around.actor h d l) ≡ false
    pub under : (d l : ℕ) → d < m → l ≤ w.top around.actor → gone (OnStack around.actor (length fs) d l) ≡ false

  module _ (w' : World) (m : ℕ) (gone : Place → Bool) (left : LeftAbove m gone) (x : Shifts w w' around.objects around.actors around.actor s.active.holds.base gone) where
    pub others_low : Others w w' around.actor around.actors None
    others_low = others_kept w w' around.objects around.actors around.actor s.active.holds.base gone x left.far

    pub fields_low : FieldsFit core w' around.objects
    fields_low = fields_kept w w' around.objects around.actors around.actor s.active.holds.base gone x core left.fieldless s.fields

    low_all : s.active.holds.base + s.active.depth ≤ w.top around.actor
    low_all = let last = s.active.last in omega (arith, last)

    low_than : (l : ℕ) → l ≤ s.active.holds.base → l ≤ w.top around.actor
    low_than l k = let last = s.active.last in omega (arith, last, k)

    pub rests_low : OpenedTo w' around.actor s.active.holds.base s.active.depth → (rest : List Value) → length rest ≤ m → Shallow e.below s.active.depth → StackFits w around.actor (length fs) s.active.holds.base e.below rest
        → Rests core ann w' around.actor f.method s.active.holds.base s.active.depth s.active.holds.live e.below f.slots rest fs
    rests_low open_still rest few flat fit = record {
      opened = open_still;
      this_fits = this_low w w' around.actor (length fs) (w.top around.actor) (λ t l g v low k. x.fits (InSlot around.actor (length fs) t l) g v (left.slots (length fs) t l low) k) m
          (λ d l g v under low k. x.fits (OnStack around.actor (length fs) d l) g v (left.under d l under low) k) core f.method s.active.holds.base f.slots low_base s.active.holds.this_fits;
      slots_fit = slots_low w w' around.actor (length fs) (w.top around.actor) (λ t l g v low k. x.fits (InSlot around.actor (length fs) t l) g v (left.slots (length fs) t l low) k) m
          (λ d l g v under low k. x.fits (OnStack around.actor (length fs) d l) g v (left.under d l under low) k) core ann f.method s.active.holds.base s.active.depth s.active.holds.live f.slots low_all s.active.not_deeper s.active.holds.slots_fit;
      stack_fit = stack_low w w' around.actor (length fs) (w.top around.actor) (λ t l g v low k. x.fits (InSlot around.actor (length fs) t l) g v (left.slots (length fs) t l low) k) m
          (λ d l g v under low k. x.fits (OnStack around.actor (length fs) d l) g v (left.under d l under low) k) s.active.holds.base s.active.depth e.below rest low_all few flat fit;
      deep = s.active.not_deeper;
      wait = below_under w w' around.objects around.actors around.actor s.active.holds.base gone x core ann (length fs) (λ h t l under low. left.slots h t l (low_than l low)) (λ h d l under low. left.lower h d l under (low_than l low)) s.active.holds.base f.method fs (omega arith) (omega arith) s.wait;
    }

-- A frame that waits, when a value might be pushed.
module _ (core : CoreData) (ann : Ann) (w : World) (i m base d : ℕ) (live : Mask) (below : List Entry) (slots : List (Option Value)) (vs : List Value) (fs : List Frame) (p : Rests core ann w i m base d live below slots vs fs) where
  abbrev pub waits : (after : Mask) (t : Option Ty) (ts : List Task) → Within after live → Rises core m after (record { ty = t; depth = d }) below (λ c l g. TasksRise core ann m ts c l g)
      → (b : ℕ) (x : Method) → Entered w i x t base (base + d) b x.kind → GoesTo core x.result t → Awaits core ann w i (length fs) b x (record { method = m; slots = slots; stack = vs; tasks = ts })
  waits after t ts less o b x entered result = record {
    holds = record {
      base = base;
      live = after;
      entries = below;
      this_fits = p.this_fits;
      slots_fit = λ s up is v at y k. p.slots_fit s up (less s is) v at y k;
      stack_fit = p.stack_fit;
    };
    call = record { ty = t; depth = d };
    entered = entered;
    opened = p.opened;
    result = result;
    way = o.way;
    climbs = o.climbs;
    shallow = o.shallow;
    deep = λ s x y bit a e. p.deep s x y (less s bit) a e;
    low = o.live;
    less = o.left;
    not_deeper = o.slots;
    next = o.next;
  }
