-- A value is pushed in a running frame, and goes up its way: the world that the climb leaves fits the frame that goes on.
use Rattle.std.specs.Prelude.{◌≡◌, ℕ, ◌+◌, ◌<◌, ◌≤◌, Bool, true, false, not, ◌&&◌, ◌||◌, List, [], ◌∷◌, length, Option, Some, None, nat_eq, nat_lt, refl}
use Rattle.std.proofs.{Common.{ap, sym, subst, ◌∙◌, arith}, lemmas.Bool.{ne_eqb, le-ltb, or_from, and_right}}
use Rattle.pc_heap.specs.{Objects.ObjectMap, declared.value.Value.Value}
use Rattle.pc_caps.specs.Tables.{unalias}
use Rattle.pc_core.specs.CoreData.{CoreData}
use Rattle.pc_masks.specs.declared.mask.Mask.{Mask}
use Rattle.pc_ann.specs.declared.annotation.Ann.{Ann}
use Rattle.pc_semantics.specs.{declared.frames.Frame.Frame, declared.frames.Task.Task, Configurations.{Around, Goes}}
use Rattle.pc_valid.specs.Words.{Ty}
use Rattle.pc_base.proofs.Bools.{false_true}
use Rattle.pc_types.proofs.{Types.OfSome, Tasks.Within, Basic.within_trans}
use Rattle.pc_regions.proofs.{World.{Place, InSlot, OnStack, InField, InMail, World, FitsSome, Alias, AliasSome, WorldOk}, StackForms.{Entry, Shallow, SlotsShallow, Rises, TasksRise, top_of, uses_top}, Fitting.{ThisFits, SlotsFit, StackFits, OpenedTo, WaitFits, FieldsFit, TopAlias}, MoveFits.{elsewhere, one_more, Others, Turned, RegionMoveOk, Situated}, Changes.Shifts, Climbed.{passed, ClimbLaw}, Shifts.{others_kept, fields_kept, below_kept, no_more}, ContextLaws.higher, Waiting.slot_depth}

-- ---- what is passed

pub not_here : (a b : Bool) → not a ≡ true → (a && b) ≡ false
not_here true b e = absurd (false_true e)
not_here false b e = refl

-- Nothing of other actors, of messages and of lower frames, and no slot or lower place of the stack up to the level.
pub passed_elsewhere : (i h n k : ℕ) (p : Place) → elsewhere i p ≡ true → passed i h n k p ≡ false
passed_elsewhere i h n k (InSlot j g s l) e = not_here (nat_eq i j) (nat_eq h g && nat_lt k l) e
passed_elsewhere i h n k (OnStack j g d l) e = not_here (nat_eq i j) (nat_eq h g && (nat_eq n d || nat_lt k l)) e
passed_elsewhere i h n k (InField a f) e = refl
passed_elsewhere i h n k (InMail j t f) e = refl

-- Nothing of other actors and of messages is at a higher level.
pub higher_elsewhere : (i k : ℕ) (p : Place) → elsewhere i p ≡ true → higher i k p ≡ false
higher_elsewhere i k (InSlot j h s l) e = not_here (nat_eq i j) (nat_lt k l) e
higher_elsewhere i k (OnStack j h d l) e = not_here (nat_eq i j) (nat_lt k l) e
higher_elsewhere i k (InField a n) e = refl
higher_elsewhere i k (InMail j t n) e = refl

pub lower_frame : (a : Bool) (h g : ℕ) (b : Bool) → g < h → (a && (nat_eq h g && b)) ≡ false
lower_frame a h g b low = and_right a (nat_eq h g && b) (ap (λ (c : Bool). c && b) (ne_eqb h g (λ e. absurd (omega (arith, e, low)))))

pub slot_kept : (i h n k s l : ℕ) → l ≤ k → passed i h n k (InSlot i h s l) ≡ false
slot_kept i h n k s l low = and_right (nat_eq i i) (nat_eq h h && nat_lt k l) (and_right (nat_eq h h) (nat_lt k l) (le-ltb k l low))

pub stack_kept : (i h n k d l : ℕ) → d < n → l ≤ k → passed i h n k (OnStack i h d l) ≡ false
stack_kept i h n k d l under low =
    and_right (nat_eq i i) (nat_eq h h && (nat_eq n d || nat_lt k l)) (and_right (nat_eq h h) (nat_eq n d || nat_lt k l)
    (or_from (nat_eq n d) (nat_lt k l) (ne_eqb n d (λ e. absurd (omega (arith, e, under)))) (le-ltb k l low)))

-- ---- the frame goes on

module _ (core : CoreData) (ann : Ann) (climb : ClimbLaw core) (objects : ObjectMap) (count i h m : ℕ) (w : World) (base : ℕ) where
  -- What the climb keeps of the frame.
  module _ (n d : ℕ) (w' : World) (x : Shifts w w' objects count i base (passed i h n (base + d))) where
    this_kept : (slots : List (Option Value)) → ThisFits core w i h m base slots → ThisFits core w' i h m base slots
    this_kept slots k y v a b = x.fits (InSlot i h 0 base) (unalias y.receiver) v (slot_kept i h n (base + d) 0 base (omega arith)) (k y v a b)

    slots_kept : (live more : Mask) (slots : List (Option Value)) → Within live more → SlotsShallow core m live d → SlotsFit core ann w i h m base more slots → SlotsFit core ann w' i h m base live slots
    slots_kept live more slots less flat k s low is v at y e =
        let deep = slot_depth core ann m s d live y flat is e in
        x.fits (InSlot i h s (base + y.0.depth)) (unalias y.1.1) v (slot_kept i h n (base + d) s (base + y.0.depth) (omega (arith, deep))) (k s low (less s is) v at y e)

    some_kept : (l c : ℕ) (t : Option Ty) (v : Value) → l < n → c ≤ base + d → FitsSome w (OnStack i h l c) t v → FitsSome w' (OnStack i h l c) t v
    some_kept l c None v under low k = tt
    some_kept l c (Some t) v under low k = x.fits (OnStack i h l c) t.1 v (stack_kept i h n (base + d) l c under low) k

    stack_on : (es : List Entry) (vs : List Value) → length vs ≤ n → Shallow es d → StackFits w i h base es vs → StackFits w' i h base es vs
    stack_on [] [] few flat k = k
    stack_on [] (v ∷ vs) few flat k = k
    stack_on (e ∷ es) [] few flat k = k
    stack_on (e ∷ es) (v ∷ vs) few flat k =
        let deep = flat.0 in
        (some_kept (length vs) (base + e.depth) e.ty v (omega (arith, few)) (omega (arith, deep)) k.0, stack_on es vs (omega (arith, few)) flat.1 k.1)

-- What was in a world, and then in one that came of it: what both send is what the two do.
others_then : (w v u : World) (i count : ℕ) (first second both : Option ℕ) → ((j : ℕ) → one_more both j ≡ one_more second j + one_more first j) → Others w v i count first → Others v u i count second → Others w u i count both
others_then w v u i count first second both adds x y = record {
  fits = λ p f z e a k. y.fits p f z e a (x.fits p f z e a k);
  sent = λ j there. in_all (u.sent j) (v.sent j) (w.sent j) (one_more second j) (one_more first j) (one_more both j) (y.sent j there) (x.sent j there) (adds j);
  top = λ j there n. y.top j there n ∙ x.top j there n;
  opened = λ j l there n e. y.opened j l there n (x.opened j l there n e);
  over = λ j m l there n o. y.over j m l there n (x.over j m l there n o);
  alias = λ j b f z there n a.
      subst (λ (k : ℕ). Alias u j b k f z) (x.top j there n) (y.alias j b f z there n (subst (λ (k : ℕ). Alias v j b k f z) (sym (x.top j there n)) (x.alias j b f z there n a)));
}
  where
    in_all : (a b c x y z : ℕ) → a ≡ b + x → b ≡ c + y → z ≡ x + y → a ≡ c + z
    in_all a b c x y z e g h = omega (arith, e, g, h)

pub others_both : (w v u : World) (i count : ℕ) → Others w v i count None → Others v u i count None → Others w u i count None
others_both w v u i count x y = others_then w v u i count None None None (λ j. refl) x y

-- A message between what was before and what came of it.
pub others_sent : (w v u x : World) (i count to : ℕ) → Others w v i count None → Others v u i count (Some to) → Others u x i count None → Others w x i count (Some to)
others_sent w v u x i count to a b c =
    others_then w u x i count (Some to) None (Some to) (λ j. none_before (one_more (Some to) j)) (others_then w v u i count None (Some to) (Some to) (λ j. none_behind (one_more (Some to) j)) a b) c
  where
    none_before : (n : ℕ) → n ≡ 0 + n
    none_before n = omega arith

    none_behind : (n : ℕ) → n ≡ n + 0
    none_behind n = omega arith

-- What is around a value that is pushed in a frame of height h and level `base`, at depth d: the frame's slots, of which these are
-- live, what is on the stack below the value, and the frames that wait.
pub record Pushes (core : CoreData) (ann : Ann) (w : World) (objects : ObjectMap) (count i m base d : ℕ) (live : Mask) (below : List Entry) (slots : List (Option Value)) (vs : List Value) (fs : List Frame) : Type 0 where
  pub world : WorldOk w objects count
  pub fields : FieldsFit core w objects
  pub here : i < count
  pub top : w.top i ≡ base + d
  pub opened : OpenedTo w i base d
  pub this_fits : ThisFits core w i (length fs) m base slots
  pub slots_fit : SlotsFit core ann w i (length fs) m base live slots
  pub stack_fit : StackFits w i (length fs) base below vs
  pub wait : WaitFits core ann w i base m fs

module _ (core : CoreData) (ann : Ann) (climb : ClimbLaw core) (objects : ObjectMap) (count i m base d : ℕ) (live : Mask) (below : List Entry) (slots : List (Option Value)) (vs : List Value) (fs : List Frame) (w : World) (p : Pushes core ann w objects count i m base d live below slots vs fs) where
  -- A value that is at the node's entry goes up, and the frame goes on.
  pub rise : (after : Mask) (t : Option Ty) (v : Value) (ts : List Task) → Within after live → OfSome core objects t v → FitsSome w (OnStack i (length fs) (length vs) (base + d)) t v → AliasSome w i base (base + d) t v
      → Rises core m after (record { ty = t; depth = d }) below (λ c l g. TasksRise core ann m ts c l g)
      → (w' : World) × Turned core ann w w' i count None objects count (record { method = m; slots = slots; stack = v ∷ vs; tasks = ts } ∷ fs)
  rise after t v ts less typed fits alias o =
      let up = climb w objects count i (length fs) (length vs) base o.way (record { ty = t; depth = d }) v o.climbs (record { world = p.world; here = p.here; top = p.top; opened = p.opened; typed = typed; fits = fits; alias = alias }) in
      let w' : World = up.0 in
      let goal : Entry = top_of o.way (record { ty = t; depth = d }) in
      let gone : Place → Bool = passed i (length fs) (length vs) (base + goal.depth) in
      let x : Shifts w w' objects count i base gone = up.1.shifts in (
        w',
        record {
          world = x.world;
          fields = fields_kept w w' objects count i base gone x core (λ a k. refl) p.fields;
          others = others_kept w w' objects count i base gone x (λ q e. passed_elsewhere i (length fs) (length vs) (base + goal.depth) q e);
          frames = (
            record {
              holds = record {
                base = base;
                live = o.live;
                entries = goal ∷ below;
                this_fits = this_kept core ann climb objects count i (length fs) m w base (length vs) goal.depth w' x slots p.this_fits;
                slots_fit = slots_kept core ann climb objects count i (length fs) m w base (length vs) goal.depth w' x o.live live slots (within_trans o.live after live o.left less) o.slots p.slots_fit;
                stack_fit = (up.1.stands.fits, stack_on core ann climb objects count i (length fs) m w base (length vs) goal.depth w' x below vs (omega arith) o.shallow p.stack_fit);
              };
              depth = goal.depth;
              last = sym up.1.stands.top;
              opened = up.1.stands.opened;
              not_deeper = o.slots;
              shallow = (omega arith, o.shallow);
            },
            o.next,
            λ u. subst (λ (k : ℕ). AliasSome w' i base k goal.ty v) (sym up.1.stands.top) up.1.stands.alias,
            below_kept w w' objects count i base gone x core ann (length fs) (λ h s l low. lower_frame (nat_eq i i) (length fs) h (nat_lt (base + goal.depth) l) low) (λ h c l low. lower_frame (nat_eq i i) (length fs) h (nat_eq (length vs) c || nat_lt (base + goal.depth) l) low) base m fs refl (omega arith) p.wait,
          );
        },
      )

-- ---- the world stays

module _ (core : CoreData) (ann : Ann) (around : Around) (f : Frame) (ts : List Task) (fs : List Frame) (w : World) (s : Situated core ann w around f ts fs) where
  same_others : Others w w around.actor around.actors None
  same_others = record {
    fits = λ p g v e a k. k;
    sent = λ j there. no_more (w.sent j) (w.sent j) refl;
    top = λ j there n. refl;
    opened = λ j l there n e. e;
    over = λ j k l there n o. o;
    alias = λ j b g v there n a. a;
  }

  -- The frame goes on with other tasks, over what is left on the stack.
  pub goes_on : (es : List Entry) (vs : List Value) (us : List Task) → StackFits w around.actor (length fs) s.active.holds.base es vs → Shallow es s.active.depth → TasksRise core ann f.method us s.active.depth s.active.holds.live es
      → (uses_top us ≡ true → TopAlias w around.actor s.active.holds.base es vs) → RegionMoveOk core ann w around fs (Goes (record { method = f.method; slots = f.slots; stack = vs; tasks = us }))
  goes_on es vs us fit low tasks fresh = (
    w,
    record {
      world = s.world;
      fields = s.fields;
      others = same_others;
      frames = (
        record {
          holds = record { base = s.active.holds.base; live = s.active.holds.live; entries = es; this_fits = s.active.holds.this_fits; slots_fit = s.active.holds.slots_fit; stack_fit = fit };
          depth = s.active.depth;
          last = s.active.last;
          opened = s.active.opened;
          not_deeper = s.active.not_deeper;
          shallow = low;
        },
        tasks,
        fresh,
        s.wait,
      );
    },
  )

  -- Only the tasks differ, and an evaluation comes first.
  pub evaluates : (us : List Task) → TasksRise core ann f.method us s.active.depth s.active.holds.live s.active.holds.entries → uses_top us ≡ false → RegionMoveOk core ann w around fs (Goes (record { method = f.method; slots = f.slots; stack = f.stack; tasks = us }))
  evaluates us tasks calm = goes_on s.active.holds.entries f.stack us s.active.holds.stack_fit s.active.shallow tasks (λ e. absurd (false_true (sym calm ∙ e)))
