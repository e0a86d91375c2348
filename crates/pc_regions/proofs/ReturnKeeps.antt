-- A method ends, in regions: what it leaves goes to the frame that waits for it, and up from there.
use Rattle.std.specs.Prelude.{◌≡◌, ℕ, suc, ◌+◌, ◌-◌, ◌<◌, ◌≤◌, Bool, true, false, ◌&&◌, ◌||◌, List, [], ◌∷◌, length, Option, Some, None, nat_eq, nat_lt, refl}
use Rattle.std.proofs.{Common.{inl, inr, ap, sym, subst, ◌∙◌, arith}, lemmas.Bool.{eq-eqb, ne_eqb, le-ltb, and_from, and_right, and_parts, or_left, or_right, or_from}, lemmas.Option.same_Some}
use Rattle.pc_heap.specs.{Objects.ObjectMap, declared.value.Value.Value, declared.value.Value.TheVariants.{Num, Truth, Text, Prim, At}, declared.value.Address.Address}
use Rattle.pc_caps.specs.{Computed.is_below, Tables.{unalias, sendable_form}, declared.capability.Cap.Cap, declared.capability.Form.Form}
use Rattle.pc_caps.specs.declared.capability.Cap.TheVariants as cap
use Rattle.pc_sub.specs.Declarations.{isolates}
use Rattle.pc_caps.specs.declared.capability.Form.TheVariants as form
use Rattle.pc_core.specs.{declared.declarations.Method.Method, declared.declarations.MethodKind.MethodKind, Methods.ResultFits, CoreData.CoreData}
use Rattle.pc_core.specs.declared.declarations.MethodKind.TheVariants as method
use Rattle.pc_ann.specs.declared.annotation.Ann.{Ann}
use Rattle.pc_semantics.specs.{declared.frames.Frame.Frame, declared.frames.Task.Task, Calls.leave, Configurations.Around, Step.left}
use Rattle.pc_semantics.specs.declared.frames.Task.TheVariants as task
use Rattle.pc_valid.specs.Words.{Ty}
use Rattle.pc_base.proofs.Bools.{false_true}
use Rattle.pc_types.proofs.{Types.{OfType, OfSome, StackOk}, Tasks.ReturnOk, Frames.leaves, Moves.Runs, Needs.Needs, Basic.{of_lower, some_lower}, Values.top_is, Tables.below_sees, ReturnTask.built_typed}
use Rattle.pc_regions.proofs.{World.{Place, InSlot, OnStack, InField, InMail, Opened, Held, Child, World, Fits, FitsSome, AliasIn, Alias, AliasSome, Over, WorldOk}, StackForms.{Entry, top_of}, Fitting.{StackFits, TopAlias, Entered, GoesTo, SendableSome, Awaits, WaitFits, FramesFit, FieldsFit}, MoveFits.{elsewhere, Turned, RegionMoveOk, Situated}, Changes.{standing, lowered, without_last, Shifts}, ContextLaws.{higher, ended, Ends}, Climbed.ClimbLaw, Schedules.KeepsRegions, ContextGoes.{ends, falls}, SameRegions.{number_here, role_here}, StandsOtherwise.{stand_here, held_used}, Closing.closed_shifts, ArgumentsSettle.{lower_still, near_home, near_sent}, Shifts.{others_kept, fields_kept, shifts_none, shifts_less, shifts_then, lower_shift}, Settling.settle, Rising.{Pushes, rise, others_both, not_here}, Waiting.{top_down, this_low, slots_low, stack_low, wait_low}}

-- ---- what a frame leaves that ends

-- The places of the frame of height h, and all above level k.
abbrev pub leaving : ℕ → ℕ → ℕ → Place → Bool
leaving i h k (InSlot j g s l) = nat_eq i j && (nat_eq h g || nat_lt k l)
leaving i h k (OnStack j g d l) = nat_eq i j && (nat_eq h g || nat_lt k l)
leaving i h k (InField a n) = false
leaving i h k (InMail j t n) = false

pub leaving_elsewhere : (i h k : ℕ) (p : Place) → elsewhere i p ≡ true → leaving i h k p ≡ false
leaving_elsewhere i h k (InSlot j g s l) e = not_here (nat_eq i j) (nat_eq h g || nat_lt k l) e
leaving_elsewhere i h k (OnStack j g d l) e = not_here (nat_eq i j) (nat_eq h g || nat_lt k l) e
leaving_elsewhere i h k (InField a n) e = refl
leaving_elsewhere i h k (InMail j t n) e = refl

above_left : (a b c : Bool) → (a && c) ≡ true → (a && (b || c)) ≡ true
above_left a b c e = let p = and_parts a c e in and_from a (b || c) p.0 (or_right b c p.1)

pub leaving_high : (i h k : ℕ) (p : Place) → higher i k p ≡ true → leaving i h k p ≡ true
leaving_high i h k (InSlot j g s l) e = above_left (nat_eq i j) (nat_eq h g) (nat_lt k l) e
leaving_high i h k (OnStack j g d l) e = above_left (nat_eq i j) (nat_eq h g) (nat_lt k l) e
leaving_high i h k (InField a n) e = e
leaving_high i h k (InMail j t n) e = e

pub leaving_own : (i h k d l : ℕ) → leaving i h k (OnStack i h d l) ≡ true
leaving_own i h k d l = and_from (nat_eq i i) (nat_eq h h || nat_lt k l) (eq-eqb i i refl) (or_left (nat_eq h h) (nat_lt k l) (eq-eqb h h refl))

stays_low : (i h g k l : ℕ) → g < h → l ≤ k → (nat_eq i i && (nat_eq h g || nat_lt k l)) ≡ false
stays_low i h g k l low under = and_right (nat_eq i i) (nat_eq h g || nat_lt k l) (or_from (nat_eq h g) (nat_lt k l) (ne_eqb h g (λ e. absurd (omega (arith, e, low)))) (le-ltb k l under))

-- ---- the frame that waits goes on

module _
    (core : CoreData) (ann : Ann) (climb : ClimbLaw core) (w : World) (objects : ObjectMap) (count i : ℕ) (fields : FieldsFit core w objects) (here : i < count)
    (g : Frame) (gs : List Frame) (b : ℕ) (x : Method) (k : Awaits core ann w i (length gs) b x g) (rest : WaitFits core ann w i k.holds.base g.method gs)
  where
    abbrev at : ℕ
    at = k.holds.base + k.call.depth

    -- The world has shifted up to the level at which it waits, and the value is at the node that waits.
    module _ (w' : World) (s : Shifts w w' objects count i at (leaving i (suc (length gs)) at)) (top : w'.top i ≡ at) where
      in_slot : (h n l : ℕ) (f : Form) (v : Value) → h ≤ length gs → l ≤ at → Fits w (InSlot i h n l) f v → Fits w' (InSlot i h n l) f v
      in_slot h n l f v low under e = s.fits (InSlot i h n l) f v (stays_low i (suc (length gs)) h at l (omega (arith, low)) under) e

      on_stack : (h n l : ℕ) (f : Form) (v : Value) → h ≤ length gs → l ≤ at → Fits w (OnStack i h n l) f v → Fits w' (OnStack i h n l) f v
      on_stack h n l f v low under e = s.fits (OnStack i h n l) f v (stays_low i (suc (length gs)) h at l (omega (arith, low)) under) e

      base_under : k.holds.base ≤ at
      base_under = omega arith

      goal_under : k.holds.base + (top_of k.way k.call).depth ≤ at
      goal_under = let d = top_down k.way k.call in omega (arith, d)

      pub waits_on : Pushes core ann w' objects count i g.method k.holds.base k.call.depth k.holds.live k.holds.entries g.slots g.stack gs
      waits_on = record {
        world = s.world;
        fields = fields_kept w w' objects count i at (leaving i (suc (length gs)) at) s core (λ a n. refl) fields;
        here = here;
        top = top;
        opened = λ l up to. s.opened i l (inr to) (k.opened l up to);
        this_fits = this_low w w' i (length gs) at (λ n l f v low e. in_slot (length gs) n l f v (omega arith) low e) (length g.stack) (λ n l f v few low e. on_stack (length gs) n l f v (omega arith) low e) core g.method k.holds.base g.slots base_under k.holds.this_fits;
        slots_fit = slots_low w w' i (length gs) at (λ n l f v low e. in_slot (length gs) n l f v (omega arith) low e) (length g.stack) (λ n l f v few low e. on_stack (length gs) n l f v (omega arith) low e) core ann g.method k.holds.base k.call.depth k.holds.live g.slots (omega arith) k.deep k.holds.slots_fit;
        stack_fit = stack_low w w' i (length gs) at (λ n l f v low e. in_slot (length gs) n l f v (omega arith) low e) (length g.stack) (λ n l f v few low e. on_stack (length gs) n l f v (omega arith) low e) k.holds.base (top_of k.way k.call).depth k.holds.entries g.stack goal_under (omega arith) k.shallow k.holds.stack_fit;
        wait = wait_low core ann w w' i (length gs) at (λ h n l f v low under e. in_slot h n l f v (omega (arith, low)) under e) (λ h n l f v low under e. on_stack h n l f v (omega (arith, low)) under e)
            (λ l n e. s.opened i l (inr n) e) (λ n l up down o. s.low n l up down o) k.holds.base g.method gs (omega arith) base_under rest;
      }

      pub comes_back : (v : Value) → OfSome core objects k.call.ty v → FitsSome w' (OnStack i (length gs) (length g.stack) at) k.call.ty v → AliasSome w' i k.holds.base at k.call.ty v
          → (u : World) × Turned core ann w u i count None objects count (left (Some v) (g ∷ gs))
      comes_back v typed fits alias =
          let up = rise core ann climb objects count i g.method k.holds.base k.call.depth k.holds.live k.holds.entries g.slots g.stack gs w' waits_on k.holds.live k.call.ty v g.tasks (λ n bit. bit) typed fits alias
          (record { live = k.low; left = k.less; way = k.way; climbs = k.climbs; shallow = k.shallow; slots = k.not_deeper; next = k.next }) in (
            up.0,
            record {
              world = up.1.world;
              fields = up.1.fields;
              others = others_both w w' up.0 i count (others_kept w w' objects count i at (leaving i (suc (length gs)) at) s (leaving_elsewhere i (suc (length gs)) at)) up.1.others;
              frames = up.1.frames;
            },
          )

-- ---- nothing waits

module _ (core : CoreData) (ann : Ann) (around : Around) (f : Frame) (ts : List Task) (w : World) (s : Situated core ann w around f ts []) where
  pub nothing_waits : (v : Option Value) → s.active.depth ≡ 0 → (u : World) × Turned core ann w u around.actor around.actors None around.objects around.actors (left v [])
  nothing_waits v outer = (
    w,
    record {
      world = s.world;
      fields = s.fields;
      others = others_kept w w around.objects around.actors around.actor 0 (λ p. false) (shifts_none w around.objects around.actors around.actor 0 (λ p. false) s.world) (λ p e. refl);
      frames = no_frames v;
    },
  )
    where
      zero_top : w.top around.actor ≡ 0
      zero_top = let a = s.active.last in let b = s.wait in omega (arith, a, b, outer)

      no_frames : (v : Option Value) → FramesFit core ann w around.actor (left v [])
      no_frames None = zero_top
      no_frames (Some u) = zero_top

-- ---- aliases that come back

calm_alias : (w : World) (i c k : ℕ) (f : Form) (v : Value) → (f ≡ form.Iso → ⊥) → (f ≡ form.Trn → ⊥) → Alias w i c k f v
calm_alias w i c k form.Iso v n m = absurd (n refl)
calm_alias w i c k form.Trn v n m = absurd (m refl)
calm_alias w i c k form.IsoE v n m = free_alias v
  where
    free_alias : (v : Value) → Alias w i c k form.IsoE v
    free_alias (At a) = tt
    free_alias (Num x) = tt
    free_alias (Truth x) = tt
    free_alias (Text x) = tt
    free_alias (Prim x) = tt
calm_alias w i c k form.TrnE v n m = free_alias v
  where
    free_alias : (v : Value) → Alias w i c k form.TrnE v
    free_alias (At a) = tt
    free_alias (Num x) = tt
    free_alias (Truth x) = tt
    free_alias (Text x) = tt
    free_alias (Prim x) = tt
calm_alias w i c k form.Ref v n m = free_alias v
  where
    free_alias : (v : Value) → Alias w i c k form.Ref v
    free_alias (At a) = tt
    free_alias (Num x) = tt
    free_alias (Truth x) = tt
    free_alias (Text x) = tt
    free_alias (Prim x) = tt
calm_alias w i c k form.Val v n m = free_alias v
  where
    free_alias : (v : Value) → Alias w i c k form.Val v
    free_alias (At a) = tt
    free_alias (Num x) = tt
    free_alias (Truth x) = tt
    free_alias (Text x) = tt
    free_alias (Prim x) = tt
calm_alias w i c k form.Box v n m = free_alias v
  where
    free_alias : (v : Value) → Alias w i c k form.Box v
    free_alias (At a) = tt
    free_alias (Num x) = tt
    free_alias (Truth x) = tt
    free_alias (Text x) = tt
    free_alias (Prim x) = tt
calm_alias w i c k form.Tag v n m = free_alias v
  where
    free_alias : (v : Value) → Alias w i c k form.Tag v
    free_alias (At a) = tt
    free_alias (Num x) = tt
    free_alias (Truth x) = tt
    free_alias (Text x) = tt
    free_alias (Prim x) = tt

lower_in : (w : World) (i b c k : ℕ) (f : Form) (q : ℕ) → c ≤ b → AliasIn w i b k f q → AliasIn w i c k f q
lower_in w i b c k form.Iso q low a = let at = a.3 in (a.0, a.1, a.2, omega (arith, at, low), a.4, a.5)
lower_in w i b c k form.Trn q low a = a
lower_in w i b c k form.IsoE q low a = tt
lower_in w i b c k form.TrnE q low a = tt
lower_in w i b c k form.Ref q low a = tt
lower_in w i b c k form.Val q low a = tt
lower_in w i b c k form.Box q low a = tt
lower_in w i b c k form.Tag q low a = tt

-- An alias that may be used by a frame may be used by one that began lower.
alias_lower : (w : World) (i b c k : ℕ) (f : Form) (v : Value) → c ≤ b → Alias w i b k f v → Alias w i c k f v
alias_lower w i b c k f (At a) low e = lower_in w i b c k f (w.region a) low e
alias_lower w i b c k f (Num x) low e = tt
alias_lower w i b c k f (Truth x) low e = tt
alias_lower w i b c k f (Text x) low e = tt
alias_lower w i b c k f (Prim x) low e = tt

-- What may be sent, from a lent receiver: an `iso` alias comes down, and the rest is not an alias that is used.
sent_alias : (w w' : World) (i b c k m : ℕ) (f : Form) (v : Value) → sendable_form f ≡ true → Alias w i b m f v → (Alias w i b m form.Iso v → Alias w' i c k form.Iso v) → Alias w' i c k f v
sent_alias w w' i b c k m form.Iso v s a down = down a
sent_alias w w' i b c k m form.IsoE v s a down = calm_alias w' i c k form.IsoE v (λ e. cc) (λ e. cc)
sent_alias w w' i b c k m form.Val v s a down = calm_alias w' i c k form.Val v (λ e. cc) (λ e. cc)
sent_alias w w' i b c k m form.Tag v s a down = calm_alias w' i c k form.Tag v (λ e. cc) (λ e. cc)
sent_alias w w' i b c k m form.TrnE v s a down = absurd (false_true s)
sent_alias w w' i b c k m form.Trn v s a down = absurd (false_true s)
sent_alias w w' i b c k m form.Ref v s a down = absurd (false_true s)
sent_alias w w' i b c k m form.Box v s a down = absurd (false_true s)

-- ---- a result comes back

-- It is of the type to which it goes.
typed_result : (core : CoreData) (ann : Ann) → Needs core ann → (objects : ObjectMap) (x : Method) (v : Value) → OfType core objects x.result v → (t : Option Ty) → GoesTo core x.result t → OfSome core objects t v
typed_result core ann needs objects x v typed None goes = tt
typed_result core ann needs objects x v typed (Some t) goes = of_lower core ann needs objects x.result t v (goes.0, below_sees x.result.1 t.1 goes.1) typed

module _
    (core : CoreData) (ann : Ann) (needs : Needs core ann) (climb : ClimbLaw core) (w : World) (objects : ObjectMap) (count i : ℕ) (ok : WorldOk w objects count) (fields : FieldsFit core w objects) (here : i < count)
    (g : Frame) (gs : List Frame) (b : ℕ) (x : Method) (k : Awaits core ann w i (length gs) b x g) (rest : WaitFits core ann w i k.holds.base g.method gs)
    (n : ℕ) (top : w.top i ≡ b) (e : Ty) (below : is_below e.1 x.result.1 ≡ true) (v : Value) (typed : OfType core objects x.result v)
    (fits : Fits w (OnStack i (suc (length gs)) n b) e.1 v) (alias : Alias w i b (w.top i) e.1 v)
  where
    abbrev level : ℕ
    level = k.holds.base + k.call.depth

    abbrev gone : Place → Bool
    gone = leaving i (suc (length gs)) level

    abbrev there : Place
    there = OnStack i (length gs) (length g.stack) level

    -- By a frame that began at the level of the node that waits.
    plain_at : (t : Option Ty) → GoesTo core x.result t → b ≡ level → (u : World) × Shifts w u objects count i level gone × (u.top i ≡ level) × FitsSome u there t v × AliasSome u i k.holds.base level t v
    plain_at None goes is = (w, shifts_none w objects count i level gone ok, top ∙ is, tt, tt)
    plain_at (Some t) goes is =
        let z = settle w objects count ok i here (suc (length gs)) n b (omega (arith, top)) gone (leaving_own i (suc (length gs)) level n b) there e.1 t.1 v (lower_still e.1 x.result.1 t.1 below goes.1) fits
        (near_home w (OnStack i (suc (length gs)) n b) e.1 t.1 there (ap (w.context i) (sym is))) (refl, omega (arith, top, is)) in
        let same : w.top i ≡ level = top ∙ is in (
          z.0,
          shifts_less w z.0 objects count i (w.top i) level gone gone (omega (arith, same)) (λ p q. q) z.1.calm.shifts,
          z.1.calm.top i ∙ same,
          z.1.fits,
          subst (λ (m : ℕ). Alias z.0 i k.holds.base m t.1 v) same
              (z.1.fresh k.holds.base (omega (arith, same)) (λ trn. ap (w.context i) (sym same)) (alias_lower w i b k.holds.base (w.top i) e.1 v (omega (arith, is)) alias)),
        )

    pub plain_back : b ≡ level → (u : World) × Turned core ann w u i count None objects count (left (Some v) (g ∷ gs))
    plain_back is =
        let z = plain_at k.call.ty k.result is in
        comes_back core ann climb w objects count i fields here g gs b x k rest z.0 z.1 z.2 v (typed_result core ann needs objects x v typed k.call.ty k.result) z.3 z.4

    -- By a frame whose receiver is lent.
    module _ (is : b ≡ suc level) (l : ℕ) (least : k.holds.base ≤ l) (most : l < b) (held : Over w i (w.context i b) l) where
      last : w.top i ≡ suc level
      last = top ∙ is

      top_down_to : (u : World) → u.top i ≡ suc level → (ended u i level).top i ≡ level
      top_down_to u t = let z = number_here u.top i (u.top i - 1) in let y : u.top i - 1 ≡ level = omega (arith, t) in z ∙ y

      lent_at : (t : Option Ty) → GoesTo core x.result t → SendableSome t → (u : World) × Shifts w u objects count i level gone × (u.top i ≡ level) × FitsSome u there t v × AliasSome u i k.holds.base level t v
      lent_at None goes s = (ended w i level, (falls w objects count ok i here level last gone (leaving_high i (suc (length gs)) level)).0.shifts, top_down_to w last, tt, tt)
      lent_at (Some t) goes s =
          let z = settle w objects count ok i here (suc (length gs)) n b (omega (arith, top)) gone (leaving_own i (suc (length gs)) level n b) there e.1 t.1 v (lower_still e.1 x.result.1 t.1 below goes.1) fits
          (near_sent w (OnStack i (suc (length gs)) n b) e.1 t.1 there s) (refl, omega (arith, last)) in
          let first : Shifts w z.0 objects count i level gone = shifts_less w z.0 objects count i (w.top i) level gone gone (omega (arith, last)) (λ p q. q) z.1.calm.shifts in
          let after = falls z.0 objects count z.1.calm.shifts.world i here level (z.1.calm.top i ∙ last) gone (leaving_high i (suc (length gs)) level) in
          let over : Over z.0 i (z.0.context i (suc level)) l =
          subst (λ (q : ℕ). Over z.0 i q l) (ap (w.context i) is ∙ sym (z.1.calm.context i (suc level) here (omega (arith, last)))) (z.1.calm.over i held) in
          let fresh : Alias z.0 i b (suc level) t.1 v =
          subst (λ (m : ℕ). Alias z.0 i b m t.1 v) last (z.1.fresh b (omega (arith, top)) (λ trn. absurd (false_true (sym (ap sendable_form trn) ∙ s))) alias) in (
            ended z.0 i level,
            shifts_then w z.0 (ended z.0 i level) objects count i level gone first after.0.shifts,
            top_down_to z.0 (z.1.calm.top i ∙ last),
            after.0.shifts.fits there t.1 v (stays_low i (suc (length gs)) (length gs) level level (omega arith) (omega arith)) z.1.fits,
            sent_alias z.0 (ended z.0 i level) i b k.holds.base level (suc level) t.1 v s fresh (λ a. after.1 k.holds.base l b v least (omega (arith, most, is)) (omega (arith, is)) over a),
          )

      pub lent_back : SendableSome k.call.ty → (u : World) × Turned core ann w u i count None objects count (left (Some v) (g ∷ gs))
      lent_back s =
          let z = lent_at k.call.ty k.result s in
          comes_back core ann climb w objects count i fields here g gs b x k rest z.0 z.1 z.2 v (typed_result core ann needs objects x v typed k.call.ty k.result) z.3 z.4

-- ---- a new object comes back

new_below : (c : Cap) (f : Form) → f ≡ unalias c → isolates f ≡ false → is_below form.Ref f ≡ true
new_below cap.Iso f e n = absurd (false_true (sym n ∙ ap isolates e))
new_below cap.Trn f e n = absurd (false_true (sym n ∙ ap isolates e))
new_below cap.Val f e n = absurd (false_true (sym n ∙ ap isolates e))
new_below cap.Ref f e n = ap (is_below form.Ref) e
new_below cap.Box f e n = ap (is_below form.Ref) e
new_below cap.Tag f e n = ap (is_below form.Ref) e

-- If a value is in the slot of `this`, it is also on the stack of the same level.
ref_moved : (w : World) (i h n b : ℕ) (v : Value) → Fits w (InSlot i h 0 b) form.Ref v → Fits w (OnStack i h n b) form.Ref v
ref_moved w i h n b (At a) e = e
ref_moved w i h n b (Num x) e = tt
ref_moved w i h n b (Truth x) e = tt
ref_moved w i h n b (Text x) e = tt
ref_moved w i h n b (Prim x) e = tt

-- The region of `this` is held at a place.
held_there : (w : World) (i h b u m : ℕ) (p : Place) (v : Value) → w.context i b ≡ u → Fits w (InSlot i h 0 b) form.Ref v → Fits (standing (without_last w i) u (Held p)) p form.IsoE v
held_there w i h b u m p (At a) is e = ap (standing (without_last w i) u (Held p)).stands (e ∙ is) ∙ stand_here (without_last w i).stands u (Held p)
held_there w i h b u m p (Num x) is e = tt
held_there w i h b u m p (Truth x) is e = tt
held_there w i h b u m p (Text x) is e = tt
held_there w i h b u m p (Prim x) is e = tt

module _
    (core : CoreData) (ann : Ann) (needs : Needs core ann) (climb : ClimbLaw core) (w : World) (objects : ObjectMap) (count i : ℕ) (ok : WorldOk w objects count) (fields : FieldsFit core w objects) (here : i < count)
    (g : Frame) (gs : List Frame) (b : ℕ) (x : Method) (k : Awaits core ann w i (length gs) b x g) (rest : WaitFits core ann w i k.holds.base g.method gs)
    (top : w.top i ≡ b) (v : Value) (typed : OfType core objects x.result v) (fits : Fits w (InSlot i (suc (length gs)) 0 b) form.Ref v)
    (is : b ≡ suc (k.holds.base + k.call.depth)) (ajar : w.stands (w.context i b) ≡ Opened i)
  where
    abbrev floor : ℕ
    floor = k.holds.base + k.call.depth

    abbrev far : Place → Bool
    far = leaving i (suc (length gs)) floor

    abbrev goal : Place
    goal = OnStack i (length gs) (length g.stack) floor

    abbrev own_place : Place
    own_place = OnStack i (suc (length gs)) 0 floor

    abbrev ended_world : World
    ended_world = without_last w i

    abbrev closed_world : World
    closed_world = standing ended_world (w.context i b) (Held own_place)

    over_end : Ends w ended_world objects count i floor far
    over_end = ends w objects count ok i here floor (top ∙ is) far

    top_now : ended_world.top i ≡ floor
    top_now = let z = number_here w.top i (w.top i - 1) in let y : w.top i - 1 ≡ floor = omega (arith, top, is) in z ∙ y

    bare : ended_world.role (w.context i b) ≡ None
    bare = role_here w.role (w.context i (w.top i)) None (w.context i b) (ap (w.context i) top)

    no_parent : (u : ℕ) (at : Option Place) → Held own_place ≡ Child u at → ⊥
    no_parent u at e = cc

    no_holder : (a : Address) (n : ℕ) → Held own_place ≡ Held (InField a n) → ⊥
    no_holder a n e = cc

    closes : Shifts ended_world closed_world objects count i floor far
    closes =
        closed_shifts ended_world objects count over_end.shifts.world i here (w.context i b) (Held own_place) (ap (lowered i (w.top i - 1)) ajar) bare (λ u at e. absurd (no_parent u at e)) (λ a n e. absurd (no_holder a n e)) (held_used own_place) floor far (omega (arith, top_now))

    both : Shifts w closed_world objects count i floor far
    both = shifts_then w ended_world closed_world objects count i floor far over_end.shifts closes

    new_at : (t : Option Ty) → (u : World) × Shifts w u objects count i floor far × (u.top i ≡ floor) × FitsSome u goal t v × AliasSome u i k.holds.base floor t v
    new_at None = (closed_world, both, top_now, tt, tt)
    new_at (Some t) =
        let held = held_there w i (suc (length gs)) b (w.context i b) 0 own_place v refl fits in
        let z = settle closed_world objects count closes.world i here (suc (length gs)) 0 floor (omega (arith, top_now)) far (leaving_own i (suc (length gs)) floor 0 floor) goal form.IsoE t.1 v refl held
        (near_home closed_world own_place form.IsoE t.1 goal refl) (refl, omega (arith, top_now)) in (
          z.0,
          shifts_then w closed_world z.0 objects count i floor far both (lower_shift closed_world z.0 objects count i (closed_world.top i) floor far (omega (arith, top_now)) z.1.calm.shifts),
          z.1.calm.top i ∙ top_now,
          z.1.fits,
          subst (λ (m : ℕ). Alias z.0 i k.holds.base m t.1 v) top_now
              (z.1.fresh k.holds.base (omega (arith, top_now)) (λ trn. ap (w.context i) (sym top_now)) (calm_alias closed_world i k.holds.base (closed_world.top i) form.IsoE v (λ e. cc) (λ e. cc))),
        )

    pub new_back : (u : World) × Turned core ann w u i count None objects count (left (Some v) (g ∷ gs))
    new_back =
        let z = new_at k.call.ty in
        comes_back core ann climb w objects count i fields here g gs b x k rest z.0 z.1 z.2 v (typed_result core ann needs objects x v typed k.call.ty k.result) z.3 z.4

-- ---- each kind of method

module _
    (climbs : (core : CoreData) (ann : Ann) → Needs core ann → ClimbLaw core) (core : CoreData) (ann : Ann) (needs : Needs core ann) (around : Around) (f : Frame) (w : World)
  where
    -- A frame waits.
    module _ (g : Frame) (gs : List Frame) (r : Runs core ann around f (g ∷ gs)) (e : ReturnOk core f.method r.held.set r.held.wants) (s : Situated core ann w around f (task.Return ∷ f.tasks) (g ∷ gs)) where
      abbrev x : Method
      x = s.wait.0

      is_x : e.own ≡ x
      is_x = same_Some e.own x (sym e.is_own ∙ s.wait.1)

      base_top : w.top around.actor ≡ s.active.holds.base
      base_top = let a = s.active.last in let b = s.tasks.outer in omega (arith, a, b)

      -- A function.
      fun_back : (k : MethodKind) → x.kind ≡ k → k ≡ method.Fun → (v : Value) (n : ℕ) (t : Ty) → is_below t.1 x.result.1 ≡ true → OfType core around.objects x.result v
          → Fits w (OnStack around.actor (suc (length gs)) n s.active.holds.base) t.1 v → Alias w around.actor s.active.holds.base (w.top around.actor) t.1 v
          → Entered w around.actor x s.wait.2.call.ty s.wait.2.holds.base (s.wait.2.holds.base + s.wait.2.call.depth) s.active.holds.base k
          → (u : World) × Turned core ann w u around.actor around.actors None around.objects around.actors (left (Some v) (g ∷ gs))
      fun_back method.Fun at fun v n t below typed fits alias (inl is) =
          plain_back core ann needs (climbs core ann needs) w around.objects around.actors around.actor s.world s.fields s.here g gs s.active.holds.base x s.wait.2 s.wait.3 n base_top t below v typed fits alias is
      fun_back method.Fun at fun v n t below typed fits alias (inr y) =
          lent_back core ann needs (climbs core ann needs) w around.objects around.actors around.actor s.world s.fields s.here g gs s.active.holds.base x s.wait.2 s.wait.3 n base_top t below v typed fits alias y.0 y.2 y.3 y.4 y.5 y.1
      fun_back method.New at fun v n t below typed fits alias en = absurd (cc)
      fun_back method.Be at fun v n t below typed fits alias en = absurd (cc)
      fun_back method.Spawn at fun v n t below typed fits alias en = absurd (cc)

      -- A class's constructor.
      object_back : x.kind ≡ method.New → (v : Value) → OfType core around.objects x.result v → Fits w (InSlot around.actor (suc (length gs)) 0 s.active.holds.base) form.Ref v → ((c : Cap) × (x.result.1 ≡ unalias c))
          → Entered w around.actor x s.wait.2.call.ty s.wait.2.holds.base (s.wait.2.holds.base + s.wait.2.call.depth) s.active.holds.base method.New
          → (u : World) × Turned core ann w u around.actor around.actors None around.objects around.actors (left (Some v) (g ∷ gs))
      object_back at v typed fits c (inl y) =
          plain_back core ann needs (climbs core ann needs) w around.objects around.actors around.actor s.world s.fields s.here g gs s.active.holds.base x s.wait.2 s.wait.3 0 base_top (0, form.Ref) (new_below c.0 x.result.1 c.1 y.0) v typed
          (ref_moved w around.actor (suc (length gs)) 0 s.active.holds.base v fits) (calm_alias w around.actor s.active.holds.base (w.top around.actor) form.Ref v (λ z. cc) (λ z. cc)) y.1
      object_back at v typed fits c (inr y) =
          new_back core ann needs (climbs core ann needs) w around.objects around.actors around.actor s.world s.fields s.here g gs s.active.holds.base x s.wait.2 s.wait.3 base_top v typed fits y.1 y.2

      never : (k : MethodKind) → e.own.kind ≡ k → leaves k ≡ false → ⊥
      never k is none = false_true (sym none ∙ ap leaves (sym is) ∙ ap (λ (z : Method). leaves z.kind) (same_Some e.own r.wait.0 (sym e.is_own ∙ r.wait.1)) ∙ r.wait.2)

      base_zero : (n : ℕ) → n + 0 ≡ n
      base_zero n = omega arith

      leave_in : (k : MethodKind) → e.own.kind ≡ k → RegionMoveOk core ann w around (g ∷ gs) (leave f k)
      leave_in method.Fun is =
          let v = e.result is in
          let top = top_is core around.objects r.held.this v.0 v.1 f.stack (subst (λ q. StackOk core around.objects r.held.this q f.stack) v.2 r.held.stack_ok) in
          let typed : OfType core around.objects x.result top.top = subst (λ (z : Method). OfType core around.objects z.result top.top) is_x (some_lower core ann needs around.objects v.0.ty (Some e.own.result) top.top v.3 top.answers.0) in
          let same : s.tasks.own ≡ x = same_Some s.tasks.own x (sym s.tasks.is_own ∙ s.wait.1) in
          let kind : x.kind ≡ method.Fun = ap (λ (z : Method). z.kind) (sym is_x) ∙ is in
          let res = s.tasks.result (ap (λ (z : Method). z.kind) same ∙ kind) in
          let es : List Entry = record { ty = Some res.0; depth = 0 } ∷ res.1 in
          let stack : StackFits w around.actor (suc (length gs)) s.active.holds.base es (top.top ∷ top.below) =
          subst (StackFits w around.actor (suc (length gs)) s.active.holds.base es) top.is (subst (λ (q : List Entry). StackFits w around.actor (suc (length gs)) s.active.holds.base q f.stack) res.2 s.active.holds.stack_fit) in
          let alias : TopAlias w around.actor s.active.holds.base es (top.top ∷ top.below) =
          subst (TopAlias w around.actor s.active.holds.base es) top.is (subst (λ (q : List Entry). TopAlias w around.actor s.active.holds.base q f.stack) res.2 (s.fresh refl)) in
          let below : is_below res.0.1 x.result.1 ≡ true = subst (λ (z : Method). is_below res.0.1 z.result.1 ≡ true) same res.3.1 in
          rw top.is (fun_back x.kind refl kind top.top (length top.below) res.0 below typed
          (subst (λ (l : ℕ). Fits w (OnStack around.actor (suc (length gs)) (length top.below) l) res.0.1 top.top) (base_zero s.active.holds.base) stack.0) alias s.wait.2.entered)
      leave_in method.New is =
          let fits : ResultFits method.New e.own = subst (λ (k : MethodKind). ResultFits k e.own) is (needs.formed.methods f.method e.own e.is_own).result_fits in
          let typed : OfType core around.objects e.own.result r.held.this = built_typed core ann needs around f (g ∷ gs) r e is in
          let kind : x.kind ≡ method.New = ap (λ (z : Method). z.kind) (sym is_x) ∙ is in
          let this : Fits w (InSlot around.actor (suc (length gs)) 0 s.active.holds.base) form.Ref r.held.this =
          subst (λ (c : Cap). Fits w (InSlot around.actor (suc (length gs)) 0 s.active.holds.base) (unalias c) r.held.this) fits.0 (s.active.holds.this_fits e.own r.held.this e.is_own r.held.is_this) in
          rw r.held.is_this (object_back kind r.held.this (subst (λ (z : Method). OfType core around.objects z.result r.held.this) is_x typed) this (subst (λ (z : Method). (c : Cap) × (z.result.1 ≡ unalias c)) is_x fits.2)
          (subst (λ (k : MethodKind). Entered w around.actor x s.wait.2.call.ty s.wait.2.holds.base (s.wait.2.holds.base + s.wait.2.call.depth) s.active.holds.base k) kind s.wait.2.entered))
      leave_in method.Be is = absurd (never method.Be is refl)
      leave_in method.Spawn is = absurd (never method.Spawn is refl)

    -- None waits.
    module _ (r : Runs core ann around f []) (e : ReturnOk core f.method r.held.set r.held.wants) (s : Situated core ann w around f (task.Return ∷ f.tasks) []) where
      last_in : (k : MethodKind) → e.own.kind ≡ k → RegionMoveOk core ann w around [] (leave f k)
      last_in method.Fun is =
          let v = e.result is in
          let top = top_is core around.objects r.held.this v.0 v.1 f.stack (subst (λ q. StackOk core around.objects r.held.this q f.stack) v.2 r.held.stack_ok) in
          rw top.is (nothing_waits core ann around f (task.Return ∷ f.tasks) w s (Some top.top) s.tasks.outer)
      last_in method.New is = rw r.held.is_this (nothing_waits core ann around f (task.Return ∷ f.tasks) w s (Some r.held.this) s.tasks.outer)
      last_in method.Be is = nothing_waits core ann around f (task.Return ∷ f.tasks) w s None s.tasks.outer
      last_in method.Spawn is = nothing_waits core ann around f (task.Return ∷ f.tasks) w s None s.tasks.outer

module _ (climbs : (core : CoreData) (ann : Ann) → Needs core ann → ClimbLaw core) where
  pub return_regions : KeepsRegions task.Return
  return_regions core ann needs around f [] r e w s = rw e.is_own (last_in climbs core ann needs around f w r e s e.own.kind refl)
  return_regions core ann needs around f (g ∷ gs) r e w s = rw e.is_own (leave_in climbs core ann needs around f w g gs r e s e.own.kind refl)
