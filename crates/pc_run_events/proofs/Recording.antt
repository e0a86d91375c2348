-- The events that were noted so far.
use Rattle.std.specs.{Prelude.{◌≡◌, ◌⊎◌, ◌<◌, ◌≤◌, ℕ, zero, suc, ◌+◌, Bool, true, false, if◌then◌else◌, nat_lt, List, [], ◌∷◌, ◌++◌, length, Option, Some, None, slice_get, refl}, FinMap.len}
use Rattle.std.proofs.{Common.{inl, inr, ap, sym, subst, ◌∙◌, arith}, lemmas.Bool.{le-ltb, lt-ltb}, lemmas.Option.{same_Some, none-some}, lemmas.Bool.Decides.leb_tells}
use Rattle.pc_base.proofs.Gets.{get_behind, get_below, get_front, get_push}
use Rattle.pc_base.specs.Lists.{◌>>=◌}
use Rattle.pc_core.specs.CoreData.{CoreData}
use Rattle.pc_heap.specs.{Objects.class_at, declared.value.Address.Address}
use Rattle.pc_semantics.specs.{Ahead.ahead_of, Configurations.Configuration, Step.outcomes, Safety.access, declared.access.Access.Access, declared.actors.Actor.Actor, declared.ahead.Ahead.Ahead, declared.mailbox.Message.Message, declared.outcome.Outcome.TheVariants.{Moved, Skipped}}
use Rattle.pc_semantics.specs.declared.ahead.Ahead.TheVariants as ahead
use Rattle.pc_clocks.specs.Seats.{number}
use Rattle.pc_events.specs.{Before.{at_place, Event, waiting_for, waiting_of}, Clock.{Clock, Clocks}, Counting.{AtOrBefore, Counts}}
use Rattle.pc_events.proofs.{Boxes.Boxes, Events.{clock_is, one_actor}, Totals.moving}
use Rattle.pc_run_events.specs.{Events.{Does, EventAt, SentAt, method_waiting, touches_in, touches_with}, Kept.Recorded, Sights.{method_ahead, sight}, Turns.{deed_after, deed_by, noted_with, object_made, task_deed, this_of}, declared.events.Deed.Deed, declared.events.RunEvent.RunEvent}
use Rattle.pc_run_events.specs.declared.events.Deed.TheVariants as deed
use Rattle.pc_run_events.proofs.{Access.{IsTask, access_is_task}, Effects.{Effects, NoneMade, OneMade, effects_at}}
use Rattle.pc_trace.specs.{declared.touch.Touch.Touch, Reached.noted_with as touched_with}

-- ---- the accesses among the events

with_more : (t : RunEvent) (d : Deed) (a b : List Touch) → touches_with t d (a ++ b) ≡ touches_with t d a ++ b
with_more t (deed.Touch x) a b = refl
with_more t (deed.Take m sent) a b = refl
with_more t (deed.Send r m) a b = refl
with_more t (deed.Make n m) a b = refl
with_more t (deed.New q e) a b = refl

pub touches_push : (ts : List RunEvent) (t : RunEvent) → touches_in (ts ++ t ∷ []) ≡ touches_in ts ++ touches_with t t.deed []
touches_push [] t = refl
touches_push (u ∷ us) t = ap (touches_with u u.deed) (touches_push us t) ∙ with_more u u.deed (touches_in us) (touches_with t t.deed [])

none_more : (a : List Touch) → a ++ [] ≡ a
none_more [] = refl
none_more (x ∷ xs) = ap (λ (l : List Touch). x ∷ l) (none_more xs)

-- It is not an access.
abbrev Quiet : Option Deed → Type 0
Quiet None = Unit {0}
Quiet (Some (deed.Take m sent)) = Unit {0}
Quiet (Some (deed.Send r m)) = Unit {0}
Quiet (Some (deed.Make n m)) = Unit {0}
Quiet (Some (deed.New q e)) = Unit {0}
Quiet (Some (deed.Touch x)) = ⊥

take_quiet : (o : Option ℕ) (sent : ℕ) → Quiet (o >>= (λ m. Some (deed.Take m sent)))
take_quiet None sent = tt
take_quiet (Some m) sent = tt

send_quiet : (o : Option ℕ) (r : ℕ) → Quiet (o >>= (λ m. Some (deed.Send r m)))
send_quiet None r = tt
send_quiet (Some m) r = tt

make_quiet : (o : Option ℕ) (n : ℕ) → Quiet (o >>= (λ m. Some (deed.Make n m)))
make_quiet None n = tt
make_quiet (Some m) n = tt

entity_quiet : (q : Address) (o : Option ℕ) → Quiet (o >>= (λ e. Some (deed.New q e)))
entity_quiet q None = tt
entity_quiet q (Some e) = tt

new_quiet : (d : Configuration) (o : Option Address) → Quiet (o >>= (λ a. class_at d.objects a >>= (λ e. Some (deed.New a e))))
new_quiet d None = tt
new_quiet d (Some q) = entity_quiet q (class_at d.objects q)

if_quiet : (b : Bool) (o : Option Deed) → Quiet o → Quiet (if b then o else None)
if_quiet true o q = q
if_quiet false o q = tt

object_quiet : (n : ℕ) (d : Configuration) (i : ℕ) → Quiet (object_made n d i)
object_quiet n d i = if_quiet (nat_lt n (len d.objects)) _ (new_quiet d (this_of d i))

module _ (ts : List RunEvent) (place actor : ℕ) (clock : List ℕ) where
  abbrev noted : Option Deed → List RunEvent
  noted o = noted_with o place actor clock ts

  abbrev event_of : Deed → RunEvent
  event_of d = record { place = place; actor = actor; deed = d; clock = clock }

  none_with : (d : Deed) → touches_with (event_of d) d [] ≡ [] → touches_in (noted (Some d)) ≡ touches_in ts
  none_with d none = touches_push ts (event_of d) ∙ ap (λ (l : List Touch). touches_in ts ++ l) none ∙ none_more (touches_in ts)

  quiet_touches : (o : Option Deed) → Quiet o → touches_in (noted o) ≡ touches_in ts
  quiet_touches None q = refl
  quiet_touches (Some (deed.Take m sent)) q = none_with (deed.Take m sent) refl
  quiet_touches (Some (deed.Send r m)) q = none_with (deed.Send r m) refl
  quiet_touches (Some (deed.Make n m)) q = none_with (deed.Make n m) refl
  quiet_touches (Some (deed.New a e)) q = none_with (deed.New a e) refl
  quiet_touches (Some (deed.Touch x)) q = absurd q

  -- A deed that is not an access has none.
  no_touch : (o : Option Deed) → Quiet o → (x : Option Access) → x ≡ None → touches_in (noted o) ≡ touched_with x place actor clock (touches_in ts)
  no_touch o q x none = quiet_touches o q ∙ ap (λ (o : Option Access). touched_with o place actor clock (touches_in ts)) (sym none)

  noted_touch : (o : Option Deed) → Quiet o → (x : Option Access) → touches_in (noted (task_deed x o)) ≡ touched_with x place actor clock (touches_in ts)
  noted_touch o q None = quiet_touches o q
  noted_touch o q (Some x) = touches_push ts (event_of (deed.Touch x))

pub none_of : (core : CoreData) (c : Configuration) (i : ℕ) (h : Ahead) → ahead_of core c i ≡ h → (IsTask h → ⊥) → (o : Option Access) → access core c i ≡ o → o ≡ None
none_of core c i h is not None e = refl
none_of core c i h is not (Some x) e = absurd (not (subst IsTask is (access_is_task core c i x e)))

module _ (core : CoreData) (c next d : Configuration) (i sent : ℕ) (ts : List RunEvent) (place : ℕ) (clock : List ℕ) where
  touches_by : (h : Ahead) → ahead_of core c i ≡ h → Boxes c next i h → touches_in (noted_with (deed_by h (sight core c i) d i sent) place i clock ts) ≡ touched_with (access core c i) place i clock (touches_in ts)
  touches_by ahead.Take is b = no_touch ts place i clock _ (take_quiet (sight core c i).method sent) (access core c i) (none_of core c i ahead.Take is (λ x. x) (access core c i) refl)
  touches_by (ahead.Send r) is b = no_touch ts place i clock _ (send_quiet (sight core c i).method r) (access core c i) (none_of core c i (ahead.Send r) is (λ x. x) (access core c i) refl)
  touches_by ahead.Spawn is b = no_touch ts place i clock _ (make_quiet (method_waiting d (length c.actors) 0) (length c.actors)) (access core c i) (none_of core c i ahead.Spawn is (λ x. x) (access core c i) refl)
  touches_by ahead.Task is b = noted_touch ts place i clock _ (object_quiet (len c.objects) d i) (access core c i)
  touches_by ahead.Skipped is b = absurd b
  touches_by ahead.Lacks is b = absurd b
  touches_by ahead.TooLong is b = absurd b

-- ---- a step that does nothing

task_take : ahead.Task ≡ ahead.Take → ⊥
task_take e = cc

task_send : (r : ℕ) → ahead.Task ≡ ahead.Send r → ⊥
task_send r e = cc

task_spawn : ahead.Task ≡ ahead.Spawn → ⊥
task_spawn e = cc

-- A step inside of a frame that accesses no field and makes no object.
module _ (core : CoreData) (list : List ℕ) (n i : ℕ) (is : ahead_of core (at_place core list n) i ≡ ahead.Task) (none : access core (at_place core list n) i ≡ None) (unmade : NoneMade (at_place core list n) (at_place core list (suc n))) where
  pub nothing_done : (d : Deed) → Does core list n i d → ⊥
  nothing_done (deed.Take m sent) does = task_take (sym is ∙ does.0)
  nothing_done (deed.Send r m) does = task_send r (sym is ∙ does.0)
  nothing_done (deed.Make a m) does = task_spawn (sym is ∙ does.0)
  nothing_done (deed.New a e) does = unmade.1 a e does.1
  nothing_done (deed.Touch x) does = none-some x (sym none ∙ does)

-- ---- one more event

number_is : (l : List ℕ) (a n : ℕ) → slice_get l a ≡ Some n → number l a ≡ n
number_is [] a n e = absurd (none-some n e)
number_is (m ∷ ms) zero n e = same_Some m n e
number_is (m ∷ ms) (suc a) n e = number_is ms a n e

-- The method of the message that waits first.
first_method : (o : Option Actor) (k : ℕ) → waiting_of o ≡ suc k → (m : ℕ) × ((o >>= (λ x. slice_get x.mailbox 0 >>= (λ m. Some m.method))) ≡ Some m)
first_method None k e = absurd (omega (arith, e))
first_method (Some a) k e = in_mailbox a.mailbox e
  where
    in_mailbox : (ms : List Message) → length ms ≡ suc k → (m : ℕ) × ((slice_get ms 0 >>= (λ m. Some m.method)) ≡ Some m)
    in_mailbox [] e = absurd (omega (arith, e))
    in_mailbox (m ∷ ms) e = (m.method, refl)

pub first_waits : (c : Configuration) (a k : ℕ) → waiting_for c a ≡ suc k → (m : ℕ) × (method_waiting c a 0 ≡ Some m)
first_waits c a k e = first_method (slice_get c.actors a) k e

clocks : (core : CoreData) (list : List ℕ) (p : ℕ) (clock : List ℕ) → length clock ≡ length (at_place core list p).actors → Counts core list (suc p) (AtOrBefore core list p) (number clock) → Clocks core list p clock
clocks core list p clock width counts = record { actors = width; each = λ a n g. subst (Clock core list p a) (number_is clock a n g) (clock_is core list p (number clock) counts a) }

module _ (core : CoreData) (list : List ℕ) (n : ℕ) (events : List RunEvent) (recorded : Recorded core list n events) where
  one_later : (p : ℕ) → p < n → p < suc n
  one_later p l = omega (arith, l)

  split : (p : ℕ) → p < suc n → (p < n → ⊥) → p ≡ n
  split p l not = elim (leb_tells n p) [ inl s ↦ let b = s.1 in omega (arith, b, l) | inr s ↦ absurd (not s.1) ]

  each_later : (k : ℕ) (t : RunEvent) → slice_get events k ≡ Some t → (p : ℕ) × (p < suc n) × (t.place ≡ suc p) × EventAt core list p t
  each_later k t e = let r = recorded.each k t e in (r.0, one_later r.0 r.1, r.2, r.3)

  -- No event at this place does anything.
  recorded_same : ((j : ℕ) (d : Deed) → Event core list n j → Does core list n j d → ⊥) → Recorded core list (suc n) events
  recorded_same none = record {
    each = each_later;
    order = recorded.order;
    all = λ p j d l v does.
        elim (leb_tells n p) [
          | inl s ↦
              let b = s.1 in
              let same : p ≡ n = omega (arith, b, l) in
              absurd (none j d (subst (λ (z : ℕ). Event core list z j) same v) (subst (λ (z : ℕ). Does core list z j d) same does))
          | inr s ↦ recorded.all p j d s.1 v does
        ];
  }

  skipped_moved : Skipped ≡ Moved → ⊥
  skipped_moved e = cc

  pub recorded_rest : slice_get (outcomes core list) n ≡ Some Skipped → Recorded core list (suc n) events
  recorded_rest e = recorded_same (λ j d v does. skipped_moved (same_Some Skipped Moved (sym e ∙ v.moved)))

  module _ (i : ℕ) (ev : Event core list n i) (clock : List ℕ) (width : length clock ≡ length (at_place core list n).actors) (counts : Counts core list (suc n) (AtOrBefore core list n) (number clock)) (place : ℕ) (at : place ≡ suc n) where
    module _ (d : Deed) (does : Does core list n i d) where
      abbrev fresh : RunEvent
      fresh = record { place = place; actor = i; deed = d; clock = clock }

      each_more : (k : ℕ) (t : RunEvent) → slice_get (events ++ fresh ∷ []) k ≡ Some t → (p : ℕ) × (p < suc n) × (t.place ≡ suc p) × EventAt core list p t
      each_more k t e =
          elim (get_push events fresh k t e) [
            | inl x ↦ each_later k t x
            | inr x ↦
                subst (λ (u : RunEvent). (p : ℕ) × (p < suc n) × (u.place ≡ suc p) × EventAt core list p u) x.1
                (n, self n, at, record { event = ev; does = does; clock = clocks core list n clock width counts })
          ]
        where
          self : (n : ℕ) → n < suc n
          self n = omega arith

      order_more : (k m : ℕ) (t u : RunEvent) → k < m → slice_get (events ++ fresh ∷ []) k ≡ Some t → slice_get (events ++ fresh ∷ []) m ≡ Some u → t.place < u.place
      order_more k m t u l e f =
          elim (get_push events fresh m u f) [
            | inl y ↦
                elim (get_push events fresh k t e) [
                  | inl x ↦ recorded.order k m t u l x y
                  | inr x ↦ let b = below m u y in let g = x.0 in absurd (omega (arith, b, g, l))
                ]
            | inr y ↦
                elim (get_push events fresh k t e) [
                  | inl x ↦
                      let r = recorded.each k t x in
                      subst (λ (v : RunEvent). t.place < v.place) y.1 (lower t.place place r.0 n r.2 at r.1)
                  | inr x ↦ let g = x.0 in let h = y.0 in absurd (omega (arith, g, h, l))
                ]
          ]
        where
          below : (m : ℕ) (u : RunEvent) → slice_get events m ≡ Some u → m < length events
          below m u y = get_below events m u y

          lower : (a b p n : ℕ) → a ≡ suc p → b ≡ suc n → p < n → a < b
          lower a b p n e f l = omega (arith, e, f, l)

      recorded_more : Recorded core list (suc n) (events ++ fresh ∷ [])
      recorded_more = record {
        each = each_more;
        order = order_more;
        all = λ p j e l v w.
            elim (leb_tells n p) [
              | inl s ↦ let b = s.1 in let same : p ≡ n = omega (arith, b, l) in (length events, fresh, get_behind events fresh [], at ∙ ap suc (sym same))
              | inr s ↦ let r = recorded.all p j e s.1 v w in (r.0, r.1, get_front events (fresh ∷ []) r.0 r.1 r.2, r.3)
            ];
      }

    abbrev here : Configuration
    here = at_place core list n

    abbrev next : Configuration
    next = at_place core list (suc n)

    -- The events with one more, if there is this deed.
    abbrev With : Option Deed → Type 0
    With o = Recorded core list (suc n) (noted_with o place i clock events)

    -- ---- an object that is made

    abbrev found : Option Deed
    found = this_of next i >>= (λ a. class_at next.objects a >>= (λ e. Some (deed.New a e)))

    nothing_made : NoneMade here next → object_made (len here.objects) next i ≡ None
    nothing_made made =
        ap (λ (k : ℕ). if nat_lt (len here.objects) k then found else None) made.0
        ∙ ap (λ (b : Bool). if b then found else None) (le-ltb (len here.objects) (len here.objects) (no_less (len here.objects)))
      where
        no_less : (k : ℕ) → k ≤ k
        no_less k = omega arith

    object_is : (one : OneMade core here next i) → object_made (len here.objects) next i ≡ Some (deed.New one.address one.entity)
    object_is one =
        ap (λ (b : Bool). if b then found else None) (lt-ltb (len here.objects) (len next.objects) (more (len here.objects) (len next.objects) one.more))
        ∙ ap (λ (o : Option Address). o >>= (λ a. class_at next.objects a >>= (λ e. Some (deed.New a e)))) one.this
        ∙ ap (λ (o : Option ℕ). o >>= (λ e. Some (deed.New one.address e))) one.made.1
      where
        more : (k m : ℕ) → m ≡ k + 1 → k < m
        more k m e = omega (arith, e)

    task_by : ahead_of core here i ≡ ahead.Task → NoneMade here next ⊎ OneMade core here next i → (o : Option Access) → access core here i ≡ o → With (task_deed o (object_made (len here.objects) next i))
    task_by is made (Some x) e = recorded_more (deed.Touch x) e
    task_by is (inl none) None e =
        subst With (sym (nothing_made none)) (recorded_same (λ j d v does. nothing_done core list n i is e none d (subst (λ (z : ℕ). Does core list n z d) (one_actor core list n j i v ev) does)))
    task_by is (inr one) None e = subst With (sym (object_is one)) (recorded_more (deed.New one.address one.entity) (is, one.made))

    -- ---- every kind

    method_is : (h : Ahead) → ahead_of core here i ≡ h → (sight core here i).method ≡ method_ahead core here i h
    method_is h is = ap (method_ahead core here i) is

    module _ (sent : ℕ) (sent_there : ahead_of core here i ≡ ahead.Take → SentAt core list n sent) where
      recorded_by : (h : Ahead) → ahead_of core here i ≡ h → Boxes here next i h → Effects core here next i h → With (deed_by h (sight core here i) next i sent)
      recorded_by ahead.Take is b x =
          let w = first_waits here i (waiting_for next i) b.1 in
          subst With (sym (ap (λ (o : Option ℕ). o >>= (λ m. Some (deed.Take m sent))) (method_is ahead.Take is ∙ w.1))) (recorded_more (deed.Take w.0 sent) (is, w.1, sent_there is))
      recorded_by (ahead.Send r) is b x =
          subst With (sym (ap (λ (o : Option ℕ). o >>= (λ m. Some (deed.Send r m))) (method_is (ahead.Send r) is ∙ x.1))) (recorded_more (deed.Send r x.0) (is, x.2))
      recorded_by ahead.Spawn is b x =
          let w = first_waits next (length here.actors) 0 b.1 in
          subst With (sym (ap (λ (o : Option ℕ). o >>= (λ m. Some (deed.Make (length here.actors) m))) w.1)) (recorded_more (deed.Make (length here.actors) w.0) (is, refl, w.1))
      recorded_by ahead.Task is b x = task_by is x (access core here i) refl
      recorded_by ahead.Skipped is b x = absurd b
      recorded_by ahead.Lacks is b x = absurd b
      recorded_by ahead.TooLong is b x = absurd b

      pub recorded_event : Recorded core list (suc n) (noted_with (deed_after (sight core here i) next i sent) place i clock events)
      recorded_event = recorded_by (ahead_of core here i) refl (moving core list n i ev).boxes (effects_at core list n i ev)

    pub touches_event : (d : Configuration) (sent : ℕ) → touches_in (noted_with (deed_after (sight core here i) d i sent) place i clock events) ≡ touched_with (access core here i) place i clock (touches_in events)
    touches_event d sent = touches_by core here next d i sent events place clock (ahead_of core here i) refl (moving core list n i ev).boxes
