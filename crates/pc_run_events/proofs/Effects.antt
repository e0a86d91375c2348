-- What is there after a step: the message that it sent, and the object that it made.
use Rattle.std.specs.{Prelude.{◌≡◌, ◌⊎◌, ◌<◌, ℕ, zero, suc, ◌+◌, Bool, false, cond, is_some, List, [], ◌∷◌, ◌++◌, take, length, Option, Some, None, slice_get, refl}, FinMap.{get, insert, len, len-insert}}
use Rattle.std.proofs.{Common.{inl, inr, ap, sym, subst, ◌∙◌}, lemmas.Option.{same_Some, none-some}}
use Rattle.pc_heap.specs.{Addresses.addresses_total, Objects.{ObjectMap, class_at, with_field, Object}, Parts.{class_in, object_in}, declared.value.Address.Address, declared.value.Value.Value, declared.value.Value.TheVariants.At}
use Rattle.pc_core.specs.CoreData.{CoreData}
use Rattle.pc_base.proofs.Gets.{get_within}
use Rattle.pc_base.specs.Lists.{◌>>=◌}
use Rattle.pc_semantics.specs.{Ahead.{ahead_of, by_move}, Configurations.{Move, Stuck, Overflows, Goes, Writes, Makes, Spawns, Enters, Sends, Leaves, Configuration, start, address_of}, Safety.{access, touched_name}, Step.left, declared.actors.Actor.Actor, declared.ahead.Ahead.Ahead, declared.frames.Frame.Frame, declared.frames.Task.Task, declared.mailbox.Message.Message, declared.outcome.Outcome.TheVariants.Moved}
use Rattle.pc_semantics.specs.declared.ahead.Ahead.TheVariants as ahead
use Rattle.pc_events.specs.Before.{at_place, Event, waiting_for, waiting_of}
use Rattle.pc_events.proofs.{Changes.{Change, Heaping, New, Same, Sets, applied, changed, going, heaped, local, on_heap, planned, plan, pushing}, Closed.moved_next, Lists.{get_changed, length_changed}, Maps.{Fit, address_cases, get_here, get_other}, Outcomes.{taking_ahead, turn}, Plans.{plans, view}, Reach.{Placed, after_placed, fits}, Right.touch_by, Told.{Told, access_is, ahead_is, told}}
use Rattle.pc_run_events.proofs.Shown.{OfConstructor, Shown, shown}
use Rattle.pc_run_events.specs.{Events.{MadeThere, method_waiting}, Sights.{method_called, method_sent, next_task}, Turns.this_of}

-- ---- objects

-- Nothing is made.
abbrev pub NoneMade : Configuration → Configuration → Type 0
NoneMade c d = (len d.objects ≡ len c.objects) × ((q : Address) (e : ℕ) → MadeThere c d q e → ⊥)

-- Actor i made this object, is in its constructor, and touched no field; nothing else was made.
pub record OneMade (core : CoreData) (c d : Configuration) (i : ℕ) : Type 0 where
  pub address : Address
  pub entity : ℕ
  pub more : len d.objects ≡ len c.objects + 1
  pub this : this_of d i ≡ Some address
  pub made : MadeThere c d address entity
  pub only : (q : Address) (e : ℕ) → MadeThere c d q e → (q ≡ address) × (e ≡ entity)
  pub untouched : access core c i ≡ None
  pub of_constructor : OfConstructor core entity

-- The message that was sent comes last in its receiver's mailbox, and its method is the one that was called.
abbrev pub OneSent : CoreData → Configuration → Configuration → (i r : ℕ) → Type 0
OneSent core c d i r = (m : ℕ) × (method_sent core c i r ≡ Some m) × (method_waiting d r (waiting_for c r) ≡ Some m)

abbrev pub Effects : CoreData → Configuration → Configuration → ℕ → Ahead → Type 0
Effects core c d i ahead.Take = Unit {0}
Effects core c d i (ahead.Send r) = OneSent core c d i r
Effects core c d i ahead.Spawn = Unit {0}
Effects core c d i ahead.Task = NoneMade c d ⊎ OneMade core c d i
Effects core c d i ahead.Skipped = Unit {0}
Effects core c d i ahead.Lacks = Unit {0}
Effects core c d i ahead.TooLong = Unit {0}

-- ---- what becomes of the objects

-- The objects of h and those of k: no address has an object in k alone.
abbrev NoNew : ObjectMap → ObjectMap → Type 0
NoNew h k = (len k ≡ len h) × ((q : Address) (e : ℕ) → class_at h q ≡ None → class_at k q ≡ Some e → ⊥)

same_objects : (h : ObjectMap) → NoNew h h
same_objects h = (refl, λ q e none some. none-some e (sym none ∙ some))

sets_objects : (h : ObjectMap) (a : Address) (k : ℕ) (v : Value) (o : Object) → get h a ≡ Some o → NoNew h (heaped (Sets a k v) h)
sets_objects h a k v o there = (
  len-insert addresses_total h a (with_field (object_in (get h a)) k v) ∙ ap (λ (p : Option Object). cond (is_some p) (len h) (len h + 1)) there,
  λ q e none some.
      elim (address_cases q a) [
        | inl same ↦ none-some o.entity (sym none ∙ ap (class_at h) same ∙ ap class_in there)
        | inr other ↦ none-some e (sym none ∙ sym (ap class_in (get_other h a (with_field (object_in (get h a)) k v) q other)) ∙ some)
      ],
)

one_longer : (h : ObjectMap) (a : Address) (o : Object) → get h a ≡ None → len (insert h a o) ≡ len h + 1
one_longer h a o free = len-insert addresses_total h a o ∙ ap (λ (p : Option Object). cond (is_some p) (len h) (len h + 1)) free

only_new : (h : ObjectMap) (a : Address) (o : Object) (q : Address) (e : ℕ) → class_at h q ≡ None → class_at (insert h a o) q ≡ Some e → (q ≡ a) × (e ≡ o.entity)
only_new h a o q e none some =
    elim (address_cases q a) [
      | inl same ↦ (same, same_Some e o.entity (sym some ∙ ap (class_at (insert h a o)) same ∙ ap class_in (get_here h a o)))
      | inr other ↦ absurd (none-some e (sym none ∙ sym (ap class_in (get_other h a o q other)) ∙ some))
    ]

-- ---- a message at the end of a mailbox

last_one : (ms : List Message) (m : Message) → slice_get (ms ++ m ∷ []) (length ms) ≡ Some m
last_one [] m = refl
last_one (x ∷ xs) m = last_one xs m

-- The method of the message that comes last, in a list of actors in which one goes on and one is sent a message.
method_pushed : (l : List Actor) (i j : ℕ) (fs : List Frame) (m : Message) → j < length l
    → (slice_get (changed (changed l i (going false fs)) j (pushing m)) j >>= (λ x. slice_get x.mailbox (waiting_of (slice_get l j)) >>= (λ m. Some m.method))) ≡ Some m.method
method_pushed l i j fs m b =
    let k : List Actor = changed l i (going false fs) in
    let w = get_within k j (subst (λ (n : ℕ). j < n) (sym (length_changed l i (going false fs))) b) in
    let same : waiting_of (slice_get l j) ≡ length w.0.mailbox = sym (kept_mail l i fs j) ∙ ap waiting_of w.1 in
    ap (λ (n : ℕ). slice_get (changed k j (pushing m)) j >>= (λ x. slice_get x.mailbox n >>= (λ m. Some m.method))) same
    ∙ ap (λ (o : Option Actor). o >>= (λ x. slice_get x.mailbox (length w.0.mailbox) >>= (λ m. Some m.method))) (get_changed k j (pushing m) w.0 w.1)
    ∙ ap (λ (o : Option Message). o >>= (λ m. Some m.method)) (last_one w.0.mailbox m)
  where
    kept_mail : (l : List Actor) (i : ℕ) (fs : List Frame) (a : ℕ) → waiting_of (slice_get (changed l i (going false fs)) a) ≡ waiting_of (slice_get l a)
    kept_mail [] i fs a = refl
    kept_mail (b ∷ bs) zero fs zero = refl
    kept_mail (b ∷ bs) zero fs (suc a) = refl
    kept_mail (b ∷ bs) (suc i) fs zero = refl
    kept_mail (b ∷ bs) (suc i) fs (suc a) = kept_mail bs i fs a

-- ---- a task

module _ (core : CoreData) (c : Configuration) (i : ℕ) (a : Actor) (f : Frame) (below : List Frame) (t : Task) (rest : List Task) (is : slice_get c.actors i ≡ Some a) (frames : a.frames ≡ f ∷ below) (tasks : f.tasks ≡ t ∷ rest) where
  next_is : next_task c i ≡ Some t
  next_is =
      ap (λ (o : Option Actor). o >>= (λ a. slice_get a.frames 0 >>= (λ f. slice_get f.tasks 0))) is ∙ ap (λ (fs : List Frame). slice_get fs 0 >>= (λ f. slice_get f.tasks 0)) frames
      ∙ ap (λ (ts : List Task). slice_get ts 0) tasks

  sent_is : (r : ℕ) → method_sent core c i r ≡ method_called core c.objects t r
  sent_is r = ap (λ (o : Option Task). o >>= (λ t. method_called core c.objects t r)) next_is

  untouched_is : touched_name core t ≡ None → access core c i ≡ None
  untouched_is e = access_is core c i a f below t rest is frames tasks ∙ ap (λ (o : Option (ℕ × Bool)). o >>= (λ n. touch_by core c.objects n (slice_get f.stack 0))) e

  -- `this` in a frame that begins.
  this_is : (g : Frame) (fs : List Frame) (z : Heaping) (q : Address) → slice_get g.slots 0 ≡ Some (Some (At q)) → this_of (applied c i (on_heap (g ∷ fs) z)) i ≡ Some q
  this_is g fs z q e =
      ap (λ (o : Option Actor). o >>= (λ a. slice_get a.frames 0 >>= (λ f. slice_get f.slots 0 >>= (λ slot. slot >>= (λ v. address_of v))))) (get_changed c.actors i (going false (g ∷ fs)) a is)
      ∙ ap (λ (o : Option (Option Value)). o >>= (λ slot. slot >>= (λ v. address_of v))) e

  none_made : (d : Configuration) → NoNew c.objects d.objects → NoneMade c d
  none_made d n = (n.0, λ q e m. n.1 q e m.0 m.1)

  abbrev To : Ahead → Change → Type 0
  To h x = Effects core c (applied c i x) i h

  local_effects : (fs : List Frame) → To ahead.Task (local fs)
  local_effects fs = inl (none_made (applied c i (local fs)) (same_objects c.objects))

  writes_effects : (fs : List Frame) (q : Address) (k : ℕ) (v : Value) → Fit c.objects (Sets q k v) → To ahead.Task (on_heap fs (Sets q k v))
  writes_effects fs q k v fit = inl (none_made (applied c i (on_heap fs (Sets q k v))) (sets_objects c.objects q k v fit.0 fit.1))

  makes_effects : (q : Address) (o : Object) (g : Frame) (fs : List Frame) → Fit c.objects (New q o) → slice_get g.slots 0 ≡ Some (Some (At q)) → touched_name core t ≡ None → OfConstructor core o.entity → To ahead.Task (on_heap (g ∷ fs) (New q o))
  makes_effects q o g fs free this none of = inr (record {
    address = q;
    entity = o.entity;
    more = one_longer c.objects q o free;
    this = this_is g fs (New q o) q this;
    made = (ap class_in free, ap class_in (get_here c.objects q o));
    only = λ r e m. only_new c.objects q o r e m.0 m.1;
    untouched = untouched_is none;
    of_constructor = of;
  })

  abbrev sending : (receiver : ℕ) → Message → Frame → Change
  sending j m g = record { takes = false; frames = g ∷ below; heap = Same; sends = Some (j, m); spawns = None; prints = None }

  sends_effects : (j : ℕ) (m : Message) (g : Frame) → j < length c.actors → method_called core c.objects t j ≡ Some m.method → To (ahead.Send j) (sending j m g)
  sends_effects j m g b e = (m.method, sent_is j ∙ e, method_pushed c.actors i j (g ∷ below) m b)

  move_effects : (m : Move) (x : Change) → planned (length c.actors) below m ≡ Some x → Told core c i x → Fit c.objects x.heap → Shown core c.objects t m → To (by_move m) x
  move_effects (Stuck l) x p told fit s = absurd (none-some x p)
  move_effects Overflows x p told fit s = absurd (none-some x p)
  move_effects (Goes g) x p told fit s = subst (To ahead.Task) (same_Some (local (g ∷ below)) x p) (local_effects (g ∷ below))
  move_effects (Writes q k v g) x p told fit s =
      let is : on_heap (g ∷ below) (Sets q k v) ≡ x = same_Some (on_heap (g ∷ below) (Sets q k v)) x p in
      subst (To ahead.Task) is (writes_effects (g ∷ below) q k v (subst (λ (y : Change). Fit c.objects y.heap) (sym is) fit))
  move_effects (Makes q o g k) x p told fit s =
      let is : on_heap (g ∷ k ∷ below) (New q o) ≡ x = same_Some (on_heap (g ∷ k ∷ below) (New q o)) x p in
      subst (To ahead.Task) is (makes_effects q o g (k ∷ below) (subst (λ (y : Change). Fit c.objects y.heap) (sym is) fit) s.0 s.1 s.2)
  move_effects (Spawns o m g) x p told fit s = tt
  move_effects (Enters g k) x p told fit s = subst (To ahead.Task) (same_Some (local (g ∷ k ∷ below)) x p) (local_effects (g ∷ k ∷ below))
  move_effects (Sends j m g) x p told fit s =
      let is : sending j m g ≡ x = same_Some (sending j m g) x p in
      let there : Told core c i (sending j m g) = subst (Told core c i) (sym is) told in
      subst (To (ahead.Send j)) is (sends_effects j m g there.sends.0 s)
  move_effects (Leaves v) x p told fit s = subst (To ahead.Task) (same_Some (local (left v below)) x p) (local_effects (left v below))

-- ---- every step

effects : (core : CoreData) (c : Configuration) (i : ℕ) (x : Change) → plan core c i ≡ Some x → Placed c → Effects core c (applied c i x) i (ahead_of core c i)
effects core c i x p placed =
    let known : Told core c i x = told core c i x p in
    elim (view core c i x p) [
      | inl r ↦
          let f : Frame = record { method = r.frame.method; slots = r.frame.slots; stack = r.frame.stack; tasks = r.rest } in
          subst (λ (h : Ahead). Effects core c (applied c i x) i h) (sym (ahead_is core c i r.actor r.frame r.below r.task r.rest r.is r.frames r.tasks))
          (move_effects core c i r.actor r.frame r.below r.task r.rest r.is r.frames r.tasks _ x r.plans known (fits core c i x placed known) (shown core c.objects i (length c.actors) f r.task))
      | inr t ↦ subst (λ (h : Ahead). Effects core c (applied c i x) i h) (sym (taking_ahead core c i x p t)) tt
    ]

pub effects_at : (core : CoreData) (list : List ℕ) (k i : ℕ) → Event core list k i → Effects core (at_place core list k) (at_place core list (suc k)) i (ahead_of core (at_place core list k) i)
effects_at core list k i e =
    let t = turn core list (start core) k Moved e.moved in
    let c : Configuration = at_place core list k in
    let x = plans core c t.actor t.ends in
    let same : t.actor ≡ i = same_Some t.actor i (sym t.is ∙ e.actor) in
    let next : at_place core list (suc k) ≡ applied c t.actor x.0 = moved_next core list k e.moved x.0 x.1 in
    subst (λ (j : ℕ). Effects core c (at_place core list (suc k)) j (ahead_of core c j)) same
    (subst (λ (d : Configuration). Effects core c d t.actor (ahead_of core c t.actor)) (sym next) (effects core c t.actor x.0 x.1 (after_placed core (take k list))))
