-- Conflicting events of a run are ordered.
use Rattle.std.specs.{Prelude.{◌≡◌, ◌≢◌, ◌⊎◌, ◌<◌, ◌≤◌, ℕ, zero, suc, ◌+◌, ◌-◌, Bool, true, false, List, [], ◌∷◌, ◌++◌, take, length, Option, Some, None, slice_get, refl}, FinMap.get}
use Rattle.std.proofs.{Common.{inl, inr, ap, sym, subst, ◌∙◌, arith}, lemmas.Option.{same_Some, none-some}, lemmas.List.{append-nil, append_assoc}, lemmas.Bool.Decides.{eqb_tells, leb_tells}}
use Rattle.pc_base.proofs.Gets.{get_below, get_within, get_front}
use Rattle.pc_heap.specs.{Objects.{ObjectMap, class_at, Object}, Parts.class_in, declared.value.Address.Address, declared.value.Value.Value, declared.value.Value.TheVariants.At}
use Rattle.pc_base.specs.Lists.{◌>>=◌}
use Rattle.pc_core.specs.{CoreData.{field_named, CoreData}, declared.nodes.Node.Node, declared.nodes.NodeKind.NodeKind, Kinds.{field_read, field_written}}
use Rattle.pc_core.specs.declared.nodes.NodeKind.TheVariants as node
use Rattle.pc_semantics.specs.{declared.access.Access.Access, declared.actors.Actor.Actor, declared.frames.Frame.Frame, declared.frames.Task.Task, declared.mailbox.Message.Message, declared.outcome.Outcome.Outcome, declared.outcome.Outcome.TheVariants.{Moved, Skipped}, Configurations.{Configuration, start, Around, with_stack, pop, address_of}, Parts.{with_top, get_field, put_field, get_of, get_from, put_of, put_into, at_node, step_of, run_task}, Calls.{get_task, put_task}, Step.{task_move, step, run_frames, made, followed, run_from, after, outcomes}, Safety.{touched_name, access_of, access, Race, LacksNothing, Safe}, Ahead.ahead_of}
use Rattle.pc_semantics.specs.declared.frames.Task.TheVariants as task
use Rattle.pc_semantics.specs.declared.ahead.Ahead.TheVariants as ahead
use Rattle.pc_events.specs.{Before.{at_place, Event, receiver_by, receiver_of, takes_one, taken_before, waiting_of, waiting_for, Before, own, carried, chain}, Clock.Conflict, Laws.{ConflictsOrdered, BeforeIsEarlier, EarlierComesBefore}, Counting.Live}
use Rattle.pc_events.proofs.{Changes.{Heaping, Same, Sets, New, Change, applied, acted, plan}, Maps.{Fit, NotBy, Touches, class_kept}, Right.{touch, touch_by}, Stable.NotStuck, Plans.{Running, view, plans, step_is}, Told.{HeapTold, SendTold, SpawnTold, Told, told, access_is}, Kept.{Still, acted_still, spawned_still, value_there, touched_there}, Reach.{Placed, fits, after_placed}, Like.{AddressLike, address_more}, Sim.{Marks, MoreMarks, Clean, Status, Sim, sim_marked, second_address}, SimOne.one_goes, SimEvent.{touch_like, task_takes, not_lacking, frames_cons, Followed, Reason, event_goes}, Outcomes.{Turn, turn, earlier, goes_on, taking_ahead, other_next, skipped_next}, Closed.{sim_front, pair_goes, nothing, Closed, actor_of, moved_next, skipped_behind, closed_at}}

-- ---- an access that is about to come stays

access_kept_of : (core : CoreData) (c d : Configuration) (f : Frame) → ((q : Address) (e : ℕ) → class_at c.objects q ≡ Some e → class_at d.objects q ≡ Some e) → (n : ℕ × Bool) (x : Access) → access_of core c f n ≡ Some x → access_of core d f n ≡ Some x
access_kept_of core c d f classes n x e = value (slice_get f.stack 0) e
  where
    entity : (a : Address) (o : Option ℕ) → class_at c.objects a ≡ o → (o >>= (λ e. field_named core e n.0 >>= (λ i. Some (record { address = a; field = i; write = n.1 })))) ≡ Some x
        → (class_at d.objects a >>= (λ e. field_named core e n.0 >>= (λ i. Some (record { address = a; field = i; write = n.1 })))) ≡ Some x
    entity a None s e = absurd (none-some x e)
    entity a (Some k) s e = ap (λ (o : Option ℕ). o >>= (λ e. field_named core e n.0 >>= (λ i. Some (record { address = a; field = i; write = n.1 })))) (classes a k s) ∙ e

    value : (v : Option Value) → (v >>= (λ v. address_of v >>= (λ a. class_at c.objects a >>= (λ e. field_named core e n.0 >>= (λ i. Some (record { address = a; field = i; write = n.1 })))))) ≡ Some x
        → (v >>= (λ v. address_of v >>= (λ a. class_at d.objects a >>= (λ e. field_named core e n.0 >>= (λ i. Some (record { address = a; field = i; write = n.1 })))))) ≡ Some x
    value None e = absurd (none-some x e)
    value (Some (At a)) e = entity a (class_at c.objects a) refl e
    value (Some v) e = absurd (none-some x e)

access_kept : (core : CoreData) (c : Configuration) (i j : ℕ) (y : Change) (x : Access) → i ≢ j → Fit c.objects y.heap → access core c i ≡ Some x → access core (applied c j y) i ≡ Some x
access_kept core c i j y x differ fit e = actor (slice_get c.actors i) refl e
  where
    d : Configuration
    d = applied c j y

    classes : (q : Address) (e : ℕ) → class_at c.objects q ≡ Some e → class_at (applied c j y).objects q ≡ Some e
    classes q e is = class_kept c.objects y.heap fit q e is

    name : (f : Frame) (n : Option (ℕ × Bool)) → (n >>= (λ n. access_of core c f n)) ≡ Some x → (n >>= (λ n. access_of core (applied c j y) f n)) ≡ Some x
    name f None e = absurd (none-some x e)
    name f (Some n) e = access_kept_of core c (applied c j y) f classes n x e

    tasks : (f : Frame) (t : Option Task) → (t >>= (λ t. touched_name core t >>= (λ n. access_of core c f n))) ≡ Some x → (t >>= (λ t. touched_name core t >>= (λ n. access_of core (applied c j y) f n))) ≡ Some x
    tasks f None e = absurd (none-some x e)
    tasks f (Some t) e = name f (touched_name core t) e

    frames : (f : Option Frame) → (f >>= (λ f. slice_get f.tasks 0 >>= (λ t. touched_name core t >>= (λ n. access_of core c f n)))) ≡ Some x
        → (f >>= (λ f. slice_get f.tasks 0 >>= (λ t. touched_name core t >>= (λ n. access_of core (applied c j y) f n)))) ≡ Some x
    frames None e = absurd (none-some x e)
    frames (Some f) e = tasks f (slice_get f.tasks 0) e

    actor : (a : Option Actor) → slice_get c.actors i ≡ a → (a >>= (λ a. slice_get a.frames 0 >>= (λ f. slice_get f.tasks 0 >>= (λ t. touched_name core t >>= (λ n. access_of core c f n))))) ≡ Some x → access core (applied c j y) i ≡ Some x
    actor None s e = absurd (none-some x e)
    actor (Some a) s e =
        let k : Still (applied c j y).actors i a = spawned_still y.spawns (acted j y c.actors) i a (acted_still j y c.actors i a differ s) in
        ap (λ (o : Option Actor). o >>= (λ a. slice_get a.frames 0 >>= (λ f. slice_get f.tasks 0 >>= (λ t. touched_name core t >>= (λ n. access_of core (applied c j y) f n))))) k.is
        ∙ ap (λ (fs : List Frame). slice_get fs 0 >>= (λ f. slice_get f.tasks 0 >>= (λ t. touched_name core t >>= (λ n. access_of core (applied c j y) f n)))) k.frames
        ∙ frames (slice_get a.frames 0) e

-- ---- a task that names a field and lacks nothing touches it

module _ (core : CoreData) (a : Around) (name : ℕ) (w : Bool) where
  abbrev Touches_top : List Value → Type 0
  Touches_top vs = (z : Access) × (touch_by core a.objects (name, w) (slice_get vs 0) ≡ Some z)

  field_some : (b : Address) (o : Object) (q : Option ℕ) → field_named core o.entity name ≡ q → get a.objects b ≡ Some o → (q ≡ None → ⊥) → (z : Access) × (touch_by core a.objects (name, w) (Some (At b)) ≡ Some z)
  field_some b o None e g never = absurd (never refl)
  field_some b o (Some j) e g never = (
    record { address = b; field = j; write = w },
    ap (λ (p : Option Object). class_in p >>= (λ e. field_named core e name >>= (λ i. Some (record { address = b; field = i; write = w })))) g
        ∙ ap (λ (p : Option ℕ). p >>= (λ i. Some (record { address = b; field = i; write = w }))) e,
  )

  read_some : (b : Address) (f : Frame) (p : Option Object) → get a.objects b ≡ p → NotStuck (get_of core f name p) → (z : Access) × (touch_by core a.objects (name, w) (Some (At b)) ≡ Some z)
  read_some b f None g s = absurd s
  read_some b f (Some o) g s = field_some b o (field_named core o.entity name) refl g (λ e. subst (λ (q : Option ℕ). NotStuck (get_field f o q)) e s)

  set_some : (b : Address) (v : Value) (f : Frame) (p : Option Object) → get a.objects b ≡ p → NotStuck (put_of core f name b v p) → (z : Access) × (touch_by core a.objects (name, w) (Some (At b)) ≡ Some z)
  set_some b v f None g s = absurd s
  set_some b v f (Some o) g s = field_some b o (field_named core o.entity name) refl g (λ e. subst (λ (q : Option ℕ). NotStuck (put_field f b o v q)) e s)

  from_some : (v : Value) (vs : List Value) (f : Frame) → NotStuck (get_from core a name v f) → Touches_top (v ∷ vs)
  from_some (At b) vs f s = read_some b f (get a.objects b) refl s
  from_some v vs f s = absurd s

  into_some : (o v : Value) (vs : List Value) (f : Frame) → NotStuck (put_into core a name o v f) → Touches_top (o ∷ vs)
  into_some (At b) v vs f s = set_some b v f (get a.objects b) refl s
  into_some o v vs f s = absurd s

  get_some : (vs : List Value) (f : Frame) → NotStuck (with_top f vs (get_from core a name)) → Touches_top vs
  get_some [] f s = absurd s
  get_some (v ∷ vs) f s = from_some v vs (with_stack f vs) s

  second_some : (o : Value) (us vs : List Value) (f : Frame) → NotStuck (with_top f us (put_into core a name o)) → Touches_top (o ∷ vs)
  second_some o [] vs f s = absurd s
  second_some o (v ∷ us) vs f s = into_some o v vs (with_stack f us) s

  put_some : (vs : List Value) (f : Frame) → NotStuck (with_top f vs (λ o g. pop g (put_into core a name o))) → Touches_top vs
  put_some [] f s = absurd s
  put_some (o ∷ vs) f s = second_some o vs vs (with_stack f vs) s

touches_some : (core : CoreData) (a : Around) (f : Frame) (t : Task) (n : ℕ × Bool) → touched_name core t ≡ Some n → NotStuck (task_move core a f t) → (z : Access) × (touch core a.objects f.stack t ≡ Some z)
touches_some core a f (task.Get k) n is s = by_node (slice_get core.nodes k) refl s
  where
    by_kind : (x : Node) → slice_get core.nodes k ≡ Some x → (kind : NodeKind) → x.kind ≡ kind → NotStuck (get_task core a f kind) → (z : Access) × (touch core a.objects f.stack (task.Get k) ≡ Some z)
    by_kind x e (node.Field name) q s =
        let r = get_some core a name false f.stack f s in (
          r.0,
          ap (λ (z : Option Node). (z >>= (λ x. field_read x.kind >>= (λ name. Some (name, false)))) >>= (λ n. touch_by core a.objects n (slice_get f.stack 0))) e
              ∙ ap (λ (z : NodeKind). (field_read z >>= (λ name. Some (name, false))) >>= (λ n. touch_by core a.objects n (slice_get f.stack 0))) q ∙ r.1,
        )
    by_kind x e kind q s = absurd s

    by_node : (o : Option Node) → slice_get core.nodes k ≡ o → NotStuck (at_node o (λ x. get_task core a f x.kind)) → (z : Access) × (touch core a.objects f.stack (task.Get k) ≡ Some z)
    by_node None e s = absurd s
    by_node (Some x) e s = by_kind x e x.kind refl s
touches_some core a f (task.Put k) n is s = by_node (slice_get core.nodes k) refl s
  where
    by_kind : (x : Node) → slice_get core.nodes k ≡ Some x → (kind : NodeKind) → x.kind ≡ kind → NotStuck (put_task core a f kind) → (z : Access) × (touch core a.objects f.stack (task.Put k) ≡ Some z)
    by_kind x e (node.SetField name) q s =
        let r = put_some core a name true f.stack f s in (
          r.0,
          ap (λ (z : Option Node). (z >>= (λ x. field_written x.kind >>= (λ name. Some (name, true)))) >>= (λ n. touch_by core a.objects n (slice_get f.stack 0))) e
              ∙ ap (λ (z : NodeKind). (field_written z >>= (λ name. Some (name, true))) >>= (λ n. touch_by core a.objects n (slice_get f.stack 0))) q ∙ r.1,
        )
    by_kind x e kind q s = absurd s

    by_node : (o : Option Node) → slice_get core.nodes k ≡ o → NotStuck (at_node o (λ x. put_task core a f x.kind)) → (z : Access) × (touch core a.objects f.stack (task.Put k) ≡ Some z)
    by_node None e s = absurd s
    by_node (Some x) e s = by_kind x e x.kind refl s
touches_some core a f t n is s = absurd (none-some n is)

named : (core : CoreData) (h : ObjectMap) (vs : List Value) (o : Option (ℕ × Bool)) (x : Access) → (o >>= (λ n. touch_by core h n (slice_get vs 0))) ≡ Some x → (n : ℕ × Bool) × (o ≡ Some n)
named core h vs None x e = absurd (none-some x e)
named core h vs (Some n) x e = (n, refl)

-- An idle actor is about to touch nothing.
idle_touches : (core : CoreData) (c : Configuration) (i : ℕ) (a : Actor) → slice_get c.actors i ≡ Some a → a.frames ≡ [] → (x : Access) → access core c i ≡ Some x → ⊥
idle_touches core c i a is e x s =
    none-some x
    (sym (ap (λ (o : Option Actor). o >>= (λ a. slice_get a.frames 0 >>= (λ f. slice_get f.tasks 0 >>= (λ t. touched_name core t >>= (λ n. access_of core c f n))))) is
    ∙ ap (λ (gs : List Frame). slice_get gs 0 >>= (λ f. slice_get f.tasks 0 >>= (λ t. touched_name core t >>= (λ n. access_of core c f n)))) e) ∙ s)

-- ---- accesses that clash

-- Two different actors are about to touch the same object, at fields that are so related, and one of them writes.
pub record Clash (Related : ℕ → ℕ → Type 0) (core : CoreData) (c : Configuration) : Type 0 where
  pub i : ℕ
  pub j : ℕ
  pub differ : i ≢ j
  pub one : Access
  pub other : Access
  pub accesses : access core c i ≡ Some one
  pub accesses_too : access core c j ≡ Some other
  pub address : one.address ≡ other.address
  pub field : Related one.field other.field
  pub writes : (one.write ≡ true) ⊎ (other.write ≡ true)

-- Two events of different actors touch the same object, at fields that are so related, and one of them writes.
pub record Meet (Related : ℕ → ℕ → Type 0) (core : CoreData) (list : List ℕ) (p q : ℕ) : Type 0 where
  pub i : ℕ
  pub j : ℕ
  pub first : Event core list p i
  pub second : Event core list q j
  pub differ : i ≢ j
  pub one : Access
  pub other : Access
  pub accesses : access core (at_place core list p) i ≡ Some one
  pub accesses_too : access core (at_place core list q) j ≡ Some other
  pub address : one.address ≡ other.address
  pub field : Related one.field other.field
  pub writes : (one.write ≡ true) ⊎ (other.write ≡ true)

clash_races : (core : CoreData) (c : Configuration) → Clash (λ x y. x ≡ y) core c → Race core c
clash_races core c x = record {
  i = x.i;
  j = x.j;
  differ = x.differ;
  one = x.one;
  other = x.other;
  accesses = x.accesses;
  accesses_too = x.accesses_too;
  address = x.address;
  field = x.field;
  writes = x.writes;
}

-- ---- configurations that runs lead to

pub record Reached (core : CoreData) (d : Configuration) : Type 0 where
  pub list : List ℕ
  pub on : (rest : List ℕ) → after core (list ++ rest) ≡ run_from core d rest

reached_is : (core : CoreData) (d : Configuration) (r : Reached core d) → after core r.list ≡ d
reached_is core d r = ap (after core) (sym (append-nil r.list)) ∙ r.on []

reached_step : (core : CoreData) (d e : Configuration) (j : ℕ) → Reached core d → step core d j ≡ (Moved, e) → Reached core e
reached_step core d e j r s = record {
  list = r.list ++ j ∷ [];
  on = λ rest. ap (after core) (append_assoc r.list (j ∷ []) rest) ∙ r.on (j ∷ rest) ∙ ap (followed (λ n. run_from core n rest) d d) s;
}

-- ---- the run from p on

module _ (core : CoreData) (safe : Safe core) (list : List ℕ) (q : ℕ) (ih : (k : ℕ) → k < q → (e : ℕ) → e < k → Conflict core list e k → Before core list e k) (p : ℕ) (less : p < q) (i j : ℕ) (ep : Event core list p i) (eq : Event core list q j) (one other : Access)
    (ap_ : access core (at_place core list p) i ≡ Some one) (aq : access core (at_place core list q) j ≡ Some other) where
  abbrev After : ℕ → Type 0
  After e = (p ≡ e) ⊎ Before core list p e

  after_before : (e k : ℕ) → After e → Before core list e k → After k
  after_before e k (inl s) b = inr (subst (λ (z : ℕ). Before core list z k) (sym s) b)
  after_before e k (inr a) b = inr (chain p e k a b)

  abbrev marks : ℕ → Marks
  marks k = record {
    actor = λ a. (e : ℕ) × After e × (e < k) × Event core list e a;
    post = λ r n. (e : ℕ) × (s : ℕ) × After e × (e < k) × Event core list e s × (receiver_of core (at_place core list e) s ≡ Some r) × (n ≡ taken_before core list e r + waiting_for (at_place core list e) r);
    wrote = λ a f. (e : ℕ) × (s : ℕ) × After e × (e < k) × Event core list e s × (access core (at_place core list e) s ≡ Some (record { address = a; field = f; write = true }));
  }

  sooner : (e k : ℕ) → e < k → e < suc k
  sooner e k b = omega (arith, b)

  marks_more : (k : ℕ) → MoreMarks (marks k) (marks (suc k))
  marks_more k = record {
    actor = λ a m. (m.0, m.1, sooner m.0 k m.2, m.3);
    post = λ r n m. (m.0, m.1, m.2, sooner m.0 k m.3, m.4, m.5, m.6);
    wrote = λ a f m. (m.0, m.1, m.2, sooner m.0 k m.3, m.4, m.5);
  }

  nothing_more : (k : ℕ) → MoreMarks nothing (marks k)
  nothing_more k = record { actor = λ a m. absurd m; post = λ r n m. absurd m; wrote = λ a f m. absurd m }

  -- The run at place k, and beside it one that has left out p and what came after it.
  pub record Beside (k : ℕ) : Type 0 where
    pub names : List ℕ
    pub beside : Configuration
    pub reached : Reached core beside
    pub placed : Placed beside
    pub sim : Sim (marks k) (taken_before core list k) (at_place core list k) beside names
    pub name : slice_get names i ≡ Some i
    pub address : AddressLike names one.address one.address
    pub waits : access core beside i ≡ Some one

  live_below : Live core list q
  live_below m b = earlier core list (start core) m q Moved eq.moved b

  -- ---- an event of one that is marked

  module _ (k : ℕ) (b : Beside k) (a : ℕ) (ev : Event core list k a) (x : Change) (px : plan core (at_place core list k) a ≡ Some x) (later : After k) (counts : (n : ℕ) → taken_before core list (suc k) n ≡ taken_before core list k n + takes_one core (at_place core list k) a n) (is : at_place core list (suc k) ≡ applied (at_place core list k) a x) where
    abbrev c : Configuration
    c = at_place core list k

    t : Told core c a x
    t = told core c a x px

    now : k < suc k
    now = omega arith

    wrote_here : (s : Option Message) (z : Heaping) → HeapTold core c a s z → (n : Address) (f : ℕ) → Touches z n f → access core c a ≡ Some (record { address = n; field = f; write = true })
    wrote_here s Same h n f u = absurd u
    wrote_here s (Sets m g v) h n f u = h.2 ∙ ap (λ (y : Address). Some (record { address = y; field = g; write = true })) u.0 ∙ ap (λ (y : ℕ). Some (record { address = n; field = y; write = true })) u.1
    wrote_here s (New m o) h n f u = absurd u

    sent_to : (o : Option (ℕ × Message)) → SendTold core c a o → (r : ℕ × Message) → o ≡ Some r → receiver_of core c a ≡ Some r.0
    sent_to None h r e = absurd (none-some r e)
    sent_to (Some s) h r e = ap (receiver_by c) h.1 ∙ ap (λ (y : ℕ × Message). Some y.0) (same_Some s r e)

    spawned_to : (o : Option Message) → SpawnTold core c a o → (m : Message) → o ≡ Some m → receiver_of core c a ≡ Some (length c.actors)
    spawned_to None h m e = absurd (none-some m e)
    spawned_to (Some s) h m e = ap (receiver_by c) h

    not_there : (o : Option Actor) → slice_get c.actors (length c.actors) ≡ o → waiting_of o ≡ 0
    not_there None e = refl
    not_there (Some z) e = let bad = get_below c.actors (length c.actors) z e in absurd (omega (arith, bad))

    by_others : (s : Option Message) (z : Heaping) → HeapTold core c a s z → (n : ℕ) → n ≢ a → n < length c.actors → NotBy z n
    by_others s Same h n d l = tt
    by_others s (Sets m f v) h n d l = tt
    by_others None (New m o) h n d l = λ e. d (sym e ∙ ap (λ (y : Address). y.maker) h)
    by_others (Some s) (New m o) h n d l = λ e. let f : length c.actors ≡ n = sym (ap (λ (y : Address). y.maker) h) ∙ e in absurd (omega (arith, l, f))

    none_more : (n z m : ℕ) → m ≡ n → z ≡ 0 → m ≡ n + z
    none_more n z m e f = omega (arith, e, f)

    alone : Beside (suc k)
    alone = record {
      names = b.names;
      beside = b.beside;
      reached = b.reached;
      placed = b.placed;
      sim =
          subst (λ (d : Configuration). Sim (marks (suc k)) (taken_before core list (suc k)) d b.beside b.names) (sym is) (
          one_goes (marks (suc k)) (taken_before core list k) (taken_before core list (suc k)) c b.beside b.names a x (sim_marked (marks k) (marks (suc k)) (marks_more k) (taken_before core list k) c b.beside b.names b.sim)
          (fits core c a x (after_placed core (take k list)) t)
          (k, later, now, ev)
          (λ n f u. (k, a, later, now, ev, wrote_here x.spawns x.heap t.heap n f u))
          (λ r e z s. (k, a, later, now, ev, sent_to x.sends t.sends r e, ap (λ (y : Option Actor). taken_before core list k r.0 + waiting_of y) (sym s)))
          (λ m e. (k, a, later, now, ev, spawned_to x.spawns t.spawns m e, none_more _ _ _ (other_next core c a (length c.actors) (taken_before core list k (length c.actors)) (taken_before core list (suc k) (length c.actors)) (λ s. let l = t.there in absurd (omega (arith, l, s))) (counts (length c.actors))) (not_there (slice_get c.actors (length c.actors)) refl)))
          (λ n d. other_next core c a n (taken_before core list k n) (taken_before core list (suc k) n) d (counts n))
          (λ n d l. by_others x.spawns x.heap t.heap n d l)
          );
      name = b.name;
      address = b.address;
      waits = b.waits;
    }

  -- ---- an event of one that is like another

  module _ (k : ℕ) (b : Beside k) (a : ℕ) (ev : Event core list k a) (x : Change) (px : plan core (at_place core list k) a ≡ Some x) (counts : (n : ℕ) → taken_before core list (suc k) n ≡ taken_before core list k n + takes_one core (at_place core list k) a n) (is : at_place core list (suc k) ≡ applied (at_place core list k) a x) where
    abbrev cc_ : Configuration
    cc_ = at_place core list k

    together : a ≢ i → (z : Actor) (here : slice_get cc_.actors a ≡ Some z) (clean : Clean (marks k) (taken_before core list k) cc_ b.beside b.names a z) → (lacks : LacksNothing core b.beside) → Followed core (marks k) (taken_before core list k) cc_ b.beside b.names b.sim lacks a z here clean x → Beside (suc k)
    together d z here clean lacks f =
        let y : Change = f.change in
        let fy : Fit b.beside.objects y.heap = fits core b.beside clean.other y b.placed (told core b.beside clean.other y f.plans) in
        let s : step core b.beside clean.other ≡ (Moved, applied b.beside clean.other y) = step_is core b.beside clean.other y f.plans in
        let r : Reached core (applied b.beside clean.other y) = reached_step core b.beside (applied b.beside clean.other y) clean.other b.reached s in
        record {
          names = b.names ++ f.more;
          beside = applied b.beside clean.other y;
          reached = r;
          placed = subst Placed (reached_is core (applied b.beside clean.other y) r) (after_placed core r.list);
          sim =
              subst (λ (e : Configuration). Sim (marks (suc k)) (taken_before core list (suc k)) e (applied b.beside clean.other y) (b.names ++ f.more)) (sym is) (
              sim_marked (marks k) (marks (suc k)) (marks_more k) (taken_before core list (suc k)) (applied cc_ a x) (applied b.beside clean.other y) (b.names ++ f.more)
              (pair_goes core (marks k) (taken_before core list k) (taken_before core list (suc k)) cc_ b.beside b.names b.sim lacks (after_placed core (take k list)) b.placed a z here clean x px counts f)
              );
          name = get_front b.names f.more i i b.name;
          address = address_more b.names f.more one.address one.address b.address;
          waits = access_kept core b.beside i clean.other y one (λ e. d (same_Some a i (sym clean.name ∙ ap (slice_get b.names) (sym e) ∙ b.name))) fy b.waits;
        }

  -- ---- a turn

  module _ (k : ℕ) (b : Beside k) (past : p < k) (soon : k < q) (moved : slice_get (outcomes core list) k ≡ Some Moved) where
    abbrev here_ : Configuration
    here_ = at_place core list k

    abbrev tn : Turn core list k Moved (at_place core list k) (at_place core list (suc k)) (taken_before core list k) (taken_before core list (suc k))
    tn = turn core list (start core) k Moved moved

    lacks : LacksNothing core b.beside
    lacks = subst (LacksNothing core) (reached_is core b.beside b.reached) (safe b.reached.list).lacks_nothing

    module _ (a : ℕ) (ev : Event core list k a) (x : Change) (px : plan core (at_place core list k) a ≡ Some x) (counts : (n : ℕ) → taken_before core list (suc k) n ≡ taken_before core list k n + takes_one core (at_place core list k) a n) (is : at_place core list (suc k) ≡ applied (at_place core list k) a x) where
      posted : (marks k).post a (taken_before core list k a) → ahead_of core here_ a ≡ ahead.Take → After k
      posted m take = after_before m.0 k m.2 (carried m.0 k (record { sender = m.1; receiver = a; puts = m.4; to = m.5; takes = ev; take = take; later = m.3; message = m.6 }))

      true_false : true ≡ false → ⊥
      true_false z = cc

      is_take_by : x.takes ≡ true → ahead_of core here_ a ≡ ahead.Take
      is_take_by e = elim (view core here_ a x px) [ inl r ↦ absurd (true_false (sym e ∙ task_takes (length here_.actors) r.below _ x r.plans)) | inr t ↦ taking_ahead core here_ a x px t ]

      no_frames : (z : Actor) → slice_get here_.actors a ≡ Some z → z.frames ≡ [] → ahead_of core here_ a ≡ ahead.Take
      no_frames z h e =
          elim (view core here_ a x px) [
            | inl r ↦ absurd (cons_nil r.frame r.below (sym r.frames ∙ ap (λ (y : Actor). y.frames) (same_Some r.actor z (sym r.is ∙ h)) ∙ e))
            | inr t ↦ taking_ahead core here_ a x px t
          ]
        where
          cons_nil : (f : Frame) (fs : List Frame) → f ∷ fs ≡ [] → ⊥
          cons_nil f fs y = cc

      by_reason : (z : Actor) (h : slice_get here_.actors a ≡ Some z) (clean : Clean (marks k) (taken_before core list k) here_ b.beside b.names a z) → Reason core (marks k) (taken_before core list k) here_ b.beside b.names b.sim lacks a z h clean x → After k
      by_reason z h clean (inl r) = posted r.1 (is_take_by r.0)
      by_reason z h clean (inr r) =
          let m = r.2 in
          elim (eqb_tells m.1 a) [
            | inl s ↦ after_before m.0 k m.2 (own a m.0 k m.3 (subst (Event core list m.0) s.1 m.4) ev)
            | inr s ↦
                after_before m.0 k m.2 (ih k soon m.0 m.3 (record {
                  i = m.1;
                  j = a;
                  first = m.4;
                  second = ev;
                  differ = s.1;
                  one = record { address = r.0.address; field = r.0.field; write = true };
                  other = r.0;
                  accesses = m.5;
                  accesses_too = r.1;
                  address = refl;
                  field = refl;
                  writes = inl refl;
                }))
          ]

      by_status : a ≢ i → (z : Actor) (h : slice_get here_.actors a ≡ Some z) → Status (marks k) (taken_before core list k) here_ b.beside b.names a z → Beside (suc k)
      by_status d z h (inl clean) =
          elim (event_goes core (marks k) (taken_before core list k) here_ b.beside b.names b.sim lacks a z h clean x px) [
            | inl f ↦ together k b a ev x px counts is d z h clean lacks f
            | inr r ↦ alone k b a ev x px (by_reason z h clean r) counts is
          ]
      by_status d z h (inr (inl m)) = alone k b a ev x px (after_before m.0 k m.1 (own a m.0 k m.2 m.3 ev)) counts is
      by_status d z h (inr (inr l)) = alone k b a ev x px (posted l.marked (no_frames z h l.frames)) counts is

      event_by : Beside (suc k)
      event_by =
          elim (eqb_tells a i) [
            | inl s ↦ alone k b a ev x px (inr (own i p k past ep (subst (Event core list k) s.1 ev))) counts is
            | inr s ↦ let w = actor_of core here_ a x px in by_status s.1 w.0 w.1 (b.sim.actors a w.0 w.1)
          ]

    moved_on : Beside (suc k)
    moved_on = let x = plans core here_ tn.actor tn.ends in event_by tn.actor (record { actor = tn.is; moved = moved }) x.0 x.1 tn.counts (moved_next core list k moved x.0 x.1)

  skipped_on : (k : ℕ) → Beside k → slice_get (outcomes core list) k ≡ Some Skipped → Beside (suc k)
  skipped_on k b e =
      let t = turn core list (start core) k Skipped e in
      record {
        names = b.names;
        beside = b.beside;
        reached = b.reached;
        placed = b.placed;
        sim =
            subst (λ (d : Configuration). Sim (marks (suc k)) (taken_before core list (suc k)) d b.beside b.names) (sym (skipped_behind core list k e)) (
            sim_front (marks (suc k)) (taken_before core list k) (taken_before core list (suc k)) (at_place core list k) b.beside b.names (λ n. skipped_next core (at_place core list k) t.actor n (taken_before core list k n) (taken_before core list (suc k) n) t.ends (t.counts n))
            (sim_marked (marks k) (marks (suc k)) (marks_more k) (taken_before core list k) (at_place core list k) b.beside b.names b.sim)
            );
        name = b.name;
        address = b.address;
        waits = b.waits;
      }

  turn_on : (k : ℕ) → Beside k → p < k → k < q → Beside (suc k)
  turn_on k b past soon = elim (live_below k soon) [ inl e ↦ moved_on k b past soon e | inr e ↦ skipped_on k b e ]

  -- ---- from p

  actor_there : (c : Configuration) (o : Option Actor) (x : Access) → (o >>= (λ a. slice_get a.frames 0 >>= (λ f. slice_get f.tasks 0 >>= (λ t. touched_name core t >>= (λ n. access_of core c f n))))) ≡ Some x → (a : Actor) × (o ≡ Some a)
  actor_there c None x e = absurd (none-some x e)
  actor_there c (Some a) x e = (a, refl)

  class_there : (c : Configuration) (n : ℕ) (x : Access) → access core c n ≡ Some x → (e : ℕ) × (class_at c.objects x.address ≡ Some e)
  class_there c n x e = by_actor (slice_get c.actors n) e
    where
      by_name : (f : Frame) (o : Option (ℕ × Bool)) → (o >>= (λ n. access_of core c f n)) ≡ Some x → (e : ℕ) × (class_at c.objects x.address ≡ Some e)
      by_name f None e = absurd (none-some x e)
      by_name f (Some n) e = value_there core c.objects n (slice_get f.stack 0) x e

      by_task : (f : Frame) (o : Option Task) → (o >>= (λ t. touched_name core t >>= (λ n. access_of core c f n))) ≡ Some x → (e : ℕ) × (class_at c.objects x.address ≡ Some e)
      by_task f None e = absurd (none-some x e)
      by_task f (Some t) e = by_name f (touched_name core t) e

      by_frame : (o : Option Frame) → (o >>= (λ f. slice_get f.tasks 0 >>= (λ t. touched_name core t >>= (λ n. access_of core c f n)))) ≡ Some x → (e : ℕ) × (class_at c.objects x.address ≡ Some e)
      by_frame None e = absurd (none-some x e)
      by_frame (Some f) e = by_task f (slice_get f.tasks 0) e

      by_actor : (o : Option Actor) → (o >>= (λ a. slice_get a.frames 0 >>= (λ f. slice_get f.tasks 0 >>= (λ t. touched_name core t >>= (λ n. access_of core c f n))))) ≡ Some x → (e : ℕ) × (class_at c.objects x.address ≡ Some e)
      by_actor None e = absurd (none-some x e)
      by_actor (Some a) e = by_frame (slice_get a.frames 0) e

  object_there : (o : Option Object) (e : ℕ) → class_in o ≡ Some e → (x : Object) × (o ≡ Some x)
  object_there None e is = absurd (none-some e is)
  object_there (Some x) e is = (x, refl)

  shorter : (m : ℕ) → m < p → m < q
  shorter m b = omega (arith, b, less)

  begin : Beside p
  begin =
      let c : Configuration = at_place core list p in
      let closed : Closed c (taken_before core list p) = closed_at core safe list p (λ m b. live_below m (shorter m b)) in
      let placed : Placed c = after_placed core (take p list) in
      let w = actor_there c (slice_get c.actors i) one ap_ in
      let e = class_there c i one ap_ in
      let o = object_there (get c.objects one.address) e.0 e.1 in
      let named_as : (n : ℕ) → n < length c.actors → slice_get closed.names n ≡ Some n =
      λ n l. let v = get_within closed.names n (subst (λ (z : ℕ). n < z) closed.sim.count l) in v.1 ∙ ap Some (closed.identity n v.0 v.1)
      in
      record {
        names = closed.names;
        beside = c;
        reached = record { list = take p list; on = goes_on core list (start core) p Moved ep.moved };
        placed = placed;
        sim = sim_marked nothing (marks p) (nothing_more p) (taken_before core list p) c c closed.names closed.sim;
        name = named_as i (get_below c.actors i w.0 w.1);
        address = record { maker = named_as one.address.maker (placed.maker one.address o.0 o.1); serial = refl };
        waits = ap_;
      }

  first_on : Beside (suc p)
  first_on =
      let t = turn core list (start core) p Moved ep.moved in
      let x = plans core (at_place core list p) t.actor t.ends in
      alone p begin t.actor (record { actor = t.is; moved = ep.moved }) x.0 x.1 (inl refl) t.counts (moved_next core list p ep.moved x.0 x.1)

  run_on : (r k : ℕ) → p < k → k + r ≡ q → Beside k → Beside q
  run_on zero k past e b = subst Beside (e0 k e) b
    where
      e0 : (k : ℕ) → k + 0 ≡ q → k ≡ q
      e0 k e = omega (arith, e)
  run_on (suc r) k past e b = let soon : k < q = omega (arith, e) in let past2 : p < suc k = omega (arith, past) in let e2 : suc k + r ≡ q = omega (arith, e) in run_on r (suc k) past2 e2 (turn_on k b past soon)

  -- ---- at q

  module _ (Related : ℕ → ℕ → Type 0) (differ : i ≢ j) (address : one.address ≡ other.address) (field : Related one.field other.field) (writes : (one.write ≡ true) ⊎ (other.write ≡ true)) (b : Beside q) (clash_here : Clash Related core b.beside → ⊥) where
    abbrev last : Configuration
    last = at_place core list q

    lacks_here : LacksNothing core b.beside
    lacks_here = subst (LacksNothing core) (reached_is core b.beside b.reached) (safe b.reached.list).lacks_nothing

    -- Both are about to touch the field, beside.
    raced : (a : Actor) → Clean (marks q) (taken_before core list q) last b.beside b.names j a → slice_get last.actors j ≡ Some a → (x : Change) → Running core last j x → ⊥
    raced a clean h x r =
        let d : Configuration = b.beside in
        let same : r.actor ≡ a = same_Some r.actor a (sym r.is ∙ h) in
        let s = frames_cons b.names r.frame r.below a.frames clean.actor.frames (ap (λ (z : Actor). z.frames) (sym same) ∙ r.frames) clean.frames in
        let g : Frame = record { method = s.0.method; slots = s.0.slots; stack = s.0.stack; tasks = r.rest } in
        let around : Around = record { objects = d.objects; actor = clean.other; actors = length d.actors } in
        let tasks : s.0.tasks ≡ r.task ∷ r.rest = sym s.3.tasks ∙ r.tasks in
        let stepped : step core d clean.other ≡ made d clean.other clean.actor s.1 (task_move core around g r.task) =
        ap (step_of core d clean.other) clean.is ∙ ap (run_frames core d clean.other clean.actor) s.2 ∙ ap (run_task core d clean.other clean.actor s.0 s.1) tasks
        in
        let free : NotStuck (task_move core around g r.task) = not_lacking d clean.other clean.actor s.1 (task_move core around g r.task) (λ l e. lacks_here clean.other l (ap (λ (t : Outcome × Configuration). t.0) stepped ∙ e)) in
        let touched : touch core last.objects r.frame.stack r.task ≡ Some other = sym (access_is core last j r.actor r.frame r.below r.task r.rest r.is r.frames r.tasks) ∙ aq in
        let n = named core last.objects r.frame.stack (touched_name core r.task) other touched in
        let z = touches_some core around g r.task n.0 n.1 free in
        let e = touched_there core d.objects s.0.stack (touched_name core r.task) z.0 z.1 in
        let o = object_there (get d.objects z.0.address) e.0 e.1 in
        let v = get_within b.names z.0.address.maker (subst (λ (y : ℕ). z.0.address.maker < y) b.sim.count (b.placed.maker z.0.address o.0 o.1)) in
        let q2 : Address = record { maker = v.0; serial = z.0.address.serial } in
        let m : AddressLike b.names q2 z.0.address = record { maker = v.1; serial = refl } in
        let same_access : record { address = q2; field = z.0.field; write = z.0.write } ≡ other =
        same_Some _ other (sym (touch_like core b.names last.objects d.objects b.sim.classes r.task r.frame.stack s.0.stack s.3.stack z.0 z.1 q2 m) ∙ touched)
        in
        let back : one.address ≡ q2 = address ∙ sym (ap (λ (y : Access). y.address) same_access) in
        clash_here (record {
          i = i;
          j = clean.other;
          differ = λ y. differ (same_Some i j (sym b.name ∙ ap (slice_get b.names) y ∙ clean.name));
          one = one;
          other = z.0;
          accesses = b.waits;
          accesses_too = access_is core d clean.other clean.actor s.0 s.1 r.task r.rest clean.is s.2 tasks ∙ z.1;
          address = second_address b.names b.sim.inject one.address one.address z.0.address b.address (subst (λ (y : Address). AddressLike b.names y z.0.address) (sym back) m);
          field = subst (Related one.field) (sym (ap (λ (y : Access). y.field) same_access)) field;
          writes = elim writes [ inl y ↦ inl y | inr y ↦ inr (ap (λ (u : Access). u.write) same_access ∙ y) ];
        })

    not_same : p ≡ q → ⊥
    not_same e = let l = less in omega (arith, l, e)

    after_before_q : After q → Before core list p q
    after_before_q (inl s) = absurd (not_same s)
    after_before_q (inr a) = a

    ordered_by : (a : Actor) → slice_get last.actors j ≡ Some a → Status (marks q) (taken_before core list q) last b.beside b.names j a → Before core list p q
    ordered_by a h (inl clean) =
        let t = turn core list (start core) q Moved eq.moved in
        let s : t.actor ≡ j = same_Some t.actor j (sym t.is ∙ eq.actor) in
        let x = plans core last j (subst (λ (n : ℕ). (step core last n).0 ≡ Moved) s t.ends) in
        elim (view core last j x.0 x.1) [
          | inl r ↦ absurd (raced a clean h x.0 r)
          | inr r ↦ absurd (idle_touches core last j r.actor r.is r.frames other aq)
        ]
    ordered_by a h (inr (inl m)) = after_before_q (after_before m.0 q m.1 (own j m.0 q m.2 m.3 eq))
    ordered_by a h (inr (inr l)) = absurd (idle_touches core last j a h l.frames other aq)

    pub ordered_at : Before core list p q
    ordered_at = let w = actor_there last (slice_get last.actors j) other aq in ordered_by w.0 w.1 (b.sim.actors j w.0 w.1)

  pub beside_q : Beside q
  beside_q = let r = difference p q less in run_on r.0 (suc p) (next_less p) r.1 first_on
    where
      next_less : (n : ℕ) → n < suc n
      next_less n = omega arith

      difference : (n m : ℕ) → n < m → (r : ℕ) × (suc n + r ≡ m)
      difference n m b = (m - suc n, omega (arith, b))

-- ---- the law

-- If no two actors clash in any configuration, an event comes before a later one that it meets.
meets_before : (Related : ℕ → ℕ → Type 0) (core : CoreData) (safe : Safe core) → ((more : List ℕ) → Clash Related core (after core more) → ⊥) → (list : List ℕ) (q : ℕ) → ((k : ℕ) → k < q → (e : ℕ) → e < k → Conflict core list e k → Before core list e k)
    → (p : ℕ) → p < q → Meet Related core list p q → Before core list p q
meets_before Related core safe calm list q ih p less f =
    let b = beside_q core safe list q ih p less f.i f.j f.first f.second f.one f.other f.accesses f.accesses_too in
    ordered_at core safe list q ih p less f.i f.j f.first f.second f.one f.other f.accesses f.accesses_too Related f.differ f.address f.field f.writes b
    (subst (λ (d : Configuration). Clash Related core d → ⊥) (reached_is core b.beside b.reached) (calm b.reached.list))

before_of : (core : CoreData) → Safe core → (list : List ℕ) (q : ℕ) → ((k : ℕ) → k < q → (e : ℕ) → e < k → Conflict core list e k → Before core list e k) → (p : ℕ) → p < q → Conflict core list p q → Before core list p q
before_of core safe list q ih p less f =
    meets_before (λ x y. x ≡ y) core safe (λ more x. (safe more).no_race (clash_races core (after core more) x)) list q ih p less (record {
      i = f.i;
      j = f.j;
      first = f.first;
      second = f.second;
      differ = f.differ;
      one = f.one;
      other = f.other;
      accesses = f.accesses;
      accesses_too = f.accesses_too;
      address = f.address;
      field = f.field;
      writes = f.writes;
    })

all_below : (core : CoreData) → Safe core → (list : List ℕ) (n k : ℕ) → k < n → (e : ℕ) → e < k → Conflict core list e k → Before core list e k
all_below core safe list zero k b e l f = absurd (omega (arith, b))
all_below core safe list (suc n) k b e l f = before_of core safe list k (λ m c d g h. all_below core safe list n m (omega (arith, b, c)) d g h) e l f

turned : (core : CoreData) (list : List ℕ) (p q : ℕ) → Conflict core list p q → Conflict core list q p
turned core list p q f = record {
  i = f.j;
  j = f.i;
  first = f.second;
  second = f.first;
  differ = λ e. f.differ (sym e);
  one = f.other;
  other = f.one;
  accesses = f.accesses_too;
  accesses_too = f.accesses;
  address = sym f.address;
  field = sym f.field;
  writes = elim f.writes [ inl w ↦ inr w | inr w ↦ inl w ];
}

below_next : (n : ℕ) → n < suc n
below_next n = omega arith

pub conflicts_ordered : ConflictsOrdered
conflicts_ordered core safe list p q f =
    elim (eqb_tells p q) [
      | inl s ↦ absurd (f.differ (same_Some f.i f.j (sym f.first.actor ∙ ap (slice_get list) s.1 ∙ f.second.actor)))
      | inr s ↦
          elim (leb_tells p q) [
            | inl t ↦ inl (all_below core safe list (suc q) q (below_next q) p (smaller p q t.1 s.1) f)
            | inr t ↦ inr (all_below core safe list (suc p) p (below_next p) q t.1 (turned core list p q f))
          ]
    ]
  where
    smaller : (n m : ℕ) → n ≤ m → n ≢ m → n < m
    smaller n m b d = omega (arith, b, d)

less_less : (a b c : ℕ) → a < b → b < c → a < c
less_less a b c p q = omega (arith, p, q)

pub before_is_earlier : BeforeIsEarlier
before_is_earlier core list p q (own i r s l e f) = l
before_is_earlier core list p q (carried r s c) = c.later
before_is_earlier core list p q (chain r s t a b) = less_less p s q (before_is_earlier core list p s a) (before_is_earlier core list s q b)

pub earlier_comes_before : EarlierComesBefore
earlier_comes_before core safe list p q l f = all_below core safe list (suc q) q (below_next q) p l f

-- The same of objects, if no two actors are ever about to touch one of which one writes.
pub objects_ordered : (core : CoreData) → Safe core → ((more : List ℕ) → Clash (λ x y. Unit {0}) core (after core more) → ⊥) → (list : List ℕ) (p q : ℕ) → p < q → Meet (λ x y. Unit {0}) core list p q → Before core list p q
objects_ordered core safe calm list p q less f = meets_before (λ x y. Unit {0}) core safe calm list q (λ k b e l g. all_below core safe list q k b e l g) p less f
