-- The other's change leaves an actor's plan unchanged.
use Rattle.std.specs.Prelude.{◌≡◌, ◌≢◌, ◌≤◌, ℕ, ◌+◌, Bool, true, List, [], ◌∷◌, ◌++◌, length, Option, Some, None, slice_get, nat_lt, refl}
use Rattle.std.proofs.{Common.{inl, inr, ap, sym, subst, ◌∙◌, arith, length-append}, lemmas.Option.{same_Some, none-some}, lemmas.List.append-nil, lemmas.Bool.{ltb-true, lt-ltb}, lemmas.Bool.Decides.eqb_tells}
use Rattle.pc_base.proofs.Gets.{get_front}
use Rattle.pc_heap.specs.{Objects.{ObjectMap, class_at}, declared.value.Address.Address, declared.value.Value.Value, declared.value.Value.TheVariants.At}
use Rattle.pc_base.specs.Lists.{◌>>=◌}
use Rattle.pc_core.specs.CoreData.{field_named, CoreData}
use Rattle.pc_semantics.specs.{declared.access.Access.Access, declared.actors.Actor.Actor, declared.frames.Frame.Frame, declared.mailbox.Message.Message, Configurations.{Configuration, Move, Stuck, Spawns}, Step.task_move, Safety.{touched_name, access, Race}, Ahead.{by_move, ahead_of}}
use Rattle.pc_semantics.specs.declared.ahead.Ahead.TheVariants as ahead
use Rattle.pc_events.proofs.{Changes.{Heaping, Same, Sets, New, changed, going, pushing, born, sent, spawned, Change, acted, applied, planned, plan_first, plan_message, plan_tasks, plan_frames, plan_actor, plan}, Lists.{get_changed, get_unchanged}, Maps.{Fit, NotBy, Touches, class_kept, field_kept, made_kept}, Right.{touch, touch_by}, Stable.{NotStuck, Kept, stable, spawn_ahead}, Plans.{Running, Taking, view}, Told.{Told, HeapTold, SpawnTold, told, access_is, ahead_is}, Pass.length_acted}

-- ---- what is touched is there

entity_there : (core : CoreData) (h : ObjectMap) (a : Address) (t : ℕ × Bool) (o : Option ℕ) (x : Access) → (o >>= (λ e. field_named core e t.0 >>= (λ i. Some (record { address = a; field = i; write = t.1 })))) ≡ Some x → class_at h a ≡ o → (e : ℕ) × (class_at h x.address ≡ Some e)
entity_there core h a t None x s q = absurd (none-some x s)
entity_there core h a t (Some e) x s q = field_there (field_named core e t.0) s
  where
    field_there : (p : Option ℕ) → (p >>= (λ i. Some (record { address = a; field = i; write = t.1 }))) ≡ Some x → (e : ℕ) × (class_at h x.address ≡ Some e)
    field_there None s = absurd (none-some x s)
    field_there (Some i) s = (e, ap (λ (y : Access). class_at h y.address) (sym (same_Some _ x s)) ∙ q)

pub value_there : (core : CoreData) (h : ObjectMap) (t : ℕ × Bool) (v : Option Value) (x : Access) → touch_by core h t v ≡ Some x → (e : ℕ) × (class_at h x.address ≡ Some e)
value_there core h t None x s = absurd (none-some x s)
value_there core h t (Some (At a)) x s = entity_there core h a t (class_at h a) x s refl
value_there core h t (Some v) x s = absurd (none-some x s)

pub touched_there : (core : CoreData) (h : ObjectMap) (stack : List Value) (o : Option (ℕ × Bool)) (x : Access) → (o >>= (λ n. touch_by core h n (slice_get stack 0))) ≡ Some x → (e : ℕ) × (class_at h x.address ≡ Some e)
touched_there core h stack None x s = absurd (none-some x s)
touched_there core h stack (Some t) x s = value_there core h t (slice_get stack 0) x s

-- ---- what the other's change leaves of an actor

-- Its frames, and its messages, perhaps with more after them.
pub record Still (l : List Actor) (i : ℕ) (a : Actor) : Type 0 where
  pub actor : Actor
  pub is : slice_get l i ≡ Some actor
  pub frames : actor.frames ≡ a.frames
  pub more : List Message
  pub mail : actor.mailbox ≡ a.mailbox ++ more

pub sent_still : (o : Option (ℕ × Message)) (l : List Actor) (i : ℕ) (a : Actor) → slice_get l i ≡ Some a → Still (sent o l) i a
sent_still None l i a is = record { actor = a; is = is; frames = refl; more = []; mail = sym (append-nil a.mailbox) }
sent_still (Some p) l i a is =
    elim (eqb_tells i p.0) [
      | inl e ↦ record {
        actor = pushing p.1 a;
        is = subst (λ (k : ℕ). slice_get (changed l k (pushing p.1)) i ≡ Some (pushing p.1 a)) e.1 (get_changed l i (pushing p.1) a is);
        frames = refl;
        more = p.1 ∷ [];
        mail = refl;
      }
      | inr e ↦ record { actor = a; is = get_unchanged l p.0 (pushing p.1) i e.1 ∙ is; frames = refl; more = []; mail = sym (append-nil a.mailbox) }
    ]

pub acted_still : (j : ℕ) (y : Change) (l : List Actor) (i : ℕ) (a : Actor) → i ≢ j → slice_get l i ≡ Some a → Still (acted j y l) i a
acted_still j y l i a n is = sent_still y.sends (changed l j (going y.takes y.frames)) i a (get_unchanged l j (going y.takes y.frames) i n ∙ is)

pub spawned_still : (o : Option Message) (l : List Actor) (i : ℕ) (a : Actor) → Still l i a → Still (spawned o l) i a
spawned_still None l i a s = s
spawned_still (Some m) l i a s = record { actor = s.actor; is = get_front l (born m ∷ []) i s.actor s.is; frames = s.frames; more = s.more; mail = s.mail }

-- ---- how many actors there are

pub length_push : (l : List Actor) (b : Actor) → length (l ++ b ∷ []) ≡ length l + 1
length_push l b = length-append l (b ∷ [])

grown_by : (n m k : ℕ) → m ≡ k → n ≡ m + 1 → k ≤ n
grown_by n m k e f = omega (arith, e, f)

pub count_grows : (o : Option Message) (l m : List Actor) → length l ≡ length m → length m ≤ length (spawned o l)
count_grows None l m e = omega (arith, e)
count_grows (Some x) l m e = grown_by (length (l ++ born x ∷ [])) (length l) (length m) e (length_push l (born x))

count_same : (o : Option Message) (l : List Actor) → ((m : Message) → o ≡ Some m → ⊥) → length (spawned o l) ≡ length l
count_same None l never = refl
count_same (Some m) l never = absurd (never m refl)

lower : (j n k : ℕ) → n ≤ k → nat_lt j n ≡ true → nat_lt j k ≡ true
lower j n k b e = let d = ltb-true j n e in lt-ltb j k (omega (arith, b, d))

-- ---- the same change

not_stuck : (n : ℕ) (fs : List Frame) (m : Move) (x : Change) → planned n fs m ≡ Some x → NotStuck m
not_stuck n fs (Stuck l) x p = none-some x p
not_stuck n fs m x p = tt

planned_same : (n k : ℕ) (fs : List Frame) (m : Move) → (by_move m ≡ ahead.Spawn → k ≡ n) → planned k fs m ≡ planned n fs m
planned_same n k fs (Spawns o m f) e = ap (λ (z : ℕ). planned z fs (Spawns o m f)) (e refl)
planned_same n k fs m e = refl

first_more : (core : CoreData) (i : ℕ) (m : Message) (ms more : List Message) → plan_first core i ((m ∷ ms) ++ more) ≡ plan_message core i m
first_more core i m ms more = refl

module _ (core : CoreData) (c : Configuration) (i j : ℕ) (x y : Change) (differ : i ≢ j) (race : Race core c → ⊥) (px : plan core c i ≡ Some x) (py : plan core c j ≡ Some y) (fit : Fit c.objects y.heap)
    (spawns : ahead_of core c i ≡ ahead.Spawn → ahead_of core c j ≢ ahead.Spawn) where
  ty : Told core c j y
  ty = told core c j y py

  tx : Told core c i x
  tx = told core c i x px

  -- The other writes another field.
  never_touched : (z : Heaping) → HeapTold core c j y.spawns z → (a : Access) → access core c i ≡ Some a → Touches z a.address a.field → ⊥
  never_touched Same t a is u = u
  never_touched (Sets q k v) t a is u =
      race (record { i = i; j = j; differ = differ; one = a; other = record { address = q; field = k; write = true }; accesses = is; accesses_too = t.2; address = sym u.0; field = sym u.1; writes = inr refl })
  never_touched (New q o) t a is u = u

  -- The other makes no object of this maker.
  not_by : (s : Option Message) (z : Heaping) → HeapTold core c j s z → NotBy z i
  not_by s Same t = tt
  not_by s (Sets q k v) t = tt
  not_by None (New q o) t = λ e. differ (sym e ∙ ap (λ (a : Address). a.maker) t)
  not_by (Some m) (New q o) t = λ e. let there = tx.there in let same : length c.actors ≡ i = sym (ap (λ (a : Address). a.maker) t) ∙ e in absurd (omega (arith, there, same))

  spawn_never : ahead_of core c i ≡ ahead.Spawn → (s : Option Message) → SpawnTold core c j s → (m : Message) → s ≡ Some m → ⊥
  spawn_never a None t m e = none-some m e
  spawn_never a (Some k) t m e = spawns a t

  abbrev d : Configuration
  d = applied c j y

  more : length c.actors ≤ length d.actors
  more = count_grows y.spawns (acted j y c.actors) c.actors (length_acted j y c.actors)

  same_count : ahead_of core c i ≡ ahead.Spawn → length d.actors ≡ length c.actors
  same_count a = count_same y.spawns (acted j y c.actors) (spawn_never a y.spawns ty.spawns) ∙ length_acted j y c.actors

  still : (a : Actor) → slice_get c.actors i ≡ Some a → Still d.actors i a
  still a is = spawned_still y.spawns (acted j y c.actors) i a (acted_still j y c.actors i a differ is)

  running_still : Running core c i x → plan core d i ≡ Some x
  running_still r =
      let n : ℕ = length c.actors in
      let k : ℕ = length d.actors in
      let f : Frame = record { method = r.frame.method; slots = r.frame.slots; stack = r.frame.stack; tasks = r.rest } in
      let m : Move = task_move core (record { objects = c.objects; actor = i; actors = n }) f r.task in
      let s : Still d.actors i r.actor = still r.actor r.is in
      let a : ahead_of core c i ≡ by_move m = ahead_is core c i r.actor r.frame r.below r.task r.rest r.is r.frames r.tasks in
      let t : access core c i ≡ touch core c.objects f.stack r.task = access_is core c i r.actor r.frame r.below r.task r.rest r.is r.frames r.tasks in
      let free : NotStuck m = not_stuck n r.below m x r.plans in
      let kept : Kept core c.objects d.objects i n k f.stack r.task = record {
        classes = λ q e is. class_kept c.objects y.heap fit q e is;
        fields = λ z is. let e = touched_there core c.objects f.stack (touched_name core r.task) z is in field_kept c.objects y.heap fit z.address z.field e.0 e.1 (λ u. never_touched y.heap ty.heap z (t ∙ is) u);
        made = made_kept c.objects y.heap fit i (not_by y.spawns y.heap ty.heap);
        more = λ q b. lower q n k more b;
        spawn = λ is. same_count (a ∙ spawn_ahead core _ f r.task is free);
      } in
      ap (plan_actor core d.objects k i) s.is ∙ ap (plan_frames core d.objects k i s.actor.mailbox) (s.frames ∙ r.frames) ∙ ap (plan_tasks core d.objects k i r.frame r.below) r.tasks
      ∙ ap (planned k r.below) (stable core c.objects d.objects i n k f r.task kept free)
      ∙ planned_same n k r.below m (λ e. same_count (a ∙ e)) ∙ r.plans

  taking_still : Taking core c i x → plan core d i ≡ Some x
  taking_still t =
      let k : ℕ = length d.actors in
      let s : Still d.actors i t.actor = still t.actor t.is in
      ap (plan_actor core d.objects k i) s.is ∙ ap (plan_frames core d.objects k i s.actor.mailbox) (s.frames ∙ t.frames)
      ∙ ap (plan_first core i) (s.mail ∙ ap (λ (ms : List Message). ms ++ s.more) t.mail) ∙ first_more core i t.message t.rest s.more ∙ t.plans

  pub plan_kept : plan core (applied c j y) i ≡ Some x
  plan_kept = elim (view core c i x px) [ inl r ↦ running_still r | inr t ↦ taking_still t ]
