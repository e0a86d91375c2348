-- What is known of a change that a step makes.
use Rattle.std.specs.{Prelude.{◌≡◌, ◌<◌, ℕ, zero, suc, Bool, true, false, List, [], ◌∷◌, length, Option, Some, None, slice_get, refl, ⊤}, FinMap.get}
use Rattle.std.proofs.{Common.{inl, inr, ap, sym, subst, ◌∙◌}, lemmas.Option.{same_Some, none-some}}
use Rattle.pc_base.proofs.Gets.{get_below}
use Rattle.pc_heap.specs.{Objects.{ObjectMap, next_address, Object}, declared.value.Address.Address, declared.value.Value.Value, declared.value.Value.TheVariants.Text}
use Rattle.pc_base.specs.Lists.{◌>>=◌}
use Rattle.pc_core.specs.{CoreData.CoreData, declared.declarations.Method.Method}
use Rattle.pc_semantics.specs.{declared.actors.Actor.Actor, declared.frames.Frame.Frame, declared.frames.Task.Task, declared.mailbox.Message.Message, Configurations.{Configuration, own_address, Move, Stuck, Overflows, Goes, Writes, Makes, Spawns, Enters, Sends, Leaves}, Step.{task_move, around}, Safety.{touched_name, access_of, access}, Ahead.{by_move, of_frames, ahead_of}, Parts.{of_tasks, of_actor}}
use Rattle.pc_semantics.specs.declared.ahead.Ahead.TheVariants as ahead
use Rattle.pc_events.proofs.{Changes.{Heaping, Same, Sets, New, Change, planned, plan_print, plan_begun, plan_begin, plan_message, plan}, Plans.view, Right.{Right, right, touch}}

-- The address at which an object is made: that of a new actor, or the next one of the actor.
abbrev pub place_of : ObjectMap → ℕ → ℕ → Option Message → Address
place_of h i n None = next_address h i
place_of h i n (Some m) = own_address n

abbrev pub HeapTold : CoreData → Configuration → ℕ → Option Message → Heaping → Type 0
HeapTold core c i s Same = ⊤
HeapTold core c i s (Sets a k v) = (o : Object) × (get c.objects a ≡ Some o) × (access core c i ≡ Some (record { address = a; field = k; write = true })) × (k < length o.fields)
HeapTold core c i s (New a o) = a ≡ place_of c.objects i (length c.actors) s

abbrev pub SendTold : CoreData → Configuration → ℕ → Option (ℕ × Message) → Type 0
SendTold core c i None = ⊤
SendTold core c i (Some p) = (p.0 < length c.actors) × (ahead_of core c i ≡ ahead.Send p.0)

abbrev pub SpawnTold : CoreData → Configuration → ℕ → Option Message → Type 0
SpawnTold core c i None = ⊤
SpawnTold core c i (Some m) = ahead_of core c i ≡ ahead.Spawn

abbrev pub PrintTold : ℕ → Option (List ℕ) → Type 0
PrintTold i None = ⊤
PrintTold i (Some t) = i ≡ 0

-- A message waits if one is taken.
abbrev pub TakeTold : Configuration → ℕ → Bool → Type 0
TakeTold c i false = ⊤
TakeTold c i true = (a : Actor) → slice_get c.actors i ≡ Some a → (m : Message) × (ms : List Message) × (a.mailbox ≡ m ∷ ms)

pub record Told (core : CoreData) (c : Configuration) (i : ℕ) (x : Change) : Type 0 where
  pub there : i < length c.actors
  pub heap : HeapTold core c i x.spawns x.heap
  pub sends : SendTold core c i x.sends
  pub spawns : SpawnTold core c i x.spawns
  pub prints : PrintTold i x.prints
  pub takes : TakeTold c i x.takes

-- ---- a task

-- The access of an actor whose frame has this first task.
pub access_is : (core : CoreData) (c : Configuration) (i : ℕ) (a : Actor) (f : Frame) (fs : List Frame) (t : Task) (ts : List Task) → slice_get c.actors i ≡ Some a → a.frames ≡ f ∷ fs → f.tasks ≡ t ∷ ts → access core c i ≡ touch core c.objects f.stack t
access_is core c i a f fs t ts is e q =
    ap (λ (o : Option Actor). o >>= (λ a. slice_get a.frames 0 >>= (λ f. slice_get f.tasks 0 >>= (λ t. touched_name core t >>= (λ n. access_of core c f n))))) is
    ∙ ap (λ (gs : List Frame). slice_get gs 0 >>= (λ f. slice_get f.tasks 0 >>= (λ t. touched_name core t >>= (λ n. access_of core c f n)))) e
    ∙ ap (λ (us : List Task). slice_get us 0 >>= (λ t. touched_name core t >>= (λ n. access_of core c f n))) q

pub ahead_is : (core : CoreData) (c : Configuration) (i : ℕ) (a : Actor) (f : Frame) (fs : List Frame) (t : Task) (ts : List Task) → slice_get c.actors i ≡ Some a → a.frames ≡ f ∷ fs → f.tasks ≡ t ∷ ts
    → ahead_of core c i ≡ by_move (task_move core (record { objects = c.objects; actor = i; actors = length c.actors }) (record { method = f.method; slots = f.slots; stack = f.stack; tasks = ts }) t)
ahead_is core c i a f fs t ts is e q = ap (of_actor core c i) is ∙ ap (of_frames core c i a) e ∙ ap (of_tasks core (around c i) f) q

module _ (core : CoreData) (c : Configuration) (i : ℕ) (there : i < length c.actors) (stack : List Value) (t : Task) (touches : access core c i ≡ touch core c.objects stack t) where
  move_told : (fs : List Frame) (m : Move) → ahead_of core c i ≡ by_move m → Right core c.objects i (length c.actors) stack t m → (x : Change) → planned (length c.actors) fs m ≡ Some x → Told core c i x
  move_told fs (Stuck l) a r x p = absurd (none-some x p)
  move_told fs Overflows a r x p = absurd (none-some x p)
  move_told fs (Goes f) a r x p = subst (Told core c i) (same_Some _ x p) (record { there = there; heap = tt; sends = tt; spawns = tt; prints = tt; takes = tt })
  move_told fs (Writes q k v f) a r x p = subst (Told core c i) (same_Some _ x p) (record { there = there; heap = (r.0, r.1, touches ∙ r.2, r.3); sends = tt; spawns = tt; prints = tt; takes = tt })
  move_told fs (Makes q o g f) a r x p = subst (Told core c i) (same_Some _ x p) (record { there = there; heap = r.0; sends = tt; spawns = tt; prints = tt; takes = tt })
  move_told fs (Spawns o m f) a r x p = subst (Told core c i) (same_Some _ x p) (record { there = there; heap = refl; sends = tt; spawns = a; prints = tt; takes = tt })
  move_told fs (Enters g f) a r x p = subst (Told core c i) (same_Some _ x p) (record { there = there; heap = tt; sends = tt; spawns = tt; prints = tt; takes = tt })
  move_told fs (Sends j m f) a r x p = subst (Told core c i) (same_Some _ x p) (record { there = there; heap = tt; sends = (r, a); spawns = tt; prints = tt; takes = tt })
  move_told fs (Leaves v) a r x p = subst (Told core c i) (same_Some _ x p) (record { there = there; heap = tt; sends = tt; spawns = tt; prints = tt; takes = tt })

-- ---- a message

module _ (core : CoreData) (c : Configuration) (i : ℕ) (there : i < length c.actors) (take : (a : Actor) → slice_get c.actors i ≡ Some a → (m : Message) × (ms : List Message) × (a.mailbox ≡ m ∷ ms)) where
  print_told : i ≡ 0 → (vs : List Value) (x : Change) → plan_print vs ≡ Some x → Told core c i x
  print_told z (Text t ∷ []) x p = subst (Told core c i) (same_Some _ x p) (record { there = there; heap = tt; sends = tt; spawns = tt; prints = z; takes = take })
  print_told z vs x p = absurd (none-some x p)

  begun_told : (j : ℕ) (m : Message) (k : Method) (b : Option ℕ) (x : Change) → plan_begun j m k b ≡ Some x → Told core c i x
  begun_told j m k None x p = absurd (none-some x p)
  begun_told j m k (Some b) x p = subst (Told core c i) (same_Some _ x p) (record { there = there; heap = tt; sends = tt; spawns = tt; prints = tt; takes = take })

  begin_told : (j : ℕ) (m : Message) (o : Option Method) (x : Change) → plan_begin j m o ≡ Some x → Told core c i x
  begin_told j m None x p = absurd (none-some x p)
  begin_told j m (Some k) x p = begun_told j m k k.body x p

  message_told : (j : ℕ) → i ≡ j → (m : Message) (x : Change) → plan_message core j m ≡ Some x → Told core c i x
  message_told zero z m x p = print_told z m.arguments x p
  message_told (suc j) z m x p = begin_told (suc j) m (slice_get core.methods m.method) x p

-- ---- every step

pub told : (core : CoreData) (c : Configuration) (i : ℕ) (x : Change) → plan core c i ≡ Some x → Told core c i x
told core c i x p =
    elim (view core c i x p) [
      | inl r ↦
          let f : Frame = record { method = r.frame.method; slots = r.frame.slots; stack = r.frame.stack; tasks = r.rest } in
          move_told core c i (get_below c.actors i r.actor r.is) r.frame.stack r.task (access_is core c i r.actor r.frame r.below r.task r.rest r.is r.frames r.tasks)
          r.below _ (ahead_is core c i r.actor r.frame r.below r.task r.rest r.is r.frames r.tasks) (right core c.objects i (length c.actors) f r.task) x r.plans
      | inr t ↦
          message_told core c i (get_below c.actors i t.actor t.is) (λ a e. (t.message, t.rest, ap (λ (b : Actor). b.mailbox) (same_Some a t.actor (sym e ∙ t.is)) ∙ t.mail)) i refl t.message x t.plans
    ]
