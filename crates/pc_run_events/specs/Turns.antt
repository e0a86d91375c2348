-- A turn of a run: what its step does, and how it changes the places at which waiting messages were sent.
use Rattle.std.specs.{Prelude.{◌≡◌, ◌<◌, ℕ, if◌then◌else◌, nat_lt, List, [], ◌∷◌, ◌++◌, drop, length, Option, Some, None, slice_get}, FinMap.len}
use Rattle.pc_heap.specs.{Objects.class_at, declared.value.Address.Address}
use Rattle.pc_base.specs.Lists.{◌>>=◌}
use Rattle.pc_semantics.specs.{Configurations.{Configuration, address_of}, declared.access.Access.Access, declared.ahead.Ahead.Ahead}
use Rattle.pc_run_events.specs.{Events.method_waiting, Posts.{RowAt, first_of}, declared.events.Deed.Deed, declared.events.RunEvent.RunEvent, declared.sight.Sight.Sight}
use Rattle.pc_semantics.specs.declared.ahead.Ahead.TheVariants as ahead
use Rattle.pc_run_events.specs.declared.events.Deed.TheVariants as deed

-- ---- what a step did

-- The address of `this` in the method that an actor is in.
abbrev pub this_of : Configuration → (actor : ℕ) → Option Address
this_of c i = do
  a ← slice_get c.actors i
  f ← slice_get a.frames 0
  slot ← slice_get f.slots 0
  v ← slot
  address_of v

-- The object whose constructor an actor has begun, if there are more objects than before.
abbrev pub object_made : (before : ℕ) → Configuration → (actor : ℕ) → Option Deed
object_made n d i =
    if nat_lt n (len d.objects)
    then (this_of d i >>= (λ a. class_at d.objects a >>= (λ e. Some (deed.New a e))))
    else None

abbrev pub task_deed : Option Access → Option Deed → Option Deed
task_deed None made = made
task_deed (Some x) made = Some (deed.Touch x)

-- What a step of this kind did, given what was seen before it and the configuration after it. A message that it took
-- was sent at this place.
abbrev pub deed_by : Ahead → Sight → Configuration → (actor sent : ℕ) → Option Deed
deed_by ahead.Take s d i sent = s.method >>= (λ m. Some (deed.Take m sent))
deed_by (ahead.Send r) s d i sent = s.method >>= (λ m. Some (deed.Send r m))
deed_by ahead.Spawn s d i sent = method_waiting d s.actors 0 >>= (λ m. Some (deed.Make s.actors m))
deed_by ahead.Task s d i sent = task_deed s.access (object_made s.objects d i)
deed_by ahead.Skipped s d i sent = None
deed_by ahead.Lacks s d i sent = None
deed_by ahead.TooLong s d i sent = None

abbrev pub deed_after : Sight → Configuration → (actor sent : ℕ) → Option Deed
deed_after s d i sent = deed_by s.ahead s d i sent

-- ---- the messages that wait

abbrev pub first_row : Option (List ℕ) → ℕ
first_row None = 0
first_row (Some row) = first_of row

-- The place at which the message that a step of this kind takes was sent; 0 if it takes none.
abbrev pub sent_by : Ahead → (actor : ℕ) → List (List ℕ) → ℕ
sent_by ahead.Take i posts = first_row (slice_get posts i)
sent_by (ahead.Send r) i posts = 0
sent_by ahead.Spawn i posts = 0
sent_by ahead.Task i posts = 0
sent_by ahead.Skipped i posts = 0
sent_by ahead.Lacks i posts = 0
sent_by ahead.TooLong i posts = 0

-- The places after such a step at this place.
abbrev pub Posted : Ahead → (i place : ℕ) → List (List ℕ) → List (List ℕ) → Type 0
Posted ahead.Take i place old new = RowAt old new i (λ s t. t ≡ drop 1 s)
Posted (ahead.Send r) i place old new = RowAt old new r (λ s t. t ≡ s ++ place ∷ [])
Posted ahead.Spawn i place old new = new ≡ old ++ (place ∷ []) ∷ []
Posted ahead.Task i place old new = new ≡ old
Posted ahead.Skipped i place old new = new ≡ old
Posted ahead.Lacks i place old new = new ≡ old
Posted ahead.TooLong i place old new = new ≡ old

-- If it takes or puts a message, there is a row for it.
abbrev pub HasRow : Ahead → ℕ → List (List ℕ) → Type 0
HasRow ahead.Take i posts = i < length posts
HasRow (ahead.Send r) i posts = r < length posts
HasRow ahead.Spawn i posts = Unit {0}
HasRow ahead.Task i posts = Unit {0}
HasRow ahead.Skipped i posts = Unit {0}
HasRow ahead.Lacks i posts = Unit {0}
HasRow ahead.TooLong i posts = Unit {0}

-- One more event, if the step does something.
abbrev pub noted_with : Option Deed → (place actor : ℕ) → List ℕ → List RunEvent → List RunEvent
noted_with None place actor clock events = events
noted_with (Some d) place actor clock events = events ++ record { place = place; actor = actor; deed = d; clock = clock } ∷ []
