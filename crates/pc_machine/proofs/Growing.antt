-- A step adds at most one object and one message, and changes nothing if it is skipped or too long.
use Rattle.std.proofs.{Common.{◌≡◌, ℕ, zero, suc, ◌+◌, ◌≤◌, Bool, true, false, cond, List, [], ◌∷◌, ◌++◌, length, Option, Some, None, refl, ap, arith, length-append}, lemmas.List.Sums.{sum-map, sum_by-set, sum_by_push}, lemmas.Option.get_or_from_slice_get}
use Rattle.std.specs.{Prelude.{is_some, slice_get, slice_set}, List.sum_by, FinMap.{empty, get, insert, len, len-empty, len-insert}}
use Rattle.pc_base.proofs.Gets.{get_below}
use Rattle.pc_heap.specs.{Addresses.addresses_total, Objects.{address_cmp, ObjectMap, with_value, Object}, declared.value.Address.Address, declared.value.Value.Value, declared.value.Value.TheVariants.{Num, Truth, Text, Prim, At}}
use Rattle.pc_core.specs.{CoreData.CoreData, declared.declarations.Method.Method}
use Rattle.pc_semantics.specs.{declared.actors.Actor.Actor, declared.frames.Frame.Frame, declared.frames.Task.Task, declared.mailbox.Message.Message, declared.outcome.Outcome.Outcome, declared.outcome.Outcome.TheVariants.{Moved, Skipped, Lacks, TooLong}, Configurations.{Configuration, with_frames, own_address, blank_object, environment, environment_address, start, start_of, main_create, Move, Stuck, Overflows, Goes, Writes, Makes, Spawns, Enters, Sends, Leaves}, Parts.{begin_method, begun, delivered, run_task, step_of}, Step.{left, made, printed_text, run_frames, step, take, take_first}, Text.waiting}

pub record Grown (c d : Configuration) : Type 0 where
  pub objects : len d.objects ≤ len c.objects + 1
  pub messages : waiting d ≤ waiting c + 1

-- What a step did to the configuration, by how it ended. Of a step that lacks something nothing is said.
abbrev pub Changes : Configuration → Outcome × Configuration → Type 0
Changes c (Moved, d) = Grown c d
Changes c (Skipped, d) = d ≡ c
Changes c (TooLong, d) = d ≡ c
Changes c (Lacks l, d) = Unit {0}

-- ---- objects

at_most : (b : Bool) (n : ℕ) → cond b n (n + 1) ≤ n + 1
at_most true n = omega arith
at_most false n = omega arith

-- at most one object comes
one_more : (m : ObjectMap) (a : Address) (o : Object) → len (insert m a o) ≤ len m + 1
one_more m a o = let e = len-insert addresses_total m a o in let b = at_most (is_some (get m a)) (len m) in omega (arith, e, b)

-- ---- messages

abbrev mail : Actor → ℕ
mail a = length a.mailbox

abbrev mail_of : List Actor → ℕ
mail_of actors = sum_by mail actors

-- the messages with another actor in a place
mail_set : (actors : List Actor) (i : ℕ) (a b : Actor) → slice_get actors i ≡ Some a → mail_of (slice_set actors i b) + mail a ≡ mail_of actors + mail b
mail_set actors i a b e =
    let set = sum_by-set mail actors i b a (get_below actors i a e) in
    let there = ap mail (get_or_from_slice_get actors i a a e) in
    omega (arith, set, there)

-- ---- configurations

module _ (c : Configuration) where
  -- other objects, and another actor in a place, with one message more at most
  grown : (i : ℕ) (a b : Actor) (m : ObjectMap) (printed : List (List ℕ)) → slice_get c.actors i ≡ Some a → mail b ≤ mail a + 1 → len m ≤ len c.objects + 1
      → Grown c (record { objects = m; actors = slice_set c.actors i b; printed = printed })
  grown i a b m printed e few one = record {
    objects = one;
    messages =
        let set = mail_set c.actors i a b e in
        let new = sum-map mail (slice_set c.actors i b) in
        let old = sum-map mail c.actors in
        omega (arith, set, new, old, few);
  }

  module _ (i : ℕ) (a : Actor) (here : slice_get c.actors i ≡ Some a) where
    -- ---- the first message

    module _ (m : Message) (ms : List Message) (first : a.mailbox ≡ m ∷ ms) where
      fewer : length ms ≤ mail a + 1
      fewer = let n : mail a ≡ length (m ∷ ms) = ap length first in omega (arith, n)

      begun_changes : (x : Method) (body : Option ℕ) → Changes c (begun c i (record { mailbox = ms; frames = [] }) m x body)
      begun_changes x None = tt
      begun_changes x (Some body) = grown i a _ c.objects c.printed here fewer (omega arith)

      method_changes : (x : Option Method) → Changes c (begin_method c i (record { mailbox = ms; frames = [] }) m x)
      method_changes None = tt
      method_changes (Some x) = begun_changes x x.body

    -- ---- moves

    same_mail : (frames : List Frame) (m : ObjectMap) → len m ≤ len c.objects + 1 → Grown c (record { objects = m; actors = slice_set c.actors i (record { mailbox = a.mailbox; frames = frames }); printed = c.printed })
    same_mail frames m one = grown i a (record { mailbox = a.mailbox; frames = frames }) m c.printed here (omega arith) one

    framed : (frames : List Frame) → Grown c (with_frames c i a frames)
    framed frames = same_mail frames c.objects (omega arith)

    -- the messages of an actor that goes on
    mail_framed : (frames : List Frame) → mail_of (with_frames c i a frames).actors ≡ mail_of c.actors
    mail_framed frames = let set = mail_set c.actors i a (record { mailbox = a.mailbox; frames = frames }) here in omega (arith, set)

    delivered_changes : (frames : List Frame) (j : ℕ) (m : Message) (o : Option Actor) → slice_get (with_frames c i a frames).actors j ≡ o → Changes c (delivered c (with_frames c i a frames) j m o)
    delivered_changes frames j m None e = tt
    delivered_changes frames j m (Some b) e =
        let d : Configuration = with_frames c i a frames in
        let to : Actor = record { mailbox = b.mailbox ++ m ∷ []; frames = b.frames } in
        record {
          objects = omega arith;
          messages =
              let set = mail_set d.actors j b to e in
              let more = length-append b.mailbox (m ∷ []) in
              let same = mail_framed frames in
              let new = sum-map mail (slice_set d.actors j to) in
              let old = sum-map mail c.actors in
              omega (arith, set, more, same, new, old);
        }

    spawned : (frames : List Frame) (o : Object) (m : Message) →
        let d : Configuration = with_frames c i a frames in
        Grown c (record { objects = insert d.objects (own_address (length d.actors)) o; actors = d.actors ++ record { mailbox = m ∷ []; frames = [] } ∷ []; printed = d.printed })
    spawned frames o m =
        let d : Configuration = with_frames c i a frames in
        let new : Actor = record { mailbox = m ∷ []; frames = [] } in
        record {
          objects = one_more d.objects (own_address (length d.actors)) o;
          messages =
              let push = sum_by_push mail d.actors new in
              let same = mail_framed frames in
              let after = sum-map mail (d.actors ++ new ∷ []) in
              let before = sum-map mail c.actors in
              omega (arith, push, same, after, before);
        }

    made_changes : (fs : List Frame) (m : Move) → Changes c (made c i a fs m)
    made_changes fs (Stuck l) = tt
    made_changes fs Overflows = refl
    made_changes fs (Goes f) = framed (f ∷ fs)
    made_changes fs (Writes at k v f) = same_mail (f ∷ fs) (with_value c.objects at k v) (one_more c.objects at _)
    made_changes fs (Makes at o g f) = same_mail (g ∷ f ∷ fs) (insert c.objects at o) (one_more c.objects at o)
    made_changes fs (Spawns o m f) = spawned (f ∷ fs) o m
    made_changes fs (Enters g f) = framed (g ∷ f ∷ fs)
    made_changes fs (Sends j m f) = delivered_changes (f ∷ fs) j m (slice_get (with_frames c i a (f ∷ fs)).actors j) refl
    made_changes fs (Leaves v) = framed (left v fs)

    task_changes : (core : CoreData) (f : Frame) (fs : List Frame) (ts : List Task) → Changes c (run_task core c i a f fs ts)
    task_changes core f fs [] = tt
    task_changes core f fs (t ∷ ts) = made_changes fs _

  -- ---- actor 0 prints

  printed_changes : (a : Actor) (m : Message) (ms : List Message) → slice_get c.actors 0 ≡ Some a → a.mailbox ≡ m ∷ ms → (vs : List Value) → Changes c (printed_text c (record { mailbox = ms; frames = [] }) vs)
  printed_changes a m ms here first [] = tt
  printed_changes a m ms here first (Text t ∷ []) = grown 0 a (record { mailbox = ms; frames = [] }) c.objects _ here (fewer 0 a here m ms first) (omega arith)
  printed_changes a m ms here first (Text t ∷ v ∷ vs) = tt
  printed_changes a m ms here first (Num n ∷ vs) = tt
  printed_changes a m ms here first (Truth t ∷ vs) = tt
  printed_changes a m ms here first (Prim n ∷ vs) = tt
  printed_changes a m ms here first (At t ∷ vs) = tt

  take_changes : (core : CoreData) (i : ℕ) (a : Actor) (m : Message) (ms : List Message) → slice_get c.actors i ≡ Some a → a.mailbox ≡ m ∷ ms → Changes c (take core c i (record { mailbox = ms; frames = [] }) m)
  take_changes core zero a m ms here first = printed_changes a m ms here first m.arguments
  take_changes core (suc k) a m ms here first = method_changes (suc k) a here m ms first (slice_get core.methods m.method)

  first_changes : (core : CoreData) (i : ℕ) (a : Actor) (ms : List Message) → slice_get c.actors i ≡ Some a → a.mailbox ≡ ms → Changes c (take_first core c i ms)
  first_changes core i a [] here is = refl
  first_changes core i a (m ∷ ms) here is = take_changes core i a m ms here is

  frames_change : (core : CoreData) (i : ℕ) (a : Actor) (fs : List Frame) → slice_get c.actors i ≡ Some a → Changes c (run_frames core c i a fs)
  frames_change core i a [] here = first_changes core i a a.mailbox here refl
  frames_change core i a (f ∷ fs) here = task_changes i a here core f fs f.tasks

  actor_changes : (core : CoreData) (i : ℕ) (o : Option Actor) → slice_get c.actors i ≡ o → Changes c (step_of core c i o)
  actor_changes core i None e = refl
  actor_changes core i (Some a) e = frames_change core i a a.frames e

  pub step_changes : (core : CoreData) (i : ℕ) → Changes c (step core c i)
  step_changes core i = actor_changes core i (slice_get c.actors i) refl

-- ---- the start

-- There are few objects and messages at the start of a program.
pub record Few (c : Configuration) : Type 0 where
  pub objects : len c.objects ≤ 3
  pub messages : waiting c ≤ 1

few_at : (core : CoreData) (main : Option (ℕ × ℕ)) → Few (start_of core main)
few_at core None = let none = len-empty address_cmp Object in record { objects = omega (arith, none); messages = omega arith }
few_at core (Some main) =
    let none = len-empty address_cmp Object in
    let stream : ObjectMap = insert empty (own_address 0) (blank_object core 5) in
    let made : ObjectMap = insert stream environment_address (environment core) in
    record {
      objects =
          let first = one_more empty (own_address 0) (blank_object core 5) in
          let second = one_more stream environment_address (environment core) in
          let third = one_more made (own_address 1) (blank_object core main.0) in
          omega (arith, none, first, second, third);
      messages = omega arith;
    }

pub few_at_start : (core : CoreData) → Few (start core)
few_at_start core = few_at core (main_create core)
