-- The result of a plan.
use Rattle.std.proofs.{Common.{◌≡◌, ℕ, zero, suc, ◌<◌, List, [], ◌∷◌, ◌++◌, length, Option, Some, None, refl, sym, ap, ◌∙◌, arith}, lemmas.List.length-set}
use Rattle.std.specs.{Prelude.slice_get, FinMap.insert}
use Rattle.pc_base.proofs.Gets.{get_within}
use Rattle.pc_heap.specs.{Objects.{ObjectMap, next_address, new_object}, declared.value.Address.Address, declared.value.Value.TheVariants.At}
use Rattle.pc_semantics.specs.{declared.actors.Actor.Actor, declared.frames.Frame.Frame, declared.mailbox.Message.Message, declared.outcome.Outcome.Outcome, declared.outcome.Outcome.TheVariants.Moved, Configurations.{Configuration, own_address, with_frames, with_slot, none}, Step.{around, made}, Parts.delivered}
use Rattle.pc_machine.specs.{declared.plan.Change.Change, declared.plan.Change.TheVariants.{Gives, Enters, Leaves}, declared.plan.Plan.Plan, declared.plan.Plan.TheVariants.{Changes, Makes, Spawns, Sends}, Changed.{changed, framed, mailed, frames_in, frames_of}, Plans.{given, frames_changed, change_move, move_of, planned, planned_by, planned_frames}}
use Rattle.pc_machine.proofs.Changes.{changed_set, is_there, frames_mailed, mailed_framed}

-- ---- an actor that runs

pub record Running (actors : List Actor) (i : ℕ) : Type 0 where
  pub actor : Actor
  pub frame : Frame
  pub below : List Frame
  pub here : slice_get actors i ≡ Some actor
  pub frames : actor.frames ≡ frame ∷ below
  pub of : frames_of actors i ≡ frame ∷ below

has_frames : (actors : List Actor) (i : ℕ) (o : Option Actor) (fs : List Frame) → slice_get actors i ≡ o → frames_in o ≡ fs → 0 < length fs → Running actors i
has_frames actors i None fs e f l = absurd (omega (arith, ap length f, l))
has_frames actors i (Some a) [] e f l = absurd (omega (arith, l))
has_frames actors i (Some a) (g ∷ gs) e f l = record { actor = a; frame = g; below = gs; here = e; frames = f; of = ap frames_in e ∙ f }

pub running : (actors : List Actor) (i : ℕ) → 0 < length (frames_of actors i) → Running actors i
running actors i l = has_frames actors i (slice_get actors i) (frames_of actors i) refl refl l

-- the configuration with these objects and actors
abbrev pub amended : Configuration → ObjectMap → List Actor → Configuration
amended c objects actors = record { objects = objects; actors = actors; printed = c.printed }

module _ (c : Configuration) (i : ℕ) (r : Running c.actors i) where
  planned_is : (p : Plan) → planned c i p ≡ made c i r.actor r.below (move_of (around c i) p r.frame)
  planned_is p = ap (planned_by c i p) r.here ∙ ap (planned_frames c i r.actor p) r.frames

  -- the actor goes on with frames
  pub goes_on : (fs : List Frame) → changed c.actors i (framed fs) ≡ (with_frames c i r.actor fs).actors
  goes_on fs = changed_set c.actors i r.actor (framed fs) r.here

  change_made : (ch : Change) → made c i r.actor r.below (change_move ch r.frame) ≡ (Moved, with_frames c i r.actor (frames_changed ch (r.frame ∷ r.below)))
  change_made (Gives count v) = refl
  change_made (Enters count g) = refl
  change_made (Leaves v) = refl

  pub change_planned : (ch : Change) → ◌≡◌ {A = Outcome × Configuration} (Moved, amended c c.objects (changed c.actors i (framed (frames_changed ch (frames_of c.actors i))))) (planned c i (Changes ch))
  change_planned ch =
      ap (λ fs. let m : Outcome × Configuration = (Moved, amended c c.objects (changed c.actors i (framed (frames_changed ch fs)))) in m) r.of
      ∙ ap (λ actors. let m : Outcome × Configuration = (Moved, amended c c.objects actors) in m) (goes_on (frames_changed ch (r.frame ∷ r.below)))
      ∙ sym (change_made ch) ∙ sym (planned_is (Changes ch))

  -- an object is made, and its constructor begins
  pub make_planned : (count entity fields : ℕ) (g : Frame) →
      ◌≡◌ {A = Outcome × Configuration} (Moved, amended c (insert c.objects (next_address c.objects i) (new_object entity fields)) (changed c.actors i (framed (frames_changed (Enters count (with_slot g 0 (Some (At (next_address c.objects i))))) (frames_of c.actors i)))))
      (planned c i (Makes count entity fields g))
  make_planned count entity fields g =
      let objects : ObjectMap = insert c.objects (next_address c.objects i) (new_object entity fields) in
      let ch : Change = Enters count (with_slot g 0 (Some (At (next_address c.objects i)))) in
      ap (λ fs. let m : Outcome × Configuration = (Moved, amended c objects (changed c.actors i (framed (frames_changed ch fs)))) in m) r.of
      ∙ ap (λ actors. let m : Outcome × Configuration = (Moved, amended c objects actors) in m) (goes_on (frames_changed ch (r.frame ∷ r.below)))
      ∙ sym (planned_is (Makes count entity fields g))

  -- a message goes to an actor
  send_made : (j : ℕ) (m : Message) (fs : List Frame) → j < length c.actors → delivered c (with_frames c i r.actor fs) j m (slice_get (with_frames c i r.actor fs).actors j) ≡ (Moved, amended c c.objects (changed (changed c.actors i (framed fs)) j (mailed m)))
  send_made j m fs l =
      let d : Configuration = with_frames c i r.actor fs in
      let there : j < length d.actors = omega (arith, l, length-set c.actors i (framed fs r.actor)) in
      let to = get_within d.actors j there in
      ap (delivered c d j m) to.1
      ∙ ap (λ actors. let o : Outcome × Configuration = (Moved, amended c c.objects actors) in o) (sym (changed_set d.actors j to.0 (mailed m) to.1) ∙ ap (λ actors. changed actors j (mailed m)) (sym (goes_on fs)))

  pub send_planned : (count j : ℕ) (m : Message) → j < length c.actors →
      ◌≡◌ {A = Outcome × Configuration} (Moved, amended c c.objects (changed (changed c.actors i (framed (given count none (frames_of c.actors i)))) j (mailed m))) (planned c i (Sends count j m))
  send_planned count j m l =
      ap (λ fs. let o : Outcome × Configuration = (Moved, amended c c.objects (changed (changed c.actors i (framed (given count none fs))) j (mailed m))) in o) r.of
      ∙ sym (send_made j m (given count none (r.frame ∷ r.below)) l) ∙ sym (planned_is (Sends count j m))

-- A message is delivered, and then the frames change.
pub sent : (c : Configuration) (i count j : ℕ) (m : Message) (mid last : List Actor) → 0 < length (frames_of c.actors i) → j < length c.actors
    → mid ≡ changed c.actors j (mailed m) → last ≡ changed mid i (framed (given count none (frames_of mid i)))
    → ◌≡◌ {A = Outcome × Configuration} (Moved, amended c c.objects last) (planned c i (Sends count j m))
sent c i count j m mid last runs there first second =
    let fs : List Frame = given count none (frames_of c.actors i) in
    let frames : frames_of mid i ≡ frames_of c.actors i = ap (λ (xs : List Actor). frames_of xs i) first ∙ frames_mailed c.actors i j m in
    let ends : last ≡ changed (changed c.actors i (framed fs)) j (mailed m) =
    second ∙ ap (λ gs. changed mid i (framed (given count none gs))) frames ∙ ap (λ (xs : List Actor). changed xs i (framed fs)) first ∙ mailed_framed c.actors i j m fs in
    ap (λ actors. let o : Outcome × Configuration = (Moved, amended c c.objects actors) in o) ends ∙ send_planned c i (running c.actors i runs) count j m there

-- ---- a new actor

frames_before : (xs : List Actor) (b : Actor) (i : ℕ) → i < length xs → frames_of (xs ++ b ∷ []) i ≡ frames_of xs i
frames_before [] b i l = absurd (omega (arith, l))
frames_before (x ∷ xs) b zero l = refl
frames_before (x ∷ xs) b (suc i) l = let m : i < length xs = omega (arith, l) in frames_before xs b i m

changed_before : (xs : List Actor) (b : Actor) (i : ℕ) (g : Actor → Actor) → i < length xs → changed (xs ++ b ∷ []) i g ≡ changed xs i g ++ b ∷ []
changed_before [] b i g l = absurd (omega (arith, l))
changed_before (x ∷ xs) b zero g l = refl
changed_before (x ∷ xs) b (suc i) g l = let m : i < length xs = omega (arith, l) in ap (λ ys. x ∷ ys) (changed_before xs b i g m)

-- the actor that is made
abbrev pub new_actor : Message → Actor
new_actor m = record { mailbox = m ∷ []; frames = [] }

-- The frames of a running actor are unchanged when an actor is appended.
pub frames_stay : (xs mid : List Actor) (i : ℕ) (m : Message) → 0 < length (frames_of xs i) → mid ≡ xs ++ new_actor m ∷ [] → frames_of mid i ≡ frames_of xs i
frames_stay xs mid i m runs e = ap (λ (ys : List Actor). frames_of ys i) e ∙ frames_before xs (new_actor m) i (is_there xs i runs)

module _ (c : Configuration) (i : ℕ) (r : Running c.actors i) where
  spawn_planned : (count entity fields : ℕ) (m : Message) →
      ◌≡◌ {A = Outcome × Configuration} (Moved, amended c (insert c.objects (own_address (length c.actors)) (new_object entity fields)) (changed c.actors i (framed (given count (At (own_address (length c.actors))) (frames_of c.actors i))) ++ new_actor m ∷ []))
      (planned c i (Spawns count entity fields m))
  spawn_planned count entity fields m =
      let fs : List Frame = given count (At (own_address (length c.actors))) (r.frame ∷ r.below) in
      let d : Configuration = with_frames c i r.actor fs in
      let count_same : length d.actors ≡ length c.actors = length-set c.actors i (framed fs r.actor) in
      ap (λ gs. let o : Outcome × Configuration = (Moved, amended c (insert c.objects (own_address (length c.actors)) (new_object entity fields)) (changed c.actors i (framed (given count (At (own_address (length c.actors))) gs)) ++ new_actor m ∷ [])) in o) r.of
      ∙ ap (λ actors. let o : Outcome × Configuration = (Moved, amended c (insert c.objects (own_address (length c.actors)) (new_object entity fields)) (actors ++ new_actor m ∷ [])) in o) (goes_on c i r fs)
      ∙ ap (λ n. let o : Outcome × Configuration = (Moved, amended c (insert c.objects (own_address n) (new_object entity fields)) (d.actors ++ new_actor m ∷ [])) in o) (sym count_same)
      ∙ sym (planned_is c i r (Spawns count entity fields m))

-- An actor is made, and then the frames change.
pub spawned : (c : Configuration) (i count entity fields : ℕ) (m : Message) (at : Address) (mid last : List Actor) → 0 < length (frames_of c.actors i) → at ≡ own_address (length c.actors)
    → mid ≡ c.actors ++ new_actor m ∷ [] → last ≡ changed mid i (framed (given count (At at) (frames_of mid i)))
    → ◌≡◌ {A = Outcome × Configuration} (Moved, amended c (insert c.objects at (new_object entity fields)) last) (planned c i (Spawns count entity fields m))
spawned c i count entity fields m at mid last runs own first second =
    let own_at : Address = own_address (length c.actors) in
    let fs : List Frame = given count (At own_at) (frames_of c.actors i) in
    let ends : last ≡ changed c.actors i (framed fs) ++ new_actor m ∷ [] =
    second ∙ ap (λ gs. changed mid i (framed (given count (At at) gs))) (frames_stay c.actors mid i m runs first)
    ∙ ap (λ a. changed mid i (framed (given count (At a) (frames_of c.actors i)))) own
    ∙ ap (λ (xs : List Actor). changed xs i (framed fs)) first ∙ changed_before c.actors (new_actor m) i (framed fs) (is_there c.actors i runs) in
    ap (λ actors. let o : Outcome × Configuration = (Moved, amended c (insert c.objects at (new_object entity fields)) actors) in o) ends
    ∙ ap (λ a. let o : Outcome × Configuration = (Moved, amended c (insert c.objects a (new_object entity fields)) (changed c.actors i (framed fs) ++ new_actor m ∷ [])) in o) own
    ∙ spawn_planned c i (running c.actors i runs) count entity fields m

-- An object is made after the change of the frames.
pub made_object : (c : Configuration) (i count entity fields : ℕ) (f g : Frame) (at new : Address) (last : List Actor) → 0 < length (frames_of c.actors i) → at ≡ next_address c.objects i → new ≡ next_address c.objects i
    → g ≡ with_slot f 0 (Some (At at)) → last ≡ changed c.actors i (framed (frames_changed (Enters count g) (frames_of c.actors i)))
    → ◌≡◌ {A = Outcome × Configuration} (Moved, amended c (insert c.objects new (new_object entity fields)) last) (planned c i (Makes count entity fields f))
made_object c i count entity fields f g at new last runs is is_new this first =
    let next : Address = next_address c.objects i in
    let ends : last ≡ changed c.actors i (framed (frames_changed (Enters count (with_slot f 0 (Some (At next)))) (frames_of c.actors i))) =
    first ∙ ap (λ h. changed c.actors i (framed (frames_changed (Enters count h) (frames_of c.actors i)))) (this ∙ ap (λ a. with_slot f 0 (Some (At a))) is) in
    ap (λ actors. let o : Outcome × Configuration = (Moved, amended c (insert c.objects new (new_object entity fields)) actors) in o) ends
    ∙ ap (λ a. let o : Outcome × Configuration = (Moved, amended c (insert c.objects a (new_object entity fields)) (changed c.actors i (framed (frames_changed (Enters count (with_slot f 0 (Some (At next)))) (frames_of c.actors i))))) in o) is_new
    ∙ make_planned c i (running c.actors i runs) count entity fields f

-- The frames change.
pub changed_planned : (c : Configuration) (i : ℕ) (ch : Change) (last : List Actor) → 0 < length (frames_of c.actors i) → last ≡ changed c.actors i (framed (frames_changed ch (frames_of c.actors i)))
    → ◌≡◌ {A = Outcome × Configuration} (Moved, amended c c.objects last) (planned c i (Changes ch))
changed_planned c i ch last runs first =
    ap (λ actors. let o : Outcome × Configuration = (Moved, amended c c.objects actors) in o) first ∙ change_planned c i (running c.actors i runs) ch
