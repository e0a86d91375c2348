-- A step that moves makes the change that is planned.
use Rattle.std.specs.{Prelude.{◌≡◌, ◌⊎◌, ◌<◌, ℕ, zero, suc, true, false, List, [], ◌∷◌, ◌++◌, length, Option, Some, None, slice_get, slice_set, refl, ⊤}, FinMap.insert}
use Rattle.std.proofs.{Common.{inl, inr, ap, sym, subst, ◌∙◌}, lemmas.Option.{same_Some, none-some}}
use Rattle.pc_base.proofs.Gets.{get_within}
use Rattle.pc_heap.specs.{Objects.{ObjectMap, with_value}, declared.value.Value.Value, declared.value.Value.TheVariants.{Text, At}}
use Rattle.pc_core.specs.{CoreData.CoreData, declared.declarations.Method.Method}
use Rattle.pc_semantics.specs.{declared.actors.Actor.Actor, declared.frames.Frame.Frame, declared.frames.Task.Task, declared.mailbox.Message.Message, declared.outcome.Lack.Lack, declared.outcome.Outcome.Outcome, declared.outcome.Outcome.TheVariants.{Moved, Skipped, Lacks, TooLong}, Configurations.{Configuration, own_address, Move, Stuck, Overflows, Goes, Writes, Makes, Spawns, Enters, Sends, Leaves, first_frame}, Step.{task_move, left, made, printed_text, take, take_first, run_frames, step}, Parts.{delivered, deliver, run_task, begun, begin_method, step_of}}
use Rattle.pc_events.proofs.{Changes.{Same, Sets, New, changed, going, pushing, born, Change, applied, local, on_heap, planned, plan_print, plan_begun, plan_begin, plan_message, plan_first, plan_tasks, plan_frames, plan_actor, plan, behind}, Lists.{set_changed, length_changed}, Right.{Right, right}}

-- ---- what a plan implies

-- A frame's first task moves.
pub record Running (core : CoreData) (c : Configuration) (i : ℕ) (x : Change) : Type 0 where
  pub actor : Actor
  pub frame : Frame
  pub below : List Frame
  pub task : Task
  pub rest : List Task
  pub is : slice_get c.actors i ≡ Some actor
  pub frames : actor.frames ≡ frame ∷ below
  pub tasks : frame.tasks ≡ task ∷ rest
  pub plans : planned (length c.actors) below (task_move core (record { objects = c.objects; actor = i; actors = length c.actors }) (record { method = frame.method; slots = frame.slots; stack = frame.stack; tasks = rest }) task) ≡ Some x

-- The first message is taken.
pub record Taking (core : CoreData) (c : Configuration) (i : ℕ) (x : Change) : Type 0 where
  pub actor : Actor
  pub message : Message
  pub rest : List Message
  pub is : slice_get c.actors i ≡ Some actor
  pub frames : actor.frames ≡ []
  pub mail : actor.mailbox ≡ message ∷ rest
  pub plans : plan_message core i message ≡ Some x

module _ (core : CoreData) (c : Configuration) (i : ℕ) (x : Change) where
  tasks_view : (a : Actor) (f : Frame) (fs : List Frame) (ts : List Task) → slice_get c.actors i ≡ Some a → a.frames ≡ f ∷ fs → f.tasks ≡ ts → plan_tasks core c.objects (length c.actors) i f fs ts ≡ Some x → Running core c i x ⊎ Taking core c i x
  tasks_view a f fs [] is e q p = absurd (none-some x p)
  tasks_view a f fs (t ∷ ts) is e q p = inl (record { actor = a; frame = f; below = fs; task = t; rest = ts; is = is; frames = e; tasks = q; plans = p })

  mail_view : (a : Actor) (ms : List Message) → slice_get c.actors i ≡ Some a → a.frames ≡ [] → a.mailbox ≡ ms → plan_first core i ms ≡ Some x → Running core c i x ⊎ Taking core c i x
  mail_view a [] is e q p = absurd (none-some x p)
  mail_view a (m ∷ ms) is e q p = inr (record { actor = a; message = m; rest = ms; is = is; frames = e; mail = q; plans = p })

  frames_view : (a : Actor) (fs : List Frame) → slice_get c.actors i ≡ Some a → a.frames ≡ fs → plan_frames core c.objects (length c.actors) i a.mailbox fs ≡ Some x → Running core c i x ⊎ Taking core c i x
  frames_view a [] is e p = mail_view a a.mailbox is e refl p
  frames_view a (f ∷ fs) is e p = tasks_view a f fs f.tasks is e refl p

  actor_view : (o : Option Actor) → slice_get c.actors i ≡ o → plan_actor core c.objects (length c.actors) i o ≡ Some x → Running core c i x ⊎ Taking core c i x
  actor_view None is p = absurd (none-some x p)
  actor_view (Some a) is p = frames_view a a.frames is refl p

  pub view : plan core c i ≡ Some x → Running core c i x ⊎ Taking core c i x
  view p = actor_view (slice_get c.actors i) refl p

-- ---- the change is made

abbrev whole : ObjectMap → List (List ℕ) → List Actor → Outcome × Configuration
whole h p l = (Moved, record { objects = h; actors = l; printed = p })

set_whole : (h : ObjectMap) (p : List (List ℕ)) (l : List Actor) (i : ℕ) (a : Actor) (g : Actor → Actor) → slice_get l i ≡ Some a → whole h p (slice_set l i (g a)) ≡ whole h p (changed l i g)
set_whole h p l i a g is = ap (whole h p) (set_changed l i a g is)

delivered_is : (b c : Configuration) (j : ℕ) (m : Message) → j < length c.actors → deliver b c j m ≡ whole c.objects c.printed (changed c.actors j (pushing m))
delivered_is b c j m l =
    let a = get_within c.actors j l in
    ap (delivered b c j m) a.1 ∙ set_whole c.objects c.printed c.actors j a.0 (pushing m) a.1

abbrev pub SendsTo : ℕ → Move → Type 0
SendsTo n (Sends j m f) = j < n
SendsTo n m = ⊤

pub right_sends : (core : CoreData) (h : ObjectMap) (i n : ℕ) (stack : List Value) (t : Task) (m : Move) → Right core h i n stack t m → SendsTo n m
right_sends core h i n stack t (Sends j m f) r = r
right_sends core h i n stack t m r = tt

made_is : (c : Configuration) (i : ℕ) (a : Actor) (fs : List Frame) (m : Move) → slice_get c.actors i ≡ Some a → SendsTo (length c.actors) m → (x : Change) → planned (length c.actors) fs m ≡ Some x → made c i a fs m ≡ (Moved, applied c i x)
made_is c i a fs (Stuck l) is s x p = absurd (none-some x p)
made_is c i a fs Overflows is s x p = absurd (none-some x p)
made_is c i a fs (Goes f) is s x p = subst (λ (y : Change). made c i a fs (Goes f) ≡ (Moved, applied c i y)) (same_Some (local (f ∷ fs)) x p) (set_whole c.objects c.printed c.actors i a (going false (f ∷ fs)) is)
made_is c i a fs (Writes q k v f) is s x p =
    subst (λ (y : Change). made c i a fs (Writes q k v f) ≡ (Moved, applied c i y)) (same_Some (on_heap (f ∷ fs) (Sets q k v)) x p) (set_whole (with_value c.objects q k v) c.printed c.actors i a (going false (f ∷ fs)) is)
made_is c i a fs (Makes q o g f) is s x p =
    subst (λ (y : Change). made c i a fs (Makes q o g f) ≡ (Moved, applied c i y)) (same_Some (on_heap (g ∷ f ∷ fs) (New q o)) x p) (set_whole (insert c.objects q o) c.printed c.actors i a (going false (g ∷ f ∷ fs)) is)
made_is c i a fs (Spawns o m f) is s x p =
    let g : Actor → Actor = going false (f ∷ fs) in
    subst (λ (y : Change). made c i a fs (Spawns o m f) ≡ (Moved, applied c i y)) (same_Some (record { takes = false; frames = f ∷ fs; heap = New (own_address (length c.actors)) o; sends = None; spawns = Some m; prints = None }) x p)
    (ap (λ (l : List Actor). whole (insert c.objects (own_address (length l)) o) c.printed (l ++ born m ∷ [])) (set_changed c.actors i a g is)
    ∙ ap (λ (n : ℕ). whole (insert c.objects (own_address n) o) c.printed (changed c.actors i g ++ born m ∷ [])) (length_changed c.actors i g))
made_is c i a fs (Enters g f) is s x p = subst (λ (y : Change). made c i a fs (Enters g f) ≡ (Moved, applied c i y)) (same_Some (local (g ∷ f ∷ fs)) x p) (set_whole c.objects c.printed c.actors i a (going false (g ∷ f ∷ fs)) is)
made_is c i a fs (Sends j m f) is s x p =
    let g : Actor → Actor = going false (f ∷ fs) in
    let d : List Actor → Configuration = λ l. record { objects = c.objects; actors = l; printed = c.printed } in
    subst (λ (y : Change). made c i a fs (Sends j m f) ≡ (Moved, applied c i y)) (same_Some (record { takes = false; frames = f ∷ fs; heap = Same; sends = Some (j, m); spawns = None; prints = None }) x p)
    (ap (λ (l : List Actor). deliver c (d l) j m) (set_changed c.actors i a g is) ∙ delivered_is c (d (changed c.actors i g)) j m (subst (λ (n : ℕ). j < n) (sym (length_changed c.actors i g)) s))
made_is c i a fs (Leaves v) is s x p = subst (λ (y : Change). made c i a fs (Leaves v) ≡ (Moved, applied c i y)) (same_Some (local (left v fs)) x p) (set_whole c.objects c.printed c.actors i a (going false (left v fs)) is)

-- ---- messages

abbrev idle : List Message → Actor
idle ms = record { mailbox = ms; frames = [] }

taken_actors : (h : ObjectMap) (p : List (List ℕ)) (l : List Actor) (i : ℕ) (a : Actor) (m : Message) (ms : List Message) (fs : List Frame) → slice_get l i ≡ Some a → a.mailbox ≡ m ∷ ms → whole h p (slice_set l i (record { mailbox = ms; frames = fs })) ≡ whole h p (changed l i (going true fs))
taken_actors h p l i a m ms fs is mail = ap (λ (ns : List Message). whole h p (slice_set l i (record { mailbox = behind ns; frames = fs }))) (sym mail) ∙ set_whole h p l i a (going true fs) is

print_is : (c : Configuration) (a : Actor) (m : Message) (ms : List Message) → slice_get c.actors 0 ≡ Some a → a.mailbox ≡ m ∷ ms → (vs : List Value) (x : Change) → plan_print vs ≡ Some x → printed_text c (idle ms) vs ≡ (Moved, applied c 0 x)
print_is c a m ms is mail (Text t ∷ []) x p =
    subst (λ (y : Change). printed_text c (idle ms) (Text t ∷ []) ≡ (Moved, applied c 0 y)) (same_Some _ x p) (taken_actors c.objects (c.printed ++ t ∷ []) c.actors 0 a m ms [] is mail)
print_is c a m ms is mail vs x p = absurd (none-some x p)

begun_is : (c : Configuration) (i : ℕ) (a : Actor) (m : Message) (ms : List Message) → slice_get c.actors i ≡ Some a → a.mailbox ≡ m ∷ ms → (k : Method) (b : Option ℕ) (x : Change) → plan_begun i m k b ≡ Some x → begun c i (idle ms) m k b ≡ (Moved, applied c i x)
begun_is c i a m ms is mail k None x p = absurd (none-some x p)
begun_is c i a m ms is mail k (Some b) x p =
    subst (λ (y : Change). begun c i (idle ms) m k (Some b) ≡ (Moved, applied c i y)) (same_Some _ x p) (taken_actors c.objects c.printed c.actors i a m ms (first_frame m.method k (At (own_address i)) m.arguments b ∷ []) is mail)

begin_is : (c : Configuration) (i : ℕ) (a : Actor) (m : Message) (ms : List Message) → slice_get c.actors i ≡ Some a → a.mailbox ≡ m ∷ ms → (o : Option Method) (x : Change) → plan_begin i m o ≡ Some x → begin_method c i (idle ms) m o ≡ (Moved, applied c i x)
begin_is c i a m ms is mail None x p = absurd (none-some x p)
begin_is c i a m ms is mail (Some k) x p = begun_is c i a m ms is mail k k.body x p

take_is : (core : CoreData) (c : Configuration) (i : ℕ) (a : Actor) (m : Message) (ms : List Message) → slice_get c.actors i ≡ Some a → a.mailbox ≡ m ∷ ms → (x : Change) → plan_message core i m ≡ Some x → take core c i (idle ms) m ≡ (Moved, applied c i x)
take_is core c zero a m ms is mail x p = print_is c a m ms is mail m.arguments x p
take_is core c (suc i) a m ms is mail x p = begin_is c (suc i) a m ms is mail (slice_get core.methods m.method) x p

-- ---- the step

-- A step whose change is planned makes it.
pub step_is : (core : CoreData) (c : Configuration) (i : ℕ) (x : Change) → plan core c i ≡ Some x → step core c i ≡ (Moved, applied c i x)
step_is core c i x p =
    elim (view core c i x p) [
      | inl r ↦
          let f : Frame = record { method = r.frame.method; slots = r.frame.slots; stack = r.frame.stack; tasks = r.rest } in
          let m : Move = task_move core (record { objects = c.objects; actor = i; actors = length c.actors }) f r.task in
          ap (step_of core c i) r.is ∙ ap (run_frames core c i r.actor) r.frames ∙ ap (run_task core c i r.actor r.frame r.below) r.tasks
          ∙ made_is c i r.actor r.below m r.is (right_sends core c.objects i (length c.actors) f.stack r.task m (right core c.objects i (length c.actors) f r.task)) x r.plans
      | inr t ↦ ap (step_of core c i) t.is ∙ ap (run_frames core c i t.actor) t.frames ∙ ap (take_first core c i) t.mail ∙ take_is core c i t.actor t.message t.rest t.is t.mail x t.plans
    ]

-- ---- a step that moves has a plan

lacks_moved : (l : Lack) → Lacks l ≡ Moved → ⊥
lacks_moved l e = cc

long_moved : TooLong ≡ Moved → ⊥
long_moved e = cc

skipped_moved : Skipped ≡ Moved → ⊥
skipped_moved e = cc

move_plans : (c : Configuration) (i n : ℕ) (a : Actor) (fs : List Frame) (m : Move) → (made c i a fs m).0 ≡ Moved → (x : Change) × (planned n fs m ≡ Some x)
move_plans c i n a fs (Stuck l) e = absurd (lacks_moved l e)
move_plans c i n a fs Overflows e = absurd (long_moved e)
move_plans c i n a fs (Goes f) e = (_, refl)
move_plans c i n a fs (Writes q k v f) e = (_, refl)
move_plans c i n a fs (Makes q o g f) e = (_, refl)
move_plans c i n a fs (Spawns o m f) e = (_, refl)
move_plans c i n a fs (Enters g f) e = (_, refl)
move_plans c i n a fs (Sends j m f) e = (_, refl)
move_plans c i n a fs (Leaves v) e = (_, refl)

print_plans : (c : Configuration) (a : Actor) (vs : List Value) → (printed_text c a vs).0 ≡ Moved → (x : Change) × (plan_print vs ≡ Some x)
print_plans c a (Text t ∷ []) e = (_, refl)
print_plans c a vs e = absurd (lacks_moved _ e)

begun_plans : (c : Configuration) (i : ℕ) (a : Actor) (m : Message) (k : Method) (b : Option ℕ) → (begun c i a m k b).0 ≡ Moved → (x : Change) × (plan_begun i m k b ≡ Some x)
begun_plans c i a m k None e = absurd (lacks_moved _ e)
begun_plans c i a m k (Some b) e = (_, refl)

begin_plans : (c : Configuration) (i : ℕ) (a : Actor) (m : Message) (o : Option Method) → (begin_method c i a m o).0 ≡ Moved → (x : Change) × (plan_begin i m o ≡ Some x)
begin_plans c i a m None e = absurd (lacks_moved _ e)
begin_plans c i a m (Some k) e = begun_plans c i a m k k.body e

take_plans : (core : CoreData) (c : Configuration) (i : ℕ) (a : Actor) (m : Message) → (take core c i a m).0 ≡ Moved → (x : Change) × (plan_message core i m ≡ Some x)
take_plans core c zero a m e = print_plans c a m.arguments e
take_plans core c (suc i) a m e = begin_plans c (suc i) a m (slice_get core.methods m.method) e

mail_plans : (core : CoreData) (c : Configuration) (i : ℕ) (ms : List Message) → (take_first core c i ms).0 ≡ Moved → (x : Change) × (plan_first core i ms ≡ Some x)
mail_plans core c i [] e = absurd (skipped_moved e)
mail_plans core c i (m ∷ ms) e = take_plans core c i (idle ms) m e

task_plans : (core : CoreData) (c : Configuration) (i : ℕ) (a : Actor) (f : Frame) (fs : List Frame) (ts : List Task) → (run_task core c i a f fs ts).0 ≡ Moved → (x : Change) × (plan_tasks core c.objects (length c.actors) i f fs ts ≡ Some x)
task_plans core c i a f fs [] e = absurd (lacks_moved _ e)
task_plans core c i a f fs (t ∷ ts) e = move_plans c i (length c.actors) a fs _ e

frame_plans : (core : CoreData) (c : Configuration) (i : ℕ) (a : Actor) (fs : List Frame) → (run_frames core c i a fs).0 ≡ Moved → (x : Change) × (plan_frames core c.objects (length c.actors) i a.mailbox fs ≡ Some x)
frame_plans core c i a [] e = mail_plans core c i a.mailbox e
frame_plans core c i a (f ∷ fs) e = task_plans core c i a f fs f.tasks e

actor_plans : (core : CoreData) (c : Configuration) (i : ℕ) (o : Option Actor) → (step_of core c i o).0 ≡ Moved → (x : Change) × (plan_actor core c.objects (length c.actors) i o ≡ Some x)
actor_plans core c i None e = absurd (skipped_moved e)
actor_plans core c i (Some a) e = frame_plans core c i a a.frames e

pub plans : (core : CoreData) (c : Configuration) (i : ℕ) → (step core c i).0 ≡ Moved → (x : Change) × (plan core c i ≡ Some x)
plans core c i e = actor_plans core c i (slice_get c.actors i) e
