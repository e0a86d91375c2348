-- From Held to what holds in the configuration after every list of actors.
use Rattle.std.specs.Prelude.{◌≡◌, ℕ, zero, suc, List, [], ◌∷◌, ◌++◌, Option, Some, None, slice_get, slice_set, refl}
use Rattle.std.proofs.{Common.{inl, inr, ap, sym, subst}, lemmas.Option.{same_Some, none-some}}
use Rattle.pc_base.proofs.{Gets.{get_push, get_set}, Options.bind_some}
use Rattle.pc_heap.specs.{declared.value.Value.Value, declared.value.Value.TheVariants.{Num, Truth, Text, Prim, At}}
use Rattle.pc_core.specs.{declared.declarations.Method.Method, CoreData.CoreData, Formed.Formed}
use Rattle.pc_base.specs.Lists.{Each}
use Rattle.pc_semantics.specs.{declared.actors.Actor.Actor, declared.frames.Frame.Frame, declared.frames.Task.Task, declared.mailbox.Message.Message, declared.outcome.Outcome.Outcome, declared.outcome.Outcome.TheVariants.{Moved, Skipped, Lacks, TooLong}, Configurations.{Configuration, main_create, start_of, start, Move, Stuck, Overflows, Goes, Writes, Makes, Spawns, Enters, Sends as Sending, Leaves}, Step.{task_move, left, made, around, printed_text, take_first, run_frames, step, followed, run_from, after}, Parts.{delivered, run_task, begun, begin_method, step_of}}
use Rattle.pc_sends.specs.{Held.{HeldAt, HeldFrom}, Tables.{running, Reach, first, next, Posts, Sends, message_of, next_move}, Found.MayWait, Covering.{ReachCovers, HeldCovers}}
use Rattle.pc_sends.proofs.{Homes.body_in, Moves.{TasksIn, FrameOf, IsThere, Begun, MoveIn}, Tasks.{CallNoted, task_in}}

-- ---- what holds of each actor

abbrev pub FrameIn : CoreData → List (Option ℕ) → Frame → Type 0
FrameIn core ents f = Reach core ents f.method × IsThere core f.method × TasksIn core f.method f.tasks

abbrev pub FramesIn : CoreData → List (Option ℕ) → List Frame → Type 0
FramesIn core ents [] = Unit {0}
FramesIn core ents (f ∷ fs) = FrameIn core ents f × FramesIn core ents fs

abbrev pub MailIn : CoreData → List (Option ℕ) → List Message → Type 0
MailIn core ents [] = Unit {0}
MailIn core ents (m ∷ ms) = MayWait core ents m.method × MailIn core ents ms

abbrev pub ActorIn : CoreData → List (Option ℕ) → Actor → Type 0
ActorIn core ents a = FramesIn core ents a.frames × MailIn core ents a.mailbox

abbrev pub ActorsIn : CoreData → List (Option ℕ) → List Actor → Type 0
ActorsIn core ents actors = (i : ℕ) (a : Actor) → slice_get actors i ≡ Some a → ActorIn core ents a

-- After a step.
abbrev pub StepIn : CoreData → List (Option ℕ) → Outcome × Configuration → Type 0
StepIn core ents r = ActorsIn core ents r.1.actors

module _ (core : CoreData) (ents : List (Option ℕ)) (formed : Formed core) where
  -- ---- messages

  pub waits_reached : (t : ℕ) → MayWait core ents t → Reach core ents t
  waits_reached t (inl w) = first w.1
  waits_reached t (inr w) = next w.1.reached w.1.posts.0

  mail_push : (ms : List Message) (m : Message) → MailIn core ents ms → MayWait core ents m.method → MailIn core ents (ms ++ m ∷ [])
  mail_push [] m k w = (w, tt)
  mail_push (n ∷ ms) m k w = (k.0, mail_push ms m k.1 w)

  -- What a method that is reached sends may wait.
  posted : (m t : ℕ) → Reach core ents m → IsThere core m → Posts core ents m t → MayWait core ents t
  posted m t r x p = inr (x.0.entity, record { from = m; reached = r; method = x.0; is_method = x.1; entity = refl; posts = p })

  -- ---- actors

  set_in : (actors : List Actor) (i : ℕ) (b : Actor) → ActorsIn core ents actors → ActorIn core ents b → ActorsIn core ents (slice_set actors i b)
  set_in actors i b k here j a e =
      elim (get_set actors i b j a e) [
        | inl p ↦ subst (λ (z : Actor). ActorIn core ents z) (sym p.1) here
        | inr q ↦ k j a q
      ]

  push_in : (actors : List Actor) (b : Actor) → ActorsIn core ents actors → ActorIn core ents b → ActorsIn core ents (actors ++ b ∷ [])
  push_in actors b k here j a e =
      elim (get_push actors b j a e) [
        | inl q ↦ k j a q
        | inr p ↦ subst (λ (z : Actor). ActorIn core ents z) p.1 here
      ]

  -- ---- moves

  -- A frame that goes on.
  goes_in : (m : ℕ) (f : Frame) → Reach core ents m → IsThere core m → FrameOf core m f → FrameIn core ents f
  goes_in m f r x k = (subst (λ (n : ℕ). Reach core ents n) (sym k.0) r, subst (λ (n : ℕ). IsThere core n) (sym k.0) x, subst (λ (n : ℕ). TasksIn core n f.tasks) (sym k.0) k.1)

  begun_in : (m : ℕ) (g : Frame) → Reach core ents m → Begun core ents m g → FrameIn core ents g
  begun_in m g r b = (next r b.0, b.1, b.2)

  left_in : (v : Option Value) (fs : List Frame) → FramesIn core ents fs → FramesIn core ents (left v fs)
  left_in None fs k = k
  left_in (Some v) [] k = k
  left_in (Some v) (f ∷ fs) k = k

  delivered_in : (c d : Configuration) (j : ℕ) (m : Message) (o : Option Actor) → ActorsIn core ents c.actors → ActorsIn core ents d.actors → slice_get d.actors j ≡ o → MayWait core ents m.method → StepIn core ents (delivered c d j m o)
  delivered_in c d j m None before k e w = before
  delivered_in c d j m (Some a) before k e w = let here = k j a e in set_in d.actors j (record { mailbox = a.mailbox ++ m ∷ []; frames = a.frames }) k (here.0, mail_push a.mailbox m here.1 w)

  module _ (c : Configuration) (i : ℕ) (a : Actor) (fs : List Frame) (m : ℕ) (all : ActorsIn core ents c.actors) (mail : MailIn core ents a.mailbox) (below : FramesIn core ents fs) (r : Reach core ents m) (x : IsThere core m) where
    frames_set : (gs : List Frame) → FramesIn core ents gs → ActorsIn core ents (slice_set c.actors i (record { mailbox = a.mailbox; frames = gs }))
    frames_set gs k = set_in c.actors i (record { mailbox = a.mailbox; frames = gs }) all (k, mail)

    pub made_in : (move : Move) → MoveIn core ents m move → StepIn core ents (made c i a fs move)
    made_in (Stuck l) k = all
    made_in Overflows k = all
    made_in (Goes f) k = frames_set (f ∷ fs) (goes_in m f r x k, below)
    made_in (Writes at n v f) k = frames_set (f ∷ fs) (goes_in m f r x k, below)
    made_in (Makes at o g f) k = frames_set (g ∷ f ∷ fs) (begun_in m g r k.0, (goes_in m f r x k.1, below))
    made_in (Spawns o s f) k =
        push_in (slice_set c.actors i (record { mailbox = a.mailbox; frames = f ∷ fs })) (record { mailbox = s ∷ []; frames = [] }) (frames_set (f ∷ fs) (goes_in m f r x k.1, below)) (tt, (posted m s.method r x k.0, tt))
    made_in (Enters g f) k = frames_set (g ∷ f ∷ fs) (begun_in m g r k.0, (goes_in m f r x k.1, below))
    made_in (Sending j s f) k =
        delivered_in c (record { objects = c.objects; actors = slice_set c.actors i (record { mailbox = a.mailbox; frames = f ∷ fs }); printed = c.printed }) j s _ all (frames_set (f ∷ fs) (goes_in m f r x k.1, below)) refl (posted m s.method r x k.0)
    made_in (Leaves v) k = frames_set (left v fs) (left_in v fs below)

  -- ---- an idle actor takes a message

  module _ (c : Configuration) (all : ActorsIn core ents c.actors) where
    method_in : (i : ℕ) (a : Actor) (m : Message) (o : Option Method) → MayWait core ents m.method → MailIn core ents a.mailbox → slice_get core.methods m.method ≡ o → StepIn core ents (begin_method c i a m o)
    method_in i a m None w k e = all
    method_in i a m (Some x) w k e = body_at x.body refl
      where
        body_at : (b : Option ℕ) → x.body ≡ b → StepIn core ents (begun c i a m x b)
        body_at None is = all
        body_at (Some b) is = set_in c.actors i _ all (((waits_reached m.method w, (x, e), (body_in core m.method b x formed e is, tt)), tt), k)

    text_in : (a : Actor) (vs : List Value) → ActorIn core ents a → StepIn core ents (printed_text c a vs)
    text_in a (Text t ∷ []) k = set_in c.actors 0 a all k
    text_in a [] k = all
    text_in a (Num n ∷ vs) k = all
    text_in a (Truth n ∷ vs) k = all
    text_in a (Prim n ∷ vs) k = all
    text_in a (At n ∷ vs) k = all
    text_in a (Text t ∷ v ∷ vs) k = all

    take_in : (i : ℕ) (ms : List Message) → MailIn core ents ms → StepIn core ents (take_first core c i ms)
    take_in i [] k = all
    take_in zero (m ∷ ms) k = text_in (record { mailbox = ms; frames = [] }) m.arguments (tt, k.1)
    take_in (suc i) (m ∷ ms) k = method_in (suc i) (record { mailbox = ms; frames = [] }) m (slice_get core.methods m.method) k.0 k.1 refl

  -- ---- a step

  noted_at : (c : Configuration) (i : ℕ) → HeldAt core ents c → (f : Frame) → running c i ≡ Some f → CallNoted core ents c.objects f.tasks f.stack
  noted_at c i held f runs r v e = held i f r v runs e

  -- The move of a frame that runs.
  pub runs_in : (c : Configuration) (i : ℕ) (f : Frame) (t : Task) (ts : List Task) → HeldAt core ents c → running c i ≡ Some f → FrameIn core ents f → f.tasks ≡ t ∷ ts
      → MoveIn core ents f.method (task_move core (around c i) (record { method = f.method; slots = f.slots; stack = f.stack; tasks = ts }) t)
  runs_in c i f t ts held runs k is =
      let tasks : TasksIn core f.method (t ∷ ts) = subst (λ (us : List Task). TasksIn core f.method us) is k.2 in
      task_in core ents formed f.method (around c i) (record { method = f.method; slots = f.slots; stack = f.stack; tasks = ts }) (refl, tasks.1) t tasks.0
      (subst (λ (us : List Task). CallNoted core ents c.objects us f.stack) is (noted_at c i held f runs))

  module _ (c : Configuration) (all : ActorsIn core ents c.actors) (held : HeldAt core ents c) (i : ℕ) where
    task_step : (a : Actor) (f : Frame) (fs : List Frame) (ts : List Task) → running c i ≡ Some f → FrameIn core ents f → FramesIn core ents fs → MailIn core ents a.mailbox → f.tasks ≡ ts → StepIn core ents (run_task core c i a f fs ts)
    task_step a f fs [] runs k below mail is = all
    task_step a f fs (t ∷ ts) runs k below mail is = made_in c i a fs f.method all mail below k.0 k.1 _ (runs_in c i f t ts held runs k is)

    frames_step : (a : Actor) (fs : List Frame) → slice_get c.actors i ≡ Some a → a.frames ≡ fs → FramesIn core ents fs → MailIn core ents a.mailbox → StepIn core ents (run_frames core c i a fs)
    frames_step a [] at is k mail = take_in c all i a.mailbox mail
    frames_step a (f ∷ fs) at is k mail = task_step a f fs f.tasks (rw (at, is) refl) k.0 k.1 mail refl

    actor_step : (o : Option Actor) → slice_get c.actors i ≡ o → StepIn core ents (step_of core c i o)
    actor_step None at = all
    actor_step (Some a) at = let here = all i a at in frames_step a a.frames at refl here.0 here.1

  -- ---- runs

  -- What is reached after a step that moved is reached from before it.
  held_next : (c : Configuration) (i : ℕ) (to : Configuration) → step core c i ≡ (Moved, to) → HeldFrom core ents c → HeldFrom core ents to
  held_next c i to e held list = subst (λ (s : Outcome × Configuration). HeldAt core ents (followed (λ (n : Configuration). run_from core n list) c c s)) e (held (i ∷ list))

  followed_in : (c : Configuration) (rest : Configuration → Configuration) (r : Outcome × Configuration) → ActorsIn core ents c.actors → ActorsIn core ents (rest c).actors → (r.0 ≡ Moved → ActorsIn core ents (rest r.1).actors) → ActorsIn core ents (followed rest c c r).actors
  followed_in c rest (Moved, to) all same more = more refl
  followed_in c rest (Skipped, to) all same more = same
  followed_in c rest (Lacks l, to) all same more = all
  followed_in c rest (TooLong, to) all same more = all

  run_in : (list : List ℕ) (c : Configuration) → ActorsIn core ents c.actors → HeldFrom core ents c → ActorsIn core ents (run_from core c list).actors
  run_in [] c all held = all
  run_in (i ∷ is) c all held =
      let r = step core c i in
      let ok : StepIn core ents r = actor_step c all (held []) i (slice_get c.actors i) refl in
      followed_in c (λ (n : Configuration). run_from core n is) r all (run_in is c all held) (λ e. run_in is r.1 ok (held_next c i r.1 (ap (λ (o : Outcome). (o, r.1)) e) held))

  -- ---- the start

  start_in : (o : Option (ℕ × ℕ)) → main_create core ≡ o → ActorsIn core ents (start_of core o).actors
  start_in None e i a at = absurd (none-some a at)
  start_in (Some p) e zero a at = subst (λ (z : Actor). ActorIn core ents z) (same_Some _ a at) (tt, tt)
  start_in (Some p) e (suc zero) a at = subst (λ (z : Actor). ActorIn core ents z) (same_Some _ a at) (tt, (inl (p.0, e), tt))
  start_in (Some p) e (suc (suc i)) a at = absurd (none-some a at)

  -- ---- what is known

  each_frame : (fs : List Frame) → FramesIn core ents fs → Each (λ k f. Reach core ents f.method) fs
  each_frame [] k n f e = absurd (none-some f e)
  each_frame (g ∷ fs) k zero f e = subst (λ (h : Frame). Reach core ents h.method) (same_Some g f e) k.0.0
  each_frame (g ∷ fs) k (suc n) f e = each_frame fs k.1 n f e

  each_message : (ms : List Message) → MailIn core ents ms → Each (λ k m. MayWait core ents m.method) ms
  each_message [] k n m e = absurd (none-some m e)
  each_message (g ∷ ms) k zero m e = subst (λ (h : Message). MayWait core ents h.method) (same_Some g m e) k.0
  each_message (g ∷ ms) k (suc n) m e = each_message ms k.1 n m e

  first_frame_in : (fs : List Frame) (f : Frame) → slice_get fs 0 ≡ Some f → FramesIn core ents fs → FrameIn core ents f
  first_frame_in [] f e k = absurd (none-some f e)
  first_frame_in (g ∷ fs) f e k = subst (FrameIn core ents) (same_Some g f e) k.0

  message_posted : (m : ℕ) (move : Move) (s : Message) → MoveIn core ents m move → message_of move ≡ Some s → Posts core ents m s.method
  message_posted m (Spawns o n f) s k e = subst (λ (z : Message). Posts core ents m z.method) (same_Some n s e) k.0
  message_posted m (Sending j n f) s k e = subst (λ (z : Message). Posts core ents m z.method) (same_Some n s e) k.0
  message_posted m move s k e = absurd (none-some s e)

  sends_at : (c : Configuration) (i : ℕ) (f : Frame) (x : Method) (move : Move) (s : Message) (ts : List Task) → HeldAt core ents c → running c i ≡ Some f → FrameIn core ents f → slice_get core.methods f.method ≡ Some x → f.tasks ≡ ts
      → next_move core (around c i) f ts ≡ Some move → message_of move ≡ Some s → Sends core ents x.entity s.method
  sends_at c i f x move s [] held runs k at is e sent = absurd (none-some move e)
  sends_at c i f x move s (t ∷ ts) held runs k at is e sent =
      record {
        from = f.method;
        reached = k.0;
        method = x;
        is_method = at;
        entity = refl;
        posts = message_posted f.method move s (subst (MoveIn core ents f.method) (same_Some _ move e) (runs_in c i f t ts held runs k is)) sent;
      }

  covered : (c : Configuration) → ActorsIn core ents c.actors → HeldAt core ents c → ReachCovers core ents c
  covered c all held = record {
    frames = λ i a at. each_frame a.frames (all i a at).0;
    waits = λ i a at. each_message a.mailbox (all i a at).1;
    messages = λ i a at k m e. waits_reached m.method (each_message a.mailbox (all i a at).1 k m e);
    sends = λ i x m s.
        let a = bind_some (slice_get c.actors i) (λ (b : Actor). slice_get b.frames 0) s.frame s.runs in
        sends_at c i s.frame x s.move m s.frame.tasks held s.runs (first_frame_in a.0.frames s.frame a.2 (all i a.0 a.1).0) s.is_method refl s.is_move s.sends;
  }

pub held_covers : HeldCovers
held_covers core ents formed held list = covered core ents formed (after core list) (run_in core ents formed list (start core) (start_in core ents formed (main_create core) refl) held) (held list)
