-- From what each task preserves to every schedule.
use Rattle.std.specs.Prelude.{◌≡◌, ◌⊎◌, ℕ, ◌<◌, List, [], ◌∷◌, length, Option, Some, None, slice_get, refl}
use Rattle.std.proofs.Common.{inl, inr, sym, subst, ◌∙◌}
use Rattle.pc_base.proofs.Gets.{get_below}
use Rattle.pc_core.specs.{declared.declarations.MethodKind.MethodKind, CoreData.CoreData}
use Rattle.pc_core.specs.declared.declarations.MethodKind.TheVariants as method
use Rattle.pc_ann.specs.declared.annotation.Ann.{Ann}
use Rattle.pc_semantics.specs.{declared.actors.Actor.Actor, declared.frames.Frame.Frame, declared.frames.Task.Task, declared.mailbox.Message.Message, declared.outcome.Outcome.Outcome, declared.outcome.Outcome.TheVariants.{Moved, Skipped, Lacks, TooLong}, Configurations.{Configuration, own_address, Around}, Step.{task_move, around, take, take_first, run_frames, step, followed, run_from}, Parts.{run_task, step_of}}
use Rattle.pc_heap.specs.declared.value.Value.TheVariants.{At}
use Rattle.pc_types.proofs.{Types.Finished, Tasks.TasksOk, Frames.{FrameOk, WaitOk, FramesOk}, Typed.{MessageOk, MailOk, FirstMailOk, ActorOk, WellTyped}, Moves.{MoveOk, Runs}, Needs.Needs, Made.{StepOk, made_ok}}

-- ---- what is to be shown of each task, and of the first message

-- The task, as the first of a frame that runs, keeps what it has to.
abbrev pub Keeps : Task → Type 0
Keeps t =
    (core : CoreData) (ann : Ann) → Needs core ann → (around : Around) (f : Frame) (fs : List Frame) (r : Runs core ann around f fs)
    → TasksOk core ann f.method (t ∷ f.tasks) r.held.live r.held.set r.held.wants → MoveOk core ann around fs (task_move core around f t)

-- An idle actor takes its first message: its constructor's, or a behaviour's if its object has all its fields.
abbrev pub Takes : Type 0
Takes =
    (core : CoreData) (ann : Ann) → Needs core ann → (c : Configuration) → WellTyped core ann c → (i : ℕ) → i < length c.actors
    → (m : Message) (ms : List Message) (k : MethodKind) → MessageOk core c.objects i k m → MailOk core c.objects i ms
    → (k ≡ method.Spawn) ⊎ ((k ≡ method.Be) × Finished c.objects (At (own_address i)))
    → StepOk core ann (take core c i (record { mailbox = ms; frames = [] }) m)

-- ---- steps

pub some_frames : (f : Frame) (fs : List Frame) → f ∷ fs ≡ [] → ⊥
some_frames f fs e = cc

module _ (keeps : (t : Task) → Keeps t) (takes : Takes) (core : CoreData) (ann : Ann) (needs : Needs core ann) where
  module _ (c : Configuration) (w : WellTyped core ann c) (i : ℕ) (here : i < length c.actors) where
    task_step : (a : Actor) (f : Frame) (fs : List Frame) (ts : List Task) → f.tasks ≡ ts → MailOk core c.objects i a.mailbox → (k : FrameOk core ann c.objects [] f) → WaitOk core ann c.objects i f.method k.0.this fs → StepOk core ann (run_task core c i a f fs ts)
    task_step a f fs [] is mail k wait = absurd (subst (λ (ts : List Task). TasksOk core ann f.method ts k.0.live k.0.set k.0.wants) is k.1)
    task_step a f fs (t ∷ ts) is mail k wait =
        made_ok core ann needs.formed c i a fs _ w here mail
        (keeps t core ann needs (around c i) (record { method = f.method; slots = f.slots; stack = f.stack; tasks = ts }) fs
        (record { objects = w.objects; here = here; held = k.0; wait = wait })
        (subst (λ (ts : List Task). TasksOk core ann f.method ts k.0.live k.0.set k.0.wants) is k.1))

    born_step : (ms : List Message) → FirstMailOk core c.objects i ms → StepOk core ann (take_first core c i ms)
    born_step [] k = absurd k
    born_step (m ∷ ms) k = takes core ann needs c w i here m ms method.Spawn k.0 k.1 (inl refl)

    mail_step : (ms : List Message) → Finished c.objects (At (own_address i)) → MailOk core c.objects i ms → StepOk core ann (take_first core c i ms)
    mail_step [] d k = (w, λ l e. cc)
    mail_step (m ∷ ms) d k = takes core ann needs c w i here m ms method.Be k.0 k.1 (inr (refl, d))

    frames_step : (a : Actor) (fs : List Frame) → a.frames ≡ fs → ActorOk core ann c.objects i a → StepOk core ann (run_frames core c i a fs)
    frames_step a [] is (inl k) = born_step a.mailbox k.1
    frames_step a [] is (inr k) = mail_step a.mailbox (subst (FramesOk core ann c.objects i) is k.0) k.1
    frames_step a (f ∷ fs) is (inl k) = absurd (some_frames f fs (sym is ∙ k.0))
    frames_step a (f ∷ fs) is (inr k) = let ok : FramesOk core ann c.objects i (f ∷ fs) = subst (FramesOk core ann c.objects i) is k.0 in task_step a f fs f.tasks refl k.1 ok.0 ok.1

  actor_step : (c : Configuration) → WellTyped core ann c → (i : ℕ) (o : Option Actor) → slice_get c.actors i ≡ o → StepOk core ann (step_of core c i o)
  actor_step c w i None e = (w, λ l bad. cc)
  actor_step c w i (Some a) e = frames_step c w i (get_below c.actors i a e) a a.frames refl (w.actors i a e)

  pub step_ok : (c : Configuration) → WellTyped core ann c → (i : ℕ) → StepOk core ann (step core c i)
  step_ok c w i = actor_step c w i (slice_get c.actors i) refl

  -- ---- runs

  followed_ok : (c : Configuration) → WellTyped core ann c → (rest : Configuration → Configuration) (r : Outcome × Configuration) → StepOk core ann r → ((next : Configuration) → WellTyped core ann next → WellTyped core ann (rest next)) → WellTyped core ann (followed rest c c r)
  followed_ok c w rest (Moved, next) s more = more next s.0
  followed_ok c w rest (Skipped, next) s more = more c w
  followed_ok c w rest (Lacks l, next) s more = w
  followed_ok c w rest (TooLong, next) s more = w

  pub run_ok : (list : List ℕ) (c : Configuration) → WellTyped core ann c → WellTyped core ann (run_from core c list)
  run_ok [] c w = w
  run_ok (i ∷ is) c w = followed_ok c w (λ next. run_from core next is) (step core c i) (step_ok c w i) (λ next n. run_ok is next n)
