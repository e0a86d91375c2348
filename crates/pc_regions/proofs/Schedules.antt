-- From what each task preserves to every schedule: from a configuration that is well typed and has regions, every step
-- leads to another one.
use Rattle.std.specs.Prelude.{◌≡◌, ℕ, true, List, [], ◌∷◌, Option, Some, None, slice_get, refl}
use Rattle.std.proofs.Common.{inl, inr, sym, subst, ◌∙◌}
use Rattle.pc_base.proofs.Gets.{get_below}
use Rattle.pc_core.specs.CoreData.{CoreData}
use Rattle.pc_ann.specs.declared.annotation.Ann.{Ann}
use Rattle.pc_semantics.specs.{declared.actors.Actor.Actor, declared.frames.Frame.Frame, declared.frames.Task.Task, declared.mailbox.Message.Message, declared.outcome.Outcome.Outcome, declared.outcome.Outcome.TheVariants.{Moved, Skipped, Lacks, TooLong}, Configurations.{Configuration, Around}, Step.{task_move, around, take, take_first, run_frames, step, followed, run_from}, Parts.{run_task, step_of}}
use Rattle.pc_types.proofs.{Tasks.TasksOk, Frames.FramesOk, Typed.{WellTyped, ActorOk}, Moves.Runs, Needs.Needs, Steps.{step_ok, some_frames}, AllTasks.keeps, Takes.takes}
use Rattle.pc_regions.proofs.{World.World, StackForms.{TasksRise, uses_top}, Fitting.{TopAlias, FramesFit, InRegions, HasRegions, LeadsOn}, MoveFits.{RegionMoveOk, Situated}, MoveMade.made_regions}

-- ---- what is to be shown of each task, and of the first message

-- The task, as the first of a typed frame that runs in regions, keeps what it has to.
abbrev pub KeepsRegions : Task → Type 0
KeepsRegions t =
    (core : CoreData) (ann : Ann) → Needs core ann → (around : Around) (f : Frame) (fs : List Frame) (r : Runs core ann around f fs)
    → TasksOk core ann f.method (t ∷ f.tasks) r.held.live r.held.set r.held.wants → (w : World) → Situated core ann w around f (t ∷ f.tasks) fs
    → RegionMoveOk core ann w around fs (task_move core around f t)

-- An idle actor takes its first message.
abbrev pub TakesRegions : Type 0
TakesRegions =
    (core : CoreData) (ann : Ann) → Needs core ann → (c : Configuration) → WellTyped core ann c → (w : World) → InRegions core ann w c
    → (i : ℕ) (a : Actor) → slice_get c.actors i ≡ Some a → a.frames ≡ [] → (m : Message) (ms : List Message) → a.mailbox ≡ m ∷ ms
    → LeadsOn core ann w (take core c i (record { mailbox = ms; frames = [] }) m).1

-- ---- steps

module _ (keep : (t : Task) → KeepsRegions t) (takes_first : TakesRegions) (core : CoreData) (ann : Ann) (needs : Needs core ann) where
  module _ (c : Configuration) (typed : WellTyped core ann c) (w : World) (g : InRegions core ann w c) (i : ℕ) (a : Actor) (is : slice_get c.actors i ≡ Some a) where
    task_step : (f : Frame) (fs : List Frame) (ts : List Task) → f.tasks ≡ ts → FramesOk core ann c.objects i (f ∷ fs) → FramesFit core ann w i (f ∷ fs) → LeadsOn core ann w (run_task core c i a f fs ts).1
    task_step f fs [] at ok k = (w, g, λ b f. f)
    task_step f fs (t ∷ ts) at ok k =
        let here = get_below c.actors i a is in
        made_regions core ann c i a is w g fs _
        (keep t core ann needs (around c i) (record { method = f.method; slots = f.slots; stack = f.stack; tasks = ts }) fs
        (record { objects = typed.objects; here = here; held = ok.0.0; wait = ok.1 })
        (subst (λ (us : List Task). TasksOk core ann f.method us ok.0.0.live ok.0.0.set ok.0.0.wants) at ok.0.1) w
        (record {
          world = g.world;
          fields = g.fields;
          here = here;
          active = k.0;
          tasks = subst (λ (us : List Task). TasksRise core ann f.method us k.0.depth k.0.holds.live k.0.holds.entries) at k.1;
          fresh = subst (λ (us : List Task). uses_top us ≡ true → TopAlias w i k.0.holds.base k.0.holds.entries f.stack) at k.2;
          wait = k.3;
        }))

    first_step : (ms : List Message) → a.mailbox ≡ ms → a.frames ≡ [] → LeadsOn core ann w (take_first core c i ms).1
    first_step [] at none = (w, g, λ b f. f)
    first_step (m ∷ ms) at none = takes_first core ann needs c typed w g i a is none m ms at

    frames_step : (fs : List Frame) → a.frames ≡ fs → ActorOk core ann c.objects i a → FramesFit core ann w i a.frames → LeadsOn core ann w (run_frames core c i a fs).1
    frames_step [] at ok k = first_step a.mailbox refl at
    frames_step (f ∷ fs) at (inl ok) k = absurd (some_frames f fs (sym at ∙ ok.0))
    frames_step (f ∷ fs) at (inr ok) k = task_step f fs f.tasks refl (subst (FramesOk core ann c.objects i) at ok.0) (subst (FramesFit core ann w i) at k)

  actor_step : (c : Configuration) → WellTyped core ann c → (w : World) → InRegions core ann w c → (i : ℕ) (o : Option Actor) → slice_get c.actors i ≡ o → LeadsOn core ann w (step_of core c i o).1
  actor_step c typed w g i None e = (w, g, λ b f. f)
  actor_step c typed w g i (Some a) e = frames_step c typed w g i a e a.frames refl (typed.actors i a e) (g.actors i a e).1

  pub region_step : (c : Configuration) → WellTyped core ann c → (w : World) → InRegions core ann w c → (i : ℕ) → LeadsOn core ann w (step core c i).1
  region_step c typed w g i = actor_step c typed w g i (slice_get c.actors i) refl

  -- ---- runs

  followed_in : (c : Configuration) → WellTyped core ann c → (w : World) → InRegions core ann w c → (rest : Configuration → Configuration) (r : Outcome × Configuration) → WellTyped core ann r.1 → LeadsOn core ann w r.1
      → ((next : Configuration) → WellTyped core ann next → (v : World) → InRegions core ann v next → LeadsOn core ann v (rest next)) → LeadsOn core ann w (followed rest c c r)
  followed_in c t w g rest (Moved, next) s k more = let m = more next s k.0 k.1 in (m.0, m.1, λ b f. m.2 b (k.2 b f))
  followed_in c t w g rest (Skipped, next) s k more = more c t w g
  followed_in c t w g rest (Lacks l, next) s k more = (w, g, λ b f. f)
  followed_in c t w g rest (TooLong, next) s k more = (w, g, λ b f. f)

  -- Over every list.
  pub run_leads_on : (list : List ℕ) (c : Configuration) → WellTyped core ann c → (w : World) → InRegions core ann w c → LeadsOn core ann w (run_from core c list)
  run_leads_on [] c t w g = (w, g, λ b f. f)
  run_leads_on (i ∷ is) c t w g =
      followed_in c t w g (λ next. run_from core next is) (step core c i) (step_ok keeps takes core ann needs c t i).0 (region_step c t w g i) (λ next u v h. run_leads_on is next u v h)

  pub run_in_regions : (list : List ℕ) (c : Configuration) → WellTyped core ann c → HasRegions core ann c → HasRegions core ann (run_from core c list)
  run_in_regions list c t h = let k = run_leads_on list c t h.0 h.1 in (k.0, k.1)
