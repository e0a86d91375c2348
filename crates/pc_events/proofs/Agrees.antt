-- A step ends as was said in advance of its actor.
use Rattle.std.specs.Prelude.{◌≡◌, ◌<◌, ℕ, List, [], ◌∷◌, length, Option, Some, None, slice_get, refl}
use Rattle.std.proofs.Common.{ap, subst, sym, length-set}
use Rattle.pc_core.specs.CoreData.{CoreData}
use Rattle.pc_base.proofs.Gets.{get_within}
use Rattle.pc_semantics.specs.{declared.actors.Actor.Actor, declared.frames.Frame.Frame, declared.frames.Task.Task, declared.mailbox.Message.Message, declared.outcome.Outcome.Outcome, declared.outcome.Outcome.TheVariants.{Moved, Skipped, Lacks, TooLong}, Configurations.{Configuration, with_frames, Move, Stuck, Overflows, Goes, Writes, Makes, Spawns, Enters, Sends, Leaves}, Step.{around, made, run_frames, take_first}, Parts.{delivered, run_task, step_of, of_tasks, of_actor}, Ahead.{by_move, by_outcome, of_frames}}
use Rattle.pc_events.specs.AheadLaws.{Agrees, AheadAgrees}
use Rattle.pc_events.proofs.{Right.right, Plans.{SendsTo, right_sends}}

there : (b c : Configuration) (j : ℕ) (m : Message) → j < length c.actors → (delivered b c j m (slice_get c.actors j)).0 ≡ Moved
there b c j m l = let a = get_within c.actors j l in ap (λ (o : Option Actor). (delivered b c j m o).0) a.1

move_agrees : (c : Configuration) (i : ℕ) (a : Actor) (fs : List Frame) (m : Move) → SendsTo (length c.actors) m → Agrees (by_move m) (made c i a fs m).0
move_agrees c i a fs (Stuck l) s = (l, refl)
move_agrees c i a fs Overflows s = refl
move_agrees c i a fs (Goes f) s = refl
move_agrees c i a fs (Writes q k v f) s = refl
move_agrees c i a fs (Makes q o g f) s = refl
move_agrees c i a fs (Spawns o m f) s = refl
move_agrees c i a fs (Enters g f) s = refl
move_agrees c i a fs (Sends j m f) s =
    there c (with_frames c i a (f ∷ fs)) j m (subst (λ (n : ℕ). j < n) (sym (length-set c.actors i (record { mailbox = a.mailbox; frames = f ∷ fs }))) s)
move_agrees c i a fs (Leaves v) s = refl

outcome_agrees : (o : Outcome) → Agrees (by_outcome o) o
outcome_agrees Moved = refl
outcome_agrees Skipped = refl
outcome_agrees (Lacks l) = (l, refl)
outcome_agrees TooLong = refl

tasks_agree : (core : CoreData) (c : Configuration) (i : ℕ) (a : Actor) (f : Frame) (fs : List Frame) (ts : List Task) → Agrees (of_tasks core (around c i) f ts) (run_task core c i a f fs ts).0
tasks_agree core c i a f fs [] = (_, refl)
tasks_agree core c i a f fs (t ∷ ts) =
    let g : Frame = record { method = f.method; slots = f.slots; stack = f.stack; tasks = ts } in
    move_agrees c i a fs _ (right_sends core c.objects i (length c.actors) g.stack t _ (right core c.objects i (length c.actors) g t))

frames_agree : (core : CoreData) (c : Configuration) (i : ℕ) (a : Actor) (fs : List Frame) → Agrees (of_frames core c i a fs) (run_frames core c i a fs).0
frames_agree core c i a [] = outcome_agrees (take_first core c i a.mailbox).0
frames_agree core c i a (f ∷ fs) = tasks_agree core c i a f fs f.tasks

actor_agrees : (core : CoreData) (c : Configuration) (i : ℕ) (o : Option Actor) → Agrees (of_actor core c i o) (step_of core c i o).0
actor_agrees core c i None = refl
actor_agrees core c i (Some a) = frames_agree core c i a a.frames

pub ahead_agrees : AheadAgrees
ahead_agrees core c i = actor_agrees core c i (slice_get c.actors i)
