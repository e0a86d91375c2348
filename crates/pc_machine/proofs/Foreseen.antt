-- What an actor's next step is, by what is on top of its frames, its tasks and its mailbox.
use Rattle.std.proofs.Common.{◌≡◌, ℕ, zero, suc, ◌<◌, List, [], ◌∷◌, drop, Some, None, refl, sym, ap, ◌∙◌, arith}
use Rattle.std.specs.Prelude.{slice_get}
use Rattle.pc_core.specs.CoreData.{CoreData}
use Rattle.pc_semantics.specs.{declared.actors.Actor.Actor, declared.frames.Frame.Frame, declared.frames.Task.Task, declared.mailbox.Message.Message, Configurations.{Configuration, Around, with_tasks}, Step.{task_move, around, printed_text, take_first}, Parts.{begin_method, of_tasks, of_actor}, Ahead.{by_move, by_outcome, of_frames, ahead_of}}
use Rattle.pc_semantics.specs.declared.ahead.Ahead.TheVariants as ahead
use Rattle.pc_tasks.specs.Inside.{first_move}
use Rattle.pc_machine.proofs.Stepped.{head_rest, none_first}

-- ---- messages

-- the actor without its oldest message
abbrev pub emptied : List Message → Actor
emptied ms = record { mailbox = drop 1 ms; frames = [] }

module _ (core : CoreData) (c : Configuration) (ms : List Message) where
  pub none_waits : (i : ℕ) → slice_get ms 0 ≡ None → ahead.Skipped ≡ by_outcome (take_first core c i ms).0
  none_waits i e = ap (λ ms. by_outcome (take_first core c i ms).0) (sym (none_first ms e))

  pub oldest_printed : (m : Message) → slice_get ms 0 ≡ Some m → by_outcome (printed_text c (emptied ms) m.arguments).0 ≡ by_outcome (take_first core c 0 ms).0
  oldest_printed m e = ap (λ ms. by_outcome (take_first core c 0 ms).0) (sym (head_rest ms m e))

  pub oldest_begun : (i : ℕ) (m : Message) → 0 < i → slice_get ms 0 ≡ Some m → by_outcome (begin_method c i (emptied ms) m (slice_get core.methods m.method)).0 ≡ by_outcome (take_first core c i ms).0
  oldest_begun zero m l e = absurd (omega (arith, l))
  oldest_begun (suc k) m l e = ap (λ ms. by_outcome (take_first core c (suc k) ms).0) (sym (head_rest ms m e))

-- ---- tasks

first_foreseen : (core : CoreData) (around : Around) (f : Frame) (ts : List Task) → f.tasks ≡ ts → by_move (first_move core around f (slice_get ts 0)) ≡ of_tasks core around f ts
first_foreseen core around f [] e = refl
first_foreseen core around f (t ∷ ts) e = ap (λ us. by_move (task_move core around (with_tasks f (drop 1 us)) t)) e

-- ---- actors

module _ (core : CoreData) (c : Configuration) (i : ℕ) where
  pub none_foreseen : slice_get c.actors i ≡ None → ahead.Skipped ≡ ahead_of core c i
  none_foreseen e = ap (of_actor core c i) (sym e)

  pub task_foreseen : (a : Actor) (f : Frame) → slice_get c.actors i ≡ Some a → slice_get a.frames 0 ≡ Some f → by_move (first_move core (around c i) f (slice_get f.tasks 0)) ≡ ahead_of core c i
  task_foreseen a f here top = first_foreseen core (around c i) f f.tasks refl ∙ ap (of_frames core c i a) (sym (head_rest a.frames f top)) ∙ ap (of_actor core c i) (sym here)

  pub idle_foreseen : (a : Actor) → slice_get c.actors i ≡ Some a → slice_get a.frames 0 ≡ None → by_outcome (take_first core c i a.mailbox).0 ≡ ahead_of core c i
  idle_foreseen a here top = ap (of_frames core c i a) (sym (none_first a.frames top)) ∙ ap (of_actor core c i) (sym here)
