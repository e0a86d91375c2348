-- A run, place by place.
use Rattle.std.specs.Prelude.{◌≡◌, ◌≢◌, ◌⊎◌, ◌<◌, ℕ, zero, suc, ◌+◌, Bool, true, false, cond, ◌&&◌, if◌then◌else◌, nat_eq, List, [], ◌∷◌, ◌++◌, take, length, Option, Some, None, slice_get, refl}
use Rattle.std.proofs.{Common.{inl, inr, ap, sym, ◌∙◌, arith}, lemmas.Option.{same_Some, none-some}, lemmas.Bool.{eq-eqb, ne_eqb}}
use Rattle.pc_core.specs.CoreData.{CoreData}
use Rattle.pc_semantics.specs.{declared.actors.Actor.Actor, declared.frames.Frame.Frame, declared.frames.Task.Task, declared.outcome.Outcome.Outcome, declared.outcome.Outcome.TheVariants.{Moved, Skipped, Lacks, TooLong}, Configurations.{Configuration, Move, Stuck, Overflows, Goes, Writes, Makes, Spawns, Enters, Sends, Leaves}, Step.{around, step, run_frames, take_first, followed, run_from, outcomes_from}, Parts.{step_of, run_task, of_tasks, of_actor}, Ahead.{by_move, by_outcome, of_frames, ahead_of}}
use Rattle.pc_semantics.specs.declared.ahead.Ahead.TheVariants as ahead
use Rattle.pc_events.specs.Before.{is_take, takes_one, takes_from}
use Rattle.pc_events.proofs.{Changes.{Change, plan}, Plans.{Taking, view, step_is}, Told.ahead_is, SimEvent.{message_takes, task_takes}}

-- ---- a turn

-- The turn at place k, in the configuration `here`, ends like this; `next` comes after it. This many messages had been
-- taken before it and after it.
pub record Turn (core : CoreData) (list : List ℕ) (k : ℕ) (o : Outcome) (here after : Configuration) (before behind : ℕ → ℕ) : Type 0 where
  pub actor : ℕ
  pub is : slice_get list k ≡ Some actor
  pub ends : (step core here actor).0 ≡ o
  pub next : after ≡ followed (λ n. n) here here (step core here actor)
  pub counts : (a : ℕ) → behind a ≡ before a + takes_one core here actor a

none_followed : (c : Configuration) (r : Outcome × Configuration) → ◌≡◌ {A = ℕ} (followed (λ n. 0) 0 c r) 0
none_followed c (Moved, n) = refl
none_followed c (Skipped, n) = refl
none_followed c (Lacks l, n) = refl
none_followed c (TooLong, n) = refl

only_one : (n k : ℕ) → k ≡ 0 → n + k ≡ 0 + n
only_one n k e = omega (arith, e)

one_further : (n a b k : ℕ) → b ≡ a + k → n + b ≡ n + a + k
one_further n a b k e = omega (arith, e)

pub turn : (core : CoreData) (list : List ℕ) (c : Configuration) (k : ℕ) (o : Outcome) → slice_get (outcomes_from core c list) k ≡ Some o
    → Turn core list k o (run_from core c (take k list)) (run_from core c (take (suc k) list)) (λ a. takes_from core c a (take k list)) (λ a. takes_from core c a (take (suc k) list))
turn core [] c k o e = absurd (none-some o e)
turn core (i ∷ is) c zero o e = record {
  actor = i;
  is = refl;
  ends = same_Some (step core c i).0 o e;
  next = refl;
  counts = λ a. only_one (takes_one core c i a) _ (none_followed c (step core c i));
}
turn core (i ∷ is) c (suc k) o e = go (λ d. turn core is d k o) (step core c i) e
  where
    go : ((d : Configuration) → slice_get (outcomes_from core d is) k ≡ Some o → Turn core is k o (run_from core d (take k is)) (run_from core d (take (suc k) is)) (λ a. takes_from core d a (take k is)) (λ a. takes_from core d a (take (suc k) is))) → (r : Outcome × Configuration)
        → slice_get (followed (λ n. outcomes_from core n is) [] c r) k ≡ Some o
        → Turn core (i ∷ is) (suc k) o (followed (λ n. run_from core n (take k is)) c c r) (followed (λ n. run_from core n (take (suc k) is)) c c r) (λ a. takes_one core c i a + followed (λ n. takes_from core n a (take k is)) 0 c r) (λ a. takes_one core c i a + followed (λ n. takes_from core n a (take (suc k) is)) 0 c r)
    go more (Moved, n) q = let t = more n q in record { actor = t.actor; is = t.is; ends = t.ends; next = t.next; counts = λ a. one_further (takes_one core c i a) _ _ _ (t.counts a) }
    go more (Skipped, n) q = let t = more c q in record { actor = t.actor; is = t.is; ends = t.ends; next = t.next; counts = λ a. one_further (takes_one core c i a) _ _ _ (t.counts a) }
    go more (Lacks l, n) q = absurd (none-some o q)
    go more (TooLong, n) q = absurd (none-some o q)

-- Each turn before one that is there moved or was skipped.
pub earlier : (core : CoreData) (list : List ℕ) (c : Configuration) (k q : ℕ) (o : Outcome) → slice_get (outcomes_from core c list) q ≡ Some o → k < q → (slice_get (outcomes_from core c list) k ≡ Some Moved) ⊎ (slice_get (outcomes_from core c list) k ≡ Some Skipped)
earlier core [] c k q o e b = absurd (none-some o e)
earlier core (i ∷ is) c k zero o e b = absurd (omega (arith, b))
earlier core (i ∷ is) c zero (suc q) o e b = go (step core c i) e
  where
    go : (r : Outcome × Configuration) → slice_get (followed (λ n. outcomes_from core n is) [] c r) q ≡ Some o → (◌≡◌ {A = Option Outcome} (Some r.0) (Some Moved)) ⊎ (◌≡◌ {A = Option Outcome} (Some r.0) (Some Skipped))
    go (Moved, n) f = inl refl
    go (Skipped, n) f = inr refl
    go (Lacks l, n) f = absurd (none-some o f)
    go (TooLong, n) f = absurd (none-some o f)
earlier core (i ∷ is) c (suc k) (suc q) o e b = let less : k < q = omega (arith, b) in go (λ d f. earlier core is d k q o f less) (step core c i) e
  where
    go : ((d : Configuration) → slice_get (outcomes_from core d is) q ≡ Some o → (slice_get (outcomes_from core d is) k ≡ Some Moved) ⊎ (slice_get (outcomes_from core d is) k ≡ Some Skipped)) → (r : Outcome × Configuration) → slice_get (followed (λ n. outcomes_from core n is) [] c r) q ≡ Some o
        → (slice_get (followed (λ n. outcomes_from core n is) [] c r) k ≡ Some Moved) ⊎ (slice_get (followed (λ n. outcomes_from core n is) [] c r) k ≡ Some Skipped)
    go more (Moved, n) f = more n f
    go more (Skipped, n) f = more c f
    go more (Lacks l, n) f = absurd (none-some o f)
    go more (TooLong, n) f = absurd (none-some o f)

-- The run goes on after the places before a turn.
pub goes_on : (core : CoreData) (list : List ℕ) (c : Configuration) (k : ℕ) (o : Outcome) → slice_get (outcomes_from core c list) k ≡ Some o → (rest : List ℕ) → run_from core c (take k list ++ rest) ≡ run_from core (run_from core c (take k list)) rest
goes_on core [] c k o e rest = absurd (none-some o e)
goes_on core (i ∷ is) c zero o e rest = refl
goes_on core (i ∷ is) c (suc k) o e rest = go (λ d f. goes_on core is d k o f rest) (step core c i) e
  where
    go : ((d : Configuration) → slice_get (outcomes_from core d is) k ≡ Some o → run_from core d (take k is ++ rest) ≡ run_from core (run_from core d (take k is)) rest) → (r : Outcome × Configuration) → slice_get (followed (λ n. outcomes_from core n is) [] c r) k ≡ Some o
        → followed (λ n. run_from core n (take k is ++ rest)) c c r ≡ run_from core (followed (λ n. run_from core n (take k is)) c c r) rest
    go more (Moved, n) f = more n f
    go more (Skipped, n) f = more c f
    go more (Lacks l, n) f = absurd (none-some o f)
    go more (TooLong, n) f = absurd (none-some o f)

-- ---- what a turn takes

move_takes : (m : Move) → is_take (by_move m) ≡ false
move_takes (Stuck l) = refl
move_takes Overflows = refl
move_takes (Goes f) = refl
move_takes (Writes a k v f) = refl
move_takes (Makes a o g f) = refl
move_takes (Spawns o m f) = refl
move_takes (Enters g f) = refl
move_takes (Sends j m f) = refl
move_takes (Leaves v) = refl

false_true : false ≡ true → ⊥
false_true e = cc

outcome_takes : (o : Outcome) → is_take (by_outcome o) ≡ true → o ≡ Moved
outcome_takes Moved e = refl
outcome_takes Skipped e = absurd (false_true e)
outcome_takes (Lacks l) e = absurd (false_true e)
outcome_takes TooLong e = absurd (false_true e)

tasks_take : (core : CoreData) (c : Configuration) (i : ℕ) (a : Actor) (f : Frame) (fs : List Frame) (ts : List Task) → is_take (of_tasks core (around c i) f ts) ≡ true → (run_task core c i a f fs ts).0 ≡ Moved
tasks_take core c i a f fs [] e = absurd (false_true e)
tasks_take core c i a f fs (t ∷ ts) e = absurd (false_true (sym (move_takes _) ∙ e))

frames_take : (core : CoreData) (c : Configuration) (i : ℕ) (a : Actor) (fs : List Frame) → is_take (of_frames core c i a fs) ≡ true → (run_frames core c i a fs).0 ≡ Moved
frames_take core c i a [] e = outcome_takes (take_first core c i a.mailbox).0 e
frames_take core c i a (f ∷ fs) e = tasks_take core c i a f fs f.tasks e

actor_takes : (core : CoreData) (c : Configuration) (i : ℕ) (o : Option Actor) → is_take (of_actor core c i o) ≡ true → (step_of core c i o).0 ≡ Moved
actor_takes core c i None e = absurd (false_true e)
actor_takes core c i (Some a) e = frames_take core c i a a.frames e

skipped_moved : Skipped ≡ Moved → ⊥
skipped_moved e = cc

takes_moved : (core : CoreData) (c : Configuration) (i : ℕ) (b : Bool) → is_take (ahead_of core c i) ≡ b → (step core c i).0 ≡ Skipped → b ≡ false
takes_moved core c i true e s = absurd (skipped_moved (sym s ∙ actor_takes core c i (slice_get c.actors i) e))
takes_moved core c i false e s = refl

abbrev one_or_none : Bool → ℕ
one_or_none b = if b then 1 else 0

and_false : (a b : Bool) → b ≡ false → one_or_none (a && b) ≡ 0
and_false true b e = ap one_or_none e
and_false false b e = refl

-- A turn that is skipped takes nothing.
pub skipped_takes : (core : CoreData) (c : Configuration) (i : ℕ) → (step core c i).0 ≡ Skipped → (a : ℕ) → takes_one core c i a ≡ 0
skipped_takes core c i s a = and_false (nat_eq i a) (is_take (ahead_of core c i)) (takes_moved core c i (is_take (ahead_of core c i)) refl s)

-- The take of a first message is one.
pub taking_ahead : (core : CoreData) (c : Configuration) (i : ℕ) (x : Change) → plan core c i ≡ Some x → Taking core c i x → ahead_of core c i ≡ ahead.Take
taking_ahead core c i x p t =
    let s : step core c i ≡ take_first core c i t.actor.mailbox = ap (step_of core c i) t.is ∙ ap (run_frames core c i t.actor) t.frames in
    ap (of_actor core c i) t.is ∙ ap (of_frames core c i t.actor) t.frames
    ∙ ap (λ (r : Outcome × Configuration). by_outcome r.0) (sym s ∙ step_is core c i x p)

pub takes_is : (core : CoreData) (c : Configuration) (i : ℕ) (x : Change) → plan core c i ≡ Some x → is_take (ahead_of core c i) ≡ x.takes
takes_is core c i x p =
    elim (view core c i x p) [
      | inl r ↦ ap is_take (ahead_is core c i r.actor r.frame r.below r.task r.rest r.is r.frames r.tasks) ∙ move_takes _ ∙ sym (task_takes (length c.actors) r.below _ x r.plans)
      | inr t ↦ ap is_take (taking_ahead core c i x p t) ∙ sym (message_takes core i t.message x t.plans)
    ]

own_count : (n : ℕ) (t : Bool) → n + (if true && t then 1 else 0) ≡ cond t (suc n) n
own_count n true = omega arith
own_count n false = omega arith

other_count : (n : ℕ) (s t : Bool) → s ≡ false → n + (if s && t then 1 else 0) ≡ n
other_count n s t e = ap (λ (z : Bool). n + (if z && t then 1 else 0)) e ∙ nothing n
  where
    nothing : (n : ℕ) → n + 0 ≡ n
    nothing n = omega arith

-- How many were taken after a turn that moves.
pub own_next : (core : CoreData) (c : Configuration) (i n k : ℕ) (x : Change) → plan core c i ≡ Some x → k ≡ n + takes_one core c i i → k ≡ cond x.takes (suc n) n
own_next core c i n k x p e =
    e ∙ ap (λ (b : Bool). n + (if b && is_take (ahead_of core c i) then 1 else 0)) (eq-eqb i i refl) ∙ ap (λ (b : Bool). n + (if true && b then 1 else 0)) (takes_is core c i x p) ∙ own_count n x.takes

pub other_next : (core : CoreData) (c : Configuration) (i a n k : ℕ) → a ≢ i → k ≡ n + takes_one core c i a → k ≡ n
other_next core c i a n k d e = e ∙ other_count n (nat_eq i a) (is_take (ahead_of core c i)) (ne_eqb i a (λ s. d (sym s)))

pub skipped_next : (core : CoreData) (c : Configuration) (i a n k : ℕ) → (step core c i).0 ≡ Skipped → k ≡ n + takes_one core c i a → k ≡ n
skipped_next core c i a n k s e = let z : takes_one core c i a ≡ 0 = skipped_takes core c i s a in omega (arith, e, z)
