-- What the machine does with small programs.
use Rattle.std.specs.{Prelude.{◌≡◌, ℕ, ◌-◌, ◌^◌, true, false, List, [], ◌∷◌, ◌++◌, length, replicate, Option, Some, slice_get, codes}, FinMap.len}
use Rattle.pc_heap.specs.{declared.value.Value.Value, declared.value.Value.TheVariants.{Num, Truth, At}}
use Rattle.pc_core.specs.CoreData.{CoreData}
use Rattle.pc_base.specs.{Lists.◌>>=◌, Limits.text_limit}
use Rattle.pc_semantics.specs.{declared.actors.Actor.Actor, declared.frames.Task.Task, declared.outcome.Outcome.Outcome, declared.outcome.Outcome.TheVariants.{Moved, Skipped, Lacks, TooLong}, Configurations.{Configuration, start, own_address}, Step.{after, outcomes}, Safety.Race, Text.{run_text, steps_of, waiting}, Programs.{hello, two_messages, one_node, on_one, on_two, lazy, choice, counting, spawning, making, touching, field_n, n, zz}}
use Rattle.pc_tree.specs.declared.kinds.Op.TheVariants as op
use Rattle.pc_core.specs.declared.nodes.NodeKind.TheVariants as node
use Rattle.pc_semantics.specs.declared.frames.Task.TheVariants as task
use Rattle.pc_semantics.specs.declared.outcome.Lack.TheVariants as lack

-- The run of these turns has this output; a turn is an actor and a number of steps.
abbrev pub RunWrites : CoreData → List (ℕ × ℕ) → List ℕ → Type 0
RunWrites core turns text = run_text core (steps_of turns) ≡ text

-- How the last of this number of steps of Main ends.
abbrev pub EndsMain : CoreData → ℕ → Outcome → Type 0
EndsMain core k o = outcomes core (replicate k 1) ≡ replicate (k - 1) Moved ++ o ∷ []

-- The value on top of Main's stack after this number of its steps.
abbrev pub top_of_main : CoreData → ℕ → Option Value
top_of_main core k = do
  a ← slice_get (after core (replicate k 1)).actors 1
  f ← slice_get a.frames 0
  slice_get f.stack 0

abbrev pub Leaves : CoreData → ℕ → Value → Type 0
Leaves core k v = top_of_main core k ≡ Some v

-- ---- whole runs

-- Ten steps of Main: the take, the body, the sequence, the call, the text, the field, the local, the read, the
-- invocation and the return. Then the stream takes the message.
abbrev pub HelloRuns : Type 0
HelloRuns = RunWrites hello ((1, 10) ∷ (0, 1) ∷ []) (codes "hi\nsteps 11 skipped 0 actors 2 objects 3 waiting 0\n")

-- Without turns nothing happens, and nor does it in the turns of an actor that does not exist.
abbrev pub NoActorNoStep : Type 0
NoActorNoStep =
    RunWrites hello [] (codes "steps 0 skipped 0 actors 2 objects 3 waiting 1\n")
    × RunWrites hello ((7, 5) ∷ []) (codes "steps 0 skipped 5 actors 2 objects 3 waiting 1\n")

-- Messages are taken in the order in which they were sent.
abbrev pub TakenInOrder : Type 0
TakenInOrder =
    ((after two_messages (steps_of ((1, 17) ∷ []))).printed ≡ [])
    × (waiting (after two_messages (steps_of ((1, 17) ∷ []))) ≡ 2)
    × ((after two_messages (steps_of ((1, 17) ∷ (0, 1) ∷ []))).printed ≡ codes "a" ∷ [])
    × ((after two_messages (steps_of ((1, 17) ∷ (0, 2) ∷ []))).printed ≡ codes "a" ∷ codes "b" ∷ [])

-- A new actor has its object and its constructor's message, which it takes when its turn comes.
abbrev pub SpawnedHasItsMessage : Type 0
SpawnedHasItsMessage =
    (outcomes spawning (steps_of ((1, 5) ∷ (2, 4) ∷ [])) ≡ replicate 9 Moved)
    × (length (after spawning (steps_of ((1, 5) ∷ []))).actors ≡ 3)
    × (len (after spawning (steps_of ((1, 5) ∷ []))).objects ≡ 4)
    × (waiting (after spawning (steps_of ((1, 5) ∷ []))) ≡ 1)
    × (waiting (after spawning (steps_of ((1, 5) ∷ (2, 1) ∷ []))) ≡ 0)

-- A constructor gives its object's field a value, which is then read.
abbrev pub ConstructorSets : Type 0
ConstructorSets =
    (outcomes making (steps_of ((1, 22) ∷ (0, 1) ∷ [])) ≡ replicate 23 Moved)
    × ((after making (steps_of ((1, 22) ∷ (0, 1) ∷ []))).printed ≡ codes "5" ∷ [])

-- ---- parts of Main's constructor, whose first three steps are the take, the body and the sequence

-- `and` and `or` do not look at the right side if the left side decides, and do otherwise.
abbrev pub LazyRight : Type 0
LazyRight =
    Leaves (lazy (node.Truth false) node.And) 6 (Truth false)
    × Leaves (lazy (node.Truth true) node.Or) 6 (Truth true)
    × EndsMain (lazy (node.Truth true) node.And) 10 (Lacks lack.Value)
    × EndsMain (lazy (node.Truth false) node.Or) 10 (Lacks lack.Value)

abbrev pub BranchTaken : Type 0
BranchTaken = Leaves (choice (node.Truth true)) 8 (Num 1) × Leaves (choice (node.Truth false)) 8 (Num 2)

-- Twice round the loop, and then out of it: the local is 2.
abbrev pub held_by_main : CoreData → (steps slot : ℕ) → Option (Option Value)
held_by_main core k s = do
  a ← slice_get (after core (replicate k 1)).actors 1
  f ← slice_get a.frames 0
  slice_get f.slots s

abbrev pub WhileTwice : Type 0
WhileTwice =
    EndsMain counting 42 Moved × (held_by_main counting 20 2 ≡ Some (Some (Num 1))) × (held_by_main counting 41 2 ≡ Some (Some (Num 2)))
    × EndsMain counting 43 Skipped

-- Sums and differences wrap at 64 bits; a quotient and a remainder by 0 are 0.
abbrev pub Wraps : Type 0
Wraps =
    Leaves (on_two (node.Number (2 ^ 64 - 1)) (node.Number 1) (node.Binary op.Add)) 7 (Num 0)
    × Leaves (on_two (node.Number 0) (node.Number 1) (node.Binary op.Sub)) 7 (Num (2 ^ 64 - 1))
    × Leaves (on_two (node.Number (2 ^ 63)) (node.Number 2) (node.Binary op.Mul)) 7 (Num 0)
    × Leaves (on_two (node.Number 7) (node.Number 0) (node.Binary op.Div)) 7 (Num 0)
    × Leaves (on_two (node.Number 7) (node.Number 0) (node.Binary op.Rem)) 7 (Num 0)

-- ---- steps that end a run

-- A number and a truth value have no sum; a slot that was never set is empty; a number is not an object; a field that
-- was never set has no value; nothing has the method.
abbrev pub EachLackComes : Type 0
EachLackComes =
    EndsMain (on_two (node.Number 1) (node.Truth true) (node.Binary op.Add)) 7 (Lacks lack.Value)
    × EndsMain (one_node [] (node.Local 2)) 4 (Lacks lack.Slot)
    × EndsMain (on_one [] (node.Number 1) (node.Field n)) 6 (Lacks lack.Object)
    × EndsMain (on_one field_n node.This (node.Field n)) 6 (Lacks lack.Field)
    × EndsMain (on_one [] node.This (node.Call zz)) 6 (Lacks lack.Method)

-- A text of the greatest length cannot be made a byte longer.
abbrev pub full_text : List ℕ
full_text = replicate text_limit 97

abbrev pub TextTooLong : Type 0
TextTooLong =
    EndsMain (on_two (node.Text full_text) (node.Text (codes "b")) (node.Binary op.Add)) 7 TooLong
    × EndsMain (on_two (node.Text full_text) (node.Text []) (node.Binary op.Add)) 7 Moved

-- ---- races

-- Two actors, each about to do its task on one object, which is actor 1's own.
abbrev pub about_to : Task → Actor
about_to t = record { mailbox = []; frames = record { method = 1; slots = []; stack = At (own_address 1) ∷ Num 1 ∷ []; tasks = t ∷ [] } ∷ [] }

abbrev pub both_about_to : Task → Task → Configuration
both_about_to t u = record { objects = (start touching).objects; actors = about_to t ∷ about_to u ∷ []; printed = [] }

-- If both write its field, or one writes it and the other reads it, they race. If both read it, they do not.
abbrev pub RacesAreSeen : Type 0
RacesAreSeen =
    Race touching (both_about_to (task.Put 2) (task.Put 2)) × Race touching (both_about_to (task.Get 1) (task.Put 2))
    × (Race touching (both_about_to (task.Get 1) (task.Get 1)) → ⊥)
