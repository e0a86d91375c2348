-- The output of a run.
use Rattle.std.specs.{Prelude.{ℕ, ◌+◌, Bool, true, false, List, [], ◌∷◌, ◌++◌, length, map, replicate, flat_map, Option, Some, None, codes, decimal, sum}, List.count_by, FinMap.len}
use Rattle.pc_base.specs.Lists.{line_end}
use Rattle.pc_core.specs.CoreData.{CoreData}
use Rattle.pc_semantics.specs.{declared.actors.Actor.Actor, declared.outcome.Outcome.Outcome, declared.outcome.Outcome.TheVariants.{Moved, Skipped}, Configurations.Configuration, Step.{after, outcomes}}

-- Turns, each an actor and a number of steps, as the list of the actors of all steps.
abbrev pub steps_of : List (ℕ × ℕ) → List ℕ
steps_of turns = flat_map (λ (t : ℕ × ℕ). replicate t.1 t.0) turns

abbrev pub is_moved : Outcome → Bool
is_moved Moved = true
is_moved o = false

abbrev pub is_skipped : Outcome → Bool
is_skipped Skipped = true
is_skipped o = false

-- How many messages wait.
abbrev pub waiting : Configuration → ℕ
waiting c = sum (map (λ (a : Actor). length a.mailbox) c.actors)

abbrev pub lines : List (List ℕ) → List ℕ
lines texts = flat_map (λ t. t ++ line_end) texts

-- One line: how many steps were done, how many were skipped, and how many actors, objects and waiting messages there
-- are.
abbrev pub summary : (moved skipped actors objects messages : ℕ) → List ℕ
summary moved skipped actors objects messages =
    codes "steps " ++ (decimal moved ++ (codes " skipped " ++ (decimal skipped ++ (codes " actors " ++ (decimal actors
    ++ (codes " objects " ++ (decimal objects ++ (codes " waiting " ++ (decimal messages ++ line_end)))))))))

-- The place of the step that ended the run, counted from 1, and how it ended.
abbrev pub ended_at : ℕ → List Outcome → Option (ℕ × Outcome)
ended_at n [] = None
ended_at n (Moved ∷ os) = ended_at (n + 1) os
ended_at n (Skipped ∷ os) = ended_at (n + 1) os
ended_at n (o ∷ os) = Some (n, o)

abbrev pub end_of : List Outcome → Option (ℕ × Outcome)
end_of os = ended_at 1 os

-- What was printed, and the summary if no step ended the run.
abbrev pub text_at_end : Configuration → List Outcome → Option (ℕ × Outcome) → List ℕ
text_at_end c os None = lines c.printed ++ summary (count_by is_moved os) (count_by is_skipped os) (length c.actors) (len c.objects) (waiting c)
text_at_end c os (Some end) = lines c.printed

-- The output of the run of a list of actors.
abbrev pub run_text : CoreData → List ℕ → List ℕ
run_text core list = text_at_end (after core list) (outcomes core list) (end_of (outcomes core list))
