-- How the exchange of two turns of a list ends, by what the next steps are.
use Rattle.std.specs.Prelude.{Bool, true, false, nat_eq, ◌≡◌, ℕ, List, Some, None, Result, Ok, Err}
use Rattle.pc_semantics.specs.{declared.ahead.Ahead.Ahead, Step.{after, outcomes}, Text.end_of}
use Rattle.pc_core.specs.CoreData.{CoreData}
use Rattle.pc_swap.specs.{Apart.IsKept, declared.kept.SwapFault.SwapFault, declared.kept.SwapFault.TheVariants.{Kept, TooLong, Memory}, Swapping.Exchanged}
use Rattle.pc_semantics.specs.declared.ahead.Ahead.TheVariants as ahead
use Rattle.pc_semantics.specs.declared.outcome.Outcome.TheVariants as outcome

abbrev pub is_moving : Ahead → Bool
is_moving ahead.Take = true
is_moving ahead.Spawn = true
is_moving (ahead.Send a) = true
is_moving ahead.Task = true
is_moving ahead.Skipped = false
is_moving ahead.Lacks = false
is_moving ahead.TooLong = false

abbrev pub one_receiver : Ahead → Ahead → Bool
one_receiver (ahead.Send a) (ahead.Send b) = nat_eq a b
one_receiver x y = false

abbrev pub two_spawns : Ahead → Ahead → Bool
two_spawns ahead.Spawn ahead.Spawn = true
two_spawns x y = false

-- The list is a front, the turns of i and j, and a rest. The turns are exchanged; or they are kept, with the first part
-- of being apart that fails; or the step of the front at this place is the first that is too long; or memory ran out.
abbrev pub SwapEnds : CoreData → List ℕ → (first second : ℕ) → List ℕ → Result (List ℕ) SwapFault → Type 0
SwapEnds core front i j rest (Ok new) = Exchanged core front i j rest new
SwapEnds core front i j rest (Err (Kept k)) = (end_of (outcomes core front) ≡ None) × IsKept core (after core front) i j k
SwapEnds core front i j rest (Err (TooLong n)) = end_of (outcomes core front) ≡ Some (n, outcome.TooLong)
SwapEnds core front i j rest (Err Memory) = Unit {0}

-- The front alone stops: its step at this place is the first that is too long; or memory ran out.
abbrev pub FrontStops : CoreData → List ℕ → SwapFault → Type 0
FrontStops core front (Kept k) = ⊥
FrontStops core front (TooLong n) = end_of (outcomes core front) ≡ Some (n, outcome.TooLong)
FrontStops core front Memory = Unit {0}
