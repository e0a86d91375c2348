-- Steps that are apart may be swapped.
use Rattle.std.specs.Prelude.{◌≡◌, ℕ, List, [], ◌∷◌, ◌++◌}
use Rattle.pc_core.specs.CoreData.{CoreData}
use Rattle.pc_semantics.specs.{Configurations.Configuration, Step.after, Safety.Safe}
use Rattle.pc_swap.specs.{declared.kept.Kept.Kept, Apart.{Apart, IsKept, Swapped}}

-- In a safe program, the next steps of two actors that are apart, after any list of actors, may be swapped.
abbrev pub StepsSwap : Type 0
StepsSwap =
    (core : CoreData) → Safe core → (list : List ℕ) (i j : ℕ) → Apart core (after core list) i j
    → Swapped core (after core list) i j × (after core (list ++ i ∷ j ∷ []) ≡ after core (list ++ j ∷ i ∷ []))

-- Then the whole lists lead to the same configuration too, whatever follows.
abbrev pub ListsSwap : Type 0
ListsSwap =
    (core : CoreData) → Safe core → (list : List ℕ) (i j : ℕ) (rest : List ℕ) → Apart core (after core list) i j
    → after core (list ++ i ∷ j ∷ rest) ≡ after core (list ++ j ∷ i ∷ rest)

-- If there is such a reason, the steps are not apart.
abbrev pub KeptAreNotApart : Type 0
KeptAreNotApart = (core : CoreData) (c : Configuration) (i j : ℕ) (reason : Kept) → IsKept core c i j reason → Apart core c i j → ⊥
