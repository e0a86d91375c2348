-- What a referee is asked about a derivation's text: its nodes in order, up to the first fault.
use Rattle.std.specs.Prelude.{◌≡◌, ◌↔◌, ℕ, ◌+◌, ◌<◌, ◌≤◌, List, ◌++◌, length, take, Option, Some, None, slice_get}
use Rattle.pc_core.specs.{declared.nodes.Slot.Slot, CoreData.CoreData}
use Rattle.pc_valid.specs.Valid.{MeetsRule}
use Rattle.pc_judge.specs.{Faults.KeepsType, AtNodes.NodePasses}
use Rattle.pc_referee.specs.Asked.{Pairs}
use Rattle.pc_deriv.specs.declared.line.Line.{Line}
use Rattle.pc_feed.specs.{Lines.{counts_in, slots_in, notes_in, so_far}, Numbered.numbered_notes}

-- The counts are the core's, and each slot so far has the type that is written for it, if one is.
pub record OpeningFits (core : CoreData) (ls : List Line) : Type 0 where
  pub counts : (c : ℕ × ℕ) → counts_in ls ≡ Some c → c ≡ (length core.slots, length core.nodes)
  pub written : (k : ℕ) (y : Slot) → k < length (slots_in ls) → slice_get core.slots k ≡ Some y → KeepsType (so_far ls) k y

-- Node k is found right: the counts and slots are right, there is no fault at the nodes before it, and it satisfies its
-- rule. If it is the body of a constructor that leaves a field unset, it is found right all the same, and is the last
-- one.
pub record IsFoundRight (core : CoreData) (ls : List Line) (k : ℕ) : Type 0 where
  pub opens : OpeningFits core ls
  pub before : (j : ℕ) → j < k → NodePasses core (so_far ls) j
  pub meets : MeetsRule core (so_far ls) k

-- The nodes of these lines that are found right, which are a prefix of all, with their notes.
pub record IsAsked (core : CoreData) (ls : List Line) (pairs : Pairs) : Type 0 where
  pub count : ℕ
  pub within : count ≤ length (notes_in ls)
  pub exact : (k : ℕ) → k < length (notes_in ls) → (k < count) ↔ IsFoundRight core ls k
  pub are : pairs ≡ take count (numbered_notes 0 (notes_in ls))

-- A referee's list, if it is known, grew by the nodes that are found right in the later lines.
abbrev pub Grew : CoreData → (old new : List Line) → Option Pairs → Option Pairs → Type 0
Grew core old new None after = after ≡ None
Grew core old new (Some pairs) after =
    (known : Pairs) × (more : Pairs) × IsAsked core old known × IsAsked core new (known ++ more) × (after ≡ Some (pairs ++ more))

-- It grew by a prefix of these.
abbrev pub GrewPart : CoreData → (old new : List Line) → Option Pairs → Option Pairs → Type 0
GrewPart core old new None after = after ≡ None
GrewPart core old new (Some pairs) after =
    (known : Pairs) × (more : Pairs) × IsAsked core old known × (after ≡ Some (pairs ++ more))
    × ((all : Pairs) → IsAsked core new all → (rest : Pairs) × (all ≡ (known ++ more) ++ rest))
