-- `swap SRC SCHED PLACE`: the exchange of two turns of a list.
use Rattle.std.specs.Prelude.{ℕ, ◌≡◌, ◌+◌, ◌≤◌, List, ◌∷◌, ◌++◌, length, Result, Ok, Err, Some, None, codes}
use Rattle.pc_core.specs.CoreData.{CoreData}
use Rattle.pc_args.specs.Line.{IsNumber}
use Rattle.pc_sched_lines.specs.Lines.{IsLine}
use Rattle.pc_semantics.specs.{Step.{after, outcomes}, Text.end_of}
use Rattle.pc_swap.specs.{Apart.IsKept, Swapping.Exchanged, declared.kept.Kept.Kept}
use Rattle.pc_base.specs.Lists.{Text, line_end}
use Rattle.pc_refusal_lines.specs.Lines.{no_place_line, too_long_line}
use Rattle.pc_refusals.specs.Verdict.{Verdict, refused}
use Rattle.pc_semantics.specs.declared.outcome.Outcome.TheVariants as outcome
use Rattle.pc_swap.specs.declared.kept.Kept.TheVariants as kept

-- One to seven digits, and a number of at least 1. There may be leading zeros.
abbrev pub IsPlace : Text → ℕ → Type 0
IsPlace text n = IsNumber 7 text n × (1 ≤ n) × (n ≤ 9999999)

-- Two successive turns, of the actors i and j, and what comes before and after them.
pub record Neighbours : Type 0 where
  pub front : List ℕ
  pub i : ℕ
  pub j : ℕ
  pub rest : List ℕ

-- They are the turns of the list at this place, counted from 1, and the next.
abbrev pub StandAt : List ℕ → ℕ → Neighbours → Type 0
StandAt list place t = (list ≡ t.front ++ t.i ∷ t.j ∷ t.rest) × (place ≡ length t.front + 1)

-- Why two turns keep their order.
abbrev pub kept_line : Kept → Text
kept_line kept.SameActor = codes "kept: same actor" ++ line_end
kept_line kept.NotMoved = codes "kept: not moved" ++ line_end
kept_line kept.OneMailbox = codes "kept: one mailbox" ++ line_end
kept_line kept.BothSpawn = codes "kept: both spawn" ++ line_end

-- What is reported of them, after the steps before: the list with both exchanged, as a line of a schedule, which leads
-- to the same configuration; or why they keep their order.
pub data SwapText (core : CoreData) (t : Neighbours) (text : Text) : Type 0 where
  exchanged : (new : List ℕ) → Exchanged core t.front t.i t.j t.rest new → IsLine new text → SwapText core t text
  stay : (reason : Kept) → end_of (outcomes core t.front) ≡ None → IsKept core (after core t.front) t.i t.j reason → text ≡ kept_line reason → SwapText core t text

-- The text for the turns at a place: 15 if the list has no turn after it, and 12 if a step before them would make a
-- text that is too long.
pub data Swapping (name : Text) (core : CoreData) (list : List ℕ) (place : ℕ) : Result Text Verdict → Type 0 where
  tells : (t : Neighbours) (text : Text) → StandAt list place t → SwapText core t text → Swapping name core list place (Ok text)
  no_place : length list ≤ place → Swapping name core list place (Err (refused 15 (no_place_line name place)))
  too_long : (t : Neighbours) (n : ℕ) → StandAt list place t → end_of (outcomes core t.front) ≡ Some (n, outcome.TooLong)
      → Swapping name core list place (Err (refused 12 (too_long_line name n)))
