-- `make SEED SIZE`: the numbers among its words, and the run of the program that is made of them.
use Rattle.std.specs.Prelude.{ℕ, ◌≡◌, length, codes}
use Rattle.pc_args.specs.Line.{IsSeed, IsSize}
use Rattle.pc_core.specs.CoreData.{CoreData}
use Rattle.pc_gen.specs.Generated.{schedule}
use Rattle.pc_run.specs.Spreading.{spread}
use Rattle.pc_base.specs.Lists.{Text}
use Rattle.pc_refusal_lines.specs.Lines.{counts_line}
use Rattle.pc_refusals.specs.Verdict.{Verdict, headed}
use Rattle.pc_commands.specs.Run.{Ran}

-- how lines name the source and the schedule of a generated program
abbrev pub made_name : Text
made_name = codes "make"

-- the line of its numbers, if this is its core
abbrev pub made_line : (seed size : ℕ) → CoreData → Text
made_line seed size core = counts_line seed size (length core.nodes)

-- Its run by its own schedule, after the line of its numbers.
abbrev pub RanMade : (seed size : ℕ) → CoreData → Verdict → Type 0
RanMade seed size core v = (w : Verdict) × Ran made_name core (spread (schedule size)) w × (v ≡ headed (made_line seed size core) w)

-- The words are not a seed and a size.
abbrev pub SpellsNone : Text → Text → Type 0
SpellsNone seed size = (a b : ℕ) → IsSeed seed a → IsSize size b → ⊥
