-- The numbers that are read from the words of `make`.
use Rattle.std.specs.Prelude.{ℕ, Option, Some, None}
use Rattle.pc_args.specs.Line.{IsSeed, IsSize}
use Rattle.pc_base.specs.Lists.{Text}
use Rattle.pc_commands.specs.Make.{SpellsNone}

-- The seed and the size that the words denote, or none if they do not denote both.
abbrev pub ReadsNumbers : Text → Text → Option (ℕ × ℕ) → Type 0
ReadsNumbers seed size None = SpellsNone seed size
ReadsNumbers seed size (Some p) = IsSeed seed p.0 × IsSize size p.1
