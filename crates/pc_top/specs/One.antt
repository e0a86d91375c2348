-- There is at most one verdict for the words and the known bytes of the files.
use Rattle.std.specs.Prelude.{◌≡◌, Option, Some, None, List}
use Rattle.pc_base.specs.Lists.{Text}
use Rattle.pc_args.specs.Asked.{Asked, command_of}
use Rattle.pc_top.specs.{Asked.IsVerdict, Words.files_of}
use Rattle.pc_refusals.specs.{Verdict.{Files, Verdict}, Knowing.{AllKnown, NoneFailed}}

-- The bytes of the files that the words name are known.
abbrev pub TellsOf : (Text → Option Text) → Option Asked → Type 0
TellsOf known None = Unit {0}
TellsOf known (Some asked) = AllKnown known (files_of asked)

-- No reading of them failed.
abbrev pub UnfailedOf : Files → Option Asked → Type 0
UnfailedOf files None = Unit {0}
UnfailedOf files (Some asked) = NoneFailed files (files_of asked)

-- Then any two verdicts are equal.
abbrev pub VerdictIsOne : Type 0
VerdictIsOne = (files : Files) (words : List Text) (v w : Verdict) → UnfailedOf files (command_of words) → TellsOf files.known (command_of words)
    → IsVerdict files words v → IsVerdict files words w → v ≡ w
