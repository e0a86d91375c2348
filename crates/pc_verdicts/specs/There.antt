-- There is a verdict on the words, whatever bytes their files have.
use Rattle.std.specs.Prelude.{◌+◌, List, Option}
use Rattle.pc_args.specs.Asked.{command_of}
use Rattle.pc_deriv.specs.Text.{derivation_limit}
use Rattle.pc_base.specs.Lists.{Text}
use Rattle.pc_refusals.specs.Verdict.{Files, files_change, Verdict}
use Rattle.pc_top.specs.{Asked.IsVerdict, One.TellsOf}

-- Files with these bytes. No reading of them fails, and if a file is longer than its limit, it is read past the limit:
-- no limit is greater than that of derivations.
abbrev pub read_through : (Text → Option Text) → Files
read_through known = files_change known (λ name. 0) (λ name. 0) (derivation_limit + 1)

-- The words have a verdict if the files have these bytes.
abbrev pub HasVerdict : (Text → Option Text) → List Text → Type 0
HasVerdict known words = (v : Verdict) × IsVerdict (read_through known) words v

-- Whatever the words are, and whatever bytes the command's files have.
abbrev pub ThereIsAVerdict : Type 0
ThereIsAVerdict = (known : Text → Option Text) (words : List Text) → TellsOf known (command_of words) → HasVerdict known words
