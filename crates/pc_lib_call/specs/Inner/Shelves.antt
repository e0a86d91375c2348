-- The texts of a call as files in memory, and what `rcap` does with words over them.
use Rattle.std.specs.Prelude.{ℕ, List}
use Rattle.pc_args.specs.Asked.{command_of}
use Rattle.pc_lib_buffers.specs.{Holding.HoldsTexts, declared.beside.Beside.Beside}
use Rattle.pc_io.specs.{Entries.held_or_empty, declared.entries.Entry.Entry}
use Rattle.pc_base.specs.Lists.{Text}
use Rattle.pc_refusals.specs.Verdict.{Files, files_change, Verdict}
use Rattle.pc_top.specs.Asked.{IsVerdict, OfSource}

-- Files in memory whose readings never fail, of which the last reading took this many bytes.
abbrev pub shelf : List Entry → ℕ → Files
shelf entries taken = files_change (held_or_empty entries) (λ n. 0) (λ n. 0) taken

-- The verdict on words, over such files that have these texts.
abbrev pub IsVerdictOn : Text → Beside → List Text → Verdict → Type 0
IsVerdictOn source beside words v = (entries : List Entry) × HoldsTexts entries source beside × (taken : ℕ) × IsVerdict (shelf entries taken) words v

-- This holds of the source that the words name, over such files.
abbrev pub OfSourceOn : (Text → Type 0) → Text → Beside → List Text → Type 0
OfSourceOn Is source beside words = (entries : List Entry) × HoldsTexts entries source beside × OfSource Is (held_or_empty entries) (command_of words)
