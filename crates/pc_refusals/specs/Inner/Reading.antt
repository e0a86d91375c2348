-- The result of reading a file inside a command.
use Rattle.std.specs.Prelude.{ℕ, ◌≡◌, ◌<◌, List, Option, Result, MatchResult}
use Rattle.pc_io.specs.declared.bytes.Bytes.{Bytes}
use Rattle.pc_base.specs.Lists.{Text}
use Rattle.pc_refusal_lines.specs.Lines.{longer_line}
use Rattle.pc_refusals.specs.{Verdict.{IsReading, whole, longer}, declared.stop.Stop.Stop, declared.stop.Stop.TheVariants.{Refused, File, Sink, Memory}}

-- Why no bytes were read: the file is longer, or its name's faults rose, or memory ran out.
abbrev pub NotRead : Text → (limit : ℕ) → Option (List ℕ) → (before now taken : ℕ) → Stop → Type 0
NotRead name limit known before now taken (Refused status line) =
    (status ≡ 8) × (line ≡ longer_line name limit) × IsReading limit known before now taken longer
NotRead name limit known before now taken (File failed) = (failed ≡ name) × (before < now)
NotRead name limit known before now taken Sink = ⊥
NotRead name limit known before now taken Memory = Unit {0}

abbrev pub ReadsFile : Text → (limit : ℕ) → Option (List ℕ) → (before now taken : ℕ) → Result Bytes Stop → Type 0
ReadsFile name limit known before now taken result =
    MatchResult result (λ b. IsReading limit known before now taken (whole b)) (NotRead name limit known before now taken)
