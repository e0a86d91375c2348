-- How reading a number among the words, and then a source that must be accepted, ended.
use Rattle.std.specs.Prelude.{ℕ, ◌≡◌, Option, Some, None, Result, Ok, Err}
use Rattle.pc_base.specs.Lists.{Text}
use Rattle.pc_refusals.specs.{Source.{AcceptedStage, source_limit}, Inner.Refusals.IsRefusal, Inner.Stages.{PartGives, PartStops}, Verdict.{Files, named}, declared.stop.Stop.Stop}
use Rattle.pc_refusal_lines.specs.Lines.{usage_line}
use Rattle.pc_top.specs.declared.numbered.Numbered.{Numbered}

-- It stopped because there is no number, or because the source is not accepted.
abbrev pub NumberStops : Files → Text → Option ℕ → Stop → Type 0
NumberStops files source None s = IsRefusal 2 usage_line s
NumberStops files source (Some n) s = PartStops source_limit (AcceptedStage source) (named files source) s

abbrev pub NumberedEnds : Files → Text → Option ℕ → Result Numbered Stop → Type 0
NumberedEnds files source number (Ok read) = (number ≡ Some read.number) × PartGives source_limit (AcceptedStage source) (named files source) read.accepted
NumberedEnds files source number (Err s) = NumberStops files source number s
