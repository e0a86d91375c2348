-- How the reading of words ends.
use Rattle.std.specs.Prelude.{◌≡◌, true, List, Some, Result, MatchResult}
use Rattle.pc_base.specs.Lists.{Text}
use Rattle.pc_args.specs.{Commands.asked_by, Asked.{command_of, is_refused}, declared.words.Command.Command, declared.words.WordsFault.WordsFault, declared.words.WordsFault.TheVariants.{Refused, Memory}}

abbrev pub ReadingStops : List Text → WordsFault → Type 0
ReadingStops words Refused = is_refused words ≡ true
ReadingStops words Memory = Unit {0}

-- With the command that they ask for, or because they are refused, or because memory ran out.
abbrev pub ReadingEnds : List Text → Result Command WordsFault → Type 0
ReadingEnds words result = MatchResult result (λ command. command_of words ≡ Some (asked_by command)) (ReadingStops words)
