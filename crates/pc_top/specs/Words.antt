-- What the words of each command name: the files that it reads, and its number.
use Rattle.std.specs.Prelude.{List}
use Rattle.pc_base.specs.Lists.{Text}
use Rattle.pc_args.specs.Asked.{Asked}
use Rattle.pc_top.specs.Commands.{meaning_of}

-- The files that a command reads, in this order.
abbrev pub files_of : Asked → List Text
files_of asked = (meaning_of asked).files

-- The number among the words is one that the command takes.
abbrev pub HasNumber : Asked → Type 0
HasNumber asked = (meaning_of asked).has_number
