-- The command line of a table that has the name of each subcommand, and the names of its arguments.
use Rattle.std.specs.{Prelude.{List, fold, map}, Borrow.Bor}
use Rattle.clap.specs.{Simple.new_shape, Words.{App, with_subcommand}}
use Rattle.pc_base.specs.Lists.{Text}
use Rattle.pc_args.specs.{Asked.texts, Line.{bare, positional}}

-- The command line with the subcommand of a row more.
abbrev pub with_row : App → Bor Text × Bor (List (Bor Text)) → App
with_row line row = with_subcommand line (record (new_shape row.0.now) { rules = map positional (texts row.1.now) })

abbrev pub line_of : List (Bor Text × Bor (List (Bor Text))) → App
line_of rows = fold with_row bare rows
