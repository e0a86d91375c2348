use Rattle.std.proofs.Common.{◌≡◌, take}
use Rattle.std.specs.Prelude.{fold}
use Rattle.clap.specs.Words.{app_of}
use Rattle.pc_args.specs.{Line.bare, Rows.with_row}
use Rattle.pc_args.proofs.words.make_line.Given as goal

abbrev pub invariant-loop-row : goal.invariant-loop-row
invariant-loop-row l = app_of l.command ≡ fold with_row bare (take l.row-index l.rows)
