use Rattle.std.proofs.{Common.{◌≡◌, ◌∙◌, ◌+◌, ◌<◌, ℕ, List, ap, get_or, length, sym, take}, lemmas.List.Sums.fold_more, lemmas.List.take_all}
use Rattle.std.specs.{Prelude.fold, Borrow.Bor}
use Rattle.clap.specs.Words.{App, Text, app_of}
use Rattle.pc_args.specs.{Line.bare, Rows.{line_of, with_row}}
use Rattle.pc_args.proofs.words.make_line.Goals as goal

abbrev Row : Type 0
Row = Bor Text × Bor (List (Bor Text))

-- One row more is one subcommand more.
one_more : (rows : List Row) (i : ℕ) (d : Row) (old new : App) → i < length rows → old ≡ line_of (take i rows) → new ≡ with_row old (get_or rows i d) → new ≡ line_of (take (i + 1) rows)
one_more rows i d old new below before adds = adds ∙ ap (λ (a : App). with_row a (get_or rows i d)) before ∙ sym (fold_more with_row bare rows i d below)

pub loop-row-init : goal.loop-row-init
loop-row-init c = c.make_bare-command.ensures

pub loop-row-preserved : goal.loop-row-preserved
loop-row-preserved c = one_more c.args.rows.now c.loop-row.row-index _ (app_of c.loop-row.command) (app_of c.in_ok-command.command) c.loop-row-test.true c.loop-row.invariant c.in_ok-command.ensures

pub returns : goal.returns
returns c = c.loop-row.invariant ∙ ap (fold with_row bare) (take_all c.loop-row.row-index c.args.rows.now c.loop-row-test.false)
