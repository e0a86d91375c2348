use Rattle.std.proofs.{Common.{◌<◌, length, sym, inl, inr, ◌∙◌, refl}, lemmas.Bool.{cases_lt, true≢false}}
use Rattle.pc_machine.proofs.Popped.{below_is, below_short}
use Rattle.pc_machine.proofs.arguments.arguments_below.Goals as goal

pub returns-in_err-values-clause-values : goal.returns-in_err-values-clause-values
returns-in_err-values-clause-values c =
    let xs = c.args.stack.now in
    let count = c.args.count in
    let short : length xs < count = elim (cases_lt (length xs) count) [ inl l ↦ l | inr l ↦ absurd (true≢false (sym (c.in_err-values.ensures.enough.1 l))) ] in
    rw c.from_residual.ensures (below_short count xs c.requires.some c.requires.top short)

pub returns-clause-values : goal.returns-clause-values
returns-clause-values c =
    let values = c.in_ok-values.ensures in
    let parts = c.in_ok-below.ensures.cases in
    below_is c.args.count c.args.stack.now c.in_ok-below.below.now c.in_ok-below.field-0-0.now c.requires.some (values.enough.0 refl) (sym values.values ∙ parts.0)
