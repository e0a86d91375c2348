use Rattle.std.proofs.{Common.{◌-◌, length, sym, ap, ◌∙◌, arith}, lemmas.Option.slice_get-get_or}
use Rattle.pc_check.proofs.Filling.{else_later, next_later}
use Rattle.pc_check.proofs.sources.later_source.Goals as goal

pub returns-then-is_else : goal.returns-then-is_else
returns-then-is_else c =
    let count = ap length c.as_slice-children.ensures in
    let within = c.requires.child in
    else_later c.args.parent.now c.args.index _ c.requires.later (sym c.is_else.ensures ∙ c.if-is_else.true) (rw (← c.as_slice-children.ensures) (slice_get-get_or c.as_slice-children.result.now 0 0 (omega (arith, count, within))))

pub returns-else-is_else : goal.returns-else-is_else
returns-else-is_else c =
    let count = ap length c.as_slice-children.ensures in
    let later = c.requires.later in
    let within = c.requires.child in
    next_later c.args.parent.now c.args.index _ c.requires.later (sym c.is_else.ensures ∙ c.if-is_else.false) (rw (← c.as_slice-children.ensures) (slice_get-get_or c.as_slice-children.result.now (c.args.index - 1) 0 (omega (arith, count, later, within))))
