use Rattle.std.proofs.Common.{◌<◌, List, ℕ, Err, length, subst, sym, arith}
use Rattle.pc_sched_lines.specs.Lines.{IsLine}
use Rattle.pc_base.specs.Lists.{Text}
use Rattle.pc_commands.specs.{Swap.Swapping, Swap.Swapping.no_place}
use Rattle.pc_refusals.specs.Verdict.{refused}
use Rattle.pc_commands.proofs.SwapTold.{kept_told, long_told, new_short, new_told}
use Rattle.pc_commands.proofs.swap.swap_list.Goals as goal

pub returns-then-list-place : goal.returns-then-list-place
returns-then-list-place c =
    subst (λ (line : Text). Swapping c.args.name.now c.args.core.now c.args.list.now c.args.place (Err (refused 15 line))) (sym c.in_ok-make_no_place_line.ensures)
    (no_place c.if-list-place.true)

pub line_of-requires : goal.line_of-requires
line_of-requires c =
    let within : c.args.place < length c.args.list.now = omega (arith, c.if-list-place.false) in
    rw c.as_slice.ensures (new_short c.args.name.now c.args.core.now c.args.list.now c.args.place c.requires.first within c.in-Ok.new c.requires.few c.in-Ok.ensures)

pub returns-in_ok-line_of-in-Ok : goal.returns-in_ok-line_of-in-Ok
returns-in_ok-line_of-in-Ok c =
    let within : c.args.place < length c.args.list.now = omega (arith, c.if-list-place.false) in
    let line = subst (λ (list : List ℕ). IsLine list c.in_ok-line_of-in-Ok.field-0) c.as_slice.ensures c.in_ok-line_of-in-Ok.ensures in
    new_told c.args.name.now c.args.core.now c.args.list.now c.args.place c.requires.first within c.in-Ok.new c.in_ok-line_of-in-Ok.field-0 c.in-Ok.ensures line

pub returns-in_ok-make_kept_line-in-Err-Kept : goal.returns-in_ok-make_kept_line-in-Err-Kept
returns-in_ok-make_kept_line-in-Err-Kept c =
    let within : c.args.place < length c.args.list.now = omega (arith, c.if-list-place.false) in
    let ends = rw c.in-Err-Kept.field-0-is at c.in-Err-Kept.ensures in
    kept_told c.args.name.now c.args.core.now c.args.list.now c.args.place c.requires.first within c.in-Err-Kept.kept c.in_ok-make_kept_line-in-Err-Kept.field-0 ends
    c.in_ok-make_kept_line-in-Err-Kept.ensures

pub returns-in_ok-make_too_long_line-in-Err-TooLong : goal.returns-in_ok-make_too_long_line-in-Err-TooLong
returns-in_ok-make_too_long_line-in-Err-TooLong c =
    let within : c.args.place < length c.args.list.now = omega (arith, c.if-list-place.false) in
    let ends = rw c.in-Err-TooLong.field-0-is at c.in-Err-TooLong.ensures in
    long_told c.args.name.now c.args.core.now c.args.list.now c.args.place c.requires.first within c.in-Err-TooLong.step c.in_ok-make_too_long_line-in-Err-TooLong.field-0 ends
    c.in_ok-make_too_long_line-in-Err-TooLong.ensures
