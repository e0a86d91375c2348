use Rattle.std.proofs.{Common.{◌≡◌, ◌≤◌, ◌<◌, length, refl, arith}, lemmas.Result.err_from_is_err_and}
use Rattle.pc_refusals.specs.{Verdict.text_as, Source.source_limit}
use Rattle.pc_top.proofs.Facts.{core_given, core_stopped, text_longer}
use Rattle.pc_top.proofs.source.take_source.Goals as goal

pub returns-then-len : goal.returns-then-len
returns-then-len c =
    let n = c.len.ensures in
    let l = c.if-len.true in
    let long : source_limit < length c.args.bytes = omega (arith, n, l) in
    text_longer c.args.name.now c.args.bytes c.in_ok-make_longer_line.field-0 long c.in_ok-make_longer_line.ensures

pub returns-in_err-core : goal.returns-in_err-core
returns-in_err-core c =
    let p = err_from_is_err_and c.from_residual-in_err-core.result c.from_residual-in_err-core.ensures.1 in
    let bytes = c.args.bytes in
    let n = c.len.ensures in
    let l = c.if-len.false in
    let short : length bytes ≤ source_limit = omega (arith, n, l) in
    let same : bytes ≡ bytes = refl in
    rw (p.1, p.2) (core_stopped (text_as c.args.name.now bytes) bytes c.as_slice.result.now _ (short, same) c.as_slice.ensures c.in_err-core.ensures)

pub returns : goal.returns
returns c =
    let bytes = c.args.bytes in
    let n = c.len.ensures in
    let l = c.if-len.false in
    let short : length bytes ≤ source_limit = omega (arith, n, l) in
    let same : bytes ≡ bytes = refl in
    core_given (text_as c.args.name.now bytes) bytes c.as_slice.result.now c.in_ok-core.core (short, same) c.as_slice.ensures c.in_ok-core.ensures
