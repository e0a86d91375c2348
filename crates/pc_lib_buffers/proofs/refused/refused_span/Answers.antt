use Rattle.std.proofs.Common.{◌<◌, length, arith}
use Rattle.pc_refusals.specs.Source.{source_limit}
use Rattle.pc_lib_buffers.specs.Refused.IsRefusedAt.{longer}
use Rattle.pc_lib_buffers.proofs.refused.refused_span.Goals as goal

pub returns-then-source : goal.returns-then-source
returns-then-source c =
    let l = c.if-source.true in
    let long : source_limit < length c.args.source.now = omega (arith, l) in
    longer long
