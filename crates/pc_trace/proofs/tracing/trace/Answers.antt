use Rattle.pc_trace.proofs.Whole.{few_told, rises_told, told}
use Rattle.pc_trace.proofs.tracing.trace.Goals as goal

pub judged-requires-clause-few : goal.judged-requires-clause-few
judged-requires-clause-few c = let known = c.in_ok-touches.ensures in few_told c.args.core.now c.args.list.now c.in_ok-touches.touches known.1 c.as_slice.result.now c.as_slice.ensures c.requires

pub judged-requires-clause-rises : goal.judged-requires-clause-rises
judged-requires-clause-rises c = let known = c.in_ok-touches.ensures in rises_told c.args.core.now c.args.list.now c.in_ok-touches.touches known.1 c.as_slice.result.now c.as_slice.ensures

pub returns : goal.returns
returns c =
    let known = c.in_ok-touches.ensures in
    told c.args.core.now c.args.list.now c.in_ok-touches.touches known.1 c.as_slice.result.now c.as_slice.ensures c.in_ok-verdict.verdict c.in_ok-verdict.ensures known.0
