use Rattle.pc_judge.proofs.Exact.{exact_ok, exact_fault}
use Rattle.pc_judge.proofs.judging.judge.Goals as goal

pub returns-clause-ok : goal.returns-clause-ok
returns-clause-ok c = exact_ok c.args.core.now c.args.ann.now c.judge_declarations.result c.formed.ensures c.judge_declarations.ensures

pub returns-clause-fault : goal.returns-clause-fault
returns-clause-fault c = exact_fault c.args.core.now c.args.ann.now c.judge_declarations.result c.formed.ensures c.judge_declarations.ensures
