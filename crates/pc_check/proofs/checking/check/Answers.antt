use Rattle.pc_check.proofs.Agreement.{exact}
use Rattle.pc_check.proofs.checking.check.Goals as goal

pub returns-clause-exact : goal.returns-clause-exact
returns-clause-exact c ann v = exact c.args.core.now c.looked_through.result ann c.formed.ensures c.one_annotation_is_valid.ensures c.looked_through.ensures.ok c.looked_through.ensures.err v
