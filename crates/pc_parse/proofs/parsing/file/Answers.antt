use Rattle.pc_parse.proofs.Public.{refused, only_tree, only_fault}
use Rattle.pc_parse.proofs.parsing.file.Goals as goal

pub returns-in-Ok-clause-exact : goal.returns-in-Ok-clause-exact
returns-in-Ok-clause-exact c = only_tree c.args.tokens.now c.in-Ok.file c.in-Ok.ensures.read

pub returns-in-Err-clause-exact : goal.returns-in-Err-clause-exact
returns-in-Err-clause-exact c = only_fault c.args.tokens.now c.fault.result (refused c.args.tokens.now c.in-Err.stop c.fault.result c.in-Err.ensures.refused c.fault.ensures)
