use Rattle.std.proofs.Common.{subst}
use Rattle.pc_parse.specs.Answers.{RefusesFile}
use Rattle.pc_refusals.specs.Source.Parsing.{parsed}
use Rattle.pc_refusals.proofs.Spelling.{astray_stops, nested_stops}
use Rattle.pc_refusals.proofs.syntax.read_tree.Goals as goal

pub returns-in-Ok : goal.returns-in-Ok
returns-in-Ok c = parsed c.in-Ok.ensures.read

pub returns-in-Err-Unexpected : goal.returns-in-Err-Unexpected
returns-in-Err-Unexpected c = astray_stops c.args.name.now c.args.bytes.now c.args.tokens.now c.in-Err-Unexpected.at c.refuse_at.result (subst (RefusesFile c.args.tokens.now) c.in-Err-Unexpected.field-0-is c.in-Err-Unexpected.ensures.refused) c.refuse_at.ensures

pub returns-in-Err-TooDeep : goal.returns-in-Err-TooDeep
returns-in-Err-TooDeep c = nested_stops c.args.name.now c.args.bytes.now c.args.tokens.now c.in-Err-TooDeep.at c.refuse_at-in-Err-TooDeep.result (subst (RefusesFile c.args.tokens.now) c.in-Err-TooDeep.field-0-is c.in-Err-TooDeep.ensures.refused) c.refuse_at-in-Err-TooDeep.ensures
