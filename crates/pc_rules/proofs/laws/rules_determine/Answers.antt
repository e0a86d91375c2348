use Rattle.pc_rules.proofs.Lawful.{rules_determine}
use Rattle.pc_rules.proofs.laws.rules_determine.Goals as goal

pub returns : goal.returns
returns c = rules_determine
