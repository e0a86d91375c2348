use Rattle.pc_rules.proofs.Records.{rules_say_what_is_meant}
use Rattle.pc_rules.proofs.laws.rules_say_what_is_meant.Goals as goal

pub returns : goal.returns
returns c = rules_say_what_is_meant
