use Rattle.std.proofs.Common.{sym, ◌∙◌}
use Rattle.pc_emit.specs.Closing.{is_empty_args}
use Rattle.pc_emit.proofs.Suffixes.{tested_some, tested_none}
use Rattle.pc_emit.proofs.chains.has_no_arguments.Goals as goal

pub returns-in-Some : goal.returns-in-Some
returns-in-Some c = c.is_empty_args.ensures ∙ tested_some is_empty_args c.args.suffixes.now 0 c.in-Some.suffix.now (sym c.in-Some.ensures.value)

pub returns-in-None : goal.returns-in-None
returns-in-None c = tested_none is_empty_args c.args.suffixes.now 0 (sym c.in-None.ensures.value)
