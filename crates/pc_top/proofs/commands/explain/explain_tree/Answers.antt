use Rattle.pc_explain_command.specs.Explain.Explaining.{has_core}
use Rattle.pc_top.proofs.commands.explain.explain_tree.Goals as goal

pub returns-in_ok-write_core-in-Ok : goal.returns-in_ok-write_core-in-Ok
returns-in_ok-write_core-in-Ok c = let known = c.in_ok-write_core-in-Ok.ensures in has_core known.1 c.in-Ok.ensures.core known.2
