use Rattle.std.proofs.Common.{sym}
use Rattle.pc_core.specs.declared.declarations.Method.{Method}
use Rattle.pc_sub.specs.Groups.{Serves, first_of}
use Rattle.pc_sub.proofs.Optional.{none_of, some_of}
use Rattle.pc_sub.proofs.serving.group_serves.Goals as goal

pub returns-in-None : goal.returns-in-None
returns-in-None c = none_of (first_of c.args.core.now c.args.firsts.now c.args.group) (λ (t : Method). Serves c.args.core.now c.args.wanted.now t) (sym c.in-None.ensures)

pub returns-in-Some : goal.returns-in-Some
returns-in-Some c = some_of (first_of c.args.core.now c.args.firsts.now c.args.group) (λ (t : Method). Serves c.args.core.now c.args.wanted.now t) c.in-Some.first.now c.serves.result (sym c.in-Some.ensures) c.serves.ensures
