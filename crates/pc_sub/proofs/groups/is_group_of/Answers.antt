use Rattle.std.proofs.Common.{sym}
use Rattle.pc_core.specs.declared.declarations.Method.{Method}
use Rattle.pc_sub.specs.{Alike.Alike, Groups.first_of}
use Rattle.pc_sub.proofs.Optional.{none_of, some_of}
use Rattle.pc_sub.proofs.groups.is_group_of.Goals as goal

pub returns-in-None : goal.returns-in-None
returns-in-None c = none_of (first_of c.args.core.now c.args.firsts.now c.args.group) (λ (t : Method). Alike t c.args.method.now) (sym c.in-None.ensures)

pub returns-in-Some : goal.returns-in-Some
returns-in-Some c = some_of (first_of c.args.core.now c.args.firsts.now c.args.group) (λ (t : Method). Alike t c.args.method.now) c.in-Some.first.now c.is_alike.result (sym c.in-Some.ensures) c.is_alike.ensures
