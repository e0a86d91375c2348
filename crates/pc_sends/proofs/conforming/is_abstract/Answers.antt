use Rattle.std.proofs.Common.{sym}
use Rattle.pc_tree.specs.Kinds.{is_abstract}
use Rattle.pc_core.specs.declared.declarations.EntityDef.{EntityDef}
use Rattle.pc_sends.proofs.Tests.{passes_there, passes_none}
use Rattle.pc_sends.proofs.conforming.is_abstract.Goals as goal

pub returns-in-Some : goal.returns-in-Some
returns-in-Some c = passes_there (λ (x : EntityDef). is_abstract x.kind) c.args.core.now.entities c.args.entity c.in-Some.found.now c.is_abstract.result (sym c.in-Some.ensures) c.is_abstract.ensures

pub returns-in-None : goal.returns-in-None
returns-in-None c = passes_none (λ (x : EntityDef). is_abstract x.kind) c.args.core.now.entities c.args.entity (sym c.in-None.ensures)
