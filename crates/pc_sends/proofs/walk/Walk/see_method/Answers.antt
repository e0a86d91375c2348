use Rattle.std.proofs.{Common.sym, lemmas.Result.on_ok_weaker}
use Rattle.pc_sends.proofs.{Homes.{nodes_from, nodes_to}, Walking.{method_uses, no_uses}}
use Rattle.pc_sends.proofs.walk.Walk.see_method.Goals as goal

pub nodes_of-requires-clause-from : goal.nodes_of-requires-clause-from
nodes_of-requires-clause-from c = nodes_from c.args.noted.now.core.now c.args.number c.in-Some.method.now c.formed.ensures (sym c.in-Some.ensures)

pub nodes_of-requires-clause-to : goal.nodes_of-requires-clause-to
nodes_of-requires-clause-to c = nodes_to c.args.noted.now.core.now c.args.number c.in-Some.method.now c.formed.ensures (sym c.in-Some.ensures)

pub returns-in-Some-clause-grown : goal.returns-in-Some-clause-grown
returns-in-Some-clause-grown c =
    on_ok_weaker c.see_nodes.result
    (method_uses c.args.noted.now.core.now c.args.noted.now.entities.now c.args.number c.in-Some.method.now c.nodes_of.result.now c.args.self.now.found c.see_nodes.new.walk.found c.formed.ensures (sym c.in-Some.ensures) c.nodes_of.ensures)
    c.see_nodes.ensures.grown

pub returns-in-None-clause-grown : goal.returns-in-None-clause-grown
returns-in-None-clause-grown c = no_uses c.args.noted.now.core.now c.args.noted.now.entities.now c.args.number c.args.self.now.found c.formed.ensures (sym c.in-None.ensures)
