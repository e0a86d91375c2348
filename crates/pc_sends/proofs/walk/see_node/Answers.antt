use Rattle.std.proofs.{Common.{ap, sym, ◌∙◌}, lemmas.Result.on_ok_weaker}
use Rattle.pc_sends.specs.Tables.{noted_receiver}
use Rattle.pc_sends.proofs.Walking.{aims_made, aims_call, known_grown}
use Rattle.pc_sends.proofs.walk.see_node.Goals as goal

pub returns-in-Some-clause-grown : goal.returns-in-Some-clause-grown
returns-in-Some-clause-grown c =
    on_ok_weaker c.add.result
    (aims_made c.args.noted.now.core.now c.args.noted.now.entities.now c.args.node.now.kind c.args.node.now.children c.in-Some.number c.args.walk.now.found c.add.new.self (sym c.in-Some.ensures))
    c.add.ensures

pub returns-in-Some-clause-known : goal.returns-in-Some-clause-known
returns-in-Some-clause-known c =
    on_ok_weaker c.add.result
    (λ g. known_grown c.args.noted.now.core.now c.args.walk.now.calls _ c.args.walk.now.found c.add.new.self g c.requires.known)
    c.add.ensures

pub returns-in-Some-noted_receiver-clause-grown : goal.returns-in-Some-noted_receiver-clause-grown
returns-in-Some-noted_receiver-clause-grown c =
    let ents = c.args.noted.now.entities.now in
    on_ok_weaker c.see_call.result
    (aims_call c.args.noted.now.core.now ents c.args.node.now.kind c.in-Some-called_name.name c.args.node.now.children c.in-Some-noted_receiver.known c.args.walk.now.found c.see_call.new.walk.found (sym c.in-Some-called_name.ensures)
    (ap (noted_receiver ents) (sym c.as_slice.ensures) ∙ sym c.in-Some-noted_receiver.ensures))
    c.see_call.ensures.grown
