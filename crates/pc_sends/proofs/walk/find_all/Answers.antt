use Rattle.std.proofs.{Common.get_or, lemmas.Option.slice_get-get_or}
use Rattle.pc_sends.proofs.{Grows.{At, grown_none, list_turn, list_all}, Walking.CalledIn}
use Rattle.pc_sends.proofs.walk.find_all.Goals as goal

pub loop-entity-init : goal.loop-entity-init
loop-entity-init c = grown_none (At (CalledIn c.args.core.now c.args.name) c.args.entities.now) 0 c.args.found.now

pub loop-entity-preserved : goal.loop-entity-preserved
loop-entity-preserved c =
    let ds = c.args.entities.now in
    let k = c.loop-entity.entity-index in
    list_turn (CalledIn c.args.core.now c.args.name) ds k (get_or ds k 0) c.args.found.now c.loop-entity.found c.find_called.new.found (slice_get-get_or ds k 0 c.loop-entity-test.true) c.loop-entity.invariant c.in_ok-find_called.ensures

pub returns : goal.returns
returns c = list_all (CalledIn c.args.core.now c.args.name) c.args.entities.now c.loop-entity.entity-index c.args.found.now c.loop-entity.found c.loop-entity-test.false c.loop-entity.invariant
