use Rattle.std.proofs.{Common.{length, refl}, lemmas.Option.slice_get_read}
use Rattle.pc_sends.proofs.{Grows.{At, grown_none, list_turn, list_all}, Walking.NodeAims}
use Rattle.pc_sends.proofs.walk.see_nodes.Goals as goal

pub loop-node-init : goal.loop-node-init
loop-node-init c = record { grown = grown_none (At (NodeAims c.args.noted.now.core.now c.args.noted.now.entities.now) c.args.nodes.now) 0 c.args.walk.now.found; known = c.requires.known }

pub loop-node-preserved : goal.loop-node-preserved
loop-node-preserved c =
    let ns = c.args.nodes.now in
    record {
      grown =
          list_turn (NodeAims c.args.noted.now.core.now c.args.noted.now.entities.now) ns c.loop-node.node-index c.node-item.result c.args.walk.now.found c.loop-node.walk.found c.see_node.new.walk.found
          (slice_get_read ns (length ns) c.loop-node.node-index c.node-item.result refl c.loop-node-test.true c.node-item.is) c.loop-node.invariant.grown c.in_ok-see_node.ensures.grown;
      known = c.in_ok-see_node.ensures.known;
    }

pub returns-clause-grown : goal.returns-clause-grown
returns-clause-grown c = list_all (NodeAims c.args.noted.now.core.now c.args.noted.now.entities.now) c.args.nodes.now c.loop-node.node-index c.args.walk.now.found c.loop-node.walk.found c.loop-node-test.false c.loop-node.invariant.grown
