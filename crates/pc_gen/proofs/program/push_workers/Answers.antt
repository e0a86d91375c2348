use Rattle.std.proofs.{Common.{[], ◌∷◌, map, ap, ◌∙◌}, lemmas.List.map-append}
use Rattle.pc_tree.specs.View.{entity_view}
use Rattle.pc_gen.proofs.Workers.{two_draws, drawn, one_more}
use Rattle.pc_gen.proofs.program.push_workers.Goals as goal

pub loop-i-preserved : goal.loop-i-preserved
loop-i-preserved c =
    let (draws, all) = c.loop-i.invariant in
    let s = c.loop-i.draws.state in
    let i = c.loop-i.i in
    let worker = c.in_ok-worker.ensures.worker ∙ drawn c.args.seed c.args.size i s draws in
    let more = one_more c.args.seed c.args.size i (map entity_view c.args.entities.now) (map entity_view c.loop-i.entities) (entity_view c.in_ok-worker.worker) all worker in
    (c.next_worker.ensures.state ∙ two_draws c.args.seed i s draws, ap (map entity_view) c.in_ok-push.ensures.ok ∙ map-append entity_view c.loop-i.entities (c.in_ok-worker.worker ∷ []) ∙ more)
