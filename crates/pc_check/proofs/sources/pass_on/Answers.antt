use Rattle.std.proofs.{Common.{◌+◌, length, sym, ap, ◌∙◌, slice_get, arith}, lemmas.Option.slice_get-get_or}
use Rattle.pc_check.proofs.Filling.{child_within, own_placed, part_start, part_step, part_whole, node_there}
use Rattle.pc_check.proofs.sources.pass_on.Goals as goal

pub bounds-sources-children : goal.bounds-sources-children
bounds-sources-children c =
    let core = c.args.core.now in
    let x = c.index-nodes-number.result in
    let g = node_there core _ c.args.number x c.nodes.ensures c.requires.node c.index-nodes-number.is in
    let e = ap (λ cs. slice_get cs c.loop-index.index) (sym c.as_slice-children.ensures) ∙ slice_get-get_or c.as_slice-children.result.now c.loop-index.index 0 c.loop-index-test.true in
    child_within core _ c.args.number x c.loop-index.index _ c.formed.ensures c.requires.node c.loop-index.invariant.0 g e

pub source_at-source-requires : goal.source_at-source-requires
source_at-source-requires c = let count = c.requires.filled.0 in let room = c.requires.node in omega (arith, count, room)

pub loop-index-init : goal.loop-index-init
loop-index-init c = part_start c.args.core.now _ (c.args.number + 1) c.index-nodes-number.result c.requires.filled

pub loop-index-preserved : goal.loop-index-preserved
loop-index-preserved c =
    let core = c.args.core.now in
    let x = c.index-nodes-number.result in
    let g = node_there core _ c.args.number x c.nodes.ensures c.requires.node c.index-nodes-number.is in
    let e = ap (λ cs. slice_get cs c.loop-index.index) (sym c.as_slice-children.ensures) ∙ slice_get-get_or c.as_slice-children.result.now c.loop-index.index 0 c.loop-index-test.true in
    let own = own_placed core c.args.sources.now c.args.number c.source_at-source.result c.formed.ensures c.requires.filled c.source_at-source.ensures in
    part_step core c.loop-index.sources (c.args.number + 1) x c.loop-index.index _ c.child_source.result c.loop-index.invariant e (c.child_source.ensures core c.args.number _ g own e)

pub returns : goal.returns
returns c =
    let core = c.args.core.now in
    let x = c.index-nodes-number.result in
    let g = node_there core _ c.args.number x c.nodes.ensures c.requires.node c.index-nodes-number.is in
    let count = ap length c.as_slice-children.ensures in
    let high = c.loop-index-test.false in
    part_whole core c.loop-index.sources c.args.number x c.loop-index.index g (omega (arith, count, high)) c.loop-index.invariant
