use Rattle.std.proofs.{Common.{◌∙◌, map}, lemmas.List.length-map}
use Rattle.pc_base.proofs.Gets.{get_map}
use Rattle.pc_tree.specs.View.{entity_view, method_view}
use Rattle.pc_member_counts.proofs.Planned.{got_at, placed_is}
use Rattle.pc_member_counts.proofs.window.fill_place.Goals as goal

pub trait_block-block-requires : goal.trait_block-block-requires
trait_block-block-requires c =
    let e = c.in-Some.ensures.lookup in
    let l = c.in-Some-get.ensures.lookup in
    c.requires c.args.place (entity_view c.in-Some.entity.now) c.in-Some-get.listing.now (get_map entity_view c.args.all.now c.args.place c.in-Some.entity.now (got_at c.args.all.now c.args.place c.in-Some.entity.now e.0 e.1))
    (got_at c.args.listings.now c.args.place c.in-Some-get.listing.now l.0 l.1)
    ∙ length-map c.in-Some.entity.now.methods method_view

pub returns : goal.returns
returns c =
    let e = c.in-Some.ensures.lookup in
    let l = c.in-Some-get.ensures.lookup in
    placed_is c.args.start (map entity_view c.args.all.now) c.args.listings.now c.args.place (entity_view c.in-Some.entity.now) c.in-Some-get.listing.now c.args.table.now c.as_slice.result.now c.put.new.table c.trait_block-block.result
    (get_map entity_view c.args.all.now c.args.place c.in-Some.entity.now (got_at c.args.all.now c.args.place c.in-Some.entity.now e.0 e.1)) (got_at c.args.listings.now c.args.place c.in-Some-get.listing.now l.0 l.1)
    c.as_slice.ensures c.trait_block-block.ensures c.put.ensures
