use Rattle.std.proofs.{Common.{length, refl, ◌∙◌}, lemmas.Option.slice_get_read}
use Rattle.pc_trace.proofs.Covering.{row_within, found_is, covers_on}
use Rattle.pc_trace.proofs.clash.look.Goals as goal

pub latest_of-found-requires : goal.latest_of-found-requires
latest_of-found-requires c =
    row_within c.args.touches.now c.args.at c.requires.within c.args.lasts.now c.requires.covers c.field_spot-spot.result c.as_slice.result.now (c.as_slice.ensures ∙ c.take-row.ensures.row)

pub kept_of-requires : goal.kept_of-requires
kept_of-requires c =
    row_within c.args.touches.now c.args.at c.requires.within c.args.lasts.now c.requires.covers c.field_spot-spot.result c.as_slice-2.result.now (c.as_slice-2.ensures ∙ c.take-row.ensures.row)

pub returns-clause-found : goal.returns-clause-found
returns-clause-found c =
    let l = c.args.touches.now in
    found_is l c.args.at c.requires.within c.args.lasts.now c.requires.covers c.field_spot-spot.result c.requires.rises c.index-touches-at.result
    (slice_get_read l (length l) c.args.at c.index-touches-at.result refl c.requires.within c.index-touches-at.is) c.field_spot-spot.ensures c.as_slice.result.now (c.as_slice.ensures ∙ c.take-row.ensures.row) c.latest_of-found.result c.latest_of-found.ensures

pub returns-clause-covers : goal.returns-clause-covers
returns-clause-covers c =
    let l = c.args.touches.now in
    covers_on l c.args.at c.requires.within c.args.lasts.now c.requires.covers c.field_spot-spot.result c.requires.rises c.index-touches-at.result
    (slice_get_read l (length l) c.args.at c.index-touches-at.result refl c.requires.within c.index-touches-at.is) c.field_spot-spot.ensures c.as_slice-2.result.now (c.as_slice-2.ensures ∙ c.take-row.ensures.row) c.in_ok-kept.kept c.push.new.self c.in_ok-kept.ensures c.in_ok-push.ensures.ok
    c.put.new.self c.in_ok-put.ensures.row (λ s n. c.in_ok-put.ensures.others s n ∙ c.take-row.ensures.others s n)
