use Rattle.std.proofs.Common.{◌<◌, refl, arith}
use Rattle.std.specs.Prelude.{◌≡◌, ◌^◌, codes, decimal}
use Rattle.pc_args.specs.Asked.{swap}
use Rattle.pc_top.specs.{CoreOf.{HasSafeCore, IsDerivable}, IsolatedCore.HasIsolatedCore}
use Rattle.pc_lib_buffers.specs.declared.beside.Beside.TheVariants.{Schedule}
use Rattle.pc_lib_call.proofs.{Asked.answers_as, Commands.{swap_asks, swapped}, Exactly.{of_source, plain, swap_number, underivable}}
use Rattle.pc_lib_call.proofs.runs.swap.Goals as goal

pub returns-clause-answers : goal.returns-clause-answers
returns-clause-answers c =
    let fits : c.args.place < 2 ^ 64 = omega (arith, c.ranges.place.fits) in
    answers_as _ _ _ _ _ _ _ (swapped c.written_forms_are_taken.ensures c.args.source.now c.args.schedule c.args.place c.format-place.result.now c.format-place.ensures.text fits) c.ask.ensures.answers

pub returns-clause-exact : goal.returns-clause-exact
returns-clause-exact c may other =
    let fits : c.args.place < 2 ^ 64 = omega (arith, c.ranges.place.fits) in
    let is : c.format-place.result.now ≡ decimal c.args.place = c.format-place.ensures.text in
    underivable c.statuses_are_exact.ensures (swap (codes "source") (codes "schedule") c.format-place.result.now) _ c.args.source.now (Schedule c.args.schedule)
    (swap_asks c.written_forms_are_taken.ensures c.args.source.now c.format-place.result.now (plain c.args.place c.format-place.result.now is fits)) refl (swap_number c.args.place c.format-place.result.now is may.0 may.1) refl _ c.ask.result _ _ _
    c.ask.ensures.answers other

pub returns-clause-accepted : goal.returns-clause-accepted
returns-clause-accepted c accepting =
    let fits : c.args.place < 2 ^ 64 = omega (arith, c.ranges.place.fits) in
    of_source IsDerivable (swap (codes "source") (codes "schedule") c.format-place.result.now) _ c.args.source.now (Schedule c.args.schedule)
    (swap_asks c.written_forms_are_taken.ensures c.args.source.now c.format-place.result.now (plain c.args.place c.format-place.result.now c.format-place.ensures.text fits)) refl (c.ask.ensures.accepted accepting)

pub returns-clause-safe : goal.returns-clause-safe
returns-clause-safe c accepting =
    let fits : c.args.place < 2 ^ 64 = omega (arith, c.ranges.place.fits) in
    of_source HasSafeCore (swap (codes "source") (codes "schedule") c.format-place.result.now) _ c.args.source.now (Schedule c.args.schedule)
    (swap_asks c.written_forms_are_taken.ensures c.args.source.now c.format-place.result.now (plain c.args.place c.format-place.result.now c.format-place.ensures.text fits)) refl (c.ask.ensures.safe accepting)

pub returns-clause-isolated : goal.returns-clause-isolated
returns-clause-isolated c accepting =
    let fits : c.args.place < 2 ^ 64 = omega (arith, c.ranges.place.fits) in
    of_source HasIsolatedCore (swap (codes "source") (codes "schedule") c.format-place.result.now) _ c.args.source.now (Schedule c.args.schedule)
    (swap_asks c.written_forms_are_taken.ensures c.args.source.now c.format-place.result.now (plain c.args.place c.format-place.result.now c.format-place.ensures.text fits)) refl (c.ask.ensures.isolated accepting)

pub returns-clause-frozen : goal.returns-clause-frozen
returns-clause-frozen c accepting = c.derivable_sources_are_reliable.ensures.frozen c.args.source.now (returns-clause-accepted c accepting)

pub returns-clause-owned : goal.returns-clause-owned
returns-clause-owned c accepting = c.derivable_sources_are_reliable.ensures.owned c.args.source.now (returns-clause-accepted c accepting)

pub returns-clause-progresses : goal.returns-clause-progresses
returns-clause-progresses c accepting = c.derivable_sources_are_reliable.ensures.progresses c.args.source.now (returns-clause-accepted c accepting)

pub returns-clause-decided : goal.returns-clause-decided
returns-clause-decided c accepting = c.derivable_sources_are_reliable.ensures.decided c.args.source.now (returns-clause-accepted c accepting)
