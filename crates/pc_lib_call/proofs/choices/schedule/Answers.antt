use Rattle.std.proofs.Common.{◌<◌, refl, arith}
use Rattle.std.specs.Prelude.{◌≡◌, ◌^◌, codes, decimal}
use Rattle.pc_args.specs.Asked.{schedule_of}
use Rattle.pc_top.specs.{CoreOf.{HasSafeCore, IsDerivable}, IsolatedCore.HasIsolatedCore}
use Rattle.pc_lib_buffers.specs.declared.beside.Beside.TheVariants.{Nothing}
use Rattle.pc_lib_call.proofs.{Asked.answers_as, Commands.{schedule_asks, scheduled}, Exactly.{of_source, plain, seed_number, underivable}}
use Rattle.pc_lib_call.proofs.choices.schedule.Goals as goal

pub returns-clause-answers : goal.returns-clause-answers
returns-clause-answers c =
    let fits : c.args.seed < 2 ^ 64 = omega (arith, c.ranges.seed.fits) in
    answers_as _ _ _ _ _ _ _ (scheduled c.written_forms_are_taken.ensures c.args.source.now c.args.seed c.format-seed.result.now c.format-seed.ensures.text fits) c.ask.ensures.answers

pub returns-clause-exact : goal.returns-clause-exact
returns-clause-exact c other =
    let fits : c.args.seed < 2 ^ 64 = omega (arith, c.ranges.seed.fits) in
    let is : c.format-seed.result.now ≡ decimal c.args.seed = c.format-seed.ensures.text in
    underivable c.statuses_are_exact.ensures (schedule_of (codes "source") c.format-seed.result.now) _ c.args.source.now Nothing
    (schedule_asks c.written_forms_are_taken.ensures c.args.source.now c.format-seed.result.now (plain c.args.seed c.format-seed.result.now is fits)) refl (seed_number c.args.seed c.format-seed.result.now is fits) refl _ c.ask.result _ _ _
    c.ask.ensures.answers other

pub returns-clause-accepted : goal.returns-clause-accepted
returns-clause-accepted c accepting =
    let fits : c.args.seed < 2 ^ 64 = omega (arith, c.ranges.seed.fits) in
    let is : c.format-seed.result.now ≡ decimal c.args.seed = c.format-seed.ensures.text in
    of_source IsDerivable (schedule_of (codes "source") c.format-seed.result.now) _ c.args.source.now Nothing
    (schedule_asks c.written_forms_are_taken.ensures c.args.source.now c.format-seed.result.now (plain c.args.seed c.format-seed.result.now is fits)) refl (c.ask.ensures.accepted accepting)

pub returns-clause-safe : goal.returns-clause-safe
returns-clause-safe c accepting =
    let fits : c.args.seed < 2 ^ 64 = omega (arith, c.ranges.seed.fits) in
    let is : c.format-seed.result.now ≡ decimal c.args.seed = c.format-seed.ensures.text in
    of_source HasSafeCore (schedule_of (codes "source") c.format-seed.result.now) _ c.args.source.now Nothing
    (schedule_asks c.written_forms_are_taken.ensures c.args.source.now c.format-seed.result.now (plain c.args.seed c.format-seed.result.now is fits)) refl (c.ask.ensures.safe accepting)

pub returns-clause-isolated : goal.returns-clause-isolated
returns-clause-isolated c accepting =
    let fits : c.args.seed < 2 ^ 64 = omega (arith, c.ranges.seed.fits) in
    let is : c.format-seed.result.now ≡ decimal c.args.seed = c.format-seed.ensures.text in
    of_source HasIsolatedCore (schedule_of (codes "source") c.format-seed.result.now) _ c.args.source.now Nothing
    (schedule_asks c.written_forms_are_taken.ensures c.args.source.now c.format-seed.result.now (plain c.args.seed c.format-seed.result.now is fits)) refl (c.ask.ensures.isolated accepting)

pub returns-clause-frozen : goal.returns-clause-frozen
returns-clause-frozen c accepting = c.derivable_sources_are_reliable.ensures.frozen c.args.source.now (returns-clause-accepted c accepting)

pub returns-clause-owned : goal.returns-clause-owned
returns-clause-owned c accepting = c.derivable_sources_are_reliable.ensures.owned c.args.source.now (returns-clause-accepted c accepting)

pub returns-clause-progresses : goal.returns-clause-progresses
returns-clause-progresses c accepting = c.derivable_sources_are_reliable.ensures.progresses c.args.source.now (returns-clause-accepted c accepting)

pub returns-clause-decided : goal.returns-clause-decided
returns-clause-decided c accepting = c.derivable_sources_are_reliable.ensures.decided c.args.source.now (returns-clause-accepted c accepting)
