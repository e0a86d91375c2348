use Rattle.std.proofs.Common.{◌<◌, refl, arith}
use Rattle.std.specs.Prelude.{◌≡◌, ◌^◌, codes, decimal}
use Rattle.pc_args.specs.Asked.{outcomes}
use Rattle.pc_top.specs.{CoreOf.{HasSafeCore, IsDerivable}, IsolatedCore.HasIsolatedCore}
use Rattle.pc_lib_buffers.specs.declared.beside.Beside.TheVariants.{Nothing}
use Rattle.pc_lib_call.proofs.{Asked.answers_as, Commands.{outcomes_asks, tabled}, Exactly.{count_number, of_source, plain, underivable}}
use Rattle.pc_lib_call.proofs.choices.outcomes.Goals as goal

pub returns-clause-answers : goal.returns-clause-answers
returns-clause-answers c =
    let fits : c.args.count < 2 ^ 64 = omega (arith, c.ranges.count.fits) in
    answers_as _ _ _ _ _ _ _ (tabled c.written_forms_are_taken.ensures c.args.source.now c.args.count c.format-count.result.now c.format-count.ensures.text fits) c.ask.ensures.answers

pub returns-clause-exact : goal.returns-clause-exact
returns-clause-exact c may other =
    let fits : c.args.count < 2 ^ 64 = omega (arith, c.ranges.count.fits) in
    let is : c.format-count.result.now ≡ decimal c.args.count = c.format-count.ensures.text in
    underivable c.statuses_are_exact.ensures (outcomes (codes "source") c.format-count.result.now) _ c.args.source.now Nothing
    (outcomes_asks c.written_forms_are_taken.ensures c.args.source.now c.format-count.result.now (plain c.args.count c.format-count.result.now is fits)) refl (count_number c.args.count c.format-count.result.now is may.0 may.1) refl _ c.ask.result _ _ _
    c.ask.ensures.answers other

pub returns-clause-accepted : goal.returns-clause-accepted
returns-clause-accepted c accepting =
    let fits : c.args.count < 2 ^ 64 = omega (arith, c.ranges.count.fits) in
    let is : c.format-count.result.now ≡ decimal c.args.count = c.format-count.ensures.text in
    of_source IsDerivable (outcomes (codes "source") c.format-count.result.now) _ c.args.source.now Nothing
    (outcomes_asks c.written_forms_are_taken.ensures c.args.source.now c.format-count.result.now (plain c.args.count c.format-count.result.now is fits)) refl (c.ask.ensures.accepted accepting)

pub returns-clause-safe : goal.returns-clause-safe
returns-clause-safe c accepting =
    let fits : c.args.count < 2 ^ 64 = omega (arith, c.ranges.count.fits) in
    let is : c.format-count.result.now ≡ decimal c.args.count = c.format-count.ensures.text in
    of_source HasSafeCore (outcomes (codes "source") c.format-count.result.now) _ c.args.source.now Nothing
    (outcomes_asks c.written_forms_are_taken.ensures c.args.source.now c.format-count.result.now (plain c.args.count c.format-count.result.now is fits)) refl (c.ask.ensures.safe accepting)

pub returns-clause-isolated : goal.returns-clause-isolated
returns-clause-isolated c accepting =
    let fits : c.args.count < 2 ^ 64 = omega (arith, c.ranges.count.fits) in
    let is : c.format-count.result.now ≡ decimal c.args.count = c.format-count.ensures.text in
    of_source HasIsolatedCore (outcomes (codes "source") c.format-count.result.now) _ c.args.source.now Nothing
    (outcomes_asks c.written_forms_are_taken.ensures c.args.source.now c.format-count.result.now (plain c.args.count c.format-count.result.now is fits)) refl (c.ask.ensures.isolated accepting)

pub returns-clause-frozen : goal.returns-clause-frozen
returns-clause-frozen c accepting = c.derivable_sources_are_reliable.ensures.frozen c.args.source.now (returns-clause-accepted c accepting)

pub returns-clause-owned : goal.returns-clause-owned
returns-clause-owned c accepting = c.derivable_sources_are_reliable.ensures.owned c.args.source.now (returns-clause-accepted c accepting)

pub returns-clause-progresses : goal.returns-clause-progresses
returns-clause-progresses c accepting = c.derivable_sources_are_reliable.ensures.progresses c.args.source.now (returns-clause-accepted c accepting)

pub returns-clause-decided : goal.returns-clause-decided
returns-clause-decided c accepting = c.derivable_sources_are_reliable.ensures.decided c.args.source.now (returns-clause-accepted c accepting)
