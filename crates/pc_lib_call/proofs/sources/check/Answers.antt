use Rattle.std.proofs.Common.{refl}
use Rattle.std.specs.Prelude.{codes}
use Rattle.pc_args.specs.Asked.{check}
use Rattle.pc_top.specs.{CoreOf.{HasSafeCore, IsDerivable}, IsolatedCore.HasIsolatedCore}
use Rattle.pc_lib_buffers.specs.declared.beside.Beside.TheVariants.{Nothing}
use Rattle.pc_lib_call.proofs.{Asked.answers_as, Commands.{check_asks, checked}, Exactly.{derivable, of_source, underivable}}
use Rattle.pc_lib_call.proofs.sources.check.Goals as goal

pub returns-clause-answers : goal.returns-clause-answers
returns-clause-answers c = answers_as _ _ _ _ _ _ _ (checked c.written_forms_are_taken.ensures c.args.source.now) c.ask.ensures.answers

pub returns-clause-exact : goal.returns-clause-exact
returns-clause-exact c other = (
  derivable c.statuses_are_exact.ensures _ c.args.source.now Nothing (check_asks c.written_forms_are_taken.ensures c.args.source.now) tt _ c.ask.result _ _ _ c.ask.ensures.answers other,
  underivable c.statuses_are_exact.ensures (check (codes "source")) _ c.args.source.now Nothing (check_asks c.written_forms_are_taken.ensures c.args.source.now) refl tt refl _ c.ask.result _ _ _ c.ask.ensures.answers other,
)

pub returns-clause-safe : goal.returns-clause-safe
returns-clause-safe c accepting = of_source HasSafeCore (check (codes "source")) _ c.args.source.now Nothing (check_asks c.written_forms_are_taken.ensures c.args.source.now) refl (c.ask.ensures.safe accepting)

pub returns-clause-isolated : goal.returns-clause-isolated
returns-clause-isolated c accepting = of_source HasIsolatedCore (check (codes "source")) _ c.args.source.now Nothing (check_asks c.written_forms_are_taken.ensures c.args.source.now) refl (c.ask.ensures.isolated accepting)

pub returns-clause-frozen : goal.returns-clause-frozen
returns-clause-frozen c accepting = c.derivable_sources_are_reliable.ensures.frozen c.args.source.now (of_source IsDerivable (check (codes "source")) _ c.args.source.now Nothing (check_asks c.written_forms_are_taken.ensures c.args.source.now) refl (c.ask.ensures.accepted accepting))

pub returns-clause-owned : goal.returns-clause-owned
returns-clause-owned c accepting = c.derivable_sources_are_reliable.ensures.owned c.args.source.now (of_source IsDerivable (check (codes "source")) _ c.args.source.now Nothing (check_asks c.written_forms_are_taken.ensures c.args.source.now) refl (c.ask.ensures.accepted accepting))

pub returns-clause-progresses : goal.returns-clause-progresses
returns-clause-progresses c accepting = c.derivable_sources_are_reliable.ensures.progresses c.args.source.now (of_source IsDerivable (check (codes "source")) _ c.args.source.now Nothing (check_asks c.written_forms_are_taken.ensures c.args.source.now) refl (c.ask.ensures.accepted accepting))

pub returns-clause-decided : goal.returns-clause-decided
returns-clause-decided c accepting = c.derivable_sources_are_reliable.ensures.decided c.args.source.now (of_source IsDerivable (check (codes "source")) _ c.args.source.now Nothing (check_asks c.written_forms_are_taken.ensures c.args.source.now) refl (c.ask.ensures.accepted accepting))
