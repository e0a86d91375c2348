use Rattle.std.proofs.Common.{refl}
use Rattle.std.specs.Prelude.{codes}
use Rattle.pc_args.specs.Asked.{trace}
use Rattle.pc_top.specs.{CoreOf.{HasSafeCore, IsDerivable}, IsolatedCore.HasIsolatedCore}
use Rattle.pc_lib_buffers.specs.declared.beside.Beside.TheVariants.{Schedule}
use Rattle.pc_lib_call.proofs.{Asked.answers_as, Commands.{trace_asks, traced}, Exactly.{of_source, underivable}}
use Rattle.pc_lib_call.proofs.runs.trace.Goals as goal

pub returns-clause-answers : goal.returns-clause-answers
returns-clause-answers c = answers_as _ _ _ _ _ _ _ (traced c.written_forms_are_taken.ensures c.args.source.now c.args.schedule) c.ask.ensures.answers

pub returns-clause-exact : goal.returns-clause-exact
returns-clause-exact c other = underivable c.statuses_are_exact.ensures (trace (codes "source") (codes "schedule")) _ c.args.source.now (Schedule c.args.schedule) (trace_asks c.written_forms_are_taken.ensures c.args.source.now) refl tt refl _ c.ask.result _ _ _ c.ask.ensures.answers other

pub returns-clause-accepted : goal.returns-clause-accepted
returns-clause-accepted c accepting = of_source IsDerivable (trace (codes "source") (codes "schedule")) _ c.args.source.now (Schedule c.args.schedule) (trace_asks c.written_forms_are_taken.ensures c.args.source.now) refl (c.ask.ensures.accepted accepting)

pub returns-clause-safe : goal.returns-clause-safe
returns-clause-safe c accepting = of_source HasSafeCore (trace (codes "source") (codes "schedule")) _ c.args.source.now (Schedule c.args.schedule) (trace_asks c.written_forms_are_taken.ensures c.args.source.now) refl (c.ask.ensures.safe accepting)

pub returns-clause-isolated : goal.returns-clause-isolated
returns-clause-isolated c accepting = of_source HasIsolatedCore (trace (codes "source") (codes "schedule")) _ c.args.source.now (Schedule c.args.schedule) (trace_asks c.written_forms_are_taken.ensures c.args.source.now) refl (c.ask.ensures.isolated accepting)

pub returns-clause-frozen : goal.returns-clause-frozen
returns-clause-frozen c accepting = c.derivable_sources_are_reliable.ensures.frozen c.args.source.now (returns-clause-accepted c accepting)

pub returns-clause-owned : goal.returns-clause-owned
returns-clause-owned c accepting = c.derivable_sources_are_reliable.ensures.owned c.args.source.now (returns-clause-accepted c accepting)

pub returns-clause-progresses : goal.returns-clause-progresses
returns-clause-progresses c accepting = c.derivable_sources_are_reliable.ensures.progresses c.args.source.now (returns-clause-accepted c accepting)

pub returns-clause-decided : goal.returns-clause-decided
returns-clause-decided c accepting = c.derivable_sources_are_reliable.ensures.decided c.args.source.now (returns-clause-accepted c accepting)
