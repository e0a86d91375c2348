use Rattle.std.proofs.Common.{refl}
use Rattle.std.specs.Prelude.{codes}
use Rattle.pc_args.specs.Asked.{judge}
use Rattle.pc_top.specs.{CoreOf.{HasSafeCore, IsDerivable}, IsolatedCore.HasIsolatedCore}
use Rattle.pc_lib_buffers.specs.declared.beside.Beside.TheVariants.{Derivation}
use Rattle.pc_lib_call.proofs.{Asked.answers_as, Commands.{judge_asks, judged}, Exactly.{judge_exactly, of_source}}
use Rattle.pc_lib_call.proofs.derivations.judge.Goals as goal

pub returns-clause-answers : goal.returns-clause-answers
returns-clause-answers c = answers_as _ _ _ _ _ _ _ (judged c.written_forms_are_taken.ensures c.args.source.now c.args.derivation) c.ask.ensures.answers

pub returns-clause-exact : goal.returns-clause-exact
returns-clause-exact c other =
    judge_exactly c.judged_statuses_are_exact.ensures _ c.args.source.now c.args.derivation (judge_asks c.written_forms_are_taken.ensures c.args.source.now) _ c.ask.result _ _ _ c.ask.ensures.answers other

pub returns-clause-accepted : goal.returns-clause-accepted
returns-clause-accepted c accepting = of_source IsDerivable (judge (codes "source") (codes "derivation")) _ c.args.source.now (Derivation c.args.derivation) (judge_asks c.written_forms_are_taken.ensures c.args.source.now) refl (c.ask.ensures.accepted accepting)

pub returns-clause-safe : goal.returns-clause-safe
returns-clause-safe c accepting = of_source HasSafeCore (judge (codes "source") (codes "derivation")) _ c.args.source.now (Derivation c.args.derivation) (judge_asks c.written_forms_are_taken.ensures c.args.source.now) refl (c.ask.ensures.safe accepting)

pub returns-clause-isolated : goal.returns-clause-isolated
returns-clause-isolated c accepting = of_source HasIsolatedCore (judge (codes "source") (codes "derivation")) _ c.args.source.now (Derivation c.args.derivation) (judge_asks c.written_forms_are_taken.ensures c.args.source.now) refl (c.ask.ensures.isolated accepting)

pub returns-clause-frozen : goal.returns-clause-frozen
returns-clause-frozen c accepting = c.derivable_sources_are_reliable.ensures.frozen c.args.source.now (returns-clause-accepted c accepting)

pub returns-clause-owned : goal.returns-clause-owned
returns-clause-owned c accepting = c.derivable_sources_are_reliable.ensures.owned c.args.source.now (returns-clause-accepted c accepting)

pub returns-clause-progresses : goal.returns-clause-progresses
returns-clause-progresses c accepting = c.derivable_sources_are_reliable.ensures.progresses c.args.source.now (returns-clause-accepted c accepting)

pub returns-clause-decided : goal.returns-clause-decided
returns-clause-decided c accepting = c.derivable_sources_are_reliable.ensures.decided c.args.source.now (returns-clause-accepted c accepting)
