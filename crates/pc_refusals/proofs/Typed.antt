-- From the result of the inference to the stage of a core's annotation.
use Rattle.std.proofs.Common.{Option, Err, sym, subst}
use Rattle.std.specs.Prelude.{codes}
use Rattle.pc_check.specs.{Faults.RefusesCore, declared.fault.CheckFault.CheckFault}
use Rattle.pc_check.specs.declared.fault.CheckFault.TheVariants as fault
use Rattle.pc_core.specs.{declared.declarations.Method.Method, declared.nodes.Node.Node}
use Rattle.pc_base.specs.Lists.{Text}
use Rattle.pc_refusals.specs.{Source.Typing, Source.Typing.{declared, no_rule, unset}, Parts.{method_start, node_start}, Inner.Refusals.IsCoreStop, Inner.Stages.StageStops, Verdict.refused, declared.source.Source.Source, declared.stop.Stop.Stop}
use Rattle.pc_refusal_lines.specs.Lines.{offset_line}
use Rattle.pc_refusals.proofs.Stops.{memory_stops, refusal_stops}

-- if the inference stops
pub core_stops : (name : Text) (source : Source) (f : CheckFault) (s : Stop) → RefusesCore source.core f → IsCoreStop name source f s → StageStops (Typing name source) s
core_stops name source (fault.Decl d) s r h = refusal_stops (Typing name source) 1 _ s (declared d r) h
core_stops name source (fault.NoRule n l m ann) s r h =
    refusal_stops (Typing name source) 1 _ s
    (subst (λ (o : Option Node). Typing name source (Err (refused 1 (offset_line name source.bytes (node_start o) (codes "no rule"))))) (sym r.0.is_at) (no_rule ann n r.0)) h
core_stops name source (fault.Unset m ann) s r h =
    refusal_stops (Typing name source) 1 _ s
    (subst (λ (o : Option Method). Typing name source (Err (refused 1 (offset_line name source.bytes (method_start o) (codes "field not set"))))) (sym r.0.is_method) (unset ann m r.0)) h
core_stops name source fault.Memory s r h = memory_stops (Typing name source) s h
