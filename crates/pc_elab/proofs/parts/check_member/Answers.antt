use Rattle.std.proofs.Common.{◌∙◌, refl, sym, subst, Err}
use Rattle.pc_tree.specs.View.{entity_view}
use Rattle.pc_names.specs.declared.fault.NameFault.{NameFault}
use Rattle.pc_body_spec.specs.Methods.{slots_full}
use Rattle.pc_elab.specs.Outcomes as spec
use Rattle.pc_members.specs.Views.{member_view}
use Rattle.pc_elab.proofs.Outcomes.{fault_passes, slot_first}
use Rattle.pc_elab.proofs.parts.check_member.Goals as goal

pub returns-in-Err : goal.returns-in-Err
returns-in-Err c =
    subst (λ (n : NameFault). spec.PassesOrStops (Err n) (spec.before_nodes c.args.context.now (entity_view c.args.entity.now) (member_view c.args.member) c.args.locals.now)) (sym c.name_fault.ensures)
    (fault_passes c.args.context.now (entity_view c.args.entity.now) (member_view c.args.member) c.args.locals.now c.in-Err.fault c.in-Err.ensures)

pub returns-in-Some : goal.returns-in-Some
returns-in-Some c = (
  slots_full c.in-Some.span,
  refl,
  slot_first c.args.context.now (entity_view c.args.entity.now) (member_view c.args.member) c.args.locals.now c.in-Some.span c.in-Ok.ensures (sym c.extra_slot.ensures ∙ c.in-Some.is),
)
