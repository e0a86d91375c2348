use Rattle.std.proofs.Common.{◌∙◌, refl, sym, ap, subst, Err}
use Rattle.pc_emit.specs.{declared.stop.EmitStop.EmitStop, Giving.{GivesNodes, put_written}}
use Rattle.pc_tree.specs.View.{entity_view}
use Rattle.pc_body_spec.specs.Methods.{nodes_full, put_body}
use Rattle.pc_members.specs.{MemberLists.member_span, Views.member_view}
use Rattle.pc_elab.specs.Outcomes as spec
use Rattle.pc_elab.proofs.Outcomes.{body_full}
use Rattle.pc_elab.proofs.parts.member_outcome.Goals as goal

pub returns-in-Err-Full : goal.returns-in-Err-Full
returns-in-Err-Full c =
    let rose = spec.member_rose c.args.context.now (entity_view c.args.entity.now) (member_view c.args.member) in
    let name = member_span c.args.entity.now.name.span (member_view c.args.member) in (
      nodes_full c.span.result,
      refl,
      c.in_ok-check_member.ensures (put_body c.args.method name rose c.args.nodes.now) ∙ body_full c.args.method name rose c.args.nodes.now (subst (λ (s : EmitStop). GivesNodes (Err s) c.put_body.new.nodes (put_written c.args.method rose c.args.nodes.now)) c.in-Err-Full.field-0-is c.in-Err-Full.ensures) ∙ ap (λ s. Err (nodes_full s)) (sym c.span.ensures),
    )
