use Rattle.std.proofs.Common.{◌≡◌, ◌++◌, [], ◌∷◌, Some, map, refl, subst}
use Rattle.pc_tree.specs.View.{field_view}
use Rattle.pc_body_spec.specs.Bodies as spec
use Rattle.pc_body_spec.specs.{Bodies.{added_none, Roses, one}, Fold.puts}
use Rattle.pc_emit.specs.{Giving.GivesNodes, Closing.body_closes}
use Rattle.pc_emit.proofs.{Walks.inner_gives, Wholes.body_on}
use Rattle.pc_emit.proofs.bodies.emit_added.Goals as goal

pub returns : goal.returns
returns c =
    let m = c.args.number in
    let name = c.args.name in
    let rest : Roses = one (added_none name 0) in
    let there : puts m rest c.initials.new.nodes ≡ Some (c.in_ok-none.none ∷ [], c.leaf.new.nodes) = rw c.in_ok-none.ensures refl in
    let gave = subst (λ l. GivesNodes c.close_body.result c.close_body.new.nodes (body_closes m 0 name name l c.leaf.new.nodes)) c.in_ok-push.ensures.ok c.close_body.ensures in
    record {
      gives = inner_gives c.close_body.result c.leaf.new.nodes c.close_body.new.nodes (c.in_ok-none.none ∷ []) (puts m rest c.initials.new.nodes) (λ own. body_closes m 0 name name (c.in_ok-items.items ++ own)) _
          (body_on m name name (spec.initials_then c.args.context.now (map field_view c.args.fields.now) rest) rest c.in_ok-items.items c.args.nodes.now c.initials.new.nodes (c.in_ok-items.ensures rest)) there gave;
    }
