use Rattle.std.proofs.Common.{◌≡◌, Some, None, map, take, sym, ap, ◌∙◌}
use Rattle.pc_body_spec.specs.Bodies as spec
use Rattle.pc_resolve.specs.Near.{near_count}
use Rattle.pc_resolve.proofs.Visibles.{found_far, found_near}
use Rattle.pc_resolve.proofs.scope.Scope.find.Goals as goal

pub returns-in-Some : goal.returns-in-Some
returns-in-Some c =
    let row = c.self.inside.row in
    let is : spec.slot_named (map (λ e. e.visible) (take near_count row)) c.args.name.now ≡ Some c.in-Some.slot = ap (λ l. spec.slot_named (map (λ e. e.visible) l) c.args.name.now) (sym (c.near.ensures ∙ ap (take near_count) c.as_slice.ensures)) ∙ sym c.slot_among.ensures ∙ c.in-Some.is in
    found_near (λ e. e.visible) (λ e. e.names_before) near_count row c.args.name.now c.in-Some.slot is ∙ ap (λ s. spec.slot_named s c.args.name.now) c.self.view_is

pub returns-in-None : goal.returns-in-None
returns-in-None c =
    let row = c.self.inside.row in
    let is : spec.slot_named (map (λ e. e.visible) (take near_count row)) c.args.name.now ≡ None = ap (λ l. spec.slot_named (map (λ e. e.visible) l) c.args.name.now) (sym (c.near.ensures ∙ ap (take near_count) c.as_slice.ensures)) ∙ sym c.slot_among.ensures ∙ c.in-None.is in
    c.find.ensures ∙ (found_far (λ e. e.visible) (λ e. e.names_before) near_count row c.self.inside.slots c.args.name.now c.self.invariant is ∙ ap (λ s. spec.slot_named s c.args.name.now) c.self.view_is)
