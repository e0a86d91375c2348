use Rattle.std.proofs.Common.{◌≡◌, Some, None, take, sym, ap, ◌∙◌}
use Rattle.pc_body_spec.specs.Bodies as spec
use Rattle.pc_resolve.specs.Near.{near_count}
use Rattle.pc_resolve.proofs.Found.{constructor_far, constructor_near}
use Rattle.pc_resolve.proofs.constructors.Constructors.find.Goals as goal

pub returns-in-Some : goal.returns-in-Some
returns-in-Some c =
    let row = c.self.inside.row in
    let is : spec.constructor_named (take near_count row) c.args.name.now ≡ Some c.in-Some.method = ap (λ l. spec.constructor_named l c.args.name.now) (sym (c.near.ensures ∙ ap (take near_count) c.as_slice.ensures)) ∙ sym c.method_named.ensures ∙ c.in-Some.is in
    constructor_near near_count row c.args.name.now c.in-Some.method is ∙ ap (λ s. spec.constructor_named s c.args.name.now) c.self.view_is

pub returns-in-None : goal.returns-in-None
returns-in-None c =
    let row = c.self.inside.row in
    let is : spec.constructor_named (take near_count row) c.args.name.now ≡ None = ap (λ l. spec.constructor_named l c.args.name.now) (sym (c.near.ensures ∙ ap (take near_count) c.as_slice.ensures)) ∙ sym c.method_named.ensures ∙ c.in-None.is in
    c.find.ensures ∙ (constructor_far near_count row c.self.inside.methods c.args.name.now c.self.invariant.0 is ∙ ap (λ s. spec.constructor_named s c.args.name.now) c.self.view_is)
