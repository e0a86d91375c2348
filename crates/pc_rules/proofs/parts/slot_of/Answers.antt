use Rattle.std.proofs.Common.{◌≡◌, ◌∙◌, ◌+◌, ap, sym, refl, slice_get, Some, None}
use Rattle.std.specs.Option.{option_copied}
use Rattle.pc_rules.proofs.Found.{got}
use Rattle.pc_rules.proofs.parts.slot_of.Goals as goal

pub returns : goal.returns
returns c =
    let a : slice_get c.args.core.now.methods c.args.method ≡ Some c.in_ok-method.method.now = sym c.method_at.ensures ∙ ap option_copied c.in_ok-method.was in
    let b : slice_get c.args.core.now.slots (c.in_ok-method.method.now.first_slot + c.args.slot) ≡ Some c.in_ok-declared.declared.now = sym c.slot_at.ensures ∙ ap option_copied c.in_ok-declared.was in
    let d : slice_get c.args.slots.now (c.in_ok-method.method.now.first_slot + c.args.slot) ≡ Some c.in_ok-ty.ty.now = sym (got c.args.slots.now (c.in_ok-method.method.now.first_slot + c.args.slot) c.get.result c.get.ensures.lookup) ∙ ap option_copied c.in_ok-ty.was in
    rw (a, b, d) refl

pub returns-in_err-ty : goal.returns-in_err-ty
returns-in_err-ty c =
    let a : slice_get c.args.core.now.methods c.args.method ≡ Some c.in_ok-method.method.now = sym c.method_at.ensures ∙ ap option_copied c.in_ok-method.was in
    let b : slice_get c.args.core.now.slots (c.in_ok-method.method.now.first_slot + c.args.slot) ≡ Some c.in_ok-declared.declared.now = sym c.slot_at.ensures ∙ ap option_copied c.in_ok-declared.was in
    let d : slice_get c.args.slots.now (c.in_ok-method.method.now.first_slot + c.args.slot) ≡ None = sym (got c.args.slots.now (c.in_ok-method.method.now.first_slot + c.args.slot) c.get.result c.get.ensures.lookup) ∙ ap option_copied c.in_err-ty.was in
    rw (a, b, d) c.from_residual-in_err-ty.ensures
