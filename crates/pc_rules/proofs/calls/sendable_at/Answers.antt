use Rattle.std.proofs.Common.{◌∙◌, ap, sym}
use Rattle.std.specs.Option.{option_copied}
use Rattle.pc_rules.specs.{Calls.argument_sendable, Children.sendable_to_param}
use Rattle.pc_rules.proofs.Found.{got}
use Rattle.pc_rules.proofs.calls.sendable_at.Goals as goal

pub returns-in-None : goal.returns-in-None
returns-in-None c = sym (ap (sendable_to_param c.args.children.now c.args.index) (sym (got c.args.params.now c.args.index c.get.result c.get.ensures.lookup) ∙ ap option_copied c.in-None.is))

pub returns-in-Some : goal.returns-in-Some
returns-in-Some c =
    c.argument_sendable.ensures
    ∙ ap (argument_sendable c.in-Some.param.now) c.type_at.ensures
    ∙ sym (ap (sendable_to_param c.args.children.now c.args.index) (sym (got c.args.params.now c.args.index c.get.result c.get.ensures.lookup) ∙ ap option_copied c.in-Some.is))
