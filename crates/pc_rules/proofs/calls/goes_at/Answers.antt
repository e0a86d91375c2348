use Rattle.std.proofs.Common.{◌∙◌, ap, sym}
use Rattle.std.specs.Option.{option_copied}
use Rattle.pc_rules.specs.{Calls.argument_goes, Children.goes_to_param}
use Rattle.pc_rules.proofs.Found.{got}
use Rattle.pc_rules.proofs.calls.goes_at.Goals as goal

pub returns-in-None : goal.returns-in-None
returns-in-None c = sym (ap (goes_to_param c.args.core.now c.args.children.now c.args.index) (sym (got c.args.params.now c.args.index c.get.result c.get.ensures.lookup) ∙ ap option_copied c.in-None.is))

pub returns-in-Some : goal.returns-in-Some
returns-in-Some c =
    c.argument_goes.ensures
    ∙ ap (argument_goes c.args.core.now c.in-Some.param.now) c.type_at.ensures
    ∙ sym (ap (goes_to_param c.args.core.now c.args.children.now c.args.index) (sym (got c.args.params.now c.args.index c.get.result c.get.ensures.lookup) ∙ ap option_copied c.in-Some.is))
