use Rattle.std.proofs.Common.{◌+◌, ◌<◌, ◌^◌, length, sym, ap, subst, ◌∙◌}
use Rattle.std.specs.{Prelude.List, Option.option_copied}
use Rattle.pc_core.specs.{declared.declarations.Method.Method, Members.{methods_within, own_methods_within}}
use Rattle.pc_sub.proofs.conforming.first_fault.Goals as goal

pub methods_of-requires : goal.methods_of-requires
methods_of-requires c = methods_within c.args.core.now c.args.above c.in-Some.found.now c.formed.ensures (sym c.entity_at.ensures ∙ ap option_copied c.in-Some.is)

pub trait_fault-requires : goal.trait_fault-requires
trait_fault-requires c =
    subst (λ (ms : List Method). c.in-Some.found.now.first_method + length ms < 2 ^ 32) (sym c.methods_of.ensures)
    (own_methods_within c.args.core.now c.args.above c.in-Some.found.now c.formed.ensures (sym c.entity_at.ensures ∙ ap option_copied c.in-Some.is))
