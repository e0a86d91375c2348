use Rattle.std.specs.Prelude.{◌↔◌, Bool, IsTrue}
use Rattle.std.proofs.Common.{sym, subst}
use Rattle.pc_base.specs.Lists.{Has}
use Rattle.pc_sub.proofs.Searched.{exact}
use Rattle.pc_sub.proofs.chains.contains.Goals as goal

pub returns : goal.returns
returns c =
    subst (λ (b : Bool). (IsTrue b) ↔ (Has c.args.numbers.now c.args.wanted)) (sym c.is_ok.ensures.value)
    (exact c.args.numbers.now c.args.wanted c.binary_search.result c.requires c.binary_search.ensures.position)
