use Rattle.std.proofs.Common.{inl, inr}
use Rattle.pc_sub.specs.Above.{is_chain_iff}
use Rattle.pc_sub.proofs.Bools.{alike}
use Rattle.pc_sub.proofs.chains.is_chain.Goals as goal

pub returns-else-from-to : goal.returns-else-from-to
returns-else-from-to c =
    let k = is_chain_iff c.args.core.now c.args.from c.args.to c.formed.ensures in
    alike _ _
    (λ t. k.1 (inr (c.leads.ensures.0 t)))
    (λ t. elim (k.0 t) [ inl same ↦ absurd (c.if-from-to.false same) | inr l ↦ c.leads.ensures.1 l ])
