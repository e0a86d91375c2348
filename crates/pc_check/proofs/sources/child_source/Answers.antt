use Rattle.std.proofs.Common.{ℕ, sym, subst}
use Rattle.pc_check.specs.Sources.{PassesOn}
use Rattle.pc_check.proofs.Filling.{first_placed}
use Rattle.pc_check.proofs.sources.child_source.Goals as goal

pub returns-then-index-eq0 : goal.returns-then-index-eq0
returns-then-index-eq0 c = subst (λ (i : ℕ). PassesOn c.args.parent.now i c.args.source c.args.source) (sym c.if-index-eq0.true) (first_placed c.args.parent.now c.args.source)

pub returns-else-index-eq0 : goal.returns-else-index-eq0
returns-else-index-eq0 c = c.later_source.ensures c.args.source
