use Rattle.std.proofs.Common.{ℕ, List, sym, subst, ◌∙◌}
use Rattle.pc_base.specs.Lists.{Has}
use Rattle.pc_sends.proofs.Pairs.{pair_has}
use Rattle.pc_sends.proofs.calls.Calls.has.Goals as goal

pub returns : goal.returns
returns c = λ h. subst (λ (ps : List (ℕ × ℕ)). Has ps (c.args.name, c.args.known)) c.self.view_is (pair_has c.args.name c.args.known c.self.inside.pairs.keys (sym c.contains.ensures ∙ h))
