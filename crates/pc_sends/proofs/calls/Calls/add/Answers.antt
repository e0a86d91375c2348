use Rattle.std.proofs.Common.{◌≡◌, ℕ, List, subst}
use Rattle.std.specs.Prelude.{◌⊎◌}
use Rattle.pc_base.specs.Lists.{Has}
use Rattle.pc_sends.proofs.Tests.{joined}
use Rattle.pc_sends.proofs.calls.Calls.add.Goals as goal

pub returns : goal.returns
returns c = λ call h.
    let keys : List (ℕ × ℕ) = c.self.inside.pairs.keys in
    subst (λ (ps : List (ℕ × ℕ)). (Has ps call) ⊎ (call ≡ (c.args.name, c.args.known))) c.self.view_is
    (joined keys (c.args.name, c.args.known) call _ (subst (λ (ps : List (ℕ × ℕ)). Has ps call) c.in_ok-insert_full.ensures.keys h))
