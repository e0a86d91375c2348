use Rattle.std.proofs.Common.{◌↔◌, ℕ, Bool, List, IsTrue, sym, subst}
use Rattle.pc_base.specs.Lists.{Has}
use Rattle.pc_sends.proofs.Grows.{any_iff}
use Rattle.pc_sends.proofs.found.Found.has.Goals as goal

pub returns : goal.returns
returns c =
    subst (λ (xs : List ℕ). (IsTrue c.contains.result) ↔ (Has xs c.args.number)) c.self.view_is
    (subst (λ (b : Bool). (IsTrue b) ↔ (Has c.self.inside.numbers.keys c.args.number)) (sym c.contains.ensures) (any_iff c.args.number c.self.inside.numbers.keys))
