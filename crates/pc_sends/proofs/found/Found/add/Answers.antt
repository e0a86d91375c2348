use Rattle.std.proofs.Common.{◌≡◌, ℕ, List, [], ◌∷◌, ◌++◌, nat_eq, sym, subst}
use Rattle.std.specs.{Prelude.if◌then◌else◌, List.list_any}
use Rattle.pc_sends.specs.Growth.{Grown}
use Rattle.pc_sends.proofs.Grows.{grown_add}
use Rattle.pc_sends.proofs.found.Found.add.Goals as goal

pub returns : goal.returns
returns c =
    let keys : List ℕ = c.self.inside.numbers.keys in
    let new : List ℕ = if list_any (nat_eq c.args.number) keys then keys else keys ++ c.args.number ∷ [] in
    let grown = subst (λ (xs : List ℕ). Grown (λ t. c.args.number ≡ t) xs new) c.self.view_is (grown_add keys c.args.number) in
    subst (λ (xs : List ℕ). Grown (λ t. c.args.number ≡ t) c.args.self.now xs) (sym c.in_ok-insert_full.ensures.keys) grown
