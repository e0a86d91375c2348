use Rattle.std.proofs.{Common.{ℕ, List, sym, subst}, lemmas.Result.on_ok_weaker}
use Rattle.pc_sends.specs.Growth.{Grown, OfSome}
use Rattle.pc_sends.proofs.Walking.{CalledIn, targets_found, targets_none}
use Rattle.pc_sends.proofs.walk.find_targets.Goals as goal

pub returns-in-Some : goal.returns-in-Some
returns-in-Some c =
    let core = c.args.noted.now.core.now in
    let old = c.args.found.now in
    let new = c.find_all.new.found in
    on_ok_weaker c.find_all.result
    (λ g. targets_found core c.args.noted.now.lists.now c.args.name c.args.known c.in-Some.entities.now old new c.requires (sym c.in-Some.ensures)
    (subst (λ (ds : List ℕ). Grown (OfSome (CalledIn core c.args.name) ds) old new) c.as_slice.ensures g))
    c.find_all.ensures

pub returns-in-None : goal.returns-in-None
returns-in-None c = targets_none c.args.noted.now.core.now c.args.noted.now.lists.now c.args.name c.args.known c.args.found.now c.requires (sym c.in-None.ensures)
