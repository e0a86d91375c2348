use Rattle.std.proofs.{Common.{◌+◌, ℕ, List, [], sym, subst, arith}, lemmas.Result.IfOk-weaker}
use Rattle.pc_core.specs.Members.{methods_within}
use Rattle.pc_sends.specs.{Growth.{Grown, TurnsBelow}, Reached.{ReachedUses, IsUsed}}
use Rattle.pc_sends.proofs.Sent.{entity_used, none_used}
use Rattle.pc_sends.proofs.messages.used_by.Goals as goal

pub overflow_add-first : goal.overflow_add-first
overflow_add-first c =
    let within = methods_within c.args.noted.now.core.now c.args.entity c.in-Some.found.now c.formed.ensures (sym c.in-Some.ensures) in
    let few = c.formed.ensures.few_methods in
    omega (arith, within, few)

pub returns-in-Some : goal.returns-in-Some
returns-in-Some c =
    let core = c.args.noted.now.core.now in
    let ents = c.args.noted.now.entities.now in
    let x = c.in-Some.found.now in
    IfOk-weaker c.used_from.result (λ (used : List ℕ). Grown (TurnsBelow (ReachedUses core ents) x.first_method (x.first_method + x.methods)) [] used) (IsUsed core ents c.args.entity)
    (λ used g. entity_used core ents c.formed.ensures c.args.entity x used (sym c.in-Some.ensures) g) c.used_from.ensures

pub returns-in-None : goal.returns-in-None
returns-in-None c = subst (IsUsed c.args.noted.now.core.now c.args.noted.now.entities.now c.args.entity) (sym c.new.ensures) (none_used c.args.noted.now.core.now c.args.noted.now.entities.now c.formed.ensures c.args.entity (sym c.in-None.ensures))
