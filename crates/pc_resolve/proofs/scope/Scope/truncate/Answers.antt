use Rattle.std.proofs.Common.{map, ap, sym, ◌∙◌, take}
use Rattle.pc_resolve.specs.Near.{near_count}
use Rattle.pc_resolve.proofs.Visibles.{kept_fewer, map_take, take_missed}
use Rattle.pc_resolve.proofs.scope.Scope.truncate.Goals as goal

pub invariant_of-self : goal.invariant_of-self
invariant_of-self c = rw (c.truncate.ensures, c.truncate-in-Some.ensures) (kept_fewer (λ e. e.visible) (λ e. e.names_before) near_count c.self.inside.row c.self.inside.slots c.args.len c.names_kept.result c.in-Some.entered.now c.self.invariant (sym c.in-Some.ensures.found) c.names_kept.ensures)

pub returns-in-Some : goal.returns-in-Some
returns-in-Some c = ap (map (λ e. e.visible)) c.truncate-in-Some.ensures ∙ (map_take (λ e. e.visible) c.args.len c.self.inside.row ∙ ap (take c.args.len) c.self.view_is)

pub returns-in_default : goal.returns-in_default
returns-in_default c = sym c.self.view_is ∙ (ap (map (λ e. e.visible)) (take_missed c.args.len c.self.inside.row (sym c.in_default.ensures.found)) ∙ (map_take (λ e. e.visible) c.args.len c.self.inside.row ∙ ap (take c.args.len) c.self.view_is))
