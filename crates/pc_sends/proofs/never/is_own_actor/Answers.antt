use Rattle.std.proofs.{Common.{ap, sym, ◌∙◌, arith}, lemmas.Option.{same_Some, none-some}, lemmas.Bool.leb-true}
use Rattle.pc_core.specs.declared.declarations.EntityDef.{EntityDef}
use Rattle.pc_base.proofs.Bools.{false_true}
use Rattle.pc_sends.proofs.never.is_own_actor.Goals as goal

pub returns-then-entity-ge-FIRST_OWN : goal.returns-then-entity-ge-FIRST_OWN
returns-then-entity-ge-FIRST_OWN c = (
  λ e. record { entity = c.in-Some.found.now; is_entity = sym c.in-Some.ensures; own = c.if-entity-ge-FIRST_OWN.true; actor = c.is_actor.ensures.0 e },
  λ k. c.is_actor.ensures.1 (ap (λ (x : EntityDef). x.kind) (same_Some c.in-Some.found.now k.entity (c.in-Some.ensures ∙ k.is_entity)) ∙ k.actor),
)

pub returns-else-entity-ge-FIRST_OWN : goal.returns-else-entity-ge-FIRST_OWN
returns-else-entity-ge-FIRST_OWN c = (
  λ e. let low = leb-true _ _ e in let high = c.if-entity-ge-FIRST_OWN.false in absurd (omega (arith, low, high)),
  λ k. let low = k.own in let high = c.if-entity-ge-FIRST_OWN.false in absurd (omega (arith, low, high)),
)

pub returns-in-None : goal.returns-in-None
returns-in-None c = (λ e. absurd (false_true e), λ k. absurd (none-some k.entity (c.in-None.ensures ∙ k.is_entity)))
