use Rattle.std.proofs.{Common.{ap, sym, subst, ◌∙◌}, lemmas.Option.{same_Some, none-some}}
use Rattle.pc_core.specs.declared.declarations.Method.{Method}
use Rattle.pc_base.proofs.Bools.{false_true, no_both}
use Rattle.pc_sends.specs.Tables.{is_message, IsOwnActor}
use Rattle.pc_sends.proofs.never.is_of_actor.Goals as goal

pub returns-then-is_message : goal.returns-then-is_message
returns-then-is_message c = (
  λ e. record { method = c.in-Some.method.now; is_method = sym c.in-Some.ensures; message = sym c.is_message.ensures ∙ c.if-is_message.true; actor = c.is_own_actor.ensures.0 e },
  λ k. c.is_own_actor.ensures.1 (subst (λ (y : Method). IsOwnActor c.args.core.now y.entity) (sym (same_Some c.in-Some.method.now k.method (c.in-Some.ensures ∙ k.is_method))) k.actor),
)

pub returns-else-is_message : goal.returns-else-is_message
returns-else-is_message c = (
  λ e. absurd (no_both c.is_message.result e c.if-is_message.false),
  λ k. absurd (no_both c.is_message.result (c.is_message.ensures ∙ ap (λ (y : Method). is_message y.kind) (same_Some c.in-Some.method.now k.method (c.in-Some.ensures ∙ k.is_method)) ∙ k.message) c.if-is_message.false),
)

pub returns-in-None : goal.returns-in-None
returns-in-None c = (λ e. absurd (false_true e), λ k. absurd (none-some k.method (c.in-None.ensures ∙ k.is_method)))
