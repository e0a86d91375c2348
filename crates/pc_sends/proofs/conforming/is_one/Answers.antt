use Rattle.std.proofs.{Common.{inl, inr}, lemmas.Bool.eq-eqb}
use Rattle.pc_base.proofs.Bools.{no_both}
use Rattle.pc_sends.proofs.conforming.is_one.Goals as goal

pub returns-then-entity-known : goal.returns-then-entity-known
returns-then-entity-known c = (λ e. inl c.if-entity-known.true, λ k. eq-eqb _ _ c.if-entity-known.true)

pub returns-then-is_abstract : goal.returns-then-is_abstract
returns-then-is_abstract c = (
  λ e. inr (c.is_abstract.ensures.0 c.if-is_abstract.true, c.conforms.ensures.methods.0 e),
  λ k. elim k [ inl same ↦ absurd (c.if-entity-known.false same) | inr above ↦ c.conforms.ensures.methods.1 above.1 ],
)

pub returns-else-is_abstract : goal.returns-else-is_abstract
returns-else-is_abstract c = (
  λ e. absurd (no_both c.is_abstract.result e c.if-is_abstract.false),
  λ k. elim k [ inl same ↦ absurd (c.if-entity-known.false same) | inr above ↦ absurd (no_both c.is_abstract.result (c.is_abstract.ensures.1 above.0) c.if-is_abstract.false) ],
)
