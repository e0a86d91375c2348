use Rattle.std.proofs.{Common.{inl, inr, get_or, refl, subst}, lemmas.Option.slice_get-get_or}
use Rattle.pc_base.proofs.Bools.{false_true, no_both}
use Rattle.pc_core.specs.Further.{IsAbstract}
use Rattle.pc_sub.proofs.Looked.{has_all, has_next}
use Rattle.pc_sub.proofs.tables.any_abstract.Goals as goal

pub returns-then-is_abstract : goal.returns-then-is_abstract
returns-then-is_abstract c =
    let n = c.loop-entity.entity-index in
    (λ t. (get_or c.args.entities.now n 0, (n, slice_get-get_or c.args.entities.now n 0 c.loop-entity-test.true), c.is_abstract.ensures.0 c.if-is_abstract.true), λ h. refl)

pub loop-entity-preserved : goal.loop-entity-preserved
loop-entity-preserved c =
    let n = c.loop-entity.entity-index in
    λ b h abstract. elim (has_next c.args.entities.now n (get_or c.args.entities.now n 0) b (slice_get-get_or c.args.entities.now n 0 c.loop-entity-test.true) h) [
      | inl less ↦ c.loop-entity.invariant b less abstract
      | inr last ↦ no_both c.is_abstract.result (c.is_abstract.ensures.1 (subst (IsAbstract c.args.core.now) last abstract)) c.if-is_abstract.false
    ]

pub returns : goal.returns
returns c = (λ t. absurd (false_true t), λ h. absurd (c.loop-entity.invariant h.0 (has_all c.args.entities.now c.loop-entity.entity-index h.0 c.loop-entity-test.false h.1) h.2))
