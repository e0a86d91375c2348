use Rattle.std.proofs.Common.{ℕ, length, ◌+◌, ap, sym, subst, ◌∙◌, arith}
use Rattle.pc_sends.specs.Tables.{MayBe}
use Rattle.pc_sends.proofs.{Filtered.{Filtered, filtered_none, filtered_push, filtered_skip, filtered_all}, Listed.may_be_below, conforming.all_below.Goals.{then-may_be+in_ok-push, else-may_be}}
use Rattle.pc_base.proofs.Bools.{no_both}
use Rattle.pc_sends.proofs.conforming.all_below.Goals as goal

pub loop-entity-init : goal.loop-entity-init
loop-entity-init c = subst (Filtered (λ (d : ℕ). MayBe c.args.core.now d c.args.known) 0) (sym c.new-entities.ensures) (filtered_none _)

pub loop-entity-preserved : goal.loop-entity-preserved
loop-entity-preserved c =
    let P : ℕ → Type 0 = λ (d : ℕ). MayBe c.args.core.now d c.args.known in
    let n = c.loop-entity.entity in
    let old = c.loop-entity.entities in
    elim c.if-may_be.branch [
      | then-may_be+in_ok-push w ↦ subst (Filtered P (n + 1)) (sym (w.entities-is ∙ w.in_ok-push.ensures.ok)) (filtered_push P n old c.loop-entity.invariant (c.may_be.ensures.0 w.if-may_be.true))
      | else-may_be w ↦ subst (Filtered P (n + 1)) (sym w.entities-is) (filtered_skip P n old c.loop-entity.invariant (λ m. no_both c.may_be.result (c.may_be.ensures.1 m) w.if-may_be.false))
    ]

pub returns : goal.returns
returns c =
    let all = c.loop-entity-test.false in
    let same = ap length c.entities.ensures in
    filtered_all (λ (d : ℕ). MayBe c.args.core.now d c.args.known) c.loop-entity.entity c.loop-entity.entities c.loop-entity.invariant (λ d m. let l = may_be_below c.args.core.now d c.args.known m in omega (arith, all, same, l))
