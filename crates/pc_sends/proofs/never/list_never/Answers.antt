use Rattle.std.proofs.Common.{◌+◌, length, ap, sym, subst, ◌∙◌, arith}
use Rattle.pc_base.proofs.Bools.{no_both}
use Rattle.pc_sends.specs.Unsent.{IsUnsent}
use Rattle.pc_sends.proofs.{Filtered.{Filtered, filtered_none, filtered_push, filtered_skip, filtered_all}, Tabled.{unsent_to, unsent_from, unsent_below}, never.list_never.Goals.{then-is_unsent+in_ok-push, else-is_unsent}}
use Rattle.pc_sends.proofs.never.list_never.Goals as goal

pub loop-number-init : goal.loop-number-init
loop-number-init c = subst (Filtered (IsUnsent c.args.core.now c.args.rows.now) 0) (sym c.new-numbers.ensures) (filtered_none _)

pub loop-number-preserved : goal.loop-number-preserved
loop-number-preserved c =
    let core = c.args.core.now in
    let rows = c.args.rows.now in
    let n = c.loop-number.number in
    let old = c.loop-number.numbers in
    let targets = c.in_ok-targets.targets in
    let first = c.main_create-first.result in
    elim c.if-is_unsent.branch [
      | then-is_unsent+in_ok-push w ↦ subst (Filtered (IsUnsent core rows) (n + 1)) (sym (w.numbers-is ∙ w.in_ok-push.ensures.ok))
          (filtered_push (IsUnsent core rows) n old c.loop-number.invariant (unsent_to core rows targets first c.main_create-first.ensures c.in_ok-targets.ensures n (c.is_unsent.ensures.0 w.if-is_unsent.true)))
      | else-is_unsent w ↦ subst (Filtered (IsUnsent core rows) (n + 1)) (sym w.numbers-is)
          (filtered_skip (IsUnsent core rows) n old c.loop-number.invariant (λ u. no_both c.is_unsent.result (c.is_unsent.ensures.1 (unsent_from core rows targets first c.main_create-first.ensures c.in_ok-targets.ensures n u)) w.if-is_unsent.false))
    ]

pub returns-clause-ascends : goal.returns-clause-ascends
returns-clause-ascends c = c.loop-number.invariant.ascends

pub returns-clause-exact : goal.returns-clause-exact
returns-clause-exact c =
    let high = c.loop-number-test.false in
    let same = ap length c.methods.ensures in
    filtered_all (IsUnsent c.args.core.now c.args.rows.now) c.loop-number.number c.loop-number.numbers c.loop-number.invariant (λ t u. let l = unsent_below c.args.core.now c.args.rows.now t u in omega (arith, high, same, l))
