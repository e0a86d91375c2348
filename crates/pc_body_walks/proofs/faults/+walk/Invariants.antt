use Rattle.std.proofs.Common.{◌≡◌, length, drop, take}
use Rattle.pc_tree.specs.View.{items_view, exprs_view, arms_view, suffixes_view}
use Rattle.pc_body_spec.specs.Faults as spec
use Rattle.pc_body_walks.specs.Checking.{args_faults}
use Rattle.pc_body_walks.proofs.faults.+walk.Given as goal

abbrev pub invariant-exprs-loop-x : goal.invariant-exprs-loop-x
invariant-exprs-loop-x l = record {
  same : spec.exprs_faults l.context l.fn.scope (exprs_view l.xs) ≡ spec.exprs_faults l.context l.scope (exprs_view (drop l.x-index l.xs));
  scope : l.scope ≡ l.fn.scope;
}

abbrev pub invariant-suffix_list-loop-x : goal.invariant-suffix_list-loop-x
invariant-suffix_list-loop-x l = record {
  same : args_faults l.context l.fn.scope (suffixes_view l.xs) ≡ args_faults l.context l.scope (suffixes_view (drop l.x-index l.xs));
  scope : l.scope ≡ l.fn.scope;
}

abbrev pub invariant-arm_list-loop-x : goal.invariant-arm_list-loop-x
invariant-arm_list-loop-x l = record {
  same : spec.arms_faults l.context l.fn.scope (arms_view l.xs) ≡ spec.arms_faults l.context l.scope (arms_view (drop l.x-index l.xs));
  scope : l.scope ≡ l.fn.scope;
}

abbrev pub invariant-items-loop-x : goal.invariant-items-loop-x
invariant-items-loop-x l = record {
  same : spec.items_faults l.context l.fn.scope (items_view l.xs) ≡ spec.items_faults l.context l.scope (items_view (drop l.x-index l.xs));
  scope : take (length l.fn.scope) l.scope ≡ l.fn.scope;
}
