use Rattle.std.proofs.Common.{◌≡◌, ◌++◌, drop}
use Rattle.pc_tree.specs.View.{items_view, exprs_view, arms_view, suffixes_view}
use Rattle.pc_body_spec.specs.Slots as spec
use Rattle.pc_body_walks.proofs.definitions.+walk.Given as goal

abbrev pub invariant-exprs-loop-x : goal.invariant-exprs-loop-x
invariant-exprs-loop-x l = l.fn.locals ++ spec.exprs_locals l.depth (exprs_view l.xs) ≡ l.locals ++ spec.exprs_locals l.depth (exprs_view (drop l.x-index l.xs))

abbrev pub invariant-suffix_list-loop-x : goal.invariant-suffix_list-loop-x
invariant-suffix_list-loop-x l = l.fn.locals ++ spec.suffixes_locals l.depth (suffixes_view l.xs) ≡ l.locals ++ spec.suffixes_locals l.depth (suffixes_view (drop l.x-index l.xs))

abbrev pub invariant-arm_list-loop-x : goal.invariant-arm_list-loop-x
invariant-arm_list-loop-x l = l.fn.locals ++ spec.arms_locals l.depth (arms_view l.xs) ≡ l.locals ++ spec.arms_locals l.depth (arms_view (drop l.x-index l.xs))

abbrev pub invariant-items-loop-x : goal.invariant-items-loop-x
invariant-items-loop-x l = l.fn.locals ++ spec.items_locals l.depth (items_view l.xs) ≡ l.locals ++ spec.items_locals l.depth (items_view (drop l.x-index l.xs))
