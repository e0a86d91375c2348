use Rattle.std.proofs.Common.{◌≡◌, drop}
use Rattle.pc_tree.specs.View.{items_view, exprs_view, arms_view, suffixes_view}
use Rattle.pc_body_walks.specs.Gathering as spec
use Rattle.pc_body_walks.proofs.dot_texts.+walk.Given as goal

abbrev pub invariant-exprs-loop-x : goal.invariant-exprs-loop-x
invariant-exprs-loop-x l = spec.with_exprs l.fn.table (exprs_view l.xs) ≡ spec.with_exprs l.table (exprs_view (drop l.x-index l.xs))

abbrev pub invariant-suffix_list-loop-x : goal.invariant-suffix_list-loop-x
invariant-suffix_list-loop-x l = spec.with_suffixes l.fn.table (suffixes_view l.xs) ≡ spec.with_suffixes l.table (suffixes_view (drop l.x-index l.xs))

abbrev pub invariant-arm_list-loop-x : goal.invariant-arm_list-loop-x
invariant-arm_list-loop-x l = spec.with_arms l.fn.table (arms_view l.xs) ≡ spec.with_arms l.table (arms_view (drop l.x-index l.xs))

abbrev pub invariant-items-loop-x : goal.invariant-items-loop-x
invariant-items-loop-x l = spec.with_items l.fn.table (items_view l.xs) ≡ spec.with_items l.table (items_view (drop l.x-index l.xs))
