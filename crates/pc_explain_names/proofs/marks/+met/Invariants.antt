use Rattle.std.proofs.Common.{◌≡◌, ◌++◌, drop}
use Rattle.pc_explain_names.specs.Marks as met
use Rattle.pc_tree.specs.View.{items_view, exprs_view, suffixes_view, arms_view}
use Rattle.pc_explain_names.proofs.marks.+met.Given as goal

abbrev pub invariant-push_exprs-loop-x : goal.invariant-push_exprs-loop-x
invariant-push_exprs-loop-x l =
    l.out.items ++ met.exprs_marks l.at (exprs_view (drop l.x-index l.xs)) ≡ l.initial.out.items ++ met.exprs_marks l.at (exprs_view l.xs)

abbrev pub invariant-push_suffixes-loop-x : goal.invariant-push_suffixes-loop-x
invariant-push_suffixes-loop-x l = l.out.items ++ met.suffixes_marks l.at l.head (suffixes_view (drop l.x-index l.xs)) ≡ l.initial.out.items ++ met.suffixes_marks l.at l.head (suffixes_view l.xs)

abbrev pub invariant-push_arms-loop-x : goal.invariant-push_arms-loop-x
invariant-push_arms-loop-x l =
    l.out.items ++ met.arms_marks l.at (arms_view (drop l.x-index l.xs)) ≡ l.initial.out.items ++ met.arms_marks l.at (arms_view l.xs)

abbrev pub invariant-push_items-loop-x : goal.invariant-push_items-loop-x
invariant-push_items-loop-x l =
    l.out.items ++ met.items_marks l.at (items_view (drop l.x-index l.xs)) ≡ l.initial.out.items ++ met.items_marks l.at (items_view l.xs)
