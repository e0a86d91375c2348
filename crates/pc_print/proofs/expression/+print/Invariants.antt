use Rattle.std.proofs.Common.{◌≡◌, ◌++◌, cond, drop}
use Rattle.pc_print.specs.Parts as parts
use Rattle.pc_print.specs.Printing as text
use Rattle.pc_tree.specs.View.{items_view, exprs_view, suffixes_view, arms_view}
use Rattle.pc_print.proofs.expression.+print.Given as goal

abbrev pub invariant-push_items-loop-x : goal.invariant-push_items-loop-x
invariant-push_items-loop-x l = l.out.items ++ cond l.first (parts.all_items (items_view (drop l.x-index l.xs))) (parts.more_items (items_view (drop l.x-index l.xs))) ≡ l.initial.out.items ++ parts.all_items (items_view l.xs)

abbrev pub invariant-push_terms-loop-x : goal.invariant-push_terms-loop-x
invariant-push_terms-loop-x l = l.out.items ++ cond l.first (parts.printed_terms (exprs_view (drop l.x-index l.xs)) l.op) (parts.more_terms (exprs_view (drop l.x-index l.xs)) l.op) ≡ l.initial.out.items ++ parts.printed_terms (exprs_view l.xs) l.op

abbrev pub invariant-push_args-loop-x : goal.invariant-push_args-loop-x
invariant-push_args-loop-x l = l.out.items ++ cond l.first (parts.printed_args (exprs_view (drop l.x-index l.xs))) (parts.more_args (exprs_view (drop l.x-index l.xs))) ≡ l.initial.out.items ++ parts.printed_args (exprs_view l.xs)

abbrev pub invariant-push_suffixes-loop-x : goal.invariant-push_suffixes-loop-x
invariant-push_suffixes-loop-x l = l.out.items ++ text.printed_suffixes (suffixes_view (drop l.x-index l.xs)) ≡ l.initial.out.items ++ text.printed_suffixes (suffixes_view l.xs)

abbrev pub invariant-push_arms-loop-x : goal.invariant-push_arms-loop-x
invariant-push_arms-loop-x l = l.out.items ++ cond l.first (parts.all_arms (arms_view (drop l.x-index l.xs))) (parts.more_arms (arms_view (drop l.x-index l.xs))) ≡ l.initial.out.items ++ parts.all_arms (arms_view l.xs)
