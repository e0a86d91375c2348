use Rattle.std.proofs.Common.{◌≡◌, ◌≤◌, true, length, drop, take, map}
use Rattle.pc_tree.specs.View.{suffix_view, items_view, exprs_view, arms_view}
use Rattle.pc_body_spec.specs.Bodies as spec
use Rattle.pc_body_spec.specs.{Bodies.Rose, Fold.{put, puts, and_then}}
use Rattle.pc_emit.specs.Closing.{closing, arm_closes, link_closes, rest_of}
use Rattle.pc_emit.proofs.Walks.{Going, Left}
use Rattle.pc_emit.proofs.walk.+walk.Given as goal

abbrev pub invariant-items-loop-x : goal.invariant-items-loop-x
invariant-items-loop-x l = record {
  going : Going l.setting.number (puts l.setting.number (spec.roses_of_items l.setting.context.now l.fn.scope l.setting.depth (items_view l.xs)) l.fn.nodes) (spec.roses_of_items l.setting.context.now l.scope l.setting.depth (items_view (drop l.x-index l.xs))) l.tops l.nodes;
  scope : take (length l.fn.scope) l.scope ≡ l.fn.scope;
}

abbrev pub invariant-exprs-loop-x : goal.invariant-exprs-loop-x
invariant-exprs-loop-x l = record {
  going : Going l.setting.number (puts l.setting.number (spec.roses_of_exprs l.setting.context.now l.fn.scope l.setting.depth (exprs_view l.xs)) l.fn.nodes) (spec.roses_of_exprs l.setting.context.now l.fn.scope l.setting.depth (exprs_view (drop l.x-index l.xs))) l.tops l.nodes;
  scope : l.scope ≡ l.fn.scope;
}

abbrev pub invariant-infix-loop-i : goal.invariant-infix-loop-i
invariant-infix-loop-i l = record {
  going : Left l.setting.number (put l.setting.number (spec.infix_of l.setting.context.now l.fn.scope l.setting.depth l.op l.span (exprs_view l.terms)) l.fn.nodes) (λ r. spec.operands_of l.setting.context.now l.fn.scope l.setting.depth l.op l.span r (exprs_view (drop l.i l.terms))) l.left l.fn.nodes l.nodes;
  scope : l.scope ≡ l.fn.scope;
}

abbrev pub invariant-open_arms-loop-a : goal.invariant-open_arms-loop-a
invariant-open_arms-loop-a l = record {
  going : (last : Rose) → put l.setting.number (spec.rose_of_arms l.setting.context.now l.fn.scope l.setting.depth l.span true (arms_view l.arms) last) l.fn.nodes ≡ and_then (put l.setting.number (spec.rose_of_arms l.setting.context.now l.fn.scope l.setting.depth l.span l.first (arms_view (drop l.a-index l.arms)) last) l.nodes) (closing (arm_closes l.setting.number l.setting.depth) l.waiting);
  scope : l.scope ≡ l.fn.scope;
}

abbrev pub decreases-links-back : goal.decreases-links-back
decreases-links-back l = l.left

abbrev pub invariant-links-back : goal.invariant-links-back
invariant-links-back l = record {
  within : l.left ≤ l.count;
  going : (origin : Rose) → put l.setting.number (rest_of l.setting.context.now l.fn.scope l.setting.depth l.span origin (map suffix_view (take l.count (drop l.first l.suffixes)))) l.fn.nodes ≡ and_then (put l.setting.number (rest_of l.setting.context.now l.fn.scope l.setting.depth l.span origin (map suffix_view (take l.left (drop l.first l.suffixes)))) l.nodes) (closing (link_closes l.setting.number l.setting.depth) l.links);
  scope : l.scope ≡ l.fn.scope;
}
