use Rattle.std.proofs.Common.{Some, ap, ap₂, ◌∙◌}
use Rattle.pc_tree.specs.Tree as t
use Rattle.pc_tree.specs.View.{seq_view, arms_view}
use Rattle.pc_tree.proofs.Views.{view_if}
use Rattle.pc_gen.specs.Program.{without_place}
use Rattle.pc_gen.proofs.parts.choice.Goals as goal

pub returns : goal.returns
returns c =
    let arms = ap arms_view c.in_ok-arms.ensures ∙ ap (λ a. t.arm a t.no_arms) c.arm.ensures in
    let other = ap (λ s. t.other (seq_view s)) c.in_ok-other.ensures.ok in
    view_if c.in_ok-arms.arms (Some c.in_ok-other.other) without_place ∙ ap₂ (λ a o. t.if_ a o without_place) arms other
