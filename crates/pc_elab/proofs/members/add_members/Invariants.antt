use Rattle.std.proofs.Common.{◌≡◌, drop, map}
use Rattle.pc_tree.specs.View.{entity_view}
use Rattle.pc_file_spec.specs.Cores.{owned}
use Rattle.pc_elab.specs.{Outcomes.{own_members, with_slots}, Views.parts_view}
use Rattle.pc_members.specs.Views.{members_view}
use Rattle.pc_elab.proofs.members.add_members.Given as goal

abbrev pub invariant-loop-member : goal.invariant-loop-member
invariant-loop-member l =
    (own_members l.fn.context (parts_view l.fn.parts) (map (owned l.number (entity_view l.entity)) (members_view l.members)) ≡ own_members l.fn.context (parts_view l.parts) (map (owned l.number (entity_view l.entity)) (members_view (drop l.member-index l.members))))
    × (l.context ≡ with_slots l.fn.context l.context.slots)
