use Rattle.std.proofs.Common.{◌≡◌, map, drop, length}
use Rattle.std.specs.Prelude.{replicate}
use Rattle.pc_tree.specs.View.{entity_view}
use Rattle.pc_member_counts.specs.{Blocks.nothing, Windows.filled}
use Rattle.pc_member_counts.proofs.window.list_blocks.Given as goal

abbrev pub invariant-loop-place : goal.invariant-loop-place
invariant-loop-place l =
    filled l.start (map entity_view l.all) l.listings l.order (replicate (length l.all) nothing) ≡ filled l.start (map entity_view l.all) l.listings (drop l.place-index l.order) l.table
