-- How often locals are defined.
use Rattle.std.specs.Prelude.{ℕ, ◌+◌, Bool, List, [], ◌∷◌, nat_eq, ◌&&◌}
use Rattle.pc_core.specs.declared.nodes.NodeKind.{NodeKind}
use Rattle.pc_body_spec.specs.{Bodies.{Rose, Roses, rose, more, no_roses, Context, slot_at}, Slots.Local, Places.local_start}
use Rattle.pc_base.specs.Counts.{one_if}
use Rattle.pc_core.specs.declared.nodes.NodeKind.TheVariants as node

-- A kind and depth count if they are those of a definition whose slot and depth pass a test.
abbrev pub kind_times : (ℕ → ℕ → Bool) → NodeKind → ℕ → ℕ
kind_times test (node.Define n) d = one_if (test n d)
kind_times test k d = 0

-- The number of definitions in a rose that pass the test.
abbrev mutual
  pub times : (ℕ → ℕ → Bool) → Rose → ℕ
  times test (rose k s d rs) = kind_times test k d + times_all test rs

  pub times_all : (ℕ → ℕ → Bool) → Roses → ℕ
  times_all test no_roses = 0
  times_all test (more r rs) = times test r + times_all test rs

-- The number of locals whose slot and depth pass the test.
abbrev pub local_times : Context → (ℕ → ℕ → Bool) → List Local → ℕ
local_times c test [] = 0
local_times c test (l ∷ ls) = one_if (test (slot_at c.slots (local_start l)) l.depth) + local_times c test ls

-- The tests for a slot, and for a slot at a depth.
abbrev pub has_slot : (wanted slot depth : ℕ) → Bool
has_slot slot n d = nat_eq n slot

abbrev pub has_place : (wanted_slot wanted_depth slot depth : ℕ) → Bool
has_place slot depth n d = nat_eq n slot && nat_eq d depth
