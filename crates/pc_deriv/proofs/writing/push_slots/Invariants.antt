use Rattle.std.proofs.Common.{◌≡◌, ◌++◌, drop, take}
use Rattle.std.specs.List.{AllByRecursion}
use Rattle.pc_deriv.specs.{Text.{slot_line, SlotFits}, Parts.each_line}
use Rattle.pc_deriv.proofs.writing.push_slots.Given as goal

abbrev pub invariant-loop-slot : goal.invariant-loop-slot
invariant-loop-slot l = AllByRecursion SlotFits (take l.slot-index l.slots) × (l.out.items ++ each_line slot_line (drop l.slot-index l.slots) ≡ l.initial.out.items ++ each_line slot_line l.slots)
