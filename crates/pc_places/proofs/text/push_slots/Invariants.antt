use Rattle.std.proofs.Common.{◌≡◌, ◌++◌, drop}
use Rattle.pc_places.specs.Text.{slots_text}
use Rattle.pc_places.proofs.text.push_slots.Given as goal

abbrev pub invariant-loop-slot : goal.invariant-loop-slot
invariant-loop-slot l = record {
  rest : l.text.items ++ slots_text l.core l.tokens l.source l.number (drop l.slot-index l.core.slots) ≡ l.initial.text.items ++ slots_text l.core l.tokens l.source 0 l.core.slots;
  at : l.number ≡ l.slot-index;
}
