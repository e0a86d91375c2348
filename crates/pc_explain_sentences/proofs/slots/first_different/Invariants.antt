use Rattle.std.proofs.Common.{◌≡◌, ◌-◌}
use Rattle.pc_base.specs.Limits.{field_limit}
use Rattle.pc_explain_sentences.specs.Slots.{differs, least}
use Rattle.pc_explain_sentences.proofs.slots.first_different.Given as goal

abbrev pub invariant-loop-field : goal.invariant-loop-field
invariant-loop-field l = least (differs l.before l.after) (field_limit - l.field) l.field ≡ least (differs l.before l.after) field_limit 0
