use Rattle.std.proofs.Common.{◌≡◌, ◌++◌, drop, map}
use Rattle.pc_places.proofs.text.add_fields.Given as goal

abbrev pub invariant-loop-field : goal.invariant-loop-field
invariant-loop-field l = l.all ++ map (λ f. (l.entity, f)) (drop l.field-index l.fields) ≡ l.initial.all ++ map (λ f. (l.entity, f)) l.fields
