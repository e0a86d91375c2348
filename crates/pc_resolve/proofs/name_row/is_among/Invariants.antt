use Rattle.std.proofs.Common.{◌≡◌, drop}
use Rattle.pc_body_spec.specs.Bodies as spec
use Rattle.pc_resolve.proofs.name_row.is_among.Given as goal

abbrev pub invariant-loop-known : goal.invariant-loop-known
invariant-loop-known l = spec.is_among_names (drop l.known-index l.row) l.name ≡ spec.is_among_names l.row l.name
