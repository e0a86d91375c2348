use Rattle.std.proofs.Common.{◌≡◌, ℕ, ◌+◌, ◌-◌, ◌≤◌, List}
use Rattle.pc_deriv.specs.Text.{derivation_limit}
use Rattle.pc_feed.proofs.FileParts.{Fulls}
use Rattle.pc_feed.proofs.parts.take_parts.Given as goal

abbrev pub invariant-parts : goal.invariant-parts
invariant-parts g l = record {
  fulls : Fulls l.fn.stream.core (g.F.Files.bytes l.initial.files l.name) l.from l.stream (g.R.Referee.asked l.initial.referee) (g.R.Referee.asked l.referee);
  later : (n : List ℕ) → g.F.Files.faults l.initial.files n ≤ g.F.Files.faults l.files n;
  same : (n : List ℕ) → g.F.Files.bytes l.files n ≡ g.F.Files.bytes l.initial.files n;
}

abbrev pub decreases-parts : goal.decreases-parts
decreases-parts g l = derivation_limit + 1 - l.from
