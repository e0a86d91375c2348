-- Outcomes with their seeds, as entries.
use Rattle.std.specs.Prelude.{ℕ}
use Rattle.pc_outcomes.specs.{declared.entry.Entry.Entry, declared.entry.Outcome.Outcome, declared.entry.Play.Play, declared.entry.Seeds.Seeds}

-- The entry of an outcome and its seeds.
abbrev pub shown : Outcome × Seeds → Entry
shown e = record { seed = e.1.first; number = e.1.number; steps = e.1.steps; text = e.0.text.items; ending = e.0.ending }

-- A play of this outcome with this number of steps.
abbrev pub play_with : Outcome → (steps : ℕ) → Play
play_with outcome steps = record { text = outcome.text.items; ending = outcome.ending; steps = steps }
