-- A table in the making.
use Rattle.std.specs.Prelude.{◌≡◌, ℕ, ◌+◌, List, Result, Ok, Err, ⊤}
use Rattle.pc_core.specs.CoreData.{CoreData}
use Rattle.pc_outcomes.specs.{declared.entry.Entry.Entry, declared.entry.Play.Play, declared.fault.OutcomesFault.OutcomesFault, declared.table.Totals.Totals, Tables.{IsOutcomesTable, StepsPass, TextsPass, total_steps, total_texts}}
use Rattle.pc_outcomes.specs.declared.fault.OutcomesFault.TheVariants as fault

-- The entry with one seed more.
abbrev pub one_more : Entry → Entry
one_more e = record { seed = e.seed; number = e.number + 1; steps = e.steps; text = e.text; ending = e.ending }

-- The entry of a play with a new outcome.
abbrev pub entry_of : (seed : ℕ) → Play → Entry
entry_of seed p = record { seed = seed; number = 1; steps = p.steps; text = p.text; ending = p.ending }

-- The seeds below this one have these entries and these totals.
pub record Under (core : CoreData) (seed : ℕ) (entries : List Entry) (totals : Totals) : Type 0 where
  pub table : IsOutcomesTable core seed entries
  pub steps : totals.steps ≡ total_steps table.plays
  pub texts : totals.texts ≡ total_texts entries

-- The entries and totals after adding the play of a seed.
abbrev pub AddsTo : CoreData → (seed : ℕ) → List Entry → Result Totals OutcomesFault → Type 0
AddsTo core seed entries (Ok totals) = Under core (seed + 1) entries totals
AddsTo core seed entries (Err (fault.Steps s)) = (s ≡ seed) × StepsPass core seed
AddsTo core seed entries (Err (fault.Texts s)) = (s ≡ seed) × TextsPass core seed
AddsTo core seed entries (Err fault.Memory) = ⊤
