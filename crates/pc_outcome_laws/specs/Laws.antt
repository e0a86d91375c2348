-- There is only one answer to which outcomes the seeds below a count have.
use Rattle.std.specs.Prelude.{◌≡◌, ◌≢◌, ℕ, List, Result, Err}
use Rattle.pc_core.specs.CoreData.{CoreData}
use Rattle.pc_outcomes.specs.{Tables.AnswersTable, declared.entry.Entry.Entry, declared.fault.OutcomesFault.OutcomesFault, declared.fault.OutcomesFault.TheVariants.Memory}

-- Any two answers are equal, unless memory ran out for one of them.
abbrev pub AnswersAreOne : Type 0
AnswersAreOne =
    (core : CoreData) (count : ℕ) (a b : Result (List Entry) OutcomesFault) → a ≢ Err Memory → b ≢ Err Memory → AnswersTable core count a → AnswersTable core count b → a ≡ b
