-- Tables of outcomes.
use Rattle.std.specs.{Prelude.{◌≡◌, ℕ, ◌+◌, ◌<◌, ◌≤◌, Bool, true, false, List, [], ◌∷◌, length, take, Result, Ok, Err, IsSomeAnd, slice_get, ⊤}, List.{AllByRecursion, count_by, list_any, sum_by}}
use Rattle.pc_core.specs.CoreData.{CoreData}
use Rattle.pc_outcomes.specs.{declared.entry.Entry.Entry, declared.entry.Play.Play, declared.fault.OutcomesFault.OutcomesFault, Plays.{ArePlays, IsPlayOfSeed, has_outcome}}
use Rattle.pc_outcomes.specs.declared.fault.OutcomesFault.TheVariants as fault

-- how many steps all plays may have together
abbrev pub steps_limit : ℕ
steps_limit = 100000000

-- how many bytes the texts of all entries may have together
abbrev pub texts_limit : ℕ
texts_limit = 67108864

-- ---- entries of plays

-- The play has the entry's outcome.
abbrev pub shows_outcome : Entry → Play → Bool
shows_outcome e play = has_outcome e.text e.ending play

-- The play is that of the entry's first seed.
pub record IsFirstPlay (e : Entry) (play : Play) : Type 0 where
  pub text : play.text ≡ e.text
  pub ending : play.ending ≡ e.ending
  pub steps : play.steps ≡ e.steps

-- An entry of these plays: its seed is the first with its outcome, and its number is how many have it.
pub record IsEntry (plays : List Play) (e : Entry) : Type 0 where
  pub first : IsSomeAnd (slice_get plays e.seed) (IsFirstPlay e)
  pub none_before : count_by (shows_outcome e) (take e.seed plays) ≡ 0
  pub number : e.number ≡ count_by (shows_outcome e) plays

-- The first seeds ascend, from a lower bound on.
abbrev pub Ascend : ℕ → List Entry → Type 0
Ascend low [] = ⊤
Ascend low (e ∷ es) = (low ≤ e.seed) × Ascend (e.seed + 1) es

-- The entry has another outcome than this one.
abbrev pub HasOtherOutcome : Entry → Entry → Type 0
HasOtherOutcome e f = has_outcome e.text e.ending (record { text = f.text; ending = f.ending; steps = f.steps }) ≡ false

-- No two entries have the same outcome.
abbrev pub AllDiffer : List Entry → Type 0
AllDiffer [] = ⊤
AllDiffer (e ∷ es) = AllByRecursion (HasOtherOutcome e) es × AllDiffer es

-- The entries of plays: one for each outcome.
pub record AreEntries (plays : List Play) (entries : List Entry) : Type 0 where
  pub each : AllByRecursion (IsEntry plays) entries
  pub every : AllByRecursion (λ play. list_any (λ e. shows_outcome e play) entries ≡ true) plays
  pub ascend : Ascend 0 entries
  pub differ : AllDiffer entries

-- ---- within the limits

abbrev pub total_steps : List Play → ℕ
total_steps plays = sum_by (λ (p : Play). p.steps) plays

abbrev pub total_texts : List Entry → ℕ
total_texts entries = sum_by (λ (e : Entry). length e.text) entries

-- The table of the seeds below a count, within the limits.
pub record IsOutcomesTable (core : CoreData) (count : ℕ) (entries : List Entry) : Type 0 where
  pub plays : List Play
  pub are : ArePlays core count plays
  pub entries_are : AreEntries plays entries
  pub few_steps : total_steps plays ≤ steps_limit
  pub few_bytes : total_texts entries ≤ texts_limit

-- The plays have too many steps with the play of this seed, and do not without it.
pub record StepsPass (core : CoreData) (seed : ℕ) : Type 0 where
  pub entries : List Entry
  pub table : IsOutcomesTable core seed entries
  pub play : Play
  pub is : IsPlayOfSeed core seed play
  pub passes : steps_limit < total_steps table.plays + play.steps

-- This seed has a new outcome, with whose text the entries have too many bytes; without it they do not.
pub record TextsPass (core : CoreData) (seed : ℕ) : Type 0 where
  pub entries : List Entry
  pub table : IsOutcomesTable core seed entries
  pub play : Play
  pub is : IsPlayOfSeed core seed play
  pub within : total_steps table.plays + play.steps ≤ steps_limit
  pub new : list_any (λ e. shows_outcome e play) entries ≡ false
  pub passes : texts_limit < total_texts entries + length play.text

-- What `outcomes` returns: the table, or the seed that passes a limit. Running out of memory is always allowed.
abbrev pub AnswersTable : CoreData → (count : ℕ) → Result (List Entry) OutcomesFault → Type 0
AnswersTable core count (Ok entries) = IsOutcomesTable core count entries
AnswersTable core count (Err (fault.Steps seed)) = (seed < count) × StepsPass core seed
AnswersTable core count (Err (fault.Texts seed)) = (seed < count) × TextsPass core seed
AnswersTable core count (Err fault.Memory) = ⊤
