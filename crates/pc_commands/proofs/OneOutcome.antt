-- Any two verdicts on the outcomes of a core are equal, and what its verdicts have.
use Rattle.std.proofs.Common.{◌≡◌, ◌≢◌, ◌⊎◌, ℕ, List, [], Ok, Err, inl, inr, refl, sym, ap, ◌∙◌, arith}
use Rattle.std.specs.Prelude.{Result}
use Rattle.pc_core.specs.CoreData.{CoreData}
use Rattle.pc_base.specs.Lists.{Text}
use Rattle.pc_outcome_laws.specs.Laws.{AnswersAreOne}
use Rattle.pc_outcomes.specs.{Tables.{AnswersTable, IsOutcomesTable}, Texts.outcomes_text, declared.entry.Entry.Entry, declared.fault.OutcomesFault.OutcomesFault, declared.fault.OutcomesFault.TheVariants.{Memory, Steps, Texts}}
use Rattle.pc_refusals.specs.{Ends.HasOneEnd, Verdict.{Verdict, IsAccepting, done, refused}}
use Rattle.pc_refusals.proofs.Statuses.{IsOther, other_refuses}
use Rattle.pc_commands.specs.{Outcomes.{IsCount, OutcomesTelling, many_bytes_line, many_steps_line}, Outcomes.OutcomesTelling.{many_bytes, many_steps, tells}}

-- ---- one verdict

-- What a result is reported as. No verdict reports that memory ran out.
abbrev told_as : Text → (count : ℕ) → Result (List Entry) OutcomesFault → Result Text Verdict
told_as name count (Ok entries) = Ok (outcomes_text count entries)
told_as name count (Err (Steps seed)) = Err (refused 8 (many_steps_line name seed))
told_as name count (Err (Texts seed)) = Err (refused 8 (many_bytes_line name seed))
told_as name count (Err Memory) = Ok []

-- The end of a table is that of a result.
record EndOf (name : Text) (core : CoreData) (count : ℕ) (end : Result Text Verdict) : Type 0 where
  pub answer : Result (List Entry) OutcomesFault
  pub answers : AnswersTable core count answer
  pub is_told : answer ≢ Err Memory
  pub same : end ≡ told_as name count answer

of_answer : {name : Text} {core : CoreData} {count : ℕ} {end : Result Text Verdict} → OutcomesTelling name core count end → EndOf name core count end
of_answer (tells entries text t is) = record { answer = Ok entries; answers = t; is_told = λ e. cc; same = ap (λ (x : Text). Ok x) is }
of_answer (many_steps seed within past) = record { answer = Err (Steps seed); answers = (within, past); is_told = λ e. cc; same = refl }
of_answer (many_bytes seed within past) = record { answer = Err (Texts seed); answers = (within, past); is_told = λ e. cc; same = refl }

pub one_telling : AnswersAreOne → (name : Text) (core : CoreData) (count : ℕ) → HasOneEnd (OutcomesTelling name core count)
one_telling law name core count x y h k =
    let a = of_answer h in
    let b = of_answer k in
    a.same ∙ ap (told_as name count) (law core count a.answer b.answer a.is_told b.is_told a.answers b.answers) ∙ sym b.same

-- the count that a word spells
pub one_count : (word : Text) (n m : ℕ) → IsCount word n → IsCount word m → n ≡ m
one_count word n m p q = p.0.2 ∙ sym q.0.2

-- ---- its statuses

pub refusal_other : {name : Text} {core : CoreData} {count : ℕ} {v : Verdict} → OutcomesTelling name core count (Err v) → IsOther v.status
refusal_other (many_steps seed within past) = (omega arith, omega arith)
refusal_other (many_bytes seed within past) = (omega arith, omega arith)

-- ---- its text

told_by : {name : Text} {core : CoreData} {count : ℕ} {text : Text} → OutcomesTelling name core count (Ok text) → (entries : List Entry) × IsOutcomesTable core count entries × (text ≡ outcomes_text count entries)
told_by (tells entries text t is) = (entries, t, is)

pub table_by : {name : Text} {core : CoreData} {count : ℕ} {v : Verdict} → IsAccepting v.status → ((text : Text) × OutcomesTelling name core count (Ok text) × (v ≡ done text)) ⊎ OutcomesTelling name core count (Err v)
    → (entries : List Entry) × IsOutcomesTable core count entries × (v.out ≡ outcomes_text count entries)
table_by e (inl (text, h, is)) = let t = told_by h in (t.0, t.1, ap (λ (w : Verdict). w.out) is ∙ t.2)
table_by {v = v} e (inr h) = absurd (other_refuses v.status (refusal_other h) e)
