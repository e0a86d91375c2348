-- `outcomes` has a verdict.
use Rattle.std.proofs.{Common.{◌≡◌, ◌⊎◌, ◌<◌, ◌≤◌, ◌+◌, ℕ, zero, suc, Bool, true, false, List, [], ◌∷◌, ◌++◌, length, Ok, Err, inl, inr, refl, subst, arith}, lemmas.Bool.cases_lt}
use Rattle.std.specs.{Prelude.IsSome, List.list_any}
use Rattle.pc_choose.proofs.Listing.{lists_are_one}
use Rattle.pc_choose.specs.Able.{able_actors}
use Rattle.pc_core.specs.CoreData.{CoreData}
use Rattle.pc_base.specs.Lists.{Text}
use Rattle.pc_outcomes.specs.{Plays.{IsPlayOfSeed, ending_after}, Tables.{StepsPass, TextsPass, IsOutcomesTable, shows_outcome, steps_limit, texts_limit, total_steps, total_texts}, Texts.outcomes_text, Under.entry_of, declared.entry.Entry.Entry, declared.entry.Play.Play}
use Rattle.pc_outcomes.proofs.{Grouping.counted, Growing.{none_yet, with_new, with_shown}}
use Rattle.pc_semantics.specs.{Step.{after, outcomes}, Text.{end_of, lines}}
use Rattle.pc_refusals.specs.{Verdict.{Named, refused}, Source.source_limit}
use Rattle.pc_commands.specs.{Outcomes.{IsCount, OutcomesTelling, many_bytes_line, many_steps_line}, Outcomes.OutcomesTelling.{many_bytes, many_steps, tells}}
use Rattle.pc_top.specs.{Commands.Outcomes.{IsOutcomes, Tabled}, Shapes.OfAccepted, CoresFormed.CoresAreFormed}
use Rattle.pc_verdicts.proofs.{Numbers.{count_read, number_answers}, Shapes.accepted_answers, Stages.{Answers, HasEnd, ReadOn, ends_answer}}

module _ (core : CoreData) where
  play_of : (seed : ℕ) → (p : Play) × IsPlayOfSeed core seed p
  play_of seed =
      let one = lists_are_one core seed in (
        record { text = lines (after core one.list).printed; ending = ending_after (length (able_actors (after core one.list))) (end_of (outcomes core one.list)); steps = length one.list },
        record { list = one.list; chosen = one.chosen; text = refl; ending = refl; steps = refl },
      )

  -- The seeds below a count have a table, or one of them passes a limit.
  abbrev Table : ℕ → Type 0
  Table count = ((es : List Entry) × IsOutcomesTable core count es) ⊎ ((seed : ℕ) × (seed < count) × (StepsPass core seed ⊎ TextsPass core seed))

  module _ (seed : ℕ) (es : List Entry) (u : IsOutcomesTable core seed es) (p : Play) (is : IsPlayOfSeed core seed p) (few : total_steps u.plays + p.steps ≤ steps_limit) where
    by_shown : (b : Bool) → list_any (λ e. shows_outcome e p) es ≡ b → Table (seed + 1)
    by_shown true any = inl (counted u.plays p es, with_shown core seed es u p is few any)
    by_shown false none = elim (cases_lt texts_limit (total_texts es + length p.text)) [
      | inl long ↦ inr (seed, omega arith, inr (record { entries = es; table = u; play = p; is = is; within = few; new = none; passes = long }))
      | inr short ↦ inl (es ++ entry_of (length u.plays) p ∷ [], with_new core seed es u p is few none short)
    ]

  more : (seed : ℕ) (es : List Entry) → IsOutcomesTable core seed es → Table (seed + 1)
  more seed es u =
      let p = play_of seed in
      elim (cases_lt steps_limit (total_steps u.plays + p.0.steps)) [
        | inl many ↦ inr (seed, omega arith, inl (record { entries = es; table = u; play = p.0; is = p.1; passes = many }))
        | inr few ↦ by_shown seed es u p.0 p.1 few (list_any (λ e. shows_outcome e p.0) es) refl
      ]

  tables : (count : ℕ) → Table count
  tables zero = inl ([], none_yet core)
  tables (suc n) = elim (tables n) [
    | inl t ↦ let next : n + 1 ≡ suc n = omega arith in subst Table next (more n t.0 t.1)
    | inr t ↦ let l = t.1 in inr (t.0, omega (arith, l), t.2)
  ]

  telling_ends : (name : Text) (count : ℕ) → HasEnd (OutcomesTelling name core count)
  telling_ends name count = elim (tables count) [
    | inl t ↦ (Ok (outcomes_text count t.0), tells t.0 (outcomes_text count t.0) t.1 refl)
    | inr t ↦ elim t.2 [
      | inl h ↦ (Err (refused 8 (many_steps_line name t.0)), many_steps t.0 t.1 h)
      | inr h ↦ (Err (refused 8 (many_bytes_line name t.0)), many_bytes t.0 t.1 h)
    ]
  ]

pub outcomes_answers : CoresAreFormed → (source : Named) (count : Text) → ReadOn source_limit source → IsSome source.known → Answers (IsOutcomes source count)
outcomes_answers law source count on known =
    number_answers (IsCount count) (λ n. OfAccepted (Tabled source.name n) source) (count_read count)
    (λ n. accepted_answers law (Tabled source.name n) source on known
    (λ r a h. ends_answer (λ text. text) (OutcomesTelling source.name a.source.core n) (telling_ends a.source.core source.name n)))
