-- There is only one answer.
use Rattle.std.proofs.{Common.{◌≡◌, ◌⊎◌, ◌<◌, ◌≤◌, ℕ, List, [], ◌∷◌, ◌++◌, length, length-append, append-nil, Ok, Err, inl, inr, refl, sym, ap, ◌∙◌, subst, arith}, lemmas.Bool.cases_lt}
use Rattle.std.specs.Prelude.{slice_get}
use Rattle.pc_core.specs.CoreData.{CoreData}
use Rattle.pc_choose.specs.Laws.{ListsAreOne}
use Rattle.pc_outcomes.specs.{declared.entry.Entry.Entry, declared.entry.Play.Play, declared.fault.OutcomesFault.TheVariants.{Memory, Steps, Texts}, Plays.{ArePlays, IsPlayOfSeed}, Tables.{AreEntries, StepsPass, TextsPass, IsOutcomesTable, total_steps}}
use Rattle.pc_outcome_laws.specs.Laws.{AnswersAreOne}
use Rattle.pc_outcome_laws.proofs.{Firsts.{firsts, one_table}, Limits.{steps_grow, texts_grow}, Lists.{of_some, some_at}, OnePlay.{front_plays, one_play}}

module _ (one : ListsAreOne) (core : CoreData) where
  -- ---- the plays of more seeds

  -- The plays of the seeds below a seed, that of the seed, and the rest.
  next_play : (seed count : ℕ) (ps : List Play) (p : Play) (qs rest : List Play) → seed < count → ArePlays core seed ps → IsPlayOfSeed core seed p → ArePlays core count qs → qs ≡ ps ++ rest → (more : List Play) × (qs ≡ ps ++ p ∷ more)
  next_play seed count ps p qs [] l a is b e =
      let m = a.all in
      let n = b.all in
      let same : length qs ≡ length ps = ap (λ (x : List Play). length x) (e ∙ append-nil ps) in
      absurd (omega (arith, l, m, n, same))
  next_play seed count ps p qs (q ∷ more) l a is b e =
      let at = ap (λ (x : List Play). slice_get x (length ps)) e ∙ some_at ps q more in
      let there : IsPlayOfSeed core (length ps) q = of_some (IsPlayOfSeed core (length ps)) (slice_get qs (length ps)) q at (b.are (length ps)) in
      let own : q ≡ p = one_play one core seed q p (subst (λ (s : ℕ). IsPlayOfSeed core s q) a.all there) is in
      (more, subst (λ (x : Play). qs ≡ ps ++ x ∷ more) own e)

  with_play : (seed count : ℕ) (ps : List Play) (p : Play) (qs : List Play) → seed < count → ArePlays core seed ps → IsPlayOfSeed core seed p → ArePlays core count qs → (more : List Play) × (qs ≡ ps ++ p ∷ more)
  with_play seed count ps p qs l a is b = let f = front_plays one core seed count ps qs (omega (arith, l)) a b in next_play seed count ps p qs f.0 l a is b f.1

  no_rest : (count : ℕ) (ps qs rest : List Play) → ArePlays core count ps → ArePlays core count qs → qs ≡ ps ++ rest → ps ≡ qs
  no_rest count ps qs [] a b e = sym (e ∙ append-nil ps)
  no_rest count ps qs (q ∷ more) a b e =
      let m = a.all in
      let n = b.all in
      let long = ap (λ (x : List Play). length x) e ∙ length-append ps (q ∷ more) in
      absurd (omega (arith, m, n, long))

  same_plays : (count : ℕ) (ps qs : List Play) → ArePlays core count ps → ArePlays core count qs → ps ≡ qs
  same_plays count ps qs a b = let f = front_plays one core count count ps qs (omega arith) a b in no_rest count ps qs f.0 a b f.1

  -- ---- a seed that passes a limit

  not_told : (count seed : ℕ) (es : List Entry) → seed < count → IsOutcomesTable core count es → StepsPass core seed → ⊥
  not_told count seed es l t s =
      let w = with_play seed count s.table.plays s.play t.plays l s.table.are s.is t.are in
      let grow = steps_grow s.table.plays s.play w.0 in
      let few = t.few_steps in
      let same : total_steps t.plays ≡ total_steps (s.table.plays ++ s.play ∷ w.0) = ap total_steps w.1 in
      let past = s.passes in
      omega (arith, grow, few, same, past)

  not_told_texts : (count seed : ℕ) (es : List Entry) → seed < count → IsOutcomesTable core count es → TextsPass core seed → ⊥
  not_told_texts count seed es l t s =
      let w = with_play seed count s.table.plays s.play t.plays l s.table.are s.is t.are in
      let are = subst (λ (x : List Play). AreEntries x es) w.1 t.entries_are in
      let grow = texts_grow s.table.plays s.play w.0 s.entries es s.table.entries_are are s.new in
      let few = t.few_bytes in
      let past = s.passes in
      omega (arith, grow, few, past)

  not_both : (seed : ℕ) → StepsPass core seed → TextsPass core seed → ⊥
  not_both seed s t =
      let plays = ap total_steps (same_plays seed s.table.plays t.table.plays s.table.are t.table.are) in
      let own = ap (λ (p : Play). p.steps) (one_play one core seed s.play t.play s.is t.is) in
      let past = s.passes in
      let within = t.within in
      omega (arith, plays, own, past, within)

  -- ---- the table

  same_table : (count : ℕ) (es fs : List Entry) → IsOutcomesTable core count es → IsOutcomesTable core count fs → es ≡ fs
  same_table count es fs t u =
      one_table t.plays es t.entries_are ∙ ap (λ (x : List Play). firsts x [] x) (same_plays count t.plays u.plays t.are u.are) ∙ sym (one_table u.plays fs u.entries_are)

  -- ---- the seed

  steps_steps : (a b : ℕ) → StepsPass core a → StepsPass core b → (a < b) ⊎ (b ≤ a) → (b < a) ⊎ (a ≤ b) → a ≡ b
  steps_steps a b s t (inl l) q = absurd (not_told b a t.entries l t.table s)
  steps_steps a b s t (inr l) (inl m) = absurd (not_told a b s.entries m s.table t)
  steps_steps a b s t (inr l) (inr m) = omega (arith, l, m)

  texts_texts : (a b : ℕ) → TextsPass core a → TextsPass core b → (a < b) ⊎ (b ≤ a) → (b < a) ⊎ (a ≤ b) → a ≡ b
  texts_texts a b s t (inl l) q = absurd (not_told_texts b a t.entries l t.table s)
  texts_texts a b s t (inr l) (inl m) = absurd (not_told_texts a b s.entries m s.table t)
  texts_texts a b s t (inr l) (inr m) = omega (arith, l, m)

  steps_texts : (a b : ℕ) → StepsPass core a → TextsPass core b → (a < b) ⊎ (b ≤ a) → (b < a) ⊎ (a ≤ b) → ⊥
  steps_texts a b s t (inl l) q = not_told b a t.entries l t.table s
  steps_texts a b s t (inr l) (inl m) = not_told_texts a b s.entries m s.table t
  steps_texts a b s t (inr l) (inr m) = not_both a s (subst (λ (k : ℕ). TextsPass core k) (omega (arith, l, m)) t)

pub answers_are_one : ListsAreOne → AnswersAreOne
answers_are_one one core count (Ok es) (Ok fs) x y a b = ap (λ (l : List Entry). Ok l) (same_table one core count es fs a b)
answers_are_one one core count (Ok es) (Err (Steps s)) x y a b = absurd (not_told one core count s es b.0 a b.1)
answers_are_one one core count (Ok es) (Err (Texts s)) x y a b = absurd (not_told_texts one core count s es b.0 a b.1)
answers_are_one one core count (Ok es) (Err Memory) x y a b = absurd (y refl)
answers_are_one one core count (Err (Steps s)) (Ok es) x y a b = absurd (not_told one core count s es a.0 b a.1)
answers_are_one one core count (Err (Steps s)) (Err (Steps t)) x y a b = ap (λ (k : ℕ). Err (Steps k)) (steps_steps one core s t a.1 b.1 (cases_lt s t) (cases_lt t s))
answers_are_one one core count (Err (Steps s)) (Err (Texts t)) x y a b = absurd (steps_texts one core s t a.1 b.1 (cases_lt s t) (cases_lt t s))
answers_are_one one core count (Err (Steps s)) (Err Memory) x y a b = absurd (y refl)
answers_are_one one core count (Err (Texts s)) (Ok es) x y a b = absurd (not_told_texts one core count s es a.0 b a.1)
answers_are_one one core count (Err (Texts s)) (Err (Steps t)) x y a b = absurd (steps_texts one core t s b.1 a.1 (cases_lt t s) (cases_lt s t))
answers_are_one one core count (Err (Texts s)) (Err (Texts t)) x y a b = ap (λ (k : ℕ). Err (Texts k)) (texts_texts one core s t a.1 b.1 (cases_lt s t) (cases_lt t s))
answers_are_one one core count (Err (Texts s)) (Err Memory) x y a b = absurd (y refl)
answers_are_one one core count (Err Memory) b x y a c = absurd (x refl)
