-- A list under way.
use Rattle.std.proofs.Common.{◌≡◌, ◌≢◌, ℕ, suc, ◌+◌, ◌-◌, ◌<◌, ◌≤◌, List, [], ◌∷◌, ◌++◌, Option, Some, None, refl, sym, ap, subst, ◌∙◌, arith, append_assoc, append-nil}
use Rattle.std.specs.{Prelude.IsSomeAnd, FinMap.len}
use Rattle.pc_core.specs.CoreData.{CoreData}
use Rattle.pc_machine.proofs.Growing.{Changes, Grown, step_changes, few_at_start}
use Rattle.pc_semantics.specs.{declared.outcome.Lack.Lack, declared.outcome.Outcome.Outcome, declared.outcome.Outcome.TheVariants.{Moved, Skipped, Lacks, TooLong}, Configurations.{Configuration, start}, Step.step, Text.waiting}
use Rattle.pc_choose.specs.{declared.point.Point.Point, declared.step.Step.Step, Choice.{turn, stepped, at_first}, Choosers.Advances, Lists.{AfterStep, Follows, Chosen, most_steps}}

-- These steps were taken; what follows from here gives the whole list.
pub record Underway (core : CoreData) (seed n : ℕ) (p : Point) (c : Configuration) (list : List ℕ) : Type 0 where
  pub whole : (more : List ℕ) → Follows core seed (most_steps - n) p c more → Chosen core seed (list ++ more)
  pub few_objects : len c.objects ≤ 3 + n
  pub few_messages : waiting c ≤ 1 + n

pub begins : (core : CoreData) (seed : ℕ) (c : Configuration) → c ≡ start core → Underway core seed 0 at_first c []
begins core seed c is =
    subst (λ (d : Configuration). Underway core seed 0 at_first d []) (sym is)
    (record { whole = λ more f. f; few_objects = (few_at_start core).objects; few_messages = (few_at_start core).messages })

module _ (core : CoreData) (seed n : ℕ) (p : Point) (c : Configuration) (list : List ℕ) (u : Underway core seed n p c list) where
  -- all steps were taken
  pub is_full : most_steps ≤ n → Chosen core seed list
  is_full l =
      let e : most_steps - n ≡ 0 = omega (arith, l) in
      subst (Chosen core seed) (append-nil list) (u.whole [] (subst (λ (r : ℕ). Follows core seed r p c []) (sym e) refl))

  module _ (within : n < most_steps) where
    one_more : suc (most_steps - (n + 1)) ≡ most_steps - n
    one_more = omega (arith, within)

    -- it is no one's turn
    pub is_over : (q : Point) (d : Configuration) → Advances core seed p c q d None → Chosen core seed list
    is_over q d a = subst (Chosen core seed) (append-nil list) (u.whole [] (subst (λ (r : ℕ). Follows core seed r p c []) one_more a.0))

    module _ (q : Point) (d : Configuration) (s : Step) where
      abbrev FromTurn : Option Point → Type 0
      FromTurn t = IsSomeAnd t (λ x. (s.actor ≡ x.actor) × (q ≡ stepped x) × (◌≡◌ {A = Outcome × Configuration} (s.outcome, d) (step core c s.actor)))

      abbrev Then : List ℕ → Point → Outcome × Configuration → Type 0
      Then is y r = AfterStep (λ x. Follows core seed (most_steps - (n + 1)) y x is) is r

      follows : (is : List ℕ) → Then is q (s.outcome, d) → (t : Option Point) → FromTurn t → IsSomeAnd t (λ x. (s.actor ≡ x.actor) × Then is (stepped x) (step core c s.actor))
      follows is b None a = absurd a
      follows is b (Some x) a = (a.0, subst (λ (y : Point). Then is y (step core c s.actor)) a.1 (subst (λ (r : Outcome × Configuration). Then is q r) a.2 b))

      is_step : (t : Option Point) → FromTurn t → ◌≡◌ {A = Outcome × Configuration} (s.outcome, d) (step core c s.actor)
      is_step None a = absurd a
      is_step (Some x) a = a.2

      module _ (a : Advances core seed p c q d (Some s)) where
        with_step : (is : List ℕ) → Then is q (s.outcome, d) → Chosen core seed (list ++ s.actor ∷ is)
        with_step is b = u.whole (s.actor ∷ is) (subst (λ (r : ℕ). Follows core seed r p c (s.actor ∷ is)) one_more (follows is b (turn seed p c) a))

        -- the step moved
        pub goes_on : s.outcome ≡ Moved → Underway core seed (n + 1) q d (list ++ s.actor ∷ [])
        goes_on e =
            let is : ◌≡◌ {A = Outcome × Configuration} (Moved, d) (step core c s.actor) = ap (λ (o : Outcome). (o, d)) (sym e) ∙ is_step (turn seed p c) a in
            let g : Grown c d = subst (λ (r : Outcome × Configuration). Changes c r) (sym is) (step_changes c core s.actor) in
            record {
              whole = λ more f.
                  subst (Chosen core seed) (sym (append_assoc list (s.actor ∷ []) more))
                  (with_step more (subst (λ (o : Outcome). Then more q (o, d)) (sym e) f));
              few_objects = omega (arith, g.objects, u.few_objects);
              few_messages = omega (arith, g.messages, u.few_messages);
            }

        -- it ended the list
        ends : (o : Outcome) → o ≢ Moved → Then [] q (o, d)
        ends Moved m = absurd (m refl)
        ends Skipped m = refl
        ends (Lacks l) m = refl
        ends TooLong m = refl

        pub stops : s.outcome ≢ Moved → Chosen core seed (list ++ s.actor ∷ [])
        stops m = with_step [] (ends s.outcome m)

-- of the same core and seed
pub of_same : (core m : CoreData) (seed s : ℕ) (p : Point) (c : Configuration) (q : Point) (d : Configuration) (o r : Option Step) → m ≡ core → s ≡ seed → o ≡ r → Advances m s p c q d o → Advances core seed p c q d r
of_same core m seed s p c q d o r e f g a =
    subst (Advances core seed p c q d) g (subst (λ (k : CoreData). Advances k seed p c q d o) e (subst (λ (t : ℕ). Advances m t p c q d o) f a))

-- ---- outcomes that end a run

abbrev moves : Outcome → Type 0
moves Moved = Unit {0}
moves Skipped = ⊥
moves (Lacks l) = ⊥
moves TooLong = ⊥

pub skipped_ends : (o : Outcome) → o ≡ Skipped → o ≢ Moved
skipped_ends o e m = subst moves (sym m ∙ e) tt

pub too_long_ends : (o : Outcome) → o ≡ TooLong → o ≢ Moved
too_long_ends o e m = subst moves (sym m ∙ e) tt

pub lacks_ends : (o : Outcome) (l : Lack) → o ≡ Lacks l → o ≢ Moved
lacks_ends o l e m = subst moves (sym m ∙ e) tt
