-- A run of a list goes on by a step.
use Rattle.std.proofs.{Common.{◌≡◌, ℕ, ◌+◌, ◌<◌, ◌≤◌, List, [], ◌∷◌, ◌++◌, length, get_or, take, drop, Option, Some, None, refl, sym, ap, ◌∙◌, subst, arith, append_assoc, append-nil}, lemmas.List.{drop_more, take_more, take-append-drop}}
use Rattle.std.specs.FinMap.{len}
use Rattle.pc_core.specs.CoreData.{CoreData}
use Rattle.pc_heap.specs.Heaps.{object_limit}
use Rattle.pc_machine.proofs.Growing.{Changes, Grown, step_changes, few_at_start}
use Rattle.pc_machine.specs.{Machines.message_limit, Limits.list_limit}
use Rattle.pc_semantics.specs.{declared.outcome.Lack.Lack, declared.outcome.Outcome.Outcome, Configurations.{Configuration, start}, Step.{after, followed, outcomes, outcomes_from, run_from, step}, Safety.LacksNothing, Text.{ended_at, end_of, waiting}}
use Rattle.pc_semantics.specs.declared.outcome.Outcome.TheVariants as outcome
use Rattle.pc_list_steps.proofs.Underway.{Underway}
use Rattle.pc_base.proofs.Cuts.{take_whole}

-- ---- before the first step

pub begins : (core : CoreData) (list : List ℕ) (c : Configuration) → c ≡ start core → Underway core list 0 c
begins core list c is =
    subst (λ (d : Configuration). Underway core list 0 d) (sym is)
    (record { behind = λ more. refl; end = refl; few_objects = (few_at_start core).objects; few_messages = (few_at_start core).messages })

-- ---- after the last one

past : {X : Type 0} (xs : List X) → drop (length xs) xs ≡ []
past [] = refl
past (x ∷ xs) = past xs

module _ (core : CoreData) (list : List ℕ) (c : Configuration) (u : Underway core list (length list) c) where
  pub is_behind : c ≡ after core list
  is_behind = u.behind [] ∙ ap (after core) (append-nil (take (length list) list) ∙ take_whole list)

  pub is_ended : end_of (outcomes core list) ≡ None
  is_ended = sym u.end ∙ ap (λ (l : List ℕ). ended_at (length list + 1) (outcomes_from core c l)) (past list)

-- ---- one step

module _ (core : CoreData) (list : List ℕ) (n : ℕ) (c : Configuration) (u : Underway core list n c) (within : n < length list) (few : length list ≤ list_limit) where
  pub room_for_objects : len c.objects < object_limit
  room_for_objects = omega (arith, u.few_objects, within, few)

  pub room_for_messages : waiting c < message_limit
  room_for_messages = omega (arith, u.few_messages, within, few)

  module _ (i : ℕ) (is : i ≡ get_or list n 0) where
    left : drop n list ≡ i ∷ drop (n + 1) list
    left = drop_more list n 0 within ∙ ap (λ x. x ∷ drop (n + 1) list) (sym is)

    taken : take (n + 1) list ≡ take n list ++ i ∷ []
    taken = take_more list n 0 within ∙ ap (λ x. take n list ++ x ∷ []) (sym is)

    -- The configuration is the one after the first n steps.
    here : c ≡ after core (take n list)
    here = u.behind [] ∙ ap (after core) (append-nil (take n list))

    end_here : ended_at (n + 1) (outcomes_from core c (i ∷ drop (n + 1) list)) ≡ end_of (outcomes core list)
    end_here = ap (λ (l : List ℕ). ended_at (n + 1) (outcomes_from core c l)) (sym left) ∙ u.end

    on : (more : List ℕ) → run_from core c (i ∷ more) ≡ after core (take (n + 1) list ++ more)
    on more =
        u.behind (i ∷ more) ∙ ap (after core) (sym (append_assoc (take n list) (i ∷ []) more)) ∙ ap (λ (l : List ℕ). after core (l ++ more)) (sym taken)

    -- by how the step ended, the rest of the run and how its steps end
    abbrev rest : Outcome × Configuration → List ℕ → Configuration
    rest r more = followed (λ next. run_from core next more) c c r

    abbrev ends : Outcome × Configuration → Option (ℕ × Outcome)
    ends r = ended_at (n + 1) (r.0 ∷ followed (λ next. outcomes_from core next (drop (n + 1) list)) [] c r)

    module _ (d : Configuration) where
      pub never : ((more : List ℕ) → LacksNothing core (after core more)) → (o : Outcome) → ◌≡◌ {A = Outcome × Configuration} (o, d) (step core c i) → (l : Lack) → o ≡ outcome.Lacks l → ⊥
      never safe o e l lacks =
          let at : LacksNothing core c = subst (λ (x : Configuration). LacksNothing core x) (sym here) (safe (take n list)) in
          at i l (sym (ap (λ (x : Outcome × Configuration). x.0) e) ∙ lacks)

      module _ (o : Outcome) (e : ◌≡◌ {A = Outcome × Configuration} (o, d) (step core c i)) where
        changed : Changes c (o, d)
        changed = subst (λ (r : Outcome × Configuration). Changes c r) (sym e) (step_changes c core i)

        rest_is : (more : List ℕ) → rest (o, d) more ≡ after core (take (n + 1) list ++ more)
        rest_is more = ap (λ (r : Outcome × Configuration). rest r more) e ∙ on more

        ends_is : ends (o, d) ≡ end_of (outcomes core list)
        ends_is = ap ends e ∙ end_here

      pub moved : ◌≡◌ {A = Outcome × Configuration} (outcome.Moved, d) (step core c i) → Underway core list (n + 1) d
      moved e =
          let g : Grown c d = changed outcome.Moved e in
          record {
            behind = rest_is outcome.Moved e;
            end = ends_is outcome.Moved e;
            few_objects = omega (arith, g.objects, u.few_objects);
            few_messages = omega (arith, g.messages, u.few_messages);
          }

      pub skipped : ◌≡◌ {A = Outcome × Configuration} (outcome.Skipped, d) (step core c i) → Underway core list (n + 1) d
      skipped e =
          let same : d ≡ c = changed outcome.Skipped e in
          subst (λ (x : Configuration). Underway core list (n + 1) x) (sym same)
          (record {
            behind = rest_is outcome.Skipped e;
            end = ends_is outcome.Skipped e;
            few_objects = omega (arith, u.few_objects);
            few_messages = omega (arith, u.few_messages);
          })

      pub too_long_end : ◌≡◌ {A = Outcome × Configuration} (outcome.TooLong, d) (step core c i) → end_of (outcomes core list) ≡ Some (n + 1, outcome.TooLong)
      too_long_end e = sym (ends_is outcome.TooLong e)

      pub too_long_behind : ◌≡◌ {A = Outcome × Configuration} (outcome.TooLong, d) (step core c i) → d ≡ after core list
      too_long_behind e =
          let same : d ≡ c = changed outcome.TooLong e in
          let stops : run_from core c (i ∷ drop (n + 1) list) ≡ c = sym (ap (λ (r : Outcome × Configuration). rest r (drop (n + 1) list)) e) in
          same ∙ sym stops ∙ ap (run_from core c) (sym left) ∙ u.behind (drop n list) ∙ ap (after core) (take-append-drop n list)
