-- A play under way is the run of the list of its seed under way.
use Rattle.std.proofs.Common.{◌≡◌, ◌≢◌, ℕ, suc, ◌+◌, ◌-◌, ◌<◌, ◌≤◌, List, [], ◌∷◌, Option, Some, None, Result, Ok, Err, refl, sym, ap, subst, ◌∙◌, arith, zero-add, length, append-nil}
use Rattle.std.specs.{Prelude.{IsErrAnd, IsSomeAnd}, Io.KnownBytes.Appends}
use Rattle.pc_io.specs.Sink.{Change, change}
use Rattle.pc_run.specs.{declared.report.Report.Report, declared.report.RunFault.RunFault, declared.report.RunFault.TheVariants.Memory, declared.counts.Counts.Counts, declared.counts.Progress.Progress, declared.counts.Progress.TheVariants.Going, Counting.counted, Ends.{NeverLacks, IsAnswer, WritesText}, Underway.{Underway, ReachedSoFar}}
use Rattle.pc_core.specs.CoreData.{CoreData}
use Rattle.pc_semantics.specs.{declared.outcome.Lack.Lack, declared.outcome.Outcome.Outcome, declared.outcome.Outcome.TheVariants.{Moved, Skipped, Lacks, TooLong}, Configurations.{Configuration, start}, Step.step}
use Rattle.pc_machine.proofs.Growing.{few_at_start}
use Rattle.pc_sched.specs.Schedules.{turn_limit}
use Rattle.pc_run.proofs.Stepping.{never, stepped as run_stepped}
use Rattle.pc_choose.specs.{declared.point.Point.Point, declared.step.Step.Step, Choice.{turn, stepped, at_first}, Choosers.Advances, Lists.most_steps}
use Rattle.pc_choose.proofs.Listing.{list_of, after_turn, after_step, list_follows, list_short}
use Rattle.pc_play.specs.Plays.{IsThrough, PlaysAsRun}

abbrev pub seed_list : CoreData → (seed : ℕ) → List ℕ
seed_list core seed = list_of core seed most_steps at_first (start core)

-- This number of steps was taken, and all moved.
abbrev pub taken_all : ℕ → Counts
taken_all n = record { moved = n; skipped = 0 }

pub record UnderPlay (core : CoreData) (seed n : ℕ) (p : Point) (c : Configuration) : Type 0 where
  pub run : Underway core (seed_list core seed) c (taken_all n) (list_of core seed (most_steps - n) p c)
  pub count : n + length (list_of core seed (most_steps - n) p c) ≡ length (seed_list core seed)

pub begins : (core : CoreData) (seed : ℕ) (p : Point) (c : Configuration) → p ≡ at_first → c ≡ start core → UnderPlay core seed 0 p c
begins core seed p c first is =
    subst (λ (q : Point). UnderPlay core seed 0 q c) (sym first)
    (subst (λ (d : Configuration). UnderPlay core seed 0 at_first d) (sym is)
    (record {
      run = record {
        taken = [];
        list_is = refl;
        behind = λ more. refl;
        moved = zero-add _;
        skipped = zero-add _;
        end = refl;
        few_steps = let n = list_short core seed most_steps at_first (start core) (seed_list core seed) (list_follows core seed most_steps at_first (start core)) in omega (arith, n);
        few_objects = (few_at_start core).objects;
        few_messages = (few_at_start core).messages;
      };
      count = omega arith;
    }))

pub through : (core : CoreData) (seed : ℕ) (c : Configuration) (progress : Progress) (steps : ℕ) → ReachedSoFar core (seed_list core seed) c [] progress → steps ≡ length (seed_list core seed) → IsThrough core seed c progress steps
through core seed c progress steps r s = record { steps_are = s; list = seed_list core seed; chosen = list_follows core seed most_steps at_first (start core); reached = r }

module _ (core : CoreData) (seed n : ℕ) (p : Point) (c : Configuration) (u : UnderPlay core seed n p c) where
  pub is_full : most_steps ≤ n → IsThrough core seed c (Going (taken_all n)) n
  is_full l =
      let e : most_steps - n ≡ 0 = omega (arith, l) in
      let n_is = u.count in
      let none = ap (λ (r : ℕ). length (list_of core seed r p c)) e in
      through core seed c (Going (taken_all n)) n (subst (λ (r : ℕ). Underway core (seed_list core seed) c (taken_all n) (list_of core seed r p c)) e u.run) (omega (arith, n_is, none))

  module _ (within : n < most_steps) where
    one_more : suc (most_steps - (n + 1)) ≡ most_steps - n
    one_more = omega (arith, within)

    left_is : list_of core seed (most_steps - n) p c ≡ after_turn core (list_of core seed (most_steps - (n + 1))) c (turn seed p c)
    left_is = ap (λ (r : ℕ). list_of core seed r p c) (sym one_more)

    nothing : turn seed p c ≡ None → list_of core seed (most_steps - n) p c ≡ []
    nothing e = left_is ∙ ap (after_turn core (list_of core seed (most_steps - (n + 1))) c) e

    pub is_over : (q : Point) (d : Configuration) → Advances core seed p c q d None → IsThrough core seed d (Going (taken_all n)) n
    is_over q d a =
        subst (λ (x : Configuration). IsThrough core seed x (Going (taken_all n)) n) (sym a.1)
        (through core seed c (Going (taken_all n)) n
        (subst (Underway core (seed_list core seed) c (taken_all n)) (nothing a.0) u.run)
        (let k = u.count in let e = ap length (nothing a.0) in omega (arith, k, e)))

    module _ (q : Point) (d : Configuration) (s : Step) where
      abbrev left_behind : Outcome × Configuration → List ℕ
      left_behind r = after_step (list_of core seed (most_steps - (n + 1)) q) r

      abbrev FromTurn : Option Point → Type 0
      FromTurn t = IsSomeAnd t (λ x. (s.actor ≡ x.actor) × (q ≡ stepped x) × (◌≡◌ {A = Outcome × Configuration} (s.outcome, d) (step core c s.actor)))

      list_from : (t : Option Point) → FromTurn t → after_turn core (list_of core seed (most_steps - (n + 1))) c t ≡ s.actor ∷ left_behind (s.outcome, d)
      list_from None a = absurd a
      list_from (Some x) a =
          ap (λ (k : ℕ). k ∷ after_step (list_of core seed (most_steps - (n + 1)) (stepped x)) (step core c k)) (sym a.0)
          ∙ ap (λ (y : Point). s.actor ∷ after_step (list_of core seed (most_steps - (n + 1)) y) (step core c s.actor)) (sym a.1)
          ∙ ap (λ (r : Outcome × Configuration). s.actor ∷ left_behind r) (sym a.2)

      is_step : (t : Option Point) → FromTurn t → ◌≡◌ {A = Outcome × Configuration} (s.outcome, d) (step core c s.actor)
      is_step None a = absurd a
      is_step (Some x) a = a.2

      module _ (a : Advances core seed p c q d (Some s)) where
        under : Underway core (seed_list core seed) c (taken_all n) (s.actor ∷ left_behind (s.outcome, d))
        under = subst (Underway core (seed_list core seed) c (taken_all n)) (left_is ∙ list_from (turn seed p c) a) u.run

        count_on : n + 1 + length (left_behind (s.outcome, d)) ≡ length (seed_list core seed)
        count_on = let k = u.count in let e = ap length (left_is ∙ list_from (turn seed p c) a) in omega (arith, k, e)

        pub room_for_step : n + 0 < turn_limit
        room_for_step = omega (arith, within)

        module _ (safe : NeverLacks core) where
          pub never_lacks : (l : Lack) → s.outcome ≡ Lacks l → ⊥
          never_lacks l e = never core (seed_list core seed) c (taken_all n) s.actor (left_behind (s.outcome, d)) under safe d s.outcome (is_step (turn seed p c) a) l e

          reached : ReachedSoFar core (seed_list core seed) d (left_behind (s.outcome, d)) (counted (taken_all n) s.outcome)
          reached = run_stepped core (seed_list core seed) c (taken_all n) s.actor (left_behind (s.outcome, d)) under safe d s.outcome (is_step (turn seed p c) a)

          pub goes_on : s.outcome ≡ Moved → UnderPlay core seed (n + 1) q d
          goes_on e = record {
            run = subst (λ (o : Outcome). ReachedSoFar core (seed_list core seed) d (left_behind (o, d)) (counted (taken_all n) o)) e reached;
            count = subst (λ (o : Outcome). n + 1 + length (left_behind (o, d)) ≡ length (seed_list core seed)) e count_on;
          }

          nothing_left : (o : Outcome) → o ≢ Moved → left_behind (o, d) ≡ []
          nothing_left Moved m = absurd (m refl)
          nothing_left Skipped m = refl
          nothing_left (Lacks l) m = refl
          nothing_left TooLong m = refl

          pub stops : s.outcome ≢ Moved → (progress : Progress) → progress ≡ counted (taken_all n) s.outcome → IsThrough core seed d progress (n + 1)
          stops m progress is =
              through core seed d progress (n + 1)
              (subst (ReachedSoFar core (seed_list core seed) d []) (sym is)
              (subst (λ (l : List ℕ). ReachedSoFar core (seed_list core seed) d l (counted (taken_all n) s.outcome)) (nothing_left s.outcome m) reached))
              (let e = ap length (nothing_left s.outcome m) in let j = count_on in omega (arith, e, j))

-- ---- a whole play

-- no bytes more
nothing_more : (w : Option (List ℕ)) → Appends w w []
nothing_more None = tt
nothing_more (Some xs) = sym (append-nil xs)

-- Memory ran out before anything was written.
pub refused : (core : CoreData) (seed : ℕ) (w : Option (List ℕ)) (f : ℕ) (e : RunFault) (r : Result Report RunFault) → IsErrAnd r (λ x. x ≡ e) → e ≡ Memory → PlaysAsRun core seed (change w w f f) r
refused core seed w f e (Ok x) by is = absurd by
refused core seed w f e (Err x) by is =
    subst (λ (y : RunFault). PlaysAsRun core seed (change w w f f) (Err y)) (sym (by ∙ is))
    (record { list = seed_list core seed; chosen = list_follows core seed most_steps at_first (start core); answers = tt; writes = (0, nothing_more w) })

pub played : (core m : CoreData) (seed : ℕ) (c : Configuration) (progress : Progress) (steps : ℕ) (out : Change) (r : Result Report RunFault) → m ≡ core → IsThrough core seed c progress steps
    → ((list : List ℕ) → ReachedSoFar m list c [] progress → IsAnswer m list out.faults_before out.faults_now r)
    → ((list : List ℕ) → ReachedSoFar m list c [] progress → WritesText m list out.before out.now r)
    → PlaysAsRun core seed out r
played core m seed c progress steps out r same t a w =
    let reached : ReachedSoFar m t.list c [] progress = subst (λ (k : CoreData). ReachedSoFar k t.list c [] progress) (sym same) t.reached in
    record {
      list = t.list;
      chosen = t.chosen;
      answers = subst (λ (k : CoreData). IsAnswer k t.list out.faults_before out.faults_now r) same (a t.list reached);
      writes = subst (λ (k : CoreData). WritesText k t.list out.before out.now r) same (w t.list reached);
    }
