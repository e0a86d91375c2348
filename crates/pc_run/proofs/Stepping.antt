-- A run goes on by a step.
use Rattle.std.proofs.{Common.{◌≡◌, ℕ, suc, ◌+◌, ◌-◌, ◌<◌, ◌≤◌, Bool, List, [], ◌∷◌, ◌++◌, length, take, replicate, cond, refl, sym, ap, ◌∙◌, subst, arith, append_assoc, append-nil, length-append, zero-add}, Math.Seq.take-append_seam, lemmas.List.length-replicate, lemmas.List.Sums.sum_by-cons}
use Rattle.std.specs.{Prelude.{Result, Ok, Err, OnErr}, List.count_by, FinMap.len}
use Rattle.pc_core.specs.CoreData.{CoreData}
use Rattle.pc_heap.specs.Heaps.{object_limit}
use Rattle.pc_machine.specs.Machines.{message_limit}
use Rattle.pc_sched.specs.{declared.turns.Turn.Turn, Schedules.{turn_limit, total}}
use Rattle.pc_semantics.specs.{declared.outcome.Lack.Lack, declared.outcome.Outcome.Outcome, Configurations.{Configuration, start}, Step.{after, followed, outcomes, outcomes_from, run_from, step}, Safety.LacksNothing, Text.{ended_at, end_of, is_moved, is_skipped, waiting}}
use Rattle.pc_semantics.specs.declared.outcome.Outcome.TheVariants as outcome
use Rattle.pc_run.specs.{declared.counts.Counts.Counts, declared.counts.Progress.Progress, Counting.counted, Ends.{NeverLacks, IsBegun}, Spreading.spread, Underway.{Underway, ReachedSoFar}}
use Rattle.pc_machine.proofs.Growing.{Changes, step_changes, few_at_start}

-- ---- the steps of turns

pub length-spread : (turns : List Turn) → length (spread turns) ≡ total turns
length-spread [] = refl
length-spread (t ∷ ts) =
    length-append (replicate t.times t.actor) (spread ts) ∙ ap (λ n. n + length (spread ts)) (length-replicate t.times t.actor) ∙ ap (λ n. t.times + n) (length-spread ts)

-- one step of an actor less
pub replicate_next : (n k i : ℕ) (rest : List ℕ) → k < n → replicate (n - k) i ++ rest ≡ i ∷ (replicate (n - (k + 1)) i ++ rest)
replicate_next n k i rest l = let e : n - k ≡ suc (n - (k + 1)) = omega arith in ap (λ m. replicate m i ++ rest) e

-- a count of outcomes, by the first of them
count_more : (p : Outcome → Bool) (o : Outcome) (os all : List Outcome) → o ∷ os ≡ all → count_by p all ≡ cond (p o) 1 0 + count_by p os
count_more p o os all e = ap (count_by p) (sym e) ∙ sum_by-cons (λ x. cond (p x) 1 0) o os

-- ---- before the first step

pub begins : (core : CoreData) (turns : List Turn) (c : Configuration) → c ≡ start core → total turns ≤ turn_limit → Underway core (spread turns) c (record { moved = 0; skipped = 0 }) (spread turns)
begins core turns c is few =
    subst (λ (d : Configuration). Underway core (spread turns) d (record { moved = 0; skipped = 0 }) (spread turns)) (sym is)
    (record {
      taken = [];
      list_is = refl;
      behind = λ more. refl;
      moved = zero-add _;
      skipped = zero-add _;
      end = refl;
      few_steps = let n = length-spread turns in omega (arith, n, few);
      few_objects = (few_at_start core).objects;
      few_messages = (few_at_start core).messages;
    })

module _ (core : CoreData) (list : List ℕ) (c : Configuration) (k : Counts) (left : List ℕ) (u : Underway core list c k left) where
  -- The configuration is the one after what was taken.
  behind_taken : c ≡ after core u.taken
  behind_taken = u.behind [] ∙ ap (after core) (append-nil u.taken)

  pub is_begun : IsBegun core list c
  is_begun = (length u.taken, behind_taken ∙ ap (after core) (sym (take-append_seam u.taken left) ∙ ap (take (length u.taken)) (sym u.list_is)))

  -- All steps together lead to where those that are left lead.
  pub behind_all : run_from core c left ≡ after core list
  behind_all = u.behind left ∙ ap (after core) (sym u.list_is)

-- ---- one step

module _ (core : CoreData) (list : List ℕ) (c : Configuration) (k : Counts) (i : ℕ) (left : List ℕ) (u : Underway core list c k (i ∷ left)) where
  pub room_for_objects : len c.objects < object_limit
  room_for_objects = omega (arith, u.few_objects, u.few_steps)

  pub room_for_messages : waiting c < message_limit
  room_for_messages = omega (arith, u.few_messages, u.few_steps)

  pub few_counted : k.moved + k.skipped < turn_limit
  few_counted = omega (arith, u.few_steps)

  module _ (safe : NeverLacks core) (d : Configuration) where
    pub never : (o : Outcome) → ◌≡◌ {A = Outcome × Configuration} (o, d) (step core c i) → (l : Lack) → o ≡ outcome.Lacks l → ⊥
    never o e l is =
        let here : LacksNothing core c = subst (λ (x : Configuration). LacksNothing core x) (sym (behind_taken core list c k (i ∷ left) u)) (safe u.taken) in
        here i l (sym (ap (λ (x : Outcome × Configuration). x.0) e) ∙ is)

    -- ---- what follows the step

    -- the rest of the run, by how the step ended
    abbrev rest_after : Outcome × Configuration → List ℕ → Configuration
    rest_after r more = followed (λ next. run_from core next more) c c r

    abbrev outcomes_after : Outcome × Configuration → List Outcome
    outcomes_after r = r.0 ∷ followed (λ next. outcomes_from core next left) [] c r

    module _ (o : Outcome) (e : ◌≡◌ {A = Outcome × Configuration} (o, d) (step core c i)) where
      changes : Changes c (o, d)
      changes = subst (λ (r : Outcome × Configuration). Changes c r) (sym e) (step_changes c core i)

      later : (more : List ℕ) → rest_after (o, d) more ≡ after core ((u.taken ++ i ∷ []) ++ more)
      later more = ap (λ (r : Outcome × Configuration). rest_after r more) e ∙ u.behind (i ∷ more) ∙ ap (after core) (sym (append_assoc u.taken (i ∷ []) more))

      outcomes_later : outcomes_after (o, d) ≡ outcomes_from core c (i ∷ left)
      outcomes_later = ap outcomes_after e

      end_later : ended_at (k.moved + k.skipped + 1) (outcomes_after (o, d)) ≡ end_of (outcomes core list)
      end_later = ap (ended_at (k.moved + k.skipped + 1)) outcomes_later ∙ u.end

    list_later : list ≡ (u.taken ++ i ∷ []) ++ left
    list_later = u.list_is ∙ sym (append_assoc u.taken (i ∷ []) left)

    moved_on : ◌≡◌ {A = Outcome × Configuration} (outcome.Moved, d) (step core c i) → Underway core list d (record { moved = k.moved + 1; skipped = k.skipped }) left
    moved_on e = record {
      taken = u.taken ++ i ∷ [];
      list_is = list_later;
      behind = later outcome.Moved e;
      moved = let n = count_more is_moved outcome.Moved _ _ (outcomes_later outcome.Moved e) in omega (arith, u.moved, n);
      skipped = let n = count_more is_skipped outcome.Moved _ _ (outcomes_later outcome.Moved e) in omega (arith, u.skipped, n);
      end = let n : k.moved + 1 + k.skipped + 1 ≡ k.moved + k.skipped + 1 + 1 = omega arith in ap (λ m. ended_at m (outcomes_from core d left)) n ∙ end_later outcome.Moved e;
      few_steps = omega (arith, u.few_steps);
      few_objects = let g = changes outcome.Moved e in omega (arith, u.few_objects, g.objects);
      few_messages = let g = changes outcome.Moved e in omega (arith, u.few_messages, g.messages);
    }

    skipped_on : ◌≡◌ {A = Outcome × Configuration} (outcome.Skipped, d) (step core c i) → Underway core list c (record { moved = k.moved; skipped = k.skipped + 1 }) left
    skipped_on e = record {
      taken = u.taken ++ i ∷ [];
      list_is = list_later;
      behind = later outcome.Skipped e;
      moved = let n = count_more is_moved outcome.Skipped _ _ (outcomes_later outcome.Skipped e) in omega (arith, u.moved, n);
      skipped = let n = count_more is_skipped outcome.Skipped _ _ (outcomes_later outcome.Skipped e) in omega (arith, u.skipped, n);
      end = let n : k.moved + (k.skipped + 1) + 1 ≡ k.moved + k.skipped + 1 + 1 = omega arith in ap (λ m. ended_at m (outcomes_from core c left)) n ∙ end_later outcome.Skipped e;
      few_steps = omega (arith, u.few_steps);
      few_objects = omega (arith, u.few_objects);
      few_messages = omega (arith, u.few_messages);
    }

    pub stepped : (o : Outcome) → ◌≡◌ {A = Outcome × Configuration} (o, d) (step core c i) → ReachedSoFar core list d left (counted k o)
    stepped outcome.Moved e = moved_on e
    stepped outcome.Skipped e = subst (λ (x : Configuration). Underway core list x (record { moved = k.moved; skipped = k.skipped + 1 }) left) (sym (changes outcome.Skipped e)) (skipped_on e)
    stepped outcome.TooLong e = (sym (end_later outcome.TooLong e), changes outcome.TooLong e ∙ later outcome.TooLong e left ∙ ap (after core) (sym list_later))
    stepped (outcome.Lacks l) e = absurd (never (outcome.Lacks l) e l refl)

-- ---- one step of a turn

module _ (core m : CoreData) (list rest : List ℕ) (c d : Configuration) (k : Counts) (times done i : ℕ) (o : Outcome)
    (safe : NeverLacks core) (same : m ≡ core) (u : Underway core list c k (replicate (times - done) i ++ rest)) (there : done < times)
    (e : ◌≡◌ {A = Outcome × Configuration} (o, d) (step m c i)) where
  abbrev behind_one : List ℕ
  behind_one = replicate (times - (done + 1)) i ++ rest

  one_left : Underway core list c k (i ∷ behind_one)
  one_left = subst (Underway core list c k) (replicate_next times done i rest there) u

  of_core : ◌≡◌ {A = Outcome × Configuration} (o, d) (step core c i)
  of_core = e ∙ ap (λ (x : CoreData). step x c i) same

  pub turn_never_lacks : (l : Lack) → o ≡ outcome.Lacks l → ⊥
  turn_never_lacks = never core list c k i behind_one one_left safe d o of_core

  pub turn_stepped : (p : Progress) → p ≡ counted k o → ReachedSoFar core list d behind_one p
  turn_stepped p is = subst (ReachedSoFar core list d behind_one) (sym is) (stepped core list c k i behind_one one_left safe d o of_core)

-- what is left if memory ran out
pub refused : {T E : Type 0} (core : CoreData) (list : List ℕ) (c d : Configuration) (k : Counts) (left : List ℕ) (r : Result T E) → Underway core list c k left → d ≡ c → OnErr r (IsBegun core list d)
refused core list c d k left (Ok x) u same = tt
refused core list c d k left (Err x) u same = subst (IsBegun core list) (sym same) (is_begun core list c k left u)
