-- A run of a program that lacks nothing has a verdict, and a list of steps has a line.
use Rattle.std.proofs.{Common.{◌≡◌, ◌<◌, ◌≤◌, ◌^◌, ℕ, zero, suc, List, [], ◌∷◌, ◌++◌, length, replicate, inl, inr, refl, sym, ap, ◌∙◌, arith}, lemmas.Bool.cases_eq}
use Rattle.std.specs.List.{AllByRecursion}
use Rattle.pc_core.specs.CoreData.{CoreData}
use Rattle.pc_base.specs.Lists.{Text}
use Rattle.pc_run.specs.{Ends.NeverLacks, Spreading.spread}
use Rattle.pc_sched.specs.{Schedules.turn_limit, declared.turns.Turn.Turn}
use Rattle.pc_sched_lines.specs.{Lines.{IsLine, line_of, HasOtherActor}, Rows.RowsOf}
use Rattle.pc_sched_lines.proofs.Spelling.{is_line}
use Rattle.pc_semantics.specs.Text.{steps_of}
use Rattle.pc_commands.specs.Run.{Ran}
use Rattle.pc_commands.proofs.RunEnds.{has_verdict}
use Rattle.pc_verdicts.proofs.Stages.{Answers}

pub ran_answers : (name : Text) (core : CoreData) (list : List ℕ) → NeverLacks core → Answers (Ran name core list)
ran_answers name core list never = let v = has_verdict name core list never in (v.0, v.1)

-- ---- a list as a line

abbrev pub Small : ℕ → Type 0
Small actor = actor < 2 ^ 32

-- The turn's steps are these many at most.
row_within : (n a : ℕ) (ys : List ℕ) → n ≤ length (replicate n a ++ ys)
row_within zero a ys = omega arith
row_within (suc n) a ys = let l = row_within n a ys in omega (arith, l)

differs_alike : (t u : Turn) (ts : List Turn) → u.actor ≡ t.actor → HasOtherActor t ts → HasOtherActor u ts
differs_alike t u [] e d = tt
differs_alike t u (x ∷ xs) e d = λ same. d (sym e ∙ same)

with_first : (a : ℕ) (rest : List ℕ) → Small a → length rest < turn_limit → (rows : List Turn) → RowsOf rest rows → (more : List Turn) × RowsOf (a ∷ rest) more
with_first a rest small few [] r =
    (record { actor = a; times = 1 } ∷ [], record { steps = ap (λ (l : List ℕ). a ∷ l) r.steps; rows = (omega arith, tt, tt); fit = ((small, omega arith), tt) })
with_first a rest small few (t ∷ ts) r = elim (cases_eq a t.actor) [
  | inl same ↦ (
    record { actor = t.actor; times = suc t.times } ∷ ts,
    record {
      steps = ap (λ (l : List ℕ). t.actor ∷ l) r.steps ∙ ap (λ (b : ℕ). b ∷ rest) (sym same);
      rows = (omega arith, differs_alike t (record { actor = t.actor; times = suc t.times }) ts refl r.rows.1, r.rows.2);
      fit = ((r.fit.0.0, let l : t.times ≤ length (spread (t ∷ ts)) = row_within t.times t.actor (spread ts) in let e = ap (λ (l : List ℕ). length l) r.steps in omega (arith, l, e, few)), r.fit.1);
    },
  )
  | inr differ ↦ (
    record { actor = a; times = 1 } ∷ t ∷ ts,
    record { steps = ap (λ (l : List ℕ). a ∷ l) r.steps; rows = (omega arith, differ, r.rows); fit = ((small, omega arith), r.fit) },
  )
]

rows_are : (list : List ℕ) → AllByRecursion Small list → length list ≤ turn_limit → (rows : List Turn) × RowsOf list rows
rows_are [] small few = ([], record { steps = refl; rows = tt; fit = tt })
rows_are (a ∷ rest) small few =
    let all = rows_are rest small.1 (omega (arith, few)) in
    with_first a rest small.0 (omega (arith, few)) all.0 all.1

pub line_is_there : (list : List ℕ) → AllByRecursion Small list → length list ≤ turn_limit → (text : Text) × IsLine list text
line_is_there list small few = let all = rows_are list small few in (line_of all.0, is_line list (line_of all.0) all.0 few all.1 refl)

-- ---- actors with small numbers

pub small_append : (xs ys : List ℕ) → AllByRecursion Small xs → AllByRecursion Small ys → AllByRecursion Small (xs ++ ys)
small_append [] ys a b = b
small_append (x ∷ xs) ys a b = (a.0, small_append xs ys a.1 b)

small_replicate : (n a : ℕ) → Small a → AllByRecursion Small (replicate n a)
small_replicate zero a l = tt
small_replicate (suc n) a l = (l, small_replicate n a l)

pub small_steps : (turns : List (ℕ × ℕ)) → AllByRecursion (λ (t : ℕ × ℕ). Small t.0) turns → AllByRecursion Small (steps_of turns)
small_steps [] a = tt
small_steps (t ∷ ts) a = small_append (replicate t.1 t.0) (steps_of ts) (small_replicate t.1 t.0 a.0) (small_steps ts a.1)
