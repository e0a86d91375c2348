-- A list consists of turns.
use Rattle.std.proofs.Common.{◌≡◌, ℕ, zero, suc, ◌+◌, ◌-◌, ◌<◌, ◌≤◌, List, [], ◌∷◌, ◌++◌, length, replicate, Option, Some, None, inl, inr, refl, sym, ap, subst, arith}
use Rattle.std.specs.{Prelude.{IsSomeAnd, ◌⊎◌}, List.AllByRecursion}
use Rattle.pc_core.specs.CoreData.{CoreData}
use Rattle.pc_semantics.specs.{declared.outcome.Outcome.Outcome, declared.outcome.Outcome.TheVariants.{Moved, Skipped, Lacks, TooLong}, Configurations.{Configuration, start}, Step.step, Text.steps_of}
use Rattle.pc_choose.specs.{declared.point.Point.Point, Choice.{at_first, most_turns, stepped, turn}, Lists.{AfterStep, Follows, most_steps}, Laws.{InTurns, IsTurn, ListsAreInTurns}}
use Rattle.pc_choose.proofs.{Picking.{Begun, Turned, turned}, Reached.{few_at_start, one_comes}}

-- The list is some steps of the turn at a point, and then turns.
record Cut (p : Point) (list : List ℕ) : Type 0 where
  first : ℕ
  turns : List (ℕ × ℕ)
  steps : replicate first p.actor ++ steps_of turns ≡ list
  within : first ≤ p.left
  are : AllByRecursion IsTurn turns
  few : p.turns + length turns ≤ most_turns

nothing : (p : Point) (list : List ℕ) → p.turns ≤ most_turns → list ≡ [] → Cut p list
nothing p list l e = record { first = 0; turns = []; steps = sym e; within = omega arith; are = tt; few = omega (arith, l) }

module _ (p q : Point) (is : List ℕ) (cut : Cut (stepped q) is) where
  goes_on : q ≡ p → 0 < p.left → Cut p (q.actor ∷ is)
  goes_on e l =
      let m : cut.first ≤ p.left - 1 = subst (λ (x : Point). cut.first ≤ x.left - 1) e cut.within in
      record {
        first = suc cut.first;
        turns = cut.turns;
        steps = subst (λ (x : Point). replicate (suc cut.first) x.actor ++ steps_of cut.turns ≡ q.actor ∷ is) e (ap (λ (l : List ℕ). q.actor ∷ l) cut.steps);
        within = omega (arith, l, m);
        are = cut.are;
        few = subst (λ (x : Point). x.turns + length cut.turns ≤ most_turns) e cut.few;
      }

  begins : (c : Configuration) → length c.actors ≤ most_steps + 2 → Begun p c q → Cut p (q.actor ∷ is)
  begins c n b = record {
    first = 0;
    turns = (q.actor, suc cut.first) ∷ cut.turns;
    steps = ap (λ (l : List ℕ). q.actor ∷ l) cut.steps;
    within = omega arith;
    are = (
      (
        (let t = b.there in omega (arith, n, t)),
        omega arith,
        (let m = cut.within in let s = b.some in let f = b.few in omega (arith, m, s, f)),
      ),
      cut.are,
    );
    few = let e = b.number in let f = cut.few in omega (arith, e, f);
  }

module _ (core : CoreData) (seed : ℕ) where
  module _ (room i : ℕ) (is : List ℕ) (more : (q : Point) (d : Configuration) → q.turns ≤ most_turns → length d.actors + room ≤ most_steps + 2 → Follows core seed room q d is → Cut q is) where
    after_step : (q : Point) (c : Configuration) → q.turns ≤ most_turns → length c.actors + suc room ≤ most_steps + 2 → (x : Outcome × Configuration) → step core c i ≡ x
        → AfterStep (λ d. Follows core seed room (stepped q) d is) is x → Cut (stepped q) is
    after_step q c l n (Moved, d) e f = let one = (one_comes core c d i (sym e)).1 in more (stepped q) d l (omega (arith, n, one)) f
    after_step q c l n (Skipped, d) e f = nothing (stepped q) is l f
    after_step q c l n (Lacks k, d) e f = nothing (stepped q) is l f
    after_step q c l n (TooLong, d) e f = nothing (stepped q) is l f

    by_turn : (p q : Point) (c : Configuration) → p.turns ≤ most_turns → length c.actors + suc room ≤ most_steps + 2 → ((q ≡ p) × (0 < p.left)) ⊎ Begun p c q
        → AfterStep (λ d. Follows core seed room (stepped q) d is) is (step core c i) → Cut p (q.actor ∷ is)
    by_turn p q c l n t f = elim t [
      | inl same ↦
          let m : q.turns ≤ most_turns = subst (λ (x : Point). x.turns ≤ most_turns) (sym same.0) l in
          goes_on p q is (after_step q c m n (step core c i) refl f) same.0 same.1
      | inr new ↦ begins p q is (after_step q c new.within n (step core c i) refl f) c (omega (arith, n)) new
    ]

    in_turn : (p : Point) (c : Configuration) → p.turns ≤ most_turns → length c.actors + suc room ≤ most_steps + 2 → (t : Option Point) → Turned p c t
        → IsSomeAnd t (λ q. (i ≡ q.actor) × AfterStep (λ d. Follows core seed room (stepped q) d is) is (step core c i)) → Cut p (i ∷ is)
    in_turn p c l n None u f = absurd f
    in_turn p c l n (Some q) u f = subst (λ (k : ℕ). Cut p (k ∷ is)) (sym f.0) (by_turn p q c l n u f.1)

  cut : (list : List ℕ) (room : ℕ) (p : Point) (c : Configuration) → p.turns ≤ most_turns → length c.actors + room ≤ most_steps + 2 → Follows core seed room p c list → Cut p list
  cut [] room p c l n f = nothing p [] l refl
  cut (i ∷ is) zero p c l n f = nothing p (i ∷ is) l f
  cut (i ∷ is) (suc room) p c l n f = in_turn room i is (λ q d m k g. cut is room q d m k g) p c l n (turn seed p c) (turned seed p c) f

-- Before the first turn there is no turn to go on with.
in_turns : (list : List ℕ) → Cut at_first list → InTurns list
in_turns list c =
    let none : c.first ≡ 0 = let w = c.within in omega (arith, w) in
    record {
      turns = c.turns;
      steps = subst (λ (n : ℕ). replicate n 0 ++ steps_of c.turns ≡ list) none c.steps;
      are = c.are;
      few = let f = c.few in omega (arith, f);
    }

pub lists_are_in_turns : ListsAreInTurns
lists_are_in_turns core seed list f = in_turns list (cut core seed list most_steps at_first (start core) (omega arith) (let s = few_at_start core in omega (arith, s)) f)
