-- Round robin is fair.
use Rattle.std.proofs.{Common.{◌≡◌, ◌≢◌, ℕ, zero, suc, ◌+◌, ◌-◌, ◌*◌, ◌<◌, ◌≤◌, Bool, true, false, nat_eq, nat_lt, List, [], ◌∷◌, ◌++◌, length, Option, Some, None, inl, inr, refl, sym, ap, ◌∙◌, arith}, Math.Nat.eq-or-lt_of_le, lemmas.Bool.{and_parts, eqb-false, eqb-true, ltb-false, ltb-true}}
use Rattle.std.specs.Prelude.{IsSomeAnd, if◌then◌else◌, slice_get, ◌&&◌, ◌⊎◌}
use Rattle.pc_core.specs.CoreData.{CoreData}
use Rattle.pc_semantics.specs.{declared.outcome.Outcome.Outcome, declared.outcome.Outcome.TheVariants.{Moved, Skipped, Lacks, TooLong}, Configurations.{Configuration, start}, Step.{after, step}}
use Rattle.pc_choose.specs.{declared.point.Point.Point, declared.point.Picked.Picked, Able.{able, able_actors}, Choice.{at_first, most_times, most_turns, new_turn, next_in_round, or_new_round, picked, picks, stepped, turn, turn_of}, Lists.{AfterStep, Follows, most_steps}, Laws.{RoundRobinIsFair, StepsWithin, longest_wait}}
use Rattle.pc_choose.proofs.{Listing.never, Picking.{NotAbove, able_there, among, lowest}, Reached.{IsBounded, Stands, stands}, Staying.able_stay}

-- After the turn of actor x, in a round of r actors, this many turns suffice until one of j has begun: j comes in this round; or
-- the rest of the round and then those up to j.
abbrev Comes : (x r j turns : ℕ) → Type 0
Comes x r j turns = ((x < j) × (j < r) × (j ≤ x + turns)) ⊎ (r - (x + 1) + (j + 1) ≤ turns)

-- Fewer turns suffice after another began.
abbrev Fewer : (x r j turns : ℕ) → Type 0
Fewer x r j turns = (n : ℕ) × Comes x r j n × (n + 1 ≤ turns)

one_at_least : (x r j turns : ℕ) → Comes x r j turns → 1 ≤ turns
one_at_least x r j turns s = elim s [
  | inl here ↦ omega (arith, here.0, here.2)
  | inr round ↦ omega (arith, round)
]

below : (i j : ℕ) → i ≤ j → i ≢ j → i < j
below i j l d = elim (eq-or-lt_of_le l) [
  | inl is ↦ absurd (d is)
  | inr less ↦ less
]

module _ (c : Configuration) (j : ℕ) (w : able c j ≡ true) where
  there : j < length c.actors
  there = able_there c j w

  -- Whoever is picked is j, or fewer turns suffice.
  abbrev Picks : Option Picked → (turns : ℕ) → Type 0
  Picks None turns = Unit {0}
  Picks (Some x) turns = x.actor ≢ j → Fewer x.actor x.round j turns

  new_round : (turns : ℕ) → j + 1 ≤ turns → (o : Option ℕ) → NotAbove o j → Picks (picks o (length c.actors)) turns
  new_round turns l None n = absurd n
  new_round turns l (Some i) n = λ d.
      let less : i < j = below i j n d in
      (j - i, inl (less, there, omega (arith, less)), omega (arith, less, l))

  round_over : (turns : ℕ) → j + 1 ≤ turns → Picks (picks (slice_get (able_actors c) 0) (length c.actors)) turns
  round_over turns l = new_round turns l (slice_get (able_actors c) 0) (lowest (able c) (length c.actors) 0 j w (omega arith) (let t = there in omega (arith, t)))

  module _ (p : Point) (turns : ℕ) where
    -- j comes in this round
    here : p.actor < j → j < p.round → j ≤ p.actor + turns → (o : Option ℕ) → next_in_round p c ≡ o → NotAbove o j → Picks (or_new_round p c o) turns
    here a b l None e n = absurd n
    here a b l (Some i) e n = λ d.
        let less : i < j = below i j n d in
        let past = (among (able c) (p.round - (p.actor + 1)) (p.actor + 1) 0 i e).first in
        (j - i, inl (less, b, omega (arith, less)), omega (arith, less, past, l))

    -- or in another
    in_another : p.round - (p.actor + 1) + (j + 1) ≤ turns → (o : Option ℕ) → next_in_round p c ≡ o → Picks (or_new_round p c o) turns
    in_another l None e = round_over turns (omega (arith, l))
    in_another l (Some i) e = λ d.
        let is = among (able c) (p.round - (p.actor + 1)) (p.actor + 1) 0 i e in
        let past = is.first in
        let end = is.end in
        (p.round - (i + 1) + (j + 1), inr (omega arith), omega (arith, past, end, l))

    fewer : Comes p.actor p.round j turns → Picks (picked 0 p c) turns
    fewer s = elim s [
      | inl k ↦
          here k.0 k.1 k.2 (next_in_round p c) refl
          (lowest (able c) (p.round - (p.actor + 1)) (p.actor + 1) j w (omega (arith, k.0)) (omega (arith, k.0, k.1)))
      | inr k ↦ in_another k (next_in_round p c) refl
    ]

-- ---- steps

-- This many steps suffice until actor j has taken one.
record Waits (p : Point) (j steps : ℕ) : Type 0 where
  turns : ℕ
  comes : Comes p.actor p.round j turns
  enough : p.left + most_times * turns ≤ steps

module _ (c : Configuration) (j : ℕ) (w : able c j ≡ true) (p : Point) (steps : ℕ) (s : Waits p j steps) where
  abbrev Next : Option Point → Type 0
  Next None = Unit {0}
  Next (Some q) = q.actor ≢ j → Waits (stepped q) j (steps - 1)

  by_picked : (o : Option Picked) → Picks c j w o s.turns → Next (turn_of 0 p o)
  by_picked None n = tt
  by_picked (Some x) n = λ d.
      let few = n d in
      record { turns = few.0; comes = few.1; enough = let e = s.enough in let l = few.2 in omega (arith, e, l) }

  new : (b : Bool) → Next (if b then turn_of 0 p (picked 0 p c) else None)
  new true = by_picked (picked 0 p c) (fewer c j w p s.turns s.comes)
  new false = tt

  goes : (b : Bool) → (nat_lt 0 p.left && able c p.actor) ≡ b → Next (if b then Some p else new_turn 0 p c)
  goes true e = λ d.
      let l : 0 < p.left = ltb-true 0 p.left (and_parts (nat_lt 0 p.left) (able c p.actor) e).0 in
      record { turns = s.turns; comes = s.comes; enough = let f = s.enough in omega (arith, f, l) }
  goes false e = new (nat_lt p.turns most_turns)

  next : Next (turn 0 p c)
  next = goes (nat_lt 0 p.left && able c p.actor) refl

  some : most_times ≤ steps
  some = let e = s.enough in let l = one_at_least p.actor p.round j s.turns s.comes in omega (arith, e, l)

-- ---- lists

module _ (core : CoreData) (j : ℕ) where
  module _ (room i : ℕ) (is : List ℕ) (more : (q : Point) (d : Configuration) (steps : ℕ) → Follows core 0 room q d is → able d j ≡ true → Waits q j steps → steps ≤ length is → StepsWithin steps j is) where
    another : (steps : ℕ) → StepsWithin (steps - 1) j is → StepsWithin steps j (i ∷ is)
    another steps s = record { others = i ∷ s.others; more = s.more; are = ap (λ (l : List ℕ). i ∷ l) s.are; soon = let l = s.soon in omega (arith, l) }

    alone : (steps : ℕ) → most_times ≤ steps → steps ≤ length is + 1 → is ≡ [] → StepsWithin steps j (i ∷ is)
    alone steps l m e = let n : length is ≡ 0 = ap length e in absurd (omega (arith, l, m, n))

    module _ (c : Configuration) (w : able c j ≡ true) (d : i ≢ j) (steps : ℕ) (l : most_times ≤ steps) (m : steps ≤ length is + 1) (q : Point) (s : Waits (stepped q) j (steps - 1)) where
      after_step : (x : Outcome × Configuration) → step core c i ≡ x → AfterStep (λ e. Follows core 0 room (stepped q) e is) is x → StepsWithin steps j (i ∷ is)
      after_step (Moved, e) at f =
          let still : able e j ≡ true = ap (λ (x : Outcome × Configuration). able x.1 j) (sym at) ∙ able_stay core c j i (λ same. d (sym same)) w in
          another steps (more (stepped q) e (steps - 1) f still s (omega (arith, m)))
      after_step (Skipped, e) at f = alone steps l m f
      after_step (Lacks k, e) at f = alone steps l m f
      after_step (TooLong, e) at f = alone steps l m f

    in_turn : (c : Configuration) (w : able c j ≡ true) → i ≢ j → (p : Point) (steps : ℕ) (s : Waits p j steps) → steps ≤ length is + 1 → (t : Option Point) → Next c j w p steps s t
        → IsSomeAnd t (λ q. (i ≡ q.actor) × AfterStep (λ e. Follows core 0 room (stepped q) e is) is (step core c i)) → StepsWithin steps j (i ∷ is)
    in_turn c w d p steps s m None n f = absurd f
    in_turn c w d p steps s m (Some q) n f = after_step c w d steps (some c j w p steps s) m q (n (λ same. d (f.0 ∙ same))) (step core c i) refl f.1

    by_actor : (p : Point) (c : Configuration) (steps : ℕ) (b : Bool) → nat_eq i j ≡ b → Follows core 0 (suc room) p c (i ∷ is) → able c j ≡ true → Waits p j steps → steps ≤ length is + 1 → StepsWithin steps j (i ∷ is)
    by_actor p c steps true e f w s m = record { others = []; more = is; are = ap (λ (k : ℕ). k ∷ is) (eqb-true i j e); soon = let l = some c j w p steps s in omega (arith, l) }
    by_actor p c steps false e f w s m = in_turn c w (eqb-false i j e) p steps s m (turn 0 p c) (next c j w p steps s) f

  waits : (list : List ℕ) (room : ℕ) (p : Point) (c : Configuration) (steps : ℕ) → Follows core 0 room p c list → able c j ≡ true → Waits p j steps → steps ≤ length list → StepsWithin steps j list
  waits [] room p c steps f w s m = let l = some c j w p steps s in absurd (omega (arith, l, m))
  waits (i ∷ is) zero p c steps f w s m = absurd (never i is f)
  waits (i ∷ is) (suc room) p c steps f w s m = by_actor room i is (λ q d n g v t k. waits is room q d n g v t k) p c steps (nat_eq i j) refl f w s (omega (arith, m))

-- ---- the law

-- from a point on the way
begins : (p : Point) (c : Configuration) (j : ℕ) → IsBounded p c → able c j ≡ true → Waits p j (longest_wait (length c.actors))
begins p c j b w = record {
  turns = p.round - (p.actor + 1) + (j + 1);
  comes = inr (omega arith);
  enough = let l = b.left in let r = b.round in let t = able_there c j w in omega (arith, l, r, t);
}

by_length : (core : CoreData) (c : Configuration) (rest : List ℕ) (j : ℕ) → able c j ≡ true → Stands core 0 c rest → (b : Bool) → nat_lt (length rest) (longest_wait (length c.actors)) ≡ b
    → StepsWithin (longest_wait (length c.actors)) j rest ⊎ (length rest < longest_wait (length c.actors))
by_length core c rest j w s true e = inr (ltb-true (length rest) (longest_wait (length c.actors)) e)
by_length core c rest j w s false e =
    inl (waits core j rest s.room s.point c (longest_wait (length c.actors)) s.follows w (begins s.point c j s.bounded w) (ltb-false (length rest) (longest_wait (length c.actors)) e))

fair : (core : CoreData) (before rest : List ℕ) (j : ℕ) → Follows core 0 most_steps at_first (start core) (before ++ rest) → able (after core before) j ≡ true
    → StepsWithin (longest_wait (length (after core before).actors)) j rest ⊎ (length rest < longest_wait (length (after core before).actors))
fair core before [] j f w = let t = able_there (after core before) j w in inr (omega (arith, t))
fair core before (r ∷ rs) j f w =
    let s = stands core 0 r rs before most_steps at_first (start core) f (record { left = omega arith; round = omega arith }) in
    by_length core (after core before) (r ∷ rs) j w s (nat_lt (length (r ∷ rs)) (longest_wait (length (after core before).actors))) refl

pub round_robin_is_fair : RoundRobinIsFair
round_robin_is_fair core before rest j f w = fair core before rest j f w
