-- Who is picked for a turn.
use Rattle.std.proofs.{Common.{◌≡◌, ℕ, zero, suc, ◌+◌, ◌-◌, ◌*◌, ◌/◌, ◌<◌, ◌≤◌, Bool, true, false, cond, nat_lt, List, [], ◌∷◌, length, Option, Some, None, inl, inr, refl, sym, ap, subst, ◌∙◌, arith}, Math.Nat.eq-or-lt_of_le, lemmas.Bool.{and_parts, false≢true, ltb-true}, lemmas.Nat.mod_below, lemmas.Option.{none-some, same_Some}}
use Rattle.std.specs.{Prelude.{filter, if◌then◌else◌, slice_get, ◌&&◌, ◌⊎◌}, List.range_with_len}
use Rattle.pc_semantics.specs.{declared.actors.Actor.Actor, Configurations.Configuration}
use Rattle.pc_draws.specs.Draws.{state}
use Rattle.pc_choose.specs.{declared.point.Point.Point, declared.point.Picked.Picked, Able.{able, is_able, able_actors}, Choice.{drawn_actor, most_times, most_turns, new_turn, next_in_round, or_new_round, picked, picks, times, turn, turn_of}}

-- ---- numbers of a range that pass a test

-- The number passes the test, and it is in the range.
pub record Among (test : ℕ → Bool) (a n x : ℕ) : Type 0 where
  pub passes : test x ≡ true
  pub first : a ≤ x
  pub end : x < a + n

module _ (test : ℕ → Bool) (a n : ℕ) (more : (k x : ℕ) → slice_get (filter test (range_with_len (a + 1) n)) k ≡ Some x → Among test (a + 1) n x) where
  later : (k x : ℕ) → slice_get (filter test (range_with_len (a + 1) n)) k ≡ Some x → Among test a (suc n) x
  later k x e =
      let r = more k x e in
      record { passes = r.passes; first = let f = r.first in omega (arith, f); end = let f = r.end in omega (arith, f) }

  among_here : (b : Bool) → test a ≡ b → (k x : ℕ) → slice_get (cond b (a ∷ filter test (range_with_len (a + 1) n)) (filter test (range_with_len (a + 1) n))) k ≡ Some x → Among test a (suc n) x
  among_here false t k x e = later k x e
  among_here true t zero x e =
      let is : a ≡ x = same_Some a x e in
      record { passes = subst (λ (i : ℕ). test i ≡ true) is t; first = omega (arith, is); end = omega (arith, is) }
  among_here true t (suc k) x e = later k x e

-- One at a place among those that pass is in the range and passes.
pub among : (test : ℕ → Bool) (n a k x : ℕ) → slice_get (filter test (range_with_len a n)) k ≡ Some x → Among test a n x
among test zero a k x e = absurd (none-some x e)
among test (suc n) a k x e = among_here test a n (λ k' x' e'. among test n (a + 1) k' x' e') (test a) refl k x e

-- It is there, and not above this number.
abbrev pub NotAbove : Option ℕ → ℕ → Type 0
NotAbove None j = ⊥
NotAbove (Some i) j = i ≤ j

module _ (test : ℕ → Bool) (a n j : ℕ) (passes : test j ≡ true) (more : a + 1 ≤ j → NotAbove (slice_get (filter test (range_with_len (a + 1) n)) 0) j) where
  lowest_here : (b : Bool) → test a ≡ b → a ≤ j → NotAbove (slice_get (cond b (a ∷ filter test (range_with_len (a + 1) n)) (filter test (range_with_len (a + 1) n))) 0) j
  lowest_here true t l = l
  lowest_here false t l = elim (eq-or-lt_of_le l) [
    | inl is ↦ absurd (false≢true (sym t ∙ ap test is ∙ passes))
    | inr past ↦ more (omega (arith, past))
  ]

-- The first of those that pass is not above another one.
pub lowest : (test : ℕ → Bool) (n a j : ℕ) → test j ≡ true → a ≤ j → j < a + n → NotAbove (slice_get (filter test (range_with_len a n)) 0) j
lowest test zero a j t l m = absurd (omega (arith, l, m))
lowest test (suc n) a j t l m = lowest_here test a n j t (λ l'. lowest test n (a + 1) j t l' (omega (arith, m))) (test a) refl l

-- ---- actors

there_in : (xs : List Actor) (i : ℕ) → is_able (slice_get xs i) ≡ true → i < length xs
there_in [] i w = absurd (false≢true w)
there_in (x ∷ xs) zero w = omega arith
there_in (x ∷ xs) (suc i) w = let r = there_in xs i w in omega (arith, r)

pub able_there : (c : Configuration) (i : ℕ) → able c i ≡ true → i < length c.actors
able_there c i w = there_in c.actors i w

-- ---- whoever is picked

-- What is known of who is picked: it is there, and its round has no more actors than there are.
abbrev pub IsThere : Configuration → (round : ℕ) → Option Picked → Type 0
IsThere c round None = Unit {0}
IsThere c round (Some x) = (x.actor < length c.actors) × (round ≤ length c.actors → x.round ≤ length c.actors)

module _ (c : Configuration) (round : ℕ) where
  picks_there : (n r k : ℕ) → (r ≤ length c.actors) → (o : Option ℕ) → slice_get (filter (able c) (range_with_len 0 n)) k ≡ o → IsThere c round (picks o r)
  picks_there n r k l None e = tt
  picks_there n r k l (Some i) e = (able_there c i (among (able c) n 0 k i e).passes, λ few. l)

  in_round : (p : Point) → p.round ≡ round → (o : Option ℕ) → next_in_round p c ≡ o → IsThere c round (or_new_round p c o)
  in_round p is None e = picks_there (length c.actors) (length c.actors) 0 (omega arith) (slice_get (able_actors c) 0) refl
  in_round p is (Some i) e = (able_there c i (among (able c) (p.round - (p.actor + 1)) (p.actor + 1) 0 i e).passes, λ few. omega (arith, few, is))

picked_there : (seed : ℕ) (p : Point) (c : Configuration) → IsThere c p.round (picked seed p c)
picked_there zero p c = in_round c p.round p refl (next_in_round p c) refl
picked_there (suc s) p c = picks_there c p.round (length c.actors) 0 _ (omega arith) (drawn_actor (suc s) (2 * p.turns) c) refl

times_some : (seed turn : ℕ) → 0 < times seed turn
times_some zero turn = omega arith
times_some (suc s) turn = omega arith

times_few : (seed turn : ℕ) → times seed turn ≤ most_times
times_few zero turn = omega arith
times_few (suc s) turn = let m = mod_below (state (suc s) (suc (2 * turn + 1)) / 65536) most_times (omega arith) in omega (arith, m)

-- ---- turns

-- A new turn q after p.
pub record Begun (p : Point) (c : Configuration) (q : Point) : Type 0 where
  pub number : q.turns ≡ p.turns + 1
  pub within : q.turns ≤ most_turns
  pub some : 0 < q.left
  pub few : q.left ≤ most_times
  pub there : q.actor < length c.actors
  pub round : p.round ≤ length c.actors → q.round ≤ length c.actors

-- The turn p goes on, or another begins.
abbrev pub Turned : Point → Configuration → Option Point → Type 0
Turned p c None = Unit {0}
Turned p c (Some q) = ((q ≡ p) × (0 < p.left)) ⊎ Begun p c q

module _ (seed : ℕ) (p : Point) (c : Configuration) where
  begun : p.turns < most_turns → (o : Option Picked) → IsThere c p.round o → Turned p c (turn_of seed p o)
  begun l None t = tt
  begun l (Some x) t =
      inr (record {
        number = refl;
        within = omega (arith, l);
        some = times_some seed p.turns;
        few = times_few seed p.turns;
        there = t.0;
        round = t.1;
      })

  new : (b : Bool) → nat_lt p.turns most_turns ≡ b → Turned p c (if b then turn_of seed p (picked seed p c) else None)
  new true e = begun (ltb-true p.turns most_turns e) (picked seed p c) (picked_there seed p c)
  new false e = tt

  goes : (b : Bool) → (nat_lt 0 p.left && able c p.actor) ≡ b → Turned p c (if b then Some p else new_turn seed p c)
  goes true e = inl (refl, ltb-true 0 p.left (and_parts (nat_lt 0 p.left) (able c p.actor) e).0)
  goes false e = new (nat_lt p.turns most_turns) refl

  pub turned : Turned p c (turn seed p c)
  turned = goes (nat_lt 0 p.left && able c p.actor) refl
