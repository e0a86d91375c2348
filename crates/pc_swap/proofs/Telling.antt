-- Whether two steps are apart, determined by what they are.
use Rattle.std.specs.Prelude.{◌≡◌, ◌≢◌, ℕ, true, false, Result, Ok, Err, IsOk, MatchResult, ◌↔◌, refl}
use Rattle.std.proofs.{Common.{ap, sym, ◌∙◌}, lemmas.Bool.{eqb-true, eq-eqb, true≢false, false≢true}}
use Rattle.pc_core.specs.CoreData.{CoreData}
use Rattle.pc_semantics.specs.{declared.outcome.Outcome.Outcome, declared.outcome.Outcome.TheVariants.{Moved, Skipped, Lacks, TooLong}, Configurations.Configuration, Step.step, declared.ahead.Ahead.Ahead, Ahead.ahead_of}
use Rattle.pc_semantics.specs.declared.ahead.Ahead.TheVariants as ahead
use Rattle.pc_events.specs.AheadLaws.{Agrees}
use Rattle.pc_events.proofs.Agrees.{ahead_agrees}
use Rattle.pc_swap.specs.{Apart.{Apart, IsKept}, Ends.{is_moving, one_receiver, two_spawns}, declared.kept.Kept.Kept}
use Rattle.pc_swap.specs.declared.kept.Kept.TheVariants as kept

-- ---- whether a step moves

moves_by : (x : Ahead) (o : Outcome) → Agrees x o → is_moving x ≡ true → o ≡ Moved
moves_by ahead.Skipped o a e = absurd (false≢true e)
moves_by ahead.Lacks o a e = absurd (false≢true e)
moves_by ahead.TooLong o a e = absurd (false≢true e)
moves_by ahead.Take o a e = a
moves_by ahead.Spawn o a e = a
moves_by (ahead.Send k) o a e = a
moves_by ahead.Task o a e = a

skipped_moved : (o : Outcome) → o ≡ Skipped → o ≢ Moved
skipped_moved o e f = let bad : Skipped ≡ Moved = sym e ∙ f in cc bad

long_moved : (o : Outcome) → o ≡ TooLong → o ≢ Moved
long_moved o e f = let bad : TooLong ≡ Moved = sym e ∙ f in cc bad

stays_by : (x : Ahead) (o : Outcome) → Agrees x o → is_moving x ≡ false → o ≢ Moved
stays_by ahead.Skipped o a e = skipped_moved o a
stays_by ahead.Lacks o a e = λ f. let bad : Lacks a.0 ≡ Moved = sym a.1 ∙ f in cc bad
stays_by ahead.TooLong o a e = long_moved o a
stays_by ahead.Take o a e = absurd (true≢false e)
stays_by ahead.Spawn o a e = absurd (true≢false e)
stays_by (ahead.Send k) o a e = absurd (true≢false e)
stays_by ahead.Task o a e = absurd (true≢false e)

-- ---- receivers, and new actors

one_of : (x y : Ahead) → one_receiver x y ≡ true → (a : ℕ) × (x ≡ ahead.Send a) × (y ≡ ahead.Send a)
one_of (ahead.Send a) (ahead.Send b) e = (a, refl, ap ahead.Send (sym (eqb-true a b e)))
one_of x y e = absurd (false≢true e)

none_of : (x y : Ahead) → one_receiver x y ≡ false → (a : ℕ) → x ≡ ahead.Send a → y ≢ ahead.Send a
none_of x y e a f g =
    let bad : one_receiver (ahead.Send a) (ahead.Send a) ≡ false = ap (λ (z : Ahead). one_receiver z (ahead.Send a)) (sym f) ∙ ap (one_receiver x) (sym g) ∙ e in
    true≢false (sym (eq-eqb a a refl) ∙ bad)

spawns_of : (x y : Ahead) → two_spawns x y ≡ true → (x ≡ ahead.Spawn) × (y ≡ ahead.Spawn)
spawns_of ahead.Spawn ahead.Spawn e = (refl, refl)
spawns_of x y e = absurd (false≢true e)

not_spawns : (x y : Ahead) → two_spawns x y ≡ false → x ≡ ahead.Spawn → y ≢ ahead.Spawn
not_spawns x y e f g =
    let bad : two_spawns ahead.Spawn ahead.Spawn ≡ false = ap (λ (z : Ahead). two_spawns z ahead.Spawn) (sym f) ∙ ap (two_spawns x) (sym g) ∙ e in
    true≢false bad

-- ---- the exits

module _ (core : CoreData) (c : Configuration) (i j : ℕ) (differ : i ≢ j) (x y : Ahead) (is : x ≡ ahead_of core c i) (is_too : y ≡ ahead_of core c j) where
  moving : is_moving x ≡ true → (step core c i).0 ≡ Moved
  moving e = moves_by (ahead_of core c i) (step core c i).0 (ahead_agrees core c i) (ap is_moving (sym is) ∙ e)

  moving_too : is_moving y ≡ true → (step core c j).0 ≡ Moved
  moving_too e = moves_by (ahead_of core c j) (step core c j).0 (ahead_agrees core c j) (ap is_moving (sym is_too) ∙ e)

  pub first_stays : is_moving x ≡ false → IsKept core c i j kept.NotMoved
  first_stays e = (differ, λ m. stays_by (ahead_of core c i) (step core c i).0 (ahead_agrees core c i) (ap is_moving (sym is) ∙ e) m.moves)

  pub second_stays : is_moving y ≡ false → IsKept core c i j kept.NotMoved
  second_stays e = (differ, λ m. stays_by (ahead_of core c j) (step core c j).0 (ahead_agrees core c j) (ap is_moving (sym is_too) ∙ e) m.moves_too)

  pub to_one : is_moving x ≡ true → is_moving y ≡ true → one_receiver x y ≡ true → IsKept core c i j kept.OneMailbox
  to_one m n e =
      let s = one_of x y e in
      (differ, record { moves = moving m; moves_too = moving_too n }, record { receiver = s.0; sends = sym is ∙ s.1; sends_too = sym is_too ∙ s.2 })

  not_one : one_receiver x y ≡ false → (a : ℕ) → ahead_of core c i ≡ ahead.Send a → ahead_of core c j ≢ ahead.Send a
  not_one e a f g = none_of x y e a (is ∙ f) (is_too ∙ g)

  pub both_make : is_moving x ≡ true → is_moving y ≡ true → one_receiver x y ≡ false → two_spawns x y ≡ true → IsKept core c i j kept.BothSpawn
  both_make m n e f =
      let s = spawns_of x y f in
      (differ, record { moves = moving m; moves_too = moving_too n }, λ o. not_one e o.receiver o.sends o.sends_too, record { spawns = sym is ∙ s.0; spawns_too = sym is_too ∙ s.1 })

  pub are_apart : is_moving x ≡ true → is_moving y ≡ true → one_receiver x y ≡ false → two_spawns x y ≡ false → Apart core c i j
  are_apart m n e f = record {
    differ = differ;
    moves = moving m;
    moves_too = moving_too n;
    one_mailbox = not_one e;
    both_spawn = λ s t. not_spawns x y f (is ∙ s) (is_too ∙ t);
  }

-- ---- both directions

pub kept_never : (core : CoreData) (c : Configuration) (i j : ℕ) (k : Kept) → IsKept core c i j k → Apart core c i j → ⊥
kept_never core c i j kept.SameActor h a = a.differ h
kept_never core c i j kept.NotMoved h a = h.1 (record { moves = a.moves; moves_too = a.moves_too })
kept_never core c i j kept.OneMailbox h a = a.one_mailbox h.2.receiver h.2.sends h.2.sends_too
kept_never core c i j kept.BothSpawn h a = a.both_spawn h.3.spawns h.3.spawns_too

pub exactly_apart : (core : CoreData) (c : Configuration) (i j : ℕ) (r : Result (Unit {0}) Kept) → MatchResult r (λ _. Apart core c i j) (IsKept core c i j) → IsOk r ↔ Apart core c i j
exactly_apart core c i j (Ok u) h = (λ _. h, λ _. refl)
exactly_apart core c i j (Err k) h = (λ e. absurd (false≢true e), λ a. absurd (kept_never core c i j k h a))
