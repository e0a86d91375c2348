-- When the steps of two actors are apart and may be swapped, and why others are not.
use Rattle.std.specs.Prelude.{◌≡◌, ◌≢◌, ℕ}
use Rattle.pc_core.specs.CoreData.{CoreData}
use Rattle.pc_semantics.specs.{declared.outcome.Outcome.TheVariants.Moved, Configurations.Configuration, Step.step, declared.ahead.Ahead.TheVariants.{Send, Spawn}, Ahead.ahead_of}
use Rattle.pc_swap.specs.declared.kept.Kept.{Kept}
use Rattle.pc_semantics.specs.declared.ahead.Ahead.TheVariants as ahead
use Rattle.pc_swap.specs.declared.kept.Kept.TheVariants as kept

-- The actors are different, both steps move, they do not both send to the same actor, and they do not both make an
-- actor.
pub record Apart (core : CoreData) (c : Configuration) (i j : ℕ) : Type 0 where
  pub differ : i ≢ j
  pub moves : (step core c i).0 ≡ Moved
  pub moves_too : (step core c j).0 ≡ Moved
  pub one_mailbox : (a : ℕ) → ahead_of core c i ≡ Send a → ahead_of core c j ≢ Send a
  pub both_spawn : ahead_of core c i ≡ Spawn → ahead_of core c j ≢ Spawn

-- ---- why the next steps of two actors are not apart

pub record BothMove (core : CoreData) (c : Configuration) (i j : ℕ) : Type 0 where
  pub moves : (step core c i).0 ≡ Moved
  pub moves_too : (step core c j).0 ≡ Moved

-- Both send to the same actor.
pub record OneMailbox (core : CoreData) (c : Configuration) (i j : ℕ) : Type 0 where
  pub receiver : ℕ
  pub sends : ahead_of core c i ≡ ahead.Send receiver
  pub sends_too : ahead_of core c j ≡ ahead.Send receiver

-- Both make an actor.
pub record BothSpawn (core : CoreData) (c : Configuration) (i j : ℕ) : Type 0 where
  pub spawns : ahead_of core c i ≡ ahead.Spawn
  pub spawns_too : ahead_of core c j ≡ ahead.Spawn

-- This part of being apart fails, and none of those before it does.
abbrev pub IsKept : CoreData → Configuration → (first second : ℕ) → Kept → Type 0
IsKept core c i j kept.SameActor = i ≡ j
IsKept core c i j kept.NotMoved = (i ≢ j) × ¬ (BothMove core c i j)
IsKept core c i j kept.OneMailbox = (i ≢ j) × BothMove core c i j × OneMailbox core c i j
IsKept core c i j kept.BothSpawn = (i ≢ j) × BothMove core c i j × ¬ (OneMailbox core c i j) × BothSpawn core c i j

-- The steps of i and then j, and those of j and then i, all move, and both orders lead to one configuration.
pub record Swapped (core : CoreData) (c : Configuration) (i j : ℕ) : Type 0 where
  pub first : (step core c i).0 ≡ Moved
  pub then : (step core (step core c i).1 j).0 ≡ Moved
  pub first_too : (step core c j).0 ≡ Moved
  pub then_too : (step core (step core c j).1 i).0 ≡ Moved
  pub same : (step core (step core c i).1 j).1 ≡ (step core (step core c j).1 i).1
