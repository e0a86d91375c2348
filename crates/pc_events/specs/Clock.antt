-- Clocks, and events that conflict.
use Rattle.std.specs.Prelude.{◌≡◌, ◌⊎◌, ℕ, List, length, ◌≢◌, true, Some}
use Rattle.pc_base.specs.Lists.{Ascends, Each, Has}
use Rattle.pc_core.specs.CoreData.{CoreData}
use Rattle.pc_events.specs.Before.{at_place, Event, Before}
use Rattle.pc_semantics.specs.{declared.access.Access.Access, Safety.access}

-- ---- the clock of an event: for each actor, how many of its events came before

-- Exactly n numbers have a property: those of a list without repetitions.
pub record Many (P : ℕ → Type 0) (n : ℕ) : Type 0 where
  pub which : List ℕ
  pub ascends : Ascends which
  pub have : Each (λ k x. P x) which
  pub all : (x : ℕ) → P x → Has which x
  pub count : length which ≡ n

-- An event of actor a that is the one at p or comes before it.
abbrev pub UpTo : CoreData → List ℕ → (place actor event : ℕ) → Type 0
UpTo core list p a q = Event core list q a × ((q ≡ p) ⊎ Before core list q p)

-- How many events of actor a are the one at p or come before it.
abbrev pub Clock : CoreData → List ℕ → (place actor count : ℕ) → Type 0
Clock core list p a n = Many (UpTo core list p a) n

-- One such number for each actor that exists at p.
pub record Clocks (core : CoreData) (list : List ℕ) (p : ℕ) (numbers : List ℕ) : Type 0 where
  pub actors : length numbers ≡ length (at_place core list p).actors
  pub each : Each (Clock core list p) numbers

-- Two events of different actors touch one field of one object, and one of them writes.
pub record Conflict (core : CoreData) (list : List ℕ) (p q : ℕ) : Type 0 where
  pub i : ℕ
  pub j : ℕ
  pub first : Event core list p i
  pub second : Event core list q j
  pub differ : i ≢ j
  pub one : Access
  pub other : Access
  pub accesses : access core (at_place core list p) i ≡ Some one
  pub accesses_too : access core (at_place core list q) j ≡ Some other
  pub address : one.address ≡ other.address
  pub field : one.field ≡ other.field
  pub writes : (one.write ≡ true) ⊎ (other.write ≡ true)
