-- Which event of a run comes before which.
use Rattle.std.specs.Prelude.{◌≡◌, ℕ, ◌+◌, ◌<◌, Bool, true, false, ◌&&◌, if◌then◌else◌, nat_eq, List, [], ◌∷◌, take, length, Option, Some, None, slice_get}
use Rattle.pc_core.specs.CoreData.{CoreData}
use Rattle.pc_semantics.specs.{declared.actors.Actor.Actor, declared.outcome.Outcome.TheVariants.Moved, Configurations.{Configuration, start}, Step.{step, followed, after, outcomes}, declared.ahead.Ahead.Ahead, Ahead.ahead_of}
use Rattle.pc_semantics.specs.declared.ahead.Ahead.TheVariants as ahead

-- The configuration in which a place of a list has its turn.
abbrev pub at_place : CoreData → List ℕ → ℕ → Configuration
at_place core list p = after core (take p list)

-- The place is one of actor i, and its step moves.
pub record Event (core : CoreData) (list : List ℕ) (p i : ℕ) : Type 0 where
  pub actor : slice_get list p ≡ Some i
  pub moved : slice_get (outcomes core list) p ≡ Some Moved

-- ---- messages

-- The actor into whose mailbox a step puts a message.
abbrev pub receiver_by : Configuration → Ahead → Option ℕ
receiver_by c (ahead.Send a) = Some a
receiver_by c ahead.Spawn = Some (length c.actors)
receiver_by c x = None

abbrev pub receiver_of : CoreData → Configuration → ℕ → Option ℕ
receiver_of core c i = receiver_by c (ahead_of core c i)

abbrev pub is_take : Ahead → Bool
is_take ahead.Take = true
is_take x = false

-- How many messages a step of actor i takes from the mailbox of actor a.
abbrev pub takes_one : CoreData → Configuration → (actor mailbox : ℕ) → ℕ
takes_one core c i a = if nat_eq i a && is_take (ahead_of core c i) then 1 else 0

abbrev pub takes_from : CoreData → Configuration → ℕ → List ℕ → ℕ
takes_from core c a [] = 0
takes_from core c a (i ∷ is) = takes_one core c i a + followed (λ next. takes_from core next a is) 0 c (step core c i)

-- How many messages actor a has taken before a place.
abbrev pub taken_before : CoreData → List ℕ → (place actor : ℕ) → ℕ
taken_before core list p a = takes_from core (start core) a (take p list)

abbrev pub waiting_of : Option Actor → ℕ
waiting_of None = 0
waiting_of (Some a) = length a.mailbox

-- How many messages wait for actor a.
abbrev pub waiting_for : Configuration → ℕ → ℕ
waiting_for c a = waiting_of (slice_get c.actors a)

-- The event at p puts a message into a mailbox, and the one at q takes this message: as many messages of the mailbox
-- were taken before q as were taken before p or waited there at p.
pub record Carries (core : CoreData) (list : List ℕ) (p q : ℕ) : Type 0 where
  pub sender : ℕ
  pub receiver : ℕ
  pub puts : Event core list p sender
  pub to : receiver_of core (at_place core list p) sender ≡ Some receiver
  pub takes : Event core list q receiver
  pub take : ahead_of core (at_place core list q) receiver ≡ ahead.Take
  pub later : p < q
  pub message : taken_before core list q receiver ≡ taken_before core list p receiver + waiting_for (at_place core list p) receiver

-- Which event of a run comes before which.
pub data Before (core : CoreData) (list : List ℕ) : (earlier later : ℕ) → Type 0 where
  -- two events of one actor
  own : (i p q : ℕ) → p < q → Event core list p i → Event core list q i → Before core list p q
  -- what puts a message into a mailbox, and the take of that message
  carried : (p q : ℕ) → Carries core list p q → Before core list p q
  chain : (p q r : ℕ) → Before core list p q → Before core list q r → Before core list p r
