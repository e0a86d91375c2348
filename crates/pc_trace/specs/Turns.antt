-- What an event does to the clocks that are kept.
use Rattle.std.specs.Prelude.{◌≡◌, ◌+◌, ◌<◌, ◌≤◌, ◌^◌, ℕ, Bool, true, false, List, [], ◌∷◌, ◌++◌, length, drop, IfSome, IsSomeAnd, Result, Ok, Err, slice_get}
use Rattle.pc_trace.specs.{Traces.actor_limit, declared.fault.TraceFault.TraceFault}
use Rattle.pc_clocks.specs.{declared.seat.Seat.Seat, Seats.{Advanced, ChangedAt, clock_of, number}}
use Rattle.pc_semantics.specs.{declared.outcome.Lack.Lack, declared.outcome.Outcome.Outcome, declared.ahead.Ahead.Ahead}
use Rattle.pc_semantics.specs.declared.outcome.Outcome.TheVariants as outcome
use Rattle.pc_trace.specs.declared.fault.TraceFault.TheVariants as fault
use Rattle.pc_semantics.specs.declared.ahead.Ahead.TheVariants as ahead

-- An actor does something, among this number of actors.
abbrev pub Acts : (count actor : ℕ) → List Seat → List Seat → Type 0
Acts count actor old new = ChangedAt old new actor (λ s t. Advanced count actor s.clock [] t.clock × (t.letters ≡ s.letters))

-- An actor takes its oldest message.
abbrev pub Receives : (count actor : ℕ) → List Seat → List Seat → Type 0
Receives count actor old new = ChangedAt old new actor (λ s t. IfSome (slice_get s.letters 0) (λ l. Advanced count actor s.clock l t.clock) × (t.letters ≡ drop 1 s.letters))

-- A message with its clock is put into a mailbox.
abbrev pub PostsMessage : (sender receiver : ℕ) → List Seat → List Seat → Type 0
PostsMessage sender receiver old new = ChangedAt old new receiver (λ s t. (t.clock ≡ s.clock) × (t.letters ≡ s.letters ++ clock_of old sender ∷ []))

-- A new actor is added, with a message that has its maker's clock.
abbrev pub Born : ℕ → List Seat → List Seat → Type 0
Born maker old new = new ≡ old ++ record { clock = []; letters = clock_of old maker ∷ [] } ∷ []

-- After an event of this kind.
abbrev pub FollowsEvent : Ahead → (count actor : ℕ) → List Seat → List Seat → Type 0
FollowsEvent ahead.Take count actor old new = Receives count actor old new
FollowsEvent ahead.Task count actor old new = Acts count actor old new
FollowsEvent (ahead.Send receiver) count actor old new = (mid : List Seat) × Acts count actor old mid × PostsMessage actor receiver mid new
FollowsEvent ahead.Spawn count actor old new = (mid : List Seat) × Acts count actor old mid × Born actor mid new
FollowsEvent x count actor old new = Unit {0}

-- What an event of this kind requires, among this number of actors: the actor, whose clock has no number that is too
-- large; the message that it takes, with such a clock too; and the receiver of a message.
pub record Ready (kind : Ahead) (count actor : ℕ) (seats : List Seat) : Type 0 where
  pub there : actor < count
  pub seat : IsSomeAnd (slice_get seats actor) (λ s. (length s.clock ≤ count) × (number s.clock actor + 1 < 2 ^ 64))
  pub letter : kind ≡ ahead.Take → IsSomeAnd (slice_get seats actor) (λ s. IsSomeAnd (slice_get s.letters 0) (λ l. (length l ≤ count) × (number l actor + 1 < 2 ^ 64)))
  pub receiver : (r : ℕ) → kind ≡ ahead.Send r → r < length seats

-- What the outcome of a step means: it moved; it was skipped; or it ends the run at this place.
abbrev pub Says : Outcome → ℕ → Result Bool TraceFault → Type 0
Says o place (Ok true) = o ≡ outcome.Moved
Says o place (Ok false) = o ≡ outcome.Skipped
Says o place (Err (fault.TooLong n)) = (n ≡ place) × (o ≡ outcome.TooLong)
Says o place (Err (fault.Lacks n)) = (n ≡ place) × ((l : Lack) × (o ≡ outcome.Lacks l))
Says o place (Err (fault.TooMany n)) = ⊥
Says o place (Err fault.Memory) = ⊥

-- A step of this kind does not make an actor if there are as many as there may be; or it would, which is the answer.
abbrev pub Room : Ahead → (count place : ℕ) → Result (Unit {0}) TraceFault → Type 0
Room kind count place (Ok u) = kind ≡ ahead.Spawn → count < actor_limit
Room kind count place (Err f) = (f ≡ fault.TooMany place) × (kind ≡ ahead.Spawn) × (count ≡ actor_limit)
