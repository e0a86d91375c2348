-- Lists of actors, changed at one place.
use Rattle.std.specs.Prelude.{ℕ, zero, suc, List, [], ◌∷◌, ◌++◌, length, drop, map, sum, Option, Some, None, slice_get}
use Rattle.pc_semantics.specs.{declared.actors.Actor.Actor, declared.frames.Frame.Frame, declared.mailbox.Message.Message}

-- The list with the element at a place changed.
abbrev pub changed : {T : Type 0} → List T → ℕ → (T → T) → List T
changed [] i g = []
changed (x ∷ xs) zero g = g x ∷ xs
changed (x ∷ xs) (suc i) g = x ∷ changed xs i g

-- The actor goes on with these frames.
abbrev pub framed : List Frame → Actor → Actor
framed frames a = record { mailbox = a.mailbox; frames = frames }

-- A message is appended to those that wait for the actor.
abbrev pub mailed : Message → Actor → Actor
mailed m a = record { mailbox = a.mailbox ++ m ∷ []; frames = a.frames }

-- The actor's oldest message is removed.
abbrev pub unmailed : Actor → Actor
unmailed a = record { mailbox = drop 1 a.mailbox; frames = a.frames }

-- The frames of an actor; none if there is no actor.
abbrev pub frames_in : Option Actor → List Frame
frames_in None = []
frames_in (Some a) = a.frames

abbrev pub frames_of : List Actor → ℕ → List Frame
frames_of actors i = frames_in (slice_get actors i)

-- How many messages wait for these actors.
abbrev pub messages_in : List Actor → ℕ
messages_in actors = sum (map (λ (a : Actor). length a.mailbox) actors)
