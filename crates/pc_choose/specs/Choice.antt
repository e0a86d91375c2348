-- Whose turn it is.
use Rattle.std.specs.Prelude.{ℕ, zero, suc, ◌+◌, ◌-◌, ◌*◌, nat_lt, ◌&&◌, if◌then◌else◌, length, Option, Some, None, slice_get}
use Rattle.pc_semantics.specs.Configurations.{Configuration}
use Rattle.pc_draws.specs.Draws.{draw}
use Rattle.pc_choose.specs.{declared.point.Point.Point, declared.point.Picked.Picked, Able.{able, able_among, able_actors}}

-- the greatest number of turns of a list
abbrev pub most_turns : ℕ
most_turns = 95000

-- the greatest number of steps of a turn
abbrev pub most_times : ℕ
most_times = 64

-- ---- who is picked

-- The able actor that the draw with this number selects, in the order of the actors' numbers.
abbrev pub drawn_actor : (seed number : ℕ) → Configuration → Option ℕ
drawn_actor seed k c = slice_get (able_actors c) (draw seed k (length (able_actors c)))

-- Round robin: the next higher able actor among those that existed when the round began. If there is none, a new round
-- begins, of all actors that exist now, with the lowest able one.
abbrev pub next_in_round : Point → Configuration → Option ℕ
next_in_round p c = slice_get (able_among c (p.actor + 1) (p.round - (p.actor + 1))) 0

abbrev pub picks : Option ℕ → ℕ → Option Picked
picks None round = None
picks (Some i) round = Some (record { actor = i; round = round })

abbrev pub or_new_round : Point → Configuration → Option ℕ → Option Picked
or_new_round p c None = picks (slice_get (able_actors c) 0) (length c.actors)
or_new_round p c (Some i) = picks (Some i) p.round

-- Seed 0 is round robin. Any other seed draws twice for each turn: whose turn it is, and how many steps it has.
abbrev pub picked : (seed : ℕ) → Point → Configuration → Option Picked
picked zero p c = or_new_round p c (next_in_round p c)
picked (suc s) p c = picks (drawn_actor (suc s) (2 * p.turns) c) 0

abbrev pub times : (seed turn : ℕ) → ℕ
times zero turn = most_times
times (suc s) turn = draw (suc s) (2 * turn + 1) most_times + 1

-- ---- turns

abbrev pub turn_of : (seed : ℕ) → Point → Option Picked → Option Point
turn_of seed p None = None
turn_of seed p (Some x) = Some (record { turns = p.turns + 1; actor = x.actor; left = times seed p.turns; round = x.round })

abbrev pub new_turn : (seed : ℕ) → Point → Configuration → Option Point
new_turn seed p c = if nat_lt p.turns most_turns then turn_of seed p (picked seed p c) else None

-- The turn goes on if its actor is able and has steps left; otherwise a new one begins. There is none if no actor is
-- able, or after the last turn of a list.
abbrev pub turn : (seed : ℕ) → Point → Configuration → Option Point
turn seed p c = if nat_lt 0 p.left && able c p.actor then Some p else new_turn seed p c

-- One of the turn's steps is taken.
abbrev pub stepped : Point → Point
stepped p = record { turns = p.turns; actor = p.actor; left = p.left - 1; round = p.round }

-- Before the first turn.
abbrev pub at_first : Point
at_first = record { turns = 0; actor = 0; left = 0; round = 0 }
