-- The limit of a run over a list of actors.
use Rattle.std.specs.Prelude.{ℕ}

-- the greatest number of actors in a list, each for one step
abbrev pub list_limit : ℕ
list_limit = 4000000
