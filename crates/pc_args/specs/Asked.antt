-- What the words of a command line ask for.
use Rattle.std.specs.{Prelude.{List, [], ◌∷◌, Bool, true, false, not, ◌&&◌, Option, Some, None, map, codes, if◌then◌else◌, option_and_then, unwrap_or}, Str.bytes_eq, Borrow.Bor}
use Rattle.clap.specs.{Kinds.Kinds, Words.{Row, fault_of, first_of, subcommand_of, takes}}
use Rattle.pc_base.specs.Lists.{Text}
use Rattle.pc_args.specs.Line.{rcap}

-- the words, as their bytes
abbrev pub texts : List (Bor Text) → List Text
texts words = map (λ w. w.now) words

-- What words ask for, with names and numbers as written.
pub data Asked : Type 0 where
  check : Text → Asked
  judge : Text → Text → Asked
  run : Text → Text → Asked
  show : Text → Asked
  make : Text → Text → Asked
  swap : Text → Text → Text → Asked
  trace : Text → Text → Asked
  events : Text → Text → Asked
  places : Text → Asked
  explain : Text → Asked
  sends : Text → Asked
  upgrade : Text → Text → Asked
  schedule_of : Text → Text → Asked
  play : Text → Text → Asked
  outcomes : Text → Text → Asked

-- the value of the argument with this name
abbrev pub argument_value : Text → List Row → Text
argument_value id rows = unwrap_or (first_of id rows) []

-- What a subcommand asks for, given the values of its arguments. There are no other subcommands.
abbrev pub asked_by_name : Text × List Row → Option Asked
asked_by_name p = if bytes_eq p.0 (codes "check") then Some (check (argument_value (codes "SRC") p.1))
    else if bytes_eq p.0 (codes "judge") then Some (judge (argument_value (codes "SRC") p.1) (argument_value (codes "DERIV") p.1))
    else if bytes_eq p.0 (codes "run") then Some (run (argument_value (codes "SRC") p.1) (argument_value (codes "SCHED") p.1))
    else if bytes_eq p.0 (codes "show") then Some (show (argument_value (codes "SRC") p.1))
    else if bytes_eq p.0 (codes "make") then Some (make (argument_value (codes "SEED") p.1) (argument_value (codes "SIZE") p.1))
    else if bytes_eq p.0 (codes "swap") then Some
    (swap (argument_value (codes "SRC") p.1) (argument_value (codes "SCHED") p.1) (argument_value (codes "PLACE") p.1))
    else if bytes_eq p.0 (codes "trace") then Some (trace (argument_value (codes "SRC") p.1) (argument_value (codes "SCHED") p.1))
    else if bytes_eq p.0 (codes "events") then Some (events (argument_value (codes "SRC") p.1) (argument_value (codes "SCHED") p.1))
    else if bytes_eq p.0 (codes "places") then Some (places (argument_value (codes "SRC") p.1))
    else if bytes_eq p.0 (codes "explain") then Some (explain (argument_value (codes "SRC") p.1))
    else if bytes_eq p.0 (codes "sends") then Some (sends (argument_value (codes "SRC") p.1))
    else if bytes_eq p.0 (codes "upgrade") then Some (upgrade (argument_value (codes "SRC") p.1) (argument_value (codes "DERIV") p.1))
    else if bytes_eq p.0 (codes "schedule") then Some (schedule_of (argument_value (codes "SRC") p.1) (argument_value (codes "SEED") p.1))
    else if bytes_eq p.0 (codes "play") then Some (play (argument_value (codes "SRC") p.1) (argument_value (codes "SEED") p.1))
    else if bytes_eq p.0 (codes "outcomes") then Some (outcomes (argument_value (codes "SRC") p.1) (argument_value (codes "COUNT") p.1))
    else None

-- whether there is a fault among these
abbrev pub has_fault : Kinds → Bool
has_fault [] = false
has_fault (k ∷ ks) = true

-- The command line does not take the words, and reports a fault in them.
unfoldable pub is_refused : List Text → Bool
is_refused words = not (takes rcap words) && has_fault (fault_of rcap words)

-- The command that words ask for: that of their subcommand, unless they are refused.
unfoldable pub command_of : List Text → Option Asked
command_of words = if is_refused words then None else option_and_then asked_by_name (subcommand_of rcap words)
