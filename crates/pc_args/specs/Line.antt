-- The command line of the program, in clap's terms: a required subcommand, with required arguments of one value each.
use Rattle.std.specs.{Prelude.{List, [], ◌∷◌, true, codes, ℕ, ◌≡◌, ◌≤◌, ◌<◌, ◌^◌, length, fold}, Str.Parse.{IsNumeral, digits_value}}
use Rattle.clap.specs.{Simple.on_top, Words.{App, Rule, Text, new_app, new_rule, with_rule, with_subcommand}}

abbrev pub positional : Text → Rule
positional id = record (new_rule id) { required = true }

-- The words begin after the program's name, and `help` is not added as a subcommand.
abbrev pub bare : App
bare = on_top (λ s. record s { no_binary_name = true; disable_help_subcommand = true; subcommand_required = true }) (new_app (codes "rcap"))

-- A subcommand with this name, and a required argument of one value for each of these names.
abbrev pub subcommand : Text → List Text → App
subcommand name arguments = fold (λ line id. with_rule line (positional id)) (new_app name) arguments

-- The subcommands, in this order.
abbrev pub subcommands : List App
subcommands =
    subcommand (codes "check") (codes "SRC" ∷ [])
    ∷ subcommand (codes "judge") (codes "SRC" ∷ codes "DERIV" ∷ [])
    ∷ subcommand (codes "run") (codes "SRC" ∷ codes "SCHED" ∷ [])
    ∷ subcommand (codes "show") (codes "SRC" ∷ [])
    ∷ subcommand (codes "make") (codes "SEED" ∷ codes "SIZE" ∷ [])
    ∷ subcommand (codes "swap") (codes "SRC" ∷ codes "SCHED" ∷ codes "PLACE" ∷ [])
    ∷ subcommand (codes "trace") (codes "SRC" ∷ codes "SCHED" ∷ [])
    ∷ subcommand (codes "sends") (codes "SRC" ∷ [])
    ∷ subcommand (codes "upgrade") (codes "SRC" ∷ codes "DERIV" ∷ [])
    ∷ subcommand (codes "schedule") (codes "SRC" ∷ codes "SEED" ∷ [])
    ∷ subcommand (codes "play") (codes "SRC" ∷ codes "SEED" ∷ [])
    ∷ subcommand (codes "outcomes") (codes "SRC" ∷ codes "COUNT" ∷ [])
    ∷ subcommand (codes "places") (codes "SRC" ∷ [])
    ∷ subcommand (codes "events") (codes "SRC" ∷ codes "SCHED" ∷ [])
    ∷ subcommand (codes "explain") (codes "SRC" ∷ []) ∷ []

abbrev pub rcap : App
rcap = fold (λ line leaf. with_subcommand line leaf.top) bare subcommands

-- ---- numbers among the words, as texts spell them

-- One to n decimal digits, and the number that they denote. There may be leading zeros.
abbrev pub IsNumber : ℕ → List ℕ → ℕ → Type 0
IsNumber most text n = (length text ≤ most) × IsNumeral 10 text × (n ≡ digits_value 10 text)

-- One to twenty digits, and a number below 2^64.
abbrev pub IsSeed : List ℕ → ℕ → Type 0
IsSeed text n = IsNumber 20 text n × (n < 2 ^ 64)

-- One to three digits, and a number from 1 to 900.
abbrev pub IsSize : List ℕ → ℕ → Type 0
IsSize text n = IsNumber 3 text n × (1 ≤ n) × (n ≤ 900)
