-- The written forms are taken, and their matches are the names; and each subcommand of the command line asks for something.
use Rattle.std.proofs.{Common.{◌≡◌, ◌∙◌, ℕ, Bool, cond, List, [], ◌∷◌, Option, Some, None, true, false, not, ◌&&◌, refl, ap, nat_eq, option_map}, lemmas.Bool.not-true}
use Rattle.std.specs.Prelude.{codes, find, if◌then◌else◌, option_and_then}
use Rattle.clap.specs.{Simple.{App, Shape, argument_words, built, entered, label_of, names_of, rows_at}, Walk.{answers_to, stop_after}, Words.{Row, fault_of, subcommand_of, takes}}
use Rattle.clap.proofs.OnLiterals.{clap_on_literals}
use Rattle.pc_base.specs.Lists.{Text}
use Rattle.pc_args.specs.{Asked.{Asked, check, command_of, events, explain, has_fault, is_refused, judge, make, asked_by_name, outcomes, places, play, run, schedule_of, sends, show, swap, trace, upgrade}, Forms.{AskFor, WrittenFormsAreTaken, check_words, events_words, explain_words, is_plain, judge_words, make_words, outcomes_words, places_words, play_words, run_words, schedule_words, sends_words, show_words, swap_words, trace_words, upgrade_words}, Line.rcap}

check_taken : (c : ℕ) (rest : Text) → nat_eq c 45 ≡ false → takes rcap (check_words (c ∷ rest)) ≡ true
unfolding clap_on_literals
check_taken c rest plain = simp plain refl

check_read : (c : ℕ) (rest : Text) → nat_eq c 45 ≡ false → command_of (check_words (c ∷ rest)) ≡ Some (check (c ∷ rest))
unfolding clap_on_literals command_of is_refused
check_read c rest plain = simp plain refl

judge_taken : (c d : ℕ) (rest more : Text) → nat_eq c 45 ≡ false → nat_eq d 45 ≡ false → takes rcap (judge_words (c ∷ rest) (d ∷ more)) ≡ true
unfolding clap_on_literals
judge_taken c d rest more plain also = simp (plain, also) refl

judge_read : (c d : ℕ) (rest more : Text) → nat_eq c 45 ≡ false → nat_eq d 45 ≡ false
    → command_of (judge_words (c ∷ rest) (d ∷ more)) ≡ Some (judge (c ∷ rest) (d ∷ more))
unfolding clap_on_literals command_of is_refused
judge_read c d rest more plain also = simp (plain, also) refl

run_taken : (c d : ℕ) (rest more : Text) → nat_eq c 45 ≡ false → nat_eq d 45 ≡ false → takes rcap (run_words (c ∷ rest) (d ∷ more)) ≡ true
unfolding clap_on_literals
run_taken c d rest more plain also = simp (plain, also) refl

run_read : (c d : ℕ) (rest more : Text) → nat_eq c 45 ≡ false → nat_eq d 45 ≡ false
    → command_of (run_words (c ∷ rest) (d ∷ more)) ≡ Some (run (c ∷ rest) (d ∷ more))
unfolding clap_on_literals command_of is_refused
run_read c d rest more plain also = simp (plain, also) refl

show_taken : (c : ℕ) (rest : Text) → nat_eq c 45 ≡ false → takes rcap (show_words (c ∷ rest)) ≡ true
unfolding clap_on_literals
show_taken c rest plain = simp plain refl

show_read : (c : ℕ) (rest : Text) → nat_eq c 45 ≡ false → command_of (show_words (c ∷ rest)) ≡ Some (show (c ∷ rest))
unfolding clap_on_literals command_of is_refused
show_read c rest plain = simp plain refl

make_taken : (c d : ℕ) (rest more : Text) → nat_eq c 45 ≡ false → nat_eq d 45 ≡ false → takes rcap (make_words (c ∷ rest) (d ∷ more)) ≡ true
unfolding clap_on_literals
make_taken c d rest more plain also = simp (plain, also) refl

make_read : (c d : ℕ) (rest more : Text) → nat_eq c 45 ≡ false → nat_eq d 45 ≡ false
    → command_of (make_words (c ∷ rest) (d ∷ more)) ≡ Some (make (c ∷ rest) (d ∷ more))
unfolding clap_on_literals command_of is_refused
make_read c d rest more plain also = simp (plain, also) refl

swap_taken : (c d b : ℕ) (rest more last : Text) → nat_eq c 45 ≡ false → nat_eq d 45 ≡ false → nat_eq b 45 ≡ false
    → takes rcap (swap_words (c ∷ rest) (d ∷ more) (b ∷ last)) ≡ true
unfolding clap_on_literals
swap_taken c d b rest more last plain also behind = simp plain (simp also (simp behind refl))

swap_found : (c d b : ℕ) (rest more last : Text) → nat_eq c 45 ≡ false → nat_eq d 45 ≡ false → nat_eq b 45 ≡ false
    → option_and_then asked_by_name (subcommand_of rcap (swap_words (c ∷ rest) (d ∷ more) (b ∷ last)))
    ≡ Some (swap (c ∷ rest) (d ∷ more) (b ∷ last))
unfolding clap_on_literals
swap_found c d b rest more last plain also behind = simp plain (simp also (simp behind refl))

trace_taken : (c d : ℕ) (rest more : Text) → nat_eq c 45 ≡ false → nat_eq d 45 ≡ false → takes rcap (trace_words (c ∷ rest) (d ∷ more)) ≡ true
unfolding clap_on_literals
trace_taken c d rest more plain also = simp plain (simp also refl)

trace_found : (c d : ℕ) (rest more : Text) → nat_eq c 45 ≡ false → nat_eq d 45 ≡ false
    → option_and_then asked_by_name (subcommand_of rcap (trace_words (c ∷ rest) (d ∷ more))) ≡ Some (trace (c ∷ rest) (d ∷ more))
unfolding clap_on_literals
trace_found c d rest more plain also = simp plain (simp also refl)

events_taken : (c d : ℕ) (rest more : Text) → nat_eq c 45 ≡ false → nat_eq d 45 ≡ false → takes rcap (events_words (c ∷ rest) (d ∷ more)) ≡ true
unfolding clap_on_literals
events_taken c d rest more plain also = simp plain (simp also refl)

events_found : (c d : ℕ) (rest more : Text) → nat_eq c 45 ≡ false → nat_eq d 45 ≡ false
    → option_and_then asked_by_name (subcommand_of rcap (events_words (c ∷ rest) (d ∷ more))) ≡ Some (events (c ∷ rest) (d ∷ more))
unfolding clap_on_literals
events_found c d rest more plain also = simp plain (simp also refl)

places_taken : (c : ℕ) (rest : Text) → nat_eq c 45 ≡ false → takes rcap (places_words (c ∷ rest)) ≡ true
unfolding clap_on_literals
places_taken c rest plain = simp plain refl

places_found : (c : ℕ) (rest : Text) → nat_eq c 45 ≡ false → option_and_then asked_by_name (subcommand_of rcap (places_words (c ∷ rest))) ≡ Some (places (c ∷ rest))
unfolding clap_on_literals
places_found c rest plain = simp plain refl

explain_taken : (c : ℕ) (rest : Text) → nat_eq c 45 ≡ false → takes rcap (explain_words (c ∷ rest)) ≡ true
unfolding clap_on_literals
explain_taken c rest plain = simp plain refl

explain_found : (c : ℕ) (rest : Text) → nat_eq c 45 ≡ false → option_and_then asked_by_name (subcommand_of rcap (explain_words (c ∷ rest))) ≡ Some (explain (c ∷ rest))
unfolding clap_on_literals
explain_found c rest plain = simp plain refl

sends_taken : (c : ℕ) (rest : Text) → nat_eq c 45 ≡ false → takes rcap (sends_words (c ∷ rest)) ≡ true
unfolding clap_on_literals
sends_taken c rest plain = simp plain refl

sends_found : (c : ℕ) (rest : Text) → nat_eq c 45 ≡ false → option_and_then asked_by_name (subcommand_of rcap (sends_words (c ∷ rest))) ≡ Some (sends (c ∷ rest))
unfolding clap_on_literals
sends_found c rest plain = simp plain refl

upgrade_taken : (c d : ℕ) (rest more : Text) → nat_eq c 45 ≡ false → nat_eq d 45 ≡ false → takes rcap (upgrade_words (c ∷ rest) (d ∷ more)) ≡ true
unfolding clap_on_literals
upgrade_taken c d rest more plain also = simp plain (simp also refl)

upgrade_found : (c d : ℕ) (rest more : Text) → nat_eq c 45 ≡ false → nat_eq d 45 ≡ false
    → option_and_then asked_by_name (subcommand_of rcap (upgrade_words (c ∷ rest) (d ∷ more))) ≡ Some (upgrade (c ∷ rest) (d ∷ more))
unfolding clap_on_literals
upgrade_found c d rest more plain also = simp plain (simp also refl)

schedule_taken : (c d : ℕ) (rest more : Text) → nat_eq c 45 ≡ false → nat_eq d 45 ≡ false → takes rcap (schedule_words (c ∷ rest) (d ∷ more)) ≡ true
unfolding clap_on_literals
schedule_taken c d rest more plain also = simp plain (simp also refl)

schedule_found : (c d : ℕ) (rest more : Text) → nat_eq c 45 ≡ false → nat_eq d 45 ≡ false
    → option_and_then asked_by_name (subcommand_of rcap (schedule_words (c ∷ rest) (d ∷ more))) ≡ Some (schedule_of (c ∷ rest) (d ∷ more))
unfolding clap_on_literals
schedule_found c d rest more plain also = simp plain (simp also refl)

play_taken : (c d : ℕ) (rest more : Text) → nat_eq c 45 ≡ false → nat_eq d 45 ≡ false → takes rcap (play_words (c ∷ rest) (d ∷ more)) ≡ true
unfolding clap_on_literals
play_taken c d rest more plain also = simp plain (simp also refl)

play_found : (c d : ℕ) (rest more : Text) → nat_eq c 45 ≡ false → nat_eq d 45 ≡ false
    → option_and_then asked_by_name (subcommand_of rcap (play_words (c ∷ rest) (d ∷ more))) ≡ Some (play (c ∷ rest) (d ∷ more))
unfolding clap_on_literals
play_found c d rest more plain also = simp plain (simp also refl)

outcomes_taken : (c d : ℕ) (rest more : Text) → nat_eq c 45 ≡ false → nat_eq d 45 ≡ false → takes rcap (outcomes_words (c ∷ rest) (d ∷ more)) ≡ true
unfolding clap_on_literals
outcomes_taken c d rest more plain also = simp plain (simp also refl)

outcomes_found : (c d : ℕ) (rest more : Text) → nat_eq c 45 ≡ false → nat_eq d 45 ≡ false
    → option_and_then asked_by_name (subcommand_of rcap (outcomes_words (c ∷ rest) (d ∷ more))) ≡ Some (outcomes (c ∷ rest) (d ∷ more))
unfolding clap_on_literals
outcomes_found c d rest more plain also = simp plain (simp also refl)

-- Words that are taken are not refused.
unrefused : (words : List Text) → takes rcap words ≡ true → is_refused words ≡ false
unfolding is_refused
unrefused words t = ap (λ b. not b && has_fault (fault_of rcap words)) t

read_from : (words : List Text) (asked : Asked) → takes rcap words ≡ true → option_and_then asked_by_name (subcommand_of rcap words) ≡ Some asked → command_of words ≡ Some asked
unfolding command_of
read_from words asked t e = ap (λ b. if b then None else option_and_then asked_by_name (subcommand_of rcap words)) (unrefused words t) ∙ e

swap_asks : (c d b : ℕ) (rest more last : Text) → nat_eq c 45 ≡ false → nat_eq d 45 ≡ false → nat_eq b 45 ≡ false
    → AskFor (swap_words (c ∷ rest) (d ∷ more) (b ∷ last)) (swap (c ∷ rest) (d ∷ more) (b ∷ last))
swap_asks c d b rest more last plain also behind =
    let t = swap_taken c d b rest more last plain also behind in
    (t, read_from (swap_words (c ∷ rest) (d ∷ more) (b ∷ last)) (swap (c ∷ rest) (d ∷ more) (b ∷ last)) t (swap_found c d b rest more last plain also behind))

trace_asks : (c d : ℕ) (rest more : Text) → nat_eq c 45 ≡ false → nat_eq d 45 ≡ false → AskFor (trace_words (c ∷ rest) (d ∷ more)) (trace (c ∷ rest) (d ∷ more))
trace_asks c d rest more plain also =
    let t = trace_taken c d rest more plain also in
    (t, read_from (trace_words (c ∷ rest) (d ∷ more)) (trace (c ∷ rest) (d ∷ more)) t (trace_found c d rest more plain also))

events_asks : (c d : ℕ) (rest more : Text) → nat_eq c 45 ≡ false → nat_eq d 45 ≡ false → AskFor (events_words (c ∷ rest) (d ∷ more)) (events (c ∷ rest) (d ∷ more))
events_asks c d rest more plain also =
    let t = events_taken c d rest more plain also in
    (t, read_from (events_words (c ∷ rest) (d ∷ more)) (events (c ∷ rest) (d ∷ more)) t (events_found c d rest more plain also))

places_asks : (c : ℕ) (rest : Text) → nat_eq c 45 ≡ false → AskFor (places_words (c ∷ rest)) (places (c ∷ rest))
places_asks c rest plain =
    let t = places_taken c rest plain in
    (t, read_from (places_words (c ∷ rest)) (places (c ∷ rest)) t (places_found c rest plain))

explain_asks : (c : ℕ) (rest : Text) → nat_eq c 45 ≡ false → AskFor (explain_words (c ∷ rest)) (explain (c ∷ rest))
explain_asks c rest plain =
    let t = explain_taken c rest plain in
    (t, read_from (explain_words (c ∷ rest)) (explain (c ∷ rest)) t (explain_found c rest plain))

sends_asks : (c : ℕ) (rest : Text) → nat_eq c 45 ≡ false → AskFor (sends_words (c ∷ rest)) (sends (c ∷ rest))
sends_asks c rest plain =
    let t = sends_taken c rest plain in
    (t, read_from (sends_words (c ∷ rest)) (sends (c ∷ rest)) t (sends_found c rest plain))

upgrade_asks : (c d : ℕ) (rest more : Text) → nat_eq c 45 ≡ false → nat_eq d 45 ≡ false → AskFor (upgrade_words (c ∷ rest) (d ∷ more)) (upgrade (c ∷ rest) (d ∷ more))
upgrade_asks c d rest more plain also =
    let t = upgrade_taken c d rest more plain also in
    (t, read_from (upgrade_words (c ∷ rest) (d ∷ more)) (upgrade (c ∷ rest) (d ∷ more)) t (upgrade_found c d rest more plain also))

schedule_asks : (c d : ℕ) (rest more : Text) → nat_eq c 45 ≡ false → nat_eq d 45 ≡ false → AskFor (schedule_words (c ∷ rest) (d ∷ more)) (schedule_of (c ∷ rest) (d ∷ more))
schedule_asks c d rest more plain also =
    let t = schedule_taken c d rest more plain also in
    (t, read_from (schedule_words (c ∷ rest) (d ∷ more)) (schedule_of (c ∷ rest) (d ∷ more)) t (schedule_found c d rest more plain also))

play_asks : (c d : ℕ) (rest more : Text) → nat_eq c 45 ≡ false → nat_eq d 45 ≡ false → AskFor (play_words (c ∷ rest) (d ∷ more)) (play (c ∷ rest) (d ∷ more))
play_asks c d rest more plain also =
    let t = play_taken c d rest more plain also in
    (t, read_from (play_words (c ∷ rest) (d ∷ more)) (play (c ∷ rest) (d ∷ more)) t (play_found c d rest more plain also))

outcomes_asks : (c d : ℕ) (rest more : Text) → nat_eq c 45 ≡ false → nat_eq d 45 ≡ false → AskFor (outcomes_words (c ∷ rest) (d ∷ more)) (outcomes (c ∷ rest) (d ∷ more))
outcomes_asks c d rest more plain also =
    let t = outcomes_taken c d rest more plain also in
    (t, read_from (outcomes_words (c ∷ rest) (d ∷ more)) (outcomes (c ∷ rest) (d ∷ more)) t (outcomes_found c d rest more plain also))

checks : (source : Text) → is_plain source ≡ true → AskFor (check_words source) (check source)
checks [] e = let bad : false ≡ true = e in cc
checks (c ∷ rest) e =
    let plain : nat_eq c 45 ≡ false = not-true (nat_eq c 45) e in
    (check_taken c rest plain, check_read c rest plain)

judges : (source derivation : Text) → is_plain source ≡ true → is_plain derivation ≡ true → AskFor (judge_words source derivation) (judge source derivation)
judges [] derivation e f = let bad : false ≡ true = e in cc
judges (c ∷ rest) [] e f = let bad : false ≡ true = f in cc
judges (c ∷ rest) (d ∷ more) e f =
    let plain : nat_eq c 45 ≡ false = not-true (nat_eq c 45) e in
    let also : nat_eq d 45 ≡ false = not-true (nat_eq d 45) f in
    (judge_taken c d rest more plain also, judge_read c d rest more plain also)

runs : (source schedule : Text) → is_plain source ≡ true → is_plain schedule ≡ true → AskFor (run_words source schedule) (run source schedule)
runs [] schedule e f = let bad : false ≡ true = e in cc
runs (c ∷ rest) [] e f = let bad : false ≡ true = f in cc
runs (c ∷ rest) (d ∷ more) e f =
    let plain : nat_eq c 45 ≡ false = not-true (nat_eq c 45) e in
    let also : nat_eq d 45 ≡ false = not-true (nat_eq d 45) f in
    (run_taken c d rest more plain also, run_read c d rest more plain also)

shows : (source : Text) → is_plain source ≡ true → AskFor (show_words source) (show source)
shows [] e = let bad : false ≡ true = e in cc
shows (c ∷ rest) e =
    let plain : nat_eq c 45 ≡ false = not-true (nat_eq c 45) e in
    (show_taken c rest plain, show_read c rest plain)

makes : (seed size : Text) → is_plain seed ≡ true → is_plain size ≡ true → AskFor (make_words seed size) (make seed size)
makes [] size e f = let bad : false ≡ true = e in cc
makes (c ∷ rest) [] e f = let bad : false ≡ true = f in cc
makes (c ∷ rest) (d ∷ more) e f =
    let plain : nat_eq c 45 ≡ false = not-true (nat_eq c 45) e in
    let also : nat_eq d 45 ≡ false = not-true (nat_eq d 45) f in
    (make_taken c d rest more plain also, make_read c d rest more plain also)

swaps : (source schedule place : Text) → is_plain source ≡ true → is_plain schedule ≡ true → is_plain place ≡ true
    → AskFor (swap_words source schedule place) (swap source schedule place)
swaps [] schedule place e f g = let bad : false ≡ true = e in cc
swaps (c ∷ rest) [] place e f g = let bad : false ≡ true = f in cc
swaps (c ∷ rest) (d ∷ more) [] e f g = let bad : false ≡ true = g in cc
swaps (c ∷ rest) (d ∷ more) (b ∷ last) e f g =
    let plain : nat_eq c 45 ≡ false = not-true (nat_eq c 45) e in
    let also : nat_eq d 45 ≡ false = not-true (nat_eq d 45) f in
    let behind : nat_eq b 45 ≡ false = not-true (nat_eq b 45) g in
    swap_asks c d b rest more last plain also behind

traces : (source schedule : Text) → is_plain source ≡ true → is_plain schedule ≡ true → AskFor (trace_words source schedule) (trace source schedule)
traces [] schedule e f = let bad : false ≡ true = e in cc
traces (c ∷ rest) [] e f = let bad : false ≡ true = f in cc
traces (c ∷ rest) (d ∷ more) e f =
    let plain : nat_eq c 45 ≡ false = not-true (nat_eq c 45) e in
    let also : nat_eq d 45 ≡ false = not-true (nat_eq d 45) f in
    trace_asks c d rest more plain also

tellings : (source schedule : Text) → is_plain source ≡ true → is_plain schedule ≡ true → AskFor (events_words source schedule) (events source schedule)
tellings [] schedule e f = let bad : false ≡ true = e in cc
tellings (c ∷ rest) [] e f = let bad : false ≡ true = f in cc
tellings (c ∷ rest) (d ∷ more) e f =
    let plain : nat_eq c 45 ≡ false = not-true (nat_eq c 45) e in
    let also : nat_eq d 45 ≡ false = not-true (nat_eq d 45) f in
    events_asks c d rest more plain also

placings : (source : Text) → is_plain source ≡ true → AskFor (places_words source) (places source)
placings [] e = let bad : false ≡ true = e in cc
placings (c ∷ rest) e =
    let plain : nat_eq c 45 ≡ false = not-true (nat_eq c 45) e in
    places_asks c rest plain

explanations : (source : Text) → is_plain source ≡ true → AskFor (explain_words source) (explain source)
explanations [] e = let bad : false ≡ true = e in cc
explanations (c ∷ rest) e =
    let plain : nat_eq c 45 ≡ false = not-true (nat_eq c 45) e in
    explain_asks c rest plain

sendings : (source : Text) → is_plain source ≡ true → AskFor (sends_words source) (sends source)
sendings [] e = let bad : false ≡ true = e in cc
sendings (c ∷ rest) e =
    let plain : nat_eq c 45 ≡ false = not-true (nat_eq c 45) e in
    sends_asks c rest plain

upgrades : (source derivation : Text) → is_plain source ≡ true → is_plain derivation ≡ true → AskFor (upgrade_words source derivation) (upgrade source derivation)
upgrades [] derivation e f = let bad : false ≡ true = e in cc
upgrades (c ∷ rest) [] e f = let bad : false ≡ true = f in cc
upgrades (c ∷ rest) (d ∷ more) e f =
    let plain : nat_eq c 45 ≡ false = not-true (nat_eq c 45) e in
    let also : nat_eq d 45 ≡ false = not-true (nat_eq d 45) f in
    upgrade_asks c d rest more plain also

schedules : (source seed : Text) → is_plain source ≡ true → is_plain seed ≡ true → AskFor (schedule_words source seed) (schedule_of source seed)
schedules [] seed e f = let bad : false ≡ true = e in cc
schedules (c ∷ rest) [] e f = let bad : false ≡ true = f in cc
schedules (c ∷ rest) (d ∷ more) e f =
    let plain : nat_eq c 45 ≡ false = not-true (nat_eq c 45) e in
    let also : nat_eq d 45 ≡ false = not-true (nat_eq d 45) f in
    schedule_asks c d rest more plain also

plays : (source seed : Text) → is_plain source ≡ true → is_plain seed ≡ true → AskFor (play_words source seed) (play source seed)
plays [] seed e f = let bad : false ≡ true = e in cc
plays (c ∷ rest) [] e f = let bad : false ≡ true = f in cc
plays (c ∷ rest) (d ∷ more) e f =
    let plain : nat_eq c 45 ≡ false = not-true (nat_eq c 45) e in
    let also : nat_eq d 45 ≡ false = not-true (nat_eq d 45) f in
    play_asks c d rest more plain also

tables : (source count : Text) → is_plain source ≡ true → is_plain count ≡ true → AskFor (outcomes_words source count) (outcomes source count)
tables [] count e f = let bad : false ≡ true = e in cc
tables (c ∷ rest) [] e f = let bad : false ≡ true = f in cc
tables (c ∷ rest) (d ∷ more) e f =
    let plain : nat_eq c 45 ≡ false = not-true (nat_eq c 45) e in
    let also : nat_eq d 45 ≡ false = not-true (nat_eq d 45) f in
    outcomes_asks c d rest more plain also

pub forms_taken : WrittenFormsAreTaken
forms_taken = record { checks = checks; judges = judges; runs = runs; shows = shows; makes = makes; swaps = swaps; traces = traces; sendings = sendings; upgrades = upgrades; schedules = schedules; plays = plays; tables = tables; placings = placings; explanations = explanations; tellings = tellings }

-- ---- each subcommand asks for something

-- A subcommand with this name asks for something, whatever its values are.
abbrev Asks : Text → Type 0
Asks name = (rows : List Row) → asked_by_name (name, rows) ≡ None → ⊥

abbrev AllAsk : List Shape → Type 0
AllAsk [] = Unit {0}
AllAsk (s ∷ ss) = Asks s.name × AllAsk ss

here : (b : Bool) (s : Shape) (o : Option Shape) (words : List Text) → Asks s.name
    → (option_and_then asked_by_name (option_map (λ x. rows_at x words) o) ≡ None → option_map (λ x. rows_at x words) o ≡ None)
    → option_and_then asked_by_name (option_map (λ x. rows_at x words) (cond b (Some s) o)) ≡ None → option_map (λ x. rows_at x words) (cond b (Some s) o) ≡ None
here true s o words asks rest e = absurd (asks (rows_at s words).1 e)
here false s o words asks rest e = rest e

found : (test : Shape → Bool) (words : List Text) (ss : List Shape) → AllAsk ss
    → option_and_then asked_by_name (option_map (λ x. rows_at x words) (find test ss)) ≡ None
    → option_map (λ x. rows_at x words) (find test ss) ≡ None
found test words [] all e = refl
found test words (s ∷ ss) all e = here (test s) s (find test ss) words all.0 (found test words ss all.1) e

enters : (a : App) (stop : Option (Text × List Text)) → AllAsk a.subs → option_and_then asked_by_name (entered a stop) ≡ None → entered a stop ≡ None
enters a None all e = refl
enters a (Some p) all e = found (λ s. answers_to p.0 (label_of s)) p.1 a.subs all e

check_known : Asks (codes "check")
check_known rows e = cc

judge_known : Asks (codes "judge")
judge_known rows e = cc

run_known : Asks (codes "run")
run_known rows e = cc

show_known : Asks (codes "show")
show_known rows e = cc

make_known : Asks (codes "make")
make_known rows e = cc

swap_known : Asks (codes "swap")
swap_known rows e = cc

trace_known : Asks (codes "trace")
trace_known rows e = cc

sends_known : Asks (codes "sends")
sends_known rows e = cc

upgrade_known : Asks (codes "upgrade")
upgrade_known rows e = cc

schedule_known : Asks (codes "schedule")
schedule_known rows e = cc

play_known : Asks (codes "play")
play_known rows e = cc

outcomes_known : Asks (codes "outcomes")
outcomes_known rows e = cc

places_known : Asks (codes "places")
places_known rows e = cc

events_known : Asks (codes "events")
events_known rows e = cc

explain_known : Asks (codes "explain")
explain_known rows e = cc

-- Words that ask for nothing have no subcommand.
pub nothing_asked : (words : List Text) → option_and_then asked_by_name (subcommand_of rcap words) ≡ None → subcommand_of rcap words ≡ None
nothing_asked words e =
    let stop = stop_after (built rcap).top.rules (names_of (built rcap)) (argument_words rcap words) in
    enters (built rcap) stop (check_known, (judge_known, (run_known, (show_known, (make_known, (swap_known, (trace_known, (sends_known, (upgrade_known, (schedule_known, (play_known, (outcomes_known, (places_known, (events_known, (explain_known, tt))))))))))))))) e
