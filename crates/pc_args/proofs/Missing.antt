-- Words without a subcommand have a fault, and are not taken.
use Rattle.std.proofs.Common.{◌≡◌, Bool, true, false, List, [], ◌∷◌, None, refl, is_some, ap, subst, not, ◌&&◌, ◌||◌}
use Rattle.clap.specs.{Kinds.{Kinds, or_else, check_kinds}, Faults.{check_fault, defaults_fault, entered_fault, level_fault, settle_fault, walk_fault}, Takes.{default_passes, entered_passes, is_given, is_valid, level_passes, settle_passes, walk_passes}, Facts.explicit_source, Simple.{Shape, built, is_simple, argument_words, names_of}, Walk.{Held, Names, finished, nothing_held, settled, walk, walk_from}, Words.{Row, Text, fault_of, subcommand_of, takes}}
use Rattle.std.specs.List.{list_all, list_any}
use Rattle.pc_args.specs.Line.{rcap}
use Rattle.pc_base.proofs.Bools.{second_true, first_true}

or_else_nil : (a b : Kinds) → or_else a b ≡ [] → b ≡ []
or_else_nil [] b e = e
or_else_nil (k ∷ ks) b e = cc

check_nil : (x z y : Bool) → z ≡ true → check_kinds x z y ≡ [] → ⊥
check_nil true true y r e = cc
check_nil false true y r e = cc
check_nil x false y r e = cc

unchecked : (s : Shape) (rows : List Row) → s.subcommand_required ≡ true → check_fault s rows false ≡ [] → ⊥
unchecked s rows required e = check_nil (s.arg_required_else_help && not (list_any (λ r. explicit_source r.source) rows)) s.subcommand_required
    (not (s.subcommand_negates_reqs && false) && list_any (λ a. a.required && not (is_given a.id rows)) s.rules) required e

no_subcommand : (s : Shape) (names : Names) (h : Held) (words : List Text) (below : Kinds) → s.subcommand_required ≡ true
    → level_fault s names h words false below ≡ [] → ⊥
no_subcommand s names h words below required e =
    let end = (walk s.rules names h words).held in
    let a = or_else_nil (walk_fault s names (walk_from h) words) _ e in
    let b = or_else_nil below _ a in
    let c = or_else_nil (settle_fault s.rules s.args_override_self end) _ b in
    let d = or_else_nil (defaults_fault (settled s.rules end).rows s.rules) _ c in
    unchecked s (finished s.rules (walk s.rules names h words).held) required d

pub missing : (words : List Text) → subcommand_of rcap words ≡ None → fault_of rcap words ≡ [] → ⊥
missing words e f =
    let a = built rcap in
    let stop = (walk a.top.rules (names_of a) nothing_held (argument_words a words)).stopped in
    let P : Bool → Type 0 = λ b. level_fault a.top (names_of a) nothing_held (argument_words a words) b (entered_fault a stop) ≡ [] in
    no_subcommand a.top (names_of a) nothing_held (argument_words a words) (entered_fault a stop) refl
    (subst P (ap is_some e) f)

-- ---- the same by what the command line takes

not_wanted : (b : Bool) → b ≡ true → (not b || false) ≡ true → ⊥
not_wanted true r e = cc
not_wanted false r e = cc

invalid : (s : Shape) (rows : List Row) → s.subcommand_required ≡ true → is_valid s rows false ≡ true → ⊥
invalid s rows required e =
    let a = second_true (not s.arg_required_else_help || (false || list_any (λ r. explicit_source r.source) rows)) _ e in
    not_wanted s.subcommand_required required (first_true (not s.subcommand_required || false) _ a)

passes_without : (s : Shape) (names : Names) (h : Held) (words : List Text) → s.subcommand_required ≡ true → level_passes s names h words false ≡ true → ⊥
passes_without s names h words required e =
    let end = (walk s.rules names h words).held in
    let a = second_true (walk_passes s names (walk_from h) words) _ e in
    let b = second_true (settle_passes s.rules s.args_override_self end) _ a in
    let c = second_true (list_all default_passes s.rules) _ b in
    invalid s (finished s.rules (walk s.rules names h words).held) required c

pub untaken_without : (words : List Text) → subcommand_of rcap words ≡ None → takes rcap words ≡ true → ⊥
untaken_without words e t =
    let a = built rcap in
    let stop = (walk a.top.rules (names_of a) nothing_held (argument_words a words)).stopped in
    let P : Bool → Type 0 = λ b. level_passes a.top (names_of a) nothing_held (argument_words a words) b ≡ true in
    passes_without a.top (names_of a) nothing_held (argument_words a words) refl
    (subst P (ap is_some e) (second_true (entered_passes a stop) _ (second_true (is_simple rcap) _ t)))
