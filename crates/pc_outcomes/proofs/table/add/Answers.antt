use Rattle.std.proofs.Common.{◌≤◌, ◌<◌, ◌+◌, ◌∙◌, ℕ, refl, sym, ap, subst, arith}
use Rattle.std.specs.Prelude.{position}
use Rattle.pc_outcomes.specs.{declared.entry.Entry.Entry, declared.entry.Play.Play, Plays.IsPlayOfSeed, Tables.{shows_outcome, steps_limit}, Under.Under}
use Rattle.pc_outcomes.proofs.{Adding.{steps_pass, adds_found}, Finding.same_play}
use Rattle.pc_outcomes.proofs.table.add.Goals as goal

pub returns-then-steps-gt-STEPS_LIMIT : goal.returns-then-steps-gt-STEPS_LIMIT
returns-then-steps-gt-STEPS_LIMIT c core u is =
    let l : steps_limit < c.args.totals.steps + c.args.play.steps = omega (arith, c.if-steps-gt-STEPS_LIMIT.true, c.from.ensures) in
    (refl, steps_pass core c.args.seed c.args.entries.now c.args.totals u c.args.play is l)

pub returns-in-Some : goal.returns-in-Some
returns-in-Some c core u is =
    let l : c.args.totals.steps + c.args.play.steps ≤ steps_limit = omega (arith, c.if-steps-gt-STEPS_LIMIT.false, c.from.ensures) in
    let same = same_play c.outcome_of-outcome.result c.args.play c.outcome_of-outcome.ensures.text c.outcome_of-outcome.ensures.ending in
    let found = sym (c.in-Some.ensures ∙ ap (λ (p : Play). position (λ (e : Entry). shows_outcome e p) c.args.entries.now) same) in
    subst (λ (n : ℕ). Under core (c.args.seed + 1) c.count_at.new.self (record { steps = c.args.totals.steps + n; texts = c.args.totals.texts })) (sym c.from.ensures)
    (adds_found core c.args.seed c.args.entries.now c.args.totals u c.args.play is l c.in-Some.at found c.count_at.new.self c.count_at.ensures)

pub returns-in-None : goal.returns-in-None
returns-in-None c core u is =
    let l : c.args.totals.steps + c.from.result ≤ steps_limit = omega (arith, c.if-steps-gt-STEPS_LIMIT.false) in
    let same = same_play c.outcome_of-outcome.result c.args.play c.outcome_of-outcome.ensures.text c.outcome_of-outcome.ensures.ending in
    c.add_new.ensures core c.args.totals.steps u (subst (IsPlayOfSeed core c.args.seed) (sym same) is)
    (ap (λ (n : ℕ). c.args.totals.steps + n) c.from.ensures) l
