use Rattle.std.proofs.Common.{◌≡◌, ◌≤◌, ◌<◌, ◌+◌, ◌++◌, ◌∷◌, [], ℕ, List, length, refl, sym, subst, arith}
use Rattle.pc_outcomes.specs.{declared.entry.Entry.Entry, Shown.play_with, Tables.{steps_limit, texts_limit}, Under.{Under, entry_of}}
use Rattle.pc_outcomes.proofs.Adding.{texts_pass, adds_new}
use Rattle.pc_outcomes.proofs.table.add_new.Goals as goal

pub returns-then-texts-gt-TEXTS_LIMIT : goal.returns-then-texts-gt-TEXTS_LIMIT
returns-then-texts-gt-TEXTS_LIMIT c core before u is e l =
    let few : before + c.args.steps ≤ steps_limit = omega (arith, e, l) in
    let more : texts_limit < c.args.totals.texts + length c.args.outcome.text.items = omega (arith, c.if-texts-gt-TEXTS_LIMIT.true, c.len.ensures) in
    (refl, texts_pass core c.args.seed c.args.entries.now (record { steps = before; texts = c.args.totals.texts }) u (play_with c.args.outcome c.args.steps) is few c.requires.new more)

pub returns : goal.returns
returns c core before u is e l =
    let few : before + c.args.steps ≤ steps_limit = omega (arith, e, l) in
    let less : c.args.totals.texts + length c.args.outcome.text.items ≤ texts_limit = omega (arith, c.if-texts-gt-TEXTS_LIMIT.false, c.len.ensures) in
    let count : c.len.result ≡ length c.args.outcome.text.items = omega (arith, c.len.ensures) in
    let new = adds_new core c.args.seed c.args.entries.now (record { steps = before; texts = c.args.totals.texts }) u (play_with c.args.outcome c.args.steps) is few c.requires.new less in
    subst (λ (es : List Entry). Under core (c.args.seed + 1) es (record { steps = c.args.totals.steps; texts = c.args.totals.texts + c.len.result })) (sym c.in_ok-push.ensures)
    (subst (λ (s : ℕ). Under core (c.args.seed + 1) (c.args.entries.now ++ entry_of c.args.seed (play_with c.args.outcome c.args.steps) ∷ []) (record { steps = s; texts = c.args.totals.texts + c.len.result })) (sym e)
    (subst (λ (k : ℕ). Under core (c.args.seed + 1) (c.args.entries.now ++ entry_of c.args.seed (play_with c.args.outcome c.args.steps) ∷ []) (record { steps = before + c.args.steps; texts = c.args.totals.texts + k })) (sym count) new))
