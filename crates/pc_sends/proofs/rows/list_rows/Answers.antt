use Rattle.std.proofs.Common.{◌+◌, ◌++◌, ℕ, List, length, map, ap, sym, subst, ◌∙◌, arith}
use Rattle.pc_sends.specs.Tables.{row}
use Rattle.pc_sends.proofs.Tabled.{RowsTo, rows_none, rows_next, rows_all}
use Rattle.pc_sends.proofs.rows.list_rows.Goals as goal

pub loop-entity-init : goal.loop-entity-init
loop-entity-init c = subst (RowsTo c.args.noted.now.core.now c.args.noted.now.entities.now 0) (sym c.new-rows.ensures) (rows_none c.args.noted.now.core.now c.args.noted.now.entities.now)

pub loop-entity-preserved : goal.loop-entity-preserved
loop-entity-preserved c =
    let core = c.args.noted.now.core.now in
    let ents = c.args.noted.now.entities.now in
    let n = c.loop-entity.entity in
    let rows = c.loop-entity.rows in
    let targets = c.in_ok-targets.targets in
    let is = c.in_ok-add_rows.ensures ∙ ap (λ (ts : List ℕ). rows ++ map (row n) ts) c.as_slice.ensures in
    subst (RowsTo core ents (n + 1)) (sym is) (rows_next core ents n rows targets c.loop-entity.invariant c.in_ok-targets.ensures)

pub returns-clause-exact : goal.returns-clause-exact
returns-clause-exact c =
    let high = c.loop-entity-test.false in
    let same = ap length c.entities.ensures in
    rows_all c.args.noted.now.core.now c.args.noted.now.entities.now c.loop-entity.entity c.loop-entity.rows c.formed.ensures (omega (arith, high, same)) c.loop-entity.invariant
