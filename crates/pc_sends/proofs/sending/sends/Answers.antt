use Rattle.std.proofs.{Common.{ℕ, List, sym, subst}, lemmas.Result.IfOk-weaker}
use Rattle.pc_semantics.specs.Step.{after}
use Rattle.pc_sends.specs.{Found.ListsMayBe, Tables.{IsTable, TableTells}, declared.table.Table.Table}
use Rattle.pc_sends.proofs.Tabled.{table_tells}
use Rattle.pc_sends.proofs.sending.sends.Goals as goal

pub reach-requires : goal.reach-requires
reach-requires c = subst (ListsMayBe c.args.core.now) (sym c.as_slice.ensures) c.in_ok-lists.ensures

pub table_of-requires-clause-lists : goal.table_of-requires-clause-lists
table_of-requires-clause-lists c = subst (ListsMayBe c.args.core.now) (sym c.as_slice.ensures) c.in_ok-lists.ensures

pub table_of-requires-clause-reached : goal.table_of-requires-clause-reached
table_of-requires-clause-reached c = c.in_ok-found.ensures

pub returns-clause-table : goal.returns-clause-table
returns-clause-table c = c.table_of.ensures

pub returns-clause-tells : goal.returns-clause-tells
returns-clause-tells c =
    let core = c.args.core.now in
    let ents = c.args.entities.now in
    IfOk-weaker c.table_of.result (IsTable core ents) (λ (table : Table). (list : List ℕ) → TableTells core table (after core list))
    (λ table is list. table_tells core ents table (after core list) is (c.held_covers.ensures core ents c.formed.ensures c.requires.held list)) c.table_of.ensures
