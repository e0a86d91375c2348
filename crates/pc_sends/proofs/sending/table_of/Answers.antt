use Rattle.std.proofs.Common.{◌↔◌, ℕ, List, subst}
use Rattle.pc_base.specs.Lists.{Has}
use Rattle.pc_sends.specs.{declared.table.Row.Row, Unsent.IsUnsent}
use Rattle.pc_sends.proofs.Tabled.{table_made}
use Rattle.pc_sends.proofs.sending.table_of.Goals as goal

pub ascending-requires : goal.ascending-requires
ascending-requires c = c.requires.reached.differ

pub returns : goal.returns
returns c =
    let core = c.args.noted.now.core.now in
    let never = c.in_ok-never.never in
    table_made core c.args.noted.now.entities.now c.in_ok-rows.rows never c.in_ok-reached.reached c.args.found.now c.in_ok-rows.ensures.order c.in_ok-rows.ensures.exact c.in_ok-never.ensures.ascends
    (subst (λ (rows : List Row). (t : ℕ) → (Has never t) ↔ (IsUnsent core rows t)) c.as_slice.ensures c.in_ok-never.ensures.exact) c.requires.reached c.in_ok-reached.ensures
