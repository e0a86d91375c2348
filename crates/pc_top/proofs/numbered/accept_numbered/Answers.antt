use Rattle.std.proofs.lemmas.Result.{err_from_is_err_and}
use Rattle.pc_top.proofs.numbered.accept_numbered.Goals as goal

pub returns-in_err-accepted-clause-reads : goal.returns-in_err-accepted-clause-reads
returns-in_err-accepted-clause-reads g c =
    let p = err_from_is_err_and c.from_residual.result c.from_residual.ensures.1 in
    rw (p.1, p.2) (rw c.in-Some.is c.in_err-accepted.ensures.stage)

pub returns-clause-reads : goal.returns-clause-reads
returns-clause-reads g c = (c.in-Some.is, c.in_ok-accepted.ensures.stage)
