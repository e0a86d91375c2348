use Rattle.std.proofs.Common.{◌≡◌, ◌++◌, ◌∙◌, map, drop, ap, arith}
use Rattle.pc_semantics.specs.Pending.{all_tasks, single}
use Rattle.pc_semantics.proofs.Pending.{singles_are}
use Rattle.pc_semantics.proofs.tasks.Tasks.push_all.Goals as goal

pub returns-clause-ok : goal.returns-clause-ok
returns-clause-ok c =
    let ts = c.args.tasks.now in
    let es = c.self.inside.entries in
    let none : c.tasks.left ≡ 0 = omega (arith, c.tasks-test.false) in
    ap all_tasks c.tasks.invariant.so_far ∙ ap (λ k. all_tasks (map single (drop k ts) ++ es)) none ∙ singles_are ts es ∙ ap (λ z. ts ++ z) c.self.view_is
