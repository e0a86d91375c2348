use Rattle.std.proofs.Common.{◌≡◌, ◌++◌, OnOk, subst}
use Rattle.pc_core.specs.CoreData.{CoreData}
use Rattle.pc_explain_words.specs.Methods.{taken_over_words}
use Rattle.pc_explain_words.proofs.Pushes.{ok_three}
use Rattle.pc_explain_parts.proofs.nodes.push_body.Goals as goal

pub returns : goal.returns
returns c =
    ok_three _ _ _ _ _ _ _ _ c.in_ok-push_bytes.ensures c.in_ok-push_method.ensures
    (subst (λ (core : CoreData). OnOk c.push_taken.result
    (c.push_taken.new.out.items ≡ c.push_method.new.out.items ++ taken_over_words core c.args.method.now))
    c.core.ensures c.push_taken.ensures)
