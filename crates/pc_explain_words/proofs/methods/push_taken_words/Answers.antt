use Rattle.std.proofs.Common.{◌≡◌, ◌++◌, Option, OnOk, ap, sym, subst}
use Rattle.std.specs.Option.{option_copied}
use Rattle.pc_core.specs.declared.declarations.Method.{Method}
use Rattle.pc_explain_window.proofs.Appends.{ok_after}
use Rattle.pc_explain_words.specs.Methods.{taken_words}
use Rattle.pc_explain_words.proofs.methods.push_taken_words.Goals as goal

pub returns-in_ok-push_bytes-in-Some : goal.returns-in_ok-push_bytes-in-Some
returns-in_ok-push_bytes-in-Some c =
    subst (λ (from : Option Method). OnOk c.push_entity.result (c.push_entity.new.out.items ≡ c.args.out.now.items ++ taken_words c.args.core.now from))
    (sym (ap option_copied c.in-Some.is))
    (ok_after _ _ _ _ _ _ c.in_ok-push_bytes-in-Some.ensures c.push_entity.ensures)
