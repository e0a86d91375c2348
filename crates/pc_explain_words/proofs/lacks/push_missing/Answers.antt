use Rattle.std.proofs.Common.{◌≡◌, ◌++◌, ℕ, List, OnOk, subst}
use Rattle.std.specs.Prelude.{codes}
use Rattle.pc_explain_window.proofs.Appends.{ok_after}
use Rattle.pc_explain_window.specs.Quoting.{quoted}
use Rattle.pc_explain_words.specs.Lacks.{missing_words}
use Rattle.pc_explain_words.proofs.lacks.push_missing.Goals as goal

pub returns : goal.returns
unfolding missing_words
returns c =
    subst (λ (name : List ℕ). OnOk c.push_quoted.result (c.push_quoted.new.out.items ≡ c.args.out.now.items ++ (codes ": it has no function " ++ quoted name)))
    c.name_text.ensures
    (ok_after _ _ _ _ _ _ c.in_ok-push_bytes.ensures c.push_quoted.ensures)
