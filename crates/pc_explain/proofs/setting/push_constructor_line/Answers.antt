use Rattle.pc_explain_words.proofs.Pushes.{ok_three}
use Rattle.pc_explain.specs.Setting.{constructor_line}
use Rattle.pc_explain.proofs.setting.push_constructor_line.Goals as goal

pub returns : goal.returns
unfolding constructor_line
returns c =
    ok_three _ _ _ _ _ _ _ _
    c.in_ok-push_bytes.ensures
    c.in_ok-push_method.ensures
    c.push_bytes-2.ensures
