use Rattle.pc_explain_words.proofs.Pushes.{ok_three}
use Rattle.pc_explain.specs.Setting.{set_hint}
use Rattle.pc_explain.proofs.setting.push_set_hint.Goals as goal

pub returns : goal.returns
unfolding set_hint
returns c =
    ok_three _ _ _ _ _ _ _ _
    c.in_ok-push_bytes.ensures
    c.in_ok-push_field_name.ensures
    c.push_bytes-2.ensures
