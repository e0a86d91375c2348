use Rattle.std.proofs.{Common.{◌++◌, ℕ, List, ap, ◌∙◌}, lemmas.Result.on_ok_weaker}
use Rattle.pc_core.specs.{CoreData.CoreData, declared.declarations.FieldInfo.FieldInfo}
use Rattle.std.specs.Prelude.{Option}
use Rattle.pc_explain_words.proofs.Pushes.{ok_three}
use Rattle.pc_explain.specs.Setting.{field_lines, set_hint}
use Rattle.pc_explain.proofs.setting.push_field_lines.Goals as goal

pub returns : goal.returns
unfolding field_lines
returns c =
    let reported = ap (λ (core : CoreData). set_hint core c.first_unset.result) c.core.ensures ∙ ap (λ (field : Option FieldInfo). set_hint c.args.scene.now.core field) c.first_unset.ensures in
    ok_three _ _ _ _ _ _ _ _
    c.in_ok-push_unset_parts.ensures
    c.in_ok-push_bytes.ensures
    (on_ok_weaker c.push_set_hint.result (λ e. e ∙ ap (λ (hint : List ℕ). c.push_bytes.new.out.items ++ hint) reported) c.push_set_hint.ensures)
