use Rattle.std.proofs.Common.{◌++◌, ℕ, List, ap, ◌∙◌}
use Rattle.pc_core.specs.{CoreData.CoreData, Further.own_nodes}
use Rattle.pc_explain_window.specs.Quoting.{quoted}
use Rattle.pc_explain_words.specs.Forms.{name_text, place_words}
use Rattle.pc_explain_sentences.proofs.Pushed.{ok_seven}
use Rattle.pc_explain.specs.Setting.{unset_part, write_places, writes_of}
use Rattle.pc_explain.proofs.setting.push_unset_part.Goals as goal

pub returns : goal.returns
unfolding unset_part
returns c =
    let field = c.args.field in
    let name = c.name_text.ensures ∙ ap (λ (core : CoreData). name_text core field.name) c.core-core.ensures in
    let core = c.args.scene.now.core in
    let nodes = c.own_nodes.ensures ∙ ap (λ (core : CoreData). own_nodes core c.args.method.now) c.core-core.ensures in
    let starts = c.as_slice.ensures.value ∙ c.in_ok-starts.ensures ∙ ap (λ (k : CoreData). writes_of k field.name c.own_nodes.result.now) c.core-core.ensures ∙ ap (writes_of core field.name) nodes in
    let places = ap (λ (bytes : List ℕ). write_places bytes c.as_slice.result.now) c.bytes.ensures ∙ ap (write_places c.args.scene.now.bytes) starts in
    ok_seven _ _ _ _ _ _ _ _ _ _ _ _ _ _ _ _
    c.in_ok-push_bytes.ensures
    (c.in_ok-push_quoted.ensures ∙ ap (λ (word : List ℕ). c.push_bytes.new.out.items ++ quoted word) name)
    c.in_ok-push_bytes-2.ensures
    (c.in_ok-push_place_type.ensures ∙ ap (λ (core : CoreData). c.push_bytes-2.new.out.items ++ place_words core (field.entity, field.cap)) c.core-core.ensures)
    c.in_ok-push_bytes-3.ensures
    (c.in_ok-push_write_places.ensures ∙ ap (λ (words : List ℕ). c.push_bytes-3.new.out.items ++ words) places)
    c.push_bytes-4.ensures
