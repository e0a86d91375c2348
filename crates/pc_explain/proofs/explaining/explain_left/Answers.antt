use Rattle.std.proofs.{Common.{◌≡◌, ap, sym, ◌∙◌}, lemmas.Result.IfOk-weaker}
use Rattle.std.specs.Prelude.{slice_get, Some}
use Rattle.pc_explain.specs.Explanation.{method_body_note, scene_of}
use Rattle.pc_explain.proofs.Made.{unset_made}
use Rattle.pc_explain.proofs.explaining.explain_left.Goals as goal

pub returns-in-Some-body_note : goal.returns-in-Some-body_note
returns-in-Some-body_note c =
    let core = c.args.core.now in
    let ann = c.args.ann.now in
    let method = c.in-Some.method.now in
    let note = c.in-Some-body_note.note in
    let at : slice_get core.methods c.args.number ≡ Some method = sym c.in-Some.ensures in
    let noted : method_body_note ann method ≡ Some note = sym c.in-Some-body_note.ensures in
    let scene = c.scene_of-scene.ensures ∙ ap (scene_of c.args.bytes.now c.args.tokens.now core) c.as_slice-notes.ensures in
    IfOk-weaker c.explain_unset.result _ _
    (λ text e. unset_made c.args.name.now c.args.bytes.now c.args.tokens.now core ann c.args.number method note c.scene_of-scene.result text c.requires at noted scene e)
    c.explain_unset.ensures
