use Rattle.std.proofs.{Common.{◌≡◌, ap, sym, ◌∙◌}, lemmas.Result.IfOk-weaker}
use Rattle.std.specs.Prelude.{length, slice_get, Some}
use Rattle.pc_explain_words.specs.Scene.{SceneData}
use Rattle.pc_explain.specs.Explanation.{scene_of}
use Rattle.pc_explain.proofs.Made.{node_made}
use Rattle.pc_explain.proofs.explaining.explain_stop.Goals as goal

pub explain_node-requires : goal.explain_node-requires
unfolding scene_of
explain_node-requires c = c.requires.0.slots ∙ sym (ap (λ (s : SceneData). length s.core.slots) c.scene_of-scene.ensures)

pub returns-in-Some : goal.returns-in-Some
returns-in-Some c =
    let core = c.args.core.now in
    let ann = c.args.ann.now in
    let at : slice_get core.nodes c.args.number ≡ Some c.in-Some.node.now = sym c.in-Some.ensures in
    let scene = c.scene_of-scene.ensures ∙ ap (scene_of c.args.bytes.now c.args.tokens.now core) c.as_slice-notes.ensures in
    IfOk-weaker c.explain_node.result _ _
    (λ text e. node_made c.args.name.now c.args.bytes.now c.args.tokens.now core ann c.args.number c.args.masks c.in-Some.node.now c.scene_of-scene.result text c.requires at scene e)
    c.explain_node.ensures
