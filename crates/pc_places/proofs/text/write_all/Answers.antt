use Rattle.std.proofs.Common.{◌≡◌, ◌++◌, length, ap, ◌∙◌}
use Rattle.std.specs.Prelude.{ℕ, List}
use Rattle.pc_core.specs.declared.declarations.FieldInfo.{FieldInfo}
use Rattle.pc_places.specs.Text.{entities_text, fields_from, fields_text, head_of, methods_text, nodes_text, places_text, slots_text}
use Rattle.pc_places.proofs.Joining.{put_next}
use Rattle.pc_places.proofs.text.write_all.Goals as goal

pub returns : goal.returns
returns c =
    let core = c.args.core.now in
    let tokens = c.args.tokens.now in
    let source = c.args.source.now in
    let whole = places_text source tokens core in
    let all : c.in_ok-fields.fields ≡ fields_from 0 core.entities = c.in_ok-fields.ensures ∙ ap (fields_from 0) c.entities.ensures in
    let count : c.len.result ≡ length (fields_from 0 core.entities) = c.len.ensures ∙ ap (λ (fs : List (ℕ × FieldInfo)). length fs) all in
    let same : c.as_slice.result.now ≡ fields_from 0 core.entities = c.as_slice.ensures ∙ all in
    let slots = slots_text core tokens source 0 core.slots in
    let nodes = nodes_text core core.nodes in
    let methods = methods_text core core.methods in
    let fields = fields_text core (fields_from 0 core.entities) in
    let entities = entities_text core.entities in
    let head = head_of core (length (fields_from 0 core.entities)) in
    let none : c.new-text.result.items ++ (head ++ (entities ++ (fields ++ (methods ++ (slots ++ nodes))))) ≡ whole =
    ap (λ (t : List ℕ). t ++ (head ++ (entities ++ (fields ++ (methods ++ (slots ++ nodes)))))) c.new-text.ensures.items in
    let first = put_next _ _ head _ whole (c.in_ok-push_head.ensures ∙ ap (λ (n : ℕ). c.new-text.result.items ++ head_of core n) count) none in
    let second = put_next _ _ entities _ whole c.in_ok-push_entities.ensures first in
    let third = put_next _ _ fields _ whole (c.in_ok-push_fields.ensures ∙ ap (λ (fs : List (ℕ × FieldInfo)). c.push_entities.new.text.items ++ fields_text core fs) same) second in
    let fourth = put_next _ _ methods _ whole c.in_ok-push_methods.ensures third in
    let fifth = put_next _ _ slots _ whole c.in_ok-push_slots.ensures fourth in
    c.from_vec.ensures ∙ c.in_ok-push_nodes.ensures ∙ fifth
