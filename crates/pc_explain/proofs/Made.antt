-- From the text that was made to the explanation that it is.
use Rattle.std.specs.Prelude.{◌≡◌, ℕ, List, [], Option, Some, None, slice_get}
use Rattle.std.proofs.{Common.{ap, sym, subst, ◌∙◌}, lemmas.Option.{same_Some, none-some}}
use Rattle.pc_ann.specs.{declared.annotation.Ann.Ann, declared.annotation.Note.Note}
use Rattle.pc_check.specs.Faults.{StopsAt, InferenceLeavesUnset}
use Rattle.pc_core.specs.{CoreData.CoreData, declared.declarations.Method.Method, declared.nodes.Node.Node}
use Rattle.pc_base.specs.Lists.{◌>>=◌, Text}
use Rattle.pc_valid.specs.Words.{Masks}
use Rattle.pc_sub.specs.{FirstFault.IsFirstDeclarationFault, declared.faults.DeclFault.DeclFault}
use Rattle.pc_token.specs.declared.kinds.Token.{Token}
use Rattle.pc_explain_words.specs.Scene.{SceneData}
use Rattle.pc_explain.specs.{Explanation.{IsExplanation, method_body_note, declaration_text, node_explanation, reasons_of, scene_of, stop_at, unset_text}, Explanation.IsExplanation.{declared, no_rule, unset}}

module _ (name bytes : Text) (tokens : List Token) (core : CoreData) where
  abbrev Explains : Text → Type 0
  Explains = IsExplanation name bytes tokens core

  pub declaration_made : (f : DeclFault) (text : Text) → IsFirstDeclarationFault core f → text ≡ declaration_text name (scene_of bytes tokens core []) f → Explains text
  declaration_made f text fault e = subst Explains (sym e) (declared f fault)

  pub node_made : (ann : Ann) (n : ℕ) (m : Masks) (x : Node) (s : SceneData) (text : Text) → StopsAt core n m ann → slice_get core.nodes n ≡ Some x
      → s ≡ scene_of bytes tokens core ann.notes → text ≡ node_explanation name (stop_at s n x m) (reasons_of s.core ann x m) → Explains text
  unfolding scene_of
  node_made ann n m x s text stop at is e =
      subst Explains (sym (e ∙ ap (λ (q : SceneData). node_explanation name (stop_at q n x m) (reasons_of q.core ann x m)) is)) (no_rule ann n m x stop at)

  pub no_node : (ann : Ann) (n : ℕ) (m : Masks) → StopsAt core n m ann → slice_get core.nodes n ≡ None → ⊥
  no_node ann n m stop e = none-some stop.0.at (sym e ∙ stop.0.is_at)

  pub note_of_body : (ann : Ann) (k : ℕ) (left : InferenceLeavesUnset core k ann) → method_body_note ann left.0.method ≡ Some left.0.note
  note_of_body ann k left = ap (λ (o : Option ℕ). o >>= λ b. slice_get ann.notes b) left.0.is_body ∙ left.0.is_note

  method_is : (ann : Ann) (k : ℕ) (x : Method) (left : InferenceLeavesUnset core k ann) → slice_get core.methods k ≡ Some x → left.0.method ≡ x
  method_is ann k x left at = same_Some left.0.method x (sym left.0.is_method ∙ at)

  pub unset_made : (ann : Ann) (k : ℕ) (x : Method) (t : Note) (s : SceneData) (text : Text) → InferenceLeavesUnset core k ann → slice_get core.methods k ≡ Some x
      → method_body_note ann x ≡ Some t → s ≡ scene_of bytes tokens core ann.notes → text ≡ unset_text name s x t → Explains text
  unset_made ann k x t s text left at noted is e =
      let same = method_is ann k x left at in
      let note : left.0.note ≡ t = same_Some left.0.note t (sym (note_of_body ann k left) ∙ ap (method_body_note ann) same ∙ noted) in
      subst Explains (sym (e ∙ ap (λ (q : SceneData). unset_text name q x t) is ∙ ap (λ (y : Method). unset_text name (scene_of bytes tokens core ann.notes) y t) (sym same)
      ∙ ap (λ (u : Note). unset_text name (scene_of bytes tokens core ann.notes) left.0.method u) (sym note))) (unset ann k left)

  pub no_method : (ann : Ann) (k : ℕ) → InferenceLeavesUnset core k ann → slice_get core.methods k ≡ None → ⊥
  no_method ann k left e = none-some left.0.method (sym e ∙ left.0.is_method)

  pub no_note : (ann : Ann) (k : ℕ) (x : Method) → InferenceLeavesUnset core k ann → slice_get core.methods k ≡ Some x
      → method_body_note ann x ≡ None → ⊥
  no_note ann k x left at e = none-some left.0.note (sym e ∙ ap (method_body_note ann) (sym (method_is ann k x left at)) ∙ note_of_body ann k left)
