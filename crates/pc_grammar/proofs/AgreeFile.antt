-- With more levels left a file is read in the same way, except if a level was one too many.
use Rattle.std.proofs.Common.{ℕ, ◌≤◌, Bool}
use Rattle.pc_tree.specs.{declared.kinds.EntityKind.EntityKind, declared.kinds.MethodWord.MethodWord, Kinds.{is_abstract, may_have_fields}}
use Rattle.pc_tree.specs.declared.kinds.EntityKind.TheVariants as kind
use Rattle.pc_tree.specs.declared.kinds.MethodWord.TheVariants as method
use Rattle.pc_token.specs.declared.words.Word.TheVariants as w
use Rattle.pc_token.specs.declared.signs.Sign.TheVariants as s
use Rattle.pc_token.specs.Words.{is_sign, is_word}
use Rattle.pc_grammar.specs.{Spells.{local_word, method_word, entity_word}, Reading.{◌>>◌, pure, peek, take_if, at, inner, name, type_name, written_type}, ReadingFile.{maybe_doc, params, provides, entity_cap, method_cap, method_result, value, field, begins_field, some_field, fields, written_body, maybe_body, body, method_of, word_in, begins_method, some_method, entity_of, entity, begins_entity, file}}
use Rattle.pc_grammar.proofs.Agree.{Agrees, same, bind_agrees, cond_agrees, all_agrees, inner_agrees, infix_agrees, seq_agrees}

module _ (n m : ℕ) (le : n ≤ m) where
  value_agrees : Agrees (value n) (value m)
  unfolding value
  value_agrees = bind_agrees _ _ _ _ (same peek) (λ x. cond_agrees (is_sign s.Assign x) _ _ _ _ (bind_agrees _ _ _ _ (bind_agrees _ _ _ _ (same _) (λ y. infix_agrees n m le (inner n) (inner m) (inner_agrees n m le))) (λ e. same _)) (same _))

  field_agrees : (f : Bool) → Agrees (field n f) (field m f)
  unfolding field
  field_agrees f = bind_agrees _ _ _ _ (same (take_if (is_word (local_word f)) >> name)) (λ i. bind_agrees _ _ _ _ (same (take_if (is_sign s.Colon) >> written_type)) (λ r. bind_agrees _ _ _ _ value_agrees (λ e. same (maybe_doc >> pure (record { fixed = f; name = i; ty = r; value = e })))))

  some_field_agrees : Agrees (some_field n) (some_field m)
  unfolding some_field
  some_field_agrees = bind_agrees _ _ _ _ (same peek) (λ x. field_agrees (is_word w.LetWord x))

  fields_agrees : (e : EntityKind) → Agrees (fields n e) (fields m e)
  fields_agrees e = cond_agrees (may_have_fields e) _ _ _ _ (all_agrees (at begins_field) (some_field n) (some_field m) some_field_agrees) (same _)

  written_body_agrees : Agrees (written_body n) (written_body m)
  unfolding written_body
  written_body_agrees = bind_agrees _ _ _ _ (bind_agrees _ _ _ _ (same _) (λ d. seq_agrees n m le (inner n) (inner m) (inner_agrees n m le))) (λ b. same _)

  maybe_body_agrees : Agrees (maybe_body n) (maybe_body m)
  unfolding maybe_body
  maybe_body_agrees = bind_agrees _ _ _ _ (same peek) (λ x. cond_agrees (is_sign s.Arrow x) _ _ _ _ written_body_agrees (same _))

  body_agrees : (e : EntityKind) → Agrees (body n e) (body m e)
  body_agrees e = cond_agrees (is_abstract e) _ _ _ _ maybe_body_agrees written_body_agrees

  method_agrees : (e : EntityKind) (i : MethodWord) → Agrees (method_of n e i) (method_of m e i)
  unfolding method_of
  method_agrees e i =
      bind_agrees _ _ _ _ (same (take_if (is_word (method_word i)) >> method_cap e i)) (λ c. bind_agrees _ _ _ _ (same name) (λ a. bind_agrees _ _ _ _ (same params) (λ ps. bind_agrees _ _ _ _ (same (method_result i)) (λ r.
      bind_agrees _ _ _ _ (bind_agrees _ _ _ _ (same maybe_doc) (λ d. body_agrees e)) (λ b. same (pure (record { word = i; cap = c; name = a; params = ps; result = r; body = b })))))))

  some_method_agrees : (e : EntityKind) → Agrees (some_method n e) (some_method m e)
  unfolding some_method
  some_method_agrees e = bind_agrees _ _ _ _ (same peek) (λ x. cond_agrees (word_in e method.Fun x) _ _ _ _ (method_agrees e method.Fun) (cond_agrees (word_in e method.Be x) _ _ _ _ (method_agrees e method.Be) (method_agrees e method.New)))

  entity_of_agrees : (e : EntityKind) → Agrees (entity_of n e) (entity_of m e)
  unfolding entity_of
  entity_of_agrees e =
      bind_agrees _ _ _ _ (same (take_if (is_word (entity_word e)) >> entity_cap e)) (λ c. bind_agrees _ _ _ _ (same type_name) (λ i. bind_agrees _ _ _ _ (same provides) (λ ps. bind_agrees _ _ _ _ (bind_agrees _ _ _ _ (same maybe_doc) (λ d. fields_agrees e)) (λ fs.
      bind_agrees _ _ _ _ (all_agrees (at (begins_method e)) (some_method n e) (some_method m e) (some_method_agrees e)) (λ ms. same (pure (record { kind = e; cap = c; name = i; provides = ps; fields = fs; methods = ms })))))))

  entity_agrees : Agrees (entity n) (entity m)
  unfolding entity
  entity_agrees =
      let of = entity_of_agrees in
      bind_agrees _ _ _ _ (same peek) (λ x. cond_agrees (is_word w.ClassWord x) _ _ _ _ (of kind.Class) (cond_agrees (is_word w.ActorWord x) _ _ _ _ (of kind.Actor) (cond_agrees (is_word w.PrimitiveWord x) _ _ _ _ (of kind.Primitive) (cond_agrees (is_word w.TraitWord x) _ _ _ _ (of kind.Trait) (cond_agrees (is_word w.InterfaceWord x) _ _ _ _ (of kind.Interface) (same _))))))

  pub file_agrees : Agrees (file n) (file m)
  unfolding file
  file_agrees = bind_agrees _ _ _ _ (bind_agrees _ _ _ _ (same maybe_doc) (λ d. entity_agrees)) (λ e. bind_agrees _ _ _ _ (all_agrees (at begins_entity) (entity n) (entity m) entity_agrees) (λ es. same _))
