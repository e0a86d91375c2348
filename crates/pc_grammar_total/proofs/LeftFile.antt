-- The same for each rule of files, except for the file's own `End`.
use Rattle.std.proofs.Common.{◌≡◌, ◌≢◌, ℕ, Bool, true, false, List, [], ◌∷◌, Ok, Err, cond}
use Rattle.pc_tree.specs.{declared.kinds.EntityKind.EntityKind, declared.kinds.MethodWord.MethodWord, Kinds.{is_abstract, may_have_cap, may_have_fields, may_have_method_cap}}
use Rattle.pc_tree.specs.declared.kinds.EntityKind.TheVariants as kind
use Rattle.pc_tree.specs.declared.kinds.MethodWord.TheVariants as method
use Rattle.pc_token.specs.{declared.kinds.Token.Token, declared.kinds.TokenKind.TokenKind, Words.{is_sign, is_word}}
use Rattle.pc_token.specs.declared.kinds.TokenKind.TheVariants as k
use Rattle.pc_token.specs.declared.words.Word.TheVariants as w
use Rattle.pc_token.specs.declared.signs.Sign.TheVariants as s
use Rattle.pc_grammar.specs.{Spells.{local_word, method_word, entity_word}, Reading.{unexpected, too_deep, ReadingOutcome, Parser, and_then, pure, ◌>>=◌, ◌>>◌, take_if, type_name, inner}, ReadingFile.{kind_is_doc, is_doc, is_end, maybe_doc, maybe_hat, result_type, returns, param, param_list, params, value, field, begins_field, some_field, fields, written_body, maybe_body, body, cap_if, method_result, method_of, word_in, begins_method, some_method, type_names, provided, provides, entity_of, entity, begins_entity, file}}
use Rattle.pc_expr.proofs.Ends.{is_sign_not_end}
use Rattle.pc_expr.specs.Gives.{EndsWithEnd}
use Rattle.pc_grammar_total.specs.Levels.{OpensLevel}
use Rattle.pc_grammar_total.proofs.{Left.{Left, Leaves, NotEnd, anywhere, leaves_pure, leaves_refuse, leaves_bind, at_bind, leaves_peek, leaves_cond, at_cond, at_any, leaves_all_at, leaves_all_after}, LeftRules.{leaves_sign, leaves_word, leaves_name, leaves_type_name, leaves_maybe_cap, leaves_written_type, leaves_infix, leaves_seq, leaves_inner}}

doc_apart : (kk : TokenKind) → kind_is_doc kk ≡ true → kk ≢ k.End
doc_apart k.Doc is end = cc end
doc_apart _ is end = cc

is_doc_not_end : NotEnd is_doc
unfolding is_doc
is_doc_not_end x is = doc_apart x.kind is

leaves_maybe_doc : Leaves maybe_doc
unfolding maybe_doc
leaves_maybe_doc = leaves_peek _ (λ x. at_cond x (is_doc x) _ _ (λ is. at_bind x _ _ (at_any x (is_doc_not_end x is)) (λ y. leaves_pure _)) (λ e. anywhere x _ (leaves_pure _)))

leaves_maybe_hat : Leaves maybe_hat
unfolding maybe_hat
leaves_maybe_hat = leaves_peek _ (λ x. at_cond x (is_sign s.Caret x) _ _ (λ is. at_bind x _ _ (at_any x (is_sign_not_end s.Caret x is)) (λ y. leaves_pure _)) (λ e. anywhere x _ (leaves_pure _)))

leaves_result_type : Leaves result_type
unfolding result_type
leaves_result_type = leaves_bind _ _ leaves_type_name (λ m. leaves_bind _ _ leaves_maybe_cap (λ c. leaves_bind _ _ leaves_maybe_hat (λ h. leaves_pure _)))

leaves_returns : Leaves returns
unfolding returns
leaves_returns = leaves_peek _ (λ x. anywhere x _ (leaves_cond (is_sign s.Colon x) _ _ (leaves_bind _ _ (leaves_bind _ _ (leaves_sign s.Colon) (λ y. leaves_result_type)) (λ r. leaves_pure _)) (leaves_pure _)))

leaves_param : Leaves param
unfolding param
leaves_param = leaves_bind _ _ leaves_name (λ m. leaves_bind _ _ (leaves_bind _ _ (leaves_sign s.Colon) (λ y. leaves_written_type)) (λ r. leaves_pure _))

leaves_param_list : Leaves param_list
unfolding param_list
leaves_param_list = leaves_peek _ (λ x. anywhere x _ (leaves_cond (is_sign s.CloseParen x) _ _ (leaves_pure _) (leaves_bind _ _ leaves_param (λ p. leaves_bind _ _ (leaves_all_after (is_sign s.Comma) param (is_sign_not_end s.Comma) leaves_param) (λ ps. leaves_pure _)))))

leaves_params : Leaves params
unfolding params
leaves_params = leaves_bind _ _ (leaves_bind _ _ (leaves_sign s.OpenParen) (λ x. leaves_param_list)) (λ ps. leaves_bind _ _ (leaves_sign s.CloseParen) (λ y. leaves_pure _))

leaves_value : (n : ℕ) → Leaves (value n)
unfolding value
leaves_value n = leaves_peek _ (λ x. anywhere x _ (leaves_cond (is_sign s.Assign x) _ _ (leaves_bind _ _ (leaves_bind _ _ (leaves_sign s.Assign) (λ y. leaves_infix n (inner n) (leaves_inner n))) (λ e. leaves_pure _)) (leaves_pure _)))

leaves_field : (n : ℕ) (f : Bool) → Leaves (field n f)
unfolding field
leaves_field n f = leaves_bind _ _ (leaves_bind _ _ (leaves_word (local_word f)) (λ x. leaves_name)) (λ m. leaves_bind _ _ (leaves_bind _ _ (leaves_sign s.Colon) (λ y. leaves_written_type)) (λ r. leaves_bind _ _ (leaves_value n) (λ e. leaves_bind _ _ leaves_maybe_doc (λ d. leaves_pure _))))

leaves_some_field : (n : ℕ) → Leaves (some_field n)
unfolding some_field
leaves_some_field n = leaves_peek _ (λ x. anywhere x _ (leaves_field n (is_word w.LetWord x)))

leaves_fields : (n : ℕ) (e : EntityKind) → Leaves (fields n e)
leaves_fields n e = leaves_cond (may_have_fields e) _ _ (leaves_all_at begins_field (some_field n) (λ x is. anywhere x _ (leaves_some_field n))) (leaves_pure _)

leaves_written_body : (n : ℕ) → Leaves (written_body n)
unfolding written_body
leaves_written_body n = leaves_bind _ _ (leaves_bind _ _ (leaves_bind _ _ (leaves_sign s.Arrow) (λ x. leaves_maybe_doc)) (λ d. leaves_seq n (inner n) (leaves_inner n))) (λ b. leaves_pure _)

leaves_maybe_body : (n : ℕ) → Leaves (maybe_body n)
unfolding maybe_body
leaves_maybe_body n = leaves_peek _ (λ x. anywhere x _ (leaves_cond (is_sign s.Arrow x) _ _ (leaves_written_body n) (leaves_pure _)))

leaves_body : (n : ℕ) (e : EntityKind) → Leaves (body n e)
leaves_body n e = leaves_cond (is_abstract e) _ _ (leaves_maybe_body n) (leaves_written_body n)

leaves_cap_if : (b : Bool) → Leaves (cap_if b)
leaves_cap_if b = leaves_cond b _ _ leaves_maybe_cap (leaves_pure _)

leaves_method_result : (m : MethodWord) → Leaves (method_result m)
leaves_method_result method.Fun = leaves_returns
leaves_method_result method.Be = leaves_pure _
leaves_method_result method.New = leaves_pure _

leaves_method_of : (n : ℕ) (e : EntityKind) (m : MethodWord) → Leaves (method_of n e m)
unfolding method_of
leaves_method_of n e m =
    leaves_bind _ _ (leaves_bind _ _ (leaves_word (method_word m)) (λ x. leaves_cap_if (may_have_method_cap e m))) (λ c. leaves_bind _ _ leaves_name (λ i. leaves_bind _ _ leaves_params (λ ps. leaves_bind _ _ (leaves_method_result m) (λ r.
    leaves_bind _ _ (leaves_bind _ _ leaves_maybe_doc (λ d. leaves_body n e)) (λ b. leaves_pure _)))))

leaves_some_method : (n : ℕ) (e : EntityKind) → Leaves (some_method n e)
unfolding some_method
leaves_some_method n e = leaves_peek _ (λ x. anywhere x _ (leaves_cond (word_in e method.Fun x) _ _ (leaves_method_of n e method.Fun) (leaves_cond (word_in e method.Be x) _ _ (leaves_method_of n e method.Be) (leaves_method_of n e method.New))))

leaves_type_names : Leaves type_names
unfolding type_names
leaves_type_names = leaves_bind _ _ leaves_type_name (λ m. leaves_bind _ _ (leaves_all_after (is_sign s.Ampersand) type_name (is_sign_not_end s.Ampersand) leaves_type_name) (λ ms. leaves_pure _))

leaves_provided : Leaves provided
unfolding provided
leaves_provided = leaves_peek _ (λ x. anywhere x _ (leaves_cond (is_sign s.OpenParen x) _ _ (leaves_bind _ _ (leaves_bind _ _ (leaves_sign s.OpenParen) (λ y. leaves_type_names)) (λ ms. leaves_bind _ _ (leaves_sign s.CloseParen) (λ z. leaves_pure _))) (leaves_bind _ _ leaves_type_name (λ m. leaves_pure _))))

leaves_provides : Leaves provides
unfolding provides
leaves_provides = leaves_peek _ (λ x. anywhere x _ (leaves_cond (is_word w.IsWord x) _ _ (leaves_bind _ _ (leaves_word w.IsWord) (λ y. leaves_provided)) (leaves_pure _)))

leaves_entity_of : (n : ℕ) (e : EntityKind) → Leaves (entity_of n e)
unfolding entity_of
leaves_entity_of n e =
    leaves_bind _ _ (leaves_bind _ _ (leaves_word (entity_word e)) (λ x. leaves_cap_if (may_have_cap e))) (λ c. leaves_bind _ _ leaves_type_name (λ m. leaves_bind _ _ leaves_provides (λ ps. leaves_bind _ _ (leaves_bind _ _ leaves_maybe_doc (λ d. leaves_fields n e)) (λ fs.
    leaves_bind _ _ (leaves_all_at (begins_method e) (some_method n e) (λ x is. anywhere x _ (leaves_some_method n e))) (λ ms. leaves_pure _)))))

leaves_entity : (n : ℕ) → Leaves (entity n)
unfolding entity
leaves_entity n =
    let of = leaves_entity_of n in
    leaves_peek _ (λ x. anywhere x _ (leaves_cond (is_word w.ClassWord x) _ _ (of kind.Class) (leaves_cond (is_word w.ActorWord x) _ _ (of kind.Actor) (leaves_cond (is_word w.PrimitiveWord x) _ _ (of kind.Primitive) (leaves_cond (is_word w.TraitWord x) _ _ (of kind.Trait) (leaves_cond (is_word w.InterfaceWord x) _ _ (of kind.Interface) leaves_refuse))))))

-- ---- a file takes the `End`, and a fault is before it or at it

abbrev pub Named : {A : Type 0} → ReadingOutcome A → Type 0
Named (Ok r) = Unit {0}
Named (Err (unexpected, rest)) = EndsWithEnd rest
Named (Err (too_deep, rest)) = EndsWithEnd rest × OpensLevel rest

pub record Names {A : Type 0} (p : Parser A) : Type 0 where
  pub names : (ts : List Token) → EndsWithEnd ts → Named (p ts)

named_then : {A B : Type 0} (o : ReadingOutcome A) (f : A → Parser B) → Left o → ((v : A) → Names (f v)) → Named (and_then o f)
named_then (Ok r) f h b = (b r.0).names r.1 h
named_then (Err (unexpected, rest)) f h b = h
named_then (Err (too_deep, rest)) f h b = h

names_bind : {A B : Type 0} (p : Parser A) (f : A → Parser B) → Leaves p → ((v : A) → Names (f v)) → Names (p >>= f)
names_bind p f a b = record { names = λ ts ends. named_then (p ts) f (a.leaves ts ends) b }

close_by : {B : Type 0} (v : B) (x : Token) (ts : List Token) (b : Bool) → EndsWithEnd (x ∷ ts) → Named (and_then (cond b (Ok (x, ts)) (Err (unexpected, x ∷ ts))) (λ (y : Token). pure v))
close_by v x ts true ends = tt
close_by v x ts false ends = ends

close_named : {B : Type 0} (v : B) (ts : List Token) → EndsWithEnd ts → Named ((take_if is_end >> pure v) ts)
unfolding take_if
close_named v [] ends = absurd ends
close_named v (x ∷ ts) ends = close_by v x ts (is_end x) ends

names_close : {B : Type 0} (v : B) → Names (take_if is_end >> pure v)
names_close v = record { names = close_named v }

pub names_file : (n : ℕ) → Names (file n)
unfolding file
names_file n =
    let one = leaves_entity n in
    names_bind _ _ (leaves_bind _ _ leaves_maybe_doc (λ d. one)) (λ e. names_bind _ _ (leaves_all_at begins_entity (entity n) (λ x is. anywhere x _ one)) (λ es. names_close _))
