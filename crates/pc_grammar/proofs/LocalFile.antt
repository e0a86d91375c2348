-- Each rule of files has one token of lookahead.
use Rattle.std.proofs.Common.{ℕ, Bool}
use Rattle.pc_tree.specs.{declared.kinds.EntityKind.EntityKind, declared.kinds.MethodWord.MethodWord, Kinds.{is_abstract, may_have_cap, may_have_fields, may_have_method_cap}}
use Rattle.pc_tree.specs.declared.kinds.EntityKind.TheVariants as kind
use Rattle.pc_tree.specs.declared.kinds.MethodWord.TheVariants as method
use Rattle.pc_token.specs.declared.words.Word.TheVariants as w
use Rattle.pc_token.specs.declared.signs.Sign.TheVariants as s
use Rattle.pc_token.specs.Words.{is_sign, is_word}
use Rattle.pc_grammar.specs.{Reading.{after, at, type_name, inner}, ReadingFile.{is_doc, maybe_doc, maybe_hat, result_type, returns, param, param_list, params, value, field, begins_field, some_field, fields, written_body, maybe_body, body, cap_if, method_result, method_of, word_in, begins_method, some_method, type_names, provided, provides, entity_of, entity, begins_entity, file}}
use Rattle.pc_grammar.proofs.{Local.{Local, local_bind, local_pure, local_peek, local_take}, LocalLoops.{after_ahead, at_ahead, local_all}, LocalRules.{Good, good_bind, good_then, good_take, good_cond, good_refuse, local_cond, good_name, good_type_name, local_maybe_cap, good_written_type, good_inner, good_infix, good_seq}}

local_maybe_doc : Local maybe_doc
unfolding maybe_doc
local_maybe_doc = local_bind _ _ local_peek (λ x. local_cond (is_doc x) _ _ (local_bind _ _ (local_take _) (λ y. local_pure _)) (local_pure _))

local_maybe_hat : Local maybe_hat
unfolding maybe_hat
local_maybe_hat = local_bind _ _ local_peek (λ x. local_cond (is_sign s.Caret x) _ _ (local_bind _ _ (local_take _) (λ y. local_pure _)) (local_pure _))

good_result_type : Good result_type
unfolding result_type
good_result_type = good_bind _ _ good_type_name (λ m. local_bind _ _ local_maybe_cap (λ c. local_bind _ _ local_maybe_hat (λ h. local_pure _)))

local_returns : Local returns
unfolding returns
local_returns = local_bind _ _ local_peek (λ x. local_cond (is_sign s.Colon x) _ _ (local_bind _ _ (local_bind _ _ (local_take _) (λ y. good_result_type.local)) (λ r. local_pure _)) (local_pure _))

good_param : Good param
unfolding param
good_param = good_bind _ _ good_name (λ m. local_bind _ _ (local_bind _ _ (local_take _) (λ y. good_written_type.local)) (λ r. local_pure _))

local_param_list : Local param_list
unfolding param_list
local_param_list = local_bind _ _ local_peek (λ x. local_cond (is_sign s.CloseParen x) _ _ (local_pure _) (local_bind _ _ good_param.local (λ p. local_bind _ _ (local_all (after (is_sign s.Comma)) param (after_ahead _) good_param.local good_param.takes) (λ ps. local_pure _))))

local_params : Local params
unfolding params
local_params = local_bind _ _ (local_bind _ _ (local_take _) (λ x. local_param_list)) (λ ps. local_bind _ _ (local_take _) (λ y. local_pure _))

local_value : (n : ℕ) → Local (value n)
unfolding value
local_value n = local_bind _ _ local_peek (λ x. local_cond (is_sign s.Assign x) _ _ (local_bind _ _ (local_bind _ _ (local_take _) (λ y. (good_infix n (inner n) (good_inner n)).local)) (λ e. local_pure _)) (local_pure _))

good_field : (n : ℕ) (f : Bool) → Good (field n f)
unfolding field
good_field n f = good_bind _ _ (good_bind _ _ (good_take _) (λ x. good_name.local)) (λ m. local_bind _ _ (local_bind _ _ (local_take _) (λ y. good_written_type.local)) (λ r. local_bind _ _ (local_value n) (λ e. local_bind _ _ local_maybe_doc (λ d. local_pure _))))

good_some_field : (n : ℕ) → Good (some_field n)
unfolding some_field
good_some_field n = good_then _ _ local_peek (λ x. good_field n (is_word w.LetWord x))

local_fields : (n : ℕ) (e : EntityKind) → Local (fields n e)
local_fields n e = local_cond (may_have_fields e) _ _ (local_all (at begins_field) (some_field n) (at_ahead _) (good_some_field n).local (good_some_field n).takes) (local_pure _)

local_written_body : (n : ℕ) → Local (written_body n)
unfolding written_body
local_written_body n = local_bind _ _ (local_bind _ _ (local_bind _ _ (local_take _) (λ x. local_maybe_doc)) (λ d. (good_seq n (inner n) (good_inner n)).local)) (λ b. local_pure _)

local_maybe_body : (n : ℕ) → Local (maybe_body n)
unfolding maybe_body
local_maybe_body n = local_bind _ _ local_peek (λ x. local_cond (is_sign s.Arrow x) _ _ (local_written_body n) (local_pure _))

local_body : (n : ℕ) (e : EntityKind) → Local (body n e)
local_body n e = local_cond (is_abstract e) _ _ (local_maybe_body n) (local_written_body n)

local_cap_if : (b : Bool) → Local (cap_if b)
local_cap_if b = local_cond b _ _ local_maybe_cap (local_pure _)

local_method_result : (m : MethodWord) → Local (method_result m)
local_method_result method.Fun = local_returns
local_method_result method.Be = local_pure _
local_method_result method.New = local_pure _

good_method_of : (n : ℕ) (e : EntityKind) (m : MethodWord) → Good (method_of n e m)
unfolding method_of
good_method_of n e m =
    good_bind _ _ (good_bind _ _ (good_take _) (λ x. local_cap_if (may_have_method_cap e m))) (λ c. local_bind _ _ good_name.local (λ i. local_bind _ _ local_params (λ ps. local_bind _ _ (local_method_result m) (λ r.
    local_bind _ _ (local_bind _ _ local_maybe_doc (λ d. local_body n e)) (λ b. local_pure _)))))

good_some_method : (n : ℕ) (e : EntityKind) → Good (some_method n e)
unfolding some_method
good_some_method n e = good_then _ _ local_peek (λ x. good_cond (word_in e method.Fun x) _ _ (good_method_of n e method.Fun) (good_cond (word_in e method.Be x) _ _ (good_method_of n e method.Be) (good_method_of n e method.New)))

good_type_names : Good type_names
unfolding type_names
good_type_names = good_bind _ _ good_type_name (λ m. local_bind _ _ (local_all (after (is_sign s.Ampersand)) type_name (after_ahead _) good_type_name.local good_type_name.takes) (λ ms. local_pure _))

local_provided : Local provided
unfolding provided
local_provided = local_bind _ _ local_peek (λ x. local_cond (is_sign s.OpenParen x) _ _ (local_bind _ _ (local_bind _ _ (local_take _) (λ y. good_type_names.local)) (λ ms. local_bind _ _ (local_take _) (λ z. local_pure _))) (local_bind _ _ good_type_name.local (λ m. local_pure _)))

local_provides : Local provides
unfolding provides
local_provides = local_bind _ _ local_peek (λ x. local_cond (is_word w.IsWord x) _ _ (local_bind _ _ (local_take _) (λ y. local_provided)) (local_pure _))

good_entity_of : (n : ℕ) (e : EntityKind) → Good (entity_of n e)
unfolding entity_of
good_entity_of n e =
    let one = good_some_method n e in
    good_bind _ _ (good_bind _ _ (good_take _) (λ x. local_cap_if (may_have_cap e))) (λ c. local_bind _ _ good_type_name.local (λ m. local_bind _ _ local_provides (λ ps. local_bind _ _ (local_bind _ _ local_maybe_doc (λ d. local_fields n e)) (λ fs.
    local_bind _ _ (local_all (at (begins_method e)) (some_method n e) (at_ahead _) one.local one.takes) (λ ms. local_pure _)))))

good_entity : (n : ℕ) → Good (entity n)
unfolding entity
good_entity n =
    let of = good_entity_of n in
    good_then _ _ local_peek (λ x. good_cond (is_word w.ClassWord x) _ _ (of kind.Class) (good_cond (is_word w.ActorWord x) _ _ (of kind.Actor) (good_cond (is_word w.PrimitiveWord x) _ _ (of kind.Primitive) (good_cond (is_word w.TraitWord x) _ _ (of kind.Trait) (good_cond (is_word w.InterfaceWord x) _ _ (of kind.Interface) good_refuse)))))

pub local_file : (n : ℕ) → Local (file n)
unfolding file
local_file n =
    let one = good_entity n in
    local_bind _ _ (local_bind _ _ local_maybe_doc (λ d. one.local)) (λ e. local_bind _ _ (local_all (at begins_entity) (entity n) (at_ahead _) one.local one.takes) (λ es. local_bind _ _ (local_take _) (λ z. local_pure _)))
