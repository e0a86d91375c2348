-- A rule with a repetition reads as its parts do.
use Rattle.std.proofs.Common.{◌≡◌, Bool, true, false, List, [], ◌∷◌, refl, sym, ◌∙◌, if◌then◌else◌}
use Rattle.pc_tree.specs.Tree as t
use Rattle.pc_token.specs.{declared.kinds.Token.Token, Words.is_sign}
use Rattle.pc_token.specs.declared.signs.Sign.TheVariants as s
use Rattle.pc_grammar.specs.{Reading.{Parser, ◌>>=◌, ◌>>◌, pure, peek, take_if, all, after, at}, ReadingFile.{is_end, maybe_doc, param, param_list, type_names, begins_entity, entity, file}}
use Rattle.pc_expr.specs.Onto.{onto}
use Rattle.pc_expr.proofs.Parts.{same_behind, grouped, onto_first}
use Rattle.pc_parse.specs.Parts.{some_params, param_list_parts, some_type_names, some_entities, file_parts}

params_at : (b : Bool) (ts : List Token)
    → (if b then pure [] else (param >>= λ p. all (after (is_sign s.Comma)) param >>= λ ps. pure (p ∷ ps))) ts ≡ (if b then pure [] else some_params) ts
unfolding some_params onto
params_at true ts = refl
params_at false ts = refl

pub params_by_parts : (ts : List Token) → param_list ts ≡ param_list_parts ts
unfolding param_list param_list_parts
params_by_parts ts = same_behind (peek ts) _ _ (λ x rest. params_at (is_sign s.CloseParen x) rest)

pub type_names_by_parts : (ts : List Token) → type_names ts ≡ some_type_names ts
unfolding type_names some_type_names onto
type_names_by_parts ts = refl

ended : List t.Entity → Parser t.File
ended es = take_if is_end >> pure (record { entities = es })

behind_first : t.Entity → Parser t.File
behind_first e = all (at begins_entity) (entity 199) >>= λ es. ended (e ∷ es)

entities_first : (ts : List Token) → (entity 199 >>= behind_first) ts ≡ (some_entities >>= ended) ts
unfolding some_entities behind_first
entities_first ts =
    same_behind (entity 199 ts) _ _ (λ e rest. onto_first (at begins_entity) (entity 199) (e ∷ []) ended rest)
    ∙ grouped (entity 199 ts) (λ e. onto (at begins_entity) (entity 199) (e ∷ [])) ended

pub file_by_parts : (ts : List Token) → file 199 ts ≡ file_parts ts
unfolding file file_parts ended behind_first
file_by_parts ts =
    sym (grouped (maybe_doc ts) (λ _. entity 199) behind_first)
    ∙ same_behind (maybe_doc ts) _ _ (λ d rest. entities_first rest)
    ∙ grouped (maybe_doc ts) (λ _. some_entities) ended
