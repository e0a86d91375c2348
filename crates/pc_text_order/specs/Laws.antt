-- The order in which tokens, and the names of trees, are in a text.
use Rattle.std.specs.Prelude.{ℕ, List, map}
use Rattle.pc_base.specs.Lists.{Ascends, Each}
use Rattle.pc_token.specs.declared.kinds.Token.{Token}
use Rattle.pc_lex.specs.Pieces.{Tokens}
use Rattle.pc_expr.specs.Gives.{EndsWithEnd}
use Rattle.pc_grammar.specs.Spells.{SpellsFile}
use Rattle.pc_body_spec.specs.Places.{initial_places, body_places}
use Rattle.pc_tree.specs.Tree as t
use Rattle.pc_names.specs.Laws as names

-- Where tokens start in the text.
abbrev pub starts : List Token → List ℕ
starts ts = map (λ (x : Token). x.span.start) ts

-- ---- the tokens of a text

abbrev pub TokensAscend : Type 0
TokensAscend = (text : List ℕ) (ts : List Token) → Tokens text ts → Ascends (starts ts)

abbrev pub TokensEnd : Type 0
TokensEnd = (text : List ℕ) (ts : List Token) → Tokens text ts → EndsWithEnd ts

-- ---- the names of a tree that tokens spell

-- For each entity: the places of its initial values, and those of the body of each method.
abbrev pub BodiesAscend : Type 0
BodiesAscend =
    (f : t.File) (ts : List Token) → SpellsFile f ts → Ascends (starts ts)
    → Each (λ i e. Ascends (initial_places e.fields) × Each (λ j m. Ascends (body_places e.fields m)) e.methods) f.entities

-- For each entity: the places of its declarations.
abbrev pub DeclarationsAscend : Type 0
DeclarationsAscend = (f : t.File) (ts : List Token) → SpellsFile f ts → Ascends (starts ts) → Each (λ i e. Ascends (names.declared_places e)) f.entities
