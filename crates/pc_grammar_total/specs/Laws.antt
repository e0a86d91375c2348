-- The grammar always has an answer, and only tokens that open a level are ever too deep.
use Rattle.std.specs.Prelude.{◌≡◌, ℕ, suc, true, List, ◌∷◌}
use Rattle.pc_tree.specs.Depths.{depth, seq_depth, file_depth}
use Rattle.pc_token.specs.declared.kinds.Token.{Token}
use Rattle.pc_grammar.specs.{Spells.{Spells, SpellsInfix, SpellsSeq, SpellsFile, level_limit}, FileAnswers.{IsTooDeep, FileAnswer, IsFileAnswer}, Parsing.{ParseAnswer, read, refused, deep, IsAnswer}}
use Rattle.pc_expr.specs.Gives.{EndsWithEnd}
use Rattle.pc_grammar_total.specs.Levels.{opens_level, OpensLevel}

-- the tokens from the place on at which an answer ends
abbrev pub left : {A : Type 0} → ParseAnswer A → List Token
left (read tree rest) = rest
left (refused rest) = rest
left (deep rest) = rest

module _ {A : Type 0} (spells : A → List Token → Type 0) (depth_of : A → ℕ) (n : ℕ) where
  -- For a list of tokens that ends with `End`, exactly one answer holds, and it ends at the `End` or before.
  abbrev pub HasOneAnswer : Type 0
  HasOneAnswer =
      (ts : List Token) → EndsWithEnd ts → (one : ParseAnswer A) × EndsWithEnd (left one) × IsAnswer spells depth_of n ts one
      × ((other : ParseAnswer A) → IsAnswer spells depth_of n ts other → other ≡ one)

  -- A token that is too deep opens a level. The list may end with any token.
  abbrev pub DeepOpens : Type 0
  DeepOpens = (ts rest : List Token) → IsTooDeep spells depth_of n ts rest → OpensLevel rest

  -- Each token that opens a level is too deep in some list.
  abbrev pub OpenersGoDeep : Type 0
  OpenersGoDeep = (x : Token) → opens_level x ≡ true → (ts more : List Token) × IsTooDeep spells depth_of n ts (x ∷ more)

-- Whatever number of levels may be opened:
abbrev pub SeqHasOneAnswer : Type 0
SeqHasOneAnswer = (n : ℕ) → HasOneAnswer SpellsSeq seq_depth n

abbrev pub SeqDeepOpens : Type 0
SeqDeepOpens = (n : ℕ) → DeepOpens SpellsSeq seq_depth n

abbrev pub SeqOpenersGoDeep : Type 0
SeqOpenersGoDeep = (n : ℕ) → OpenersGoDeep SpellsSeq seq_depth n

abbrev pub ExprHasOneAnswer : Type 0
ExprHasOneAnswer = (n : ℕ) → HasOneAnswer Spells depth n

abbrev pub ExprDeepOpens : Type 0
ExprDeepOpens = (n : ℕ) → DeepOpens Spells depth n

abbrev pub ExprOpenersGoDeep : Type 0
ExprOpenersGoDeep = (n : ℕ) → OpenersGoDeep Spells depth n

abbrev pub InfixHasOneAnswer : Type 0
InfixHasOneAnswer = (n : ℕ) → HasOneAnswer SpellsInfix depth n

abbrev pub InfixDeepOpens : Type 0
InfixDeepOpens = (n : ℕ) → DeepOpens SpellsInfix depth n

-- Here an `=` occurs only inside another level.
abbrev pub InfixOpenersGoDeep : Type 0
InfixOpenersGoDeep = (n : ℕ) → OpenersGoDeep SpellsInfix depth (suc n)

-- For files, within 200 levels:
abbrev pub FileHasOneAnswer : Type 0
FileHasOneAnswer =
    (ts : List Token) → EndsWithEnd ts → (one : FileAnswer) × IsFileAnswer ts one
    × ((other : FileAnswer) → IsFileAnswer ts other → other ≡ one)

abbrev pub FileDeepOpens : Type 0
FileDeepOpens = DeepOpens SpellsFile file_depth level_limit

abbrev pub FileOpenersGoDeep : Type 0
FileOpenersGoDeep = OpenersGoDeep SpellsFile file_depth level_limit
