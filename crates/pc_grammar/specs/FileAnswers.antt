-- The answers for a whole list of tokens: the file that they spell, or the first token with which no file begins any
-- more, or the first that opens a level too many.
use Rattle.std.specs.Prelude.{◌≡◌, ℕ, ◌≤◌, List, [], ◌∷◌, ◌++◌}
use Rattle.pc_token.specs.declared.kinds.Token.{Token}
use Rattle.pc_tree.specs.Depths.{file_depth}
use Rattle.pc_grammar.specs.Spells.{IsSpelled, SpellsFile, level_limit}
use Rattle.pc_tree.specs.Tree as t

-- ---- how far a list of tokens begins something

-- For trees of any kind: `spells` says which tokens spell which tree, and `depth` how many levels a tree opens.
module _ {A : Type 0} (spells : A → List Token → Type 0) where
  -- some list with this prefix spells some tree, of any depth
  abbrev pub Begins : List Token → Type 0
  Begins ts = (more : List Token) × (tree : A) × spells tree (ts ++ more)

  module _ (depth : A → ℕ) (n : ℕ) where
    -- some list with this prefix spells some tree that opens at most n levels
    abbrev pub BeginsWithin : List Token → Type 0
    BeginsWithin ts = (more : List Token) × (tree : A) × spells tree (ts ++ more) × (depth tree ≤ n)

    -- The tokens up to `rest` begin a tree within the levels; with the next token a tree begins, but none within the
    -- levels.
    abbrev pub IsTooDeep : List Token → List Token → Type 0
    IsTooDeep ts rest = (pre more : List Token) × (x : Token) × (rest ≡ x ∷ more) × (ts ≡ pre ++ rest) × BeginsWithin pre × Begins (pre ++ x ∷ []) × (BeginsWithin (pre ++ x ∷ []) → ⊥)

-- ---- the answers

-- A fault comes with the tokens from the faulty one on.
pub data FileAnswer : Type 0 where
  spelled : t.File → FileAnswer
  unexpected : List Token → FileAnswer
  too_deep : List Token → FileAnswer

-- The tokens up to `rest` begin a file within the levels, and with the next token no file begins, of any depth.
abbrev pub IsUnexpected : List Token → List Token → Type 0
IsUnexpected ts rest =
    (pre more : List Token) × (x : Token) × (rest ≡ x ∷ more) × (ts ≡ pre ++ rest)
    × BeginsWithin SpellsFile file_depth level_limit pre × (Begins SpellsFile (pre ++ x ∷ []) → ⊥)

abbrev pub IsFileAnswer : List Token → FileAnswer → Type 0
IsFileAnswer ts (spelled f) = IsSpelled f ts
IsFileAnswer ts (unexpected rest) = IsUnexpected ts rest
IsFileAnswer ts (too_deep rest) = IsTooDeep SpellsFile file_depth level_limit ts rest
