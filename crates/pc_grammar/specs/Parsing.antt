-- What reading the front of a list of tokens may answer, for trees of any kind: `spells` says which tokens spell which
-- tree, and `depth` how many levels a tree opens.
use Rattle.std.specs.Prelude.{◌≡◌, ℕ, ◌≤◌, List, ◌∷◌, ◌++◌, []}
use Rattle.pc_token.specs.declared.kinds.Token.{Token}
use Rattle.pc_grammar.specs.FileAnswers.{Begins, BeginsWithin, IsTooDeep}

-- the answers for a list of tokens: a tree and the tokens after it, or the tokens from the first unexpected one on, or
-- from the first one on that opens a level too many
pub data ParseAnswer (A : Type 0) : Type 0 where
  read : A → List Token → ParseAnswer A
  refused : List Token → ParseAnswer A
  deep : List Token → ParseAnswer A

module _ {A : Type 0} (spells : A → List Token → Type 0) where
  -- `pre` and the first of these tokens, if there is one, begin no tree
  abbrev pub IsStopped : List Token → List Token → Type 0
  IsStopped pre rest = (x : Token) (more : List Token) → rest ≡ x ∷ more → Begins spells (pre ++ x ∷ []) → ⊥

  -- no tree is spelled
  abbrev pub SpellsNoTree : List Token → Type 0
  SpellsNoTree ts = (tree : A) → spells tree ts → ⊥

  -- at most one tree is spelled
  abbrev pub IsOne : Type 0
  IsOne = (ts : List Token) (one other : A) → spells one ts → spells other ts → one ≡ other

  module _ (depth : A → ℕ) (n : ℕ) where
    -- The tokens up to `rest` spell the tree, within the levels, and the next token does not continue it.
    abbrev pub IsRead : List Token → A → List Token → Type 0
    IsRead ts tree rest = (pre : List Token) × (ts ≡ pre ++ rest) × spells tree pre × (depth tree ≤ n) × IsStopped pre rest

    -- The tokens up to `rest` begin a tree within the levels but spell none, and with the next token none begins.
    abbrev pub IsRefused : List Token → List Token → Type 0
    IsRefused ts rest = (pre : List Token) × (ts ≡ pre ++ rest) × BeginsWithin spells depth n pre × SpellsNoTree pre × IsStopped pre rest

    abbrev pub IsAnswer : List Token → ParseAnswer A → Type 0
    IsAnswer ts (read b rest) = IsRead ts b rest
    IsAnswer ts (refused rest) = IsRefused ts rest
    IsAnswer ts (deep rest) = IsTooDeep spells depth n ts rest

    -- at most one answer
    abbrev pub IsOneAnswer : Type 0
    IsOneAnswer = (ts : List Token) (one other : ParseAnswer A) → IsAnswer ts one → IsAnswer ts other → one ≡ other
