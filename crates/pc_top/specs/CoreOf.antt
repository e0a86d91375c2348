-- What sources mean.
use Rattle.std.specs.Prelude.{ℕ, ◌≤◌, List, length}
use Rattle.pc_core.specs.CoreData.{CoreData}
use Rattle.pc_grammar.specs.Spells.{IsSpelled}
use Rattle.pc_lex.specs.Pieces.{TokenList, bytes_limit}
use Rattle.pc_core_relation.specs.Files.{IsCoreOf}
use Rattle.pc_valid.specs.Valid.{Derivable}
use Rattle.pc_semantics.specs.Safety.{Safe}
use Rattle.pc_token.specs.declared.kinds.Token.{Token}
use Rattle.pc_tree.specs.Tree as t

-- The core of a source: the one that represents the file that its tokens spell. The source, the tokens and the nesting
-- of the file are within their limits.
pub record CoreOf (bytes : List ℕ) (core : CoreData) : Type 0 where
  pub short : length bytes ≤ bytes_limit
  pub tokens : List Token
  pub file : t.File
  pub lexed : TokenList bytes tokens
  pub parsed : IsSpelled file tokens
  pub stands : IsCoreOf file core

-- The source has a core, and the core has a derivation.
abbrev pub IsDerivable : List ℕ → Type 0
IsDerivable bytes = (core : CoreData) × CoreOf bytes core × Derivable core

-- The source has a core, and the core has no derivation.
abbrev pub IsUnderivable : List ℕ → Type 0
IsUnderivable bytes = (core : CoreData) × CoreOf bytes core × (Derivable core → ⊥)

-- The source has a core, and the core is safe: after every list of actors, of any length, no two of them race, what
-- waits in messages is let alone, and no step lacks anything.
abbrev pub HasSafeCore : List ℕ → Type 0
HasSafeCore bytes = (core : CoreData) × CoreOf bytes core × Safe core
