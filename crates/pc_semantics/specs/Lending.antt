-- A stack whose top is lent.
use Rattle.std.specs.{Prelude.{List, ◌∷◌, drop}, Borrow.{Lends, Fml, RattleType, MutBor}}
use Rattle.pc_semantics.specs.contracts.stack.Stack.{the_row}

-- When the loan ends, what the borrower left is on top, and everything below the old top is unchanged.
abbrev pub lends_top : (T : RattleType) → MutBor (List T.Denot) → MutBor T.Denot → Fml
lends_top T s r = Lends (the_row T) T s r (λ x. x ∷ drop 1 s.now)
