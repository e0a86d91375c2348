-- A list that is given an end has one.
use Rattle.std.proofs.Common.{◌≡◌, List, [], ◌∷◌, ◌++◌}
use Rattle.pc_token.specs.declared.kinds.Token.{Token}
use Rattle.pc_token.specs.declared.kinds.TokenKind.TheVariants as k
use Rattle.pc_expr.specs.Gives.{EndsWithEnd}

pub ends_with_last : (ts : List Token) (x : Token) → x.kind ≡ k.End → EndsWithEnd (ts ++ x ∷ [])
ends_with_last [] x end = end
ends_with_last (y ∷ []) x end = end
ends_with_last (y ∷ z ∷ ts) x end = ends_with_last (z ∷ ts) x end
