-- A repetition that begins with nothing.
use Rattle.std.proofs.Common.{◌≡◌, List, [], ◌++◌, length, Option, Ok, Err, refl, sym, subst, arith}
use Rattle.pc_token.specs.declared.kinds.Token.{Token}
use Rattle.pc_grammar.specs.Reading.{ReadingOutcome, Parser, and_then, pure, all, many}
use Rattle.pc_expr.proofs.Loops.{Loop}

module _ {A : Type 0} where
  as_read : (o : ReadingOutcome (List A)) → o ≡ and_then o (λ more. pure ([] ++ more))
  as_read (Ok r) = refl
  as_read (Err e) = refl

  from_nothing : (next : List Token → Option (List Token)) (p : Parser A) (rest : List Token) → Loop next p (all next p rest) rest []
  unfolding all
  from_nothing next p rest = record { turns = length rest; enough = omega arith; reads = as_read (many next p (length rest) rest) }

  pub loop_begins : (next : List Token → Option (List Token)) (p : Parser A) (rest : List Token) (xs : List A) → xs ≡ [] → Loop next p (all next p rest) rest xs
  loop_begins next p rest xs none = subst (λ ys. Loop next p (all next p rest) rest ys) (sym none) (from_nothing next p rest)
