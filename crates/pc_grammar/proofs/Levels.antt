-- One level more.
use Rattle.std.proofs.Common.{◌≡◌, ℕ, suc, ◌-◌, ◌<◌, List, Err, ap, arith}
use Rattle.pc_token.specs.declared.kinds.Token.{Token}
use Rattle.pc_grammar.specs.Reading.{Parser, too_deep, deeper, inner, seq_in, expr_in, term}

pub no_deeper : {A : Type 0} (n : ℕ) (p : Parser A) (ts : List Token) → n ≡ 0 → deeper n p ts ≡ Err (too_deep, ts)
unfolding deeper
no_deeper n p ts e = ap (λ m. deeper m p ts) e

pub one_deeper : {A : Type 0} (n : ℕ) (p : Parser A) (ts : List Token) → 0 < n → deeper n p ts ≡ p ts
unfolding deeper
one_deeper n p ts some = let e : n ≡ suc (n - 1) = omega arith in ap (λ m. deeper m p ts) e

pub inner_seq : (n : ℕ) → 0 < n → (inner n).seq ≡ seq_in (n - 1) (inner (n - 1))
unfolding inner
inner_seq n some = let e : n ≡ suc (n - 1) = omega arith in ap (λ m. (inner m).seq) e

pub inner_expr : (n : ℕ) → 0 < n → (inner n).expr ≡ expr_in (n - 1) (inner (n - 1))
unfolding inner
inner_expr n some = let e : n ≡ suc (n - 1) = omega arith in ap (λ m. (inner m).expr) e

pub inner_term : (n : ℕ) → 0 < n → (inner n).term ≡ term (n - 1) (inner (n - 1))
unfolding inner
inner_term n some = let e : n ≡ suc (n - 1) = omega arith in ap (λ m. (inner m).term) e
