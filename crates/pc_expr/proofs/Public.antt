-- From reading to the promises of the public calls.
use Rattle.std.proofs.Common.{◌≡◌, ℕ, zero, suc, ◌<◌, List, [], ◌∷◌, drop, length, Err, sym, ap, ◌∙◌, subst, arith}
use Rattle.pc_token.specs.declared.kinds.Token.{Token}
use Rattle.pc_grammar.specs.{Reading.{ReadingOutcome, Parser, unexpected}, Parsing.IsRefused, Laws.{RefusesRight, DeepRight}}
use Rattle.pc_expr.specs.{declared.stop.ParseStop.ParseStop, declared.fault.ParseFault.ParseFault, Gives.{EndsWithEnd, StandsAtToken, Stops}, Answers.{RefusesTree, StopsAtToken, NamesByte}}
use Rattle.pc_expr.specs.declared.stop.ParseStop.TheVariants as stop

ends_from : (tokens : List Token) (at : ℕ) → EndsWithEnd tokens → at < length tokens → EndsWithEnd (drop at tokens)
ends_from tokens zero ends within = ends
ends_from [] (suc at) ends within = absurd ends
ends_from (x ∷ []) (suc at) ends within = absurd (omega (arith, within))
ends_from (x ∷ y ∷ ts) (suc at) ends within = ends_from (y ∷ ts) at ends (omega (arith, within))

pub is_at : (tokens : List Token) (at : ℕ) → EndsWithEnd tokens → at < length tokens → StandsAtToken tokens at
is_at tokens at ends within = record { within = within; ends = ends_from tokens at ends within }

pub stands : {Y : Type 0} (tokens : List Token) (e : ParseStop) (read : ReadingOutcome Y) → Stops tokens e read → StopsAtToken tokens e
stands tokens (stop.Unexpected k) read s = s.1
stands tokens (stop.TooDeep k) read s = s.1
stands tokens stop.Memory read s = tt

module _ {A : Type 0} (spells : A → List Token → Type 0) (depth : A → ℕ) (reading : ℕ → Parser A) (refuses : RefusesRight spells depth reading) (deep : DeepRight spells depth reading) where
  pub refused : (n : ℕ) (tokens : List Token) (at : ℕ) (e : ParseStop) (f : ParseFault) → Stops tokens e (reading n (drop at tokens)) → NamesByte tokens e f → RefusesTree spells depth n tokens at f
  refused n tokens at (stop.Unexpected k) f s named =
      let here = named.2 in
      let read : reading n (drop at tokens) ≡ Err (unexpected, here.0 ∷ here.1) = s.0 ∙ ap (λ l. Err (unexpected, l)) here.2 in
      let is = refuses n (drop at tokens) here.0 here.1 read in
      let P : List Token → Type 0 = λ l. IsRefused spells depth n (drop at tokens) l in
      let Q : ParseFault → Type 0 = λ v. RefusesTree spells depth n tokens at v in
      subst Q (sym named.1) (k, (here.0, here.1, here.2, here.3), subst P (sym here.2) is)
  refused n tokens at (stop.TooDeep k) f s named =
      let here = named.2 in
      let Q : ParseFault → Type 0 = λ v. RefusesTree spells depth n tokens at v in
      subst Q (sym named.1) (k, (here.0, here.1, here.2, here.3), deep n (drop at tokens) (drop k tokens) s.0)
  refused n tokens at stop.Memory f s named =
      let Q : ParseFault → Type 0 = λ v. RefusesTree spells depth n tokens at v in
      subst Q (sym named) tt
