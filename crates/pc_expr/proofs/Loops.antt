-- The repetitions of the rules, whatever they read.
use Rattle.std.proofs.Common.{◌≡◌, ℕ, suc, ◌-◌, ◌<◌, ◌≤◌, List, [], ◌∷◌, ◌++◌, length, Option, Some, None, Ok, Err, refl, sym, ap, ◌∙◌, subst, ◌⊎◌, inl, inr, arith, append_assoc, append-nil}
use Rattle.pc_token.specs.declared.kinds.Token.{Token}
use Rattle.pc_expr.specs.{declared.stop.ParseStop.ParseStop, Gives.Stops, Onto.onto}
use Rattle.pc_expr.specs.declared.stop.ParseStop.TheVariants as stop
use Rattle.pc_expr.proofs.Parts.{stops_first}
use Rattle.pc_grammar.specs.Reading.{ReadingFault, ReadingOutcome, Parser, and_then, pure, many, many_step, all}

-- What has been read is xs, and together with what is still read it makes the whole.
pub record Loop {A : Type 0} (next : List Token → Option (List Token)) (p : Parser A) (whole : ReadingOutcome (List A)) (rest : List Token) (xs : List A) : Type 0 where
  pub turns : ℕ
  pub enough : length rest ≤ turns
  pub reads : whole ≡ and_then (many next p turns rest) (λ more. pure (xs ++ more))

module _ {A : Type 0} (next : List Token → Option (List Token)) (p : Parser A) where
  pub loop_starts : (xs : List A) (rest : List Token) → Loop next p (onto next p xs rest) rest xs
  unfolding onto all
  loop_starts xs rest = record { turns = length rest; enough = omega arith; reads = refl }

  one_turn : (n : ℕ) (rest : List Token) → 0 < n → many next p n rest ≡ many_step p (many next p (n - 1)) rest (next rest)
  unfolding many
  one_turn n rest some = let e : n ≡ suc (n - 1) = omega arith in ap (λ m. many next p m rest) e

  regroup : (xs : List A) (x : A) (o : ReadingOutcome (List A)) → and_then (and_then o (λ ys. pure (x ∷ ys))) (λ more. pure (xs ++ more)) ≡ and_then o (λ more. pure ((xs ++ x ∷ []) ++ more))
  regroup xs x (Ok r) = ap (λ l. Ok (l, r.1)) (sym (append_assoc xs (x ∷ []) r.0))
  regroup xs x (Err e) = refl

  module _ (whole : ReadingOutcome (List A)) where
    pub loop_goes_on : (xs : List A) (rest begin after : List Token) (x : A) → Loop next p whole rest xs → next rest ≡ Some begin → p begin ≡ Ok (x, after) → length after < length rest
        → Loop next p whole after (xs ++ x ∷ [])
    loop_goes_on xs rest begin after x l goes read less =
        let n = l.turns in
        record {
          turns = n - 1;
          enough = omega (arith, l.enough);
          reads = l.reads ∙ ap (λ o. and_then o (λ more. pure (xs ++ more))) (one_turn n rest (omega (arith, l.enough)) ∙ ap (many_step p (many next p (n - 1)) rest) goes ∙ ap (λ o. and_then o (λ y. λ ts. and_then (many next p (n - 1) ts) (λ ys. pure (y ∷ ys)))) read) ∙ regroup xs x (many next p (n - 1) after);
        }

    pub loop_ends : (xs : List A) (rest : List Token) → Loop next p whole rest xs → next rest ≡ None → 0 < length rest → whole ≡ Ok (xs, rest)
    loop_ends xs rest l ends some =
        let n = l.turns in
        l.reads ∙ ap (λ o. and_then o (λ more. pure (xs ++ more))) (one_turn n rest (omega (arith, l.enough)) ∙ ap (many_step p (many next p (n - 1)) rest) ends) ∙ ap (λ ys. Ok (ys, rest)) (append-nil xs)

    pub loop_fails : (xs : List A) (rest begin : List Token) (e : ReadingFault × List Token) → Loop next p whole rest xs → next rest ≡ Some begin → p begin ≡ Err e → 0 < length rest → whole ≡ Err e
    loop_fails xs rest begin e l goes read some =
        let n = l.turns in
        l.reads ∙ ap (λ o. and_then o (λ more. pure (xs ++ more))) (one_turn n rest (omega (arith, l.enough)) ∙ ap (many_step p (many next p (n - 1)) rest) goes ∙ ap (λ o. and_then o (λ y. λ ts. and_then (many next p (n - 1) ts) (λ ys. pure (y ∷ ys)))) read)

    pub stops_here : (xs : List A) (tokens rest begin : List Token) (e : ParseStop) → Loop next p whole rest xs → next rest ≡ Some begin → Stops tokens e (p begin) → 0 < length rest → Stops tokens e whole
    stops_here xs tokens rest begin (stop.Unexpected n) l goes s some = (loop_fails xs rest begin _ l goes s.0 some, s.1)
    stops_here xs tokens rest begin (stop.TooDeep n) l goes s some = (loop_fails xs rest begin _ l goes s.0 some, s.1)
    stops_here xs tokens rest begin stop.Memory l goes s some = tt

-- The next one begins at rest: it is the first, or one after those that have been read.
abbrev pub Turn : {A : Type 0} → (List Token → Option (List Token)) → Parser A → ReadingOutcome (List A) → List Token → List A → Type 0
Turn next p whole rest xs =
    ((xs ≡ []) × (whole ≡ and_then (p rest) (λ x. onto next p (x ∷ []))))
    ⊎ ((ts : List Token) × Loop next p whole ts xs × (next ts ≡ Some rest) × (0 < length ts) × (length rest ≤ length ts))

module _ {A : Type 0} (next : List Token → Option (List Token)) (p : Parser A) (whole : ReadingOutcome (List A)) where
  pub turn_reads : (xs : List A) (rest after : List Token) (x : A) → Turn next p whole rest xs → p rest ≡ Ok (x, after) → length after < length rest → Loop next p whole after (xs ++ x ∷ [])
  turn_reads xs rest after x (inl h) read less =
      let is : whole ≡ onto next p (x ∷ []) after = h.1 ∙ ap (λ o. and_then o (λ y. onto next p (y ∷ []))) read in
      let P : List A → Type 0 = λ ys. Loop next p whole after (ys ++ x ∷ []) in
      let Q : ReadingOutcome (List A) → Type 0 = λ w. Loop next p w after (x ∷ []) in
      subst P (sym h.0) (subst Q (sym is) (loop_starts next p (x ∷ []) after))
  turn_reads xs rest after x (inr h) read less = loop_goes_on next p whole xs h.0 rest after x h.1 h.2 read (omega (arith, less, h.4))

  pub turn_stops : (xs : List A) (tokens rest : List Token) (e : ParseStop) → Turn next p whole rest xs → Stops tokens e (p rest) → Stops tokens e whole
  turn_stops xs tokens rest e (inl h) s = let P : ReadingOutcome (List A) → Type 0 = λ w. Stops tokens e w in subst P (sym h.1) (stops_first tokens e (p rest) (λ x. onto next p (x ∷ [])) s)
  turn_stops xs tokens rest e (inr h) s = stops_here next p whole xs tokens h.0 rest e h.1 h.2 s h.3
