-- A parser's result depends on the tokens up to and including the first that it leaves, and on no others.
use Rattle.std.proofs.Common.{◌≡◌, ℕ, zero, suc, ◌<◌, Bool, true, false, List, [], ◌∷◌, ◌++◌, length, Ok, Err, refl, sym, ap, ap₂, ◌∙◌, arith, cond, append_assoc, length-append}
use Rattle.pc_token.specs.declared.kinds.Token.{Token}
use Rattle.pc_grammar.specs.Reading.{unexpected, too_deep, ReadingOutcome, Parser, and_then, pure, refuse, ◌>>=◌, peek, take_if, deeper}

abbrev pub rest_of : {A : Type 0} → ReadingOutcome A → List Token
rest_of (Ok p) = p.1
rest_of (Err e) = e.1

abbrev pub with_rest : {A : Type 0} → List Token → ReadingOutcome A → ReadingOutcome A
with_rest ts (Ok p) = Ok (p.0, ts)
with_rest ts (Err e) = Err (e.0, ts)

pub record Local {A : Type 0} (p : Parser A) : Type 0 where
  pub suffix : (ts : List Token) → (pre : List Token) × (ts ≡ pre ++ rest_of (p ts))
  pub local : (pre : List Token) (x : Token) (more others : List Token) → rest_of (p (pre ++ x ∷ more)) ≡ x ∷ more → p (pre ++ x ∷ others) ≡ with_rest (x ∷ others) (p (pre ++ x ∷ more))

-- a result without a value leaves fewer tokens
abbrev pub Takes : {A : Type 0} → Parser A → Type 0
Takes {A} p = (ts rest : List Token) (x : A) → p ts ≡ Ok (x, rest) → length rest < length ts

pub cut : (a b c : List Token) → a ++ c ≡ b ++ c → a ≡ b
cut [] [] c e = refl
cut [] (y ∷ b) c e = absurd (omega (arith, ap length e, length-append b c))
cut (x ∷ a) [] c e = absurd (omega (arith, ap length e, length-append a c))
cut (x ∷ a) (y ∷ b) c e =
    let heads : x ≡ y = cc in
    let tails : a ++ c ≡ b ++ c = cc in
    ap₂ (λ h t. h ∷ t) heads (cut a b c tails)

module _ {A B : Type 0} (p : Parser A) (f : A → Parser B) (lp : Local p) (lf : (x : A) → Local (f x)) where
  bind_suffix : (ts : List Token) (o : ReadingOutcome A) → p ts ≡ o → (pre : List Token) × (ts ≡ pre ++ rest_of (and_then o f))
  bind_suffix ts (Ok q) e =
      let one = lp.suffix ts in
      let two = (lf q.0).suffix q.1 in
      (one.0 ++ two.0, one.1 ∙ ap (λ o. one.0 ++ rest_of o) e ∙ ap (λ l. one.0 ++ l) two.1 ∙ sym (append_assoc one.0 two.0 _))
  bind_suffix ts (Err q) e = let one = lp.suffix ts in (one.0, one.1 ∙ ap (λ o. one.0 ++ rest_of o) e)

  bind_at : (pre : List Token) (x : Token) (more others : List Token) (v : A) (pre2 r pre1 : List Token) → p (pre ++ x ∷ more) ≡ Ok (v, r) → r ≡ pre2 ++ x ∷ more → pre ≡ pre1 ++ pre2 → rest_of (f v r) ≡ x ∷ more
      → and_then (p (pre ++ x ∷ others)) f ≡ with_rest (x ∷ others) (f v r)
  bind_at pre x more others v [] r pre1 e tail cuts ends =
      let here = lp.local pre x more others (ap rest_of e ∙ tail) ∙ ap (with_rest (x ∷ others)) e in
      let next = (lf v).local [] x more others (ap (λ l. rest_of (f v l)) (sym tail) ∙ ends) in
      ap (λ o. and_then o f) here ∙ next ∙ ap (λ l. with_rest (x ∷ others) (f v l)) (sym tail)
  bind_at pre x more others v (u ∷ us) r pre1 e tail cuts ends =
      let old : pre ++ x ∷ more ≡ pre1 ++ u ∷ (us ++ x ∷ more) = ap (λ l. l ++ x ∷ more) cuts ∙ append_assoc pre1 (u ∷ us) (x ∷ more) in
      let new : pre ++ x ∷ others ≡ pre1 ++ u ∷ (us ++ x ∷ others) = ap (λ l. l ++ x ∷ others) cuts ∙ append_assoc pre1 (u ∷ us) (x ∷ others) in
      let read : p (pre1 ++ u ∷ (us ++ x ∷ more)) ≡ Ok (v, r) = ap p (sym old) ∙ e in
      let here = lp.local pre1 u (us ++ x ∷ more) (us ++ x ∷ others) (ap rest_of read ∙ tail) ∙ ap (with_rest (u ∷ (us ++ x ∷ others))) read in
      let next = (lf v).local (u ∷ us) x more others (ap (λ l. rest_of (f v l)) (sym tail) ∙ ends) in
      ap (λ l. and_then (p l) f) new ∙ ap (λ o. and_then o f) here ∙ next ∙ ap (λ l. with_rest (x ∷ others) (f v l)) (sym tail)

  bind_local : (pre : List Token) (x : Token) (more others : List Token) (o : ReadingOutcome A) → p (pre ++ x ∷ more) ≡ o → rest_of (and_then o f) ≡ x ∷ more → and_then (p (pre ++ x ∷ others)) f ≡ with_rest (x ∷ others) (and_then o f)
  bind_local pre x more others (Err q) e ends = ap (λ o. and_then o f) (lp.local pre x more others (ap rest_of e ∙ ends) ∙ ap (with_rest (x ∷ others)) e)
  bind_local pre x more others (Ok q) e ends =
      let two = (lf q.0).suffix q.1 in
      let tail : q.1 ≡ two.0 ++ x ∷ more = two.1 ∙ ap (λ l. two.0 ++ l) ends in
      let one = lp.suffix (pre ++ x ∷ more) in
      let whole : pre ++ x ∷ more ≡ (one.0 ++ two.0) ++ x ∷ more = one.1 ∙ ap (λ o. one.0 ++ rest_of o) e ∙ ap (λ l. one.0 ++ l) tail ∙ sym (append_assoc one.0 two.0 (x ∷ more)) in
      bind_at pre x more others q.0 two.0 q.1 one.0 e tail (cut pre (one.0 ++ two.0) (x ∷ more) whole) ends

  pub local_bind : Local (p >>= f)
  local_bind = record {
    suffix = λ ts. bind_suffix ts (p ts) refl;
    local = λ pre x more others ends. bind_local pre x more others (p (pre ++ x ∷ more)) refl ends;
  }

pub local_pure : {A : Type 0} (v : A) → Local (pure v)
local_pure v = record {
  suffix = λ ts. ([], refl);
  local = λ pre x more others ends. let none : pre ≡ [] = cut pre [] (x ∷ more) ends in ap (λ l. Ok (v, l ++ x ∷ others)) none;
}

pub local_refuse : {A : Type 0} → Local (refuse {A = A})
local_refuse = record {
  suffix = λ ts. ([], refl);
  local = λ pre x more others ends. let none : pre ≡ [] = cut pre [] (x ∷ more) ends in ap (λ l. Err (unexpected, l ++ x ∷ others)) none;
}

peek_suffix : (ts : List Token) → (pre : List Token) × (ts ≡ pre ++ rest_of (peek ts))
unfolding peek
peek_suffix [] = ([], refl)
peek_suffix (x ∷ ts) = ([], refl)

peek_local : (pre : List Token) (x : Token) (more others : List Token) → rest_of (peek (pre ++ x ∷ more)) ≡ x ∷ more → peek (pre ++ x ∷ others) ≡ with_rest (x ∷ others) (peek (pre ++ x ∷ more))
unfolding peek
peek_local [] x more others ends = refl
peek_local (y ∷ pre) x more others ends = absurd (omega (arith, ap length ends, length-append pre (x ∷ more)))

pub local_peek : Local peek
local_peek = record { suffix = peek_suffix; local = peek_local }

module _ (test : Token → Bool) where
  take_suffix : (ts : List Token) → (pre : List Token) × (ts ≡ pre ++ rest_of (take_if test ts))
  unfolding take_if
  take_suffix [] = ([], refl)
  take_suffix (x ∷ ts) = elim (test x) as (λ b. (pre : List Token) × (x ∷ ts ≡ pre ++ rest_of (cond b (Ok (x, ts)) (Err (unexpected, x ∷ ts))))) [ true ↦ (x ∷ [], refl) | false ↦ ([], refl) ]

  take_local : (pre : List Token) (x : Token) (more others : List Token) → rest_of (take_if test (pre ++ x ∷ more)) ≡ x ∷ more → take_if test (pre ++ x ∷ others) ≡ with_rest (x ∷ others) (take_if test (pre ++ x ∷ more))
  unfolding take_if
  take_local [] x more others =
      elim (test x) as (λ b. rest_of (cond b (Ok (x, more)) (Err (unexpected, x ∷ more))) ≡ x ∷ more → cond b (Ok (x, others)) (Err (unexpected, x ∷ others)) ≡ with_rest (x ∷ others) (cond b (Ok (x, more)) (Err (unexpected, x ∷ more))))
      [ true ↦ λ (e : more ≡ x ∷ more). absurd (omega (arith, ap length e)) | false ↦ λ e. refl ]
  take_local (y ∷ pre) x more others =
      elim (test y) as (λ b. rest_of (cond b (Ok (y, pre ++ x ∷ more)) (Err (unexpected, y ∷ (pre ++ x ∷ more)))) ≡ x ∷ more → cond b (Ok (y, pre ++ x ∷ others)) (Err (unexpected, y ∷ (pre ++ x ∷ others))) ≡ with_rest (x ∷ others) (cond b (Ok (y, pre ++ x ∷ more)) (Err (unexpected, y ∷ (pre ++ x ∷ more)))))
      [ true ↦ λ (e : pre ++ x ∷ more ≡ x ∷ more). ap (λ l. Ok (y, l ++ x ∷ others)) (cut pre [] (x ∷ more) e) | false ↦ λ (e : y ∷ (pre ++ x ∷ more) ≡ x ∷ more). absurd (omega (arith, ap length e, length-append pre (x ∷ more))) ]

  pub local_take : Local (take_if test)
  local_take = record { suffix = take_suffix; local = take_local }

pub local_deeper : {A : Type 0} (n : ℕ) (p : Parser A) → Local p → Local (deeper n p)
unfolding deeper
local_deeper zero p l = record {
  suffix = λ ts. ([], refl);
  local = λ pre x more others ends. let none : pre ≡ [] = cut pre [] (x ∷ more) ends in ap (λ l. Err (too_deep, l ++ x ∷ others)) none;
}
local_deeper (suc n) p l = l
