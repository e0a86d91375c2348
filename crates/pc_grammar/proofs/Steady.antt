-- A token that continues nothing is as good as any other: if a result leaves some token, and no level is too deep, the
-- same result is left at the end of a text.
use Rattle.std.proofs.Common.{◌≡◌, ℕ, zero, suc, ◌+◌, ◌<◌, Bool, true, false, List, [], ◌∷◌, ◌++◌, length, Option, Some, None, Ok, Err, refl, sym, ap, ◌∙◌, subst, arith, cond, append_assoc, length-append, inl, inr}
use Rattle.pc_token.specs.declared.kinds.Token.{Token}
use Rattle.pc_token.specs.declared.kinds.TokenKind.TheVariants as k
use Rattle.pc_grammar.specs.{Spells.no_span, Reading.{ReadingFault, unexpected, too_deep, ReadingOutcome, Parser, and_then, pure, refuse, ◌>>=◌, peek, take_if, many, many_step, all, deeper}}
use Rattle.pc_grammar.proofs.{Lifts.many_none, Local.{rest_of, with_rest, Local, Takes, cut, local_bind, local_pure}, LocalLoops.{OneAhead, local_many, fuel}}

abbrev pub the_end : Token
the_end = record { kind = k.End; first = false; span = no_span }

abbrev pub Usual : ReadingFault → Type 0
Usual unexpected = Unit {0}
Usual too_deep = ⊥

-- no level is too deep
abbrev pub Plain : {A : Type 0} → ReadingOutcome A → Type 0
Plain (Ok r) = Unit {0}
Plain (Err e) = Usual e.0

pub record Steady {A : Type 0} (p : Parser A) : Type 0 where
  pub steady : (pre : List Token) (x : Token) (more others : List Token) → rest_of (p (pre ++ x ∷ more)) ≡ x ∷ more → Plain (p (pre ++ x ∷ more)) → p (pre ++ the_end ∷ others) ≡ with_rest (the_end ∷ others) (p (pre ++ x ∷ more))

-- the parser takes this token if it comes first
pub record Enters {A : Type 0} (p : Parser A) (x : Token) : Type 0 where
  pub never : (more : List Token) → rest_of (p (x ∷ more)) ≡ x ∷ more → Plain (p (x ∷ more)) → ⊥

module _ {A B : Type 0} (p : Parser A) (f : A → Parser B) (lp : Local p) (lf : (x : A) → Local (f x)) where
  module _ (sp : Steady p) (sf : (x : A) → Steady (f x)) where
    bind_at : (pre : List Token) (x : Token) (more others : List Token) (v : A) (pre2 r pre1 : List Token) → p (pre ++ x ∷ more) ≡ Ok (v, r) → r ≡ pre2 ++ x ∷ more → pre ≡ pre1 ++ pre2 → rest_of (f v r) ≡ x ∷ more → Plain (f v r)
        → and_then (p (pre ++ the_end ∷ others)) f ≡ with_rest (the_end ∷ others) (f v r)
    bind_at pre x more others v [] r pre1 e tail cuts ends plain =
        let P : ReadingOutcome A → Type 0 = λ o. Plain o in
        let Q : List Token → Type 0 = λ l. Plain (f v l) in
        let here = sp.steady pre x more others (ap rest_of e ∙ tail) (subst P (sym e) tt) ∙ ap (with_rest (the_end ∷ others)) e in
        let next = (sf v).steady [] x more others (ap (λ l. rest_of (f v l)) (sym tail) ∙ ends) (subst Q tail plain) in
        ap (λ o. and_then o f) here ∙ next ∙ ap (λ l. with_rest (the_end ∷ others) (f v l)) (sym tail)
    bind_at pre x more others v (u ∷ us) r pre1 e tail cuts ends plain =
        let Q : List Token → Type 0 = λ l. Plain (f v l) in
        let old : pre ++ x ∷ more ≡ pre1 ++ u ∷ (us ++ x ∷ more) = ap (λ l. l ++ x ∷ more) cuts ∙ append_assoc pre1 (u ∷ us) (x ∷ more) in
        let new : pre ++ the_end ∷ others ≡ pre1 ++ u ∷ (us ++ the_end ∷ others) = ap (λ l. l ++ the_end ∷ others) cuts ∙ append_assoc pre1 (u ∷ us) (the_end ∷ others) in
        let read : p (pre1 ++ u ∷ (us ++ x ∷ more)) ≡ Ok (v, r) = ap p (sym old) ∙ e in
        let here = lp.local pre1 u (us ++ x ∷ more) (us ++ the_end ∷ others) (ap rest_of read ∙ tail) ∙ ap (with_rest (u ∷ (us ++ the_end ∷ others))) read in
        let next = (sf v).steady (u ∷ us) x more others (ap (λ l. rest_of (f v l)) (sym tail) ∙ ends) (subst Q tail plain) in
        ap (λ l. and_then (p l) f) new ∙ ap (λ o. and_then o f) here ∙ next ∙ ap (λ l. with_rest (the_end ∷ others) (f v l)) (sym tail)

    bind_by : (pre : List Token) (x : Token) (more others : List Token) (o : ReadingOutcome A) → p (pre ++ x ∷ more) ≡ o → rest_of (and_then o f) ≡ x ∷ more → Plain (and_then o f) → and_then (p (pre ++ the_end ∷ others)) f ≡ with_rest (the_end ∷ others) (and_then o f)
    bind_by pre x more others (Err q) e ends plain =
        let P : ReadingOutcome A → Type 0 = λ o. Plain o in
        ap (λ o. and_then o f) (sp.steady pre x more others (ap rest_of e ∙ ends) (subst P (sym e) plain) ∙ ap (with_rest (the_end ∷ others)) e)
    bind_by pre x more others (Ok q) e ends plain =
        let two = (lf q.0).suffix q.1 in
        let tail : q.1 ≡ two.0 ++ x ∷ more = two.1 ∙ ap (λ l. two.0 ++ l) ends in
        let one = lp.suffix (pre ++ x ∷ more) in
        let whole : pre ++ x ∷ more ≡ (one.0 ++ two.0) ++ x ∷ more = one.1 ∙ ap (λ o. one.0 ++ rest_of o) e ∙ ap (λ l. one.0 ++ l) tail ∙ sym (append_assoc one.0 two.0 (x ∷ more)) in
        bind_at pre x more others q.0 two.0 q.1 one.0 e tail (cut pre (one.0 ++ two.0) (x ∷ more) whole) ends plain

    pub steady_bind : Steady (p >>= f)
    steady_bind = record { steady = λ pre x more others ends plain. bind_by pre x more others (p (pre ++ x ∷ more)) refl ends plain }

  enters_by : (x : Token) (more : List Token) (o : ReadingOutcome A) → p (x ∷ more) ≡ o → Enters p x → Takes p → rest_of (and_then o f) ≡ x ∷ more → Plain (and_then o f) → ⊥
  enters_by x more (Err q) e enters takes ends plain = let P : ReadingOutcome A → Type 0 = λ o. Plain o in enters.never more (ap rest_of e ∙ ends) (subst P (sym e) plain)
  enters_by x more (Ok q) e enters takes ends plain =
      let two = (lf q.0).suffix q.1 in
      omega (arith, takes (x ∷ more) q.1 q.0 e, ap length two.1, length-append two.0 (rest_of (f q.0 q.1)), ap length ends)

  pub enters_bind : (x : Token) → Enters p x → Takes p → Enters (p >>= f) x
  enters_bind x enters takes = record { never = λ more ends plain. enters_by x more (p (x ∷ more)) refl enters takes ends plain }

pub steady_pure : {A : Type 0} (v : A) → Steady (pure v)
steady_pure v = record { steady = λ pre x more others ends plain. let none : pre ≡ [] = cut pre [] (x ∷ more) ends in ap (λ l. Ok (v, l ++ the_end ∷ others)) none }

pub steady_refuse : {A : Type 0} → Steady (refuse {A = A})
steady_refuse = record { steady = λ pre x more others ends plain. let none : pre ≡ [] = cut pre [] (x ∷ more) ends in ap (λ l. Err (unexpected, l ++ the_end ∷ others)) none }

module _ (test : Token → Bool) (unlike : (x : Token) → test x ≡ false → test the_end ≡ false) where
  take_here : (x : Token) (more others : List Token) (b : Bool) → test x ≡ b → rest_of (cond b (Ok (x, more)) (Err (unexpected, x ∷ more))) ≡ x ∷ more → take_if test (the_end ∷ others) ≡ with_rest (the_end ∷ others) (cond b (Ok (x, more)) (Err (unexpected, x ∷ more)))
  unfolding take_if
  take_here x more others true e ends = let f : more ≡ x ∷ more = ends in absurd (omega (arith, ap length f))
  take_here x more others false e ends = rw (unlike x e)

  take_there : (y : Token) (pre : List Token) (x : Token) (more others : List Token) (b : Bool) → rest_of (cond b (Ok (y, pre ++ x ∷ more)) (Err (unexpected, y ∷ (pre ++ x ∷ more)))) ≡ x ∷ more
      → cond b (Ok (y, pre ++ the_end ∷ others)) (Err (unexpected, y ∷ (pre ++ the_end ∷ others))) ≡ with_rest (the_end ∷ others) (cond b (Ok (y, pre ++ x ∷ more)) (Err (unexpected, y ∷ (pre ++ x ∷ more))))
  take_there y pre x more others true ends = let f : pre ++ x ∷ more ≡ x ∷ more = ends in ap (λ l. Ok (y, l ++ the_end ∷ others)) (cut pre [] (x ∷ more) f)
  take_there y pre x more others false ends = let f : y ∷ (pre ++ x ∷ more) ≡ x ∷ more = ends in absurd (omega (arith, ap length f, length-append pre (x ∷ more)))

  take_steady : (pre : List Token) (x : Token) (more others : List Token) → rest_of (take_if test (pre ++ x ∷ more)) ≡ x ∷ more → take_if test (pre ++ the_end ∷ others) ≡ with_rest (the_end ∷ others) (take_if test (pre ++ x ∷ more))
  unfolding take_if
  take_steady [] x more others ends = take_here x more others (test x) refl ends
  take_steady (y ∷ pre) x more others ends = take_there y pre x more others (test y) ends

  pub steady_take : Steady (take_if test)
  steady_take = record { steady = λ pre x more others ends plain. take_steady pre x more others ends }

takes_it : (test : Token → Bool) (x : Token) (ts : List Token) → test x ≡ true → take_if test (x ∷ ts) ≡ Ok (x, ts)
unfolding take_if
takes_it test x ts h = rw h

pub enters_take : {B : Type 0} (test : Token → Bool) (f : Token → Parser B) (x : Token) → ((y : Token) → Local (f y)) → test x ≡ true → Enters (take_if test >>= f) x
enters_take test f x lf h = record {
  never = λ more ends plain.
      let e = ap (λ o. rest_of (and_then o f)) (takes_it test x more h) in
      let two = (lf x).suffix more in
      omega (arith, ap length two.1, length-append two.0 (rest_of (f x more)), ap length (sym e ∙ ends));
}

pub steady_deeper : {A : Type 0} (n : ℕ) (p : Parser A) → Steady p → Steady (deeper n p)
unfolding deeper
steady_deeper zero p s = record { steady = λ pre x more others ends plain. absurd plain }
steady_deeper (suc n) p s = s

pub enters_deeper : {A : Type 0} (n : ℕ) (p : Parser A) (x : Token) → Enters p x → Enters (deeper n p) x
unfolding deeper
enters_deeper zero p x e = record { never = λ more ends plain. plain }
enters_deeper (suc n) p x e = e

-- one token of lookahead: the result at the end is the result at the token that is left
abbrev pub Ends : {A : Type 0} → (Token → Parser A) → Type 0
Ends g = (x : Token) (more others : List Token) → rest_of (g x (x ∷ more)) ≡ x ∷ more → Plain (g x (x ∷ more)) → g the_end (the_end ∷ others) ≡ with_rest (the_end ∷ others) (g x (x ∷ more))

module _ {A : Type 0} (g : Token → Parser A) (sg : (y : Token) → Steady (g y)) (ends : Ends g) where
  peek_steady : (pre : List Token) (x : Token) (more others : List Token) → rest_of ((peek >>= g) (pre ++ x ∷ more)) ≡ x ∷ more → Plain ((peek >>= g) (pre ++ x ∷ more)) → (peek >>= g) (pre ++ the_end ∷ others) ≡ with_rest (the_end ∷ others) ((peek >>= g) (pre ++ x ∷ more))
  unfolding peek
  peek_steady [] x more others e plain = ends x more others e plain
  peek_steady (y ∷ pre) x more others e plain = (sg y).steady (y ∷ pre) x more others e plain

  pub steady_peek : Steady (peek >>= g)
  steady_peek = record { steady = peek_steady }

pub enters_peek : {A : Type 0} (g : Token → Parser A) (x : Token) → Enters (g x) x → Enters (peek >>= g) x
unfolding peek
enters_peek g x e = record { never = λ more ends plain. e.never more ends plain }

-- if the token decides: it is taken, or what is read without it has the same result at the end
pub ends_cond : {A : Type 0} (p q : Parser A) (x : Token) (more others : List Token) (end : ReadingOutcome A) (b : Bool) → (b ≡ true → Enters p x) → (rest_of (q (x ∷ more)) ≡ x ∷ more → Plain (q (x ∷ more)) → end ≡ with_rest (the_end ∷ others) (q (x ∷ more)))
    → rest_of (cond b p q (x ∷ more)) ≡ x ∷ more → Plain (cond b p q (x ∷ more)) → end ≡ with_rest (the_end ∷ others) (cond b p q (x ∷ more))
ends_cond p q x more others end true enters same ends plain = absurd ((enters refl).never more ends plain)
ends_cond p q x more others end false enters same ends plain = same ends plain

-- what always takes a token, if the end is refused
refused : {A : Type 0} (x : Token) (more others : List Token) (o : ReadingOutcome A) → ((r : A × List Token) → o ≡ Ok r → length r.1 < length (x ∷ more)) → rest_of o ≡ x ∷ more → Plain o → Err (unexpected, the_end ∷ others) ≡ with_rest (the_end ∷ others) o
refused x more others (Ok r) takes ends plain = absurd (omega (arith, takes r refl, ap length ends))
refused x more others (Err (unexpected, r)) takes ends plain = refl
refused x more others (Err (too_deep, r)) takes ends plain = absurd plain

pub ends_refuse : {A : Type 0} (p : Parser A) → Takes p → (x : Token) (more others : List Token) → rest_of (p (x ∷ more)) ≡ x ∷ more → Plain (p (x ∷ more)) → Err (unexpected, the_end ∷ others) ≡ with_rest (the_end ∷ others) (p (x ∷ more))
ends_refuse p takes x more others ends plain = refused x more others (p (x ∷ more)) (λ r e. takes (x ∷ more) r.1 r.0 e) ends plain

-- ---- repetitions

module _ {A : Type 0} (next : List Token → Option (List Token)) (p : Parser A) (ahead : OneAhead next) (lp : Local p) (takes : Takes p) (sp : Steady p) (none : (ts : List Token) → next (the_end ∷ ts) ≡ None) (enters : (x : Token) (more : List Token) → next (x ∷ more) ≡ Some (x ∷ more) → Enters p x) where
  abbrev behind : ℕ → A → Parser (List A)
  behind n v = many next p n >>= λ xs. pure (v ∷ xs)

  local_behind : (n : ℕ) (v : A) → Local (behind n v)
  local_behind n v = local_bind (many next p n) (λ xs. pure (v ∷ xs)) (local_many next p ahead lp n) (λ xs. local_pure (v ∷ xs))

  -- a repetition takes its first token
  turn_enters : (n : ℕ) (x : Token) (more begin : List Token) → next (x ∷ more) ≡ Some begin → rest_of ((p >>= behind n) begin) ≡ x ∷ more → Plain ((p >>= behind n) begin) → ⊥
  turn_enters n x more begin e ends plain = elim (ahead.some x) [
    | inl f ↦ (let g : None ≡ Some begin = sym (f more) ∙ e in absurd (cc))
    | inr (inl f) ↦ (
        let g : Some more ≡ Some begin = sym (f more) ∙ e in
        let h : more ≡ begin = cc in
        let one = (local_bind p (behind n) lp (local_behind n)).suffix begin in
        omega (arith, ap length h, ap length one.1, length-append one.0 (rest_of ((p >>= behind n) begin)), ap length ends))
    | inr (inr f) ↦ (
        let g : Some (x ∷ more) ≡ Some begin = sym (f more) ∙ e in
        let h : begin ≡ x ∷ more = cc in
        let P : List Token → Type 0 = λ l. Plain ((p >>= behind n) l) in
        (enters_bind p (behind n) lp (local_behind n) x (enters x more (f more)) takes).never more (ap (λ l. rest_of ((p >>= behind n) l)) (sym h) ∙ ends) (subst P h plain))
  ]

  many_here : (n : ℕ) (x : Token) (more others : List Token) (o : Option (List Token)) → next (x ∷ more) ≡ o → rest_of (many_step p (many next p n) (x ∷ more) o) ≡ x ∷ more → Plain (many_step p (many next p n) (x ∷ more) o)
      → many next p (suc n) (the_end ∷ others) ≡ with_rest (the_end ∷ others) (many_step p (many next p n) (x ∷ more) o)
  many_here n x more others None e ends plain = many_none next p (suc n) (the_end ∷ others) (none others)
  many_here n x more others (Some begin) e ends plain = absurd (turn_enters n x more begin e ends plain)

  many_there : (n : ℕ) → Steady (p >>= behind n) → (y : Token) (pre : List Token) (x : Token) (more others : List Token) → rest_of (many_step p (many next p n) (y ∷ (pre ++ x ∷ more)) (next (y ∷ (pre ++ x ∷ more)))) ≡ x ∷ more → Plain (many_step p (many next p n) (y ∷ (pre ++ x ∷ more)) (next (y ∷ (pre ++ x ∷ more))))
      → many_step p (many next p n) (y ∷ (pre ++ the_end ∷ others)) (next (y ∷ (pre ++ the_end ∷ others))) ≡ with_rest (the_end ∷ others) (many_step p (many next p n) (y ∷ (pre ++ x ∷ more)) (next (y ∷ (pre ++ x ∷ more))))
  many_there n s y pre x more others ends plain =
      let old = y ∷ (pre ++ x ∷ more) in
      let new = y ∷ (pre ++ the_end ∷ others) in
      let step = λ (ts : List Token) (o : Option (List Token)). many_step p (many next p n) ts o in
      let P : Option (List Token) → Type 0 = λ o. Plain (many_step p (many next p n) old o) in
      elim (ahead.some y) [
        | inl e ↦ (let f : old ≡ x ∷ more = ap (λ o. rest_of (step old o)) (sym (e (pre ++ x ∷ more))) ∙ ends in absurd (omega (arith, ap length f, length-append pre (x ∷ more))))
        | inr (inl e) ↦ ap (step new) (e (pre ++ the_end ∷ others)) ∙ s.steady pre x more others (ap (λ o. rest_of (step old o)) (sym (e (pre ++ x ∷ more))) ∙ ends) (subst P (e (pre ++ x ∷ more)) plain) ∙ ap (λ o. with_rest (the_end ∷ others) (step old o)) (sym (e (pre ++ x ∷ more)))
        | inr (inr e) ↦ ap (step new) (e (pre ++ the_end ∷ others)) ∙ s.steady (y ∷ pre) x more others (ap (λ o. rest_of (step old o)) (sym (e (pre ++ x ∷ more))) ∙ ends) (subst P (e (pre ++ x ∷ more)) plain) ∙ ap (λ o. with_rest (the_end ∷ others) (step old o)) (sym (e (pre ++ x ∷ more)))
      ]

  many_steady : (n : ℕ) (pre : List Token) (x : Token) (more others : List Token) → rest_of (many next p n (pre ++ x ∷ more)) ≡ x ∷ more → Plain (many next p n (pre ++ x ∷ more)) → many next p n (pre ++ the_end ∷ others) ≡ with_rest (the_end ∷ others) (many next p n (pre ++ x ∷ more))
  unfolding many
  many_steady zero pre x more others ends plain = let none : pre ≡ [] = cut pre [] (x ∷ more) ends in ap (λ l. Ok ([], l ++ the_end ∷ others)) none
  many_steady (suc n) [] x more others ends plain = many_here n x more others (next (x ∷ more)) refl ends plain
  many_steady (suc n) (y ∷ pre) x more others ends plain =
      let sm : Steady (many next p n) = record { steady = many_steady n } in
      let sb = steady_bind p (behind n) lp (local_behind n) sp (λ v. steady_bind (many next p n) (λ xs. pure (v ∷ xs)) (local_many next p ahead lp n) (λ xs. local_pure (v ∷ xs)) sm (λ xs. steady_pure (v ∷ xs))) in
      many_there n sb y pre x more others ends plain

  pub steady_all : Steady (all next p)
  unfolding all
  steady_all = record {
    steady = λ pre x more others ends plain.
        let old = pre ++ x ∷ more in
        let new = pre ++ the_end ∷ others in
        let m = length old + length new in
        let a = fuel next p ahead lp takes (length old) m old (omega arith) (omega arith) in
        let b = fuel next p ahead lp takes (length new) m new (omega arith) (omega arith) in
        let P : ReadingOutcome (List A) → Type 0 = λ o. Plain o in
        b ∙ many_steady m pre x more others (ap rest_of (sym a) ∙ ends) (subst P a plain) ∙ ap (with_rest (the_end ∷ others)) (sym a);
  }

  -- if one more begins, its first token is taken
  pub all_enters : (x : Token) (more begin : List Token) → next (x ∷ more) ≡ Some begin → rest_of (all next p (x ∷ more)) ≡ x ∷ more → Plain (all next p (x ∷ more)) → ⊥
  unfolding all many
  all_enters x more begin e ends plain =
      let n = length more in
      let P : Option (List Token) → Type 0 = λ o. Plain (many_step p (many next p n) (x ∷ more) o) in
      turn_enters n x more begin e (ap (λ o. rest_of (many_step p (many next p n) (x ∷ more) o)) (sym e) ∙ ends) (subst P e plain)
