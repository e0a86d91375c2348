-- The same for repetitions.
use Rattle.std.proofs.Common.{◌≡◌, ℕ, zero, suc, ◌+◌, ◌<◌, ◌≤◌, Bool, true, false, ◌&&◌, List, [], ◌∷◌, ◌++◌, length, Option, Some, None, Ok, Err, refl, sym, ap, ◌∙◌, arith, cond, length-append, ◌⊎◌, inl, inr}
use Rattle.pc_token.specs.{declared.kinds.Token.Token, Words.is_sign}
use Rattle.pc_token.specs.declared.signs.Sign.TheVariants as s
use Rattle.pc_grammar.specs.Reading.{ReadingOutcome, Parser, and_then, pure, ◌>>=◌, many, many_step, all, after, at, next_item, begins_item}
use Rattle.pc_grammar.proofs.Local.{rest_of, with_rest, Local, Takes, local_bind, local_pure}

abbrev Next : Type 0
Next = List Token → Option (List Token)

-- `next` depends on the first token alone
pub record OneAhead (next : List Token → Option (List Token)) : Type 0 where
  pub none : next [] ≡ None
  pub some : (x : Token) → ((ts : List Token) → next (x ∷ ts) ≡ None) ⊎ (((ts : List Token) → next (x ∷ ts) ≡ Some ts) ⊎ ((ts : List Token) → next (x ∷ ts) ≡ Some (x ∷ ts)))

pub after_ahead : (test : Token → Bool) → OneAhead (after test)
unfolding after
after_ahead test = record {
  none = refl;
  some = λ x. elim (test x) as (λ b. ((ts : List Token) → cond b (Some ts) None ≡ None) ⊎ (((ts : List Token) → cond b (Some ts) None ≡ Some ts) ⊎ ((ts : List Token) → cond b (Some ts) None ≡ Some (x ∷ ts)))) [ true ↦ inr (inl (λ ts. refl)) | false ↦ inl (λ ts. refl) ];
}

pub at_ahead : (test : Token → Bool) → OneAhead (at test)
unfolding at
at_ahead test = record {
  none = refl;
  some = λ x. elim (test x) as (λ b. ((ts : List Token) → cond b (Some (x ∷ ts)) None ≡ None) ⊎ (((ts : List Token) → cond b (Some (x ∷ ts)) None ≡ Some ts) ⊎ ((ts : List Token) → cond b (Some (x ∷ ts)) None ≡ Some (x ∷ ts)))) [ true ↦ inr (inr (λ ts. refl)) | false ↦ inl (λ ts. refl) ];
}

pub item_ahead : OneAhead next_item
unfolding next_item
item_ahead = record {
  none = refl;
  some = λ x. elim (is_sign s.Semicolon x) as (λ b. ((ts : List Token) → cond b (Some ts) (cond (x.first && begins_item x) (Some (x ∷ ts)) None) ≡ None) ⊎ (((ts : List Token) → cond b (Some ts) (cond (x.first && begins_item x) (Some (x ∷ ts)) None) ≡ Some ts) ⊎ ((ts : List Token) → cond b (Some ts) (cond (x.first && begins_item x) (Some (x ∷ ts)) None) ≡ Some (x ∷ ts)))) [
    | true ↦ inr (inl (λ ts. refl))
    | false ↦ elim (x.first && begins_item x) as (λ b. ((ts : List Token) → cond b (Some (x ∷ ts)) None ≡ None) ⊎ (((ts : List Token) → cond b (Some (x ∷ ts)) None ≡ Some ts) ⊎ ((ts : List Token) → cond b (Some (x ∷ ts)) None ≡ Some (x ∷ ts)))) [ true ↦ inr (inr (λ ts. refl)) | false ↦ inl (λ ts. refl) ]
  ];
}

empty : (pre : List Token) (x : Token) (more : List Token) → pre ++ x ∷ more ≡ x ∷ more → pre ≡ []
empty [] x more e = refl
empty (y ∷ pre) x more e = absurd (omega (arith, ap length e, length-append pre (x ∷ more)))

-- whether one more begins, and where
abbrev goes_at : List Token → Option (List Token) → ReadingOutcome Bool
goes_at ts None = Ok (false, ts)
goes_at ts (Some begin) = Ok (true, begin)

abbrev goes : Next → Parser Bool
goes next ts = goes_at ts (next ts)

module _ (next : Next) (ahead : OneAhead next) where
  goes_suffix : (ts : List Token) → (pre : List Token) × (ts ≡ pre ++ rest_of (goes next ts))
  goes_suffix [] = ([], ap (λ o. rest_of (goes_at [] o)) (sym ahead.none))
  goes_suffix (x ∷ ts) = elim (ahead.some x) [
    | inl e ↦ ([], ap (λ o. rest_of (goes_at (x ∷ ts) o)) (sym (e ts)))
    | inr (inl e) ↦ (x ∷ [], ap (λ o. x ∷ rest_of (goes_at (x ∷ ts) o)) (sym (e ts)))
    | inr (inr e) ↦ ([], ap (λ o. rest_of (goes_at (x ∷ ts) o)) (sym (e ts)))
  ]

  goes_local : (pre : List Token) (x : Token) (more others : List Token) → rest_of (goes next (pre ++ x ∷ more)) ≡ x ∷ more → goes next (pre ++ x ∷ others) ≡ with_rest (x ∷ others) (goes next (pre ++ x ∷ more))
  goes_local [] x more others ends = elim (ahead.some x) [
    | inl e ↦ ap (goes_at (x ∷ others)) (e others) ∙ ap (λ o. with_rest (x ∷ others) (goes_at (x ∷ more) o)) (sym (e more))
    | inr (inl e) ↦ absurd (let f : more ≡ x ∷ more = ap (λ o. rest_of (goes_at (x ∷ more) o)) (sym (e more)) ∙ ends in omega (arith, ap length f))
    | inr (inr e) ↦ ap (goes_at (x ∷ others)) (e others) ∙ ap (λ o. with_rest (x ∷ others) (goes_at (x ∷ more) o)) (sym (e more))
  ]
  goes_local (y ∷ pre) x more others ends = elim (ahead.some y) [
    | inl e ↦ absurd (let f : y ∷ (pre ++ x ∷ more) ≡ x ∷ more = ap (λ o. rest_of (goes_at (y ∷ (pre ++ x ∷ more)) o)) (sym (e _)) ∙ ends in omega (arith, ap length f, length-append pre (x ∷ more)))
    | inr (inl e) ↦
        let f : pre ++ x ∷ more ≡ x ∷ more = ap (λ o. rest_of (goes_at (y ∷ (pre ++ x ∷ more)) o)) (sym (e _)) ∙ ends in
        let none : pre ≡ [] = empty pre x more f in
        ap (goes_at (y ∷ (pre ++ x ∷ others))) (e _) ∙ ap (λ l. Ok (true, l ++ x ∷ others)) none ∙ ap (λ o. with_rest (x ∷ others) (goes_at (y ∷ (pre ++ x ∷ more)) o)) (sym (e _))
    | inr (inr e) ↦ absurd (let f : y ∷ (pre ++ x ∷ more) ≡ x ∷ more = ap (λ o. rest_of (goes_at (y ∷ (pre ++ x ∷ more)) o)) (sym (e _)) ∙ ends in omega (arith, ap length f, length-append pre (x ∷ more)))
  ]

  pub local_goes : Local (goes next)
  local_goes = record { suffix = goes_suffix; local = goes_local }

pub local_same : {A : Type 0} (p q : Parser A) → ((ts : List Token) → p ts ≡ q ts) → Local q → Local p
local_same p q e l = record {
  suffix = λ ts. let one = l.suffix ts in (one.0, one.1 ∙ ap (λ o. one.0 ++ rest_of o) (sym (e ts)));
  local = λ pre x more others ends. e (pre ++ x ∷ others) ∙ l.local pre x more others (ap rest_of (sym (e (pre ++ x ∷ more))) ∙ ends) ∙ ap (with_rest (x ∷ others)) (sym (e (pre ++ x ∷ more)));
}

module _ {A : Type 0} (next : Next) (p : Parser A) where
  abbrev turn : ℕ → Bool → Parser (List A)
  turn n true = p >>= λ x. many next p n >>= λ xs. pure (x ∷ xs)
  turn n false = pure []

  turned : (n : ℕ) (ts : List Token) (o : Option (List Token)) → many_step p (many next p n) ts o ≡ and_then (goes_at ts o) (turn n)
  turned n ts None = refl
  turned n ts (Some begin) = refl

  module _ (ahead : OneAhead next) (lp : Local p) where
    pub local_turn : (n : ℕ) → Local (many next p n) → (b : Bool) → Local (turn n b)
    local_turn n l true = local_bind p (λ x. many next p n >>= λ xs. pure (x ∷ xs)) lp (λ x. local_bind (many next p n) (λ xs. pure (x ∷ xs)) l (λ xs. local_pure (x ∷ xs)))
    local_turn n l false = local_pure []

    pub local_many : (n : ℕ) → Local (many next p n)
    unfolding many
    local_many zero = local_pure []
    local_many (suc n) = local_same (many next p (suc n)) (goes next >>= turn n) (λ ts. turned n ts (next ts)) (local_bind (goes next) (turn n) (local_goes next ahead) (local_turn n (local_many n)))

    falls : (ts begin : List Token) → next ts ≡ Some begin → (length begin ≤ length ts) × (0 < length ts)
    falls [] begin e = absurd (let f : None ≡ Some begin = sym ahead.none ∙ e in cc)
    falls (x ∷ ts) begin e = elim (ahead.some x) [
      | inl f ↦ absurd (let g : None ≡ Some begin = sym (f ts) ∙ e in cc)
      | inr (inl f) ↦ (let g : Some ts ≡ Some begin = sym (f ts) ∙ e in let h : ts ≡ begin = cc in omega (arith, ap length h), omega arith)
      | inr (inr f) ↦ (let g : Some (x ∷ ts) ≡ Some begin = sym (f ts) ∙ e in let h : x ∷ ts ≡ begin = cc in omega (arith, ap length h), omega arith)
    ]

    module _ (takes : Takes p) where
      fuel_turn : (m k : ℕ) (begin : List Token) (o : ReadingOutcome A) → p begin ≡ o → ((rest : List Token) → length rest < length begin → many next p m rest ≡ many next p k rest)
          → and_then o (λ x. many next p m >>= λ xs. pure (x ∷ xs)) ≡ and_then o (λ x. many next p k >>= λ xs. pure (x ∷ xs))
      fuel_turn m k begin (Err q) e same = refl
      fuel_turn m k begin (Ok q) e same = ap (λ o. and_then o (λ xs. pure (q.0 ∷ xs))) (same q.1 (takes begin q.1 q.0 e))

      fuel_by : (m k : ℕ) (ts : List Token) (o : Option (List Token)) → next ts ≡ o → length ts ≤ suc m → length ts ≤ suc k
          → ((rest : List Token) → length rest ≤ m → length rest ≤ k → many next p m rest ≡ many next p k rest) → many_step p (many next p m) ts o ≡ many_step p (many next p k) ts o
      fuel_by m k ts None e a b same = refl
      fuel_by m k ts (Some begin) e a b same = fuel_turn m k begin (p begin) refl (λ rest less. let f = falls ts begin e in same rest (omega (arith, f.0, f.1)) (omega (arith, f.0, f.1)))

      pub fuel : (m k : ℕ) (ts : List Token) → length ts ≤ m → length ts ≤ k → many next p m ts ≡ many next p k ts
      unfolding many
      fuel zero zero ts a b = refl
      fuel zero (suc k) [] a b = sym (ap (many_step p (many next p k) []) ahead.none)
      fuel zero (suc k) (x ∷ ts) a b = absurd (omega arith)
      fuel (suc m) zero [] a b = ap (many_step p (many next p m) []) ahead.none
      fuel (suc m) zero (x ∷ ts) a b = absurd (omega arith)
      fuel (suc m) (suc k) ts a b = fuel_by m k ts (next ts) refl a b (λ rest. fuel m k rest)

      pub local_all : Local (all next p)
      unfolding all
      local_all = record {
        suffix = λ ts. (local_many (length ts)).suffix ts;
        local = λ pre x more others ends.
            let old = pre ++ x ∷ more in
            let new = pre ++ x ∷ others in
            let m = length old + length new in
            let a = fuel (length old) m old (omega arith) (omega arith) in
            let b = fuel (length new) m new (omega arith) (omega arith) in
            b ∙ (local_many m).local pre x more others (ap rest_of (sym a) ∙ ends) ∙ ap (with_rest (x ∷ others)) (sym a);
      }
