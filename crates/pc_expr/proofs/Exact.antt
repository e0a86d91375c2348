-- What holds for the tokens is what is returned.
use Rattle.std.proofs.Common.{◌≡◌, ℕ, ◌<◌, List, ◌∷◌, drop, length, Result, Ok, Err, refl, sym, ap, ap₂, ◌∙◌, arith, length-drop}
use Rattle.pc_token.specs.declared.kinds.Token.{Token}
use Rattle.pc_grammar.specs.Parsing.{ParseAnswer, read, refused, deep, IsOneAnswer}
use Rattle.pc_expr.specs.{declared.fault.ParseFault.ParseFault, Answers.{Places, ReadsTo, RefusesTree, AnswersTree, Is}}
use Rattle.pc_expr.specs.declared.fault.ParseFault.TheVariants as fault

-- what comes after a place determines the place
same_place : (tokens : List Token) (i j : ℕ) → i < length tokens → j < length tokens → drop i tokens ≡ drop j tokens → i ≡ j
same_place tokens i j a b e =
    let left : length (drop i tokens) ≡ length (drop j tokens) = ap length e in
    let lengths = simp length-drop at left in
    omega (arith, a, b, lengths)

-- and the byte
same_byte : (tokens : List Token) (i j p q : ℕ) → Places tokens i p → Places tokens j q → drop i tokens ≡ drop j tokens → p ≡ q
same_byte tokens i j p q a b e =
    let lists : a.0 ∷ a.1 ≡ b.0 ∷ b.1 = sym a.2 ∙ e ∙ b.2 in
    let tokens' : a.0 ≡ b.0 = cc lists in
    sym a.3 ∙ ap (λ (x : Token). x.span.start) tokens' ∙ b.3

module _ {A : Type 0} where
  read_tree : (b c : A) (r s : List Token) → ◌≡◌ {A = ParseAnswer A} (read b r) (read c s) → b ≡ c
  read_tree b c r s e = cc

  read_rest : (b c : A) (r s : List Token) → ◌≡◌ {A = ParseAnswer A} (read b r) (read c s) → r ≡ s
  read_rest b c r s e = cc

  refused_rest : (r s : List Token) → ◌≡◌ {A = ParseAnswer A} (refused r) (refused s) → r ≡ s
  refused_rest r s e = cc

  deep_rest : (r s : List Token) → ◌≡◌ {A = ParseAnswer A} (deep r) (deep s) → r ≡ s
  deep_rest r s e = cc

  read_refused : (b : A) (r s : List Token) → ◌≡◌ {A = ParseAnswer A} (read b r) (refused s) → ⊥
  read_refused b r s e = cc

  read_deep : (b : A) (r s : List Token) → ◌≡◌ {A = ParseAnswer A} (read b r) (deep s) → ⊥
  read_deep b r s e = cc

  refused_deep : (r s : List Token) → ◌≡◌ {A = ParseAnswer A} (refused r) (deep s) → ⊥
  refused_deep r s e = cc

module _ {A : Type 0} (spells : A → List Token → Type 0) (depth : A → ℕ) (n : ℕ) (one : IsOneAnswer spells depth n) (tokens : List Token) (at : ℕ) where
  pub exact_tree : (b : A) (to : ℕ) → ReadsTo spells depth n tokens at b to → (answer : Result (A × ℕ) ParseFault) → AnswersTree spells depth n tokens at answer → answer ≡ Ok (b, to)
  exact_tree b to h (Ok r) k =
      let e = one (drop at tokens) (read r.0 (drop r.1 tokens)) (read b (drop to tokens)) k.2 h.2 in
      ap₂ (λ x i. Ok (x, i)) (read_tree _ _ _ _ e) (same_place tokens r.1 to k.1 h.1 (read_rest _ _ _ _ e))
  exact_tree b to h (Err (fault.Unexpected p)) k =
      let f = k.1 in
      absurd (read_refused _ _ _ (one (drop at tokens) (read b (drop to tokens)) (refused (drop f.0 tokens)) h.2 f.2))
  exact_tree b to h (Err (fault.TooDeep p)) k =
      let f = k.1 in
      absurd (read_deep _ _ _ (one (drop at tokens) (read b (drop to tokens)) (deep (drop f.0 tokens)) h.2 f.2))
  exact_tree b to h (Err fault.Memory) k = absurd (k.0 refl)

  exact_unexpected : (p : ℕ) → RefusesTree spells depth n tokens at (fault.Unexpected p) → (answer : Result (A × ℕ) ParseFault) → AnswersTree spells depth n tokens at answer → answer ≡ Err (fault.Unexpected p)
  exact_unexpected p h (Ok r) k = absurd (read_refused _ _ _ (one (drop at tokens) (read r.0 (drop r.1 tokens)) (refused (drop h.0 tokens)) k.2 h.2))
  exact_unexpected p h (Err (fault.Unexpected q)) k =
      let f = k.1 in
      let e = one (drop at tokens) (refused (drop f.0 tokens)) (refused (drop h.0 tokens)) f.2 h.2 in
      ap (λ i. Err (fault.Unexpected i)) (same_byte tokens f.0 h.0 q p f.1 h.1 (refused_rest _ _ e))
  exact_unexpected p h (Err (fault.TooDeep q)) k =
      let f = k.1 in
      absurd (refused_deep _ _ (one (drop at tokens) (refused (drop h.0 tokens)) (deep (drop f.0 tokens)) h.2 f.2))
  exact_unexpected p h (Err fault.Memory) k = absurd (k.0 refl)

  exact_deep : (p : ℕ) → RefusesTree spells depth n tokens at (fault.TooDeep p) → (answer : Result (A × ℕ) ParseFault) → AnswersTree spells depth n tokens at answer → answer ≡ Err (fault.TooDeep p)
  exact_deep p h (Ok r) k = absurd (read_deep _ _ _ (one (drop at tokens) (read r.0 (drop r.1 tokens)) (deep (drop h.0 tokens)) k.2 h.2))
  exact_deep p h (Err (fault.Unexpected q)) k =
      let f = k.1 in
      absurd (refused_deep _ _ (one (drop at tokens) (refused (drop f.0 tokens)) (deep (drop h.0 tokens)) f.2 h.2))
  exact_deep p h (Err (fault.TooDeep q)) k =
      let f = k.1 in
      let e = one (drop at tokens) (deep (drop f.0 tokens)) (deep (drop h.0 tokens)) f.2 h.2 in
      ap (λ i. Err (fault.TooDeep i)) (same_byte tokens f.0 h.0 q p f.1 h.1 (deep_rest _ _ e))
  exact_deep p h (Err fault.Memory) k = absurd (k.0 refl)

  pub exact_fault : {X : Type 0} (view : X → A) (f : ParseFault) → RefusesTree spells depth n tokens at f → (answer : Result (A × ℕ) ParseFault) → AnswersTree spells depth n tokens at answer → Is view (Err f) answer
  exact_fault view (fault.Unexpected p) h answer k = exact_unexpected p h answer k
  exact_fault view (fault.TooDeep p) h answer k = exact_deep p h answer k
  exact_fault view fault.Memory h answer k = tt
