-- What is read is spelled, and what is refused can be completed up to where it is refused. Both are stated twice: for
-- trees within the levels, and for trees of any depth; a token that opens a level too many belongs only to beginnings
-- of the latter.
use Rattle.std.proofs.Common.{◌≡◌, ℕ, zero, suc, ◌-◌, ◌<◌, ◌≤◌, max, Bool, true, false, List, [], ◌∷◌, ◌++◌, length, Option, Some, None, Ok, Err, refl, sym, ap, ◌∙◌, subst, arith, cond, append_assoc, append-nil}
use Rattle.pc_token.specs.declared.kinds.Token.{Token}
use Rattle.pc_grammar.specs.Reading.{ReadingFault, unexpected, too_deep, ReadingOutcome, Parser, and_then, pure, refuse, ◌>>=◌, take_if, many, many_step, all, deeper}

-- within the levels, or of any depth
abbrev pub Fits : Bool → ℕ → ℕ → Type 0
Fits true n d = d ≤ n
Fits false n d = Unit {0}

pub fits_zero : (u : Bool) (n : ℕ) → Fits u n 0
fits_zero true n = omega arith
fits_zero false n = tt

pub fits_max : (u : Bool) (n d e : ℕ) → Fits u n d → Fits u n e → Fits u n (max d e)
fits_max true n d e a b = omega (arith, a, b)
fits_max false n d e a b = tt

-- room for one more level
pub fits_suc : (u : Bool) (n d : ℕ) → Fits u n 1 → Fits u (n - 1) d → Fits u n (suc d)
fits_suc true n d a b = omega (arith, a, b)
fits_suc false n d a b = tt

pub fits_some : (u : Bool) (n : ℕ) → 0 < n → Fits u n 1
fits_some true n h = omega (arith, h)
fits_some false n h = tt

-- the tokens of a fault that belong to a beginning
abbrev pub shown : ReadingFault → Bool → List Token → List Token
shown unexpected u ts = []
shown too_deep true ts = []
shown too_deep false [] = []
shown too_deep false (x ∷ ts) = x ∷ []

-- a level too many is opened by a token
abbrev pub Opens : ReadingFault → List Token → Type 0
Opens unexpected ts = Unit {0}
Opens too_deep [] = ⊥
Opens too_deep (x ∷ ts) = Unit {0}

module _ (u : Bool) {A : Type 0} (M : A → List Token → Type 0) (ts : List Token) where
  abbrev pub Explained : ReadingOutcome A → Type 0
  Explained (Ok r) = (pre : List Token) × (ts ≡ pre ++ r.1) × M r.0 pre
  Explained (Err e) = (pre more : List Token) × (x : A) × (ts ≡ pre ++ e.1) × M x (pre ++ (shown e.0 u e.1 ++ more)) × Opens e.0 e.1

abbrev pub Then : {A B : Type 0} → (A → List Token → Type 0) → (A → B → List Token → Type 0) → B → List Token → Type 0
Then {A} M N y ts = (x : A) × (a b : List Token) × (ts ≡ a ++ b) × M x a × N x y b

abbrev pub Inhabited : {A : Type 0} → (A → List Token → Type 0) → Type 0
Inhabited {A} M = (c : List Token) × (x : A) × M x c

abbrev pub Tok : (Token → Bool) → Token → List Token → Type 0
Tok test x ts = (ts ≡ x ∷ []) × (test x ≡ true)

abbrev pub Only : {A : Type 0} → A → A → List Token → Type 0
Only v x ts = (ts ≡ []) × (x ≡ v)

pub some_tok : (test : Token → Bool) (x : Token) → test x ≡ true → Inhabited (Tok test)
some_tok test x e = (x ∷ [], x, (refl, e))

pub some_only : {A : Type 0} (v : A) → Inhabited (Only v)
some_only v = ([], v, (refl, refl))

module _ {A B : Type 0} (M : A → List Token → Type 0) (N : A → B → List Token → Type 0) where
  pub some_then : Inhabited M → ((x : A) → Inhabited (N x)) → Inhabited (Then M N)
  some_then m n = let k = n m.1 in (m.0 ++ k.0, k.1, (m.1, m.0, k.0, refl, m.2, k.2))

  module _ (u : Bool) where
    second : (ts rest : List Token) (f : A → Parser B) (v : A) (pre : List Token) → ts ≡ pre ++ rest → M v pre → (o : ReadingOutcome B) → Explained u (N v) rest o → Explained u (Then M N) ts o
    second ts rest f v pre cut m (Ok r) h = (pre ++ h.0, cut ∙ ap (λ l. pre ++ l) h.1 ∙ sym (append_assoc pre h.0 r.1), (v, pre, h.0, refl, m, h.2))
    second ts rest f v pre cut m (Err e) h =
        (pre ++ h.0, h.1, h.2, cut ∙ ap (λ l. pre ++ l) h.3 ∙ sym (append_assoc pre h.0 e.1), (v, pre, h.0 ++ (shown e.0 u e.1 ++ h.1), append_assoc pre h.0 (shown e.0 u e.1 ++ h.1), m, h.4), h.5)

    pub explained_bind : (ts : List Token) (f : A → Parser B) (o : ReadingOutcome A) → Explained u M ts o → ((x : A) (rest : List Token) → o ≡ Ok (x, rest) → Explained u (N x) rest (f x rest)) → ((x : A) → Inhabited (N x)) → Explained u (Then M N) ts (and_then o f)
    explained_bind ts f (Ok r) h next some = second ts r.1 f r.0 h.0 h.1 h.2 (f r.0 r.1) (next r.0 r.1 refl)
    explained_bind ts f (Err e) h next some =
        let c = some h.2 in
        (h.0, h.1 ++ c.0, c.1, h.3, (h.2, h.0 ++ (shown e.0 u e.1 ++ h.1), c.0, ap (λ l. h.0 ++ l) (sym (append_assoc (shown e.0 u e.1) h.1 c.0)) ∙ sym (append_assoc h.0 (shown e.0 u e.1 ++ h.1) c.0), h.4, c.2), h.5)

pub explained_weaker : (u : Bool) {A : Type 0} (M N : A → List Token → Type 0) (ts : List Token) (o : ReadingOutcome A) → ((x : A) (a : List Token) → M x a → N x a) → Explained u M ts o → Explained u N ts o
explained_weaker u M N ts (Ok r) f h = (h.0, h.1, f r.0 h.0 h.2)
explained_weaker u M N ts (Err e) f h = (h.0, h.1, h.2, h.3, f h.2 _ h.4, h.5)

pub explained_only : (u : Bool) {A : Type 0} (v : A) (ts : List Token) → Explained u (Only v) ts (pure v ts)
explained_only u v ts = ([], refl, (refl, refl))

pub explained_refuse : (u : Bool) {A : Type 0} (M : A → List Token → Type 0) (ts : List Token) → Inhabited M → Explained u M ts (refuse ts)
explained_refuse u M ts m = ([], m.0, m.1, refl, m.2, tt)

take_by : (u : Bool) (test : Token → Bool) (y : Token) → test y ≡ true → (x : Token) (ts : List Token) (b : Bool) → test x ≡ b → Explained u (Tok test) (x ∷ ts) (cond b (Ok (x, ts)) (Err (unexpected, x ∷ ts)))
take_by u test y is x ts true e = (x ∷ [], refl, (refl, e))
take_by u test y is x ts false e = ([], y ∷ [], y, refl, (refl, is), tt)

pub explained_take : (u : Bool) (test : Token → Bool) (y : Token) → test y ≡ true → (ts : List Token) → Explained u (Tok test) ts (take_if test ts)
unfolding take_if
explained_take u test y is [] = ([], y ∷ [], y, refl, (refl, is), tt)
explained_take u test y is (x ∷ ts) = take_by u test y is x ts (test x) refl

-- The level is opened, or it is one too many: then nothing is begun within the levels, and what begins with its token
-- can be completed with more tokens.
pub explained_deeper : (u : Bool) {A : Type 0} (M : A → List Token → Type 0) (n : ℕ) (p : Parser A) (x : Token) (ts : List Token) → Inhabited M → (Fits u n 1 → (more : List Token) × (v : A) × M v (x ∷ more)) → (0 < n → Explained u M (x ∷ ts) (p (x ∷ ts)))
    → Explained u M (x ∷ ts) (deeper n p (x ∷ ts))
unfolding deeper
explained_deeper true M zero p x ts some deep h = ([], some.0, some.1, refl, some.2, tt)
explained_deeper false M zero p x ts some deep h = let d = deep tt in ([], d.0, d.1, refl, d.2, tt)
explained_deeper u M (suc n) p x ts some deep h = h (omega arith)

-- each element of the list, with what comes before it
abbrev pub Listed : {A : Type 0} → (A → List Token → Type 0) → List A → List Token → Type 0
Listed E [] ts = ts ≡ []
Listed E (x ∷ xs) ts = (a b : List Token) × (ts ≡ a ++ b) × E x a × Listed E xs b

module _ (u : Bool) {A : Type 0} (E : A → List Token → Type 0) (next : List Token → Option (List Token)) (p : Parser A) (each : (ts begin : List Token) → next ts ≡ Some begin → Explained u E ts (p begin)) where
  listed_again : (y : List A) (ts : List Token) → Then E (λ x. Then (Listed E) (λ xs. Only (x ∷ xs))) y ts → Listed E y ts
  listed_again y ts h =
      let k = h.5 in
      let whole : ts ≡ h.1 ++ k.1 = h.3 ∙ ap (λ l. h.1 ++ l) (k.3 ∙ ap (λ l. k.1 ++ l) k.5.0 ∙ append-nil k.1) in
      subst (λ y. Listed E y ts) (sym k.5.1) (h.1, k.1, whole, h.4, k.4)

  many_by : (m : ℕ) (ts : List Token) → ((rest : List Token) → Explained u (Listed E) rest (many next p m rest)) → (o : Option (List Token)) → next ts ≡ o → Explained u (Listed E) ts (many_step p (many next p m) ts o)
  many_by m ts rec None e = ([], refl, refl)
  many_by m ts rec (Some begin) e =
      explained_weaker u (Then E (λ x. Then (Listed E) (λ xs. Only (x ∷ xs)))) (Listed E) ts _
      listed_again
      (explained_bind E (λ x. Then (Listed E) (λ xs. Only (x ∷ xs))) u ts (λ x. many next p m >>= λ xs. pure (x ∷ xs)) (p begin) (each ts begin e)
      (λ x rest is. explained_bind (Listed E) (λ xs. Only (x ∷ xs)) u rest (λ xs. pure (x ∷ xs)) (many next p m rest) (rec rest) (λ xs rest2 is2. explained_only u (x ∷ xs) rest2) (λ xs. some_only (x ∷ xs)))
      (λ x. some_then (Listed E) (λ xs. Only (x ∷ xs)) ([], [], refl) (λ xs. some_only (x ∷ xs))))

  pub explained_many : (m : ℕ) (ts : List Token) → Explained u (Listed E) ts (many next p m ts)
  unfolding many
  explained_many zero ts = ([], refl, refl)
  explained_many (suc m) ts = many_by m ts (explained_many m) (next ts) refl

  pub explained_all : (ts : List Token) → Explained u (Listed E) ts (all next p ts)
  unfolding all
  explained_all ts = explained_many (length ts) ts

  more_again : (y : List A) (ts : List Token) → Then E (λ x. Then (Listed E) (λ xs. Only (x ∷ xs))) y ts → (0 < length y) × Listed E y ts
  more_again y ts h = (let e : y ≡ h.0 ∷ h.5.0 = h.5.5.1 in omega (arith, ap length e), listed_again y ts h)

  pub explained_more : (x : Token) (rest begin : List Token) → next (x ∷ rest) ≡ Some begin → Explained u (λ xs a. (0 < length xs) × Listed E xs a) (x ∷ rest) (all next p (x ∷ rest))
  unfolding all many
  explained_more x ts begin e =
      let m = length ts in
      let N = λ (x : A). Then (Listed E) (λ xs. Only (x ∷ xs)) in
      let f = λ (x : A). many next p m >>= λ xs. pure (x ∷ xs) in
      let whole = explained_weaker u (Then E N) (λ xs a. (0 < length xs) × Listed E xs a) (x ∷ ts) (and_then (p begin) f) more_again
      (explained_bind E N u (x ∷ ts) f (p begin) (each (x ∷ ts) begin e)
      (λ x rest is. explained_bind (Listed E) (λ xs. Only (x ∷ xs)) u rest (λ xs. pure (x ∷ xs)) (many next p m rest) (explained_many m rest) (λ xs rest2 is2. explained_only u (x ∷ xs) rest2) (λ xs. some_only (x ∷ xs)))
      (λ x. some_then (Listed E) (λ xs. Only (x ∷ xs)) ([], [], refl) (λ xs. some_only (x ∷ xs)))) in
      subst (λ o. Explained u (λ xs a. (0 < length xs) × Listed E xs a) (x ∷ ts) (many_step p (many next p m) (x ∷ ts) o)) (sym e) whole
