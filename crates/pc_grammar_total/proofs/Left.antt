-- No rule takes the `End` of a list: what it leaves ends with `End` too, and if a level is too deep, what it leaves
-- begins with the token that opens it.
use Rattle.std.proofs.Common.{◌≡◌, ◌≢◌, ℕ, zero, suc, Bool, true, false, List, [], ◌∷◌, length, Option, Some, None, Ok, Err, refl, sym, subst, cond}
use Rattle.pc_token.specs.declared.kinds.Token.{Token}
use Rattle.pc_token.specs.declared.kinds.TokenKind.TheVariants as k
use Rattle.pc_grammar.specs.Reading.{unexpected, too_deep, ReadingOutcome, Parser, and_then, pure, refuse, ◌>>=◌, peek, take_if, take_any, deeper, many, many_step, all, at, after}
use Rattle.pc_grammar.proofs.{ExplainedAtoms.at_is, ExplainedChains.after_is}
use Rattle.pc_expr.specs.Gives.{EndsWithEnd}
use Rattle.pc_grammar_total.specs.Levels.{opens_level, OpensLevel}

abbrev pub Left : {A : Type 0} → ReadingOutcome A → Type 0
Left (Ok r) = EndsWithEnd r.1
Left (Err (unexpected, rest)) = EndsWithEnd rest
Left (Err (too_deep, rest)) = EndsWithEnd rest × OpensLevel rest

-- for all lists
pub record Leaves {A : Type 0} (p : Parser A) : Type 0 where
  pub leaves : (ts : List Token) → EndsWithEnd ts → Left (p ts)

-- for lists that begin with this token
pub record LeavesAt {A : Type 0} (x : Token) (p : Parser A) : Type 0 where
  pub leaves_at : (more : List Token) → EndsWithEnd (x ∷ more) → Left (p (x ∷ more))

pub anywhere : {A : Type 0} (x : Token) (p : Parser A) → Leaves p → LeavesAt x p
anywhere x p a = record { leaves_at = λ more ends. a.leaves (x ∷ more) ends }

pub leaves_pure : {A : Type 0} (v : A) → Leaves (pure v)
leaves_pure v = record { leaves = λ ts ends. ends }

pub leaves_refuse : {A : Type 0} → Leaves (refuse {A = A})
leaves_refuse = record { leaves = λ ts ends. ends }

-- ---- one rule after another

left_then : {A B : Type 0} (o : ReadingOutcome A) (f : A → Parser B) → Left o → ((v : A) → Leaves (f v)) → Left (and_then o f)
left_then (Ok r) f h b = (b r.0).leaves r.1 h
left_then (Err (unexpected, rest)) f h b = h
left_then (Err (too_deep, rest)) f h b = h

pub leaves_bind : {A B : Type 0} (p : Parser A) (f : A → Parser B) → Leaves p → ((v : A) → Leaves (f v)) → Leaves (p >>= f)
leaves_bind p f a b = record { leaves = λ ts ends. left_then (p ts) f (a.leaves ts ends) b }

pub at_bind : {A B : Type 0} (x : Token) (p : Parser A) (f : A → Parser B) → LeavesAt x p → ((v : A) → Leaves (f v)) → LeavesAt x (p >>= f)
at_bind x p f a b = record { leaves_at = λ more ends. left_then (p (x ∷ more)) f (a.leaves_at more ends) b }

peek_left : {A : Type 0} (g : Token → Parser A) → ((x : Token) → LeavesAt x (g x)) → (ts : List Token) → EndsWithEnd ts → Left ((peek >>= g) ts)
unfolding peek
peek_left g a [] ends = absurd ends
peek_left g a (x ∷ more) ends = (a x).leaves_at more ends

pub leaves_peek : {A : Type 0} (g : Token → Parser A) → ((x : Token) → LeavesAt x (g x)) → Leaves (peek >>= g)
leaves_peek g a = record { leaves = peek_left g a }

pub leaves_cond : {A : Type 0} (b : Bool) (p q : Parser A) → Leaves p → Leaves q → Leaves (cond b p q)
leaves_cond true p q a c = a
leaves_cond false p q a c = c

pub at_cond : {A : Type 0} (x : Token) (b : Bool) (p q : Parser A) → (b ≡ true → LeavesAt x p) → (b ≡ false → LeavesAt x q) → LeavesAt x (cond b p q)
at_cond x true p q a c = a refl
at_cond x false p q a c = c refl

-- ---- one token

-- a test that the end of a text does not pass
abbrev pub NotEnd : (Token → Bool) → Type 0
NotEnd test = (x : Token) → test x ≡ true → x.kind ≢ k.End

pub behind : (x : Token) (ts : List Token) → x.kind ≢ k.End → EndsWithEnd (x ∷ ts) → EndsWithEnd ts
behind x [] apart ends = absurd (apart ends)
behind x (y ∷ ts) apart ends = ends

module _ (test : Token → Bool) (apart : NotEnd test) where
  take_by : (x : Token) (ts : List Token) (b : Bool) → test x ≡ b → EndsWithEnd (x ∷ ts) → Left {A = Token} (cond b (Ok (x, ts)) (Err (unexpected, x ∷ ts)))
  take_by x ts true e ends = behind x ts (apart x e) ends
  take_by x ts false e ends = ends

  take_left : (ts : List Token) → EndsWithEnd ts → Left (take_if test ts)
  unfolding take_if
  take_left [] ends = absurd ends
  take_left (x ∷ ts) ends = take_by x ts (test x) refl ends

  pub leaves_take : Leaves (take_if test)
  leaves_take = record { leaves = take_left }

pub at_any : (x : Token) → x.kind ≢ k.End → LeavesAt x take_any
unfolding take_if
at_any x apart = record { leaves_at = λ more ends. behind x more apart ends }

-- a level is opened by the token that is there
pub at_deeper : {A : Type 0} (x : Token) (n : ℕ) (p : Parser A) → opens_level x ≡ true → LeavesAt x p → LeavesAt x (deeper n p)
unfolding deeper
at_deeper x zero p opens a = record { leaves_at = λ more ends. (ends, (x, more, refl, opens)) }
at_deeper x (suc n) p opens a = a

-- ---- loops

-- if one more begins, it leaves the end
abbrev pub Turns : {A : Type 0} → (List Token → Option (List Token)) → Parser A → Type 0
Turns next p = (ts begin : List Token) → EndsWithEnd ts → next ts ≡ Some begin → Left (p begin)

module _ {A : Type 0} (next : List Token → Option (List Token)) (p : Parser A) (turns : Turns next p) where
  turn_left : (n : ℕ) → Leaves (many next p n) → (ts : List Token) → EndsWithEnd ts → (o : Option (List Token)) → next ts ≡ o → Left (many_step p (many next p n) ts o)
  turn_left n more ts ends None e = ends
  turn_left n more ts ends (Some begin) e = left_then (p begin) (λ x. many next p n >>= λ xs. pure (x ∷ xs)) (turns ts begin ends e) (λ x. leaves_bind (many next p n) (λ xs. pure (x ∷ xs)) more (λ xs. leaves_pure (x ∷ xs)))

  leaves_many : (n : ℕ) → Leaves (many next p n)
  unfolding many
  leaves_many zero = record { leaves = λ ts ends. ends }
  leaves_many (suc n) = record { leaves = λ ts ends. turn_left n (leaves_many n) ts ends (next ts) refl }

  pub leaves_all : Leaves (all next p)
  unfolding all
  leaves_all = record { leaves = λ ts ends. (leaves_many (length ts)).leaves ts ends }

at_turns : {A : Type 0} (test : Token → Bool) (p : Parser A) → ((x : Token) → test x ≡ true → LeavesAt x p) → Turns (at test) p
at_turns test p a [] begin ends e = absurd ends
at_turns test p a (x ∷ ts) begin ends e =
    let f = at_is test x ts begin e in
    let P : List Token → Type 0 = λ l. Left (p l) in
    subst P (sym f.0) ((a x f.1).leaves_at ts ends)

-- one more begins at a token
pub leaves_all_at : {A : Type 0} (test : Token → Bool) (p : Parser A) → ((x : Token) → test x ≡ true → LeavesAt x p) → Leaves (all (at test) p)
leaves_all_at test p a = leaves_all (at test) p (at_turns test p a)

after_turns : {A : Type 0} (test : Token → Bool) (p : Parser A) → NotEnd test → Leaves p → Turns (after test) p
after_turns test p apart a ts begin ends e =
    let f = after_is test ts begin e in
    a.leaves begin (behind f.0 begin (apart f.0 f.2) (subst EndsWithEnd f.1 ends))

-- or after it
pub leaves_all_after : {A : Type 0} (test : Token → Bool) (p : Parser A) → NotEnd test → Leaves p → Leaves (all (after test) p)
leaves_all_after test p apart a = leaves_all (after test) p (after_turns test p apart a)
