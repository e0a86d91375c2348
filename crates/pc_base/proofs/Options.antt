-- Steps that may have no result.
use Rattle.std.proofs.{Common.{◌≡◌, Bool, true, false, cond, Option, Some, None, refl, ap}, lemmas.Option.none-some}
use Rattle.pc_base.specs.Lists.{◌>>=◌}

pub none_some : {A : Type 0} {x : A} → None ≡ Some x → ⊥
none_some {x = x} e = none-some x e

-- If a computation has a result, so has its first part.
pub bind_some : {A B : Type 0} → (o : Option A) (f : A → Option B) (y : B) → (o >>= f) ≡ Some y → (x : A) × (o ≡ Some x) × (f x ≡ Some y)
bind_some None f y e = absurd (none-some y e)
bind_some (Some x) f y e = (x, refl, e)

-- A computation whose first part has a result continues with it.
pub bind_is : {A B : Type 0} → (o : Option A) (f : A → Option B) (x : A) → o ≡ Some x → (o >>= f) ≡ f x
bind_is o f x e = ap (λ p. p >>= f) e

-- A result that is kept if a test holds.
pub kept : {A : Type 0} → (b : Bool) (o : Option A) (y : A) → cond b o None ≡ Some y → (b ≡ true) × (o ≡ Some y)
kept true o y e = (refl, e)
kept false o y e = absurd (none-some y e)

-- A result that is kept unless a test holds.
pub kept_otherwise : {A : Type 0} → (b : Bool) (o : Option A) (y : A) → cond b None o ≡ Some y → (b ≡ false) × (o ≡ Some y)
kept_otherwise true o y e = absurd (none-some y e)
kept_otherwise false o y e = (refl, e)
