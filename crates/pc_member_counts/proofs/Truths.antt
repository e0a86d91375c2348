-- Truth values.
use Rattle.std.proofs.Common.{◌≡◌, Bool, true, false, ◌&&◌, ◌||◌, not, refl, sym, ap, ◌∙◌}

pub same_truth : (a b : Bool) → (a ≡ true → b ≡ true) → (b ≡ true → a ≡ true) → a ≡ b
same_truth true true f g = refl
same_truth true false f g = sym (f refl)
same_truth false true f g = g refl
same_truth false false f g = refl

pub and_true : (b : Bool) → (b && true) ≡ b
and_true true = refl
and_true false = refl

pub and_false : (b : Bool) → (b && false) ≡ false
and_false true = refl
and_false false = refl

pub or_false : (b : Bool) → (b || false) ≡ b
or_false true = refl
or_false false = refl

pub or_true : (b : Bool) → (b || true) ≡ true
or_true true = refl
or_true false = refl

pub or_assoc : (a b c : Bool) → ((a || b) || c) ≡ (a || (b || c))
or_assoc true b c = refl
or_assoc false b c = refl

pub and_assoc : (a b c : Bool) → ((a && b) && c) ≡ (a && (b && c))
and_assoc true b c = refl
and_assoc false b c = refl

pub and_swap : (a b : Bool) → (a && b) ≡ (b && a)
and_swap true b = sym (and_true b)
and_swap false b = sym (and_false b)

-- Not the first, and not the second.
pub neither : (a b : Bool) → (not a && not b) ≡ not (a || b)
neither true b = refl
neither false b = refl

-- Had from the start, or taken from a first part and then from a second.
pub first_or_later : (p a q b r : Bool) → ((p || (a && q)) || ((a && b) && r)) ≡ (p || (a && (q || (b && r))))
first_or_later true a q b r = refl
first_or_later false true q b r = refl
first_or_later false false q b r = refl

-- Free of methods and of the others, and taken.
pub own_bits : (m f a t : Bool) → (((true && not m) && not (f || a)) && (false || t)) ≡ (t && not (f || (m || a)))
own_bits true f a t = sym (ap (λ b. t && not b) (or_true f) ∙ and_false t)
own_bits false f a t = and_swap (not (f || a)) t
