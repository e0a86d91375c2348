-- Over several writes, what is known to be written grows by prefixes, and failures rise.
use Rattle.std.proofs.{Common.{◌≡◌, ℕ, ◌+◌, ◌≤◌, List, ◌++◌, length, take, drop, Option, sym, ap, ◌∙◌, subst, arith, append_assoc}, Math.Seq.{take-append-add, take-append_seam}, lemmas.List.take-append-drop, KnownBytes.Appends-trans}
use Rattle.std.specs.Io.KnownBytes.{Appends}
use Rattle.pc_io.specs.Sink.{HasRisen, GrowsByPrefix}

-- A prefix of a is a prefix of what begins with a.
pub grows_more : (w x : Option (List ℕ)) (a b : List ℕ) → GrowsByPrefix w x a → GrowsByPrefix w x (a ++ b)
grows_more w x a b (n, h) =
    let front = take n a in
    let all : front ++ (drop n a ++ b) ≡ a ++ b = sym (append_assoc front (drop n a) b) ∙ ap (λ l. l ++ b) (take-append-drop n a) in
    let same : front ≡ take (length front) (a ++ b) = sym (take-append_seam front (drop n a ++ b)) ∙ ap (take (length front)) all in
    (length front, subst (Appends w x) same h)

-- What was written whole, and a prefix of what followed.
pub grows_on : (w x y : Option (List ℕ)) (a b : List ℕ) → Appends w x a → GrowsByPrefix x y b → GrowsByPrefix w y (a ++ b)
grows_on w x y a b h (n, k) = (length a + n, subst (Appends w y) (sym (take-append-add a b n)) (Appends-trans w x y a (take n b) h k))

-- Failures that came after others.
pub rose_before : (f g h : ℕ) → f ≤ g → HasRisen g h → HasRisen f h
rose_before f g h l r = omega (arith, l, r)
