-- How lists begin.
use Rattle.std.proofs.{Common.{◌≡◌, ℕ, ◌<◌, Bool, true, false, not, ◌&&◌, nat_eq, ◌==◌, if◌then◌else◌, List, [], ◌∷◌, ◌++◌, length, take, drop, Option, Some, None, refl, sym, ap, ap₂, ◌∙◌, arith}, lemmas.Bool.Decides.{Decides-eqb, nat_tests}, lemmas.Slice.Eq.bytes_eq-Decides, lemmas.Option.{same_Some, none-some}, lemmas.List.{append-nil, append_assoc, take-append-drop}, lemmas.List.Folds.concat-append}
use Rattle.pc_base.proofs.Bools.{true_false}
use Rattle.std.specs.{List.concat, Str.bytes_eq}

-- What follows the first list in the second, if the second begins with the first.
abbrev pub stripped : List ℕ → List ℕ → Option (List ℕ)
stripped [] ys = Some ys
stripped (x ∷ xs) [] = None
stripped (x ∷ xs) (y ∷ ys) = if nat_eq x y then stripped xs ys else None

same_number : (n : ℕ) → nat_eq n n ≡ true
same_number n = (Decides-eqb n n).1 refl

-- A front that both have is passed over.
pub strip_both : (front xs ys : List ℕ) → stripped (front ++ xs) (front ++ ys) ≡ stripped xs ys
strip_both [] xs ys = refl
strip_both (n ∷ front) xs ys = ap (λ b. if b then stripped (front ++ xs) (front ++ ys) else None) (same_number n) ∙ strip_both front xs ys

-- Fronts of one length that are not equal.
pub strip_other : (one two xs ys : List ℕ) → length one ≡ length two → bytes_eq one two ≡ false → stripped (one ++ xs) (two ++ ys) ≡ None
strip_other [] [] xs ys long other = absurd (true_false other)
strip_other [] (m ∷ two) xs ys long other = absurd (omega (arith, long))
strip_other (n ∷ one) [] xs ys long other = absurd (omega (arith, long))
strip_other (n ∷ one) (m ∷ two) xs ys long other = go (nat_eq n m) other (strip_other one two xs ys (omega (arith, long)))
  where
    go : (b : Bool) → (b && bytes_eq one two) ≡ false → (bytes_eq one two ≡ false → stripped (one ++ xs) (two ++ ys) ≡ None)
        → (if b then stripped (one ++ xs) (two ++ ys) else None) ≡ None
    go true e less = less e
    go false e less = refl

-- What is found after a front follows it.
pub behind_front : (front ys rest : List ℕ) → stripped front ys ≡ Some rest → ys ≡ front ++ rest
behind_front [] ys rest e = same_Some ys rest e
behind_front (n ∷ front) [] rest e = absurd (none-some rest e)
behind_front (n ∷ front) (m ∷ ys) rest e = go (nat_eq n m) refl e (behind_front front ys rest)
  where
    go : (b : Bool) → nat_eq n m ≡ b → (if b then stripped front ys else None) ≡ Some rest → (stripped front ys ≡ Some rest → ys ≡ front ++ rest)
        → m ∷ ys ≡ n ∷ front ++ rest
    go true is f less = λ i. sym ((Decides-eqb n m).0 is) i ∷ less f i
    go false is f less = absurd (none-some rest f)

-- If nothing is found, no list begins with the front.
pub no_front : (front ys after : List ℕ) → stripped front ys ≡ None → ys ≡ front ++ after → ⊥
no_front front ys after none is = none-some after (sym none ∙ ap (stripped front) is ∙ found front after)
  where
    found : (front after : List ℕ) → stripped front (front ++ after) ≡ Some after
    found [] after = refl
    found (n ∷ front) after = ap (λ b. if b then stripped front (front ++ after) else None) (same_number n) ∙ found front after

-- A front is compared first, and then what follows it.
pub equal_behind : (front xs ys zs : List ℕ) → ys ≡ front ++ zs → bytes_eq (front ++ xs) ys ≡ bytes_eq xs zs
equal_behind front xs ys zs is = ap (bytes_eq (front ++ xs)) is ∙ go front
  where
    go : (front : List ℕ) → bytes_eq (front ++ xs) (front ++ zs) ≡ bytes_eq xs zs
    go [] = refl
    go (n ∷ front) = ap (λ b. b && bytes_eq (front ++ xs) (front ++ zs)) (same_number n) ∙ go front

-- A list more, and two.
pub one_more : (lists : List (List ℕ)) (list : List ℕ) → concat (lists ++ list ∷ []) ≡ concat lists ++ list
one_more lists list = concat-append lists (list ∷ []) ∙ ap (λ xs. concat lists ++ xs) (append-nil list)

pub two_more : (lists : List (List ℕ)) (one two : List ℕ) → concat ((lists ++ one ∷ []) ++ two ∷ []) ≡ concat lists ++ (one ++ two)
two_more lists one two = one_more (lists ++ one ∷ []) two ∙ ap (λ xs. xs ++ two) (one_more lists one) ∙ append_assoc (concat lists) one two

-- The last of some lists and the first of others are joined.
pub met : (front : List (List ℕ)) (last first : List ℕ) (behind made all left right : List (List ℕ)) → concat made ≡ concat front ++ (last ++ first)
    → all ≡ made ++ behind → left ≡ front ++ last ∷ [] → right ≡ first ∷ behind → concat all ≡ concat left ++ concat right
met front last first behind made all left right is whole split other =
    ap concat whole ∙ concat-append made behind ∙ ap (λ xs. xs ++ concat behind) (is ∙ sym (append_assoc (concat front) last first))
    ∙ append_assoc (concat front ++ last) first (concat behind)
    ∙ sym (ap (λ xs. xs ++ (first ++ concat behind)) (one_more front last))
    ∙ sym (ap₂ (λ xs ys. concat xs ++ concat ys) split other)

-- The meaning of `is_empty`.
pub none_there : {X : Type 0} (b : Bool) (xs : List X) → b ≡ (length xs == 0) → b ≡ true → length xs ≡ 0
none_there b xs says is = (Decides-eqb (length xs) 0).0 (sym says ∙ is)

pub some_there : {X : Type 0} (b : Bool) (xs : List X) → b ≡ (length xs == 0) → b ≡ false → 0 < length xs
some_there b xs says is = go (length xs) (sym says ∙ is)
  where
    go : (n : ℕ) → (n == 0) ≡ false → 0 < n
    go n e = grind (arith, nat_tests)

pub parted : (n : ℕ) (xs one two : List ℕ) → one ≡ take n xs → two ≡ drop n xs → xs ≡ one ++ two
parted n xs one two front back = sym (take-append-drop n xs) ∙ sym (ap₂ (λ x y. x ++ y) front back)

split : (wanted piece rest before after here there : List ℕ) → wanted ≡ before ++ after → piece ≡ here ++ there
    → stripped wanted (piece ++ rest) ≡ stripped (before ++ after) (here ++ (there ++ rest))
split wanted piece rest before after here there one two = ap₂ (λ x y. stripped x (y ++ rest)) one two ∙ ap (stripped (before ++ after)) (append_assoc here there rest)

pub nothing_there : (piece : List ℕ) (lists : List (List ℕ)) → length piece ≡ 0 → length lists ≡ 0 → length (piece ++ concat lists) ≡ 0
nothing_there [] [] none no_lists = refl
nothing_there [] (x ∷ lists) none no_lists = absurd (omega (arith, no_lists))
nothing_there (n ∷ piece) lists none no_lists = absurd (omega (arith, none))

-- The meaning of `!=`.
pub other_bytes : (b : Bool) (xs ys : List ℕ) → b ≡ not (bytes_eq xs ys) → b ≡ true → bytes_eq xs ys ≡ false
other_bytes b xs ys says is = go (bytes_eq xs ys) (sym is ∙ says)
  where
    go : (e : Bool) → true ≡ not e → e ≡ false
    go true f = absurd (true_false f)
    go false f = refl

pub same_bytes : (b : Bool) (xs ys : List ℕ) → b ≡ not (bytes_eq xs ys) → b ≡ false → xs ≡ ys
same_bytes b xs ys says is = (bytes_eq-Decides xs ys).0 (go (bytes_eq xs ys) (sym is ∙ says))
  where
    go : (e : Bool) → false ≡ not e → e ≡ true
    go true f = refl
    go false f = absurd (true_false (sym f))

-- A front is looked for piece by piece: nothing of it is left,
pub ended : (bytes from wanted rest : List ℕ) → stripped bytes from ≡ stripped wanted rest → length wanted ≡ 0 → from ≡ bytes ++ rest
ended bytes from [] rest same e = behind_front bytes from rest same
ended bytes from (w ∷ wanted) rest same e = absurd (omega (arith, e))

-- or there are no more bytes,
pub fell_short : (bytes from wanted rest : List ℕ) → stripped bytes from ≡ stripped wanted rest → 0 < length wanted → length rest ≡ 0
    → (after : List ℕ) → from ≡ bytes ++ after → ⊥
fell_short bytes from [] rest same some none = absurd (omega (arith, some))
fell_short bytes from (w ∷ wanted) [] same some none = λ after. no_front bytes from after same
fell_short bytes from (w ∷ wanted) (r ∷ rest) same some none = absurd (omega (arith, none))

-- or other bytes,
pub differed : (bytes from wanted piece rest before after here there : List ℕ) → stripped bytes from ≡ stripped wanted (piece ++ rest)
    → wanted ≡ before ++ after → piece ≡ here ++ there → length before ≡ length here → bytes_eq before here ≡ false
    → (later : List ℕ) → from ≡ bytes ++ later → ⊥
differed bytes from wanted piece rest before after here there same one two long differ =
    λ later. no_front bytes from later (same ∙ split wanted piece rest before after here there one two ∙ strip_other before here after (there ++ rest) long differ)

-- or a part of it was found.
pub went_on : (bytes from wanted piece rest before after here there : List ℕ) → stripped bytes from ≡ stripped wanted (piece ++ rest)
    → wanted ≡ before ++ after → piece ≡ here ++ there → before ≡ here → stripped bytes from ≡ stripped after (there ++ rest)
went_on bytes from wanted piece rest before after here there same one two found =
    same ∙ split wanted piece rest before after here there one two ∙ ap (λ z. stripped (z ++ after) (here ++ (there ++ rest))) found ∙ strip_both here after (there ++ rest)

-- What is equal and is looked at from the front.
pub equal_so_far : (front xs ys zs all : List ℕ) (b : Bool) → b ≡ bytes_eq all ys → all ≡ front ++ xs → ys ≡ front ++ zs → b ≡ bytes_eq xs zs
equal_so_far front xs ys zs all b so_far whole is = so_far ∙ ap (λ xs. bytes_eq xs ys) whole ∙ equal_behind front xs ys zs is

pub nothing_left : (piece rest : List ℕ) → 0 < length piece → false ≡ bytes_eq [] (piece ++ rest)
nothing_left [] rest some = absurd (omega (arith, some))
nothing_left (n ∷ piece) rest some = refl
