-- A file determines its names, and the first fault of them.
use Rattle.std.proofs.{Common.{◌≡◌, ℕ, zero, suc, ◌≤◌, ◌<◌, List, [], ◌∷◌, length, Some, refl, sym, ap, ◌∙◌, arith, inl, inr, ⊎_elim, ◌⊎◌}, lemmas.Option.{same_Some, none-some}}
use Rattle.std.specs.Prelude.{slice_get}
use Rattle.pc_base.specs.Lists.{Each, Has, Ascends}
use Rattle.pc_tree.specs.Tree as t
use Rattle.pc_names.specs.{declared.fault.NameFault.NameFault, Faults.{IsFirstNameFault, name_faults, IsNotMemory}, Laws.{OneClosing, OneFault, NotBoth}}
use Rattle.pc_names.specs.declared.fault.NameFault.TheVariants as fault
use Rattle.pc_members.specs.Members.{IsAbove}

-- ---- ascending lists

pub ascends_tail : (x : ℕ) (xs : List ℕ) → Ascends (x ∷ xs) → Ascends xs
ascends_tail x xs h i j a b l ea eb = h (suc i) (suc j) a b (omega (arith, l)) ea eb

-- An element of an ascending list is its first element, or a greater one among the later ones.
head_or : (x : ℕ) (xs : List ℕ) (b : ℕ) → Ascends (x ∷ xs) → Has (x ∷ xs) b → (b ≡ x) ⊎ ((x < b) × Has xs b)
head_or x xs b h (zero, e) = inl (sym (same_Some _ _ e))
head_or x xs b h (suc i, e) = let l : x < b = h 0 (suc i) x b (omega arith) refl e in inr (l, (i, e))

has_tail : (x : ℕ) (xs : List ℕ) (b : ℕ) → Ascends (x ∷ xs) → Has xs b → (x < b) × Has (x ∷ xs) b
has_tail x xs b h e = let l : x < b = h 0 (suc e.0) x b (omega arith) refl e.1 in (l, (suc e.0, e.1))

abbrev pub SameIn : List ℕ → List ℕ → Type 0
SameIn xs ys = (b : ℕ) → Has xs b → Has ys b

heads_le : (x y : ℕ) (xs ys : List ℕ) → Ascends (y ∷ ys) → SameIn (x ∷ xs) (y ∷ ys) → y ≤ x
heads_le x y xs ys h s = ⊎_elim (λ e. omega (arith, e)) (λ g. omega (arith, g.0)) (head_or y ys x h (s x (0, refl)))

tails_in : (x y : ℕ) (xs ys : List ℕ) → x ≡ y → Ascends (x ∷ xs) → Ascends (y ∷ ys) → SameIn (x ∷ xs) (y ∷ ys) → SameIn xs ys
tails_in x y xs ys e hx hy s b m =
    let t = has_tail x xs b hx m in
    ⊎_elim (λ d. absurd (omega (arith, d, e, t.0))) (λ g. g.1) (head_or y ys b hy (s b t.1))

ascends_one : (xs ys : List ℕ) → Ascends xs → Ascends ys → SameIn xs ys → SameIn ys xs → xs ≡ ys
ascends_one [] [] hx hy s r = refl
ascends_one [] (y ∷ ys) hx hy s r = let m = r y (0, refl) in absurd (none-some y m.1)
ascends_one (x ∷ xs) [] hx hy s r = let m = s x (0, refl) in absurd (none-some x m.1)
ascends_one (x ∷ xs) (y ∷ ys) hx hy s r =
    let l : y ≤ x = heads_le x y xs ys hy s in
    let g : x ≤ y = heads_le y x ys xs hx r in
    let e : x ≡ y = omega (arith, l, g) in
    let rest = ascends_one xs ys (ascends_tail x xs hx) (ascends_tail y ys hy) (tails_in x y xs ys e hx hy s) (tails_in y x ys xs (sym e) hy hx r) in
    ap (λ z. z ∷ xs) e ∙ ap (λ zs. y ∷ zs) rest

-- ---- lists whose elements are each determined

each_tail : {T : Type 0} (P : ℕ → T → Type 0) (x : T) (xs : List T) → Each P (x ∷ xs) → Each (λ i. P (suc i)) xs
each_tail P x xs h i y e = h (suc i) y e

same_lists : {T : Type 0} (P : ℕ → T → Type 0) → ((i : ℕ) (x y : T) → P i x → P i y → x ≡ y) → (xs ys : List T) → length xs ≡ length ys → Each P xs → Each P ys → xs ≡ ys
same_lists P one [] [] l hx hy = refl
same_lists P one [] (y ∷ ys) l hx hy = absurd (omega (arith, l))
same_lists P one (x ∷ xs) [] l hx hy = absurd (omega (arith, l))
same_lists P one (x ∷ xs) (y ∷ ys) l hx hy =
    ap (λ z. z ∷ xs) (one 0 x y (hx 0 x refl) (hy 0 y refl)) ∙ ap (λ zs. y ∷ zs) (same_lists (λ i. P (suc i)) (λ i. one (suc i)) xs ys (omega (arith, l)) (each_tail P x xs hx) (each_tail P y ys hy))

above_one : (file : t.File) (a : ℕ) (xs ys : List ℕ) → IsAbove file a xs → IsAbove file a ys → xs ≡ ys
above_one file a xs ys x y =
    ascends_one xs ys x.0 y.0 (λ b h. (y.1 b).1 ((x.1 b).0 h)) (λ b h. (x.1 b).1 ((y.1 b).0 h))

pub one_closing : OneClosing
one_closing file one other x y = same_lists (λ a l. IsAbove file a l) (above_one file) one other (x.0 ∙ sym y.0) x.1 y.1

-- ---- the first fault

pub first_is : (f : NameFault) (fs : List NameFault) → IsNotMemory f → IsFirstNameFault f fs → slice_get fs 0 ≡ Some f
first_is (fault.Double s) fs o h = h
first_is (fault.Unknown s) fs o h = h
first_is fault.NoMain fs o h = h
first_is (fault.BadMain s) fs o h = h
first_is (fault.Cycle s) fs o h = h
first_is (fault.TooMany w s) fs o h = h
first_is fault.Memory fs o h = absurd (o refl)

pub one_fault : OneFault
one_fault file f g of og hf hg =
    let a = first_is f (name_faults file hf.0) of hf.2 in
    let b = first_is g (name_faults file hg.0) og hg.2 in
    same_Some _ _ (sym a ∙ ap (λ l. slice_get (name_faults file l) 0) (one_closing file hf.0 hg.0 hf.1 hg.1) ∙ b)

pub not_both : NotBoth
not_both file f names of hf c =
    let a = first_is f (name_faults file hf.0) of hf.2 in
    none-some f (sym (ap (λ l. slice_get (name_faults file l) 0) (one_closing file hf.0 names.above hf.1 c.above) ∙ ap (λ l. slice_get l 0) c.faults) ∙ a)
