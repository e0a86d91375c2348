-- The first values of keys, and the list that an index of names represents.
use Rattle.std.proofs.{Common.{◌≡◌, ℕ, zero, suc, List, [], ◌∷◌, ◌++◌, Bool, true, false, cond, map, length, take, Option, Some, None, is_some, Vec, Global, refl, sym, ap, ◌∙◌, if◌then◌else◌}, lemmas.List.{append-nil, append_assoc, length-map, map-append}, lemmas.Option.same_Some}
use Rattle.std.specs.{Prelude.{slice_get, nat_eq}, Map.lookup, Str.bytes_eq}
use Rattle.pc_base.proofs.{Bools.true_false, Options.none_some, Cuts.take_front}
use Rattle.pc_resolve.specs.Indexes.{with_first, with_firsts, firsts, marks}
use Rattle.indexmap.specs.IndexMap.{IndexMap, insert_entry}
use Rattle.indexmap.proofs.CallerLemmas.{insert_entry-new}

-- ---- looking up

abbrev pub or_else : {X : Type 0} → Option X → Option X → Option X
or_else (Some x) other = Some x
or_else None other = other

or_none : {X : Type 0} → (o : Option X) → or_else o None ≡ o
or_none (Some x) = refl
or_none None = refl

or_or : {X : Type 0} → (a b c : Option X) → or_else (or_else a b) c ≡ or_else a (or_else b c)
or_or (Some x) b c = refl
or_or None b c = refl

module _ {K X : Type 0} (test : K → Bool) where
  pub lookup_append : (xs ys : List (K × X)) → lookup test (xs ++ ys) ≡ or_else (lookup test xs) (lookup test ys)
  lookup_append [] ys = refl
  lookup_append (x ∷ xs) ys = by (test x.0) (lookup_append xs ys)
    where
      by : (b : Bool) → lookup test (xs ++ ys) ≡ or_else (lookup test xs) (lookup test ys) → cond b (Some x.1) (lookup test (xs ++ ys)) ≡ or_else (cond b (Some x.1) (lookup test xs)) (lookup test ys)
      by true rec = refl
      by false rec = rec

module _ {K X : Type 0} (eq : K → K → Bool) (same : (a b : K) → eq a b ≡ true → a ≡ b) where
  lookup_with : (es : List (K × X)) (p : K × X) (q : K) → lookup (eq q) (with_first eq es p) ≡ or_else (lookup (eq q) es) (lookup (eq q) (p ∷ []))
  lookup_with es p q = by (lookup (eq p.0) es) refl
    where
      there : (x : X) (b : Bool) → eq q p.0 ≡ b → lookup (eq p.0) es ≡ Some x → lookup (eq q) es ≡ or_else (lookup (eq q) es) (cond b (Some p.1) None)
      there x true e h = let g : lookup (eq q) es ≡ Some x = ap (λ k. lookup (eq k) es) (same q p.0 e) ∙ h in g ∙ sym (ap (λ o. or_else o (Some p.1)) g)
      there x false e h = sym (or_none (lookup (eq q) es))

      by : (o : Option X) → lookup (eq p.0) es ≡ o → lookup (eq q) (if is_some o then es else es ++ p ∷ []) ≡ or_else (lookup (eq q) es) (lookup (eq q) (p ∷ []))
      by (Some x) h = there x (eq q p.0) refl h
      by None h = lookup_append (eq q) es (p ∷ [])

  lookup_all : (es ps : List (K × X)) (q : K) → lookup (eq q) (with_firsts eq es ps) ≡ or_else (lookup (eq q) es) (lookup (eq q) ps)
  lookup_all es [] q = sym (or_none (lookup (eq q) es))
  lookup_all es (p ∷ ps) q = lookup_all (with_first eq es p) ps q ∙ (ap (λ o. or_else o (lookup (eq q) ps)) (lookup_with es p q) ∙ (or_or (lookup (eq q) es) (lookup (eq q) (p ∷ [])) (lookup (eq q) ps) ∙ ap (or_else (lookup (eq q) es)) (sym (lookup_append (eq q) (p ∷ []) ps))))

  -- The first values are the ones that are found.
  pub lookup_firsts : (ps : List (K × X)) (q : K) → lookup (eq q) (firsts eq ps) ≡ lookup (eq q) ps
  lookup_firsts ps q = lookup_all [] ps q

-- ---- one more pair, and fewer

module _ {K X : Type 0} (eq : K → K → Bool) where
  pub firsts_push : (es ps : List (K × X)) (p : K × X) → with_firsts eq es (ps ++ p ∷ []) ≡ with_first eq (with_firsts eq es ps) p
  firsts_push es [] p = refl
  firsts_push es (x ∷ ps) p = firsts_push (with_first eq es x) ps p

  pub marks_push : (es ps : List (K × X)) (p : K × X) → marks eq es (ps ++ p ∷ []) ≡ marks eq es ps ++ length (with_firsts eq es ps) ∷ []
  marks_push es [] p = refl
  marks_push es (x ∷ ps) p = ap (λ l. length es ∷ l) (marks_push (with_first eq es x) ps p)

  pub marks_take : (n : ℕ) (es ps : List (K × X)) → take n (marks eq es ps) ≡ marks eq es (take n ps)
  marks_take zero es ps = refl
  marks_take (suc n) es [] = refl
  marks_take (suc n) es (p ∷ ps) = ap (λ l. length es ∷ l) (marks_take n (with_first eq es p) ps)

  longer : (es : List (K × X)) (p : K × X) → (more : List (K × X)) × (with_first eq es p ≡ es ++ more)
  longer es p = by (is_some (lookup (eq p.0) es))
    where
      by : (b : Bool) → (more : List (K × X)) × ((if b then es else es ++ p ∷ []) ≡ es ++ more)
      by true = ([], sym (append-nil es))
      by false = (p ∷ [], refl)

  all_longer : (es ps : List (K × X)) → (more : List (K × X)) × (with_firsts eq es ps ≡ es ++ more)
  all_longer es [] = ([], sym (append-nil es))
  all_longer es (p ∷ ps) =
      let a = longer es p in
      let b = all_longer (with_first eq es p) ps in
      (a.0 ++ b.0, b.1 ∙ (ap (λ l. l ++ b.0) a.1 ∙ append_assoc es a.0 b.0))

  -- A mark gives the number of keys that are kept with this number of pairs.
  pub mark_found : (n k : ℕ) (es ps : List (K × X)) → slice_get (marks eq es ps) n ≡ Some k → take k (with_firsts eq es ps) ≡ with_firsts eq es (take n ps)
  mark_found n k es [] g = absurd (none_some g)
  mark_found zero k es (p ∷ ps) g =
      let m = all_longer es (p ∷ ps) in
      ap (λ i. take i (with_firsts eq es (p ∷ ps))) (sym (same_Some _ _ g)) ∙ (ap (take (length es)) m.1 ∙ take_front es m.0)
  mark_found (suc n) k es (p ∷ ps) g = mark_found n k (with_first eq es p) ps g

  -- An addition is undone by keeping only the keys before it.
  pub taken_back : (es : List (K × X)) (p : K × X) → take (length es) (with_first eq es p) ≡ es
  taken_back es p = let m = longer es p in ap (take (length es)) m.1 ∙ take_front es m.0

-- ---- what an index of names represents

abbrev pub shown : Vec ℕ Global × ℕ → List ℕ × ℕ
shown e = (e.0.items, e.1)

pub lookup_shown : (p : List ℕ → Bool) (es : List (Vec ℕ Global × ℕ)) → lookup p (map shown es) ≡ lookup (λ k. p k.items) es
lookup_shown p [] = refl
lookup_shown p (e ∷ es) = ap (λ o. cond (p e.0.items) (Some e.1) o) (lookup_shown p es)

pub shown_length : (es : List (Vec ℕ Global × ℕ)) → length (map shown es) ≡ length es
shown_length es = length-map es shown

pub take_shown : (n : ℕ) (es : List (Vec ℕ Global × ℕ)) → map shown (take n es) ≡ take n (map shown es)
take_shown zero es = refl
take_shown (suc n) [] = refl
take_shown (suc n) (e ∷ es) = ap (λ l. shown e ∷ l) (take_shown n es)

pub none_there : {X : Type 0} (o : Option X) → is_some o ≡ false → o ≡ None
none_there None h = refl
none_there (Some x) h = absurd (true_false h)

-- A vector whose bytes are new is appended.
pub added_shown : {S : Type 0} (m : IndexMap (Vec ℕ Global) ℕ S) (new : List (Vec ℕ Global × ℕ)) (owned : Vec ℕ Global) (name : List ℕ) (value : ℕ) → owned.items ≡ name
    → lookup (bytes_eq name) (map shown m.entries) ≡ None
    → new ≡ insert_entry (λ x y. bytes_eq x.items y.items) m.entries owned value
    → map shown new ≡ with_first bytes_eq (map shown m.entries) (name, value)
added_shown m new owned name value is absent e =
    let missed : lookup (λ k. bytes_eq owned.items k.items) m.entries ≡ None = ap (λ n. lookup (λ k. bytes_eq n k.items) m.entries) is ∙ (sym (lookup_shown (bytes_eq name) m.entries) ∙ absent) in
    let pushed = ap (map shown) (e ∙ insert_entry-new (λ x y. bytes_eq x.items y.items) m owned value missed) ∙ map-append shown m.entries ((owned, value) ∷ []) in
    rw absent (pushed ∙ ap (λ n. map shown m.entries ++ (n, value) ∷ []) is)

-- ---- a map by number

-- A number that is new is appended.
pub added_number : {S : Type 0} (m : IndexMap ℕ ℕ S) (new : List (ℕ × ℕ)) (key value : ℕ) → is_some (lookup (nat_eq key) m.entries) ≡ false → new ≡ insert_entry nat_eq m.entries key value → new ≡ with_first nat_eq m.entries (key, value)
added_number m new key value absent e = rw absent (e ∙ insert_entry-new nat_eq m key value (none_there _ absent))

pub same_number : (es : List (ℕ × ℕ)) (key value : ℕ) → is_some (lookup (nat_eq key) es) ≡ true → es ≡ with_first nat_eq es (key, value)
same_number es key value there = rw there refl
