-- The passes over names after the declarations: numbers of methods, `Main`, and cycles.
use Rattle.std.proofs.{Common.{◌≡◌, ℕ, zero, suc, ◌+◌, ◌<◌, List, [], ◌∷◌, ◌++◌, map, Some, Bool, true, false, refl, sym, ap, ◌∙◌, inl, inr, ⊎_elim, arith, if◌then◌else◌}, lemmas.Bool.ltb-true, lemmas.Option.{same_Some, none-some}}
use Rattle.std.specs.{Prelude.{◌⊎◌, slice_get, nat_lt, codes}, Str.bytes_eq}
use Rattle.pc_base.specs.{Lists.{Has, Text}, Limits.method_limit}
use Rattle.pc_base.proofs.Bools.{true_false, false_true}
use Rattle.pc_tree.specs.Tree as t
use Rattle.pc_names.specs.{declared.fault.NameFault.NameFault, Faults.{count_faults, main_faults}, Parts.{method_count, where_}, Mains.is_main, Laws.fault_start}
use Rattle.pc_names.specs.declared.fault.NameFault.TheVariants as fault
use Rattle.pc_names.specs.declared.fault.Which.TheVariants as which
use Rattle.pc_members.specs.Members.{texts_of}
use Rattle.pc_members.proofs.Differences.{same_text, equal_texts}
use Rattle.pc_body_spec.proofs.Places.{Sub, none, skip, take}
use Rattle.pc_name_laws.specs.{Declared.HasBefore, Turns.{methods_to, IsCountFault, IsMainFault}}
use Rattle.pc_name_laws.proofs.{Lists.{Lists, lists_none, lists_one, lists_both, lists_turned, lists_where, Tests}, Orders.entity_start, Firsts.Heads}

-- ---- counts

none_counted : (all es : List t.Entity) → methods_to all es 0 ≡ 0
none_counted all [] = refl
none_counted all (e ∷ es) = refl

-- After n methods.
abbrev Counted : List t.Entity → ℕ → List t.Entity → NameFault → Type 0
Counted all n es f = (i : ℕ) × (e : t.Entity) × (slice_get es i ≡ Some e) × (method_limit < n + methods_to all es (suc i)) × (f ≡ fault.TooMany which.Methods e.name.span)

tests_less : (a b : ℕ) → Tests (nat_lt a b) (a < b)
tests_less a b = by (nat_lt a b) refl
  where
    less : a < b → nat_lt a b ≡ true
    less l = search (arith, l)

    by : (c : Bool) → nat_lt a b ≡ c → Tests c (a < b)
    by true e = ltb-true a b e
    by false e = λ l. false_true (sym e ∙ less l)

counts_list : (all : List t.Entity) (n : ℕ) (es : List t.Entity) → Lists (count_faults all n es) (Counted all n es)
counts_list all n [] = lists_turned [] (λ f. ⊥) (Counted all n []) (λ f a. absurd a) (λ f a. none-some a.1 a.2) lists_none
counts_list all n (e ∷ es) =
    let m = method_count all e in
    lists_turned (where_ (nat_lt method_limit (n + m)) (fault.TooMany which.Methods e.name.span) ++ count_faults all (n + m) es)
    (λ f. ((f ≡ fault.TooMany which.Methods e.name.span) × (method_limit < n + m)) ⊎ Counted all (n + m) es f) (Counted all n (e ∷ es)) (λ f a. ⊎_elim (here f) (later f) a) (λ f a. back f a.0 a.1 a.2 a.3 a.4)
    (lists_both (where_ (nat_lt method_limit (n + m)) (fault.TooMany which.Methods e.name.span)) (count_faults all (n + m) es) (λ f. (f ≡ fault.TooMany which.Methods e.name.span) × (method_limit < n + m)) (Counted all (n + m) es)
    (lists_where (nat_lt method_limit (n + m)) (fault.TooMany which.Methods e.name.span) (method_limit < n + m) (tests_less method_limit (n + m))) (counts_list all (n + m) es))
  where
    here : (f : NameFault) → (f ≡ fault.TooMany which.Methods e.name.span) × (method_limit < n + method_count all e) → Counted all n (e ∷ es) f
    here f a = let z = none_counted all es in let b = a.1 in (0, e, refl, omega (arith, z, b), a.0)

    later : (f : NameFault) → Counted all (n + method_count all e) es f → Counted all n (e ∷ es) f
    later f a = let b = a.3 in (suc a.0, a.1, a.2, omega (arith, b), a.4)

    back : (f : NameFault) (i : ℕ) (d : t.Entity) → slice_get (e ∷ es) i ≡ Some d → method_limit < n + methods_to all (e ∷ es) (suc i) → f ≡ fault.TooMany which.Methods d.name.span
        → ((f ≡ fault.TooMany which.Methods e.name.span) × (method_limit < n + method_count all e)) ⊎ Counted all (n + method_count all e) es f
    back f zero d at b is = let z = none_counted all es in inl (is ∙ ap (λ (x : t.Entity). fault.TooMany which.Methods x.name.span) (sym (same_Some e d at)), omega (arith, z, b))
    back f (suc i) d at b is = inr (i, d, at, omega (arith, b), is)

pub counts_at : (all : List t.Entity) (n : ℕ) (es : List t.Entity) → Sub fault_start (count_faults all n es) (map entity_start es)
counts_at all n [] = none
counts_at all n (e ∷ es) = by (nat_lt method_limit (n + method_count all e)) (counts_at all (n + method_count all e) es)
  where
    by : (b : Bool) → Sub fault_start (count_faults all (n + method_count all e) es) (map entity_start es) → Sub fault_start (where_ b (fault.TooMany which.Methods e.name.span) ++ count_faults all (n + method_count all e) es) (map entity_start (e ∷ es))
    by true s = take (fault.TooMany which.Methods e.name.span) (count_faults all (n + method_count all e) es) (map entity_start es) s
    by false s = skip (count_faults all (n + method_count all e) es) (entity_start e) (map entity_start es) s

pub file_counts : (file : t.File) → Lists (count_faults file.entities 0 file.entities) (IsCountFault file)
file_counts file =
    let es = file.entities in
    lists_turned (count_faults es 0 es) (Counted es 0 es) (IsCountFault file)
    (λ f a. let b = a.3 in (a.0, a.1, a.2, omega (arith, b), a.4))
    (λ f a. let b = a.3 in (a.0, a.1, a.2, omega (arith, b), a.4))
    (counts_list es 0 es)

-- ---- Main

abbrev MainCase : List t.Entity → NameFault → Type 0
MainCase es f =
    ((f ≡ fault.NoMain) × (Has (texts_of es) (codes "Main") → ⊥))
    ⊎ ((i : ℕ) × (e : t.Entity) × (f ≡ fault.BadMain e.name.span) × (slice_get es i ≡ Some e) × (e.name.text ≡ codes "Main") × (HasBefore (texts_of es) i (codes "Main") → ⊥) × (is_main e ≡ false))

abbrev if_main : t.Entity → Bool → List NameFault
if_main e b = if b then [] else fault.BadMain e.name.span ∷ []

main_here : (e : t.Entity) (es : List t.Entity) (b : Bool) → e.name.text ≡ codes "Main" → is_main e ≡ b → Lists (if_main e b) (MainCase (e ∷ es))
main_here e es b named is = by b is
  where
    main : Text
    main = codes "Main"

    has : Has (e.name.text ∷ texts_of es) (codes "Main")
    has = (0, ap (λ (x : Text). Some x) named)

    -- Only the first entity matters.
    only : (c : Bool) → is_main e ≡ c → (f : NameFault) → MainCase (e ∷ es) f → (f ≡ fault.BadMain e.name.span) × (c ≡ false)
    only c k f (inl a) = absurd (a.1 has)
    only c k f (inr a) = at c k f a.0 a.1 a.2 a.3 a.5 a.6
      where
        at : (c : Bool) → is_main e ≡ c → (f : NameFault) (i : ℕ) (d : t.Entity) → f ≡ fault.BadMain d.name.span → slice_get (e ∷ es) i ≡ Some d → (HasBefore (e.name.text ∷ texts_of es) i (codes "Main") → ⊥) → is_main d ≡ false → (f ≡ fault.BadMain e.name.span) × (c ≡ false)
        at c k f zero d g h before bad =
            let same : e ≡ d = same_Some e d h in
            (g ∙ ap (λ (x : t.Entity). fault.BadMain x.name.span) (sym same), sym k ∙ ap is_main same ∙ bad)
        at c k f (suc i) d g h before bad = absurd (before (0, omega arith, ap (λ (x : Text). Some x) named))

    by : (c : Bool) → is_main e ≡ c → Lists (if_main e c) (MainCase (e ∷ es))
    by true k = lists_turned [] (λ f. ⊥) (MainCase (e ∷ es)) (λ f a. absurd a) (λ f a. true_false (only true k f a).1) lists_none
    by false k =
        lists_turned (fault.BadMain e.name.span ∷ []) (λ f. f ≡ fault.BadMain e.name.span) (MainCase (e ∷ es))
        (λ f a. inr (0, e, a, refl, named, (λ h. let l = h.1 in absurd (omega (arith, l))), k)) (λ f a. (only false k f a).0) (lists_one (fault.BadMain e.name.span))

main_later : (e : t.Entity) (es : List t.Entity) → bytes_eq e.name.text (codes "Main") ≡ false → Lists (main_faults es) (MainCase es) → Lists (main_faults es) (MainCase (e ∷ es))
main_later e es other h = lists_turned (main_faults es) (MainCase es) (MainCase (e ∷ es)) there back h
  where
    differs : e.name.text ≡ codes "Main" → ⊥
    differs s = true_false (sym (same_text (codes "Main")) ∙ ap (λ (x : Text). bytes_eq x (codes "Main")) (sym s) ∙ other)

    behind : (i : ℕ) → slice_get (e.name.text ∷ texts_of es) i ≡ Some (codes "Main") → (j : ℕ) × (i ≡ suc j) × (slice_get (texts_of es) j ≡ Some (codes "Main"))
    behind zero s = absurd (differs (same_Some e.name.text (codes "Main") s))
    behind (suc j) s = (j, refl, s)

    there : (f : NameFault) → MainCase es f → MainCase (e ∷ es) f
    there f (inl a) = inl (a.0, λ has. let b = behind has.0 has.1 in a.1 (b.0, b.2))
    there f (inr a) = inr (suc a.0, a.1, a.2, a.3, a.4, (λ has. let b = behind has.0 has.2 in let l = has.1 in let k = b.1 in a.5 (b.0, omega (arith, l, k), b.2)), a.6)

    at : (f : NameFault) (i : ℕ) (d : t.Entity) → f ≡ fault.BadMain d.name.span → slice_get (e ∷ es) i ≡ Some d → d.name.text ≡ codes "Main" → (HasBefore (e.name.text ∷ texts_of es) i (codes "Main") → ⊥) → is_main d ≡ false → MainCase es f
    at f zero d g s named before bad = absurd (differs (ap (λ (x : t.Entity). x.name.text) (same_Some e d s) ∙ named))
    at f (suc i) d g s named before bad = inr (i, d, g, s, named, (λ has. let l = has.1 in before (suc has.0, omega (arith, l), has.2)), bad)

    back : (f : NameFault) → MainCase (e ∷ es) f → MainCase es f
    back f (inl a) = inl (a.0, λ has. a.1 (suc has.0, has.1))
    back f (inr a) = at f a.0 a.1 a.2 a.3 a.4 a.5 a.6

mains_list : (es : List t.Entity) → Lists (main_faults es) (MainCase es)
mains_list [] =
    lists_turned (fault.NoMain ∷ []) (λ f. f ≡ fault.NoMain) (MainCase []) (λ f a. inl (a, λ has. none-some (codes "Main") has.1)) (λ f a. ⊎_elim (λ b. b.0) (λ b. absurd (none-some b.1 b.3)) a) (lists_one fault.NoMain)
mains_list (e ∷ es) = by (bytes_eq e.name.text (codes "Main")) refl (mains_list es)
  where
    by : (b : Bool) → bytes_eq e.name.text (codes "Main") ≡ b → Lists (main_faults es) (MainCase es) → Lists (if b then if_main e (is_main e) else main_faults es) (MainCase (e ∷ es))
    by true s h = main_here e es (is_main e) (equal_texts e.name.text (codes "Main") s) refl
    by false s h = main_later e es s h

pub file_mains : (file : t.File) → Lists (main_faults file.entities) (IsMainFault file)
file_mains file = mains_list file.entities

-- There is at most one fault of `Main`.
pub one_main : (es : List t.Entity) (f g : NameFault) → Heads (main_faults es) f → Has (main_faults es) g → f ≡ g
one_main [] f g h has = one_of fault.NoMain has.0 h has.1
  where
    one_of : (x : NameFault) (i : ℕ) → Some x ≡ Some f → slice_get (x ∷ []) i ≡ Some g → f ≡ g
    one_of x zero h s = same_Some f g (sym h ∙ s)
    one_of x (suc i) h s = absurd (none-some g s)
one_main (e ∷ es) f g h has = by (bytes_eq e.name.text (codes "Main")) (is_main e) (one_main es f g) h has
  where
    one_of : (x : NameFault) (i : ℕ) → Some x ≡ Some f → slice_get (x ∷ []) i ≡ Some g → f ≡ g
    one_of x zero k s = same_Some f g (sym k ∙ s)
    one_of x (suc i) k s = absurd (none-some g s)

    by : (a b : Bool) → (Heads (main_faults es) f → Has (main_faults es) g → f ≡ g) → Heads (if a then if_main e b else main_faults es) f → Has (if a then if_main e b else main_faults es) g → f ≡ g
    by true true rest k s = absurd (none-some f k)
    by true false rest k s = one_of (fault.BadMain e.name.span) s.0 k s.1
    by false b rest k s = rest k s
