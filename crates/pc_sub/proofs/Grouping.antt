-- Methods that are put into groups, one by one.
use Rattle.std.specs.Prelude.{◌≡◌, ◌⊎◌, ℕ, zero, suc, ◌+◌, ◌<◌, List, [], ◌∷◌, ◌++◌, length, Option, Some, None, get_or, slice_get, slice_set, refl}
use Rattle.std.proofs.{Common.{inl, inr, sym, ap, subst, ◌∙◌, arith}, lemmas.Bool.cases_eq, lemmas.List.{length-set, length_push, set-set}, lemmas.Option.{same_Some, none-some, slice_get-get_or, get_or_from_slice_get}}
use Rattle.pc_base.specs.Lists.{◌>>=◌, Each, Has}
use Rattle.pc_base.proofs.{Gets.{get_below, get_behind, get_front, get_push, get_set, get_set_same, get_set_other}, Options.bind_some}
use Rattle.pc_core.specs.{declared.declarations.Method.Method, CoreData.CoreData}
use Rattle.pc_sub.specs.{Alike.Alike, Groups.{Grouped, HasAlike, InGroup, IsGroupOf, first_of}}

-- ---- lists

pub split : (m n : ℕ) → m < n + 1 → (m < n) ⊎ (m ≡ n)
split m zero l = inr (omega (arith, l))
split zero (suc n) l = inl (omega arith)
split (suc m) (suc n) l = let k : m < n + 1 = omega (arith, l) in elim (split m n k) [ inl a ↦ inl (omega (arith, a)) | inr b ↦ inr (ap suc b) ]

each_push : (P : ℕ → Type 0) (xs : List ℕ) (x : ℕ) → Each (λ i e. P e) xs → P x → Each (λ i e. P e) (xs ++ x ∷ [])
each_push P xs x each p i e g = elim (get_push xs x i e g) [ inl old ↦ each i e old | inr last ↦ subst P last.1 p ]

has_push : (xs : List ℕ) (x y : ℕ) → Has xs y → Has (xs ++ x ∷ []) y
has_push xs x y h = (h.0, get_front xs (x ∷ []) h.0 y h.1)

has_last : (xs : List ℕ) (x : ℕ) → Has (xs ++ x ∷ []) x
has_last xs x = (length xs, get_behind xs x [])

-- A list of lists in which the list at one place has one more number.
abbrev pub added : List (List ℕ) → ℕ → ℕ → List (List ℕ)
added lists k x = slice_set lists k (get_or lists k [] ++ x ∷ [])

-- What a place has, or the empty list.
pub list_none : (lists : List (List ℕ)) (i : ℕ) → slice_get lists i ≡ None → [] ≡ get_or lists i []
list_none [] i e = refl
list_none (xs ∷ lists) zero e = absurd (none-some xs (sym e))
list_none (xs ∷ lists) (suc i) e = list_none lists i e

pub list_some : (lists : List (List ℕ)) (i : ℕ) (xs : List ℕ) → slice_get lists i ≡ Some xs → xs ≡ get_or lists i []
list_some lists i xs e = sym (get_or_from_slice_get lists i xs [] e)

-- A list that was taken out and put back with one number more.
pub add_is : (lists out back : List (List ℕ)) (k x : ℕ) (empty old new : List ℕ) → slice_get lists k ≡ Some old → out ≡ slice_set lists k empty → new ≡ old ++ x ∷ [] → back ≡ slice_set out k new → back ≡ added lists k x
add_is lists out back k x empty old new at taken pushed put =
    put ∙ ap (λ ls. slice_set ls k new) taken ∙ set-set lists k empty new ∙ ap (slice_set lists k) (pushed ∙ ap (λ xs. xs ++ x ∷ []) (list_some lists k old at))

module _ (lists : List (List ℕ)) (k x : ℕ) (low : k < length lists) where
  added_here : slice_get (added lists k x) k ≡ Some (get_or lists k [] ++ x ∷ [])
  added_here = get_set_same lists k _ low

  -- A list that has a number still has it.
  added_has : (j : ℕ) (xs : List ℕ) (y : ℕ) → slice_get lists j ≡ Some xs → Has xs y → (ys : List ℕ) × (slice_get (added lists k x) j ≡ Some ys) × Has ys y
  added_has j xs y g h =
      elim (cases_eq j k) [
        | inl same ↦
            let own : get_or lists k [] ≡ xs = get_or_from_slice_get lists k xs [] (subst (λ n. slice_get lists n ≡ Some xs) same g) in
            (get_or lists k [] ++ x ∷ [], ap (slice_get (added lists k x)) same ∙ added_here, has_push _ x y (subst (λ zs. Has zs y) (sym own) h))
        | inr other ↦ (xs, get_set_other lists k _ j other ∙ g, h)
      ]

-- ---- groups

pub first_within : (core : CoreData) (firsts : List ℕ) (k : ℕ) (t : Method) → first_of core firsts k ≡ Some t → k < length firsts
first_within core firsts k t e = let b = bind_some (slice_get firsts k) _ t e in get_below firsts k b.0 b.1

first_front : (core : CoreData) (firsts : List ℕ) (n k : ℕ) (t : Method) → first_of core firsts k ≡ Some t → first_of core (firsts ++ n ∷ []) k ≡ Some t
first_front core firsts n k t e =
    let b = bind_some (slice_get firsts k) _ t e in
    ap (λ (o : Option ℕ). o >>= slice_get core.methods) (get_front firsts (n ∷ []) k b.0 b.1) ∙ b.2

first_behind : (core : CoreData) (firsts : List ℕ) (n : ℕ) (y : Method) → slice_get core.methods n ≡ Some y → first_of core (firsts ++ n ∷ []) (length firsts) ≡ Some y
first_behind core firsts n y e = ap (λ (o : Option ℕ). o >>= slice_get core.methods) (get_behind firsts n []) ∙ e

-- The first method of a group, if there is one more group.
first_push : (core : CoreData) (firsts : List ℕ) (n k : ℕ) (t : Method) → first_of core (firsts ++ n ∷ []) k ≡ Some t → (first_of core firsts k ≡ Some t) ⊎ ((k ≡ length firsts) × (slice_get core.methods n ≡ Some t))
first_push core firsts n k t e =
    let b = bind_some (slice_get (firsts ++ n ∷ []) k) _ t e in
    elim (get_push firsts n k b.0 b.1) [
      | inl old ↦ inl (ap (λ (o : Option ℕ). o >>= slice_get core.methods) old ∙ b.2)
      | inr last ↦ inr (last.0, ap (slice_get core.methods) last.1 ∙ b.2)
    ]

alike_itself : (y : Method) → Alike y y
alike_itself y = record { head = (refl, refl, refl); result = (refl, refl); params = refl }

pub grouped_none : (core : CoreData) (named : List (List ℕ)) → length named ≡ length core.names → Grouped core 0 (record { firsts = []; entities = []; named = named })
grouped_none core named names = record {
  few = omega arith;
  as_many = refl;
  names = names;
  sound = λ k t es is. absurd (none-some es is.1);
  complete = λ m y l at. absurd (omega (arith, l));
}

module _ (core : CoreData) (n : ℕ) (y : Method) (firsts : List ℕ) (entities named : List (List ℕ)) (at : slice_get core.methods n ≡ Some y) (g : Grouped core n (record { firsts = firsts; entities = entities; named = named })) where
  -- A method that joins a group.
  pub grouped_join : (k : ℕ) → Has (get_or named y.name []) k → y.name < length named → IsGroupOf core firsts y k → Grouped core (n + 1) (record { firsts = firsts; entities = added entities k y.entity; named = named })
  grouped_join k has low first =
      let count = g.as_many in
      let within = first_within core firsts k first.0 first.1 in
      let there : k < length entities = omega (arith, count, within) in
      let few = g.few in
      record {
        few = omega (arith, few);
        as_many = length-set entities k _ ∙ count;
        names = g.names;
        sound = λ j t es is. elim (get_set entities k _ j es is.1) [
          | inl here ↦
              let same : first.0 ≡ t = same_Some first.0 t (sym first.1 ∙ ap (first_of core firsts) (sym here.0) ∙ is.0) in
              subst (λ zs. Each (λ i e. HasAlike core e t) zs) (sym here.1)
              (each_push (λ e. HasAlike core e t) (get_or entities k []) y.entity
              (subst (λ (z : Method). Each (λ i e. HasAlike core e z) (get_or entities k [])) same (g.sound k first.0 (get_or entities k []) (first.1, slice_get-get_or entities k [] there)))
              (subst (λ (z : Method). HasAlike core y.entity z) same (n, y, at, refl, first.2)))
          | inr old ↦ g.sound j t es (is.0, old)
        ];
        complete = λ m z l is. elim (split m n l) [
          | inl less ↦
              let w = g.complete m z less is in
              let r = added_has entities k y.entity there w.group w.entities z.entity w.is_group.1 w.has_entity in
              record { group = w.group; first = w.first; entities = r.0; is_group = (w.is_group.0, r.1); alike = w.alike; has_entity = r.2; same_name = w.same_name; named = w.named; has_group = w.has_group }
          | inr last ↦
              let own : y ≡ z = same_Some y z (sym at ∙ ap (slice_get core.methods) (sym last) ∙ is) in
              subst (λ (x : Method). InGroup core (record { firsts = firsts; entities = added entities k y.entity; named = named }) x) own
              (record { group = k; first = first.0; entities = get_or entities k [] ++ y.entity ∷ []; is_group = (first.1, added_here entities k y.entity there); alike = first.2; has_entity = has_last _ y.entity; same_name = get_or named y.name []; named = slice_get-get_or named y.name [] low; has_group = has })
        ];
      }

  -- A method that begins a group.
  pub grouped_begin : (k : ℕ) → k ≡ length firsts → y.name < length named → Grouped core (n + 1) (record { firsts = firsts ++ n ∷ []; entities = entities ++ (y.entity ∷ []) ∷ []; named = added named y.name k })
  grouped_begin k is_last low =
      let count = g.as_many in
      let few = g.few in
      let more = length_push firsts n in
      let others = length_push entities (y.entity ∷ []) in
      record {
        few = omega (arith, few, more);
        as_many = omega (arith, more, others, count);
        names = length-set named y.name _ ∙ g.names;
        sound = λ j t es is. elim (first_push core firsts n j t is.0) [
          | inl old ↦ let l = first_within core firsts j t old in
              elim (get_push entities (y.entity ∷ []) j es is.1) [
                | inl before ↦ g.sound j t es (old, before)
                | inr last ↦ let e = last.0 in absurd (omega (arith, l, e, count))
              ]
          | inr last ↦
              let own : y ≡ t = same_Some y t (sym at ∙ last.1) in
              elim (get_push entities (y.entity ∷ []) j es is.1) [
                | inl before ↦ let l = get_below entities j es before in let e = last.0 in absurd (omega (arith, l, e, count))
                | inr one ↦ subst (λ zs. Each (λ i e. HasAlike core e t) zs) one.1
                    (each_push (λ e. HasAlike core e t) [] y.entity (λ i e f. absurd (none-some e f)) (n, y, at, refl, subst (λ (z : Method). Alike z y) own (alike_itself y)))
              ]
        ];
        complete = λ m z l is. elim (split m n l) [
          | inl less ↦
              let w = g.complete m z less is in
              let r = added_has named y.name k low z.name w.same_name w.group w.named w.has_group in
              record {
                group = w.group;
                first = w.first;
                entities = w.entities;
                is_group = (first_front core firsts n w.group w.first w.is_group.0, get_front entities _ w.group w.entities w.is_group.1);
                alike = w.alike;
                has_entity = w.has_entity;
                same_name = r.0;
                named = r.1;
                has_group = r.2;
              }
          | inr last ↦
              let own : y ≡ z = same_Some y z (sym at ∙ ap (slice_get core.methods) (sym last) ∙ is) in
              let place : length entities ≡ k = count ∙ sym is_last in
              subst (λ (x : Method). InGroup core (record { firsts = firsts ++ n ∷ []; entities = entities ++ (y.entity ∷ []) ∷ []; named = added named y.name k }) x) own
              (record {
                group = k;
                first = y;
                entities = y.entity ∷ [];
                is_group = (ap (first_of core (firsts ++ n ∷ [])) is_last ∙ first_behind core firsts n y at, ap (slice_get (entities ++ (y.entity ∷ []) ∷ [])) (sym place) ∙ get_behind entities (y.entity ∷ []) []);
                alike = alike_itself y;
                has_entity = (0, refl);
                same_name = get_or named y.name [] ++ k ∷ [];
                named = added_here named y.name k low;
                has_group = has_last _ k;
              })
        ];
      }

  -- The same of lists that are those.
  pub join_as : (k : ℕ) (es : List (List ℕ)) → Has (get_or named y.name []) k → y.name < length named → IsGroupOf core firsts y k → es ≡ added entities k y.entity → Grouped core (n + 1) (record { firsts = firsts; entities = es; named = named })
  join_as k es has low first same = subst (λ (ls : List (List ℕ)). Grouped core (n + 1) (record { firsts = firsts; entities = ls; named = named })) (sym same) (grouped_join k has low first)

  pub begin_as : (k : ℕ) (fs none one : List ℕ) (es ns : List (List ℕ)) → k ≡ length firsts → y.name < length named → none ≡ [] → one ≡ none ++ y.entity ∷ [] → fs ≡ firsts ++ n ∷ [] → es ≡ entities ++ one ∷ [] → ns ≡ added named y.name k → Grouped core (n + 1) (record { firsts = fs; entities = es; named = ns })
  begin_as k fs none one es ns is_last low empty single f e s =
      let own : one ≡ y.entity ∷ [] = single ∙ ap (λ zs. zs ++ y.entity ∷ []) empty in
      let more : es ≡ entities ++ (y.entity ∷ []) ∷ [] = e ∙ ap (λ zs. entities ++ zs ∷ []) own in
      subst (λ (zs : List ℕ). Grouped core (n + 1) (record { firsts = zs; entities = es; named = ns })) (sym f)
      (subst (λ (zs : List (List ℕ)). Grouped core (n + 1) (record { firsts = firsts ++ n ∷ []; entities = zs; named = ns })) (sym more)
      (subst (λ (zs : List (List ℕ)). Grouped core (n + 1) (record { firsts = firsts ++ n ∷ []; entities = entities ++ (y.entity ∷ []) ∷ []; named = zs })) (sym s) (grouped_begin k is_last low)))

pub none_as : (core : CoreData) (fs : List ℕ) (es ns : List (List ℕ)) → fs ≡ [] → es ≡ [] → length ns ≡ length core.names → Grouped core 0 (record { firsts = fs; entities = es; named = ns })
none_as core fs es ns f e names =
    subst (λ (zs : List ℕ). Grouped core 0 (record { firsts = zs; entities = es; named = ns })) (sym f)
    (subst (λ (zs : List (List ℕ)). Grouped core 0 (record { firsts = []; entities = zs; named = ns })) (sym e) (grouped_none core ns names))
