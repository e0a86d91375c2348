-- A list of texts, each at its first appearance.
use Rattle.std.proofs.{Common.{◌≡◌, ◌<◌, List, [], ◌∷◌, ◌++◌, Bool, true, false, refl, sym, ap, ◌∙◌, subst, arith, if◌then◌else◌, inl, inr, append_assoc, append-nil}, lemmas.Option.none-some}
use Rattle.std.specs.Prelude.{codes}
use Rattle.pc_base.specs.Lists.{Has, Text}
use Rattle.pc_base.proofs.{Bools.true_false, Elements.{has_front, has_behind, has_either}, Gets.{get_below, get_front, get_push, append_get}}
use Rattle.pc_tree.specs.Tree as t
use Rattle.pc_members.specs.{MemberLists.{is_among, with_name, with_names}, Members.{field_texts, method_texts}}
use Rattle.pc_members.proofs.{Tables.names_in_parts, Differences.{among_has, has_among}}
use Rattle.pc_names.specs.Faults.{with_members}
use Rattle.pc_body_spec.specs.Slots.{entities_texts}
use Rattle.pc_file_spec.specs.Cores.{texts_of_file}
use Rattle.pc_core_relation.specs.{Files.{needed_texts, AppearsBefore, AreFirsts}, Parts.declared_texts}
use Rattle.pc_core_relation.proofs.Lists.{only_one, one_order}

-- ---- a list that grows

before_front : (all more : List Text) (x y : Text) → AppearsBefore all x y → AppearsBefore (all ++ more) x y
before_front all more x y b = (
  b.0,
  get_front all more b.0 x b.1,
  λ q h. elim (append_get all more q y h) [
    | inl old ↦ b.2 q old
    | inr new ↦ let l = get_below all b.0 x b.1 in let m = new.0 in omega (arith, l, m)
  ],
)

-- A text that is there already.
kept : (all names : List Text) (x : Text) → AreFirsts all names → Has names x → AreFirsts (all ++ x ∷ []) names
kept all names x f there = record {
  same = λ y. (λ (h : Has names y). has_front all (x ∷ []) y ((f.same y).0 h), λ (h : Has (all ++ x ∷ []) y). elim (has_either all (x ∷ []) y h) [ inl a ↦ (f.same y).1 a | inr b ↦ subst (Has names) (only_one x y b) there ]);
  order = λ i j y z l h g. before_front all (x ∷ []) y z (f.order i j y z l h g);
}

-- A text that is new.
pushed : (all names : List Text) (x : Text) → AreFirsts all names → (Has names x → ⊥) → AreFirsts (all ++ x ∷ []) (names ++ x ∷ [])
pushed all names x f fresh = record {
  same = λ y. (
    λ (h : Has (names ++ x ∷ []) y). elim (has_either names (x ∷ []) y h) [ inl a ↦ has_front all (x ∷ []) y ((f.same y).0 a) | inr b ↦ has_behind all (x ∷ []) y b ],
    λ (h : Has (all ++ x ∷ []) y). elim (has_either all (x ∷ []) y h) [ inl a ↦ has_front names (x ∷ []) y ((f.same y).1 a) | inr b ↦ has_behind names (x ∷ []) y b ],
  );
  order = λ i j y z l h g. elim (get_push names x i y h) [
    | inl a ↦ elim (get_push names x j z g) [
      | inl b ↦ before_front all (x ∷ []) y z (f.order i j y z l a b)
      | inr b ↦ subst (AppearsBefore (all ++ x ∷ []) y) b.1 (last y (i, a))
    ]
    | inr a ↦ elim (get_push names x j z g) [
      | inl b ↦ let k = get_below names j z b in let e = a.0 in absurd (omega (arith, k, e, l))
      | inr b ↦ let e = a.0 in let k = b.0 in absurd (omega (arith, e, k, l))
    ]
  ];
}
  where
    last : (y : Text) → Has names y → AppearsBefore (all ++ x ∷ []) y x
    last y h =
        let there = (f.same y).0 h in
        let low = get_below all there.0 y there.1 in (
          there.0,
          get_front all (x ∷ []) there.0 y there.1,
          λ q g. elim (append_get all (x ∷ []) q x g) [
            | inl old ↦ absurd (fresh ((f.same x).1 (q, old)))
            | inr new ↦ let m = new.0 in omega (arith, low, m)
          ],
        )

one_more : (all names : List Text) (x : Text) → AreFirsts all names → AreFirsts (all ++ x ∷ []) (with_name names x)
one_more all names x f = by (is_among x names) refl
  where
    by : (b : Bool) → is_among x names ≡ b → AreFirsts (all ++ x ∷ []) (if b then names else names ++ x ∷ [])
    by true e = kept all names x f (among_has x names e)
    by false e = pushed all names x f (λ h. true_false (sym (has_among x names h) ∙ e))

firsts_behind : (xs all names : List Text) → AreFirsts all names → AreFirsts (all ++ xs) (with_names names xs)
firsts_behind [] all names f = subst (λ ys. AreFirsts ys names) (sym (append-nil all)) f
firsts_behind (x ∷ xs) all names f = subst (λ ys. AreFirsts ys (with_names (with_name names x) xs)) (append_assoc all (x ∷ []) xs) (firsts_behind xs (all ++ x ∷ []) (with_name names x) (one_more all names x f))

firsts_of : (xs : List Text) → AreFirsts xs (with_names [] xs)
firsts_of xs = firsts_behind xs [] [] (record { same = λ y. (λ (h : Has [] y). h, λ (h : Has [] y). h); order = λ i j x y l h g. absurd (none-some x h) })

-- ---- there is only one such list

firsts_one : (all one other : List Text) → AreFirsts all one → AreFirsts all other → one ≡ other
firsts_one all one other a b = one_order (AppearsBefore all) not_both one other a.order b.order (λ x h. (b.same x).1 ((a.same x).0 h)) (λ x h. (a.same x).1 ((b.same x).0 h))
  where
    not_both : (x y : Text) → AppearsBefore all x y → AppearsBefore all y x → ⊥
    not_both x y a b = let l : a.0 < b.0 = a.2 b.0 b.1 in let m : b.0 < a.0 = b.2 a.0 a.1 in omega (arith, l, m)

-- ---- the texts of a file

declared_in : (es : List t.Entity) (names : List Text) → with_members names es ≡ with_names names (declared_texts es)
declared_in [] names = refl
declared_in (e ∷ es) names =
    declared_in es (with_names names (field_texts e.fields ++ method_texts e.methods)) ∙ sym (names_in_parts names (field_texts e.fields ++ method_texts e.methods) (declared_texts es))

texts_in : (file : t.File) → texts_of_file file ≡ with_names [] (needed_texts file)
texts_in file =
    let language : List Text = codes "out" ∷ codes "print" ∷ codes "create" ∷ codes "apply" ∷ [] in
    let declared = declared_texts file.entities in
    let behind = entities_texts file.entities in
    ap (λ ns. with_names ns behind) (declared_in file.entities (with_names [] language))
    ∙ sym (names_in_parts (with_names [] language) declared behind)
    ∙ sym (names_in_parts [] language (declared ++ behind))

pub texts_are_firsts : (file : t.File) → AreFirsts (needed_texts file) (texts_of_file file)
texts_are_firsts file = subst (AreFirsts (needed_texts file)) (sym (texts_in file)) (firsts_of (needed_texts file))

pub firsts_are_texts : (file : t.File) (names : List Text) → AreFirsts (needed_texts file) names → names ≡ texts_of_file file
firsts_are_texts file names h = firsts_one (needed_texts file) names (texts_of_file file) h (texts_are_firsts file)
