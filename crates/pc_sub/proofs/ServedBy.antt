-- Which entities have a method for a declared one, by the groups that serve for it.
use Rattle.std.specs.Prelude.{◌≡◌, ◌⊎◌, ◌↔◌, ℕ, ◌+◌, ◌<◌, ◌≤◌, List, [], length, Some, get_or, slice_get}
use Rattle.std.proofs.{Common.{inl, inr, sym, ap, subst, ◌∙◌, arith}, lemmas.Option.{same_Some, get_or_from_slice_get, slice_get-get_or}}
use Rattle.pc_base.specs.Lists.{Each, Has}
use Rattle.pc_base.proofs.Gets.{get_below}
use Rattle.pc_core.specs.{declared.declarations.Method.Method, CoreData.CoreData, Entities.HasFor, Formed.Formed}
use Rattle.pc_sub.specs.{declared.groups.Groups.Groups, Alike.Alike, Groups.{GroupServes, Grouped, HasAlike, InGroup, IsGroup, Serves, ServesBy, first_of}}
use Rattle.pc_sub.proofs.{Grouping.{first_within, split}, StandsAlike.{alike_back, alike_stands}}

-- The entity has a method of one of the first n of these groups, and it serves.
abbrev pub ServesTo : CoreData → Groups → Method → List ℕ → ℕ → ℕ → Type 0
ServesTo core g t ks n e = (i : ℕ) × (k : ℕ) × (i < n) × (slice_get ks i ≡ Some k) × ServesBy core g t k e

pub serves_none : (core : CoreData) (g : Groups) (t : Method) (ks : List ℕ) (e : ℕ) → ServesTo core g t ks 0 e → ⊥
serves_none core g t ks e s = let l = s.2 in absurd (omega (arith, l))

-- One more group.
pub serves_next : (core : CoreData) (g : Groups) (t : Method) (ks : List ℕ) (n k e : ℕ) → slice_get ks n ≡ Some k → (ServesTo core g t ks (n + 1) e) ↔ (ServesBy core g t k e ⊎ ServesTo core g t ks n e)
serves_next core g t ks n k e at = (
  λ s. elim (split s.0 n s.2) [
    | inl less ↦ inr (s.0, s.1, less, s.3, s.4)
    | inr last ↦ inl (subst (λ j. ServesBy core g t j e) (same_Some s.1 k (sym s.3 ∙ ap (slice_get ks) last ∙ at)) s.4)
  ],
  λ s. elim s [
    | inl own ↦ (n, k, omega arith, at, own)
    | inr less ↦ let l = less.2 in (less.0, less.1, omega (arith, l), less.3, less.4)
  ],
)

-- One turn of a loop over the groups.
pub serves_turn : (core : CoreData) (g : Groups) (t : Method) (items ks : List ℕ) (n : ℕ) (Old New : ℕ → Type 0) → items ≡ ks → n < length items → ((e : ℕ) → (Old e) ↔ (ServesTo core g t ks n e)) → ((e : ℕ) → (New e) ↔ (ServesBy core g t (get_or items n 0) e ⊎ Old e)) → (e : ℕ) → (New e) ↔ (ServesTo core g t ks (n + 1) e)
serves_turn core g t items ks n Old New same low old new e =
    let at : slice_get ks n ≡ Some (get_or items n 0) = ap (λ xs. slice_get xs n) (sym same) ∙ slice_get-get_or items n 0 low in
    let next = serves_next core g t ks n (get_or items n 0) e at in (
      λ h. next.1 (elim ((new e).0 h) [ inl own ↦ inl own | inr before ↦ inr ((old e).0 before) ]),
      λ h. (new e).1 (elim (next.0 h) [ inl own ↦ inl own | inr less ↦ inr ((old e).1 less) ]),
    )

-- A group that serves, and what is put into a set then.
pub serves_then : (core : CoreData) (g : Groups) (t : Method) (k e : ℕ) (es : List ℕ) (y : Method) (New Old : Type 0) → IsGroup core g k y es → Serves core t y → New ↔ (Has es e ⊎ Old) → New ↔ (ServesBy core g t k e ⊎ Old)
serves_then core g t k e es y New Old group serves new = (
  λ h. elim (new.0 h) [ inl has ↦ inl (y, es, group, serves, has) | inr old ↦ inr old ],
  λ h. new.1 (elim h [
    | inl s ↦ inl (subst (λ xs. Has xs e) (same_Some s.1 es (sym s.2.1 ∙ group.1)) s.4)
    | inr old ↦ inr old
  ]),
)

module _ (core : CoreData) (g : Groups) (t : Method) (grouped : Grouped core (length core.methods) g) where
  -- A method of a group that serves.
  by_has : (k e : ℕ) → ServesBy core g t k e → HasFor core e t
  by_has k e s =
      let h : HasAlike core e s.0 = grouped.sound k s.0 s.1 s.2 s.4.0 e s.4.1 in
      let a : Alike s.0 h.1 = h.4 in
      (h.0, h.1, (h.1, h.2, h.3, a.head.0 ∙ s.3.0.0), h.2, a.head.1 ∙ s.3.0.1, alike_stands core t s.0 h.1 a s.3.1)

  -- The group of a method that serves.
  has_by : (e : ℕ) → HasFor core e t → (k : ℕ) × Has (get_or g.named t.name []) k × ServesBy core g t k e
  has_by e h =
      let m = h.2 in
      let own : m.0 ≡ h.1 = same_Some m.0 h.1 (sym m.1 ∙ h.3) in
      let entity : h.1.entity ≡ e = ap (λ (z : Method). z.entity) (sym own) ∙ m.2 in
      let name : h.1.name ≡ t.name = ap (λ (z : Method). z.name) (sym own) ∙ m.3 in
      let w : InGroup core g h.1 = grouped.complete h.0 h.1 (get_below core.methods h.0 h.1 h.3) h.3 in
      let among : get_or g.named t.name [] ≡ w.same_name = get_or_from_slice_get g.named t.name w.same_name [] (subst (λ n. slice_get g.named n ≡ Some w.same_name) name w.named) in
      let a : Alike w.first h.1 = w.alike in (
        w.group,
        subst (λ ks. Has ks w.group) (sym among) w.has_group,
        (w.first, w.entities, w.is_group, ((sym a.head.0 ∙ name, sym a.head.1 ∙ h.4), alike_stands core t h.1 w.first (alike_back w.first h.1 a) h.5), subst (Has w.entities) entity w.has_entity),
      )

  -- All groups of methods with that name were looked at.
  pub serves_all : (ks : List ℕ) (n e : ℕ) → ks ≡ get_or g.named t.name [] → length ks ≤ n → (ServesTo core g t ks n e) ↔ (HasFor core e t)
  serves_all ks n e all whole = (
    λ s. by_has s.1 e s.4,
    λ h. let r = has_by e h in
        let at = subst (λ zs. Has zs r.0) (sym all) r.1 in
        let low = get_below ks at.0 r.0 at.1 in
        (at.0, r.0, omega (arith, low, whole), at.1, r.2),
  )

  -- A group that serves has the list of its place.
  pub group_list : (k : ℕ) (fs es : List ℕ) → fs ≡ g.firsts → es ≡ get_or g.entities k [] → GroupServes core fs t k → (y : Method) × (IsGroup core g k y es) × Serves core t y
  group_list k fs es same list s =
      let first : first_of core g.firsts k ≡ Some s.0 = ap (λ (xs : List ℕ). first_of core xs k) (sym same) ∙ s.1 in
      let low = first_within core g.firsts k s.0 first in
      let many = grouped.as_many in
      let there : k < length g.entities = omega (arith, low, many) in
      (s.0, (first, slice_get-get_or g.entities k [] there ∙ ap Some (sym list)), s.2)

  -- The entities of a group are some of the core's.
  pub group_within : (k : ℕ) (y : Method) (es : List ℕ) → Formed core → IsGroup core g k y es → Each (λ i e. e < length core.entities) es
  group_within k y es formed is i e at =
      let h = grouped.sound k y es is i e at in
      let f = formed.methods h.0 h.1 h.2 in
      subst (λ n. n < length core.entities) h.3 (get_below core.entities h.1.entity f.owner f.is_owner)
