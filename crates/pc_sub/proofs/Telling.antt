-- A table of what conforms to what, as it is narrowed group by group.
use Rattle.std.specs.Prelude.{◌≡◌, ◌⊎◌, ◌↔◌, ℕ, ◌+◌, ◌-◌, ◌<◌, ◌≤◌, List, length, Some, None, slice_get, slice_set, refl}
use Rattle.std.proofs.{Common.{inl, inr, sym, ap, subst, ◌∙◌, arith}, lemmas.Bool.cases_eq, lemmas.List.length-set, lemmas.Option.{same_Some, none-some}}
use Rattle.pc_masks.specs.declared.mask.Mask.{Mask}
use Rattle.pc_base.specs.Lists.{Each, Has}
use Rattle.pc_base.proofs.Gets.{get_below, get_range, get_set_same, get_set_other, range_get}
use Rattle.pc_core.specs.{declared.declarations.EntityDef.EntityDef, declared.declarations.Method.Method, CoreData.CoreData, Conforming.TellsConforming, Entities.{Conforms, HasFor}, Further.IsAbstract, EntitySets.{Holds, IsSetOf}, Formed.Formed, Members.method_among}
use Rattle.pc_sub.specs.{declared.groups.Groups.Groups, Alike.Alike, Groups.{Grouped, HasAlike, InGroup, IsGroup, first_of}, Tables.{HasForGroups, Kept, TellsGroups}}
use Rattle.pc_sub.proofs.{Grouping.{first_within, split}, Looked.{HasTo, has_more, has_next}, StandsAlike.{alike_back, has_alike}}

-- ---- sets that keep what another has

pub kept_none : (R : ℕ → Type 0) (other : List Mask) (sets : List (List Mask)) → ((b : ℕ) → R b → ⊥) → Kept R other sets sets
kept_none R other sets never = record { long = refl; each = λ b set g. (set, g, λ e. (λ h. (h, λ r. absurd (never b r)), λ h. h.0)) }

pub kept_past : (other : List Mask) (sets : List (List Mask)) (place : ℕ) → slice_get sets place ≡ None → Kept (λ b. b ≡ place) other sets sets
kept_past other sets place none = record { long = refl; each = λ b set g. (set, g, λ e. (λ h. (h, λ r. absurd (none-some set (sym none ∙ ap (slice_get sets) (sym r) ∙ g))), λ h. h.0)) }

pub kept_at : (other was both : List Mask) (sets : List (List Mask)) (place : ℕ) → slice_get sets place ≡ Some was → ((e : ℕ) → (Holds both e) ↔ (Holds was e × Holds other e)) → Kept (λ b. b ≡ place) other sets (slice_set sets place both)
kept_at other was both sets place at met = record {
  long = length-set sets place both;
  each = λ b set g. elim (cases_eq b place) [
    | inl here ↦
        let own : both ≡ set = same_Some both set (sym (get_set_same sets place both (get_below sets place was at)) ∙ ap (slice_get (slice_set sets place both)) (sym here) ∙ g) in (
          was,
          ap (slice_get sets) here ∙ at,
          subst (λ (z : List Mask). (e : ℕ) → (Holds z e) ↔ (Holds was e × (b ≡ place → Holds other e))) own
              (λ e. (λ h. let k = (met e).0 h in (k.0, λ r. k.1), λ h. (met e).1 (h.0, h.1 here))),
        )
    | inr there ↦ (set, sym (get_set_other sets place both b there) ∙ g, λ e. (λ h. (h, λ r. absurd (there r)), λ h. h.0))
  ];
}

pub kept_then : (Q R S : ℕ → Type 0) (other : List Mask) (first second third : List (List Mask)) → ((b : ℕ) → Q b → R b ⊎ S b) → ((b : ℕ) → R b ⊎ S b → Q b) → Kept R other first second → Kept S other second third → Kept Q other first third
kept_then Q R S other first second third from to a b = record {
  long = b.long ∙ a.long;
  each = λ i set g.
      let late = b.each i set g in
      let early = a.each i late.0 late.1 in (
        early.0,
        early.1,
        λ e. (
          λ h. let k = (late.2 e).0 h in
              let m = (early.2 e).0 k.0 in
              (m.0, λ q. elim (from i q) [ inl r ↦ m.1 r | inr s ↦ k.1 s ]),
          λ h. (late.2 e).1 ((early.2 e).1 (h.0, λ r. h.1 (to i (inl r))), λ s. h.1 (to i (inr s))),
        ),
      );
}

-- One number more was looked at.
pub kept_next : (xs : List ℕ) (n x : ℕ) (other : List Mask) (first second third : List (List Mask)) → slice_get xs n ≡ Some x → Kept (λ b. HasTo xs n b) other first second → Kept (λ b. b ≡ x) other second third → Kept (λ b. HasTo xs (n + 1) b) other first third
kept_next xs n x other first second third at = kept_then (λ b. HasTo xs (n + 1) b) (λ b. HasTo xs n b) (λ b. b ≡ x) other first second third (λ b. has_next xs n x b at) (λ b. has_more xs n x b at)

-- The same property in other words.
pub kept_same : (R S : ℕ → Type 0) (other : List Mask) (old new : List (List Mask)) → ((b : ℕ) → R b → S b) → ((b : ℕ) → S b → R b) → Kept R other old new → Kept S other old new
kept_same R S other old new to from k = record {
  long = k.long;
  each = λ b set g.
      let w = k.each b set g in
      (w.0, w.1, λ e. (λ h. let p = (w.2 e).0 h in (p.0, λ s. p.1 (from b s)), λ h. (w.2 e).1 (h.0, λ r. h.1 (to b r))));
}

-- ---- what the sets tell

module _ (core : CoreData) (g : Groups) where
  pub tells_none : (sets : List (List Mask)) → length sets ≡ length core.entities → Each (λ b set. (e : ℕ) → e < length core.entities → Holds set e) sets → TellsGroups core g 0 sets
  tells_none sets long all = record { long = long; tells = λ b set at abstract e low. (λ h. λ k t es l is has. absurd (omega (arith, l)), λ h. all b set at e low) }

  -- A group without traits and interfaces says nothing about them.
  pub tells_skip : (n : ℕ) (sets : List (List Mask)) → ((b : ℕ) (t : Method) (es : List ℕ) → IsGroup core g n t es → Has es b → IsAbstract core b → ⊥) → TellsGroups core g n sets → TellsGroups core g (n + 1) sets
  tells_skip n sets never before = record {
    long = before.long;
    tells = λ b set at abstract e low.
        let k = before.tells b set at abstract e low in (
          λ h. λ j t es l is has. elim (split j n l) [
            | inl less ↦ k.0 h j t es less is has
            | inr last ↦ absurd (never b t es (ap (first_of core g.firsts) (sym last) ∙ is.0, ap (slice_get g.entities) (sym last) ∙ is.1) has abstract)
          ],
          λ all. k.1 (λ j t es l is has. let m : j < n + 1 = omega (arith, l) in all j t es m is has),
        );
  }

  pub tells_next : (n : ℕ) (t : Method) (es : List ℕ) (other : List Mask) (old new : List (List Mask)) → IsGroup core g n t es → IsSetOf core (λ e. HasFor core e t) other → Kept (λ b. Has es b) other old new → TellsGroups core g n old → TellsGroups core g (n + 1) new
  tells_next n t es other old new group has_for kept before = record {
    long = kept.long ∙ before.long;
    tells = λ b set at abstract e low.
        let was = kept.each b set at in
        let k = before.tells b was.0 was.1 abstract e low in (
          λ h. λ j s fs l is has. elim (split j n l) [
            | inl less ↦ k.0 ((was.2 e).0 h).0 j s fs less is has
            | inr last ↦
                let first : t ≡ s = same_Some t s (sym group.0 ∙ ap (first_of core g.firsts) (sym last) ∙ is.0) in
                let list : fs ≡ es = same_Some fs es (sym is.1 ∙ ap (slice_get g.entities) last ∙ group.1) in
                subst (HasFor core e) first ((has_for e low).0 (((was.2 e).0 h).1 (subst (λ zs. Has zs b) list has)))
          ],
          λ all. (was.2 e).1 (
            k.1 (λ j s fs l is has. let m : j < n + 1 = omega (arith, l) in all j s fs m is has),
            λ has. (has_for e low).1 (all n t es (omega arith) group has),
          ),
        );
  }

  module _ (formed : Formed core) (grouped : Grouped core (length core.methods) g) where
    -- Having a method for each method of an entity means having one for each of its groups.
    conforms_groups : (n b e : ℕ) → Conforms core e b → HasForGroups core g n b e
    conforms_groups n b e h k t es l is has =
        let own : HasAlike core b t = grouped.sound k t es is has.0 b has.1 in
        let a : Alike t own.1 = own.4 in
        let r = method_among core own.0 own.1 formed own.2 (get_below core.methods own.0 own.1 own.2) in
        let x : EntityDef = r.0 in
        let there : slice_get core.entities b ≡ Some x = ap (slice_get core.entities) (sym own.3) ∙ r.1 in
        let at = range_get core.methods x.first_method (x.first_method + x.methods) own.0 own.1 r.2 r.3 own.2 in
        has_alike core e own.1 t (alike_back t own.1 a) (h x there (own.0 - x.first_method) own.1 at)

    groups_conform : (n b e : ℕ) → length g.firsts ≤ n → HasForGroups core g n b e → Conforms core e b
    groups_conform n b e all h x there i t at =
        let r = get_range core.methods x.first_method (x.first_method + x.methods) i t at in
        let place : ℕ = x.first_method + i in
        let w : InGroup core g t = grouped.complete place t (get_below core.methods place t r.1) r.1 in
        let owner : t.entity ≡ b = (formed.entities b x there).methods i t at in
        let low = first_within core g.firsts w.group w.first w.is_group.0 in
        let has : Has w.entities b = subst (Has w.entities) owner w.has_entity in
        has_alike core e w.first t w.alike (h w.group w.first w.entities (omega (arith, low, all)) w.is_group has)

    pub tells_all : (n : ℕ) (sets : List (List Mask)) → length g.firsts ≤ n → TellsGroups core g n sets → TellsConforming core sets
    tells_all n sets all before = record {
      long = before.long;
      tells = λ b set at abstract e low.
          let k = before.tells b set at abstract e low in
          (λ h. groups_conform n b e all (k.0 h), λ h. k.1 (conforms_groups n b e h));
    }
