-- A list has the faults of the spots of a part of a body, in the order of its places.
use Rattle.std.proofs.{Common.{◌≡◌, ℕ, zero, suc, List, [], ◌∷◌, ◌++◌, Some, refl, sym, ap, subst, inl, inr, ⊎_elim}, lemmas.Option.{same_Some, none-some}}
use Rattle.std.specs.Prelude.{◌⊎◌, ◌↔◌}
use Rattle.pc_base.specs.Lists.{Has, Text}
use Rattle.pc_base.proofs.Elements.{has_front, has_behind, has_either}
use Rattle.pc_body_spec.specs.{Bodies.Context, Faults.{BodyNameFault, unknown}, Places.fault_start}
use Rattle.pc_body_spec.proofs.Places.{Sub, none, take, sub_join, nothing_at}
use Rattle.pc_name_laws.specs.{Uses.{NameUse, Spot, spot, Here}, Missing.{Means, place, IsTaken, IsLong, IsAtFault}}

abbrev pub FaultIn : Context → (Spot → Type 0) → BodyNameFault → Type 0
FaultIn c P f = (x : Spot) × P x × IsAtFault c x f

-- The list has exactly the faults of the spots of a part, and they are at some of these places, in this order.
pub record Tells (c : Context) (fs : List BodyNameFault) (P : Spot → Type 0) (ns : List ℕ) : Type 0 where
  pub just : (f : BodyNameFault) → Has fs f ↔ FaultIn c P f
  pub order : Sub fault_start fs ns

nothing_has : {f : BodyNameFault} → Has [] f → ⊥
nothing_has {f} h = none-some f h.1

pub no_spot : (c : Context) (ns : List ℕ) → Tells c [] (λ x. ⊥) ns
no_spot c ns = record { just = λ f. (λ h. absurd (nothing_has h), λ g. absurd g.1); order = nothing_at fault_start ns }

pub either : {c : Context} {fs gs : List BodyNameFault} {P Q : Spot → Type 0} {ns ms : List ℕ} → Tells c fs P ns → Tells c gs Q ms → Tells c (fs ++ gs) (λ x. P x ⊎ Q x) (ns ++ ms)
either {c} {fs} {gs} {P} {Q} {ns} {ms} p q = record {
  just = λ f. (
    λ h. ⊎_elim (λ a. let g = (p.just f).0 a in (g.0, inl g.1, g.2)) (λ b. let g = (q.just f).0 b in (g.0, inr g.1, g.2)) (has_either fs gs f h),
    λ g. ⊎_elim (λ a. has_front fs gs f ((p.just f).1 (g.0, a, g.2))) (λ b. has_behind fs gs f ((q.just f).1 (g.0, b, g.2))) g.1,
  );
  order = sub_join fault_start fs gs ns ms p.order q.order;
}

-- Another part with the same spots.
pub turned : {c : Context} {fs : List BodyNameFault} {P : Spot → Type 0} {ns : List ℕ} (Q : Spot → Type 0) → ((x : Spot) → P x → Q x) → ((x : Spot) → Q x → P x) → Tells c fs P ns → Tells c fs Q ns
turned Q there back h = record {
  just = λ f. (λ has. let g = (h.just f).0 has in (g.0, there g.0 g.1, g.2), λ g. (h.just f).1 (g.0, back g.0 g.1, g.2));
  order = h.order;
}

-- ---- a use on its own

pub no_fault_here : (c : Context) (visible : List Text) (u : NameUse) (ns : List ℕ) → ((f : BodyNameFault) → IsAtFault c (spot visible u) f → ⊥) → Tells c [] (Here visible u) ns
no_fault_here c visible u ns never = record {
  just = λ f. (λ h. absurd (nothing_has h), λ g. absurd (never f (subst (λ (x : Spot). IsAtFault c x f) g.1 g.2)));
  order = nothing_at fault_start ns;
}

pub fault_here : (c : Context) (visible : List Text) (u : NameUse) (f : BodyNameFault) → IsAtFault c (spot visible u) f → ((g : BodyNameFault) → IsAtFault c (spot visible u) g → g ≡ f) → Tells c (f ∷ []) (Here visible u) (fault_start f ∷ [])
fault_here c visible u f at only = record {
  just = λ g. (λ h. told g h, λ x. (0, ap (λ (z : BodyNameFault). Some z) (sym (only g (subst (λ (y : Spot). IsAtFault c y g) x.1 x.2)))));
  order = take f [] [] none;
}
  where
    told : (g : BodyNameFault) → Has (f ∷ []) g → FaultIn c (Here visible u) g
    told g (zero, e) = (spot visible u, refl, subst (IsAtFault c (spot visible u)) (same_Some f g e) at)
    told g (suc i, e) = absurd (none-some g e)

-- A use whose name cannot be taken or too long.
pub meant : (c : Context) (visible : List Text) (u : NameUse) → (IsTaken c visible u → ⊥) → (IsLong u → ⊥) → Means c visible u → Tells c [] (Here visible u) ((place u).start ∷ [])
meant c visible u free short m = no_fault_here c visible u ((place u).start ∷ []) (λ f at. ⊎_elim (λ a. a.1 m) (λ b. ⊎_elim (λ d. free d.1) (λ d. short d.1) b) at)

pub missing : (c : Context) (visible : List Text) (u : NameUse) → (IsTaken c visible u → ⊥) → (IsLong u → ⊥) → (Means c visible u → ⊥) → Tells c (unknown (place u) ∷ []) (Here visible u) ((place u).start ∷ [])
missing c visible u free short m = fault_here c visible u (unknown (place u)) (inl (refl, m)) (λ g at. ⊎_elim (λ a. a.0) (λ b. ⊎_elim (λ d. absurd (free d.1)) (λ d. absurd (short d.1)) b) at)
