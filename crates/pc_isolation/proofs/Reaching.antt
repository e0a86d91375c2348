-- Where fields lead before a step and after it, if no object on the way is written.
use Rattle.std.specs.{Prelude.{◌≡◌, ◌≢◌, ℕ, Bool, true, Option, Some, None, refl}, FinMap.get}
use Rattle.std.proofs.{Common.{inl, inr, ap, sym, ◌∙◌}, lemmas.Option.none-some}
use Rattle.pc_base.proofs.{Options.{bind_some, bind_is}, Bools.false_true}
use Rattle.pc_heap.specs.{Objects.class_at, Parts.value_in, Fields.value_at, declared.value.Address.Address, declared.value.Value.TheVariants.At}
use Rattle.pc_caps.specs.declared.capability.Cap.{Cap}
use Rattle.pc_caps.specs.declared.capability.Cap.TheVariants as cap
use Rattle.pc_core.specs.CoreData.{CoreData}
use Rattle.pc_semantics.specs.{declared.access.Access.Access, Configurations.Configuration, Safety.access}
use Rattle.pc_events.specs.Accesses.{OnlyAccessed}
use Rattle.pc_events.proofs.OnlyAccesses.{absent_empty}
use Rattle.pc_isolation.specs.Isolated.{field_cap, FieldLeads, keeps, shows, FieldsReach, itself, further}

-- The next step of actor i does not write this object.
abbrev pub Unwritten : CoreData → Configuration → ℕ → Address → Type 0
Unwritten core c i a = (x : Access) → access core c i ≡ Some x → x.write ≡ true → x.address ≢ a

module _ (core : CoreData) (c d : Configuration) (i : ℕ) (only : OnlyAccessed core c d i) where
  -- ---- one object

  values_by : (a : Address) → Unwritten core c i a → (place : ℕ) (o : Option ℕ) → class_at c.objects a ≡ o → value_at d.objects a place ≡ value_at c.objects a place
  values_by a free place (Some e) is =
      elim (only.fields a e place is) [
        | inl same ↦ ap value_in same
        | inr writes ↦ absurd (free _ writes refl refl)
      ]
  values_by a free place None is = only.new a place is ∙ sym (absent_empty (get c.objects a) place is)

  -- An object that is not written holds the same values, even if there was none.
  pub values_kept : (a : Address) → Unwritten core c i a → (place : ℕ) → value_at d.objects a place ≡ value_at c.objects a place
  values_kept a free place = values_by a free place (class_at c.objects a) refl

  lead_on : (q : Cap) (a b : Address) → Unwritten core c i a → FieldLeads core c.objects q a b → FieldLeads core d.objects q a b
  lead_on q a b free l =
      let e = bind_some (class_at c.objects a) _ q l.declared in
      record {
        place = l.place;
        declared = bind_is (class_at d.objects a) _ e.0 (only.stays a e.0 e.1) ∙ e.2;
        holds = values_kept a free l.place ∙ l.holds;
      }

  declared_by : (q : Cap) (a b : Address) (place : ℕ) → field_cap core d.objects a place ≡ Some q → value_at c.objects a place ≡ Some (At b) → (o : Option ℕ) → class_at c.objects a ≡ o → field_cap core c.objects a place ≡ Some q
  declared_by q a b place f v None is = absurd (none-some (At b) (sym (absent_empty (get c.objects a) place is) ∙ v))
  declared_by q a b place f v (Some e) is = bind_is (class_at c.objects a) _ e is ∙ sym (bind_is (class_at d.objects a) _ e (only.stays a e is)) ∙ f

  lead_back : (q : Cap) (a b : Address) → Unwritten core c i a → FieldLeads core d.objects q a b → FieldLeads core c.objects q a b
  lead_back q a b free l =
      let value : value_at c.objects a l.place ≡ Some (At b) = sym (values_kept a free l.place) ∙ l.holds in
      record { place = l.place; declared = declared_by q a b l.place l.declared value (class_at c.objects a) refl; holds = value }

  -- ---- chains of fields

  module _ (allowed : Cap → Bool) (a : Address) (free : (o : Address) → FieldsReach core c.objects allowed a o → Unwritten core c i o) where
    pub reach_on : (b : Address) → FieldsReach core c.objects allowed a b → FieldsReach core d.objects allowed a b
    reach_on b (itself e) = itself e
    reach_on b (further o q x e l) = further o q (reach_on o x) e (lead_on q o b (free o x) l)

    pub reach_back : (b : Address) → FieldsReach core d.objects allowed a b → FieldsReach core c.objects allowed a b
    reach_back b (itself e) = itself e
    reach_back b (further o q x e l) = let y = reach_back o x in further o q y e (lead_back q o b (free o y) l)

-- ---- what keeps shows

kept_shown : (q : Cap) → keeps q ≡ true → shows q ≡ true
kept_shown cap.Iso e = refl
kept_shown cap.Trn e = refl
kept_shown cap.Ref e = refl
kept_shown cap.Val e = refl
kept_shown cap.Box e = refl
kept_shown cap.Tag e = absurd (false_true e)

pub shown : (core : CoreData) (c : Configuration) (a b : Address) → FieldsReach core c.objects keeps a b → FieldsReach core c.objects shows a b
shown core c a b (itself e) = itself e
shown core c a b (further o q x e l) = further o q (shown core c a o x) (kept_shown q e) l
