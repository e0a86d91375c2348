-- Settling leaves everything else unchanged: contexts, roles and levels, what is over regions, and aliases.
use Rattle.std.specs.Prelude.{◌≡◌, ℕ, ◌<◌, ◌≤◌, Bool, false, refl}
use Rattle.std.proofs.Common.{sym, subst, ◌∙◌}
use Rattle.pc_heap.specs.{Objects.ObjectMap, declared.value.Value.Value}
use Rattle.pc_caps.specs.declared.capability.Form.{Form}
use Rattle.pc_regions.proofs.{World.{Place, Opened, World, Alias, Over, WorldOk}, Changes.Shifts, Shifts.{wider, shifts_none, shifts_then}}

pub record Calm (w w' : World) (objects : ObjectMap) (count i : ℕ) (gone : Place → Bool) : Type 0 where
  pub shifts : Shifts w w' objects count i (w.top i) gone
  pub role : (q : ℕ) → w'.role q ≡ w.role q
  pub context : (j l : ℕ) → j < count → l ≤ w.top j → w'.context j l ≡ w.context j l
  pub top : (j : ℕ) → w'.top j ≡ w.top j
  pub opened : (q j : ℕ) → w.stands q ≡ Opened j → w'.stands q ≡ Opened j
  pub over : (j : ℕ) {q l : ℕ} → Over w j q l → Over w' j q l
  pub alias : (j c k : ℕ) (g : Form) (u : Value) → j < count → k ≤ w.top j → Alias w j c k g u → Alias w' j c k g u

pub calm_wider : (w w' : World) (objects : ObjectMap) (count i : ℕ) (gone more : Place → Bool) → ((p : Place) → more p ≡ false → gone p ≡ false) → Calm w w' objects count i gone → Calm w w' objects count i more
calm_wider w w' objects count i gone more sub c = record { shifts = wider w w' objects count i (w.top i) gone more sub c.shifts; role = c.role; context = c.context; top = c.top; opened = c.opened; over = c.over; alias = c.alias }

pub calm_both : (w v u : World) (objects : ObjectMap) (count i : ℕ) (gone : Place → Bool) → Calm w v objects count i gone → Calm v u objects count i gone → Calm w u objects count i gone
calm_both w v u objects count i gone x y = record {
  shifts = shifts_then w v u objects count i (w.top i) gone x.shifts (subst (λ (b : ℕ). Shifts v u objects count i b gone) (x.top i) y.shifts);
  role = λ q. y.role q ∙ x.role q;
  context = λ j l there low. y.context j l there (subst (λ (t : ℕ). l ≤ t) (sym (x.top j)) low) ∙ x.context j l there low;
  top = λ j. y.top j ∙ x.top j;
  opened = λ q j e. y.opened q j (x.opened q j e);
  over = λ j o. y.over j (x.over j o);
  alias = λ j c k g z there low a. y.alias j c k g z there (subst (λ (t : ℕ). k ≤ t) (sym (x.top j)) low) (x.alias j c k g z there low a);
}

pub calm_same : (w : World) (objects : ObjectMap) (count i : ℕ) (gone : Place → Bool) → WorldOk w objects count → Calm w w objects count i gone
calm_same w objects count i gone ok = record {
  shifts = shifts_none w objects count i (w.top i) gone ok;
  role = λ q. refl;
  context = λ j l there low. refl;
  top = λ j. refl;
  opened = λ q j e. e;
  over = λ j o. o;
  alias = λ j c k g u there low a. a;
}
