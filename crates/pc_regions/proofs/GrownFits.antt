-- If everything that stood still stands: other actors, fields, frames that wait and arguments fit as they did.
use Rattle.std.specs.{Prelude.{◌≡◌, ℕ, suc, ◌+◌, ◌<◌, ◌≤◌, true, List, [], ◌∷◌, length, Option, None, slice_get}, FinMap.insert}
use Rattle.std.proofs.{Common.{inl, inr, ap, sym, subst, ◌∙◌, arith}, lemmas.Bool.ltb-true}
use Rattle.pc_heap.specs.{Objects.{ObjectMap, Object}, declared.value.Address.Address, declared.value.Value.Value}
use Rattle.pc_caps.specs.{Tables.unalias, declared.capability.Form.Form}
use Rattle.pc_core.specs.{declared.declarations.ParamInfo.ParamInfo, CoreData.CoreData}
use Rattle.pc_masks.specs.declared.mask.Mask.{Mask}
use Rattle.pc_ann.specs.declared.annotation.Ann.{Ann}
use Rattle.pc_semantics.specs.{declared.frames.Frame.Frame, Configurations.blank_object, Parts.number_of_fields}
use Rattle.pc_base.proofs.Bools.{false_true}
use Rattle.pc_regions.proofs.{World.{Place, InSlot, OnStack, InField, InMail, Opened, World, Over, Fits}, StackForms.Entry, Fitting.FieldsFit, MoveFits.{elsewhere, among, Others}, Waiting.{stack_fits, wait_kept}, FirstFrame.ArgumentsAt, CallerKept.Rests, WorldGrows.{Known, Grows}, Shifts.no_more}
use Rattle.pc_types.proofs.{Heaps.put_or_before, Made.no_value}

module _ (w w' : World) (objects : ObjectMap) (count : ℕ) (x : Grows w w' objects count) where
  known_elsewhere : (i : ℕ) (p : Place) → elsewhere i p ≡ true → among count p ≡ true → Known objects count p
  known_elsewhere i (InSlot j h s l) e m = ltb-true j count m
  known_elsewhere i (OnStack j h d l) e m = ltb-true j count m
  known_elsewhere i (InField a k) e m = absurd (false_true e)
  known_elsewhere i (InMail j t k) e m = tt

  open_still : (j l : ℕ) → j < count → w.stands (w.context j l) ≡ Opened j → w'.stands (w'.context j l) ≡ Opened j
  open_still j l there e = ap w'.stands (x.context j l there) ∙ x.opened (w.context j l) j e

  over_still : (j m l : ℕ) → j < count → Over w j (w.context j m) l → Over w' j (w'.context j m) l
  over_still j m l there o = subst (λ (q : ℕ). Over w' j q l) (sym (x.context j m there)) (x.over j o)

  pub others_grown : (i : ℕ) → Others w w' i count None
  others_grown i = record {
    fits = λ p f v e m k. x.fits p f v (known_elsewhere i p e m) k;
    sent = λ j there. no_more (w'.sent j) (w.sent j) (x.sent j there);
    top = λ j there n. x.top j there;
    opened = λ j l there n e. open_still j l there e;
    over = λ j m l there n o. over_still j m l there o;
    alias = λ j b f v there n a. x.alias j b (w.top j) f v there a;
  }

  -- The fields of the objects that stood fit, and the new object has no field values.
  pub fields_grown : (core : CoreData) (a : Address) (d : ℕ) → FieldsFit core w objects → FieldsFit core w' (insert objects a (blank_object core d))
  fields_grown core a d fit b o e k f v at is g h =
      elim (put_or_before objects a (blank_object core d) b o at) [
        | inl p ↦ absurd (no_value core (number_of_fields (slice_get core.entities d)) k v (ap (λ (y : Object). slice_get y.fields k) (sym p.1) ∙ h))
        | inr p ↦ x.fits (InField b k) (unalias f.cap) v (o, p) (fit b o e k f v p is g h)
      ]

  -- A frame that waits, and those below it.
  pub rests_grown : (core : CoreData) (ann : Ann) (i m base d : ℕ) (live : Mask) (below : List Entry) (slots : List (Option Value)) (vs : List Value) (fs : List Frame) → i < count
      → Rests core ann w i m base d live below slots vs fs → Rests core ann w' i m base d live below slots vs fs
  rests_grown core ann i m base d live below slots vs fs here p =
      let in_slot = λ (h s l : ℕ) (f : Form) (v : Value) (low : h < suc (length fs)) (k : Fits w (InSlot i h s l) f v). x.fits (InSlot i h s l) f v here k in
      let on_stack = λ (h e l : ℕ) (f : Form) (v : Value) (low : h < suc (length fs)) (k : Fits w (OnStack i h e l) f v). x.fits (OnStack i h e l) f v here k in
      let ajar = λ (l : ℕ) (low : l ≤ base) (e : w.stands (w.context i l) ≡ Opened i). open_still i l here e in
      let over = λ (n l : ℕ) (up : n ≤ base) (low : l < base) (o : Over w i (w.context i n) l). over_still i n l here o in
      record {
        opened = λ j up to. open_still i j here (p.opened j up to);
        this_fits = λ y v is at. x.fits (InSlot i (length fs) 0 base) (unalias y.receiver) v here (p.this_fits y v is at);
        slots_fit = λ s up l v at y is. x.fits (InSlot i (length fs) s (base + y.0.depth)) (unalias y.1.1) v here (p.slots_fit s up l v at y is);
        stack_fit = stack_fits core ann w w' i (suc (length fs)) in_slot on_stack base ajar over (length fs) base below vs (omega arith) p.stack_fit;
        deep = p.deep;
        wait = wait_kept core ann w w' i (suc (length fs)) in_slot on_stack base ajar over base m fs (omega arith) (omega arith) p.wait;
      }

  pub arguments_grown : (at : ℕ → Place) (ps : List ParamInfo) (vs : List Value) → ((k : ℕ) → Known objects count (at k)) → ArgumentsAt w at ps vs → ArgumentsAt w' at ps vs
  arguments_grown at [] [] known k = k
  arguments_grown at [] (v ∷ vs) known k = k
  arguments_grown at (p ∷ ps) [] known k = k
  arguments_grown at (p ∷ ps) (v ∷ vs) known k = (x.fits (at 0) (unalias p.cap) v (known 0) k.0, arguments_grown (λ n. at (suc n)) ps vs (λ n. known (suc n)) k.1)
