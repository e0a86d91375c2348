-- What a slot holds comes to the stack.
use Rattle.std.specs.Prelude.{◌≡◌, ◌⊎◌, ℕ, ◌+◌, ◌<◌, ◌≤◌, true, refl}
use Rattle.std.proofs.Common.{ap, sym, subst, ◌∙◌, arith}
use Rattle.pc_heap.specs.{Objects.ObjectMap, declared.value.Value.Value, declared.value.Value.TheVariants.{Num, Truth, Text, Prim, At}}
use Rattle.pc_caps.specs.{Tables.{unalias, sendable}, declared.capability.Cap.Cap, declared.capability.Form.Form}
use Rattle.pc_caps.specs.declared.capability.Cap.TheVariants as cap
use Rattle.pc_caps.specs.declared.capability.Form.TheVariants as form
use Rattle.pc_regions.proofs.{World.{InSlot, OnStack, World, Seen, Fits, WorldOk}, Fitting.OpenedTo, Changes.Shifts, SlotSeen.{iso_free, trn_free, same_context}, ValueKeeps.{one_slot, that_slot}, Taken.{Free, Takes, TakeLaw}}

module _ (take : TakeLaw) (w : World) (objects : ObjectMap) (count i base d : ℕ) (ok : WorldOk w objects count) (here : i < count) (top : w.top i ≡ base + d) (opened : OpenedTo w i base d) (h s n c : ℕ) (outer : c ≤ d) (v : Value) where
  pub record TakenUp (g : Form) : Type 0 where
    pub world : World
    pub shifts : Shifts w world objects count i base (one_slot i h s)
    pub last : world.top i ≡ w.top i
    pub ajar : OpenedTo world i base d
    pub fits : Fits world (OnStack i h n (base + d)) g v

  stays : (g : Form) → Fits w (OnStack i h n (base + d)) g v → TakenUp g
  stays g fits = record {
    world = w;
    shifts = record {
      world = ok;
      fits = λ p f u e k. k;
      sent = λ j. refl;
      top = λ j k. refl;
      context = λ l low. refl;
      contexts = λ j l there k low. refl;
      opened = λ j l k e. e;
      alias = λ j b f u there k a. a;
      over = λ j m l there k o. o;
      low = λ m l k j o. o;
    };
    last = refl;
    ajar = opened;
    fits = fits;
  }

  moves : (g : Form) → Takes w (InSlot i h s (base + c)) g (OnStack i h n (base + d)) → Fits w (InSlot i h s (base + c)) g v → Free w i base v → TakenUp g
  moves g may fits free =
      let above = λ (j : ℕ) (a : base < j) (b : j ≤ w.top i). opened j a (subst (λ (l : ℕ). j ≤ l) top b) in
      let got = take w objects count ok i here base above (InSlot i h s (base + c)) (one_slot i h s) (that_slot i h s (base + c)) h n (base + d) (omega (arith, top)) g v fits free may in
      record {
        world = got.0;
        shifts = got.1.shifts;
        last = got.1.top i;
        ajar = λ j a b. ap got.0.stands (got.1.context i j here (omega (arith, b, top))) ∙ got.1.opened (w.context i j) i (opened j a b);
        fits = got.1.fits;
      }

  ref_up : (u : Value) → w.context i (base + c) ≡ w.context i (base + d) → Fits w (InSlot i h s (base + c)) form.Ref u → Fits w (OnStack i h n (base + d)) form.Ref u
  ref_up (At a) is e = e ∙ is
  ref_up (Num m) is e = tt
  ref_up (Truth b) is e = tt
  ref_up (Text t) is e = tt
  ref_up (Prim m) is e = tt

  box_up : (u : Value) → w.context i (base + c) ≡ w.context i (base + d) → Fits w (InSlot i h s (base + c)) form.Box u → Fits w (OnStack i h n (base + d)) form.Box u
  box_up (At a) is e = subst (λ (q : ℕ). Seen w q (w.region a)) is e
  box_up (Num m) is e = tt
  box_up (Truth b) is e = tt
  box_up (Text t) is e = tt
  box_up (Prim m) is e = tt

  val_up : (u : Value) → Fits w (InSlot i h s (base + c)) form.Val u → Fits w (OnStack i h n (base + d)) form.Val u
  val_up (At a) e = e
  val_up (Num m) e = tt
  val_up (Truth b) e = tt
  val_up (Text t) e = tt
  val_up (Prim m) e = tt

  tag_up : (u : Value) → Fits w (OnStack i h n (base + d)) form.Tag u
  tag_up (At a) = tt
  tag_up (Num m) = tt
  tag_up (Truth b) = tt
  tag_up (Text t) = tt
  tag_up (Prim m) = tt

  pub slot_taken : (k : Cap) → (c ≡ d) ⊎ (sendable k ≡ true) → Fits w (InSlot i h s (base + c)) (unalias k) v → TakenUp (unalias k)
  slot_taken cap.Iso near fits = moves form.IsoE tt fits (iso_free w objects count i base d ok here top opened h s n c outer v fits)
  slot_taken cap.Trn near fits = moves form.TrnE (sym (same_context w i base c d cap.Trn near refl)) fits (trn_free w objects count i base d ok here top opened h s n c outer v fits)
  slot_taken cap.Ref near fits = stays form.Ref (ref_up v (same_context w i base c d cap.Ref near refl) fits)
  slot_taken cap.Val near fits = stays form.Val (val_up v fits)
  slot_taken cap.Box near fits = stays form.Box (box_up v (same_context w i base c d cap.Box near refl) fits)
  slot_taken cap.Tag near fits = stays form.Tag (tag_up v)
