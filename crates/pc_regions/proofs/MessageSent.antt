-- A message is sent: there is one more for its actor, and everything else is unchanged.
use Rattle.std.specs.Prelude.{◌≡◌, ℕ, suc, ◌+◌, Bool, true, false, cond, List, length, Option, Some, nat_eq, refl}
use Rattle.std.proofs.{Common.{inl, inr, ap, arith}, lemmas.Bool.eqb-true}
use Rattle.pc_heap.specs.{Objects.ObjectMap, declared.value.Value.Value}
use Rattle.pc_caps.specs.{Tables.unalias, declared.capability.Form.Form}
use Rattle.pc_core.specs.CoreData.{CoreData}
use Rattle.pc_masks.specs.declared.mask.Mask.{Mask}
use Rattle.pc_ann.specs.declared.annotation.Ann.{Ann}
use Rattle.pc_semantics.specs.declared.frames.Frame.{Frame}
use Rattle.pc_regions.proofs.{World.{Place, InSlot, OnStack, InField, InMail, World, home, Over, Fits, Alias, WorldOk}, StackForms.Entry, Changes.with_number, MoveFits.Others, SameRegions.{over_same, fits_same, alias_same}, Waiting.{stack_fits, wait_kept}, Rising.Pushes}

abbrev pub mailed : World → ℕ → World
mailed w j = record { region = w.region; stands = w.stands; role = w.role; context = w.context; top = w.top; sent = with_number w.sent j (suc (w.sent j)); next = w.next }

module _ (w : World) (to : ℕ) where
  pub over_on : {i q l : ℕ} → Over w i q l → Over (mailed w to) i q l
  over_on {i} {q} {l} o =
      over_same w (mailed w to) (λ a. refl) (λ x e. e) (λ x a k e. e) (λ x u at e. (at, e, λ s. s)) i l (λ x e. e) (λ x h s e. e) (λ x e. e) (λ x k e. e) o

  home_same : (p : Place) → home (mailed w to) p ≡ home w p
  home_same (InSlot i h s l) = refl
  home_same (OnStack i h d l) = refl
  home_same (InField a k) = refl
  home_same (InMail i t k) = refl

  pub fits_on : (p : Place) (f : Form) (v : Value) → Fits w p f v → Fits (mailed w to) p f v
  fits_on p f v k =
      fits_same w (mailed w to) (λ a. refl) (λ x e. e) (λ x a n e. e) (λ x u at e. (at, e, λ s. s)) (λ q. false) (λ q none. home_same q) (λ x q none e. e) (λ x u q none e. e) p f v refl k

  alias_on : (j c k : ℕ) (f : Form) (v : Value) → Alias w j c k f v → Alias (mailed w to) j c k f v
  alias_on j c k f v a =
      alias_same w (mailed w to) (λ b. refl) (λ x e. e) (λ x b n e. e) (λ x u at e. (at, e, λ s. s)) j k (λ l x low o. over_on o) (λ x l o e. e) (λ x at e none. none) (λ x u at e. (at, e)) refl c f v a

  numbered : (j : ℕ) (b : Bool) → nat_eq to j ≡ b → cond b (suc (w.sent to)) (w.sent j) ≡ w.sent j + cond b 1 0
  numbered j true e = let is : to ≡ j = eqb-true to j e in one (w.sent to) (w.sent j) (ap w.sent is)
    where
      one : (a b : ℕ) → a ≡ b → suc a ≡ b + 1
      one a b e = omega (arith, e)
  numbered j false e = none (w.sent j)
    where
      none : (a : ℕ) → a ≡ a + 0
      none a = omega arith

  pub others_mailed : (i count : ℕ) → Others w (mailed w to) i count (Some to)
  others_mailed i count = record {
    fits = λ p f v e a k. fits_on p f v k;
    sent = λ j there. numbered j (nat_eq to j) refl;
    top = λ j there n. refl;
    opened = λ j l there n e. e;
    over = λ j m l there n o. over_on o;
    alias = λ j b f v there n a. alias_on j b (w.top j) f v a;
  }

  world_on : (objects : ObjectMap) (count : ℕ) → WorldOk w objects count → WorldOk (mailed w to) objects count
  world_on objects count ok = record {
    zero = ok.zero;
    named = ok.named;
    roles = ok.roles;
    root = ok.root;
    own = ok.own;
    contexts = λ i j there t. elim (ok.contexts i j there t) [ inl e ↦ inl e | inr o ↦ inr (o.0, o.1, over_on o.2) ];
    unused = ok.unused;
    regions = ok.regions;
    parents = ok.parents;
    holders = ok.holders;
    absent = ok.absent;
    present = ok.present;
    homes = ok.homes;
  }

  pub pushes_mailed : (core : CoreData) (ann : Ann) (objects : ObjectMap) (count i m base d : ℕ) (live : Mask) (below : List Entry) (slots : List (Option Value)) (vs : List Value) (fs : List Frame)
      → Pushes core ann w objects count i m base d live below slots vs fs → Pushes core ann (mailed w to) objects count i m base d live below slots vs fs
  pushes_mailed core ann objects count i m base d live below slots vs fs p = record {
    world = world_on objects count p.world;
    fields = λ a o e k f v at is x h. fits_on (InField a k) (unalias f.cap) v (p.fields a o e k f v at is x h);
    here = p.here;
    top = p.top;
    opened = p.opened;
    this_fits = λ x v is at. fits_on (InSlot i (length fs) 0 base) (unalias x.receiver) v (p.this_fits x v is at);
    slots_fit = λ s up l v at y is. fits_on (InSlot i (length fs) s (base + y.0.depth)) (unalias y.1.1) v (p.slots_fit s up l v at y is);
    stack_fit = stack_fits core ann w (mailed w to) i (suc (length fs)) (λ h s l f v low k. fits_on (InSlot i h s l) f v k) (λ h e l f v low k. fits_on (OnStack i h e l) f v k) base (λ l low e. e) (λ n l up low o. over_on o) (length fs) base below vs (omega arith) p.stack_fit;
    wait = wait_kept core ann w (mailed w to) i (length fs) (λ h s l f v low k. fits_on (InSlot i h s l) f v k) (λ h e l f v low k. fits_on (OnStack i h e l) f v k) base (λ l low e. e) (λ n l up low o. over_on o) base m fs (omega arith) (omega arith) p.wait;
  }
