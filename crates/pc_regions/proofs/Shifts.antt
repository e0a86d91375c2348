-- A shift of the world keeps what other actors, messages, fields and the frames below have to fit.
use Rattle.std.specs.Prelude.{◌≡◌, ◌⊎◌, ℕ, ◌+◌, ◌<◌, ◌≤◌, Bool, true, false, ◌||◌, List, length, None, refl, ◌≢◌}
use Rattle.std.proofs.{Common.{inl, inr, sym, subst, ◌∙◌, arith}, lemmas.Bool.{or_parts, or_from}}
use Rattle.pc_heap.specs.{Objects.ObjectMap, declared.value.Address.Address}
use Rattle.pc_core.specs.CoreData.{CoreData}
use Rattle.pc_ann.specs.declared.annotation.Ann.{Ann}
use Rattle.pc_semantics.specs.declared.frames.Frame.{Frame}
use Rattle.pc_regions.proofs.{World.{Place, InSlot, OnStack, InField, World, Alias, WorldOk}, Fitting.{FieldsFit, WaitFits}, MoveFits.{elsewhere, Others}, Changes.Shifts, Waiting.{wait_kept, wait_low}}

pub no_more : (n m : ℕ) → n ≡ m → n ≡ m + 0
no_more n m e = omega (arith, e)

module _ (w w' : World) (objects : ObjectMap) (count i b : ℕ) (gone : Place → Bool) (x : Shifts w w' objects count i b gone) where
  -- If only places of the actor's frames, and of fields, are left.
  pub others_kept : ((p : Place) → elsewhere i p ≡ true → gone p ≡ false) → Others w w' i count None
  others_kept far = record {
    fits = λ p f v e a k. x.fits p f v (far p e) k;
    sent = λ j there. no_more (w'.sent j) (w.sent j) (x.sent j);
    top = λ j there n. x.top j n;
    opened = λ j l there n e. x.opened j l (inl n) e;
    over = λ j m l there n o. x.over j m l there n o;
    alias = λ j c f v there n a. x.alias j c f v there n a;
  }

  -- If no field is left.
  pub fields_kept : (core : CoreData) → ((a : Address) (k : ℕ) → gone (InField a k) ≡ false) → FieldsFit core w objects → FieldsFit core w' objects
  fields_kept core none fit a o e k f v at is g h = x.fits (InField a k) _ v (none a k) (fit a o e k f v at is g h)

  -- If no place of a frame below this height is left.
  pub below_kept : (core : CoreData) (ann : Ann) (bound : ℕ) → ((h s l : ℕ) → h < bound → gone (InSlot i h s l) ≡ false) → ((h d l : ℕ) → h < bound → gone (OnStack i h d l) ≡ false)
      → (c m : ℕ) (fs : List Frame) → length fs ≡ bound → c ≤ b → WaitFits core ann w i c m fs → WaitFits core ann w' i c m fs
  below_kept core ann bound slots stacks c m fs is low k =
      wait_kept core ann w w' i bound (λ h s l f v lower fit. x.fits (InSlot i h s l) f v (slots h s l lower) fit) (λ h d l f v lower fit. x.fits (OnStack i h d l) f v (stacks h d l lower) fit) b
      (λ l n e. x.opened i l (inr n) e) (λ n l up down o. x.low n l up down o) c m fs (omega (arith, is)) low k

-- One shift after another.
pub shifts_both : (w v u : World) (objects : ObjectMap) (count i b : ℕ) (gone more : Place → Bool) → Shifts w v objects count i b gone → Shifts v u objects count i b more → Shifts w u objects count i b (λ p. gone p || more p)
shifts_both w v u objects count i b gone more x y = record {
  world = y.world;
  fits = λ p f z none k. let parts = or_parts (gone p) (more p) none in y.fits p f z parts.1 (x.fits p f z parts.0 k);
  sent = λ j. y.sent j ∙ x.sent j;
  top = λ j n. y.top j n ∙ x.top j n;
  context = λ l n. y.context l n ∙ x.context l n;
  contexts = λ j l there n t. y.contexts j l there n (subst (λ (k : ℕ). l ≤ k) (sym (x.top j n)) t) ∙ x.contexts j l there n t;
  opened = λ j l n e. y.opened j l n (x.opened j l n e);
  alias = λ j c f z there n a.
      subst (λ (k : ℕ). Alias u j c k f z) (x.top j n) (y.alias j c f z there n (subst (λ (k : ℕ). Alias v j c k f z) (sym (x.top j n)) (x.alias j c f z there n a)));
  over = λ j m l there n o. y.over j m l there n (x.over j m l there n o);
  low = λ m l n k o. y.low m l n k (x.low m l n k o);
}

-- Nothing changes.
pub shifts_none : (w : World) (objects : ObjectMap) (count i b : ℕ) (gone : Place → Bool) → WorldOk w objects count → Shifts w w objects count i b gone
shifts_none w objects count i b gone ok = record {
  world = ok;
  fits = λ p f v n k. k;
  sent = λ j. refl;
  top = λ j n. refl;
  context = λ l n. refl;
  contexts = λ j l there n t. refl;
  opened = λ j l n e. e;
  alias = λ j c f v there n a. a;
  over = λ j m l there n o. o;
  low = λ m l n k o. o;
}

-- A shift of a frame of one level is one of a lower level, and one that leaves more.
pub shifts_less : (w w' : World) (objects : ObjectMap) (count i b c : ℕ) (gone more : Place → Bool) → c ≤ b → ((p : Place) → more p ≡ false → gone p ≡ false) → Shifts w w' objects count i b gone → Shifts w w' objects count i c more
shifts_less w w' objects count i b c gone more low far x = record {
  world = x.world;
  fits = λ p f v n k. x.fits p f v (far p n) k;
  sent = x.sent;
  top = x.top;
  context = λ l n. x.context l (omega (arith, n, low));
  contexts = x.contexts;
  opened = λ j l n e. x.opened j l (lower n) e;
  alias = x.alias;
  over = x.over;
  low = λ m l n k o. x.low m l (omega (arith, n, low)) (omega (arith, k, low)) o;
}
  where
    lower : {j l : ℕ} → (i ≢ j) ⊎ (l ≤ c) → (i ≢ j) ⊎ (l ≤ b)
    lower (inl n) = inl n
    lower (inr n) = inr (omega (arith, n, low))

pub lower_shift : (w w' : World) (objects : ObjectMap) (count i b c : ℕ) (gone : Place → Bool) → c ≤ b → Shifts w w' objects count i b gone → Shifts w w' objects count i c gone
lower_shift w w' objects count i b c gone low x = shifts_less w w' objects count i b c gone gone low (λ p e. e) x

pub wider : (w w' : World) (objects : ObjectMap) (count i b : ℕ) (gone more : Place → Bool) → ((p : Place) → more p ≡ false → gone p ≡ false) → Shifts w w' objects count i b gone → Shifts w w' objects count i b more
wider w w' objects count i b gone more far x = shifts_less w w' objects count i b b gone more (omega arith) far x

-- If no place of a frame below this height, at a level up to b, is left.
pub below_under : (w w' : World) (objects : ObjectMap) (count i b : ℕ) (gone : Place → Bool) → Shifts w w' objects count i b gone → (core : CoreData) (ann : Ann) (bound : ℕ)
    → ((h s l : ℕ) → h < bound → l ≤ b → gone (InSlot i h s l) ≡ false) → ((h d l : ℕ) → h < bound → l ≤ b → gone (OnStack i h d l) ≡ false)
    → (c m : ℕ) (fs : List Frame) → length fs ≤ bound → c ≤ b → WaitFits core ann w i c m fs → WaitFits core ann w' i c m fs
below_under w w' objects count i b gone x core ann bound slots stacks c m fs few low k =
    wait_low core ann w w' i bound b (λ h s l f v lower under fit. x.fits (InSlot i h s l) f v (slots h s l lower under) fit) (λ h d l f v lower under fit. x.fits (OnStack i h d l) f v (stacks h d l lower under) fit)
    (λ l n e. x.opened i l (inr n) e) (λ n l up down o. x.low n l up down o) c m fs few low k

-- One shift after another that leave the same places.
pub shifts_then : (w v u : World) (objects : ObjectMap) (count i b : ℕ) (gone : Place → Bool) → Shifts w v objects count i b gone → Shifts v u objects count i b gone → Shifts w u objects count i b gone
shifts_then w v u objects count i b gone x y = wider w u objects count i b (λ p. gone p || gone p) gone (λ p e. or_from (gone p) (gone p) e e) (shifts_both w v u objects count i b gone gone x y)
