-- What the field of an origin held comes to the stack, if the field is written: it is taken from the field, or seen
-- through the origin.
use Rattle.std.specs.Prelude.{◌≡◌, ◌⊎◌, ℕ, ◌+◌, ◌<◌, ◌≤◌, Bool, true, false, ◌&&◌, Some, nat_eq, refl}
use Rattle.std.proofs.{Common.{inl, inr, ap, sym, subst, ◌∙◌, arith}, lemmas.Bool.{cases_eq, eq-eqb, ne_eqb, and_right, and_left}, lemmas.Option.{same_Some, none-some}}
use Rattle.pc_heap.specs.{Objects.ObjectMap, declared.value.Address.Address, declared.value.Value.Value, declared.value.Value.TheVariants.{Num, Truth, Text, Prim, At}}
use Rattle.pc_caps.specs.{Tables.{at, unalias, taken}, Computed.may_write, declared.capability.Cap.Cap, declared.capability.Form.Form}
use Rattle.pc_caps.specs.declared.capability.Cap.TheVariants as cap
use Rattle.pc_caps.specs.declared.capability.Form.TheVariants as form
use Rattle.pc_regions.proofs.{World.{Place, InSlot, OnStack, InField, InMail, Held, Child, World, FitsIn, Fits, AliasIn, Alias, WorldOk}, Fitting.OpenedTo, Changes.Shifts, FieldSeen.{let_go, seen_through}, GivenUp.{taken_views, field_free}, OriginApart.origin_apart, FieldWritten.address_is, Shifts.shifts_none, Taken.TakeLaw}

-- ---- forms

-- What is written through: an alias of form `iso` or `trn`, or `ref`.
abbrev pub Writer : Form → Type 0
Writer o = (o ≡ form.Iso) ⊎ ((o ≡ form.Trn) ⊎ (o ≡ form.Ref))

-- An origin that gives up what a field held is one when it is let go.
pub writer : (o g : Form) (c : Cap) → taken o c ≡ Some g → Writer (let_go o)
writer form.IsoE g c is = inl refl
writer form.Iso g c is = inl refl
writer form.TrnE g c is = inr (inl refl)
writer form.Trn g c is = inr (inl refl)
writer form.Ref g c is = inr (inr refl)
writer form.Val g c is = absurd (none-some g is)
writer form.Box g c is = absurd (none-some g is)
writer form.Tag g c is = absurd (none-some g is)

pub let_go_takes : (o : Form) (c : Cap) → taken (let_go o) c ≡ taken o c
let_go_takes form.IsoE c = refl
let_go_takes form.TrnE c = refl
let_go_takes form.Iso c = refl
let_go_takes form.Trn c = refl
let_go_takes form.Ref c = refl
let_go_takes form.Val c = refl
let_go_takes form.Box c = refl
let_go_takes form.Tag c = refl

pub let_go_writes : (o f : Form) (c : Cap) → may_write (let_go o) f c ≡ may_write o f c
let_go_writes form.IsoE f c = refl
let_go_writes form.TrnE f c = refl
let_go_writes form.Iso f c = refl
let_go_writes form.Trn f c = refl
let_go_writes form.Ref f c = refl
let_go_writes form.Val f c = refl
let_go_writes form.Box f c = refl
let_go_writes form.Tag f c = refl

writer_no_iso : (o : Form) → Writer o → o ≡ form.IsoE → ⊥
writer_no_iso o (inl p) e = let bad : form.Iso ≡ form.IsoE = sym p ∙ e in cc
writer_no_iso o (inr (inl p)) e = let bad : form.Trn ≡ form.IsoE = sym p ∙ e in cc
writer_no_iso o (inr (inr p)) e = let bad : form.Ref ≡ form.IsoE = sym p ∙ e in cc

writer_no_trn : (o : Form) → Writer o → o ≡ form.TrnE → ⊥
writer_no_trn o (inl p) e = let bad : form.Iso ≡ form.TrnE = sym p ∙ e in cc
writer_no_trn o (inr (inl p)) e = let bad : form.Trn ≡ form.TrnE = sym p ∙ e in cc
writer_no_trn o (inr (inr p)) e = let bad : form.Ref ≡ form.TrnE = sym p ∙ e in cc

-- What such a form requires is the same at each place of the stack.
pub fits_along : (w : World) (i h n m l : ℕ) (o : Form) (q : ℕ) → Writer o → FitsIn w (OnStack i h n l) o q → FitsIn w (OnStack i h m l) o q
fits_along w i h n m l form.Iso q x k = k
fits_along w i h n m l form.Trn q x k = k
fits_along w i h n m l form.Ref q x k = k
fits_along w i h n m l form.Val q x k = k
fits_along w i h n m l form.Box q x k = k
fits_along w i h n m l form.Tag q x k = k
fits_along w i h n m l form.IsoE q x k = absurd (writer_no_iso form.IsoE x refl)
fits_along w i h n m l form.TrnE q x k = absurd (writer_no_trn form.TrnE x refl)

-- Not that of an alias that has to be used at once.
abbrev NoAlias : Form → Type 0
NoAlias form.Iso = ⊥
NoAlias form.Trn = ⊥
NoAlias f = Unit {0}

in_row : (P : Form → Type 0) (iso trn ref val box tag : Form) → P iso → P trn → P ref → P val → P box → P tag → (c : Cap) → P (at iso trn ref val box tag c)
in_row P iso trn ref val box tag a b c d e f cap.Iso = a
in_row P iso trn ref val box tag a b c d e f cap.Trn = b
in_row P iso trn ref val box tag a b c d e f cap.Ref = c
in_row P iso trn ref val box tag a b c d e f cap.Val = d
in_row P iso trn ref val box tag a b c d e f cap.Box = e
in_row P iso trn ref val box tag a b c d e f cap.Tag = f

iso_row : (g : Form) (c : Cap) → Some (at form.IsoE form.Tag form.Tag form.Val form.Tag form.Tag c) ≡ Some g → NoAlias g
iso_row g c is = subst NoAlias (same_Some (at form.IsoE form.Tag form.Tag form.Val form.Tag form.Tag c) g is) (in_row NoAlias form.IsoE form.Tag form.Tag form.Val form.Tag form.Tag tt tt tt tt tt tt c)

trn_row : (g : Form) (c : Cap) → Some (at form.IsoE form.Box form.Box form.Val form.Box form.Tag c) ≡ Some g → NoAlias g
trn_row g c is = subst NoAlias (same_Some (at form.IsoE form.Box form.Box form.Val form.Box form.Tag c) g is) (in_row NoAlias form.IsoE form.Box form.Box form.Val form.Box form.Tag tt tt tt tt tt tt c)

ref_row : (g : Form) (c : Cap) → Some (at form.IsoE form.TrnE form.Ref form.Val form.Box form.Tag c) ≡ Some g → NoAlias g
ref_row g c is = subst NoAlias (same_Some (at form.IsoE form.TrnE form.Ref form.Val form.Box form.Tag c) g is) (in_row NoAlias form.IsoE form.TrnE form.Ref form.Val form.Box form.Tag tt tt tt tt tt tt c)

taken_shares : (o g : Form) (c : Cap) → taken o c ≡ Some g → NoAlias g
taken_shares form.IsoE g c is = iso_row g c is
taken_shares form.Iso g c is = iso_row g c is
taken_shares form.TrnE g c is = trn_row g c is
taken_shares form.Trn g c is = trn_row g c is
taken_shares form.Ref g c is = ref_row g c is
taken_shares form.Val g c is = absurd (none-some g is)
taken_shares form.Box g c is = absurd (none-some g is)
taken_shares form.Tag g c is = absurd (none-some g is)

no_alias_in : (w : World) (i b l : ℕ) (g : Form) (q : ℕ) → NoAlias g → AliasIn w i b l g q
no_alias_in w i b l form.Iso q k = absurd k
no_alias_in w i b l form.Trn q k = absurd k
no_alias_in w i b l form.IsoE q k = tt
no_alias_in w i b l form.TrnE q k = tt
no_alias_in w i b l form.Ref q k = tt
no_alias_in w i b l form.Val q k = tt
no_alias_in w i b l form.Box q k = tt
no_alias_in w i b l form.Tag q k = tt

-- What is given up is not an alias.
pub taken_alias : (w : World) (i b l : ℕ) (o g : Form) (c : Cap) (v : Value) → taken o c ≡ Some g → Alias w i b l g v
taken_alias w i b l o g c (At a) is = no_alias_in w i b l g (w.region a) (taken_shares o g c is)
taken_alias w i b l o g c (Num n) is = tt
taken_alias w i b l o g c (Truth t) is = tt
taken_alias w i b l o g c (Text t) is = tt
taken_alias w i b l o g c (Prim e) is = tt

-- A form that no other shares, or one that others do.
given_up : (g : Form) → ((g ≡ form.IsoE) ⊎ (g ≡ form.TrnE)) ⊎ ((g ≡ form.IsoE → ⊥) × (g ≡ form.TrnE → ⊥))
given_up form.IsoE = inl (inl refl)
given_up form.TrnE = inl (inr refl)
given_up form.Iso = inr (λ e. cc, λ e. cc)
given_up form.Trn = inr (λ e. cc, λ e. cc)
given_up form.Ref = inr (λ e. cc, λ e. cc)
given_up form.Val = inr (λ e. cc, λ e. cc)
given_up form.Box = inr (λ e. cc, λ e. cc)
given_up form.Tag = inr (λ e. cc, λ e. cc)

-- ---- a field

-- This field of the object at this address.
abbrev pub the_field : Address → ℕ → Place → Bool
the_field a k (InField b n) = nat_eq a.maker b.maker && (nat_eq a.serial b.serial && nat_eq k n)
the_field a k (InSlot j g s l) = false
the_field a k (OnStack j g d l) = false
the_field a k (InMail j t n) = false

pub the_field_is : (a : Address) (k : ℕ) → the_field a k (InField a k) ≡ true
the_field_is a k = rw (eq-eqb a.maker a.maker refl, eq-eqb a.serial a.serial refl) (eq-eqb k k refl)

pub other_field : (a : Address) (k : ℕ) (b : Address) (n : ℕ) → (b ≡ a → n ≡ k → ⊥) → the_field a k (InField b n) ≡ false
other_field a k b n apart =
    elim (cases_eq b.maker a.maker) [
      | inl m ↦ elim (cases_eq b.serial a.serial) [
        | inl s ↦ and_right (nat_eq a.maker b.maker) (nat_eq a.serial b.serial && nat_eq k n) (and_right (nat_eq a.serial b.serial) (nat_eq k n) (ne_eqb k n (λ e. apart (address_is b a m s) (sym e))))
        | inr s ↦ and_right (nat_eq a.maker b.maker) (nat_eq a.serial b.serial && nat_eq k n) (and_left (nat_eq a.serial b.serial) (nat_eq k n) (ne_eqb a.serial b.serial (λ e. s (sym e))))
      ]
      | inr m ↦ and_left (nat_eq a.maker b.maker) (nat_eq a.serial b.serial && nat_eq k n) (ne_eqb a.maker b.maker (λ e. m (sym e)))
    ]

-- What a field holds at such a form is held there, or a child of the object's region.
owned : (w : World) (a : Address) (k : ℕ) (g : Form) (c : Cap) (q : ℕ) → (g ≡ form.IsoE) ⊎ (g ≡ form.TrnE) → unalias c ≡ g → FitsIn w (InField a k) (unalias c) q
    → (w.stands q ≡ Held (InField a k)) ⊎ (w.stands q ≡ Child (w.region a) (Some (InField a k)))
owned w a k g c q (inl e) is fits = inl (subst (λ (f : Form). FitsIn w (InField a k) f q) (is ∙ e) fits)
owned w a k g c q (inr e) is fits = inr (subst (λ (f : Form). FitsIn w (InField a k) f q) (is ∙ e) fits)

-- ---- the old value

module _ (objects : ObjectMap) (count i base d : ℕ) (here : i < count) (h n : ℕ) (a : Address) (k : ℕ) where
  -- An origin of the object at a, which stood at this place of the stack and is let go.
  pub record Through (u : World) (o : Form) : Type 0 where
    pub world : WorldOk u objects count
    pub top : u.top i ≡ base + d
    pub opened : OpenedTo u i base d
    pub writes : Writer o
    pub fits : FitsIn u (OnStack i h n (base + d)) o (u.region a)
    pub alias : AliasIn u i base (base + d) o (u.region a)

  -- The old value has come to where the origin was, and the origin's region stands as it did.
  pub record Drawn (u : World) (g : Form) (z : Value) : Type 0 where
    pub world : World
    pub shifts : Shifts u world objects count i base (the_field a k)
    pub top : world.top i ≡ u.top i
    pub opened : OpenedTo world i base d
    pub region : world.region a ≡ u.region a
    pub context : world.context i (base + d) ≡ u.context i (base + d)
    pub stands : world.stands (u.region a) ≡ u.stands (u.region a)
    pub fits : Fits world (OnStack i h n (base + d)) g z

  module _ (take : TakeLaw) (u : World) (o : Form) (t : Through u o) (c : Cap) (g : Form) (is : taken o c ≡ Some g) where
    stays : (z : Value) → Fits u (OnStack i h n (base + d)) g z → Drawn u g z
    stays z fits = record {
      world = u;
      shifts = shifts_none u objects count i base (the_field a k) t.world;
      top = refl;
      opened = t.opened;
      region = refl;
      context = refl;
      stands = refl;
      fits = fits;
    }

    level : base + d ≤ u.top i
    level = let top = t.top in omega (arith, top)

    draws : (b : Address) → (g ≡ form.IsoE) ⊎ (g ≡ form.TrnE) → FitsIn u (InField a k) (unalias c) (u.region b) → Drawn u g (At b)
    draws b own fits =
        let free = field_free u objects count i base d t.world here t.top h n a k o g c (u.region b) is own (writer_no_iso o t.writes) (writer_no_trn o t.writes) t.fits t.alias fits in
        let apart = origin_apart u a k objects count i base d t.world here t.top h n o (u.region b) t.writes t.fits t.alias (owned u a k g c (u.region b) own free.0 fits) in
        let above = λ (j : ℕ) (low : base < j) (up : j ≤ u.top i). t.opened j low (subst (λ (l : ℕ). j ≤ l) t.top up) in
        let got = take u objects count t.world i here base above (InField a k) (the_field a k) (the_field_is a k) h n (base + d) level g (At b) (subst (λ (f : Form). FitsIn u (InField a k) f (u.region b)) free.0 fits) free.1 free.2 in
        record {
          world = got.0;
          shifts = got.1.shifts;
          top = got.1.top i;
          opened = λ j low up. ap got.0.stands (got.1.context i j here (subst (λ (l : ℕ). j ≤ l) (sym t.top) up)) ∙ got.1.opened (u.context i j) i (t.opened j low up);
          region = ap (λ (r : Address → ℕ). r a) got.1.region;
          context = got.1.context i (base + d) here level;
          stands = got.1.others (u.region a) apart;
          fits = got.1.fits;
        }

    comes : (b : Address) → (g ≡ form.IsoE → ⊥) → (g ≡ form.TrnE → ⊥) → FitsIn u (InField a k) (unalias c) (u.region b) → Drawn u g (At b)
    comes b no_iso no_trn fits =
        stays (At b) (seen_through u objects count i base d t.world here t.top t.opened h n a k o g c (u.region b) (taken_views o g c is no_iso no_trn) t.fits t.alias (writer_no_iso o t.writes) (writer_no_trn o t.writes) fits).0

    -- What the field held comes to the stack, at the form at which the origin gives it up.
    pub draw : (z : Value) → Fits u (InField a k) (unalias c) z → Drawn u g z
    draw (At b) fits = elim (given_up g) [ inl own ↦ draws b own fits | inr seen ↦ comes b seen.0 seen.1 fits ]
    draw (Num m) fits = stays (Num m) tt
    draw (Truth m) fits = stays (Truth m) tt
    draw (Text m) fits = stays (Text m) tt
    draw (Prim m) fits = stays (Prim m) tt
