-- The first fault of a list, and its place.
use Rattle.std.proofs.{Common.{◌≡◌, ℕ, zero, suc, ◌<◌, List, [], ◌∷◌, ◌++◌, Some, refl, sym, ap, ◌∙◌, inl, inr, arith}, lemmas.Option.{same_Some, none-some}}
use Rattle.std.specs.Prelude.{◌⊎◌, slice_get}
use Rattle.pc_base.specs.Lists.{Has, Ascends}
use Rattle.pc_names.specs.{declared.fault.NameFault.NameFault, Faults.IsFirstNameFault}
use Rattle.pc_names.specs.declared.fault.NameFault.TheVariants as fault
use Rattle.pc_body_spec.proofs.Places.{Sub, Rising, rising}

abbrev pub Heads : {T : Type 0} → List T → T → Type 0
Heads fs f = slice_get fs 0 ≡ Some f

-- The first element of two lists is that of the first, or if this is empty that of the second.
pub heads_either : {T : Type 0} (fs gs : List T) (f : T) → Heads (fs ++ gs) f → Heads fs f ⊎ ((fs ≡ []) × Heads gs f)
heads_either [] gs f h = inr (refl, h)
heads_either (x ∷ fs) gs f h = inl h

pub has_head : {T : Type 0} (fs : List T) (f : T) → Heads fs f → Has fs f
has_head fs f h = (0, h)

pub none_has : {T : Type 0} (fs : List T) (f : T) → fs ≡ [] → Has fs f → ⊥
none_has fs f e h = none-some f (ap (λ l. slice_get l h.0) (sym e) ∙ h.1)

pub heads_first : (f : NameFault) (fs : List NameFault) → Heads fs f → IsFirstNameFault f fs
heads_first (fault.Double s) fs h = h
heads_first (fault.Unknown s) fs h = h
heads_first fault.NoMain fs h = h
heads_first (fault.BadMain s) fs h = h
heads_first (fault.Cycle s) fs h = h
heads_first (fault.TooMany w s) fs h = h
heads_first fault.Memory fs h = tt

-- ---- in the order of the text

-- The one is the other, or starts before it.
abbrev pub Least : {T : Type 0} → (T → ℕ) → T → T → Type 0
Least start f g = (f ≡ g) ⊎ (start f < start g)

rising_least : {T : Type 0} (start : T → ℕ) (fs : List T) → Rising start fs → (f g : T) → Heads fs f → Has fs g → Least start f g
rising_least start [] r f g h has = absurd (none-some f h)
rising_least start (x ∷ fs) r f g h (zero, e) = inl (same_Some f g (sym h ∙ e))
rising_least start (x ∷ fs) r f g h (suc i, e) =
    let l : start x < start g = r.0 i g e in
    let same = ap start (same_Some x f h) in
    inr (omega (arith, l, same))

pub least_of : {T : Type 0} (start : T → ℕ) (fs : List T) (places : List ℕ) → Sub start fs places → Ascends places → (f g : T) → Heads fs f → Has fs g → Least start f g
least_of start fs places s a f g h has = rising_least start fs (rising start fs places s a) f g h has
