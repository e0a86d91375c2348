-- Of the tables: nothing sees more than what it comes from.
use Rattle.std.specs.Prelude.{◌≡◌, true, false, Option, Some, None, refl}
use Rattle.std.proofs.{Common.{ap, ◌∙◌}, lemmas.Option.{same_Some, none-some}}
use Rattle.pc_caps.specs.{Tables.{IsBelow, plain, unalias, view, taken, lift}, Computed.{is_below, fits}, Closure.below_iff, declared.capability.Cap.Cap, declared.capability.Form.Form}
use Rattle.pc_caps.specs.declared.capability.Cap.TheVariants as cap
use Rattle.pc_caps.specs.declared.capability.Form.TheVariants as form
use Rattle.pc_base.proofs.Options.{kept}
use Rattle.pc_rules.specs.Control.{recovered}
use Rattle.pc_types.proofs.Types.{sees}

-- What is below what sees, sees.
below_tag : (b : Form) → is_below form.Tag b ≡ true → sees b ≡ true → false ≡ true
below_tag form.Tag e h = h
below_tag b e h = e

pub below_sees : (a b : Form) → is_below a b ≡ true → sees b ≡ true → sees a ≡ true
below_sees form.Tag b e h = below_tag b e h
below_sees a b e h = refl

pub order_sees : (a b : Form) → IsBelow a b → sees b ≡ true → sees a ≡ true
order_sees a b p = below_sees a b ((below_iff a b).1 p)

-- A place sees as much as what is stored there has to.
pub unalias_sees : (k : Cap) → sees (unalias k) ≡ sees (plain k)
unalias_sees cap.Iso = refl
unalias_sees cap.Trn = refl
unalias_sees cap.Ref = refl
unalias_sees cap.Val = refl
unalias_sees cap.Box = refl
unalias_sees cap.Tag = refl

pub fits_sees : (f : Form) (k : Cap) → fits f k ≡ true → sees (plain k) ≡ true → sees f ≡ true
fits_sees f k e h = below_sees f (unalias k) e (unalias_sees k ∙ h)

-- What is read through an origin: the origin sees, and the field sees what is seen.
pub view_sees : (o : Form) (k : Cap) (f : Form) → view o k ≡ Some f → sees o ≡ true
view_sees form.Tag k f e = absurd (none-some f e)
view_sees o k f e = refl

tag_seen : (f : Form) → Some form.Tag ≡ Some f → sees f ≡ true → false ≡ true
tag_seen f e h = ap sees (same_Some form.Tag f e) ∙ h

pub view_plain : (o : Form) (k : Cap) (f : Form) → view o k ≡ Some f → sees f ≡ true → sees (plain k) ≡ true
view_plain form.IsoE cap.Tag f e h = tag_seen f e h
view_plain form.Iso cap.Tag f e h = tag_seen f e h
view_plain form.TrnE cap.Tag f e h = tag_seen f e h
view_plain form.Trn cap.Tag f e h = tag_seen f e h
view_plain form.Ref cap.Tag f e h = tag_seen f e h
view_plain form.Val cap.Tag f e h = tag_seen f e h
view_plain form.Box cap.Tag f e h = tag_seen f e h
view_plain form.Tag k f e h = absurd (none-some f e)
view_plain o cap.Iso f e h = refl
view_plain o cap.Trn f e h = refl
view_plain o cap.Ref f e h = refl
view_plain o cap.Val f e h = refl
view_plain o cap.Box f e h = refl

pub taken_sees : (o : Form) (k : Cap) (f : Form) → taken o k ≡ Some f → sees o ≡ true
taken_sees form.Tag k f e = absurd (none-some f e)
taken_sees o k f e = refl

pub taken_plain : (o : Form) (k : Cap) (f : Form) → taken o k ≡ Some f → sees f ≡ true → sees (plain k) ≡ true
taken_plain form.IsoE cap.Tag f e h = tag_seen f e h
taken_plain form.Iso cap.Tag f e h = tag_seen f e h
taken_plain form.TrnE cap.Tag f e h = tag_seen f e h
taken_plain form.Trn cap.Tag f e h = tag_seen f e h
taken_plain form.Ref cap.Tag f e h = tag_seen f e h
taken_plain form.Val k f e h = absurd (none-some f e)
taken_plain form.Box k f e h = absurd (none-some f e)
taken_plain form.Tag k f e h = absurd (none-some f e)
taken_plain o cap.Iso f e h = refl
taken_plain o cap.Trn f e h = refl
taken_plain o cap.Ref f e h = refl
taken_plain o cap.Val f e h = refl
taken_plain o cap.Box f e h = refl

-- What comes out of a recover.
pub lift_sees : (f : Form) → sees (lift f) ≡ true → sees f ≡ true
lift_sees form.Tag h = h
lift_sees f h = refl

pub recovered_sees : (k : Option Cap) (f g : Form) → recovered k f ≡ Some g → sees g ≡ true → sees f ≡ true
recovered_sees None f g e h = lift_sees f (ap sees (same_Some (lift f) g e) ∙ h)
recovered_sees (Some k) f g e h =
    let p = kept (fits (lift f) k) (Some (unalias k)) g e in
    lift_sees f (below_sees (lift f) (unalias k) p.0 (ap sees (same_Some (unalias k) g p.1) ∙ h))
