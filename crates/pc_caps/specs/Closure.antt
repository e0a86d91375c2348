-- The table of the order is the closure of the ten pairs.
use Rattle.std.proofs.Common.{◌≡◌, Bool, true, false, List, [], ◌∷◌, refl, inl, inr, ◌&&◌, ◌||◌, not, IsTrue, ◌↔◌}
use Rattle.pc_base.proofs.Bools.{first_true, second_true}
use Rattle.pc_caps.specs.{Tables.{pairs, IsPairIn, IsBelow}, Computed.is_below, Tables.IsBelow.{same, step}, declared.capability.Form.Form, declared.capability.Form.TheVariants.{IsoE, TrnE, Iso, Trn, Ref, Val, Box, Tag}}

-- reflexivity
reflexive : (a : Form) → is_below a a ≡ true
reflexive IsoE = refl
reflexive TrnE = refl
reflexive Iso = refl
reflexive Trn = refl
reflexive Ref = refl
reflexive Val = refl
reflexive Box = refl
reflexive Tag = refl

-- if each pair in a list is consistent with the table, so is any one of them
abbrev keeps : List (Form × Form) → Form → Bool
keeps [] c = true
keeps (p ∷ ps) c = (not (is_below p.1 c) || is_below p.0 c) && keeps ps c

keeps_all : (c : Form) → keeps pairs c ≡ true
keeps_all IsoE = refl
keeps_all TrnE = refl
keeps_all Iso = refl
keeps_all Trn = refl
keeps_all Ref = refl
keeps_all Val = refl
keeps_all Box = refl
keeps_all Tag = refl

implied : (x y : Bool) → (not x || y) ≡ true → x ≡ true → y ≡ true
implied true y e h = e
implied false y e h = cc

-- extending a path on the left keeps the table true
kept : (ps : List (Form × Form)) (a b c : Form) → keeps ps c ≡ true → IsPairIn ps a b → is_below b c ≡ true → is_below a c ≡ true
kept [] a b c e s h = absurd s
kept (p ∷ ps) a b c e (inl s) h =
    let here = implied (is_below p.1 c) (is_below p.0 c) (first_true _ _ e) in
    let there : is_below p.1 c ≡ true = rw s.1 h in
    rw s.0 at (here there)
kept (p ∷ ps) a b c e (inr s) h = kept ps a b c (second_true _ _ e) s h

complete : {a b : Form} → IsBelow a b → is_below a b ≡ true
complete (same {a = a}) = reflexive a
complete (step {a = a} {b = b} {c = c} s t) = kept pairs a b c (keeps_all c) s (complete t)

-- the ten pairs, by their places in the list
box_tag : {c : Form} → IsBelow Tag c → IsBelow Box c
box_tag t = step (inr (inr (inr (inr (inr (inr (inr (inr (inl (refl, refl)))))))))) t

iso_tag : {c : Form} → IsBelow Tag c → IsBelow Iso c
iso_tag t = step (inr (inr (inr (inr (inr (inr (inr (inr (inr (inl (refl, refl))))))))))) t

trn_box : {c : Form} → IsBelow Box c → IsBelow Trn c
trn_box t = step (inr (inr (inr (inr (inr (inl (refl, refl))))))) t

ref_box : {c : Form} → IsBelow Box c → IsBelow Ref c
ref_box t = step (inr (inr (inr (inr (inr (inr (inl (refl, refl)))))))) t

val_box : {c : Form} → IsBelow Box c → IsBelow Val c
val_box t = step (inr (inr (inr (inr (inr (inr (inr (inl (refl, refl))))))))) t

trne_trn : {c : Form} → IsBelow Trn c → IsBelow TrnE c
trne_trn t = step (inr (inr (inl (refl, refl)))) t

trne_ref : {c : Form} → IsBelow Ref c → IsBelow TrnE c
trne_ref t = step (inr (inr (inr (inl (refl, refl))))) t

trne_val : {c : Form} → IsBelow Val c → IsBelow TrnE c
trne_val t = step (inr (inr (inr (inr (inl (refl, refl)))))) t

isoe_trne : {c : Form} → IsBelow TrnE c → IsBelow IsoE c
isoe_trne t = step (inl (refl, refl)) t

isoe_iso : {c : Form} → IsBelow Iso c → IsBelow IsoE c
isoe_iso t = step (inr (inl (refl, refl))) t

sound : (a b : Form) → is_below a b ≡ true → IsBelow a b
sound IsoE IsoE e = same
sound IsoE TrnE e = isoe_trne same
sound IsoE Iso e = isoe_iso same
sound IsoE Trn e = isoe_trne (trne_trn same)
sound IsoE Ref e = isoe_trne (trne_ref same)
sound IsoE Val e = isoe_trne (trne_val same)
sound IsoE Box e = isoe_trne (trne_trn (trn_box same))
sound IsoE Tag e = isoe_iso (iso_tag same)
sound TrnE TrnE e = same
sound TrnE Trn e = trne_trn same
sound TrnE Ref e = trne_ref same
sound TrnE Val e = trne_val same
sound TrnE Box e = trne_trn (trn_box same)
sound TrnE Tag e = trne_trn (trn_box (box_tag same))
sound Iso Iso e = same
sound Iso Tag e = iso_tag same
sound Trn Trn e = same
sound Trn Box e = trn_box same
sound Trn Tag e = trn_box (box_tag same)
sound Ref Ref e = same
sound Ref Box e = ref_box same
sound Ref Tag e = ref_box (box_tag same)
sound Val Val e = same
sound Val Box e = val_box same
sound Val Tag e = val_box (box_tag same)
sound Box Box e = same
sound Box Tag e = box_tag same
sound Tag Tag e = same
sound a b e = absurd (let bad : false ≡ true = e in cc)

-- the table is true iff the closure holds
pub below_iff : (a b : Form) → IsTrue (is_below a b) ↔ IsBelow a b
below_iff a b = (λ h. sound a b h, λ t. complete t)
