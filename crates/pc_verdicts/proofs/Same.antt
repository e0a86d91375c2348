-- Whether two things are the same is decidable.
use Rattle.std.proofs.{Common.{◌≡◌, ◌⊎◌, ℕ, zero, suc, Option, Some, None, inl, inr, refl, sym, ap, ◌∙◌}, lemmas.Bool.cases_eq, lemmas.Option.{none-some, same_Some}}
use Rattle.pc_caps.specs.{declared.capability.Cap.Cap, declared.capability.Form.Form}
use Rattle.pc_caps.specs.declared.capability.Cap.TheVariants as cap
use Rattle.pc_caps.specs.declared.capability.Form.TheVariants as form
use Rattle.pc_masks.specs.declared.mask.Mask.{Mask}
use Rattle.pc_rules.specs.declared.said.Said.{Said}

-- It holds, or it does not.
abbrev pub Told : Type 0 → Type 0
Told P = P ⊎ (P → ⊥)

-- What has a number each.
by_number : {A : Type 0} → (number : A → ℕ) (of : ℕ → A) → ((a : A) → of (number a) ≡ a) → (a b : A) → Told (a ≡ b)
by_number number of back a b = elim (cases_eq (number a) (number b)) [ inl e ↦ inl (sym (back a) ∙ ap of e ∙ back b) | inr n ↦ inr (λ e. n (ap number e)) ]

abbrev cap_number : Cap → ℕ
cap_number cap.Iso = 0
cap_number cap.Trn = 1
cap_number cap.Ref = 2
cap_number cap.Val = 3
cap_number cap.Box = 4
cap_number cap.Tag = 5

abbrev cap_of : ℕ → Cap
cap_of zero = cap.Iso
cap_of (suc zero) = cap.Trn
cap_of (suc (suc zero)) = cap.Ref
cap_of (suc (suc (suc zero))) = cap.Val
cap_of (suc (suc (suc (suc zero)))) = cap.Box
cap_of (suc (suc (suc (suc (suc n))))) = cap.Tag

cap_back : (k : Cap) → cap_of (cap_number k) ≡ k
cap_back cap.Iso = refl
cap_back cap.Trn = refl
cap_back cap.Ref = refl
cap_back cap.Val = refl
cap_back cap.Box = refl
cap_back cap.Tag = refl

abbrev form_number : Form → ℕ
form_number form.Iso = 0
form_number form.Trn = 1
form_number form.Ref = 2
form_number form.Val = 3
form_number form.Box = 4
form_number form.Tag = 5
form_number form.IsoE = 6
form_number form.TrnE = 7

abbrev form_of : ℕ → Form
form_of zero = form.Iso
form_of (suc zero) = form.Trn
form_of (suc (suc zero)) = form.Ref
form_of (suc (suc (suc zero))) = form.Val
form_of (suc (suc (suc (suc zero)))) = form.Box
form_of (suc (suc (suc (suc (suc zero))))) = form.Tag
form_of (suc (suc (suc (suc (suc (suc zero)))))) = form.IsoE
form_of (suc (suc (suc (suc (suc (suc (suc n))))))) = form.TrnE

form_back : (f : Form) → form_of (form_number f) ≡ f
form_back form.Iso = refl
form_back form.Trn = refl
form_back form.Ref = refl
form_back form.Val = refl
form_back form.Box = refl
form_back form.Tag = refl
form_back form.IsoE = refl
form_back form.TrnE = refl

-- ---- pairs and options

same_pair : {A : Type 0} → ((a b : A) → Told (a ≡ b)) → (p q : ℕ × A) → Told (p ≡ q)
same_pair {A} same (n, a) (m, b) = elim (cases_eq n m) [
  | inl e ↦ elim (same a b) [
    | inl f ↦ inl (ap (λ (k : ℕ). (k, a)) e ∙ ap (λ (x : A). (m, x)) f)
    | inr d ↦ inr (λ g. d (ap (λ (p : ℕ × A). p.1) g))
  ]
  | inr d ↦ inr (λ g. d (ap (λ (p : ℕ × A). p.0) g))
]

pub same_option : {A : Type 0} → ((a b : A) → Told (a ≡ b)) → (o p : Option A) → Told (o ≡ p)
same_option same None None = inl refl
same_option same None (Some b) = inr (λ e. none-some b e)
same_option same (Some a) None = inr (λ e. none-some a (sym e))
same_option same (Some a) (Some b) = elim (same a b) [ inl e ↦ inl (ap Some e) | inr d ↦ inr (λ e. d (same_Some a b e)) ]

pub same_type : (t u : ℕ × Cap) → Told (t ≡ u)
same_type = same_pair (by_number cap_number cap_of cap_back)

-- ---- what a rule states

same_mask : (a b : Mask) → Told (a ≡ b)
same_mask a b = elim (cases_eq a.0 b.0) [ inl e ↦ inl (ap (λ (n : ℕ). record { 0 = n }) e) | inr d ↦ inr (λ e. d (ap (λ (m : Mask). m.0) e)) ]

pub same_said : (p q : Said) → Told (p ≡ q)
same_said p q = elim (same_option (same_pair (by_number form_number form_of form_back)) p.ty q.ty) [
  | inl e ↦ elim (same_mask p.live q.live) [
    | inl f ↦ elim (same_mask p.set q.set) [
      | inl g ↦ inl (ap (λ (x : Option (ℕ × Form)). record { ty = x; live = p.live; set = p.set }) e
          ∙ ap (λ (x : Mask). record { ty = q.ty; live = x; set = p.set }) f
          ∙ ap (λ (x : Mask). record { ty = q.ty; live = q.live; set = x }) g)
      | inr d ↦ inr (λ h. d (ap (λ (s : Said). s.set) h))
    ]
    | inr d ↦ inr (λ h. d (ap (λ (s : Said). s.live) h))
  ]
  | inr d ↦ inr (λ h. d (ap (λ (s : Said). s.ty) h))
]
