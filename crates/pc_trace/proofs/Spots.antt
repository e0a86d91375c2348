-- Fields are told apart by their numbers.
use Rattle.std.specs.Prelude.{◌≡◌, ◌≢◌, ℕ, Bool, true, false, ◌&&◌, nat_eq, refl}
use Rattle.std.proofs.{Common.{inl, inr, ap, sym, ◌∙◌}, lemmas.Bool.Decides.eqb_tells}
use Rattle.pc_trace.specs.{declared.lasts.Spot.Spot, Lasts.spot_eq}

same_spot : (a b : Spot) → a.maker ≡ b.maker → a.serial ≡ b.serial → a.field ≡ b.field → b ≡ a
same_spot a b m s f =
    sym (ap (λ (n : ℕ). record { maker = n; serial = a.serial; field = a.field }) m ∙ ap (λ (n : ℕ). record { maker = b.maker; serial = n; field = a.field }) s ∙ ap (λ (n : ℕ). record { maker = b.maker; serial = b.serial; field = n }) f)

first_false : (p q r : Bool) → p ≡ false → p && (q && r) ≡ false
first_false p q r e = ap (λ (b : Bool). b && (q && r)) e

second_false : (p q r : Bool) → q ≡ false → p && (q && r) ≡ false
second_false true q r e = ap (λ (b : Bool). b && r) e
second_false false q r e = refl

third_false : (p q r : Bool) → r ≡ false → p && (q && r) ≡ false
third_false true true r e = e
third_false true false r e = refl
third_false false q r e = refl

pub spot_apart : (a b : Spot) → b ≢ a → spot_eq a b ≡ false
spot_apart a b n =
    elim (eqb_tells a.maker b.maker) [
      | inr m ↦ first_false (nat_eq a.maker b.maker) (nat_eq a.serial b.serial) (nat_eq a.field b.field) m.0
      | inl m ↦
          elim (eqb_tells a.serial b.serial) [
            | inr s ↦ second_false (nat_eq a.maker b.maker) (nat_eq a.serial b.serial) (nat_eq a.field b.field) s.0
            | inl s ↦
                elim (eqb_tells a.field b.field) [
                  | inr f ↦ third_false (nat_eq a.maker b.maker) (nat_eq a.serial b.serial) (nat_eq a.field b.field) f.0
                  | inl f ↦ absurd (n (same_spot a b m.1 s.1 f.1))
                ]
          ]
    ]
