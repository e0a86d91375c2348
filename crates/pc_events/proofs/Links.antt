-- The last link of a chain: what a clock is made of.
use Rattle.std.specs.Prelude.{◌≡◌, ◌⊎◌, ℕ, ◌<◌, List, refl}
use Rattle.std.proofs.Common.{inl, inr, subst}
use Rattle.pc_core.specs.CoreData.{CoreData}
use Rattle.pc_events.specs.Before.{Event, Carries, Before, own, carried, chain}

-- Two events of one actor, or what puts a message and the take of it.
abbrev pub Link : CoreData → List ℕ → ℕ → ℕ → Type 0
Link core list p q = ((i : ℕ) × (p < q) × Event core list p i × Event core list q i) ⊎ Carries core list p q

-- What is before q is the start of a last link, or before it.
pub last_link : (core : CoreData) (list : List ℕ) (p q : ℕ) → Before core list p q → (m : ℕ) × Link core list m q × ((p ≡ m) ⊎ Before core list p m)
last_link core list p q (own i r s l e f) = (p, inl (i, l, e, f), inl refl)
last_link core list p q (carried r s c) = (p, inr c, inl refl)
last_link core list p q (chain r s t a b) =
    let k = last_link core list s q b in
    (k.0, k.1, inr (elim k.2 [ inl e ↦ subst (λ (z : ℕ). Before core list p z) e a | inr c ↦ chain p s k.0 a c ]))
