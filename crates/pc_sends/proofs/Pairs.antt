-- A list of pairs of numbers as a set.
use Rattle.std.specs.{Prelude.{◌≡◌, ℕ, true, ◌&&◌, List, [], ◌∷◌, nat_eq, Some}, List.list_any}
use Rattle.std.proofs.{Common.{inl, inr, ap, sym, ◌∙◌}, lemmas.Bool.{and_parts, or_cases, eqb-true}}
use Rattle.pc_base.specs.Lists.{Has}
use Rattle.pc_base.proofs.{Bools.false_true, Elements.has_on}

same_pair : (a b : ℕ) (p : ℕ × ℕ) → (nat_eq a p.0 && nat_eq b p.1) ≡ true → p ≡ (a, b)
same_pair a b (c, d) e =
    let k = and_parts (nat_eq a c) (nat_eq b d) e in
    ap (λ (x : ℕ). (x, d)) (sym (eqb-true a c k.0)) ∙ ap (λ (x : ℕ). (a, x)) (sym (eqb-true b d k.1))

pub pair_has : (a b : ℕ) (ps : List (ℕ × ℕ)) → list_any (λ (p : ℕ × ℕ). nat_eq a p.0 && nat_eq b p.1) ps ≡ true → Has ps (a, b)
pair_has a b [] e = absurd (false_true e)
pair_has a b (p ∷ ps) e =
    elim (or_cases (nat_eq a p.0 && nat_eq b p.1) (list_any (λ (p : ℕ × ℕ). nat_eq a p.0 && nat_eq b p.1) ps) e) [
      | inl h ↦ (0, ap Some (same_pair a b p h))
      | inr h ↦ has_on p ps (a, b) (pair_has a b ps h)
    ]
