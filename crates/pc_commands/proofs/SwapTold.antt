-- From the result of the exchange of two turns to what is reported of them, and what its verdicts have.
use Rattle.std.proofs.Common.{◌≡◌, ◌≤◌, ◌<◌, ◌+◌, ℕ, List, [], ◌∷◌, ◌++◌, length, Ok, Err, inl, inr, refl, sym, ap, subst, arith}
use Rattle.std.specs.Prelude.{Result}
use Rattle.pc_core.specs.CoreData.{CoreData}
use Rattle.pc_sched_lines.specs.Lines.{IsLine}
use Rattle.pc_sched.specs.Schedules.{turn_limit}
use Rattle.pc_swap.specs.{Ends.SwapEnds, declared.kept.Kept.Kept, declared.kept.SwapFault.SwapFault}
use Rattle.pc_swap.specs.declared.kept.SwapFault.TheVariants as fault
use Rattle.pc_base.specs.Lists.{Text}
use Rattle.pc_refusal_lines.specs.Lines.{too_long_line}
use Rattle.pc_refusals.specs.Verdict.{IsAccepting, Verdict, refused}
use Rattle.pc_refusals.proofs.Statuses.{IsLate}
use Rattle.pc_commands.specs.{Swap.{Neighbours, StandAt, SwapText, Swapping, kept_line}, Swap.SwapText.{exchanged, stay}, Swap.Swapping.{no_place, tells, too_long}}
use Rattle.pc_commands.proofs.Neighbouring.{length_exchanged, turns_at}

module _ (name : Text) (core : CoreData) (list : List ℕ) (place : ℕ) (some : 1 ≤ place) (within : place < length list) where
  -- the result of the exchange, whatever turns are there
  abbrev Swaps : Result (List ℕ) SwapFault → Type 0
  Swaps result = (front rest : List ℕ) (i j : ℕ) → list ≡ front ++ i ∷ j ∷ rest → place ≡ length front + 1 → SwapEnds core front i j rest result

  there : (result : Result (List ℕ) SwapFault) → Swaps result → (t : Neighbours) × StandAt list place t × SwapEnds core t.front t.i t.j t.rest result
  there result ends = let t = turns_at list place some within in (t.0, t.1, ends t.0.front t.0.rest t.0.i t.0.j t.1.0 t.1.1)

  pub new_short : (new : List ℕ) → length list ≤ turn_limit → Swaps (Ok new) → length new ≤ turn_limit
  new_short new few ends =
      let t = there (Ok new) ends in
      let same = ap (λ (l : List ℕ). length l) t.2.new_is in
      let other = length_exchanged list place t.0 t.1 in
      omega (arith, same, other, few)

  pub new_told : (new text : List ℕ) → Swaps (Ok new) → IsLine new text → Swapping name core list place (Ok text)
  new_told new text ends line = let t = there (Ok new) ends in tells t.0 text t.1 (exchanged new t.2 line)

  pub kept_told : (reason : Kept) (text : Text) → Swaps (Err (fault.Kept reason)) → text ≡ kept_line reason → Swapping name core list place (Ok text)
  kept_told reason text ends is = let t = there (Err (fault.Kept reason)) ends in tells t.0 text t.1 (stay reason t.2.0 t.2.1 is)

  pub long_told : (n : ℕ) (line : Text) → Swaps (Err (fault.TooLong n)) → line ≡ too_long_line name n → Swapping name core list place (Err (refused 12 line))
  long_told n line ends is =
      let t = there (Err (fault.TooLong n)) ends in
      subst (λ (l : Text). Swapping name core list place (Err (refused 12 l))) (sym is) (too_long t.0 n t.1 t.2)

-- ---- its verdicts

pub swapping_late : {name : Text} {core : CoreData} {list : List ℕ} {place : ℕ} {v : Verdict} → Swapping name core list place (Err v) → IsLate v.status
swapping_late (no_place past) = inr (inr (inr refl))
swapping_late (too_long t n a h) = inr (inr (inl refl))

pub swap_says : {name : Text} {core : CoreData} {list : List ℕ} {place : ℕ} {text : Text} → Swapping name core list place (Ok text) → (t : Neighbours) × StandAt list place t × SwapText core t text
swap_says (tells t text a h) = (t, a, h)

fifteen_refuses : IsAccepting 15 → ⊥
fifteen_refuses (inl e) = omega (arith, e)
fifteen_refuses (inr e) = omega (arith, e)

-- if a text ended the run
pub swap_cut : {name : Text} {core : CoreData} {list : List ℕ} {place : ℕ} {v : Verdict} → Swapping name core list place (Err v) → IsAccepting v.status → (v.status ≡ 12) × (v.out ≡ [])
swap_cut (no_place past) e = absurd (fifteen_refuses e)
swap_cut (too_long t n a h) e = (refl, refl)
