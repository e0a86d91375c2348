-- The turns of a list are exchanged, or keep their order: from what is known at their place to the whole list.
use Rattle.std.proofs.Common.{◌≡◌, ℕ, ◌+◌, ◌-◌, List, ◌∷◌, ◌++◌, length, get_or, take, sym, ap, ◌∙◌, subst}
use Rattle.std.specs.Prelude.{Err, Ok, None, slice_set}
use Rattle.pc_core.specs.CoreData.{CoreData}
use Rattle.pc_machine.specs.Machines.{MachineData}
use Rattle.pc_semantics.specs.{Configurations.Configuration, Step.{after, outcomes}, Safety.Safe, Text.end_of}
use Rattle.pc_list_steps.specs.Ends.{IsMachineAfter}
use Rattle.pc_swap.specs.{Apart.{Apart, IsKept}, Ends.SwapEnds, declared.kept.Kept.Kept}
use Rattle.pc_swap.specs.declared.kept.SwapFault.TheVariants as fault
use Rattle.pc_swap.proofs.{Places.{taken, first_turn, second_turn, turns_exchanged}, Orders.{steps_swap, whole_lists_swap}}

module _ (core : CoreData) (list front rest : List ℕ) (i j place : ℕ) (is : list ≡ front ++ i ∷ j ∷ rest) (at : place ≡ length front + 1) (f : List ℕ) (cut : f ≡ take (place - 1) list) where
  front_is : f ≡ front
  front_is = cut ∙ taken list front rest i j place is at

  module _ (m : MachineData) (goes_on : end_of (outcomes core f) ≡ None) (behind : IsMachineAfter core f m) (a b : ℕ) (first : a ≡ get_or list (place - 1) 0) (second : b ≡ get_or list place 0) where
    -- What holds in the machine of these two actors holds after the front.
    there : (P : CoreData → Configuration → ℕ → ℕ → Type 0) → P m.core m.configuration a b → P core (after core front) i j
    there P h =
        let at_core : P core m.configuration a b = subst (λ (x : CoreData). P x m.configuration a b) behind.0 h in
        let at_front : P core (after core front) a b = subst (λ (c : Configuration). P core c a b) (behind.1 ∙ ap (after core) front_is) at_core in
        let of_first : P core (after core front) i b = subst (λ n. P core (after core front) n b) (first ∙ first_turn list front rest i j place is at) at_front in
        subst (λ n. P core (after core front) i n) (second ∙ second_turn list front rest i j place is at) of_first

    front_goes_on : end_of (outcomes core front) ≡ None
    front_goes_on = ap (λ (xs : List ℕ). end_of (outcomes core xs)) (sym front_is) ∙ goes_on

    -- The turns are kept.
    pub kept_here : (k : Kept) → IsKept m.core m.configuration a b k → SwapEnds core front i j rest (Err (fault.Kept k))
    kept_here k h = (front_goes_on, there (λ x c p q. IsKept x c p q k) h)

    -- The turns are exchanged.
    pub exchanged_here : Safe core → Apart m.core m.configuration a b → (new : List ℕ) → new ≡ slice_set (slice_set list (place - 1) (get_or list place 0)) place (get_or list (place - 1) 0) → SwapEnds core front i j rest (Ok new)
    exchanged_here safe h new made =
        let apart : Apart core (after core front) i j = there Apart h in
        let new_is : new ≡ front ++ j ∷ i ∷ rest = made ∙ turns_exchanged list front rest i j place is at in
        record {
          goes_on = front_goes_on;
          apart = apart;
          new_is = new_is;
          swapped = (steps_swap core safe front i j apart).0;
          same = ap (after core) new_is ∙ sym (whole_lists_swap core safe front i j rest apart);
        }
