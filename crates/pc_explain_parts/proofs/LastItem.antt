-- Steps through sequences, with as many left as there are nodes not counted yet.
use Rattle.std.proofs.Common.{◌≡◌, ◌<◌, ◌≤◌, ◌+◌, ◌-◌, ℕ, zero, suc, Some, None, refl, ap, ◌∙◌, arith}
use Rattle.std.specs.Prelude.{slice_get}
use Rattle.pc_core.specs.CoreData.{CoreData}
use Rattle.pc_explain_parts.specs.Parts.{last_item, last_of_seq, last_or}

pub goes_on : (core : CoreData) (count i n c : ℕ) → i < count → last_of_seq (slice_get core.nodes n) ≡ Some c
    → last_item core (count - i) n ≡ last_item core (count - (i + 1)) c
goes_on core count i n c l e =
    let left : count - i ≡ suc (count - (i + 1)) = omega (arith, l) in
    ap (λ k. last_item core k n) left ∙ ap (λ o. last_item core (count - (i + 1)) (last_or n o)) e

pub stops : (core : CoreData) (d n : ℕ) → last_of_seq (slice_get core.nodes n) ≡ None → last_item core d n ≡ n
stops core zero n e = refl
stops core (suc d) n e = ap (λ o. last_item core d (last_or n o)) e ∙ stops core d n e

pub none_left : (core : CoreData) (count i n : ℕ) → count ≤ i → last_item core (count - i) n ≡ n
none_left core count i n e =
    let left : count - i ≡ zero = omega (arith, e) in
    ap (λ k. last_item core k n) left
