-- A file has as few members as its names were counted to have.
use Rattle.std.proofs.{Common.{◌≡◌, ℕ, suc, ◌+◌, ◌≤◌, List, [], ◌∷◌, length, map, arith}, lemmas.Bool.ltb-false, lemmas.List.{length-append, length-map}}
use Rattle.std.specs.Prelude.{nat_lt}
use Rattle.pc_tree.specs.Tree as t
use Rattle.pc_base.proofs.Cuts.{nil_left, nil_right}
use Rattle.pc_names.specs.declared.fault.NameFault.TheVariants as fault
use Rattle.pc_names.specs.declared.fault.Which.TheVariants as which
use Rattle.pc_names.specs.{Faults.count_faults, Parts.{where_, method_count}}
use Rattle.pc_base.specs.Limits.{method_limit}
use Rattle.pc_tree.specs.Kinds.{first_own}
use Rattle.pc_members.specs.MemberLists.{members}
use Rattle.pc_file_spec.specs.Cores.{owned, members_from}
use Rattle.pc_names.proofs.Founded.{where_none}
use Rattle.pc_file_spec.proofs.Collects.{Collects}

count_members : (all es : List t.Entity) (n k : ℕ) → n ≤ method_limit → count_faults all n es ≡ [] → n + length (members_from all k es) ≤ method_limit
count_members all [] n k low h = omega (arith, low)
count_members all (e ∷ es) n k low h =
    let here : ℕ = n + method_count all e in
    let within : here ≤ method_limit = ltb-false method_limit here (where_none (nat_lt method_limit here) (fault.TooMany which.Methods e.name.span) (nil_left (where_ (nat_lt method_limit here) (fault.TooMany which.Methods e.name.span)) (count_faults all here es) h)) in
    let rest = count_members all es here (suc k) within (nil_right (where_ (nat_lt method_limit here) (fault.TooMany which.Methods e.name.span)) (count_faults all here es) h) in
    let both : length (members_from all k (e ∷ es)) ≡ length (map (owned k e) (members all e)) + length (members_from all (suc k) es) = length-append (map (owned k e) (members all e)) (members_from all (suc k) es) in
    let own : length (map (owned k e) (members all e)) ≡ length (members all e) = length-map (members all e) (owned k e) in
    omega (arith, rest, both, own)

pub members_limited : (file : t.File) (above : List (List ℕ)) → Collects file above → length (members_from file.entities first_own file.entities) ≤ method_limit
members_limited file above c = let few = count_members file.entities file.entities 0 first_own (omega arith) c.counts in omega (arith, few)
