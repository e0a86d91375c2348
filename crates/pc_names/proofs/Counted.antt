-- The number of a file's methods is that of its members.
use Rattle.std.proofs.{Common.{◌≡◌, ℕ, ◌+◌, List, [], ◌∷◌, ◌++◌, map, length, refl, ap, ◌∙◌}, lemmas.List.length-map}
use Rattle.std.specs.Prelude.{nat_lt}
use Rattle.pc_tree.specs.{View.entity_view, declared.file.Entity.Entity}
use Rattle.pc_tree.specs.Tree as t
use Rattle.pc_names.specs.declared.fault.NameFault.TheVariants as fault
use Rattle.pc_names.specs.declared.fault.Which.TheVariants as which
use Rattle.pc_names.specs.{Faults.count_faults, Parts.{where_, method_count, faults_by_count}}
use Rattle.pc_base.specs.Limits.{method_limit}

by_count : (all : List t.Entity) (n : ℕ) (es : List t.Entity) → faults_by_count n es (map (method_count all) es) ≡ count_faults all n es
by_count all n [] = refl
by_count all n (e ∷ es) = ap (λ fs. where_ (nat_lt method_limit (n + method_count all e)) (fault.TooMany which.Methods e.name.span) ++ fs) (by_count all (n + method_count all e) es)

abbrev pub AreCounts : List Entity → List ℕ → Type 0
AreCounts all counts = counts ≡ map (method_count (map entity_view all)) (map entity_view all)

pub counts_alike : (all : List Entity) (counts : List ℕ) → AreCounts all counts → length counts ≡ length all
counts_alike all counts e = ap length e ∙ length-map (map entity_view all) (method_count (map entity_view all)) ∙ length-map all entity_view

pub counted : (all : List Entity) (counts : List ℕ) → AreCounts all counts → faults_by_count 0 (map entity_view all) counts ≡ count_faults (map entity_view all) 0 (map entity_view all)
counted all counts e = ap (faults_by_count 0 (map entity_view all)) e ∙ by_count (map entity_view all) 0 (map entity_view all)
