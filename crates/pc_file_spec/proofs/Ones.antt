-- A file has only one core, or one fault.
use Rattle.std.proofs.{Common.{◌≡◌, List, sym, ap, ◌∙◌, subst, inl, inr, refl}, lemmas.Option.same_Some}
use Rattle.std.specs.Prelude.{◌⊎◌, ℕ, Option, Some, None, Result, Ok, Err}
use Rattle.pc_core.specs.CoreData.{CoreData}
use Rattle.pc_tree.specs.Tree as t
use Rattle.pc_names.specs.declared.fault.NameFault.{NameFault}
use Rattle.pc_names.proofs.Ones.{one_closing}
use Rattle.pc_file_spec.specs.{Cores.{core_of, Stands, IsElabFault}, Laws.{CoreOrFault, OneCore, OneFault, NotBoth}}

abbrev value : Result CoreData NameFault → Option CoreData
value (Ok a) = Some a
value (Err f) = None

abbrev fault_in : Result CoreData NameFault → Option NameFault
fault_in (Ok a) = None
fault_in (Err f) = Some f

abbrev IsOk : Result CoreData NameFault → Type 0
IsOk (Ok a) = Unit {0}
IsOk (Err f) = ⊥

-- The same lists above the entities give the same result.
same_core : (file : t.File) (above below : List (List ℕ)) → above ≡ below → core_of above file ≡ core_of below file
same_core file above below e = ap (λ a. core_of a file) e

pub one_core : OneCore
one_core file a b s t =
    let above = one_closing file s.0.above t.0.above s.1.above t.1.above in
    same_Some a b (ap value (sym s.2 ∙ same_core file s.0.above t.0.above above ∙ t.2))

pub one_fault : OneFault
one_fault file f g s t =
    let above = one_closing file s.0.above t.0.above s.1.above t.1.above in
    same_Some f g (ap fault_in (sym s.2 ∙ same_core file s.0.above t.0.above above ∙ t.2))

pub not_both : NotBoth
not_both file core f s t =
    let above = one_closing file s.0.above t.0.above s.1.above t.1.above in
    subst IsOk (sym s.2 ∙ same_core file s.0.above t.0.above above ∙ t.2) tt

pub core_or_fault : CoreOrFault
core_or_fault file names c few = by (core_of names.above file) refl
  where
    by : (r : Result CoreData NameFault) → core_of names.above file ≡ r → ((core : CoreData) × Stands file core) ⊎ ((f : NameFault) × IsElabFault file f)
    by (Ok core) e = inl (core, (names, c, e, few))
    by (Err f) e = inr (f, (names, c, e))
