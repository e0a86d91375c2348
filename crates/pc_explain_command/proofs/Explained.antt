-- From the fault of a tree to its explanation or its refusal, and what a refusal has.
use Rattle.std.proofs.Common.{◌≡◌, Ok, Err, true, false, refl, ap, subst, arith}
use Rattle.std.specs.Prelude.{IfErr, Result}
use Rattle.pc_explain_names.specs.Names.{names_text}
use Rattle.pc_base.specs.Lists.{Text}
use Rattle.pc_names.specs.{Faults.IsNotMemory, declared.fault.NameFault.NameFault}
use Rattle.pc_names.specs.declared.fault.NameFault.TheVariants as fault
use Rattle.pc_tree.specs.Tree as t
use Rattle.pc_refusals.specs.{Inner.Refusals.IsNameStop, Inner.Stages.StageStops, FaultLines.{name_line, name_status}, Verdict.{Verdict, refused}, declared.stop.Stop.Stop}
use Rattle.pc_refusals.proofs.{Statuses.IsOther, Stops.name_stops}
use Rattle.pc_explain_command.specs.{Explain.{Explaining, IsFileFault, fault_end, is_not_explained}, Explain.Explaining.{has_core, has_fault}}

module _ (name bytes : Text) (file : t.File) (f : NameFault) (of : IsNotMemory f → IsFileFault file f) where
  -- it is refused
  refused_end : is_not_explained f ≡ true → fault_end name bytes file f ≡ Err (refused (name_status f) (name_line name bytes f))
  refused_end e = rw e refl

  pub fault_stops : (s : Stop) → is_not_explained f ≡ true → IsNameStop name bytes f s → StageStops (Explaining name bytes file) s
  fault_stops s e h =
      name_stops (Explaining name bytes file) name bytes f s (λ o. subst (λ (end : Result Text Verdict). Explaining name bytes file end) (refused_end e) (has_fault f o (of o))) h

  -- it is explained
  explained_end : is_not_explained f ≡ false → fault_end name bytes file f ≡ Ok (names_text name bytes file f)
  explained_end e = rw e refl

  is_of_file : is_not_explained f ≡ false → IsNotMemory f
  is_of_file e m = let yes : is_not_explained f ≡ true = ap is_not_explained m in cc

  pub fault_says : (text : Text) → is_not_explained f ≡ false → text ≡ names_text name bytes file f → Explaining name bytes file (Ok text)
  fault_says text e is =
      let o = is_of_file e in
      rw is (subst (λ (end : Result Text Verdict). Explaining name bytes file end) (explained_end e) (has_fault f o (of o)))

-- ---- statuses

-- What a refusal has.
abbrev pub IsOtherEnd : Result Text Verdict → Type 0
IsOtherEnd end = IfErr end (λ v. IsOther v.status)

fault_other : (name bytes : Text) (file : t.File) (f : NameFault) → IsNotMemory f → IsOtherEnd (fault_end name bytes file f)
fault_other name bytes file (fault.Double s) o = tt
fault_other name bytes file (fault.Unknown s) o = tt
fault_other name bytes file fault.NoMain o = tt
fault_other name bytes file (fault.BadMain s) o = tt
fault_other name bytes file (fault.Cycle s) o = tt
fault_other name bytes file (fault.TooMany w s) o = (omega arith, omega arith)
fault_other name bytes file fault.Memory o = absurd (o refl)

pub explaining_other : (name bytes : Text) (file : t.File) (end : Result Text Verdict) → Explaining name bytes file end → IsOtherEnd end
explaining_other name bytes file _ (has_core l s k) = tt
explaining_other name bytes file _ (has_fault f o h) = fault_other name bytes file f o
