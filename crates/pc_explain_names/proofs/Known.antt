-- The members of a file's entities, by what is collected of its names.
use Rattle.std.proofs.Common.{◌≡◌, ℕ, List, [], ◌∷◌, map, Option, Some, None, refl, sym, ap, ◌∙◌}
use Rattle.std.specs.Prelude.{slice_get}
use Rattle.pc_tree.specs.Tree as t
use Rattle.pc_members.specs.{Edges.{edges_of, above_all}, Members.Member, MemberLists.members}
use Rattle.pc_members.proofs.Closings.{closes}
use Rattle.pc_names.specs.{declared.fault.NameFault.NameFault, Faults.{IsNotMemory, Collected, IsNameFault, NamesData, name_faults}}
use Rattle.pc_names.proofs.Ones.{first_is, one_closing}
use Rattle.pc_explain_names.specs.Rows.{all_faults, rows, rows_if}

pub rows_collected : (file : t.File) (names : NamesData) → Collected file names → map (members file.entities) file.entities ≡ rows file
unfolding rows
rows_collected file names c =
    sym (ap (λ fs. rows_if fs file) (ap (name_faults file) (one_closing file (above_all (edges_of file)) names.above (closes file) c.above) ∙ c.faults))

no_rows : (fs : List NameFault) (file : t.File) (f : NameFault) → slice_get fs 0 ≡ Some f → [] ≡ rows_if fs file
no_rows [] file f h = cc
no_rows (x ∷ xs) file f h = refl

pub rows_faulty : (file : t.File) (f : NameFault) → IsNotMemory f → IsNameFault file f → [] ≡ rows file
unfolding rows
rows_faulty file f of h =
    let same = one_closing file h.0 (above_all (edges_of file)) h.1 (closes file) in
    no_rows (all_faults file) file f (sym (ap (λ l. slice_get (name_faults file l) 0) same) ∙ first_is f (name_faults file h.0) of h.2)
