-- The passes over a file's names, combined.
use Rattle.std.proofs.{Common.{◌≡◌, ℕ, ◌+◌, ◌-◌, ◌<◌, ◌≤◌, ◌^◌, List, [], ◌++◌, length, map, drop, sym, ap, ◌∙◌, subst, arith}, lemmas.List.{length-map, length-drop}}
use Rattle.pc_tree.specs.{declared.file.File.File, View.{entity_view, file_view}, Kinds.first_own}
use Rattle.pc_tree.specs.Tree as t
use Rattle.pc_names.specs.{declared.fault.NameFault.NameFault, Faults.{IsFirstNameFault, entity_name_faults, declaration_faults, NamesData, name_faults, Collected, IsNameFault}, Parts.{built_in_and_member_texts, above_faults}}
use Rattle.pc_names.specs.declared.fault.NameFault.TheVariants as fault
use Rattle.pc_members.specs.{Members.{built_in_names, entity_names, IsTransitiveClosure}, Edges.{above_all, edges_of}}
use Rattle.pc_base.specs.Lists.{Differ}
use Rattle.pc_names.proofs.{Firsts.is_first_on, OtherTexts.other_texts_differ}
use Rattle.pc_members.proofs.Closings.{closes, edges_length}

-- The first fault of a list after an empty one.
is_first_behind : (f : NameFault) (xs ys : List NameFault) → xs ≡ [] → IsFirstNameFault f ys → IsFirstNameFault f (xs ++ ys)
is_first_behind f xs ys e h = subst (λ zs. IsFirstNameFault f (zs ++ ys)) (sym e) h

-- The faults of the first pass, of the second, and of the others with the lists that are computed.
abbrev pub pass_names : t.File → List NameFault
pass_names file = entity_name_faults built_in_names file.entities

abbrev pub pass_above : t.File → List NameFault
pass_above file = above_faults file.entities (drop first_own (above_all (edges_of file)))

pub fault_of_names : (file : t.File) (f : NameFault) → IsFirstNameFault f (pass_names file) → IsNameFault file f
fault_of_names file f h = (above_all (edges_of file), closes file, is_first_on f (pass_names file) (declaration_faults file ++ pass_above file) h)

pub fault_of_declarations : (file : t.File) (f : NameFault) → pass_names file ≡ [] → IsFirstNameFault f (declaration_faults file) → IsNameFault file f
fault_of_declarations file f e h =
    (above_all (edges_of file), closes file, is_first_behind f (pass_names file) (declaration_faults file ++ pass_above file) e (is_first_on f (declaration_faults file) (pass_above file) h))

pub fault_of_above : (file : t.File) (f : NameFault) → pass_names file ≡ [] → declaration_faults file ≡ [] → IsFirstNameFault f (pass_above file) → IsNameFault file f
fault_of_above file f e d h =
    (above_all (edges_of file), closes file, is_first_behind f (pass_names file) (declaration_faults file ++ pass_above file) e (is_first_behind f (declaration_faults file) (pass_above file) d h))

pub want_of_memory : (file : t.File) → IsNameFault file fault.Memory
want_of_memory file = (above_all (edges_of file), closes file, tt)

pub is_collected : (file : t.File) (n : NamesData) → pass_names file ≡ [] → declaration_faults file ≡ [] → pass_above file ≡ []
    → n.entities ≡ entity_names file → n.above ≡ above_all (edges_of file) → n.texts ≡ built_in_and_member_texts file.entities → Collected file n
is_collected file n e d a names above texts = record {
  faults = ap (name_faults file) above ∙ ap (λ xs. xs ++ (declaration_faults file ++ pass_above file)) e ∙ ap (λ xs. xs ++ pass_above file) d ∙ a;
  entities = names;
  above = subst (IsTransitiveClosure file) (sym above) (closes file);
  texts = subst Differ (sym texts) (other_texts_differ file.entities);
}

pub own_faults : (file : t.File) (lists : List (List ℕ)) → lists ≡ above_all (edges_of file) → above_faults file.entities (drop first_own lists) ≡ pass_above file
own_faults file lists e = ap (λ ls. above_faults file.entities (drop first_own ls)) e

-- ---- lengths

-- There are as many lists of the file's own entities as there are of these.
pub own_lengths : (f : File) (above own : List (List ℕ)) → IsTransitiveClosure (file_view f) above → own ≡ drop first_own above
    → length own ≡ length f.entities
own_lengths f above own c e =
    let l : length above ≡ first_own + length (map entity_view f.entities) = c.0 in
    let m = length-map f.entities entity_view in
    let d : length own ≡ length above - first_own = ap length e ∙ length-drop first_own above in
    omega (arith, l, m, d)

pub own_few : (f : File) (above : List (List ℕ)) → IsTransitiveClosure (file_view f) above → first_own ≤ length above
own_few f above c = let l : length above ≡ first_own + length (map entity_view f.entities) = c.0 in omega (arith, l)

pub edges_few : (f : File) (edges : List (List ℕ)) → first_own + length f.entities < 2 ^ 32 → edges ≡ edges_of (file_view f) → length edges < 2 ^ 32
edges_few f edges few e =
    let l : length edges ≡ first_own + length (map entity_view f.entities) = ap length e ∙ edges_length (file_view f) in
    let m = length-map f.entities entity_view in
    omega (arith, few, l, m)
