-- The first member with each name, and what is taken over, part by part.
use Rattle.std.proofs.Common.{◌≡◌, List, [], ◌∷◌, ◌++◌, Bool, true, false, refl, sym, ap, ◌∙◌, append_assoc, if◌then◌else◌}
use Rattle.pc_tree.specs.{declared.kinds.EntityKind.EntityKind, declared.written_names.Name.Name}
use Rattle.pc_base.specs.Lists.{Text}
use Rattle.pc_members.specs.{MemberLists.{is_among, with_names}, Parts.find_name, Members.{Member, member_text}, Rounds.{first_members, member_texts, taken_members, with_taken, is_taken, named_all, table_members}}

-- First those of the one list, then those of the other whose names are new.
pub first_parts : (known : List Text) (xs ys : List Member) → first_members known (xs ++ ys) ≡ first_members known xs ++ first_members (with_names known (member_texts xs)) ys
first_parts known [] ys = refl
first_parts known (m ∷ xs) ys = by (λ k. first_parts k xs ys) (is_among (member_text m) known)
  where
    by : ((k : List Text) → first_members k (xs ++ ys) ≡ first_members k xs ++ first_members (with_names k (member_texts xs)) ys) → (b : Bool)
        → (if b then first_members known (xs ++ ys) else m ∷ first_members (known ++ member_text m ∷ []) (xs ++ ys))
        ≡ (if b then first_members known xs else m ∷ first_members (known ++ member_text m ∷ []) xs) ++ first_members (with_names (if b then known else known ++ member_text m ∷ []) (member_texts xs)) ys
    by rest true = rest known
    by rest false = ap (λ ms. m ∷ ms) (rest (known ++ member_text m ∷ []))

-- One more name.
pub first_turn : (entities known next : List Text) (table : List (List Member)) (ns rest : List Name) (x : Name) (whole old new : List Member) → ns ≡ x ∷ rest → whole ≡ old ++ first_members known (named_all entities table ns)
    → new ≡ old ++ first_members known (table_members table (find_name entities x.text)) → next ≡ with_names known (member_texts (table_members table (find_name entities x.text))) → whole ≡ new ++ first_members next (named_all entities table rest)
first_turn entities known next table ns rest x whole old new e w n k =
    let here : List Member = table_members table (find_name entities x.text) in
    let more : List Member = named_all entities table rest in
    w ∙ ap (λ ms. old ++ first_members known (named_all entities table ms)) e
    ∙ ap (λ ms. old ++ ms) (first_parts known here more)
    ∙ sym (append_assoc old (first_members known here) (first_members (with_names known (member_texts here)) more))
    ∙ ap (λ ms. ms ++ first_members (with_names known (member_texts here)) more) (sym n)
    ∙ ap (λ ks. new ++ first_members ks more) (sym k)

-- ---- what is taken over

pub taken_parts : (k : EntityKind) (known : List Text) (xs ys : List Member) → taken_members k known (xs ++ ys) ≡ taken_members k known xs ++ taken_members k (with_taken k known xs) ys
taken_parts k known [] ys = refl
taken_parts k known (m ∷ xs) ys = by (λ ks. taken_parts k ks xs ys) (is_taken k known m)
  where
    by : ((ks : List Text) → taken_members k ks (xs ++ ys) ≡ taken_members k ks xs ++ taken_members k (with_taken k ks xs) ys) → (b : Bool)
        → (if b then m ∷ taken_members k (known ++ member_text m ∷ []) (xs ++ ys) else taken_members k known (xs ++ ys))
        ≡ (if b then m ∷ taken_members k (known ++ member_text m ∷ []) xs else taken_members k known xs)
        ++ taken_members k (if b then with_taken k (known ++ member_text m ∷ []) xs else with_taken k known xs) ys
    by rest true = ap (λ ms. m ∷ ms) (rest (known ++ member_text m ∷ []))
    by rest false = rest known

-- One more name.
pub taken_turn : (k : EntityKind) (entities known next : List Text) (table : List (List Member)) (ns rest : List Name) (x : Name) (whole old new : List Member) → ns ≡ x ∷ rest → whole ≡ old ++ taken_members k known (named_all entities table ns)
    → new ≡ old ++ taken_members k known (table_members table (find_name entities x.text)) → next ≡ with_taken k known (table_members table (find_name entities x.text)) → whole ≡ new ++ taken_members k next (named_all entities table rest)
taken_turn k entities known next table ns rest x whole old new e w n s =
    let here : List Member = table_members table (find_name entities x.text) in
    let more : List Member = named_all entities table rest in
    w ∙ ap (λ ms. old ++ taken_members k known (named_all entities table ms)) e
    ∙ ap (λ ms. old ++ ms) (taken_parts k known here more)
    ∙ sym (append_assoc old (taken_members k known here) (taken_members k (with_taken k known here) more))
    ∙ ap (λ ms. ms ++ taken_members k (with_taken k known here) more) (sym n)
    ∙ ap (λ ks. new ++ taken_members k ks more) (sym s)
