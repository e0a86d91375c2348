-- Parts that grow, member by member.
use Rattle.std.proofs.Common.{◌≡◌, ℕ, suc, List, [], ◌∷◌, ◌++◌, map, Ok, Err, Result, refl, sym, ap, ◌∙◌}
use Rattle.pc_tree.specs.Tree as t
use Rattle.pc_names.specs.declared.fault.NameFault.{NameFault}
use Rattle.pc_body_spec.specs.Bodies.{Context}
use Rattle.pc_members.specs.{Members.Member, MemberLists.members}
use Rattle.pc_file_spec.specs.Cores.{Owned, owned, members_from, known_of, texts_of_file, placed_of, context_of, Parts, if_ok, and_member, and_members}
use Rattle.pc_elab.specs.Outcomes.{own_members, with_slots, with_members, entity_members, row_members}

-- ---- as the members of the file

members_parts : (file : t.File) (p : Parts) (xs ys : List Owned) → and_members file p (xs ++ ys) ≡ if_ok (and_members file p xs) (λ q. and_members file q ys)
members_parts file p [] ys = refl
members_parts file p (x ∷ xs) ys = by (and_member (context_of file x) p x) (λ q. members_parts file q xs ys)
  where
    by : (r : Result Parts NameFault) → ((q : Parts) → and_members file q (xs ++ ys) ≡ if_ok (and_members file q xs) (λ z. and_members file z ys)) → if_ok r (λ q. and_members file q (xs ++ ys)) ≡ if_ok (if_ok r (λ q. and_members file q xs)) (λ z. and_members file z ys)
    by (Ok q) rest = rest q
    by (Err f) rest = refl

own_same : (file : t.File) (c : Context) (n : ℕ) (e : t.Entity) (p : Parts) (ms : List Member) → ((m : Member) → with_slots c (placed_of e m) ≡ context_of file (owned n e m)) → own_members c p (map (owned n e) ms) ≡ and_members file p (map (owned n e) ms)
own_same file c n e p [] h = refl
own_same file c n e p (m ∷ ms) h =
    ap (λ d. if_ok (and_member d p (owned n e m)) (λ q. own_members c q (map (owned n e) ms))) (h m) ∙ by (and_member (context_of file (owned n e m)) p (owned n e m)) (λ q. own_same file c n e q ms h)
  where
    by : (r : Result Parts NameFault) → ((q : Parts) → own_members c q (map (owned n e) ms) ≡ and_members file q (map (owned n e) ms)) → if_ok r (λ q. own_members c q (map (owned n e) ms)) ≡ if_ok r (λ q. and_members file q (map (owned n e) ms))
    by (Ok q) rest = rest q
    by (Err f) rest = refl

-- In the file's context the rows are the members of the file.
pub rows_same : (file : t.File) (c : Context) (es : List t.Entity) (n : ℕ) (p : Parts) → c.entities ≡ known_of file → c.texts ≡ texts_of_file file → row_members c p n es (map (members file.entities) es) ≡ and_members file p (members_from file.entities n es)
rows_same file c [] n p k x = refl
rows_same file c (e ∷ es) n p k x =
    by (λ q. rows_same file c es (suc n) q k x) (entity_members c p n e (members file.entities e)) refl
    ∙ sym (members_parts file p (map (owned n e) (members file.entities e)) (members_from file.entities (suc n) es))
  where
    here : entity_members c p n e (members file.entities e) ≡ and_members file p (map (owned n e) (members file.entities e))
    here = own_same file (with_members c e (members file.entities e)) n e p (members file.entities e) (λ m. rw (k, x) refl)

    by : ((q : Parts) → row_members c q (suc n) es (map (members file.entities) es) ≡ and_members file q (members_from file.entities (suc n) es)) → (r : Result Parts NameFault) → entity_members c p n e (members file.entities e) ≡ r
        → if_ok r (λ q. row_members c q (suc n) es (map (members file.entities) es)) ≡ if_ok (and_members file p (map (owned n e) (members file.entities e))) (λ q. and_members file q (members_from file.entities (suc n) es))
    by rest (Ok q) g = rest q ∙ ap (λ r. if_ok r (λ z. and_members file z (members_from file.entities (suc n) es))) (sym g ∙ here)
    by rest (Err f) g = ap (λ r. if_ok r (λ z. and_members file z (members_from file.entities (suc n) es))) (sym g ∙ here)
