-- Tables of names that grow.
use Rattle.std.proofs.Common.{◌≡◌, List, [], ◌∷◌, ◌++◌, refl, sym, ap, ◌∙◌, append_assoc}
use Rattle.pc_tree.specs.Tree as t
use Rattle.pc_base.specs.Lists.{Text}
use Rattle.pc_members.specs.{Members.{field_texts, method_texts, has_added, own_texts}, Parts.added_text, MemberLists.{with_name, with_names}}

-- The first ones, then the others.
pub names_in_parts : (names xs ys : List Text) → with_names names (xs ++ ys) ≡ with_names (with_names names xs) ys
names_in_parts names [] ys = refl
names_in_parts names (x ∷ xs) ys = names_in_parts (with_name names x) xs ys

-- An entity's own names: those of its fields and methods, and then that of an added `create`.
pub own_in_parts : (e : t.Entity) → with_names [] (own_texts e) ≡ with_names (with_names [] (field_texts e.fields ++ method_texts e.methods)) (added_text (has_added e))
own_in_parts e =
    ap (with_names []) (sym (append_assoc (field_texts e.fields) (method_texts e.methods) (added_text (has_added e)))) ∙ names_in_parts [] (field_texts e.fields ++ method_texts e.methods) (added_text (has_added e))
