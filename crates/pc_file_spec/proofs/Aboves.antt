-- Where the methods of a trait are written.
use Rattle.std.proofs.{Common.{◌≡◌, ℕ, zero, suc, ◌+◌, List, [], ◌∷◌, ◌++◌, Some, Bool, true, false, cond, refl, sym, ap, ◌∙◌, arith, inl, inr}, lemmas.Iterator.Adapters.position_from-zero, lemmas.Option.{same_Some, none-some}}
use Rattle.std.specs.{Prelude.{slice_get, ◌⊎◌, position}, List.position_from, Str.bytes_eq}
use Rattle.pc_tree.specs.{declared.written_names.Name.Name, Kinds.{is_abstract, first_own}}
use Rattle.pc_tree.specs.Tree as t
use Rattle.pc_base.specs.Lists.{Has, Differ, Text}
use Rattle.pc_base.proofs.{Bools.true_false, Gets.{get_append, get_map}, Elements.has_either}
use Rattle.pc_members.specs.{Members.{built_in_names, texts_of, entity_names}, MemberLists.{of_each, trait_methods}}
use Rattle.pc_members.specs.Members as chain
use Rattle.pc_members.proofs.{Differences.{same_text, equal_texts}, Named.named_is}
use Rattle.pc_file_spec.specs.Laws.{WrittenAbove}
use Rattle.pc_file_spec.proofs.{Collects.Collects, Origins.{firsts_has, each_has, provided_trait}, Entities.own_entity}

-- ---- the place of a name

from_at : (at : ℕ) (xs : List Text) (x : Text) (i : ℕ) → slice_get xs i ≡ Some x → (k : ℕ) × (position_from (bytes_eq x) at xs ≡ Some (at + k)) × (slice_get xs k ≡ Some x)
from_at at [] x i h = absurd (none-some x h)
from_at at (y ∷ xs) x i h = by (λ j g. from_at (at + 1) xs x j g) (bytes_eq x y) refl i h
  where
    by : ((j : ℕ) → slice_get xs j ≡ Some x → (k : ℕ) × (position_from (bytes_eq x) (at + 1) xs ≡ Some (at + 1 + k)) × (slice_get xs k ≡ Some x)) → (b : Bool) → bytes_eq x y ≡ b → (i : ℕ) → slice_get (y ∷ xs) i ≡ Some x
        → (k : ℕ) × (cond b (Some at) (position_from (bytes_eq x) (at + 1) xs) ≡ Some (at + k)) × (slice_get (y ∷ xs) k ≡ Some x)
    by rest true e i g = let z : at ≡ at + 0 = omega arith in (0, ap Some z, ap Some (sym (equal_texts x y e)))
    by rest false e zero g = absurd (true_false (sym (ap (bytes_eq x) (same_Some y x g) ∙ same_text x) ∙ e))
    by rest false e (suc i) g = let r = rest i g in let z : at + 1 + r.0 ≡ at + suc r.0 = omega arith in (suc r.0, r.1 ∙ ap Some z, r.2)

pub get_position : (xs : List Text) (x : Text) (i : ℕ) → Differ xs → slice_get xs i ≡ Some x → position (bytes_eq x) xs ≡ Some i
get_position xs x i d h =
    let r = from_at 0 xs x i h in
    let same : r.0 ≡ i = d r.0 i x r.2 h in
    let z : 0 + r.0 ≡ i = omega (arith, same) in
    position_from-zero (bytes_eq x) xs ∙ r.1 ∙ ap Some z

-- ---- where the methods of a trait are written

pub names_entity : (file : t.File) (above : List (List ℕ)) (a : ℕ) (e f : t.Entity) (n : Name) (b : ℕ) → Collects file above → slice_get file.entities a ≡ Some e → Has e.provides n → slice_get file.entities b ≡ Some f → f.name.text ≡ n.text → chain.ProvidesInFile file (first_own + a) (first_own + b)
names_entity file above a e f n b c ha hn hb same =
    let at : slice_get (entity_names file) (first_own + b) ≡ Some n.text = get_append built_in_names (texts_of file.entities) b ∙ get_map (λ (y : t.Entity). y.name.text) file.entities b f hb ∙ ap Some same in
    (e, own_entity file a e ha, (n, hn, get_position (entity_names file) n.text (first_own + b) c.names at))

pub above_named : (file : t.File) (a b : ℕ) (f : t.Entity) (x : t.Method) → chain.ProvidesInFile file (first_own + a) (first_own + b) → slice_get file.entities b ≡ Some f → is_abstract f.kind ≡ true → Has f.methods x ⊎ WrittenAbove file b x → WrittenAbove file a x
above_named file a b f x link at is (inl y) = (b, f, chain.one link, at, is, y)
above_named file a b f x link at is (inr y) = (y.0, y.1, chain.more link y.2, y.3, y.4, y.5)

-- In the trait itself, or in one above it.
pub written_above : (file : t.File) (above : List (List ℕ)) → Collects file above → (k a : ℕ) (e : t.Entity) (x : t.Method) → slice_get file.entities a ≡ Some e → Has (trait_methods k file.entities e) x → Has e.methods x ⊎ WrittenAbove file a x
written_above file above c zero a e x ha h = absurd (none-some x h.1)
written_above file above c (suc k) a e x ha h = elim (has_either e.methods (of_each (trait_methods k file.entities) file.entities e.provides) x (firsts_has [] (e.methods ++ of_each (trait_methods k file.entities) file.entities e.provides) x h)) [
  | inl own ↦ inl own
  | inr other ↦
      let r = each_has (trait_methods k file.entities) file.entities e.provides x other in
      let f : t.Entity = r.1 in
      let s = named_is file.entities r.0.text f r.3 in
      let link : chain.ProvidesInFile file (first_own + a) (first_own + s.0.0) = names_entity file above a e f r.0 s.0.0 c ha r.2 s.0.1 s.1 in
      inr (above_named file a s.0.0 f x link s.0.1 (provided_trait file above e f r.0 c (a, ha) r.2 s.0 s.1) (written_above file above c k s.0.0 f x s.0.1 r.4))
]
