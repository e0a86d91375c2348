-- The types that a file writes, by their numbers.
use Rattle.std.proofs.{Common.{◌≡◌, ℕ, zero, suc, ◌+◌, ◌<◌, List, [], ◌∷◌, ◌++◌, length, map, Option, Some, Bool, true, false, refl, sym, ap, ◌∙◌, subst, arith, if◌then◌else◌}, lemmas.Option.{same_Some, none-some}}
use Rattle.std.specs.{Prelude.{slice_get, codes}, Str.bytes_eq}
use Rattle.pc_caps.specs.declared.capability.Cap.{Cap}
use Rattle.pc_caps.specs.declared.capability.Cap.TheVariants as cap
use Rattle.pc_tree.specs.{declared.written_names.TypeRef.TypeRef, Kinds.first_own}
use Rattle.pc_tree.specs.Tree as t
use Rattle.pc_base.specs.Lists.{Text}
use Rattle.pc_members.specs.Members.{built_in_names, entity_names}
use Rattle.pc_members.proofs.Differences.{same_text}
use Rattle.pc_base.proofs.Bools.{true_false}
use Rattle.pc_body_spec.specs.{Bodies.KnownEntity, Fold.type_of_name, Parts.cap_or}
use Rattle.pc_file_spec.specs.Cores.{known_of, or_value, type_in}
use Rattle.pc_file_spec.proofs.{Owners.{known_names, known_count}, Collects.IsType}

abbrev pub known_name : KnownEntity → Text
known_name x = x.name

pub all_names : (file : t.File) → map known_name (known_of file) ≡ entity_names file
all_names file = ap (λ xs. built_in_names ++ xs) (known_names file.entities file.entities 1)

pub all_count : (file : t.File) → length (known_of file) ≡ first_own + length file.entities
all_count file = let n = known_count file.entities file.entities 1 in omega (arith, n)

type_found : (at : ℕ) (xs : List KnownEntity) (ty : TypeRef) (i : ℕ) → slice_get (map known_name xs) i ≡ Some ty.name.text → (or_value (type_of_name at xs ty)).0 < at + length xs
type_found at [] ty i h = absurd (none-some ty.name.text h)
type_found at (x ∷ xs) ty i h = by (λ j g. type_found (suc at) xs ty j g) (bytes_eq x.name ty.name.text) refl i h
  where
    by : ((j : ℕ) → slice_get (map known_name xs) j ≡ Some ty.name.text → (or_value (type_of_name (suc at) xs ty)).0 < suc at + length xs) → (b : Bool) → bytes_eq x.name ty.name.text ≡ b → (i : ℕ) → slice_get (map known_name (x ∷ xs)) i ≡ Some ty.name.text
        → (or_value (if b then Some (at, cap_or ty.cap x.cap) else type_of_name (suc at) xs ty)).0 < at + length (x ∷ xs)
    by rest true e i g = omega arith
    by rest false e zero g = absurd (true_false (sym (ap (λ y. bytes_eq y ty.name.text) (same_Some x.name ty.name.text g) ∙ same_text ty.name.text) ∙ e))
    by rest false e (suc i) g = let l = rest i g in omega (arith, l)

-- A type that names an entity has the number of an entity.
pub type_below : (file : t.File) (ty : TypeRef) → IsType (entity_names file) ty → (type_in (known_of file) ty).0 < first_own + length file.entities
type_below file ty h =
    let there : slice_get (map known_name (known_of file)) h.0 ≡ Some ty.name.text = ap (λ xs. slice_get xs h.0) (all_names file) ∙ h.1 in
    let l = type_found 0 (known_of file) ty h.0 there in
    let n = all_count file in
    omega (arith, l, n)

-- The same for a type that is found.
pub written_below : (at : ℕ) (xs : List KnownEntity) (ty : TypeRef) (p : ℕ × Cap) → type_of_name at xs ty ≡ Some p → p.0 < at + length xs
written_below at [] ty p h = absurd (none-some p h)
written_below at (x ∷ xs) ty p h = by (λ g. written_below (suc at) xs ty p g) (bytes_eq x.name ty.name.text) h
  where
    by : (type_of_name (suc at) xs ty ≡ Some p → p.0 < suc at + length xs) → (b : Bool) → (if b then Some (at, cap_or ty.cap x.cap) else type_of_name (suc at) xs ty) ≡ Some p → p.0 < at + length (x ∷ xs)
    by rest true g = let e : at ≡ p.0 = ap (λ (q : ℕ × Cap). q.0) (same_Some _ p g) in omega (arith, e)
    by rest false g = let l = rest g in omega (arith, l)

-- `Env` is entity 4.
env_text : (file : t.File) (ty : TypeRef) (name : Text) → ty.name.text ≡ name → name ≡ codes "Env" → type_in (known_of file) ty ≡ (4, cap_or ty.cap cap.Val)
env_text file ty name e f = by (type_of_name 0 (known_of file) ty) refl
  where
    at : (x : Text) → x ≡ codes "Env" → type_of_name 0 (known_of file) (record { name = record { text = x; span = ty.name.span }; cap = ty.cap; hat = ty.hat }) ≡ Some (4, cap_or ty.cap cap.Val)
    at x g = subst (λ y. type_of_name 0 (known_of file) (record { name = record { text = y; span = ty.name.span }; cap = ty.cap; hat = ty.hat }) ≡ Some (4, cap_or ty.cap cap.Val)) (sym g) refl

    by : (o : Option (ℕ × Cap)) → type_of_name 0 (known_of file) ty ≡ o → or_value o ≡ (4, cap_or ty.cap cap.Val)
    by o g = ap or_value (sym g ∙ at ty.name.text (e ∙ f))

pub env_type : (file : t.File) (ty : TypeRef) → ty.name.text ≡ codes "Env" → type_in (known_of file) ty ≡ (4, cap_or ty.cap cap.Val)
env_type file ty e = env_text file ty ty.name.text refl e
