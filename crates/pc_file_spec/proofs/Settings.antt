-- A file whose names have no fault and whose members all become parts of a program.
use Rattle.std.proofs.{Common.{◌≡◌, ℕ, zero, suc, ◌+◌, ◌-◌, ◌<◌, List, [], ◌∷◌, ◌++◌, length, Some, refl, sym, ap, ◌∙◌, arith, inl, inr}, lemmas.Option.same_Some}
use Rattle.std.specs.Prelude.{slice_get, ◌⊎◌}
use Rattle.pc_base.proofs.Gets.{get_front, get_behind, get_below, get_within, append_get, get_append}
use Rattle.pc_tree.specs.Tree as t
use Rattle.pc_core.specs.{declared.declarations.EntityDef.EntityDef, declared.declarations.Method.Method, Entities.print_method}
use Rattle.pc_members.specs.Members.{IsTransitiveClosure}
use Rattle.pc_tree.specs.Kinds.{first_own}
use Rattle.pc_file_spec.specs.{Cores.{Owned, members_from, context_of, slots_from, declared, Parts, built_in_parts, core_with, built_ins, core_entity, entities_from}, Order.{InPlace, NamesInOrder}}
use Rattle.pc_file_spec.proofs.{Owners.{starts, entity_at, at_entity, entities_count}, Collects.Collects, Parts.{At, AllAt}}

abbrev pub all_members : t.File → List Owned
all_members file = members_from file.entities first_own file.entities

pub record Setting (file : t.File) (above : List (List ℕ)) (q : Parts) : Type 0 where
  pub collects : Collects file above
  pub closes : IsTransitiveClosure file above
  pub placed : InPlace file
  pub ordered : NamesInOrder file
  pub parts : AllAt file built_in_parts (all_members file) q

-- ---- entities

pub entities_length : (file : t.File) (above : List (List ℕ)) (q : Parts) → length (core_with file above q).entities ≡ first_own + length file.entities
entities_length file above q = let n = entities_count file above file.entities first_own 1 in omega (arith, n)

pub entity_get : (file : t.File) (above : List (List ℕ)) (q : Parts) (i : ℕ) (e : t.Entity) → slice_get file.entities i ≡ Some e → slice_get (core_with file above q).entities (first_own + i) ≡ Some (core_entity file above (first_own + i) (1 + starts file.entities file.entities i) e)
entity_get file above q i e h = get_append built_ins (entities_from file above first_own 1 file.entities) i ∙ entity_at file above file.entities first_own 1 i e h

-- An entity is built in, or of the file.
pub record OfFile (file : t.File) (above : List (List ℕ)) (n : ℕ) (x : EntityDef) : Type 0 where
  pub place : ℕ
  pub entity : t.Entity
  pub number : n ≡ first_own + place
  pub is_entity : slice_get file.entities place ≡ Some entity
  pub same : core_entity file above (first_own + place) (1 + starts file.entities file.entities place) entity ≡ x

pub entity_cases : (file : t.File) (above : List (List ℕ)) (q : Parts) (n : ℕ) (x : EntityDef) → slice_get (core_with file above q).entities n ≡ Some x → (slice_get built_ins n ≡ Some x) ⊎ OfFile file above n x
entity_cases file above q n x h = elim (append_get built_ins (entities_from file above first_own 1 file.entities) n x h) [
  | inl a ↦ inl a
  | inr b ↦
      let low = b.0 in
      let r = at_entity file above file.entities first_own 1 (n - length built_ins) x b.1 in
      inr (record { place = n - length built_ins; entity = r.0; number = omega (arith, low); is_entity = r.1; same = r.2 })
]

-- ---- methods

-- What a member is as a method.
abbrev pub method_at : (file : t.File) (q : Parts) (m : ℕ) (o : Owned) → At file q m o → Method
method_at file q m o a = declared (context_of file o) o (length a.before.slots) (length (slots_from (context_of file o) (length a.before.methods) o)) (length a.before.nodes) a.result.0

pub at_get : (file : t.File) (q : Parts) (m : ℕ) (o : Owned) (a : At file q m o) → slice_get q.methods m ≡ Some (method_at file q m o a)
at_get file q m o a =
    let x : Method = method_at file q m o a in
    ap (λ xs. slice_get xs m) a.extends.is_methods ∙ get_front (a.before.methods ++ x ∷ []) a.extends.methods m x (ap (slice_get (a.before.methods ++ x ∷ [])) (sym a.number) ∙ get_behind a.before.methods x [])

module _ (file : t.File) (above : List (List ℕ)) (q : Parts) (s : Setting file above q) where
  pub print_get : slice_get q.methods 0 ≡ Some (print_method 1)
  print_get = ap (λ xs. slice_get xs 0) s.parts.extends.is_methods

  pub methods_length : length q.methods ≡ 1 + length (all_members file)
  methods_length = s.parts.count

  -- A method is the built-in one, or a member.
  pub record OfMember (n : ℕ) (x : Method) : Type 0 where
    pub place : ℕ
    pub owned : Owned
    pub number : n ≡ 1 + place
    pub is_member : slice_get (all_members file) place ≡ Some owned
    pub at : At file q (1 + place) owned
    pub same : method_at file q (1 + place) owned at ≡ x

  pub method_cases : (n : ℕ) (x : Method) → slice_get q.methods n ≡ Some x → ((n ≡ 0) × (print_method 1 ≡ x)) ⊎ OfMember n x
  method_cases zero x h = inl (refl, same_Some (print_method 1) x (sym print_get ∙ h))
  method_cases (suc n) x h =
      let low = get_below q.methods (suc n) x h in
      let count = methods_length in
      let within : n < length (all_members file) = omega (arith, low, count) in
      let o = get_within (all_members file) n within in
      let a : At file q (1 + n) o.0 = s.parts.at n o.0 o.1 in
      let next : suc n ≡ 1 + n = omega arith in
      inr (record { place = n; owned = o.0; number = omega arith; is_member = o.1; at = a; same = same_Some (method_at file q (1 + n) o.0 a) x (sym (at_get file q (1 + n) o.0 a) ∙ ap (slice_get q.methods) (sym next) ∙ h) })
