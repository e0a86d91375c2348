-- The faults that the names and declarations of a file's entities can have.
use Rattle.std.specs.Prelude.{◌≡◌, ◌⊎◌, ℕ, ◌<◌, ◌≤◌, true, List, map, Some, slice_get, codes}
use Rattle.pc_base.specs.{Limits.{entity_limit, field_limit}, Lists.{Has, Text}}
use Rattle.pc_tree.specs.{declared.file.ParamDef.ParamDef, declared.written_names.Name.Name, declared.written_names.TypeRef.TypeRef, Kinds.is_abstract}
use Rattle.pc_names.specs.declared.fault.NameFault.{NameFault}
use Rattle.pc_members.specs.Members.{built_in_names, entity_names, texts_of, has_added, field_texts, method_texts}
use Rattle.pc_name_laws.specs.Uses.{param_texts}
use Rattle.pc_tree.specs.Tree as t
use Rattle.pc_names.specs.declared.fault.NameFault.TheVariants as fault
use Rattle.pc_names.specs.declared.fault.Which.TheVariants as which

-- The list has this element before place i.
abbrev pub HasBefore : {T : Type 0} → List T → ℕ → T → Type 0
HasBefore xs i x = (j : ℕ) × (j < i) × (slice_get xs j ≡ Some x)

-- ---- the names of entities

-- The name of entity i of the file is that of a built-in entity or of an earlier one.
abbrev pub IsRepeated : t.File → ℕ → Text → Type 0
IsRepeated file i name = Has built_in_names name ⊎ HasBefore (texts_of file.entities) i name

pub data IsEntityFault (file : t.File) : NameFault → Type 0 where
  twice : (i : ℕ) (e : t.Entity) → slice_get file.entities i ≡ Some e → IsRepeated file i e.name.text → IsEntityFault file (fault.Double e.name.span)
  -- the first entity past the limit, and each later one
  too_many : (i : ℕ) (e : t.Entity) → slice_get file.entities i ≡ Some e → (IsRepeated file i e.name.text → ⊥) → entity_limit ≤ i → IsEntityFault file (fault.TooMany which.Entities e.name.span)

-- ---- declarations

abbrev pub IsEntity : t.File → Text → Type 0
IsEntity file name = Has (entity_names file) name

-- A trait or an interface of the file.
abbrev pub IsTrait : t.File → Text → Type 0
IsTrait file name = (e : t.Entity) × Has file.entities e × (is_abstract e.kind ≡ true) × (e.name.text ≡ name)

-- Types among the declarations of an entity: those of its fields, and of the parameters and results of its methods.
pub data HasType (e : t.Entity) : TypeRef → Type 0 where
  of_field : (f : t.Field) → Has e.fields f → HasType e f.ty
  of_param : (m : t.Method) (p : ParamDef) → Has e.methods m → Has m.params p → HasType e p.ty
  of_result : (m : t.Method) (ty : TypeRef) → Has e.methods m → m.result ≡ Some ty → HasType e ty

-- A name without a meaning in the declarations of an entity: a type that is no entity, or a name after `is` that is no
-- trait or interface.
pub data IsMissingName (file : t.File) (e : t.Entity) : Name → Type 0 where
  type_name : (ty : TypeRef) → HasType e ty → (IsEntity file ty.name.text → ⊥) → IsMissingName file e ty.name
  trait_name : (n : Name) → Has e.provides n → (IsTrait file n.text → ⊥) → IsMissingName file e n

-- A name that is already taken: after `is`, of a field, of a method (fields come first), and of a parameter (fields
-- come first).
pub data IsTwice (file : t.File) (e : t.Entity) : Name → Type 0 where
  trait : (i : ℕ) (n : Name) → slice_get e.provides i ≡ Some n → IsTrait file n.text → HasBefore (map (λ (k : Name). k.text) e.provides) i n.text → IsTwice file e n
  field : (i : ℕ) (f : t.Field) → slice_get e.fields i ≡ Some f → HasBefore (field_texts e.fields) i f.name.text → IsTwice file e f.name
  method : (i : ℕ) (m : t.Method) → slice_get e.methods i ≡ Some m → Has (field_texts e.fields) m.name.text ⊎ HasBefore (method_texts e.methods) i m.name.text → IsTwice file e m.name
  param : (m : t.Method) (i : ℕ) (p : ParamDef) → Has e.methods m → slice_get m.params i ≡ Some p → Has (field_texts e.fields) p.name.text ⊎ HasBefore (param_texts m.params) i p.name.text → IsTwice file e p.name
  -- an added `create` has the span of its entity's name, and comes after all fields and methods
  added : has_added e ≡ true → Has (field_texts e.fields) (codes "create") ⊎ Has (method_texts e.methods) (codes "create") → IsTwice file e e.name

pub data IsDeclarationFault (file : t.File) (e : t.Entity) : NameFault → Type 0 where
  unknown : (n : Name) → IsMissingName file e n → IsDeclarationFault file e (fault.Unknown n.span)
  twice : (n : Name) → IsTwice file e n → IsDeclarationFault file e (fault.Double n.span)
  -- the 65th field, and each later one
  too_many : (i : ℕ) (f : t.Field) → slice_get e.fields i ≡ Some f → (HasBefore (field_texts e.fields) i f.name.text → ⊥) → field_limit ≤ i → IsDeclarationFault file e (fault.TooMany which.Fields f.name.span)
