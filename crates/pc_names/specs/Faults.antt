-- The faults of a file's names, pass by pass. Each pass has the list of its faults in the order of the text; the first
-- of them is reported.
use Rattle.std.specs.{Prelude.{List, [], ◌∷◌, ◌++◌, codes, ◌≡◌, ℕ, Bool, true, false, ◌&&◌, ◌||◌, not, length, Some, slice_get, nat_lt, ◌+◌, drop, if◌then◌else◌, flat_map}, Str.bytes_eq, Option.option_map_or}
use Rattle.pc_base.specs.{Lists.{Text, Differ, one_if}, Limits.{entity_limit, field_limit, method_limit}}
use Rattle.pc_members.specs.{Members.{field_texts, method_texts, entity_names, has_added, built_in_names, IsTransitiveClosure}, MemberLists.{with_names, is_among, trait_names, members}, Edges.has_number}
use Rattle.pc_tree.specs.{declared.file.ParamDef.ParamDef, declared.written_names.Name.Name, declared.written_names.TypeRef.TypeRef, Kinds.{first_own, is_abstract}}
use Rattle.pc_names.specs.{declared.fault.NameFault.NameFault, Mains.is_main}
use Rattle.pc_tree.specs.Tree as t
use Rattle.pc_names.specs.declared.fault.NameFault.TheVariants as fault
use Rattle.pc_names.specs.declared.fault.Which.TheVariants as which

-- The fault if no entity is called Main, or if the first one that is called Main is not one with which a program can
-- start.
abbrev pub main_faults : List t.Entity → List NameFault
main_faults [] = fault.NoMain ∷ []
main_faults (e ∷ es) = if bytes_eq e.name.text (codes "Main") then (if is_main e then [] else fault.BadMain e.name.span ∷ []) else main_faults es

-- The names of the built-in entities' field and methods, and of an added constructor.
abbrev pub built_in_texts : List Text
built_in_texts = codes "out" ∷ codes "print" ∷ codes "create" ∷ []

-- The known names, with those of these entities' fields and methods appended, each at its first appearance.
abbrev pub with_members : List Text → List t.Entity → List Text
with_members known [] = known
with_members known (e ∷ es) = with_members (with_names known (field_texts e.fields ++ method_texts e.methods)) es

-- One fault or the other, the first taking precedence, or none.
abbrev pub either_fault : Bool → NameFault → Bool → NameFault → List NameFault
either_fault true f b g = f ∷ []
either_fault false f b g = one_if b g

-- The fault is the first of the list. Memory may run out at any time.
abbrev pub IsFirstNameFault : NameFault → List NameFault → Type 0
IsFirstNameFault fault.Memory fs = Unit {0}
IsFirstNameFault f fs = slice_get fs 0 ≡ Some f

-- An entity whose name is already taken, or one too many.
abbrev pub entity_name_faults : List Text → List t.Entity → List NameFault
entity_name_faults known [] = []
entity_name_faults known (e ∷ es) =
    either_fault (is_among e.name.text known) (fault.Double e.name.span) (not (nat_lt (length known) (first_own + entity_limit))) (fault.TooMany which.Entities e.name.span)
    ++ entity_name_faults (known ++ e.name.text ∷ []) es

-- ---- declarations, entity by entity

-- A type that names no entity.
abbrev pub type_faults : List Text → TypeRef → List NameFault
type_faults entities ty = one_if (not (is_among ty.name.text entities)) (fault.Unknown ty.name.span)

-- A name after `is` that is not a trait, or that occurs there before.
abbrev pub provided_faults : List Text → List Text → List Name → List NameFault
provided_faults traits known [] = []
provided_faults traits known (n ∷ ns) =
    either_fault (not (is_among n.text traits)) (fault.Unknown n.span) (is_among n.text known) (fault.Double n.span)
    ++ provided_faults traits (known ++ n.text ∷ []) ns

-- A field whose name an earlier field has, the 65th field, and the field's type.
abbrev pub field_faults : List Text → List Text → List t.Field → List NameFault
field_faults entities known [] = []
field_faults entities known (f ∷ fs) =
    either_fault (is_among f.name.text known) (fault.Double f.name.span) (not (nat_lt (length known) field_limit)) (fault.TooMany which.Fields f.name.span)
    ++ (type_faults entities f.ty ++ field_faults entities (known ++ f.name.text ∷ []) fs)

-- A parameter whose name a field or an earlier parameter has, and its type.
abbrev pub param_faults : List Text → List Text → List Text → List ParamDef → List NameFault
param_faults entities fields known [] = []
param_faults entities fields known (p ∷ ps) =
    one_if (is_among p.name.text fields || is_among p.name.text known) (fault.Double p.name.span)
    ++ (type_faults entities p.ty ++ param_faults entities fields (known ++ p.name.text ∷ []) ps)

-- The faults inside a method: in its parameters and its result.
abbrev pub signature_faults : List Text → List Text → t.Method → List NameFault
signature_faults entities fields m = param_faults entities fields [] m.params ++ option_map_or (type_faults entities) m.result []

-- A method whose name a field or an earlier method has, and the faults inside it.
abbrev pub method_faults : List Text → List Text → List Text → List t.Method → List NameFault
method_faults entities fields known [] = []
method_faults entities fields known (m ∷ ms) =
    one_if (is_among m.name.text fields || is_among m.name.text known) (fault.Double m.name.span)
    ++ (signature_faults entities fields m ++ method_faults entities fields (known ++ m.name.text ∷ []) ms)

-- An added `create` comes after all fields and methods, and its name is at that of the entity.
abbrev pub added_faults : t.Entity → List NameFault
added_faults e =
    one_if (has_added e && (is_among (codes "create") (field_texts e.fields) || is_among (codes "create") (method_texts e.methods))) (fault.Double e.name.span)

-- The faults of an entity, given the names of all entities and those of all traits.
abbrev pub entity_faults : List Text → List Text → t.Entity → List NameFault
entity_faults entities traits e =
    added_faults e
    ++ (provided_faults traits [] e.provides
    ++ (field_faults entities [] e.fields ++ method_faults entities (field_texts e.fields) [] e.methods))

abbrev pub declaration_faults : t.File → List NameFault
declaration_faults file = flat_map (entity_faults (entity_names file) (trait_names file.entities)) file.entities

-- The entities at which the number of the file's methods exceeds the limit. The number is that of the methods before
-- the first of them.
abbrev pub count_faults : List t.Entity → ℕ → List t.Entity → List NameFault
count_faults all n [] = []
count_faults all n (e ∷ es) =
    one_if (nat_lt method_limit (n + length (members all e))) (fault.TooMany which.Methods e.name.span)
    ++ count_faults all (n + length (members all e)) es

-- Traits and interfaces, from entity number a on, that are above themselves; each entity comes with what is above it.
abbrev pub cycle_faults : ℕ → List t.Entity → List (List ℕ) → List NameFault
cycle_faults a (e ∷ es) (above ∷ lists) = one_if (is_abstract e.kind && has_number above a) (fault.Cycle e.name.span) ++ cycle_faults (a + 1) es lists
cycle_faults a es lists = []

-- ---- what is collected from a file

-- The names of the entities in the order of their numbers, the other texts, and for each entity those above it.
pub record NamesData : Type 0 where
  pub entities : List Text
  pub texts : List Text
  pub above : List (List ℕ)

-- All faults of a file's names, pass by pass, given the entities above each.
abbrev pub name_faults : t.File → List (List ℕ) → List NameFault
name_faults file above =
    entity_name_faults built_in_names file.entities ++ (declaration_faults file
    ++ (cycle_faults first_own file.entities (drop first_own above) ++ (count_faults file.entities 0 file.entities ++ main_faults file.entities)))

-- The file's names have no fault, and these are the names.
pub record Collected (file : t.File) (names : NamesData) : Type 0 where
  pub faults : name_faults file names.above ≡ []
  pub entities : names.entities ≡ entity_names file
  pub above : IsTransitiveClosure file names.above
  pub texts : Differ names.texts

-- The first fault of the file's names.
abbrev pub IsNameFault : t.File → NameFault → Type 0
IsNameFault file f = (above : List (List ℕ)) × IsTransitiveClosure file above × IsFirstNameFault f (name_faults file above)

-- A fault other than running out of memory.
abbrev pub IsNotMemory : NameFault → Type 0
IsNotMemory f = f ≡ fault.Memory → ⊥
