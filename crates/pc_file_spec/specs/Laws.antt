-- Laws of the cores of files.
use Rattle.std.specs.Prelude.{◌≡◌, ◌⊎◌, ◌↔◌, ℕ, ◌+◌, ◌<◌, ◌≤◌, ◌^◌, true, false, [], ◌∷◌, ◌++◌, map, length, Some, slice_get, codes}
use Rattle.pc_base.specs.{Limits.{node_limit, program_slot_limit}, Lists.{Has, Differ, Text}}
use Rattle.pc_core.specs.{CoreData.CoreData, Formed.Formed}
use Rattle.pc_tree.specs.{Kinds.{is_abstract, first_own}, declared.written_names.Name.Name}
use Rattle.pc_names.specs.{declared.fault.NameFault.NameFault, Faults.{NamesData, Collected}}
use Rattle.pc_members.specs.{Members.{LeadsInFile, field_texts, method_texts, Member, written, without_body, is_takable, own_texts, member_text}, MemberLists.{trait_methods, abstract_methods, members}}
use Rattle.pc_body_spec.specs.Slots.{entities_texts}
use Rattle.pc_file_spec.specs.{Cores.{texts_of_file, Stands, IsElabFault}, Order.{NamesInOrder, InPlace}}
use Rattle.pc_tree.specs.Tree as t

-- A file whose names have no fault, and which does not have too many texts, has a core, or a fault of its members.
abbrev pub CoreOrFault : Type 0
CoreOrFault = (file : t.File) (names : NamesData) → Collected file names → length (texts_of_file file) < 2 ^ 32 → ((core : CoreData) × Stands file core) ⊎ ((f : NameFault) × IsElabFault file f)

-- It has at most one core and at most one fault, and not both.
abbrev pub OneCore : Type 0
OneCore = (file : t.File) (one other : CoreData) → Stands file one → Stands file other → one ≡ other

abbrev pub OneFault : Type 0
OneFault = (file : t.File) (f g : NameFault) → IsElabFault file f → IsElabFault file g → f ≡ g

abbrev pub NotBoth : Type 0
NotBoth = (file : t.File) (core : CoreData) (f : NameFault) → Stands file core → IsElabFault file f → ⊥

-- A text that the file's members need: a built-in one, the name of a field or method, or a name after a `.`.
abbrev pub IsNeeded : t.File → Text → Type 0
IsNeeded file x =
    Has (codes "out" ∷ codes "print" ∷ codes "create" ∷ codes "apply" ∷ []) x
    ⊎ ((e : t.Entity) × Has file.entities e × (Has (field_texts e.fields) x ⊎ Has (method_texts e.methods) x))
    ⊎ Has (entities_texts file.entities) x

-- Each of these is among the file's texts, which differ.
abbrev pub TextsAreThere : Type 0
TextsAreThere = (file : t.File) → Differ (texts_of_file file) × ((x : Text) → IsNeeded file x → Has (texts_of_file file) x)

-- The core of a file is formed if the file's tree is one that a text spells: its names are in the order of the text,
-- and its fields, methods and bodies only where they are allowed.
abbrev pub StandsIsFormed : Type 0
StandsIsFormed = (file : t.File) (core : CoreData) → NamesInOrder file → InPlace file → Stands file core → Formed core

-- The core of a file is small: it has at most 10,000 members, each with at most 64 slots, and all their bodies together
-- have at most 200,000 nodes.
abbrev pub CoresAreSmall : Type 0
CoresAreSmall = (file : t.File) (core : CoreData) → Stands file core → (length core.slots ≤ program_slot_limit) × (length core.nodes ≤ node_limit)

-- From the number of the file's entities on, the bound on the length of a chain of `is` makes no difference.
abbrev pub BoundIsEnough : Type 0
BoundIsEnough = (file : t.File) (names : NamesData) → Collected file names → (e : t.Entity) (k : ℕ) → Has file.entities e → length file.entities ≤ k → trait_methods k file.entities e ≡ trait_methods (length file.entities) file.entities e

-- The names of the members of a trait or an interface are those of its own methods and of the methods of everything to
-- which a chain of `is` leads.
abbrev pub TraitsInherit : Type 0
TraitsInherit =
    (file : t.File) (names : NamesData) → Collected file names → (a : ℕ) (e : t.Entity) → slice_get file.entities a ≡ Some e → is_abstract e.kind ≡ true
    → (x : Text) → Has (map member_text (members file.entities e)) x ↔ (Has (method_texts e.methods) x ⊎ ((b : ℕ) × (f : t.Entity) × LeadsInFile file (first_own + a) (first_own + b) × (slice_get file.entities b ≡ Some f) × Has (method_texts f.methods) x))

-- The names of an entity's fields and members differ.
abbrev pub MembersDiffer : Type 0
MembersDiffer = (file : t.File) (names : NamesData) → Collected file names → InPlace file → (e : t.Entity) → Has file.entities e → Differ (field_texts e.fields ++ map member_text (members file.entities e))

-- ---- where members come from

-- The method is written in a trait or an interface to which a chain of `is` leads from the entity at this place of the
-- file.
abbrev pub WrittenAbove : t.File → ℕ → t.Method → Type 0
WrittenAbove file a x = (b : ℕ) × (f : t.Entity) × LeadsInFile file (first_own + a) (first_own + b) × (slice_get file.entities b ≡ Some f) × (is_abstract f.kind ≡ true) × Has f.methods x

-- A member of a trait or an interface is a method of its own or one written above it, without the body.
abbrev pub TraitsHaveNoBodies : Type 0
TraitsHaveNoBodies =
    (file : t.File) (names : NamesData) → Collected file names → (a : ℕ) (e : t.Entity) → slice_get file.entities a ≡ Some e → is_abstract e.kind ≡ true
    → (m : Member) → Has (members file.entities e) m → (x : t.Method) × (m ≡ written (without_body x)) × (Has e.methods x ⊎ WrittenAbove file a x)

-- A written member of another entity is a method of its own, or one written above it: with a body, allowed in the
-- entity, and with a name that none of the entity's own fields and methods, nor an added `create`, has.
abbrev pub BodiesAreTaken : Type 0
BodiesAreTaken =
    (file : t.File) (names : NamesData) → Collected file names → (a : ℕ) (e : t.Entity) → slice_get file.entities a ≡ Some e → is_abstract e.kind ≡ false
    → (x : t.Method) → Has (members file.entities e) (written x) → Has e.methods x ⊎ ((is_takable e.kind x ≡ true) × (Has (own_texts e) x.name.text → ⊥) × WrittenAbove file a x)

-- No such method of a trait that its `is` list names is left out: some field or member of the entity has its name.
abbrev pub BodiesAreThere : Type 0
BodiesAreThere =
    (file : t.File) (names : NamesData) → Collected file names → (e f : t.Entity) (n : Name) → Has file.entities e → is_abstract e.kind ≡ false → Has e.provides n → Has file.entities f → f.name.text ≡ n.text
    → (x : t.Method) → Has (abstract_methods file.entities f) x → is_takable e.kind x ≡ true → Has (field_texts e.fields ++ map member_text (members file.entities e)) x.name.text
