-- The members of an entity, in the order of their numbers: its own methods, an added `create`, and the methods that it
-- takes over; and what they rest on: names, the numbers of entities, and chains of `is`.
use Rattle.std.specs.{Prelude.{ℕ, Bool, true, false, List, [], ◌∷◌, ◌++◌, map, Option, position, codes, if◌then◌else◌, Some, None, ◌≡◌, ◌↔◌, ◌+◌, length, slice_get, replicate, ◌&&◌, is_some}, List.list_any, Str.bytes_eq}
use Rattle.pc_base.specs.Lists.{Text, Each, Has, Ascends, one_if}
use Rattle.pc_tree.specs.{declared.kinds.MethodWord.MethodWord, Kinds.{may_stand, is_abstract, first_own}, declared.written_names.Name.Name, declared.kinds.EntityKind.EntityKind}
use Rattle.pc_tree.specs.declared.kinds.MethodWord.TheVariants as word
use Rattle.pc_tree.specs.Tree as t

-- ---- the names of a file, the numbers of its entities, and which entities get an added `create`

-- The entities that every program has, in the order of their numbers.
abbrev pub built_in_names : List Text
built_in_names = codes "None" ∷ codes "U64" ∷ codes "Bool" ∷ codes "String" ∷ codes "Env" ∷ codes "OutStream" ∷ []

-- The names of entities.
abbrev pub texts_of : List t.Entity → List Text
texts_of es = map (λ (e : t.Entity). e.name.text) es

-- All entities of a file, by their names in the order of their numbers.
abbrev pub entity_names : t.File → List Text
entity_names file = built_in_names ++ texts_of file.entities

-- The number of the entity with this name.
abbrev pub entity_of : t.File → Text → Option ℕ
entity_of file name = position (bytes_eq name) (entity_names file)

-- The names of fields and of methods.
abbrev pub field_texts : List t.Field → List Text
field_texts fs = map (λ (f : t.Field). f.name.text) fs

abbrev pub method_texts : List t.Method → List Text
method_texts ms = map (λ (m : t.Method). m.name.text) ms

-- ---- constructors

abbrev pub is_new : MethodWord → Bool
is_new word.Fun = false
is_new word.Be = false
is_new word.New = true

abbrev pub has_constructor : t.Entity → Bool
has_constructor e = list_any (λ (m : t.Method). is_new m.word) e.methods

-- An entity that may have constructors, a class or an actor, gets an added `create` if it has none.
abbrev pub has_added : t.Entity → Bool
has_added e = if has_constructor e then false else may_stand e.kind word.New

-- ---- chains of `is`, from an entity to the traits and interfaces that it provides

-- The entity with this number.
abbrev pub entity_at : t.File → ℕ → t.Entity → Type 0
entity_at file a e = slice_get (replicate first_own None ++ map Some file.entities) a ≡ Some (Some e)

-- The `is` list of entity a names entity b.
abbrev pub ProvidesInFile : t.File → (entity above : ℕ) → Type 0
ProvidesInFile file a b = (e : t.Entity) × entity_at file a e × ((n : Name) × Has e.provides n × (entity_of file n.text ≡ Some b))

-- A chain of one or more `is` leads from one entity to another.
pub data LeadsInFile (file : t.File) : (entity above : ℕ) → Type 0 where
  one : {a b : ℕ} → ProvidesInFile file a b → LeadsInFile file a b
  more : {a b c : ℕ} → ProvidesInFile file a b → LeadsInFile file b c → LeadsInFile file a c

-- Entity number a, a trait or an interface, leads back to itself.
abbrev pub InCycle : t.File → ℕ → Type 0
InCycle file a = (e : t.Entity) × entity_at file a e × (is_abstract e.kind ≡ true) × LeadsInFile file a a

-- The list has the entities above entity a: each once, in ascending order.
abbrev pub IsAbove : t.File → ℕ → List ℕ → Type 0
IsAbove file a above = Ascends above × ((b : ℕ) → Has above b ↔ LeadsInFile file a b)

-- The same for each entity, in the order of their numbers.
abbrev pub IsTransitiveClosure : t.File → List (List ℕ) → Type 0
IsTransitiveClosure file lists = (length lists ≡ first_own + length file.entities) × Each (λ a above. IsAbove file a above) lists

-- A member of an entity.
pub data Member : Type 0 where
  -- a written method, in the entity itself or in a trait or an interface from which it is taken over
  written : t.Method → Member
  -- the constructor `create`, added to a class or actor without a constructor
  added : Member

-- A trait or an interface has its methods without bodies. The body belongs to each entity that takes the method over.
abbrev pub without_body : t.Method → t.Method
without_body m = record { word = m.word; cap = m.cap; name = m.name; params = m.params; result = m.result; body = None }

-- ---- classes, actors and primitives

-- An entity's own names: those of its fields and methods, and of an added `create`.
abbrev pub own_texts : t.Entity → List Text
own_texts e = field_texts e.fields ++ (method_texts e.methods ++ one_if (has_added e) (codes "create"))

-- An entity of this kind can take a method over if the method has a body and may be in such an entity.
abbrev pub is_takable : EntityKind → t.Method → Bool
is_takable k m = is_some m.body && may_stand k m.word

abbrev pub member_text : Member → Text
member_text (written m) = m.name.text
member_text added = codes "create"
