-- The members of an entity in the order of their numbers, each list made from those of the entities above it.
use Rattle.std.specs.{Prelude.{ℕ, List, [], ◌∷◌, ◌++◌, Option, if◌then◌else◌, zero, suc, ◌&&◌, not, map, length, Some, None, Bool, true}, Str.bytes_eq, List.list_any, Option.option_map_or}
use Rattle.pc_base.specs.{Lists.{Text, one_if}, declared.span.Span.Span}
use Rattle.pc_tree.specs.{Kinds.is_abstract, declared.kinds.EntityKind.EntityKind, declared.written_names.Name.Name}
use Rattle.pc_members.specs.Members.{has_added, Member, written, added, without_body, own_texts, is_takable, is_new}
use Rattle.pc_tree.specs.Tree as t

-- The span of an added `create` is the name of its entity.
abbrev pub member_span : Span → Member → Span
member_span entity (written m) = m.name.span
member_span entity added = entity

abbrev pub is_constructor : Member → Bool
is_constructor (written m) = is_new m.word
is_constructor added = true

-- The text is in the list.
abbrev pub is_among : Text → List Text → Bool
is_among text texts = list_any (bytes_eq text) texts

-- ---- lists of different names

-- The known names, with this one appended if it is new.
abbrev pub with_name : List Text → Text → List Text
with_name names name = if is_among name names then names else names ++ name ∷ []

abbrev pub with_names : List Text → List Text → List Text
with_names names [] = names
with_names names (x ∷ xs) = with_names (with_name names x) xs

-- The known names, with those of the traits among these entities appended.
abbrev pub with_traits : List Text → List t.Entity → List Text
with_traits known [] = known
with_traits known (e ∷ es) = with_traits (if is_abstract e.kind then with_name known e.name.text else known) es

abbrev pub trait_names : List t.Entity → List Text
trait_names es = with_traits [] es

-- ---- the members of an entity in the order of their numbers, each list made from those of the entities above it

-- Of all methods with the same name, the first. Methods whose names are in `known` are left out.
abbrev pub firsts : List Text → List t.Method → List t.Method
firsts known [] = []
firsts known (m ∷ ms) = if is_among m.name.text known then firsts known ms else m ∷ firsts (known ++ m.name.text ∷ []) ms

abbrev pub entity_named : List t.Entity → Text → Option t.Entity
entity_named [] name = None
entity_named (e ∷ es) name = if bytes_eq e.name.text name then Some e else entity_named es name

-- The methods of the entities with these names, one after the other.
abbrev pub of_each : (t.Entity → List t.Method) → List t.Entity → List Name → List t.Method
of_each methods all [] = []
of_each methods all (n ∷ ns) = option_map_or methods (entity_named all n.text) [] ++ of_each methods all ns

-- The methods of a trait or an interface: its own, and then, for each name of its `is` list in order, the methods of
-- that entity whose names are new. The number bounds the length of a chain of `is`.
abbrev pub trait_methods : ℕ → List t.Entity → t.Entity → List t.Method
trait_methods zero all e = []
trait_methods (suc k) all e = firsts [] (e.methods ++ of_each (trait_methods k all) all e.provides)

-- The same if no chain of `is` leads back to its start. Then no chain is longer than the number of entities.
abbrev pub abstract_methods : List t.Entity → t.Entity → List t.Method
abstract_methods all e = trait_methods (length all) all e

-- Those of these methods that it takes over: the first with each name that is not in `known`.
abbrev pub methods_taken_over : EntityKind → List Text → List t.Method → List t.Method
methods_taken_over k known [] = []
methods_taken_over k known (m ∷ ms) =
    if is_takable k m && not (is_among m.name.text known) then m ∷ methods_taken_over k (known ++ m.name.text ∷ []) ms else methods_taken_over k known ms

-- For each name of its `is` list in order, each method of that entity.
abbrev pub taken_over : List t.Entity → t.Entity → List t.Method
taken_over all e = methods_taken_over e.kind (own_texts e) (of_each (abstract_methods all) all e.provides)

-- ---- members

-- The first argument is the list of the file's entities.
abbrev pub abstract_members : List t.Entity → t.Entity → List Member
abstract_members all e = map (λ m. written (without_body m)) (abstract_methods all e)

abbrev pub concrete_members : List t.Entity → t.Entity → List Member
concrete_members all e = map written e.methods ++ (one_if (has_added e) added ++ map written (taken_over all e))

abbrev pub members : List t.Entity → t.Entity → List Member
members all e = if is_abstract e.kind then abstract_members all e else concrete_members all e
