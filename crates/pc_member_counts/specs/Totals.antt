-- How many members an entity has: those written in it, and the names that it gets in addition.
use Rattle.std.specs.{Prelude.{ℕ, ◌+◌, Bool, ◌&&◌, not, List, [], ◌∷◌, length, count_by, if◌then◌else◌}, List.list_any, Str.bytes_eq}
use Rattle.pc_base.specs.{Counts.one_if, Lists.Text}
use Rattle.pc_tree.specs.{declared.kinds.EntityKind.EntityKind, Kinds.is_abstract}
use Rattle.pc_members.specs.{MemberLists.{is_among, of_each, abstract_methods}, Members.{method_texts, has_added, is_takable, own_texts}}
use Rattle.pc_tree.specs.Tree as t

-- An entity of this kind takes over one of these methods with the name, if the name is new to it.
abbrev pub takes : EntityKind → Text → List t.Method → Bool
takes k x ms = list_any (λ (m : t.Method). bytes_eq x m.name.text && is_takable k m) ms

-- A class, an actor or a primitive gets a member with the name in addition to those written in it; a trait or an
-- interface has a method with the name. The first argument is the list of the file's entities.
abbrev pub gets : List t.Entity → t.Entity → Text → Bool
gets all e x = if is_abstract e.kind then is_among x (method_texts (abstract_methods all e)) else (takes e.kind x (of_each (abstract_methods all) all e.provides) && not (is_among x (own_texts e)))

-- How many of these names it gets.
abbrev pub got : List t.Entity → List Text → t.Entity → ℕ
got all names e = count_by (gets all e) names

-- How many members of a class, an actor or a primitive are written in it.
abbrev pub own_count : t.Entity → ℕ
own_count e = if is_abstract e.kind then 0 else length e.methods + one_if (has_added e)

abbrev pub totals : List t.Entity → List ℕ → List ℕ
totals (e ∷ es) (c ∷ cs) = (own_count e + c) ∷ totals es cs
totals es cs = []
