-- Properties of the tree of a file that a text spells.
use Rattle.std.specs.Prelude.{◌≡◌, true}
use Rattle.pc_tree.specs.{Kinds.may_stand, Members.{MayHaveFields, HasBody}}
use Rattle.pc_base.specs.Lists.{Has, Ascends}
use Rattle.pc_body_spec.specs.Places.{body_places, initial_places}
use Rattle.pc_tree.specs.Tree as t

-- The names in the initial values and in each body are in the order of the text.
abbrev pub NamesInOrder : t.File → Type 0
NamesInOrder file = (e : t.Entity) → Has file.entities e → Ascends (initial_places e.fields) × ((m : t.Method) → Has e.methods m → Ascends (body_places e.fields m))

-- Fields, methods and bodies are only where they are allowed.
abbrev pub InPlace : t.File → Type 0
InPlace file = (e : t.Entity) → Has file.entities e → MayHaveFields e.kind e.fields × ((m : t.Method) → Has e.methods m → (may_stand e.kind m.word ≡ true) × HasBody e.kind m.body)
