-- Entities, names and types in words.
use Rattle.std.specs.Prelude.{ℕ, Bool, false, ◌==◌, ◌||◌, [], ◌∷◌, ◌++◌, Option, Some, None, slice_get, codes, if◌then◌else◌}
use Rattle.pc_caps.specs.{declared.capability.Cap.Cap, declared.capability.Form.Form, Words.{cap_name, form_name}}
use Rattle.pc_core.specs.{CoreData.CoreData, declared.declarations.EntityDef.EntityDef}
use Rattle.pc_base.specs.Lists.{Text}
use Rattle.pc_explain_window.specs.Quoting.{piece}

abbrev pub name_of_declared : Option EntityDef → Text
name_of_declared None = []
name_of_declared (Some x) = x.name

-- The bytes of an entity's name.
unfoldable pub entity_name : CoreData → ℕ → Text
entity_name core e = name_of_declared (slice_get core.entities e)

abbrev pub text_in : Option Text → Text
text_in None = []
text_in (Some text) = text

-- The text of the name of a field or a method.
unfoldable pub name_text : CoreData → ℕ → Text
name_text core name = text_in (slice_get core.names name)

-- An entity, as it appears in a line of words.
unfoldable pub entity_words : CoreData → ℕ → Text
entity_words core e = piece (entity_name core e)

-- ---- `a` or `an`

-- `an` comes before these letters and their capitals.
abbrev pub is_vowel : ℕ → Bool
is_vowel b = b == 97 || b == 101 || b == 105 || b == 111 || b == 65 || b == 69 || b == 73 || b == 79

abbrev pub takes_an : Text → Bool
takes_an [] = false
takes_an (b ∷ bs) = is_vowel b

abbrev pub article : Text → Text
article word = if takes_an word then codes "an " else codes "a "

unfoldable pub with_article : Text → Text
with_article word = article word ++ piece word

-- ---- types

-- The type of a value, like `C iso^`.
unfoldable pub type_words : CoreData → ℕ × Form → Text
type_words core ty = entity_words core ty.0 ++ (codes " " ++ form_name ty.1)

-- The type of a place, like `C iso`.
unfoldable pub place_words : CoreData → ℕ × Cap → Text
place_words core ty = entity_words core ty.0 ++ (codes " " ++ cap_name ty.1)
