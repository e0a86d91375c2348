-- Methods as they are declared.
use Rattle.std.specs.{Prelude.{ℕ, Bool, true, false, ◌&&◌, not, nat_eq, List, [], ◌∷◌, ◌++◌, Option, Some, None, slice_get, codes, if◌then◌else◌}, List.find}
use Rattle.pc_base.specs.{declared.span.Span.Span, Lists.Text}
use Rattle.pc_caps.specs.{declared.capability.Cap.Cap, declared.capability.Form.Form, Words.cap_name}
use Rattle.pc_core.specs.{CoreData.CoreData, declared.declarations.EntityDef.EntityDef, declared.declarations.Method.Method, declared.declarations.MethodKind.MethodKind, declared.declarations.ParamInfo.ParamInfo}
use Rattle.pc_tree.specs.Kinds.{is_abstract}
use Rattle.pc_explain_window.specs.{Places.piece_of, Quoting.piece}
use Rattle.pc_explain_words.specs.{Caps.new_word, Forms.{entity_words, name_text, place_words, type_words}, Scene.SceneData}
use Rattle.pc_core.specs.declared.declarations.MethodKind.TheVariants as kind

-- `E.m`
unfoldable pub full_method_name : CoreData → Method → Text
full_method_name core x = entity_words core x.entity ++ (codes "." ++ piece (name_text core x.name))

-- ---- before the name

abbrev pub words_of : MethodKind → Cap → Form → Text
words_of kind.Fun k f = codes "fun " ++ (cap_name k ++ codes " ")
words_of kind.Be k f = codes "be "
words_of kind.New k f = codes "new " ++ (new_word f ++ codes " ")
words_of kind.Spawn k f = codes "new "

abbrev pub method_words : Method → Text
method_words x = words_of x.kind x.receiver x.result.1

-- ---- after the name

abbrev pub param_separator : (first : Bool) → Text
param_separator first = if first then [] else codes ", "

-- `x: `, if there is a name: the parameters of built-in methods have none.
unfoldable pub name_before : Text → Text
name_before [] = []
name_before (b ∷ bs) = piece (b ∷ bs) ++ codes ": "

abbrev pub declared_param : SceneData → ParamInfo → Text
declared_param s p = name_before (piece_of s.bytes p.span) ++ place_words s.core (p.entity, p.cap)

abbrev pub one_param : SceneData → (first : Bool) → ParamInfo → Text
one_param s first p = param_separator first ++ declared_param s p

abbrev pub declared_params_from : SceneData → (first : Bool) → List ParamInfo → Text
declared_params_from s first [] = []
declared_params_from s first (p ∷ ps) = one_param s first p ++ declared_params_from s false ps

abbrev pub declared_params : SceneData → List ParamInfo → Text
declared_params s ps = codes "(" ++ (declared_params_from s true ps ++ codes ")")

-- The result is only written for functions.
abbrev pub result_part : CoreData → MethodKind → ℕ × Form → Text
result_part core kind.Fun ty = codes ": " ++ type_words core ty
result_part core kind.Be ty = []
result_part core kind.New ty = []
result_part core kind.Spawn ty = []

unfoldable pub signature : SceneData → Method → Text
signature s x = declared_params s x.params ++ result_part s.core x.kind x.result

-- A method as it is declared, with all its capabilities, even those that the source leaves out.
unfoldable pub declared_method : SceneData → Method → Text
declared_method s x = method_words x ++ (full_method_name s.core x ++ signature s x)

-- ---- where it is

abbrev pub same_span : Span → Span → Bool
same_span a b = nat_eq a.start b.start && nat_eq a.end b.end

abbrev pub abstract_in : Option EntityDef → Bool
abstract_in None = false
abstract_in (Some e) = is_abstract e.kind

-- Method y, of a trait or an interface, is the one that method x was taken over from: it has the same text.
abbrev pub gives_text : CoreData → Method → Method → Bool
gives_text core x y = same_span y.span x.span && (not (nat_eq y.entity x.entity) && abstract_in (slice_get core.entities y.entity))

abbrev pub taken_words : CoreData → Option Method → Text
taken_words core None = []
taken_words core (Some y) = codes ", which is taken over from " ++ entity_words core y.entity

unfoldable pub taken_over_words : CoreData → Method → Text
taken_over_words core x = taken_words core (find (gives_text core x) core.methods)

abbrev pub home_of : CoreData → Option Method → Text
home_of core None = []
home_of core (Some x) = codes " in " ++ (full_method_name core x ++ taken_over_words core x)

-- ` in E.m`, and what it was taken over from.
unfoldable pub home_of_method : CoreData → ℕ → Text
home_of_method core m = home_of core (slice_get core.methods m)
