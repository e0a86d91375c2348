-- Why an entity is not below an interface.
use Rattle.std.specs.{Prelude.{ℕ, Bool, true, List, [], ◌++◌, Option, Some, None, slice_get, codes, if◌then◌else◌}, List.find, Option.is_some}
use Rattle.pc_core.specs.{CoreData.{CoreData, own_methods}, declared.declarations.EntityDef.EntityDef, declared.declarations.Method.Method}
use Rattle.pc_base.specs.Lists.{Text}
use Rattle.pc_sub.specs.{DeclarationFaults.method_like, Computed.is_interface}
use Rattle.pc_explain_window.specs.Quoting.{quoted}
use Rattle.pc_explain_words.specs.{Forms.name_text, Methods.full_method_name, Misfits.{first_misfit, misfit}, Scene.SceneData, declared.misfits.Misfit.Misfit}

abbrev pub methods_in : CoreData → Option EntityDef → List Method
methods_in core None = []
methods_in core (Some x) = own_methods core x

-- ---- one method

abbrev pub like_of : Option (ℕ × Method) → Option Method
like_of None = None
like_of (Some y) = Some y.1

-- The entity's method with the name and kind of this one.
abbrev pub like : CoreData → ℕ → Method → Option Method
like core e wanted = like_of (method_like core e wanted)

-- The entity has no method with its name and kind, or that one cannot replace it.
abbrev pub lacks_like : CoreData → Method → Option Method → Bool
lacks_like core wanted None = true
lacks_like core wanted (Some y) = is_some (first_misfit core wanted y)

abbrev pub is_lacking : CoreData → ℕ → Method → Bool
is_lacking core e wanted = lacks_like core wanted (like core e wanted)

unfoldable pub missing_words : CoreData → Method → Text
missing_words core wanted = codes ": it has no function " ++ quoted (name_text core wanted.name)

unfoldable pub misfit_words : SceneData → Method → Method → Option Misfit → Text
misfit_words s wanted given m = codes ": for " ++ (full_method_name s.core given ++ (codes ", " ++ misfit s wanted given m))

abbrev pub lack_like : SceneData → Method → Option Method → Text
lack_like s wanted None = missing_words s.core wanted
lack_like s wanted (Some y) = misfit_words s wanted y (first_misfit s.core wanted y)

abbrev pub lack : SceneData → ℕ → Method → Text
lack s e wanted = lack_like s wanted (like s.core e wanted)

-- ---- all of them

abbrev pub lack_of : SceneData → ℕ → Option Method → Text
lack_of s e None = []
lack_of s e (Some wanted) = lack s e wanted

-- The first of these methods that the entity lacks.
abbrev pub lacks : SceneData → ℕ → List Method → Text
lacks s e ts = lack_of s e (find (is_lacking s.core e) ts)

-- If the other entity is not an interface, nothing is said.
unfoldable pub why_not_below : SceneData → (entity above : ℕ) → Text
why_not_below s e b = if is_interface (slice_get s.core.entities b) then lacks s e (methods_in s.core (slice_get s.core.entities b)) else []
