-- The lines about a declaration that fails.
use Rattle.std.specs.{Prelude.{ℕ, Bool, ◌&&◌, nat_eq, List, [], ◌∷◌, ◌++◌, Option, Some, None, slice_get, codes}, List.find, Option.is_some}
use Rattle.pc_core.specs.{CoreData.{CoreData, method_named}, declared.declarations.EntityDef.EntityDef, declared.declarations.Method.Method, declared.declarations.ParamInfo.ParamInfo, declared.declarations.MethodKind.MethodKind}
use Rattle.pc_caps.specs.{declared.capability.Form.Form, Words.cap_name}
use Rattle.pc_base.specs.Lists.{Text, line_end}
use Rattle.pc_sub.specs.declared.faults.DeclFault.{DeclFault}
use Rattle.pc_explain_names.specs.Bearers.{kind_word}
use Rattle.pc_explain_window.specs.{Places.piece_of, Quoting.{piece, quoted}}
use Rattle.pc_explain_words.specs.{Caps.new_word, Lacks.methods_in, Misfits.{first_misfit, misfit}, Scene.SceneData}
use Rattle.pc_core.specs.declared.declarations.MethodKind.TheVariants as kind
use Rattle.pc_sub.specs.declared.faults.DeclFault.TheVariants as decl
use Rattle.pc_explain_words.specs.Forms as forms
use Rattle.pc_explain_words.specs.Methods as methods

-- ---- a parameter that is not sendable

abbrev pub creator : Form → Text
creator f = codes "a constructor that gives " ++ new_word f

-- What takes only sendable parameters.
abbrev pub taker : MethodKind → Form → Text
taker kind.Be f = codes "a behaviour"
taker kind.Spawn f = codes "an actor's constructor"
taker kind.New f = creator f
taker kind.Fun f = creator f

unfoldable pub parameter_line : SceneData → Method → ParamInfo → Text
parameter_line s m p =
    codes "node: the parameter " ++ (quoted (piece_of s.bytes p.span) ++ (codes ", " ++ (forms.place_words s.core (p.entity, p.cap) ++ (codes ", of " ++ (methods.declared_method s m ++ line_end)))))

unfoldable pub sendable_line : Method → ParamInfo → Text
sendable_line m p =
    codes "rule parameters: " ++ (cap_name p.cap ++ (codes " is not sendable, and " ++ (taker m.kind m.result.1 ++ (codes " takes only parameters of iso, val or tag" ++ line_end))))

unfoldable pub declare_hint : Text → Text
declare_hint name =
    codes "hint: declare it " ++ (piece name ++ (codes " iso, " ++ (piece name ++ (codes " val or " ++ (piece name ++ (codes " tag" ++ line_end))))))

unfoldable pub not_sendable_lines : SceneData → Method → ParamInfo → Text
not_sendable_lines s m p = parameter_line s m p ++ (sendable_line m p ++ declare_hint (forms.entity_name s.core p.entity))

-- ---- a method that is missing

abbrev pub entity_kind_text : Option EntityDef → Text
entity_kind_text None = []
entity_kind_text (Some x) = kind_word x.kind

unfoldable pub provider_line : CoreData → ℕ → Method → Text
provider_line core e wanted =
    codes "node: the " ++ (entity_kind_text (slice_get core.entities e) ++ (codes " " ++ (forms.entity_words core e ++ (codes ", which is "
    ++ (forms.with_article (forms.entity_name core wanted.entity) ++ line_end)))))

unfoldable pub declares_line : SceneData → ℕ → Method → Text
declares_line s e wanted =
    codes "rule is: " ++ (forms.entity_words s.core wanted.entity ++ (codes " declares " ++ (methods.declared_method s wanted ++ (codes ", and "
    ++ (forms.entity_words s.core e ++ (codes " has no such function" ++ line_end))))))

-- A method as it would be written in its entity.
unfoldable pub written : SceneData → Method → Text
written s m = methods.method_words m ++ (piece (forms.name_text s.core m.name) ++ methods.signature s m)

unfoldable pub other_hint : CoreData → (entity name : ℕ) → Text
other_hint core e name =
    codes "hint: " ++ (forms.entity_words core e ++ (codes "." ++ (piece (forms.name_text core name) ++ (codes " is not a function" ++ line_end))))

-- The advice to add it, or, if the entity has something else with this name, that it is not a function.
unfoldable pub missing_hint : SceneData → ℕ → Method → Option ℕ → Text
missing_hint s e wanted None = codes "hint: add `" ++ (written s wanted ++ (codes " => ..`" ++ line_end))
missing_hint s e wanted (Some m) = other_hint s.core e wanted.name

unfoldable pub missing_lines : SceneData → ℕ → Method → Text
missing_lines s e wanted = provider_line s.core e wanted ++ (declares_line s e wanted ++ missing_hint s e wanted (method_named s.core e wanted.name))

-- ---- a method that does not fit

-- The method cannot replace this one, which has its name.
unfoldable pub wants : CoreData → Method → Method → Bool
wants core given wanted = nat_eq wanted.name given.name && is_some (first_misfit core wanted given)

abbrev pub method_or_else : Option Method → Option Method → Option Method
method_or_else None other = other
method_or_else (Some found) other = Some found

-- The first method of these entities that it cannot replace.
unfoldable pub wanted_from : CoreData → Method → List ℕ → Option Method
wanted_from core given [] = None
wanted_from core given (b ∷ bs) = method_or_else (find (wants core given) (methods_in core (slice_get core.entities b))) (wanted_from core given bs)

abbrev pub provided_by : Option EntityDef → List ℕ
provided_by None = []
provided_by (Some x) = x.provides

abbrev pub wanted_of : CoreData → ℕ → Method → Option Method
wanted_of core e given = wanted_from core given (provided_by (slice_get core.entities e))

unfoldable pub method_node_line : SceneData → Method → Text
method_node_line s given = codes "node: the method " ++ (methods.declared_method s given ++ line_end)

unfoldable pub misfit_line : SceneData → Method → Method → Text
misfit_line s wanted given = codes "rule is: " ++ (misfit s wanted given (first_misfit s.core wanted given) ++ line_end)

unfoldable pub stands_lines : SceneData → Method → Option Method → Text
stands_lines s given None = []
stands_lines s given (Some wanted) = codes "part: it stands for " ++ (methods.declared_method s wanted ++ (line_end ++ misfit_line s wanted given))

unfoldable pub mismatch_lines : SceneData → ℕ → Method → Text
mismatch_lines s e given = method_node_line s given ++ stands_lines s given (wanted_of s.core e given)

-- ---- each of them

abbrev pub param_lines : SceneData → Method → Option ParamInfo → Text
param_lines s m None = []
param_lines s m (Some p) = not_sendable_lines s m p

abbrev pub parameter_lines : SceneData → Option Method → (index : ℕ) → Text
parameter_lines s None i = []
parameter_lines s (Some m) i = param_lines s m (slice_get m.params i)

abbrev pub missing_of : SceneData → ℕ → Option Method → Text
missing_of s e None = []
missing_of s e (Some wanted) = missing_lines s e wanted

abbrev pub mismatch_of : SceneData → ℕ → Option Method → Text
mismatch_of s e None = []
mismatch_of s e (Some given) = mismatch_lines s e given

unfoldable pub declaration_lines : SceneData → DeclFault → Text
declaration_lines s (decl.NotSendable m i) = parameter_lines s (slice_get s.core.methods m) i
declaration_lines s (decl.MissingMethod e m) = missing_of s e (slice_get s.core.methods m)
declaration_lines s (decl.Mismatch e m) = mismatch_of s e (slice_get s.core.methods m)
