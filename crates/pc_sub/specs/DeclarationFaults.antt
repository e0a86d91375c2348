-- The declarations of a core that fail, in order.
use Rattle.std.specs.{Prelude.{ℕ, Bool, false, ◌||◌, List, [], ◌∷◌, Option, Some, None, nat_eq, slice_get, ◌+◌, true, ◌&&◌, ◌++◌, if◌then◌else◌}, Option.is_none}
use Rattle.pc_base.specs.Lists.{◌>>=◌}
use Rattle.pc_core.specs.{declared.declarations.EntityDef.EntityDef, CoreData.{CoreData, own_methods, method_named}, declared.declarations.Method.Method, declared.declarations.MethodKind.MethodKind, declared.declarations.ParamInfo.ParamInfo}
use Rattle.pc_caps.specs.{Computed.{is_below, fits}, Tables.{unalias, sendable}}
use Rattle.pc_sub.specs.{declared.faults.DeclFault.DeclFault, Declarations.takes_sendable}
use Rattle.pc_core.specs.declared.declarations.MethodKind.TheVariants as method
use Rattle.pc_sub.specs.declared.faults.DeclFault.TheVariants as fault

-- ---- when two entities are the same, or the first is declared by `is` to be the second: `Chain`, as it is computed

-- The number is in the list of what is above an entity.
abbrev pub is_in : ℕ → List ℕ → Bool
is_in b [] = false
is_in b (x ∷ xs) = nat_eq x b || is_in b xs

abbrev pub above_in : Option EntityDef → List ℕ
above_in None = []
above_in (Some x) = x.above

abbrev pub is_chain : CoreData → (entity above : ℕ) → Bool
is_chain core a b = nat_eq a b || is_in b (above_in (slice_get core.entities a))

-- ---- the faults of an entity that does not have what a trait or an interface declares: `Conforms`, as it is computed

-- A parameter of the declared method fits that of the entity's method.
abbrev pub param_fits : CoreData → ParamInfo → ParamInfo → Bool
param_fits core p q = is_chain core p.entity q.entity && fits (unalias p.cap) q.cap

-- The same number of parameters, and each fits.
abbrev pub params_fit : CoreData → List ParamInfo → List ParamInfo → Bool
params_fit core [] [] = true
params_fit core (p ∷ ps) (q ∷ qs) = param_fits core p q && params_fit core ps qs
params_fit core ps qs = false

-- Method y accepts what method t accepts.
abbrev pub takes : CoreData → Method → Method → Bool
takes core t y = fits (unalias t.receiver) y.receiver && params_fit core t.params y.params

-- The result of y is below that of t.
abbrev pub gives : CoreData → Method → Method → Bool
gives core t y = is_chain core y.result.0 t.result.0 && is_below y.result.1 t.result.1

abbrev pub stands_for : CoreData → Method → Method → Bool
stands_for core t y = takes core t y && gives core t y

abbrev pub same_kind : MethodKind → MethodKind → Bool
same_kind method.Fun method.Fun = true
same_kind method.Be method.Be = true
same_kind method.New method.New = true
same_kind method.Spawn method.Spawn = true
same_kind j k = false

-- The entity's method with this name and kind, and its number.
abbrev pub method_like : CoreData → ℕ → Method → Option (ℕ × Method)
method_like core e t = do
  m ← method_named core e t.name
  y ← slice_get core.methods m
  if same_kind y.kind t.kind then Some (m, y) else None

-- The fault of entity e at method t of a trait or an interface, which has this number.
abbrev pub conformance_faults : CoreData → (entity number : ℕ) → Method → Option (ℕ × Method) → List DeclFault
conformance_faults core e n t None = fault.MissingMethod e n ∷ []
conformance_faults core e n t (Some y) = if stands_for core t y.1 then [] else fault.Mismatch e y.0 ∷ []

-- Methods of a trait or an interface, from number n on.
abbrev pub trait_faults : CoreData → (entity number : ℕ) → List Method → List DeclFault
trait_faults core e n [] = []
trait_faults core e n (t ∷ ts) = conformance_faults core e n t (method_like core e t) ++ trait_faults core e (n + 1) ts

abbrev pub conform_faults : CoreData → ℕ → Option EntityDef → List DeclFault
conform_faults core e None = []
conform_faults core e (Some x) = trait_faults core e x.first_method (own_methods core x)

-- The entity has no fault.
abbrev pub conforms : CoreData → (entity above : ℕ) → Bool
conforms core e b = is_none (slice_get (conform_faults core e (slice_get core.entities b)) 0)

-- ---- the declarations of a core that fail, in order

-- Parameters of method m, from index i on.
abbrev pub not_sendable : (method index : ℕ) → List ParamInfo → List DeclFault
not_sendable m i [] = []
not_sendable m i (p ∷ ps) = (if sendable p.cap then [] else fault.NotSendable m i ∷ []) ++ not_sendable m (i + 1) ps

-- The faults of method m.
abbrev pub own_faults : ℕ → Method → List DeclFault
own_faults m x = if takes_sendable x.kind x.result.1 then not_sendable m 0 x.params else []

-- Methods, from number m on.
abbrev pub parameter_faults : ℕ → List Method → List DeclFault
parameter_faults m [] = []
parameter_faults m (x ∷ xs) = own_faults m x ++ parameter_faults (m + 1) xs

-- The traits and interfaces of an `is` list, in order.
abbrev pub list_faults : CoreData → ℕ → List ℕ → List DeclFault
list_faults core e [] = []
list_faults core e (b ∷ bs) = conform_faults core e (slice_get core.entities b) ++ list_faults core e bs

-- Entities, from number e on.
abbrev pub core_entity_faults : CoreData → ℕ → List EntityDef → List DeclFault
core_entity_faults core e [] = []
core_entity_faults core e (x ∷ xs) = list_faults core e x.provides ++ core_entity_faults core (e + 1) xs

-- First the parameters, method by method, then the traits and interfaces, entity by entity.
abbrev pub core_declaration_faults : CoreData → List DeclFault
core_declaration_faults core = parameter_faults 0 core.methods ++ core_entity_faults core 0 core.entities

-- The first declaration that fails, or none.
abbrev pub first_fault : CoreData → Option DeclFault
first_fault core = slice_get (core_declaration_faults core) 0
