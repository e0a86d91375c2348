-- Small declarations that do not fit, with the first fault of each, and entities that are or are not below an
-- interface. Only the lists that are used are filled in.
use Rattle.std.specs.Prelude.{◌≡◌, ℕ, true, false, List, [], ◌∷◌, None, Some}
use Rattle.pc_caps.specs.declared.capability.Cap.{Cap}
use Rattle.pc_tree.specs.declared.kinds.EntityKind.{EntityKind}
use Rattle.pc_core.specs.{declared.declarations.EntityDef.EntityDef, declared.declarations.Method.Method, declared.declarations.MethodKind.MethodKind, declared.declarations.ParamInfo.ParamInfo, CoreData.CoreData, Entities.nowhere}
use Rattle.pc_sub.specs.{DeclarationFaults.first_fault, Computed.is_sub}
use Rattle.pc_caps.specs.declared.capability.Cap.TheVariants as cap
use Rattle.pc_caps.specs.declared.capability.Form.TheVariants as form
use Rattle.pc_tree.specs.declared.kinds.EntityKind.TheVariants as kind
use Rattle.pc_core.specs.declared.declarations.MethodKind.TheVariants as method
use Rattle.pc_sub.specs.declared.faults.DeclFault.TheVariants as fault

-- An entity with these traits, and this number of methods from a number on.
abbrev pub entity : EntityKind → List ℕ → (first count : ℕ) → EntityDef
entity k traits first count = record { kind = k; cap = cap.Ref; name = []; span = nowhere; provides = traits; above = traits; fields = []; first_method = first; methods = count }

-- A method with name 0 of an entity, of this kind, receiver and parameters, that returns an entity as `val`.
abbrev pub giving : (result entity : ℕ) → MethodKind → Cap → List ParamInfo → Method
giving r e k c params = record {
  entity = e;
  name = 0;
  kind = k;
  receiver = c;
  params = params;
  result = (r, form.Val);
  first_slot = 0;
  slots = 0;
  first_node = 0;
  body = None;
  span = nowhere;
}

-- One that returns entity 0.
abbrev pub declared : ℕ → MethodKind → Cap → List ParamInfo → Method
declared = giving 0

abbrev pub core_of : List EntityDef → List Method → CoreData
core_of entities methods = record { entities = entities; methods = methods; slots = []; nodes = []; names = [] }

-- Entity 0 is a trait with a `fun box`, and entity 1 is a class below it with a `fun` with this receiver.
abbrev pub answers : Cap → CoreData
answers c = core_of (entity kind.Trait [] 0 1 ∷ entity kind.Class (0 ∷ []) 1 1 ∷ []) (declared 0 method.Fun cap.Box [] ∷ declared 1 method.Fun c [] ∷ [])

-- The class has no method.
abbrev pub answers_nothing : CoreData
answers_nothing = core_of (entity kind.Trait [] 0 1 ∷ entity kind.Class (0 ∷ []) 1 0 ∷ []) (declared 0 method.Fun cap.Box [] ∷ [])

-- An actor with a behaviour that takes a `tag` and then a `ref`.
abbrev pub takes_ref : CoreData
takes_ref =
    core_of (entity kind.Actor [] 0 1 ∷ [])
    (declared 0 method.Be cap.Ref (record { entity = 0; cap = cap.Tag; span = nowhere } ∷ record { entity = 0; cap = cap.Ref; span = nowhere } ∷ []) ∷ [])

abbrev pub FaultsNamed : Type 0
FaultsNamed =
    (first_fault (answers cap.Box) ≡ None) × (first_fault (answers cap.Tag) ≡ None)
    × (first_fault (answers cap.Ref) ≡ Some (fault.Mismatch 1 1))
    × (first_fault answers_nothing ≡ Some (fault.MissingMethod 1 0))
    × (first_fault takes_ref ≡ Some (fault.NotSendable 0 1))

-- Entity 0 is of this kind, with a `fun box`, and entity 1 is a class without an `is` list, with a `fun` with this
-- receiver.
abbrev pub unnamed : EntityKind → Cap → CoreData
unnamed k c = core_of (entity k [] 0 1 ∷ entity kind.Class [] 1 1 ∷ []) (declared 0 method.Fun cap.Box [] ∷ declared 1 method.Fun c [] ∷ [])

-- Entity 0 is an interface without methods, entity 1 one with a `fun box` that returns entity 0, and entity 2 is a
-- class with a `fun box` that returns itself.
abbrev pub gives_itself : CoreData
gives_itself =
    core_of (entity kind.Interface [] 0 0 ∷ entity kind.Interface [] 0 1 ∷ entity kind.Class [] 1 1 ∷ [])
    (declared 1 method.Fun cap.Box [] ∷ giving 2 2 method.Fun cap.Box [] ∷ [])

-- An interface is recognized by its methods, a trait is not, and inside the comparison entities are compared by chains
-- alone.
abbrev pub SubtypesShown : Type 0
SubtypesShown =
    (is_sub (unnamed kind.Interface cap.Box) 1 0 ≡ true) × (is_sub (unnamed kind.Interface cap.Tag) 1 0 ≡ true)
    × (is_sub (unnamed kind.Interface cap.Ref) 1 0 ≡ false)
    × (is_sub (unnamed kind.Interface cap.Box) 0 1 ≡ false)
    × (is_sub (unnamed kind.Trait cap.Box) 1 0 ≡ false)
    × (is_sub gives_itself 2 0 ≡ true)
    × (is_sub gives_itself 2 1 ≡ false)
