-- When an entity is below another, and when the declarations of a core fit each other.
use Rattle.std.specs.Prelude.{◌≡◌, ◌⊎◌, ℕ, Bool, true, false, Some, slice_get}
use Rattle.pc_tree.specs.{declared.kinds.EntityKind.EntityKind, Kinds.at_kind}
use Rattle.pc_core.specs.{declared.declarations.EntityDef.EntityDef, CoreData.CoreData, Entities.{Chain, Conforms}, declared.declarations.Method.Method, declared.declarations.MethodKind.MethodKind}
use Rattle.pc_caps.specs.{Tables.{sendable, at_form}, declared.capability.Form.Form}
use Rattle.pc_base.specs.Lists.{Each}
use Rattle.pc_core.specs.declared.declarations.MethodKind.TheVariants as method

-- For these kinds, an entity is below another that it does not name if it has the methods.
abbrev pub is_structural : EntityKind → Bool
is_structural = at_kind false false false false true

abbrev pub IsInterface : CoreData → ℕ → Type 0
IsInterface core e = (x : EntityDef) × (slice_get core.entities e ≡ Some x) × (is_structural x.kind ≡ true)

-- The entities are the same, a chain of `is` leads from the first to the second, or the second is an interface to which
-- the first conforms (nominal and structural subtyping, in the Pony tutorial). It need not be transitive, since
-- conformance compares entities by chains alone.
abbrev pub Sub : CoreData → (entity above : ℕ) → Type 0
Sub core a b = Chain core a b ⊎ (IsInterface core b × Conforms core a b)

-- ---- when the declarations of a core fit each other

-- The results of a class's constructor for which its parameters must be sendable.
abbrev pub isolates : Form → Bool
isolates = at_form true true false false false true false false

-- The parameters of this method must be sendable: a behaviour, an actor's constructor, or a class's constructor whose
-- result is `iso`, `trn` or `val`.
abbrev pub takes_sendable : MethodKind → Form → Bool
takes_sendable method.Fun f = false
takes_sendable method.Be f = true
takes_sendable method.New f = isolates f
takes_sendable method.Spawn f = true

-- If they must be, all parameters of the method are sendable.
abbrev pub TakesSendable : Method → Type 0
TakesSendable x = takes_sendable x.kind x.result.1 ≡ true → Each (λ i p. sendable p.cap ≡ true) x.params

-- The declarations fit: what must be sendable is, and each entity conforms to each trait and interface of its `is`
-- list.
pub record DeclOk (core : CoreData) : Type 0 where
  pub sendable : Each (λ m x. TakesSendable x) core.methods
  pub conform : Each (λ e x. Each (λ i b. Conforms core e b) x.provides) core.entities
