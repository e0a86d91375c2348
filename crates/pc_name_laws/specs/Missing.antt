-- Which uses in a body are at fault: names without a meaning, locals whose name is taken, and texts that are too long.
use Rattle.std.specs.Prelude.{◌≡◌, ◌⊎◌, ℕ, ◌<◌, ◌≤◌, List, length, Some, slice_get, codes}
use Rattle.pc_base.specs.{Lists.{Has, Text}, declared.span.Span.Span, Limits.text_limit}
use Rattle.pc_tree.specs.Kinds.{none_entity, first_own}
use Rattle.pc_body_spec.specs.{Bodies.{Context, KnownEntity, Constructor}, Faults.{BodyNameFault, unknown, double, long_text, arguments, name}}
use Rattle.pc_members.specs.Members.{Member}
use Rattle.pc_name_laws.specs.Uses.{NameUse, bare, consumed, type_value, member_of, local, local_type, literal, Spot, InMember}
use Rattle.pc_tree.specs.declared.kinds.EntityKind.TheVariants as kind
use Rattle.pc_tree.specs.Tree as t

-- ---- what type names mean

-- Entity number i is the first with this name.
abbrev pub IsFirstNamed : Context → Text → ℕ → KnownEntity → Type 0
IsFirstNamed c n i x = (slice_get c.entities i ≡ Some x) × (x.name ≡ n) × ((j : ℕ) (y : KnownEntity) → j < i → slice_get c.entities j ≡ Some y → y.name ≡ n → ⊥)

-- Of the built-in entities only None is a value or makes one.
abbrev pub HasValue : ℕ → Type 0
HasValue i = (i ≡ none_entity) ⊎ (first_own ≤ i)

abbrev pub IsPrimitive : Context → Text → Type 0
IsPrimitive c n = (i : ℕ) × (x : KnownEntity) × IsFirstNamed c n i x × HasValue i × (x.kind ≡ kind.Primitive)

-- A class or an actor, of which objects can be made.
abbrev pub IsCreated : Context → Text → KnownEntity → Type 0
IsCreated c n x = (i : ℕ) × IsFirstNamed c n i x × HasValue i × ((x.kind ≡ kind.Class) ⊎ (x.kind ≡ kind.Actor))

abbrev pub HasConstructor : KnownEntity → Text → Type 0
HasConstructor x n = (k : Constructor) × Has x.constructors k × (k.name ≡ n)

-- ---- what uses mean

-- A bare name is a visible local or parameter, a field of the entity, or, directly before arguments, a method of the
-- entity. A type name is a primitive, or a class or actor with a constructor `create`, which may be missing directly
-- before a `.`. After the `.` of a class or actor comes one of its constructors, before arguments.
abbrev pub Means : Context → List Text → NameUse → Type 0
Means c visible (bare n next) = Has visible n.text ⊎ Has c.fields n.text ⊎ ((next ≡ arguments) × Has c.methods n.text)
Means c visible (consumed n) = Has visible n.text
Means c visible (type_value n next) = IsPrimitive c n.text
    ⊎ ((x : KnownEntity) × IsCreated c n.text x × ((next ≡ name) ⊎ HasConstructor x (codes "create")))
Means c visible (member_of of m next) = (x : KnownEntity) → IsCreated c of.text x → (next ≡ arguments) × HasConstructor x m.text
Means c visible (local n) = Unit {0}
Means c visible (local_type n) = (x : KnownEntity) × Has c.entities x × (x.name ≡ n.text)
Means c visible (literal b s) = Unit {0}

-- The span of a use.
abbrev pub place : NameUse → Span
place (bare n next) = n.span
place (consumed n) = n.span
place (type_value n next) = n.span
place (member_of of m next) = m.span
place (local n) = n.span
place (local_type n) = n.span
place (literal b s) = s

abbrev pub IsMissing : Context → Spot → Type 0
IsMissing c x = Means c x.visible x.what → ⊥

-- A local has the name of a visible local or parameter, or of a field.
abbrev pub IsTaken : Context → List Text → NameUse → Type 0
IsTaken c visible (bare n next) = ⊥
IsTaken c visible (consumed n) = ⊥
IsTaken c visible (type_value n next) = ⊥
IsTaken c visible (member_of of m next) = ⊥
IsTaken c visible (local n) = Has visible n.text ⊎ Has c.fields n.text
IsTaken c visible (local_type n) = ⊥
IsTaken c visible (literal b s) = ⊥

-- A text has more than 4,096 bytes.
abbrev pub IsLong : NameUse → Type 0
IsLong (bare n next) = ⊥
IsLong (consumed n) = ⊥
IsLong (type_value n next) = ⊥
IsLong (member_of of m next) = ⊥
IsLong (local n) = ⊥
IsLong (local_type n) = ⊥
IsLong (literal b s) = text_limit < length b

-- The use has this fault.
abbrev pub IsAtFault : Context → Spot → BodyNameFault → Type 0
IsAtFault c x f =
    ((f ≡ unknown (place x.what)) × IsMissing c x) ⊎ ((f ≡ double (place x.what)) × IsTaken c x.visible x.what) ⊎ ((f ≡ long_text (place x.what)) × IsLong x.what)

-- A fault of the body of a member of an entity.
abbrev pub IsBodyFault : Context → t.Entity → Member → BodyNameFault → Type 0
IsBodyFault c e m f = (x : Spot) × InMember e m x × IsAtFault c x f
