-- The turn in which each fault of a file is looked for. There are five passes over its names, and then its members have
-- their turns: the body of a member, its slots, and its nodes.
use Rattle.std.specs.Prelude.{◌≡◌, ◌⊎◌, ℕ, suc, ◌+◌, ◌*◌, ◌<◌, ◌≤◌, false, List, [], ◌∷◌, take, Option, Some, None, slice_get, codes, ◌-◌}
use Rattle.pc_base.specs.{Limits.{method_limit, node_limit, slot_limit}, Lists.Has}
use Rattle.pc_tree.specs.{declared.written_names.Name.Name, Kinds.first_own}
use Rattle.pc_names.specs.{declared.fault.NameFault.NameFault, Parts.method_count, Mains.is_main, Laws.fault_start}
use Rattle.pc_members.specs.{Members.{texts_of, InCycle, entity_at, Member, written, added}, MemberLists.member_span}
use Rattle.pc_body_spec.specs.{Bodies.{Rose, body_of, added_body, Context}, Slots.initial_locals, Methods.{slot_names, local_names}, Faults.BodyNameFault}
use Rattle.pc_file_spec.specs.Cores.{Owned, members_from, context_of, body_fault}
use Rattle.pc_core_relation.specs.MemberFaults.{node_count}
use Rattle.pc_name_laws.specs.{Missing.IsBodyFault, Declared.{HasBefore, IsEntityFault, IsDeclarationFault}}
use Rattle.pc_tree.specs.Tree as t
use Rattle.pc_names.specs.declared.fault.NameFault.TheVariants as fault
use Rattle.pc_names.specs.declared.fault.Which.TheVariants as which

pub data Turn : Type 0 where
  -- the names of all entities
  entity_names : Turn
  -- the declarations of all entities
  declarations : Turn
  cycles : Turn
  method_counts : Turn
  main : Turn
  -- of this member of the file
  body : ℕ → Turn
  slots : ℕ → Turn
  nodes : ℕ → Turn

-- Turns come one after the other, those of a member before those of the next member.
abbrev pub pass : Turn → ℕ
pass entity_names = 0
pass declarations = 1
pass cycles = 2
pass method_counts = 3
pass main = 4
pass (body k) = 5
pass (slots k) = 5
pass (nodes k) = 5

abbrev pub part : Turn → ℕ
part entity_names = 0
part declarations = 0
part cycles = 0
part method_counts = 0
part main = 0
part (body k) = 3 * k
part (slots k) = 3 * k + 1
part (nodes k) = 3 * k + 2

abbrev pub Earlier : Turn → Turn → Type 0
Earlier a b = (pass a < pass b) ⊎ ((pass a ≡ pass b) × (part a < part b))

-- ---- passes over names

-- A trait or an interface from which a chain of `is` leads back to it.
abbrev pub IsCycleFault : t.File → NameFault → Type 0
IsCycleFault file f = (a : ℕ) × (e : t.Entity) × InCycle file a × entity_at file a e × (f ≡ fault.Cycle e.name.span)

-- How many methods the first k of these entities have. The first argument is the list of all entities.
abbrev pub methods_to : List t.Entity → List t.Entity → ℕ → ℕ
methods_to all (e ∷ es) (suc k) = method_count all e + methods_to all es k
methods_to all es k = 0

-- An entity up to which the file has more than 10,000 methods.
abbrev pub IsCountFault : t.File → NameFault → Type 0
IsCountFault file f = (i : ℕ) × (e : t.Entity) × (slice_get file.entities i ≡ Some e) × (method_limit < methods_to file.entities file.entities (suc i)) × (f ≡ fault.TooMany which.Methods e.name.span)

-- No entity is called `Main`; or the first one called so is not an actor, or has no constructor `create` with exactly
-- one parameter, of type `Env val`.
abbrev pub IsMainFault : t.File → NameFault → Type 0
IsMainFault file f =
    ((f ≡ fault.NoMain) × (Has (texts_of file.entities) (codes "Main") → ⊥))
    ⊎ ((i : ℕ) × (e : t.Entity) × (f ≡ fault.BadMain e.name.span) × (slice_get file.entities i ≡ Some e) × (e.name.text ≡ codes "Main") × (HasBefore (texts_of file.entities) i (codes "Main") → ⊥) × (is_main e ≡ false))

-- ---- members

abbrev pub all_members : t.File → List Owned
all_members file = members_from file.entities first_own file.entities

-- The names of a member's slots, after that of `this`.
abbrev pub slots_named : t.Entity → Member → List Name
slots_named e (written m) = slot_names e.fields m
slots_named e added = local_names (initial_locals e.fields)

abbrev pub size_if : Option Rose → ℕ
size_if None = 0
size_if (Some r) = node_count r

-- How many nodes a member has.
abbrev pub member_size : Context → t.Entity → Member → ℕ
member_size c e (written m) = size_if (body_of c e.fields m)
member_size c e added = node_count (added_body c e.fields e.name.span)

abbrev pub owned_size : t.File → Owned → ℕ
owned_size file o = member_size (context_of file o) o.owner o.member

-- How many nodes these members have together.
abbrev pub nodes_of : t.File → List Owned → ℕ
nodes_of file [] = 0
nodes_of file (o ∷ os) = owned_size file o + nodes_of file os

-- ---- all faults

-- The file has this fault in this turn.
abbrev pub IsFaultInTurn : t.File → Turn → NameFault → Type 0
IsFaultInTurn file entity_names f = IsEntityFault file f
IsFaultInTurn file declarations f = (e : t.Entity) × Has file.entities e × IsDeclarationFault file e f
IsFaultInTurn file cycles f = IsCycleFault file f
IsFaultInTurn file method_counts f = IsCountFault file f
IsFaultInTurn file main f = IsMainFault file f
IsFaultInTurn file (body k) f = (o : Owned) × (g : BodyNameFault) × (slice_get (all_members file) k ≡ Some o) × IsBodyFault (context_of file o) o.owner o.member g × (f ≡ body_fault g)
IsFaultInTurn file (slots k) f = (o : Owned) × (n : Name) × (slice_get (all_members file) k ≡ Some o) × (slice_get (slots_named o.owner o.member) (slot_limit - 1) ≡ Some n) × (f ≡ fault.TooMany which.Slots n.span)
IsFaultInTurn file (nodes k) f = (o : Owned) × (slice_get (all_members file) k ≡ Some o) × (node_limit < nodes_of file (take (suc k) (all_members file))) × (f ≡ fault.TooMany which.Nodes (member_span o.owner.name.span o.member))

-- A fault in a turn precedes another in a turn, or equals it: its turn is not later, and within one turn it has the
-- smaller start.
abbrev pub IsBefore : Turn → NameFault → Turn → NameFault → Type 0
IsBefore t f u g = (Earlier u t → ⊥) × (t ≡ u → (f ≡ g) ⊎ (fault_start f < fault_start g))

-- A fault in a turn is not after a place in another: its turn is not later, and within one turn it does not start
-- later.
abbrev pub NotBehind : Turn → NameFault → Turn → ℕ → Type 0
NotBehind t f u start = (Earlier u t → ⊥) × (t ≡ u → fault_start f ≤ start)
