-- What a fold over a file makes for each method: the slots of its locals, and nodes with numbers.
use Rattle.std.specs.{Prelude.{ℕ, List, [], ◌∷◌, ◌++◌, length, Option, Some, None, if◌then◌else◌, nat_lt, suc, ◌+◌, unwrap_or}, Str.bytes_eq}
use Rattle.pc_base.specs.{declared.span.Span.Span, Limits.node_limit}
use Rattle.pc_caps.specs.declared.capability.Cap.{Cap}
use Rattle.pc_core.specs.{declared.nodes.Node.Node, declared.nodes.NodeKind.NodeKind, declared.nodes.Slot.Slot}
use Rattle.pc_tree.specs.declared.written_names.TypeRef.{TypeRef}
use Rattle.pc_body_spec.specs.{Bodies.{Context, KnownEntity, Rose, rose, Roses, no_roses, more, node_of}, Slots.{Local, local_kind}}

-- A result and the nodes so far, or none if there are too many nodes.
abbrev pub Numbered : Type 0 → Type 0
Numbered A = Option (A × List Node)

abbrev pub and_then : {A B : Type 0} → Numbered A → (A → List Node → Numbered B) → Numbered B
and_then None f = None
and_then (Some r) f = f r.0 r.1

-- Appends a node of method m, whose number is its place.
unfoldable pub push : ℕ → NodeKind → Span → ℕ → List ℕ → List Node → Numbered ℕ
push m k s d children ns = if nat_lt (length ns) node_limit then Some (length ns, ns ++ node_of m k s d children ∷ []) else None

-- Appends the nodes of a rose of method m: those of its children one after the other, and then its own, whose number is
-- the result.
abbrev mutual
  pub put : ℕ → Rose → List Node → Numbered ℕ
  put m (rose k s d rs) ns = and_then (puts m rs ns) (push m k s d)

  pub puts : ℕ → Roses → List Node → Numbered (List ℕ)
  puts m no_roses ns = Some ([], ns)
  puts m (more r rs) ns = and_then (put m r ns) (λ a. λ ns. and_then (puts m rs ns) (λ b. λ ns. Some (a ∷ b, ns)))

-- The type with this name among entities whose numbers start with this one.
abbrev pub type_of_name : ℕ → List KnownEntity → TypeRef → Option (ℕ × Cap)
type_of_name at [] ty = None
type_of_name at (x ∷ xs) ty = if bytes_eq x.name ty.name.text then Some (at, unwrap_or ty.cap x.cap) else type_of_name (suc at) xs ty

abbrev pub written_of : Context → Option TypeRef → Option (ℕ × Cap)
written_of c None = None
written_of c (Some ty) = type_of_name 0 c.entities ty

-- The slot of a local of method m.
abbrev pub local_slot : Context → ℕ → Local → Slot
local_slot c m l = record { method = m; kind = local_kind l.fixed; depth = l.depth; written = written_of c l.ty }
