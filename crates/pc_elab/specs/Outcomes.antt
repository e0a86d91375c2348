-- The elaboration of the members of a file, in terms of the code.
use Rattle.std.specs.Prelude.{◌≡◌, ℕ, suc, List, [], ◌∷◌, ◌++◌, map, length, Option, Some, None, Result, Ok, Err, slice_get, ◌-◌}
use Rattle.pc_base.specs.{declared.span.Span.Span, Limits.slot_limit}
use Rattle.pc_tree.specs.declared.written_names.Name.{Name}
use Rattle.pc_core.specs.declared.nodes.Node.{Node}
use Rattle.pc_names.specs.declared.fault.NameFault.{NameFault}
use Rattle.pc_body_walks.specs.declared.fault.BodyFault.{BodyFault}
use Rattle.pc_members.specs.{Members.{field_texts, Member, written, added, member_text}, MemberLists.member_span}
use Rattle.pc_body_spec.specs.{Bodies.{Rose, body_of, added_body, Context, PlacedLocal}, Faults.{BodyNameFault, body_faults, initial_faults}, Slots.Local, Methods.{MethodFault, MethodOutcome, param_names, local_names, unless_fault, unless_full, put_body}}
use Rattle.pc_file_spec.specs.Cores.{Owned, owned, placed_of, slots_from, declared, Parts, name_fault, if_ok, and_member}
use Rattle.pc_tree.specs.Tree as t
use Rattle.pc_names.specs.declared.fault.NameFault.TheVariants as fault
use Rattle.pc_names.specs.declared.fault.Which.TheVariants as which
use Rattle.pc_body_walks.specs.declared.fault.BodyFault.TheVariants as body

-- The fault of a file that corresponds to a fault of a body.
abbrev pub as_name_fault : BodyFault → NameFault
as_name_fault (body.Unknown s) = fault.Unknown s
as_name_fault (body.Double s) = fault.Double s
as_name_fault (body.LongText s) = fault.TooMany which.Text s
as_name_fault body.Memory = fault.Memory

-- A value and nodes are the wanted ones, or a fault is the wanted one. Memory may run out at any time.
abbrev pub Becomes : Result (Option ℕ) NameFault → List Node → MethodOutcome → Type 0
Becomes (Ok b) nodes want = want ≡ Ok (b, nodes)
Becomes (Err fault.Memory) nodes want = Unit {0}
Becomes (Err f) nodes want = (g : MethodFault) × (f ≡ name_fault g) × (want ≡ Err g)

-- The same for the parts of a program.
abbrev pub Grows : {A : Type 0} → Result A NameFault → Parts → Result Parts NameFault → Type 0
Grows (Ok x) p want = want ≡ Ok p
Grows (Err fault.Memory) p want = Unit {0}
Grows (Err f) p want = want ≡ Err f

-- ---- a member

abbrev pub member_faults : Context → t.Entity → Member → List BodyNameFault
member_faults c e (written m) = body_faults c e.fields m
member_faults c e added = initial_faults c e.fields

abbrev pub member_params : Member → List Name
member_params (written m) = param_names m.params
member_params added = []

abbrev pub member_rose : Context → t.Entity → Member → Option Rose
member_rose c e (written m) = body_of c e.fields m
member_rose c e added = Some (added_body c e.fields e.name.span)

abbrev pub span_of : Option Name → Option Span
span_of None = None
span_of (Some n) = Some n.span

-- The span of the 65th slot's name.
abbrev pub extra_slot : Member → List Local → Option Span
extra_slot x locals = span_of (slice_get (member_params x ++ local_names locals) (slot_limit - 1))

-- The elaboration of a member with these locals, given that of its nodes.
abbrev pub before_nodes : Context → t.Entity → Member → List Local → MethodOutcome → MethodOutcome
before_nodes c e x locals rest = unless_fault (member_faults c e x) (unless_full (member_params x ++ local_names locals) rest)

abbrev pub outcome_with : Context → ℕ → t.Entity → Member → List Local → List Node → MethodOutcome
outcome_with c m e x locals before = before_nodes c e x locals (put_body m (member_span e.name.span x) (member_rose c e x) before)

-- Nothing takes precedence over the nodes; or this fault does, whatever their outcome.
abbrev pub PassesOrStops : Result (Unit {0}) NameFault → (MethodOutcome → MethodOutcome) → Type 0
PassesOrStops (Ok x) step = (rest : MethodOutcome) → step rest ≡ rest
PassesOrStops (Err fault.Memory) step = Unit {0}
PassesOrStops (Err f) step = (g : MethodFault) × (f ≡ name_fault g) × ((rest : MethodOutcome) → step rest ≡ Err g)

-- These parts, whose nodes include those of the member already, followed by its method and its slots.
abbrev pub joined_with : Context → Parts → Owned → ℕ → Option ℕ → Parts
joined_with c p o first_node b = record {
  methods = p.methods ++ declared c o (length p.slots) (length (slots_from c (length p.methods) o)) first_node b ∷ [];
  slots = p.slots ++ slots_from c (length p.methods) o;
  nodes = p.nodes;
}

-- ---- the members of an entity

abbrev pub with_slots : Context → List PlacedLocal → Context
with_slots c slots = record { fields = c.fields; methods = c.methods; entities = c.entities; texts = c.texts; slots = slots }

-- A member in this context, except for the slots of its own locals.
abbrev pub own_member : Context → Parts → Owned → Result Parts NameFault
own_member c p o = and_member (with_slots c (placed_of o.owner o.member)) p o

abbrev pub own_members : Context → Parts → List Owned → Result Parts NameFault
own_members c p [] = Ok p
own_members c p (o ∷ os) = if_ok (own_member c p o) (λ q. own_members c q os)

-- ---- the members of several entities

abbrev pub with_members : Context → t.Entity → List Member → Context
with_members c e ms = record { fields = field_texts e.fields; methods = map member_text ms; entities = c.entities; texts = c.texts; slots = [] }

abbrev pub entity_members : Context → Parts → ℕ → t.Entity → List Member → Result Parts NameFault
entity_members c p n e ms = own_members (with_members c e ms) p (map (owned n e) ms)

abbrev pub row_members : Context → Parts → ℕ → List t.Entity → List (List Member) → Result Parts NameFault
row_members c p n (e ∷ es) (ms ∷ table) = if_ok (entity_members c p n e ms) (λ q. row_members c q (suc n) es table)
row_members c p n es table = Ok p
