-- Laws of the definitions.
use Rattle.std.specs.Prelude.{◌≡◌, ◌⊎◌, ℕ, Bool, ◌+◌, ◌<◌, ◌≤◌, List, [], ◌∷◌, ◌++◌, length, Some, Ok, slice_get}
use Rattle.pc_core.specs.{declared.nodes.Node.Node, Methods.{PostOrder, UsesSlot}, Nodes.{HasArity, inner_depth}}
use Rattle.pc_base.specs.{Lists.{Each, Has, Ascends, IsIn}, declared.span.Span.Span, Limits.{node_limit, slot_limit}}
use Rattle.pc_caps.specs.declared.capability.Cap.{Cap}
use Rattle.pc_tree.specs.declared.written_names.TypeRef.{TypeRef}
use Rattle.pc_body_spec.specs.{Bodies.{Rose, expr_of, body_of, added_body, Context, Scope, params_scope, slot_at}, Fold.{put, written_of}, Shapes.Shaped, Visibility.{Scoped, slots}, Methods.{slot_names, local_names, method_of, added_of}, Slots.{Local, locals_of, initial_locals, method_locals, slots_of, added_slots}, Counts.{times, local_times}, Places.{body_places, initial_places, fault_start, local_start}, Faults.{BodyNameFault, faults_of, body_faults, initial_faults}, Parts.written_faults, Meanings.{Every, NamesWhatIsThere}}
use Rattle.pc_core.specs.declared.nodes.NodeKind.TheVariants as node
use Rattle.pc_tree.specs.Tree as t

-- The result of appending a rose of method m to some nodes: `own` are its nodes, and n is the last of them.
pub record WasPut (m n : ℕ) (before after : List Node) : Type 0 where
  pub own : List Node
  pub behind : after ≡ before ++ own
  pub last : length after ≡ n + 1
  pub few : length after ≤ node_limit
  pub method : Each (λ i x. x.method ≡ m) own
  -- The nodes without a parent before them still have none after them, and neither does n.
  pub order : (waiting : List ℕ) → PostOrder (length before) own waiting (waiting ++ n ∷ [])

abbrev pub IsPostOrder : Type 0
IsPostOrder = (m : ℕ) (r : Rose) (n : ℕ) (before after : List Node) → put m r before ≡ Some (n, after) → WasPut m n before after

abbrev pub IsShaped : Type 0
IsShaped = (c : Context) (scope : Scope) (d : ℕ) (e : t.Expr) → Shaped d (expr_of c scope d e)

abbrev pub IsScoped : Type 0
IsScoped = (c : Context) (scope : Scope) (d : ℕ) (e : t.Expr) → Scoped (slots scope) (expr_of c scope d e)

-- Every program has texts, for example the built-in names.
abbrev pub NothingIsMissing : Type 0
NothingIsMissing = (c : Context) (scope : Scope) (d : ℕ) (e : t.Expr) → 0 < length c.texts → faults_of c scope e ≡ [] → Every (NamesWhatIsThere c) (expr_of c scope d e)

-- A node has as many children as its kind requires, and each of them is in the list, at the required depth.
pub record HasChildren (nodes : List Node) (x : Node) : Type 0 where
  pub arity : HasArity x.kind (length x.children)
  pub depths : Each (λ i k. (y : Node) × (slice_get nodes k ≡ Some y) × (y.depth ≡ inner_depth x.kind x.depth)) x.children

-- The same for the nodes of a whole body. No depth exceeds 32 bits, since there are not that many nodes.
abbrev pub NodesHaveChildren : Type 0
NodesHaveChildren = (m : ℕ) (r : Rose) (n : ℕ) (before after : List Node) → Shaped 0 r → put m r before ≡ Some (n, after) → (i : ℕ) (x : Node) → length before ≤ i → slice_get after i ≡ Some x → HasChildren after x

-- The result of appending a whole body of method m to some nodes: its nodes, in post-order, of which the body is the
-- last and the only one of its kind, each with its children; and everything they refer to exists.
pub record BodyStands (c : Context) (m n : ℕ) (before after : List Node) : Type 0 where
  pub stands : WasPut m n before after
  pub root : Node
  pub is_root : slice_get after n ≡ Some root
  pub is_body : root.kind ≡ node.Body
  pub depth : root.depth ≡ 0
  pub children : (i : ℕ) (x : Node) → length before ≤ i → slice_get after i ≡ Some x → HasChildren after x
  pub names : (i : ℕ) (x : Node) → length before ≤ i → i < n → slice_get after i ≡ Some x → NamesWhatIsThere c x.kind

abbrev pub BodiesStand : Type 0
BodiesStand = (c : Context) (fs : List t.Field) (x : t.Method) (r : Rose) (m n : ℕ) (before after : List Node) → 0 < length c.texts → body_faults c fs x ≡ [] → body_of c fs x ≡ Some r → put m r before ≡ Some (n, after) → BodyStands c m n before after

abbrev pub AddedBodiesStand : Type 0
AddedBodiesStand = (c : Context) (fs : List t.Field) (name : Span) (m n : ℕ) (before after : List Node) → 0 < length c.texts → initial_faults c fs ≡ [] → put m (added_body c fs name) before ≡ Some (n, after) → BodyStands c m n before after

-- A body refers to no locals except its parameters and those it defines. The body of an added `create` has no
-- parameters.
abbrev pub BodiesAreScoped : Type 0
BodiesAreScoped = (c : Context) (fs : List t.Field) (x : t.Method) (r : Rose) → body_of c fs x ≡ Some r → Scoped (slots (params_scope x.params)) r

abbrev pub AddedBodiesAreScoped : Type 0
AddedBodiesAreScoped = (c : Context) (fs : List t.Field) (name : Span) → Scoped [] (added_body c fs name)

-- Node i is an item of a sequence that comes after it.
pub record IsItem (nodes : List Node) (i : ℕ) : Type 0 where
  pub sequence : ℕ
  pub around : Node
  pub is_around : slice_get nodes sequence ≡ Some around
  pub is_sequence : around.kind ≡ node.Seq
  pub item : Has around.children i
  pub behind : i < sequence

-- Node i is in a later item of a sequence in which an earlier item defines the local with slot s: it comes between the
-- two.
pub record IsDefined (nodes : List Node) (i s : ℕ) : Type 0 where
  pub define : ℕ
  pub definition : Node
  pub is_definition : slice_get nodes define ≡ Some definition
  pub defines : definition.kind ≡ node.Define s
  pub before : define < i
  pub sequence : ℕ
  pub around : Node
  pub is_around : slice_get nodes sequence ≡ Some around
  pub is_sequence : around.kind ≡ node.Seq
  pub item : Has around.children define
  pub behind : i < sequence

-- After a rose that refers only to visible locals is appended, every use of a slot is of one that was visible from the
-- start, or of one that is defined before; and each definition is an item of a sequence.
abbrev pub LocalsAreDefined : Type 0
LocalsAreDefined =
    (visible : List ℕ) (m : ℕ) (r : Rose) (n : ℕ) (before after : List Node) → Scoped visible r → put m r before ≡ Some (n, after)
    → (i : ℕ) (x : Node) → length before ≤ i → slice_get after i ≡ Some x
    → ((s : ℕ) → UsesSlot s x.kind → IsIn s visible ⊎ IsDefined after i s) × ((s : ℕ) → x.kind ≡ node.Define s → IsItem after i)

-- If the names of a body are in the order of the text, as they are in a tree that a text spells, the first fault is the
-- one with the smallest start.
abbrev pub FirstIsLeast : Type 0
FirstIsLeast = (c : Context) (fs : List t.Field) (x : t.Method) (g : BodyNameFault) (rest : List BodyNameFault) → Ascends (body_places fs x) → body_faults c fs x ≡ g ∷ rest → Each (λ i h. fault_start g ≤ fault_start h) (body_faults c fs x)

-- Then each local has the slot given by its place among the locals, and no other local has it.
abbrev pub LocalsHaveSlots : Type 0
LocalsHaveSlots = (fs : List t.Field) (x : t.Method) → Ascends (body_places fs x) → (i : ℕ) (l : Local) → slice_get (method_locals fs x) i ≡ Some l → slot_at (slots_of fs x) (local_start l) ≡ 1 + length x.params + i

-- An expression without a fault has as many definitions as locals, also counting only those whose slot and depth pass a
-- test.
abbrev pub IsDefinedAsOften : Type 0
IsDefinedAsOften = (c : Context) (test : ℕ → ℕ → Bool) (scope : Scope) (d : ℕ) (e : t.Expr) → faults_of c scope e ≡ [] → times test (expr_of c scope d e) ≡ local_times c test (locals_of d e)

-- Of the appended nodes exactly one defines the slot, at this depth.
pub record IsDefinedOnce (slot depth : ℕ) (before after : List Node) : Type 0 where
  pub define : ℕ
  pub definition : Node
  pub behind : length before ≤ define
  pub is_definition : slice_get after define ≡ Some definition
  pub defines : definition.kind ≡ node.Define slot
  pub deep : definition.depth ≡ depth
  pub only : (k : ℕ) (x : Node) → length before ≤ k → slice_get after k ≡ Some x → x.kind ≡ node.Define slot → k ≡ define

-- In a body without a fault, whose names are in the order of the text, each local is defined once, with its slot and at
-- its depth.
abbrev pub LocalsAreDefinedOnce : Type 0
LocalsAreDefinedOnce =
    (c : Context) (fs : List t.Field) (x : t.Method) (r : Rose) (m n : ℕ) (before after : List Node) → c.slots ≡ slots_of fs x → Ascends (body_places fs x) → body_faults c fs x ≡ []
    → body_of c fs x ≡ Some r → put m r before ≡ Some (n, after) → (i : ℕ) (l : Local) → slice_get (method_locals fs x) i ≡ Some l → IsDefinedOnce (1 + length x.params + i) l.depth before after

abbrev pub AddedLocalsAreDefinedOnce : Type 0
AddedLocalsAreDefinedOnce =
    (c : Context) (fs : List t.Field) (name : Span) (m n : ℕ) (before after : List Node) → c.slots ≡ added_slots fs → Ascends (initial_places fs) → initial_faults c fs ≡ []
    → put m (added_body c fs name) before ≡ Some (n, after) → (i : ℕ) (l : Local) → slice_get (initial_locals fs) i ≡ Some l → IsDefinedOnce (1 + i) l.depth before after

-- The type that is written for a local names an entity, unless it is a fault.
abbrev pub WrittenTypesAreThere : Type 0
WrittenTypesAreThere = (c : Context) (ty : TypeRef) → written_faults c (Some ty) ≡ [] → (p : ℕ × Cap) × (written_of c (Some ty) ≡ Some p) × (p.0 < length c.entities)

-- A method without a fault has at most 64 slots, counting the one for `this`, and its body is as described.
abbrev pub MethodsStand : Type 0
MethodsStand =
    (c : Context) (m : ℕ) (fs : List t.Field) (x : t.Method) (n : ℕ) (before after : List Node) → 0 < length c.texts → method_of c m fs x before ≡ Ok (Some n, after)
    → (1 + length (slot_names fs x) ≤ slot_limit) × BodyStands c m n before after

abbrev pub AddedMethodsStand : Type 0
AddedMethodsStand =
    (c : Context) (m : ℕ) (fs : List t.Field) (name : Span) (n : ℕ) (before after : List Node) → 0 < length c.texts → added_of c m fs name before ≡ Ok (Some n, after)
    → (1 + length (local_names (initial_locals fs)) ≤ slot_limit) × BodyStands c m n before after
