-- Parts of the definitions of bodies, each with a name.
use Rattle.std.specs.{Prelude.{ℕ, Bool, List, [], ◌∷◌, flat_map, Option, option_map, unwrap_or, ◌++◌}, Option.{option_map_or, is_none}}
use Rattle.pc_base.specs.{Lists.one_if, declared.span.Span.Span}
use Rattle.pc_caps.specs.declared.capability.Cap.{Cap}
use Rattle.pc_tree.specs.{declared.written_names.Name.Name, declared.written_names.TypeRef.TypeRef}
use Rattle.pc_body_spec.specs.{Bodies.{Rose, Roses, leaf, gap, more, write_field, added_this, expr_of, body_with, Context, Scope}, Faults.{BodyNameFault, faults_of, seq_faults, written_type_faults}, Slots.{Local, locals_of, seq_locals, expr_texts, seq_texts}}
use Rattle.pc_core.specs.declared.nodes.NodeKind.TheVariants as node
use Rattle.pc_tree.specs.Tree as t

-- ---- nodes

abbrev pub consumed : Span → ℕ → Option ℕ → Rose
consumed s d slot = option_map_or (λ x. leaf (node.Consume x) s d) slot (gap s d)

abbrev pub initial_of : Context → Name → Option t.Expr → Roses → Roses
initial_of c n value rest = option_map_or (λ e. more (write_field c n.span n 0 (expr_of c [] 0 e) (added_this n 0)) rest) value rest

abbrev pub maybe_body : Context → List t.Field → t.Method → Option t.Seq → Option Rose
maybe_body c fs m body = option_map (body_with c fs m) body

-- ---- faults

abbrev pub fault_if : Bool → BodyNameFault → List BodyNameFault
fault_if b f = one_if b f

-- A fault if there is nothing.
abbrev pub unless_some : {A : Type 0} → Option A → BodyNameFault → List BodyNameFault
unless_some o f = one_if (is_none o) f

abbrev pub written_faults : Context → Option TypeRef → List BodyNameFault
written_faults c ty = option_map_or (written_type_faults c) ty []

abbrev pub value_faults : Context → Option t.Expr → List BodyNameFault
value_faults c value = option_map_or (faults_of c []) value []

abbrev pub written_body_faults : Context → Scope → Option t.Seq → List BodyNameFault
written_body_faults c sc body = option_map_or (seq_faults c sc) body []

-- ---- locals

abbrev pub value_locals : Option t.Expr → List Local
value_locals value = option_map_or (locals_of 0) value []

abbrev pub body_locals : Option t.Seq → List Local
body_locals body = option_map_or (seq_locals 0) body []

-- The capability that is written, or else that of the entity.
abbrev pub cap_or : Option Cap → Cap → Cap
cap_or written own = unwrap_or written own

-- ---- the names after a `.`

abbrev pub value_texts : Option t.Expr → List (List ℕ)
value_texts value = option_map_or expr_texts value []

abbrev pub body_texts : Option t.Seq → List (List ℕ)
body_texts body = option_map_or seq_texts body []

abbrev pub values_texts : List t.Field → List (List ℕ)
values_texts fs = flat_map (λ (f : t.Field). value_texts f.value) fs

abbrev pub bodies_texts : List t.Method → List (List ℕ)
bodies_texts ms = flat_map (λ (m : t.Method). body_texts m.body) ms
