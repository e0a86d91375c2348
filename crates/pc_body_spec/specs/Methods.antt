-- The elaboration of a method: its nodes after those of the methods before it, or its first fault.
use Rattle.std.specs.Prelude.{ℕ, List, [], ◌∷◌, ◌++◌, map, Option, Some, None, Result, Ok, Err, slice_get, ◌-◌}
use Rattle.pc_base.specs.{declared.span.Span.Span, Limits.slot_limit}
use Rattle.pc_tree.specs.{declared.written_names.Name.Name, declared.file.ParamDef.ParamDef}
use Rattle.pc_core.specs.declared.nodes.Node.{Node}
use Rattle.pc_body_spec.specs.{Bodies.{Rose, body_of, added_body, Context}, Fold.{Numbered, put}, Faults.{BodyNameFault, body_faults, initial_faults}, Slots.{Local, initial_locals, method_locals}}
use Rattle.pc_tree.specs.Tree as t

pub data MethodFault : Type 0 where
  -- a fault of its body
  in_body : BodyNameFault → MethodFault
  -- the name of its 65th slot
  slots_full : Span → MethodFault
  -- its own name, if all methods so far have too many nodes
  nodes_full : Span → MethodFault

-- The number of its body, if it has one, and all nodes so far.
abbrev pub MethodOutcome : Type 0
MethodOutcome = Result (Option ℕ × List Node) MethodFault

abbrev pub param_names : List ParamDef → List Name
param_names ps = map (λ p. p.name) ps

abbrev pub local_names : List Local → List Name
local_names ls = map (λ l. l.name) ls

-- The names of the slots of a method, after that of `this`.
abbrev pub slot_names : List t.Field → t.Method → List Name
slot_names fs x = param_names x.params ++ local_names (method_locals fs x)

-- The first fault of the body takes precedence over a slot past the limit, and this over the count of the nodes. The
-- names are those of the slots after that of `this`.
abbrev pub unless_fault : List BodyNameFault → MethodOutcome → MethodOutcome
unless_fault [] rest = rest
unless_fault (f ∷ fs) rest = Err (in_body f)

abbrev pub unless_name : Option Name → MethodOutcome → MethodOutcome
unless_name None rest = rest
unless_name (Some n) rest = Err (slots_full n.span)

abbrev pub unless_full : List Name → MethodOutcome → MethodOutcome
unless_full names rest = unless_name (slice_get names (slot_limit - 1)) rest

abbrev pub numbered_or_full : Span → Numbered ℕ → MethodOutcome
numbered_or_full name None = Err (nodes_full name)
numbered_or_full name (Some r) = Ok (Some r.0, r.1)

abbrev pub put_body : ℕ → Span → Option Rose → List Node → MethodOutcome
put_body m name None before = Ok (None, before)
put_body m name (Some r) before = numbered_or_full name (put m r before)

-- Method m, of an entity with these fields, after the nodes of the methods before it.
abbrev pub method_of : Context → ℕ → List t.Field → t.Method → List Node → MethodOutcome
method_of c m fs x before = unless_fault (body_faults c fs x) (unless_full (slot_names fs x) (put_body m x.name.span (body_of c fs x) before))

-- A `create` that is added to an entity with this name.
abbrev pub added_of : Context → ℕ → List t.Field → Span → List Node → MethodOutcome
added_of c m fs name before = unless_fault (initial_faults c fs) (unless_full (local_names (initial_locals fs)) (put_body m name (Some (added_body c fs name)) before))
