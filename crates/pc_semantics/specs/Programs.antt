-- Small programs, as cores. What the machine does not look at is left out: slots, capabilities, results and positions
-- in the text.
use Rattle.std.specs.Prelude.{ℕ, ◌-◌, true, false, List, [], ◌∷◌, length, Some, codes, ◌+◌}
use Rattle.pc_tree.specs.{declared.kinds.EntityKind.EntityKind, Kinds.{none_entity, u64_entity, env_entity, first_own}}
use Rattle.pc_core.specs.{declared.declarations.EntityDef.EntityDef, declared.declarations.FieldInfo.FieldInfo, declared.declarations.Method.Method, declared.declarations.MethodKind.MethodKind, declared.declarations.ParamInfo.ParamInfo, declared.nodes.Node.Node, declared.nodes.NodeKind.NodeKind, CoreData.CoreData, Entities.{nowhere, built_in, built_in_value, out_field, print_method}}
use Rattle.pc_caps.specs.declared.capability.Cap.TheVariants as cap
use Rattle.pc_caps.specs.declared.capability.Form.TheVariants as form
use Rattle.pc_tree.specs.declared.kinds.EntityKind.TheVariants as kind
use Rattle.pc_tree.specs.declared.kinds.Op.TheVariants as op
use Rattle.pc_core.specs.declared.declarations.MethodKind.TheVariants as method
use Rattle.pc_core.specs.declared.nodes.NodeKind.TheVariants as node

-- ---- how they are written

-- Names, by number; each program may use all of them.
abbrev pub out : ℕ
out = 0

abbrev pub print : ℕ
print = 1

abbrev pub create : ℕ
create = 2

abbrev pub string : ℕ
string = 3

-- a field of Main or of a class
abbrev pub n : ℕ
n = 4

-- a name that nothing is called by
abbrev pub zz : ℕ
zz = 5

-- A program of these entities, which follow the built-in ones, with these methods and nodes.
abbrev pub program : List EntityDef → List Method → List Node → CoreData
program es ms ns = record {
  entities =
      built_in_value (codes "None") ∷ built_in_value (codes "U64") ∷ built_in_value (codes "Bool") ∷ built_in_value (codes "String")
      ∷ built_in kind.Class cap.Val (codes "Env") (out_field out ∷ []) 0 ∷ built_in kind.Actor cap.Tag (codes "OutStream") [] 1 ∷ es;
  methods = print_method print ∷ ms;
  slots = [];
  nodes = ns;
  names = codes "out" ∷ codes "print" ∷ codes "create" ∷ codes "string" ∷ codes "n" ∷ codes "zz" ∷ [];
}

-- The fields of an entity that has only `n`.
abbrev pub field_n : List FieldInfo
field_n = record { name = n; fixed = false; entity = u64_entity; cap = cap.Val } ∷ []

abbrev pub entity : EntityKind → List ℕ → List FieldInfo → ℕ → EntityDef
entity k name fields method = record { kind = k; cap = cap.Tag; name = name; span = nowhere; provides = []; above = []; fields = fields; first_method = method; methods = 1 }

abbrev pub param : ParamInfo
param = record { entity = env_entity; cap = cap.Val; span = nowhere }

-- The constructor of an entity: its kind, its parameters, how many slots it has, and its body.
abbrev pub constructor_of : ℕ → MethodKind → List ParamInfo → (slots body : ℕ) → Method
constructor_of e k params slots body = record {
  entity = e;
  name = create;
  kind = k;
  receiver = cap.Ref;
  params = params;
  result = (e, form.Tag);
  first_slot = 0;
  slots = slots;
  first_node = 0;
  body = Some body;
  span = nowhere;
}

abbrev pub node_of : NodeKind → List ℕ → Node
node_of k children = record { kind = k; children = children; depth = 0; method = 1; span = nowhere }

-- A program with only Main: its constructor has this number of slots and these nodes, of which the last is its body.
abbrev pub main_with : List FieldInfo → ℕ → List Node → CoreData
main_with fields slots ns =
    program (entity kind.Actor (codes "Main") fields 1 ∷ []) (constructor_of first_own method.Spawn (param ∷ []) slots (length ns - 1) ∷ []) ns

-- The same with one more entity and its constructor, whose nodes come first.
abbrev pub with_entity : EntityDef → Method → ℕ → List Node → CoreData
with_entity e m slots ns =
    program (e ∷ entity kind.Actor (codes "Main") [] 2 ∷ []) (m ∷ constructor_of (first_own + 1) method.Spawn (param ∷ []) slots (length ns - 1) ∷ []) ns

-- ---- the programs

-- `env.out.print("hi")`
abbrev pub hello : CoreData
hello = main_with [] 2 (
    node_of (node.Text (codes "hi")) []
    ∷ node_of (node.Local 1) []
    ∷ node_of (node.Field out) (1 ∷ [])
    ∷ node_of (node.Call print) (0 ∷ 2 ∷ [])
    ∷ node_of node.Seq (3 ∷ [])
    ∷ node_of node.Body (4 ∷ []) ∷ []
    )

-- `env.out.print("a")` and then `env.out.print("b")`
abbrev pub two_messages : CoreData
two_messages = main_with [] 2 (
    node_of (node.Text (codes "a")) []
    ∷ node_of (node.Local 1) []
    ∷ node_of (node.Field out) (1 ∷ [])
    ∷ node_of (node.Call print) (0 ∷ 2 ∷ [])
    ∷ node_of (node.Text (codes "b")) []
    ∷ node_of (node.Local 1) []
    ∷ node_of (node.Field out) (5 ∷ [])
    ∷ node_of (node.Call print) (4 ∷ 6 ∷ [])
    ∷ node_of node.Seq (3 ∷ 7 ∷ [])
    ∷ node_of node.Body (8 ∷ []) ∷ []
    )

-- A constructor that consists of one node without children.
abbrev pub one_node : List FieldInfo → NodeKind → CoreData
one_node fields k = main_with fields 3 (node_of k [] ∷ node_of node.Seq (0 ∷ []) ∷ node_of node.Body (1 ∷ []) ∷ [])

-- A node with one child, and one with two.
abbrev pub on_one : List FieldInfo → NodeKind → NodeKind → CoreData
on_one fields a k = main_with fields 3 (node_of a [] ∷ node_of k (0 ∷ []) ∷ node_of node.Seq (1 ∷ []) ∷ node_of node.Body (2 ∷ []) ∷ [])

abbrev pub on_two : NodeKind → NodeKind → NodeKind → CoreData
on_two a b k = main_with [] 3 (node_of a [] ∷ node_of b [] ∷ node_of k (0 ∷ 1 ∷ []) ∷ node_of node.Seq (2 ∷ []) ∷ node_of node.Body (3 ∷ []) ∷ [])

-- The right side, `1 + true`, would lack a value.
abbrev pub lazy : NodeKind → NodeKind → CoreData
lazy a k = main_with [] 2 (
    node_of a []
    ∷ node_of (node.Number 1) []
    ∷ node_of (node.Truth true) []
    ∷ node_of (node.Binary op.Add) (1 ∷ 2 ∷ [])
    ∷ node_of k (0 ∷ 3 ∷ [])
    ∷ node_of node.Seq (4 ∷ [])
    ∷ node_of node.Body (5 ∷ []) ∷ []
    )

-- `if c then 1 else 2 end`
abbrev pub choice : NodeKind → CoreData
choice c = main_with [] 2 (
    node_of c []
    ∷ node_of (node.Number 1) []
    ∷ node_of node.Seq (1 ∷ [])
    ∷ node_of (node.Number 2) []
    ∷ node_of node.Seq (3 ∷ [])
    ∷ node_of node.If (0 ∷ 2 ∷ 4 ∷ [])
    ∷ node_of node.Seq (5 ∷ [])
    ∷ node_of node.Body (6 ∷ []) ∷ []
    )

-- `var t = 0` and `while t < 2 do t = t + 1 end`
abbrev pub counting : CoreData
counting = main_with [] 3 (
    node_of (node.Number 0) []
    ∷ node_of (node.Define 2) (0 ∷ [])
    ∷ node_of (node.Local 2) []
    ∷ node_of (node.Number 2) []
    ∷ node_of (node.Binary op.Lt) (2 ∷ 3 ∷ [])
    ∷ node_of (node.Local 2) []
    ∷ node_of (node.Number 1) []
    ∷ node_of (node.Binary op.Add) (5 ∷ 6 ∷ [])
    ∷ node_of (node.Assign 2) (7 ∷ [])
    ∷ node_of node.Seq (8 ∷ [])
    ∷ node_of node.While (4 ∷ 9 ∷ [])
    ∷ node_of node.Seq (1 ∷ 10 ∷ [])
    ∷ node_of node.Body (11 ∷ []) ∷ []
    )

-- actor A, whose constructor does nothing, and a Main that makes one
abbrev pub spawning : CoreData
spawning = with_entity (entity kind.Actor (codes "A") [] 1) (constructor_of first_own method.Spawn [] 1 2) 2 (
    node_of (node.Prim none_entity) []
    ∷ node_of node.Seq (0 ∷ [])
    ∷ node_of node.Body (1 ∷ [])
    ∷ node_of (node.Spawn 1) []
    ∷ node_of node.Seq (3 ∷ [])
    ∷ node_of node.Body (4 ∷ []) ∷ []
    )

-- class C, whose constructor sets `n` to 5, and a Main that prints the `n` of a new one
abbrev pub making : CoreData
making = with_entity (entity kind.Class (codes "C") field_n 1) (constructor_of first_own method.New [] 1 4) 2 (
    node_of (node.Number 5) []
    ∷ node_of node.This []
    ∷ node_of (node.SetField n) (0 ∷ 1 ∷ [])
    ∷ node_of node.Seq (2 ∷ [])
    ∷ node_of node.Body (3 ∷ [])
    ∷ node_of (node.New 1) []
    ∷ node_of (node.Field n) (5 ∷ [])
    ∷ node_of (node.Call string) (6 ∷ [])
    ∷ node_of (node.Local 1) []
    ∷ node_of (node.Field out) (8 ∷ [])
    ∷ node_of (node.Call print) (7 ∷ 9 ∷ [])
    ∷ node_of node.Seq (10 ∷ [])
    ∷ node_of node.Body (11 ∷ []) ∷ []
    )

-- a Main with a field, one node that reads it and one that writes it
abbrev pub touching : CoreData
touching = main_with field_n 2 (node_of node.This [] ∷ node_of (node.Field n) (0 ∷ []) ∷ node_of (node.SetField n) (1 ∷ 0 ∷ []) ∷ node_of node.Body (2 ∷ []) ∷ [])
