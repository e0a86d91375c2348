-- What a small program sends.
use Rattle.std.specs.Prelude.{◌≡◌, ◌⊎◌, ◌↔◌, ℕ, List, [], ◌∷◌, Option, Some, None, codes}
use Rattle.pc_tree.specs.Kinds.{none_entity}
use Rattle.pc_core.specs.{declared.declarations.EntityDef.EntityDef, declared.declarations.Method.Method, declared.declarations.MethodKind.MethodKind, declared.nodes.Node.Node, declared.nodes.NodeKind.NodeKind, CoreData.CoreData, Entities.nowhere}
use Rattle.pc_semantics.specs.Programs.{program, create}
use Rattle.pc_sends.specs.Tables.{Sends}
use Rattle.pc_caps.specs.declared.capability.Cap.TheVariants as cap
use Rattle.pc_caps.specs.declared.capability.Form.TheVariants as form
use Rattle.pc_tree.specs.declared.kinds.EntityKind.TheVariants as kind
use Rattle.pc_core.specs.declared.declarations.MethodKind.TheVariants as method
use Rattle.pc_core.specs.declared.nodes.NodeKind.TheVariants as node

-- Names, whose texts do not matter.
abbrev pub go : ℕ
go = 4

abbrev pub stop : ℕ
stop = 5

abbrev pub actor : List ℕ → (first count : ℕ) → EntityDef
actor name first count = record { kind = kind.Actor; cap = cap.Tag; name = name; span = nowhere; provides = []; above = []; fields = []; first_method = first; methods = count }

abbrev pub method_of : (entity name : ℕ) → MethodKind → ℕ → Method
method_of e name k body = record {
  entity = e;
  name = name;
  kind = k;
  receiver = cap.Ref;
  params = [];
  result = (none_entity, form.Val);
  first_slot = 0;
  slots = 1;
  first_node = 0;
  body = Some body;
  span = nowhere;
}

abbrev pub node_of : ℕ → NodeKind → List ℕ → Node
node_of m k children = record { kind = k; children = children; depth = 0; method = m; span = nowhere }

-- Actor A, entity 6, has the behaviours `go` and `stop` and its constructor, which are methods 1 to 3. Main's
-- constructor, method 4, is `A().go()`.
abbrev pub never_stops : CoreData
never_stops = program (actor (codes "A") 1 3 ∷ actor (codes "Main") 4 1 ∷ []) (method_of 6 go method.Be 1 ∷ method_of 6 stop method.Be 3 ∷ method_of 6 create method.Spawn 5 ∷ method_of 7 create method.Spawn 9 ∷ [])
    (
    node_of 1 (node.Prim none_entity) []
    ∷ node_of 1 node.Body (0 ∷ [])
    ∷ node_of 2 (node.Prim none_entity) []
    ∷ node_of 2 node.Body (2 ∷ [])
    ∷ node_of 3 (node.Prim none_entity) []
    ∷ node_of 3 node.Body (4 ∷ [])
    ∷ node_of 4 (node.Spawn 3) []
    ∷ node_of 4 (node.Call go) (6 ∷ [])
    ∷ node_of 4 node.Seq (7 ∷ [])
    ∷ node_of 4 node.Body (8 ∷ []) ∷ []
    )

-- The spawned value is an A; what else is noted does not matter.
abbrev pub its_entities : List (Option ℕ)
its_entities = None ∷ None ∷ None ∷ None ∷ None ∷ None ∷ Some 6 ∷ None ∷ None ∷ None ∷ []

-- Main sends A.go and A.create, and nothing else is sent: never A.stop.
abbrev pub NeverStops : Type 0
NeverStops = (e t : ℕ) → (Sends never_stops its_entities e t) ↔ ((e ≡ 7) × ((t ≡ 1) ⊎ (t ≡ 3)))
