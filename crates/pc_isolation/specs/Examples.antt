-- Waiting messages that are let alone, and some that are not.
use Rattle.std.specs.{Prelude.{false, [], ◌∷◌, codes}, FinMap.{empty, insert}}
use Rattle.pc_heap.specs.{Objects.{ObjectMap, new_object, with_field}, declared.value.Address.Address, declared.value.Value.TheVariants.{Num, At}}
use Rattle.pc_caps.specs.declared.capability.Cap.{Cap}
use Rattle.pc_core.specs.{Entities.nowhere, CoreData.CoreData}
use Rattle.pc_semantics.specs.{declared.frames.Task.Task, Configurations.{Configuration, own_address}, Programs.{n, program, entity, constructor_of, node_of}, Safety.Quiet}
use Rattle.pc_isolation.specs.Isolated.{Inside, Isolated}
use Rattle.pc_caps.specs.declared.capability.Cap.TheVariants as cap
use Rattle.pc_tree.specs.declared.kinds.EntityKind.TheVariants as kind
use Rattle.pc_core.specs.declared.declarations.MethodKind.TheVariants as method
use Rattle.pc_core.specs.declared.nodes.NodeKind.TheVariants as node
use Rattle.pc_semantics.specs.declared.frames.Task.TheVariants as task

-- Class C has a field `n` declared `C ref`, and a behaviour of Main, method 1, takes a C with this capability. Node 1
-- reads `n`, and node 2 writes it.
abbrev pub taking : Cap → CoreData
taking q =
    program (entity kind.Class (codes "C") (record { name = n; fixed = false; entity = 6; cap = cap.Ref } ∷ []) 1 ∷ entity kind.Actor (codes "Main") [] 1 ∷ [])
    (constructor_of 7 method.Be (record { entity = 6; cap = q; span = nowhere } ∷ []) 2 3 ∷ [])
    (node_of node.This [] ∷ node_of (node.Field n) (0 ∷ []) ∷ node_of (node.SetField n) (1 ∷ 0 ∷ []) ∷ node_of node.Body (2 ∷ []) ∷ [])

-- Two objects of C, the first of which holds the second.
abbrev pub whole : Address
whole = record { maker = 1; serial = 1 }

abbrev pub part : Address
part = record { maker = 1; serial = 2 }

abbrev pub two_objects : ObjectMap
two_objects = insert (insert (insert empty (own_address 1) (new_object 7 0)) part (new_object 6 1)) whole (with_field (new_object 6 1) 0 (At part))

-- Actor 1 is about to do a task on an object while a message waits for it that carries the first of the two.
abbrev pub about_to : Address → Task → Configuration
about_to a t = record {
  objects = two_objects;
  actors =
      record { mailbox = []; frames = [] }
      ∷ record {
        mailbox = record { method = 1; arguments = At whole ∷ [] } ∷ [];
        frames = record { method = 1; slots = []; stack = At a ∷ Num 1 ∷ []; tasks = t ∷ [] } ∷ [];
      }
      ∷ [];
  printed = [];
}

-- An `iso` argument that is about to be read is not let alone, and neither is a `val` argument that is about to be
-- written. A `val` argument that is about to be read is. A part of an `iso` argument is inside it: if the part is about
-- to be read, the argument itself is let alone, but what is inside it is not.
pub record WaitingIsSeen : Type 0 where
  pub iso_read : Quiet (taking cap.Iso) (about_to whole (task.Get 1)) → ⊥
  pub val_written : Quiet (taking cap.Val) (about_to whole (task.Put 2)) → ⊥
  pub val_read : Quiet (taking cap.Val) (about_to whole (task.Get 1))
  pub part_inside : Inside (taking cap.Iso) (about_to part (task.Get 1)) 1 0 0 part
  pub part_read : Quiet (taking cap.Iso) (about_to part (task.Get 1))
  pub part_touched : Isolated (taking cap.Iso) (about_to part (task.Get 1)) → ⊥
