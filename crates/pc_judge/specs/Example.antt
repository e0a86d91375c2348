-- Faulty derivations, and the fault of each. All but the last are of the core of
--     class C
--     actor Main
--       new create(env: Env) =>
--         let a: C iso = C
use Rattle.std.specs.Prelude.{[], ◌∷◌, None, Some, slice_set}
use Rattle.pc_core.specs.{declared.declarations.Method.Method, CoreData.CoreData, Entities.{built_in, out_field}}
use Rattle.pc_ann.specs.declared.annotation.Ann.{Ann}
use Rattle.pc_rules.specs.Example.{four_slots, derivation, at, node_of, noted}
use Rattle.pc_judge.specs.Faults.{FirstAnnotationFault}
use Rattle.pc_caps.specs.declared.capability.Cap.TheVariants as cap
use Rattle.pc_caps.specs.declared.capability.Form.TheVariants as form
use Rattle.pc_tree.specs.declared.kinds.EntityKind.TheVariants as kind
use Rattle.pc_core.specs.declared.declarations.MethodKind.TheVariants as method
use Rattle.pc_core.specs.declared.nodes.SlotKind.TheVariants as slot
use Rattle.pc_core.specs.declared.nodes.NodeKind.TheVariants as node
use Rattle.pc_ann.specs.declared.annotation.Rule.TheVariants as rule
use Rattle.pc_judge.specs.declared.faults.JudgeFault.TheVariants as fault

-- The note of the new object has `ref` instead of `iso^`.
abbrev pub noted_as_ref : Ann
noted_as_ref = record { slots = derivation.slots; notes = slice_set derivation.notes 3 (noted rule.New (Some (6, form.Ref)) 3 3) }

-- The local's slot is `val` instead of `iso`, which is written.
abbrev pub held_as_val : Ann
held_as_val = record { slots = slice_set derivation.slots 3 (6, cap.Val); notes = derivation.notes }

-- There are no notes.
abbrev pub without_notes : Ann
without_notes = record { slots = derivation.slots; notes = [] }

-- A class with one field and a constructor that sets nothing. Only the lists that are used are filled in.
abbrev pub sets_nothing : Method
sets_nothing = record {
  entity = 0;
  name = 0;
  kind = method.New;
  receiver = cap.Ref;
  params = [];
  result = (0, form.Ref);
  first_slot = 0;
  slots = 1;
  first_node = 0;
  body = Some 2;
  span = at 0 0;
}

abbrev pub one_field : CoreData
one_field = record {
  entities = built_in kind.Class cap.Ref [] (out_field 1 ∷ []) 1 ∷ [];
  methods = sets_nothing ∷ [];
  slots = record { method = 0; kind = slot.This; depth = 0; written = Some (0, cap.Ref) } ∷ [];
  nodes = node_of 0 (node.Prim 0) [] (at 0 0) ∷ node_of 0 node.Seq (0 ∷ []) (at 0 0) ∷ node_of 0 node.Body (1 ∷ []) (at 0 0) ∷ [];
  names = [];
}

abbrev pub nothing_set : Ann
nothing_set = record {
  slots = (0, cap.Ref) ∷ [];
  notes = noted rule.Prim (Some (0, form.Val)) 1 1 ∷ noted rule.Seq (Some (0, form.Val)) 1 1 ∷ noted rule.Body None 1 1 ∷ [];
}

abbrev pub FaultsNamed : Type 0
FaultsNamed =
    FirstAnnotationFault four_slots noted_as_ref (fault.Node 3)
    × FirstAnnotationFault four_slots held_as_val (fault.Slot 3)
    × FirstAnnotationFault four_slots without_notes fault.Shape
    × FirstAnnotationFault one_field nothing_set (fault.Unset 0)
