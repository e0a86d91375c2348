-- When the lists of a core fit together.
use Rattle.std.specs.Prelude.{◌-◌, ◌<◌, ◌^◌, map, length}
use Rattle.pc_core.specs.{CoreData.{CoreData, node_end}, Entities.HasBuiltIn, EntityFits.{HasMain, EntityFits}, Methods.MethodFits, Nodes.NodeFits}
use Rattle.pc_base.specs.Lists.{Follow, Each, Differ}

pub record Formed (core : CoreData) : Type 0 where
  -- each count fits in 32 bits
  pub few_entities : length core.entities < 2 ^ 32
  pub few_methods : length core.methods < 2 ^ 32
  pub few_slots : length core.slots < 2 ^ 32
  pub few_nodes : length core.nodes < 2 ^ 32
  pub few_names : length core.names < 2 ^ 32
  -- what every program has
  pub built_in : HasBuiltIn core
  pub main : HasMain core
  -- the names differ
  pub names : Differ core.names
  pub entity_names : Differ (map (λ x. x.name) core.entities)
  -- the methods of the entities, and the slots and nodes of the methods, are adjacent and in order
  pub methods_follow : Follow 0 (map (λ x. (x.first_method, x.methods)) core.entities) (length core.methods)
  pub slots_follow : Follow 0 (map (λ x. (x.first_slot, x.slots)) core.methods) (length core.slots)
  pub nodes_follow : Follow 0 (map (λ x. (x.first_node, node_end x.first_node x.body - x.first_node)) core.methods) (length core.nodes)
  -- every part fits
  pub entities : Each (EntityFits core) core.entities
  pub methods : Each (MethodFits core) core.methods
  pub nodes : Each (NodeFits core) core.nodes
