-- A machine, seen as its core and its configuration.
use Rattle.std.specs.{Prelude.{ℕ, List, refl}, Coded.{Coded, code_by, coded×, coded_list, coded_ℕ}, FinMap.code}
use Rattle.pc_heap.specs.{Objects.ObjectMap, Coding.{coded_address, coded_object}}
use Rattle.pc_core.specs.CoreData.{CoreData}
use Rattle.pc_semantics.specs.{declared.actors.Actor.Actor, Configurations.Configuration}
use Rattle.pc_core.specs.contracts.cores.Core as core
use Rattle.pc_semantics.specs.contracts.actors.Actor as actor

pub record MachineData : Type 0 where
  pub core : CoreData
  pub configuration : Configuration

-- the greatest number of messages that may wait before another step
abbrev pub message_limit : ℕ
message_limit = 4194304

abbrev pub coded_configuration : Coded Configuration
coded_configuration =
    code_by (ObjectMap × (List Actor × List (List ℕ)))
    (coded× (code coded_address coded_object) (coded× (coded_list actor.the_row.coded) (coded_list (coded_list coded_ℕ))))
    (λ c. (c.objects, (c.actors, c.printed))) (λ p. record { objects = p.0; actors = p.1.0; printed = p.1.1 }) (λ _. refl)

abbrev pub coded_machine : Coded MachineData
coded_machine = code_by (CoreData × Configuration) (coded× core.the_row.coded coded_configuration) (λ m. (m.core, m.configuration)) (λ p. record { core = p.0; configuration = p.1 }) (λ _. refl)
