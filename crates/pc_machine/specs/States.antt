-- What a machine changes, as a configuration, and what holds of it.
use Rattle.std.specs.{Prelude.{ℕ, ◌<◌, ◌≤◌, length, IsSome}, FinMap.{get, len}}
use Rattle.pc_heap.specs.{declared.value.Address.Address, Heaps.object_limit, Objects.ObjectMap}
use Rattle.pc_core.specs.CoreData.{CoreData}
use Rattle.pc_semantics.specs.Configurations.{Configuration}
use Rattle.pc_tasks.specs.Fielded.{Fielded}
use Rattle.pc_machine.specs.declared.state.State.{State}

abbrev pub configuration_of : State → Configuration
configuration_of s = record { objects = s.heap.objects; actors = s.actors; printed = s.printed }

-- Every maker of an object is one of this number of actors, and each of these has made an object.
pub record Peopled (objects : ObjectMap) (actors : ℕ) : Type 0 where
  pub makers : (a : Address) → IsSome (get objects a) → a.maker < actors
  pub few_actors : actors ≤ len objects
  pub few_objects : len objects ≤ object_limit

abbrev pub IsPeopled : Configuration → Type 0
IsPeopled c = Peopled c.objects (length c.actors)

-- Objects and a number of actors of a machine that runs a core.
pub record Sound (core : CoreData) (objects : ObjectMap) (actors : ℕ) : Type 0 where
  pub peopled : Peopled objects actors
  pub fielded : Fielded core objects

abbrev pub IsSound : CoreData → Configuration → Type 0
IsSound core c = Sound core c.objects (length c.actors)
