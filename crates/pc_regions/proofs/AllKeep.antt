-- Each task keeps regions.
use Rattle.pc_core.specs.CoreData.{CoreData}
use Rattle.pc_ann.specs.declared.annotation.Ann.{Ann}
use Rattle.pc_semantics.specs.declared.frames.Task.{Task}
use Rattle.pc_semantics.specs.declared.frames.Task.TheVariants as task
use Rattle.pc_regions.proofs.{Climbed.ClimbLaw, LiveScope.live_shallow, Schedules.KeepsRegions, Settling.settle, Taking.take, ContextComes.{opens, lends}, ContextGoes.ends, Climbing.{climb, drops}, EvalKeeps.keeps_eval_regions, GetKeeps.keeps_get_regions, PutKeeps.keeps_put_regions, StoreKeeps.regions_store, MakeKeeps.regions_make, SpawnKeeps.regions_spawn, InvokeKeeps.regions_invoke, ApplyKeeps.keeps_apply_regions, ChoicesKeep.{keeps_test_regions, keeps_branch_regions, keeps_loop_regions, keeps_discard_regions}, ReturnKeeps.return_regions}
use Rattle.pc_types.proofs.Needs.{Needs}

-- Values climb.
climbs : (core : CoreData) (ann : Ann) → Needs core ann → ClimbLaw core
climbs core ann needs = climb core ann needs settle (drops ends)

pub keeps_regions : (t : Task) → KeepsRegions t
keeps_regions (task.Eval n) = keeps_eval_regions live_shallow climbs take opens n
keeps_regions (task.Get n) = keeps_get_regions settle climbs n
keeps_regions (task.Put n) = keeps_put_regions settle take climbs n
keeps_regions (task.Store n) = regions_store settle take climbs live_shallow n
keeps_regions (task.Make n) = regions_make settle opens n
keeps_regions (task.Spawn n) = regions_spawn settle climbs n
keeps_regions (task.Invoke n) = regions_invoke settle lends climbs n
keeps_regions (task.Apply n) = keeps_apply_regions climbs n
keeps_regions (task.Test n) = keeps_test_regions climbs n
keeps_regions (task.Branch n) = keeps_branch_regions climbs n
keeps_regions (task.Loop n) = keeps_loop_regions climbs n
keeps_regions task.Discard = keeps_discard_regions climbs
keeps_regions task.Return = return_regions climbs
