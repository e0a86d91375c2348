-- Each task preserves what it has to.
use Rattle.pc_semantics.specs.declared.frames.Task.{Task}
use Rattle.pc_semantics.specs.declared.frames.Task.TheVariants as task
use Rattle.pc_types.proofs.{Steps.Keeps, EvalTask.keeps_eval, GetTask.keeps_get, PutTask.keeps_put, StoreTask.keeps_store, MakeTask.keeps_make, SpawnTask.keeps_spawn, InvokeTask.keeps_invoke, ApplyTask.keeps_apply, Choose.{keeps_test, keeps_branch, keeps_loop, keeps_discard}, ReturnTask.keeps_return}

pub keeps : (t : Task) → Keeps t
keeps (task.Eval n) = keeps_eval n
keeps (task.Get n) = keeps_get n
keeps (task.Put n) = keeps_put n
keeps (task.Store n) = keeps_store n
keeps (task.Make n) = keeps_make n
keeps (task.Spawn n) = keeps_spawn n
keeps (task.Invoke n) = keeps_invoke n
keeps (task.Apply n) = keeps_apply n
keeps (task.Test n) = keeps_test n
keeps (task.Branch n) = keeps_branch n
keeps (task.Loop n) = keeps_loop n
keeps task.Discard = keeps_discard
keeps task.Return = keeps_return
