use Rattle.std.proofs.Common.{◌≡◌, ℕ, ◌-◌, ◌+◌, List, [], Option, Some, length, drop, ap, sym, ◌∙◌, arith}
use Rattle.std.specs.Prelude.{Result, Ok, Err, IfOk}
use Rattle.pc_heap.specs.declared.value.Value.{Value}
use Rattle.pc_core.specs.declared.nodes.NodeKind.{NodeKind}
use Rattle.pc_semantics.specs.{Calls.invoke_task, Configurations.popped}
use Rattle.pc_tasks.specs.Inside.{amid, relieved}
use Rattle.pc_machine.proofs.Popped.{invokes}
use Rattle.pc_machine.proofs.invocations.plan_invoke.Goals as goal

of_each : {T E : Type 0} (P Q : T → Type 0) (r : Result T E) → ((x : T) → P x → Q x) → IfOk r P → IfOk r Q
of_each P Q (Ok x) k h = k x h
of_each P Q (Err e) k h = h

pub returns-clause-means : goal.returns-clause-means
returns-clause-means c =
    let core = c.args.core.now in let objects = c.args.heap.now.objects in let f = relieved c.args.frame.now in let cs = c.args.node.now.children in
    let this = c.in-Some.this.now in let vs = c.in-Some-arguments_below.arguments.now in
    let given = c.in-Some-arguments_below.ensures in
    let fewer : c.max-count.result - 1 ≡ length cs - 1 = omega (arith, c.max-count.ensures, c.len.ensures) in
    let there : popped (length cs - 1) (drop 1 f.stack) [] ≡ Some (vs, drop (length vs + 1) f.stack) =
    ap (λ (k : ℕ). popped k (drop 1 f.stack) []) (sym fewer) ∙ given.values ∙ ap (λ (k : ℕ). Some (vs, drop k f.stack)) (sym given.len) in
    of_each _ _ c.plan_call.result
    (λ plan means i.
    means i c.args.frame.now ∙ sym (invokes core (amid objects i c.args.actors) c.in-Call.name f cs this vs (drop (length vs + 1) f.stack) (sym c.in-Some.ensures) there)
    ∙ ap (λ (k : NodeKind). invoke_task core (amid objects i c.args.actors) f cs k) (sym c.in-Call.is))
    c.plan_call.ensures.means
