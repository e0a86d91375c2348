use Rattle.std.proofs.Common.{◌≡◌, ℕ, ◌-◌, ◌+◌, [], Some, length, drop, ap, sym, ◌∙◌, arith}
use Rattle.pc_core.specs.declared.nodes.NodeKind.{NodeKind}
use Rattle.pc_semantics.specs.{Ahead.by_move, Calls.invoke_task, Configurations.{popped, with_stack}}
use Rattle.pc_tasks.specs.Inside.{amid, relieved}
use Rattle.pc_machine.proofs.Popped.{invokes}
use Rattle.pc_machine.proofs.ahead.invoke.Goals as goal

pub returns-in-Some-arguments_below : goal.returns-in-Some-arguments_below
returns-in-Some-arguments_below c i =
    let core = c.args.core.now in let a = amid c.args.heap.now.objects i c.args.actors in let f = relieved c.args.frame.now in let cs = c.args.node.now.children in
    let this = c.in-Some.this.now in let vs = c.in-Some-arguments_below.arguments.now in
    let given = c.in-Some-arguments_below.ensures in
    let fewer : c.max-count.result - 1 ≡ length cs - 1 = omega (arith, c.max-count.ensures, c.len.ensures) in
    let there : popped (length cs - 1) (drop 1 f.stack) [] ≡ Some (vs, drop (length vs + 1) f.stack) =
    ap (λ (k : ℕ). popped k (drop 1 f.stack) []) (sym fewer) ∙ given.values ∙ ap (λ (k : ℕ). Some (vs, drop k f.stack)) (sym given.len) in
    c.call.ensures i (with_stack f (drop (length vs + 1) f.stack))
    ∙ ap by_move (sym (invokes core a c.in-Call.name f cs this vs (drop (length vs + 1) f.stack) (sym c.in-Some.ensures) there))
    ∙ ap (λ (k : NodeKind). by_move (invoke_task core a f cs k)) (sym c.in-Call.is)
