use Rattle.std.proofs.Common.{◌≡◌, ℕ, List, [], Option, Some, length, drop, ap, sym, ◌∙◌}
use Rattle.std.specs.Prelude.{slice_get}
use Rattle.pc_heap.specs.declared.value.Value.{Value}
use Rattle.pc_core.specs.declared.nodes.NodeKind.{NodeKind}
use Rattle.pc_semantics.specs.{Ahead.by_move, Calls.make_task, Configurations.{popped, with_stack}, Parts.{make_of, with_popped}}
use Rattle.pc_tasks.specs.Inside.{relieved}
use Rattle.pc_machine.proofs.ahead.make.Goals as goal

pub returns-in-Some : goal.returns-in-Some
returns-in-Some c around =
    let core = c.args.core.now in let f = relieved c.args.frame.now in let cs = c.args.node.now.children in let m = c.in-New.number in let vs = c.in-Some.arguments.now in
    let count : c.len.result ≡ length cs = c.len.ensures in
    let there : popped (length cs) f.stack [] ≡ Some (vs, drop (length cs) f.stack) =
    ap (λ (k : ℕ). popped k f.stack []) (sym count) ∙ c.in-Some.ensures.values ∙ ap (λ (k : ℕ). Some (vs, drop k f.stack)) count in
    c.object.ensures around (with_stack f (drop (length cs) f.stack))
    ∙ ap (λ (o : Option (List Value × List Value)). by_move (with_popped f o (λ us g. make_of core around m us g (slice_get core.methods m)))) (sym there)
    ∙ ap (λ (k : NodeKind). by_move (make_task core around f cs k)) (sym c.in-New.is)
