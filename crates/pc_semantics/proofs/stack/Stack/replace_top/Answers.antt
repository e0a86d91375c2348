use Rattle.std.proofs.{Common.{◌<◌, ◌∙◌, ◌∷◌, ap, arith, length, drop, sym}, lemmas.List.length-reverse}
use Rattle.std.specs.Prelude.{reverse, slice_get}
use Rattle.pc_semantics.proofs.Ends.{reverse_set_last, top_last}
use Rattle.pc_semantics.proofs.stack.Stack.replace_top.Goals as goal

pub returns-clause-new : goal.returns-clause-new
returns-clause-new g c =
    let xs = c.self.inside.items.items in
    let l : 0 < length xs = omega (arith, length-reverse xs, ap length c.self.view_is, c.requires) in
    ap reverse c.replace_last.ensures.new ∙ reverse_set_last xs c.args.value l ∙ ap (λ zs. c.args.value ∷ drop 1 zs) c.self.view_is

pub returns-clause-top : goal.returns-clause-top
returns-clause-top g c =
    let xs = c.self.inside.items.items in
    let l : 0 < length xs = omega (arith, length-reverse xs, ap length c.self.view_is, c.requires) in
    ap (λ zs. slice_get zs 0) (sym c.self.view_is) ∙ top_last xs c.replace_last.result l c.replace_last.ensures.last
