use Rattle.std.proofs.{Common.{◌<◌, ◌∙◌, ap, arith, length, sym, set}, lemmas.List.length-reverse}
use Rattle.std.specs.Prelude.{reverse, slice_get}
use Rattle.pc_semantics.proofs.Ends.{reverse_set, reverse_get}
use Rattle.pc_semantics.proofs.stack.Stack.replace.Goals as goal

pub returns-clause-new : goal.returns-clause-new
returns-clause-new g c =
    let xs = c.self.inside.items.items in
    let l : c.args.place < length xs = omega (arith, length-reverse xs, ap length c.self.view_is, c.requires) in
    ap reverse c.replace_from_end.ensures.new ∙ reverse_set c.args.place xs c.args.value l ∙ ap (λ zs. set zs c.args.place c.args.value) c.self.view_is

pub returns-clause-old : goal.returns-clause-old
returns-clause-old g c =
    let xs = c.self.inside.items.items in
    let l : c.args.place < length xs = omega (arith, length-reverse xs, ap length c.self.view_is, c.requires) in
    ap (λ zs. slice_get zs c.args.place) (sym c.self.view_is) ∙ reverse_get c.args.place xs l ∙ c.replace_from_end.ensures.old
