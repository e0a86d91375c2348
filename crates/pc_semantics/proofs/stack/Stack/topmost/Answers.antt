use Rattle.std.proofs.Common.{◌-◌, ◌≤◌, ◌∙◌, ap, arith, drop, length, take}
use Rattle.std.specs.Prelude.{List, reverse}
use Rattle.pc_semantics.proofs.Ends.{last_taken}
use Rattle.pc_semantics.proofs.stack.Stack.topmost.Goals as goal

pub returns-then-count-len-clause-values : goal.returns-then-count-len-clause-values
returns-then-count-len-clause-values g c =
    let xs = c.self.inside.items.items in
    let count = c.args.count in
    let l : count ≤ length xs = omega (arith, c.len.ensures, c.self.inside.items.ok.0) in
    c.last_values.ensures
    ∙ ap (λ (zs : List g.row.T.Denot). drop (length zs - count) zs) c.as_slice.ensures.value
    ∙ last_taken xs count l
    ∙ ap (λ (zs : List g.row.T.Denot). reverse (take count zs)) c.self.view_is
