use Rattle.std.proofs.Common.{◌≡◌, ◌-◌, ◌∙◌, ap, arith, drop, length, take}
use Rattle.std.specs.Prelude.{reverse}
use Rattle.pc_semantics.proofs.Ends.{first_kept}
use Rattle.pc_semantics.proofs.stack.Stack.discard.Goals as goal

pub returns : goal.returns
returns g c =
    let xs = c.self.inside.items.items in
    let n : c.saturating_sub-kept.result ≡ length xs - c.args.count = omega (arith, c.saturating_sub-kept.ensures, c.len.ensures, c.self.inside.items.ok.0) in
    ap reverse c.truncate.ensures.items
    ∙ ap (λ k. reverse (take k xs)) n
    ∙ first_kept xs c.args.count
    ∙ ap (drop c.args.count) c.self.view_is
