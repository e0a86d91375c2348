use Rattle.std.proofs.{Common.{◌++◌, ◌<◌, ◌≤◌, ◌∙◌, None, length, replicate, set, ap, sym, arith}, lemmas.List.set-append_left}
use Rattle.std.specs.Prelude.{slice_get}
use Rattle.pc_semantics.specs.Parts.{held}
use Rattle.pc_semantics.proofs.Held.{nothing_past, same_past}
use Rattle.pc_semantics.proofs.slots.Slots.take.Goals as goal

pub returns-then-slot-len-clause-rest : goal.returns-then-slot-len-clause-rest
returns-then-slot-len-clause-rest c =
    let xs = c.self.inside.held.items in
    let l : c.args.slot < length xs = omega (arith, c.if-slot-len.true, c.len.ensures) in
    let more = replicate c.self.inside.empty None in
    ap (λ z. z ++ more) c.exchange.ensures.new ∙ sym (set-append_left xs more c.args.slot None l) ∙ ap (λ z. set z c.args.slot None) c.self.view_is

pub returns-else-slot-len-clause-value : goal.returns-else-slot-len-clause-value
returns-else-slot-len-clause-value c =
    let xs = c.self.inside.held.items in
    let l : length xs ≤ c.args.slot = omega (arith, c.if-slot-len.false, c.len.ensures) in
    nothing_past xs c.self.inside.empty c.args.slot l ∙ ap (λ z. held (slice_get z c.args.slot)) c.self.view_is

pub returns-else-slot-len-clause-rest : goal.returns-else-slot-len-clause-rest
returns-else-slot-len-clause-rest c =
    let xs = c.self.inside.held.items in
    let l : length xs ≤ c.args.slot = omega (arith, c.if-slot-len.false, c.len.ensures) in
    sym c.self.view_is ∙ same_past xs c.self.inside.empty c.args.slot l ∙ ap (λ z. set z c.args.slot None) c.self.view_is
