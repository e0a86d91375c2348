use Rattle.std.proofs.Common.{take, ap, ◌∙◌}
use Rattle.pc_body_spec.specs.Bodies.{is_among_names}
use Rattle.pc_resolve.specs.Near.{near_count}
use Rattle.pc_resolve.proofs.Found.{found_near, found_far}
use Rattle.pc_resolve.proofs.name_row.NameRow.has.Goals as goal

pub returns-then-is_among : goal.returns-then-is_among
returns-then-is_among c =
    let name = c.args.name.now in
    found_near near_count c.self.inside.row c.near.result.now name c.is_among.result c.is_among.ensures (c.near.ensures ∙ ap (λ l. take near_count l) c.as_slice.ensures) c.if-is_among.true
    ∙ ap (λ l. is_among_names l name) c.self.view_is

pub returns-else-is_among : goal.returns-else-is_among
returns-else-is_among c =
    let name = c.args.name.now in
    found_far near_count c.self.inside.row c.near.result.now c.self.inside.names name c.is_among.result c.has.result c.is_among.ensures (c.near.ensures ∙ ap (λ l. take near_count l) c.as_slice.ensures) c.if-is_among.false c.has.ensures c.self.invariant
    ∙ ap (λ l. is_among_names l name) c.self.view_is
