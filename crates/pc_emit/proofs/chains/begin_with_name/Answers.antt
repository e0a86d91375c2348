use Rattle.std.proofs.Common.{◌≡◌, sym, ap, ◌∙◌}
use Rattle.pc_resolve.specs.Meanings.{meaning_view}
use Rattle.pc_body_spec.specs.Bodies.{field, local, number_of_text, resolve}
use Rattle.pc_emit.proofs.Suffixes.{reads_field, reads_local}
use Rattle.pc_emit.proofs.chains.begin_with_name.Goals as goal

pub returns-in-Local-clause-reads : goal.returns-in-Local-clause-reads
returns-in-Local-clause-reads c =
    let cx = c.args.context.now in
    let is : resolve cx c.args.scope.now c.args.name.now.text ≡ local c.in-Local.slot = ap (resolve cx c.args.scope.now) (sym c.as_slice.ensures) ∙ sym c.resolve.ensures ∙ ap meaning_view c.in-Local.is in
    reads_local cx c.args.scope.now c.args.name.now c.in-Local.slot is

pub returns-in-Field-clause-reads : goal.returns-in-Field-clause-reads
returns-in-Field-clause-reads c =
    let cx = c.args.context.now in
    let is : resolve cx c.args.scope.now c.args.name.now.text ≡ field = ap (resolve cx c.args.scope.now) (sym c.as_slice.ensures) ∙ sym c.resolve.ensures ∙ ap meaning_view c.in-Field.is in
    let text : c.text_of-text.result ≡ number_of_text cx c.args.name.now.text = c.text_of-text.ensures ∙ ap (number_of_text cx) c.as_slice-in-Field.ensures in
    reads_field cx c.args.scope.now c.args.name.now c.text_of-text.result is text
