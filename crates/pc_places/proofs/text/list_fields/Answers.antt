use Rattle.std.proofs.{Common.{◌++◌, refl, ap, ◌∙◌, map, arith}, lemmas.Option.slice_get_read}
use Rattle.std.specs.Prelude.{List}
use Rattle.pc_core.specs.declared.declarations.FieldInfo.{FieldInfo}
use Rattle.pc_places.specs.Text.{fields_from}
use Rattle.pc_places.proofs.Fields.{fields_more}
use Rattle.pc_places.proofs.text.list_fields.Goals as goal

pub loop-entity-preserved : goal.loop-entity-preserved
loop-entity-preserved c =
    let xs = c.args.entities.now in
    let i = c.loop-entity.entity-index in
    let e = c.loop-entity.number in
    let x = c.entity-item.result in
    let there = slice_get_read xs _ i x refl (omega (arith, c.loop-entity-test.true)) c.entity-item.is in
    let added = c.in_ok-add_fields.ensures ∙ ap (λ (fs : List FieldInfo). c.loop-entity.all ++ map (λ (f : FieldInfo). (e, f)) fs) c.as_slice.ensures in
    let at = c.loop-entity.invariant.at in
    record { rest = fields_more c.loop-entity.all c.add_fields.new.all xs i e x (fields_from 0 xs) there added c.loop-entity.invariant.rest; at = omega (arith, at) }
