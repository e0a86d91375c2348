use Rattle.std.proofs.{Common.{◌≡◌, ◌++◌, ◌∙◌, sym, ap, map}, lemmas.Result.err_from_is_err_and}
use Rattle.pc_tree.specs.{View.{entity_view, file_view}, Kinds.first_own}
use Rattle.pc_file_spec.specs.Cores.{built_ins, parts_of}
use Rattle.pc_elab.specs.{Outcomes.row_members, Rows.entity_rows, Views.parts_view}
use Rattle.pc_members.specs.Views.{table_view}
use Rattle.pc_elab.proofs.Wholes.{core_is, grows_stop, parts_are}
use Rattle.pc_elab.proofs.elaborating.make_parts.Goals as goal

pub returns-in_err-add_entities-clause-core : goal.returns-in_err-add_entities-clause-core
returns-in_err-add_entities-clause-core c =
    let f = file_view c.args.file.now in
    let rows = table_view c.args.table.now in
    let first = c.args.context.now in
    let start = parts_view c.in_ok-parts.parts in
    let p = err_from_is_err_and c.from_residual-in_err-add_entities.result c.from_residual-in_err-add_entities.ensures.1 in
    let same : row_members first start first_own (map entity_view c.as_slice-own.result.now) rows ≡ parts_of f =
    ap (λ es. row_members first start first_own (map entity_view es) rows) c.as_slice-own.ensures
    ∙ parts_are f first start rows c.requires.members c.in_ok-parts.ensures c.requires.entities c.requires.texts in
    rw (p.1, p.2) (grows_stop c.in_err-add_entities.field-0.0 (parts_view c.add_entities.new.parts) f c.args.names.now.above (row_members first start first_own (map entity_view c.as_slice-own.result.now) rows) same c.in_err-add_entities.ensures.grows)

pub returns-clause-core : goal.returns-clause-core
returns-clause-core c =
    let f = file_view c.args.file.now in
    let rows = table_view c.args.table.now in
    let first = c.args.context.now in
    let start = parts_view c.in_ok-parts.parts in
    core_is f c.args.names.now c.add_entities.new.context (parts_view c.add_entities.new.parts) rows c.in_ok-entities.entities c.in_ok-names.names c.requires.collected c.requires.members
    (c.in_ok-add_entities.ensures.entities ∙ c.requires.entities)
    (c.in_ok-add_entities.ensures.texts ∙ c.requires.texts)
    (sym (parts_are f first start rows c.requires.members c.in_ok-parts.ensures c.requires.entities c.requires.texts)
    ∙ ap (λ es. row_members first start first_own (map entity_view es) rows) (sym c.as_slice-own.ensures)
    ∙ c.in_ok-add_entities.ensures.grows)
    (c.in_ok-entities.ensures
    ∙ ap (λ es. built_ins ++ entity_rows c.add_entities.new.context c.args.names.now first_own 1 (map entity_view es) rows) c.as_slice-own.ensures)
    (c.in_ok-names.ensures.texts ∙ c.texts.ensures)
