use Rattle.std.proofs.Common.{◌<◌, ◌^◌, ◌++◌, ◌∙◌, List, sym, ap, subst, length, map}
use Rattle.pc_tree.specs.View.{entity_view, file_view}
use Rattle.pc_body_spec.specs.Bodies.{Context, KnownEntity}
use Rattle.pc_file_spec.specs.Cores.{built_in_known, known_of}
use Rattle.pc_elab.specs.Rows.{known_rows}
use Rattle.pc_members.specs.Views.{table_view}
use Rattle.pc_elab.proofs.Wholes.{as_many, few_known, known_all, ok_part}
use Rattle.pc_elab.proofs.elaborating.make_context.Goals as goal

pub list_known-requires : goal.list_known-requires
list_known-requires c = as_many c.args.file.now c.args.table.now c.requires.members ∙ ap length (sym c.as_slice.ensures)

pub new-requires-4 : goal.new-requires-4
new-requires-4 c =
    subst (λ (ks : List KnownEntity). length ks < 2 ^ 32)
    (sym (c.in_ok-entities.ensures ∙ ap (λ es. built_in_known ++ known_rows 1 (map entity_view es) (table_view c.args.table.now)) c.as_slice.ensures ∙ known_all (file_view c.args.file.now) (table_view c.args.table.now) c.requires.members))
    (few_known (file_view c.args.file.now) c.args.names.now c.requires.collected)

pub returns-clause-entities : goal.returns-clause-entities
returns-clause-entities c =
    ok_part (λ (x : Context). x.entities) c.new-4.result _ (known_of (file_view c.args.file.now))
    (c.in_ok-entities.ensures ∙ ap (λ es. built_in_known ++ known_rows 1 (map entity_view es) (table_view c.args.table.now)) c.as_slice.ensures ∙ known_all (file_view c.args.file.now) (table_view c.args.table.now) c.requires.members)
    c.new-4.ensures
