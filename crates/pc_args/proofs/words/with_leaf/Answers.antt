use Rattle.std.proofs.{Common.{◌≡◌, ◌∙◌, ap, map}, lemmas.Result.IfOk-weaker}
use Rattle.std.specs.Prelude.{false}
use Rattle.clap.specs.{Built.AddsSubcommand, Simple.{Shape, new_shape, shape_of}, Words.{app_of, with_subcommand}, declared.builder.command.Command.Command, declared.builder.command.Command.TheViews.out-Command as fields_of}
use Rattle.pc_args.specs.{Asked.texts, Line.positional}
use Rattle.pc_args.proofs.words.with_leaf.Goals as goal

-- A command with one subcommand more has its shape.
one_more : (old leaf new : Command) (shape : Shape) → shape_of leaf ≡ shape → (fields_of leaf).has_globals ≡ false → AddsSubcommand old leaf new
    → app_of new ≡ with_subcommand (app_of old) shape
one_more old leaf new shape same local added = added.shape local ∙ ap (with_subcommand (app_of old)) same

pub returns-in-Ok : goal.returns-in-Ok
returns-in-Ok c =
    let leaf = c.in-Ok.ensures in
    let shape : Shape = record (new_shape c.args.name.now) { rules = map positional (texts c.args.ids.now) } in
    IfOk-weaker c.subcommand.result _ _ (λ r added. one_more c.args.command _ r shape leaf.shape leaf.local added) c.subcommand.ensures
