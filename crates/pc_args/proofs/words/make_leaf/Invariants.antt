use Rattle.std.proofs.Common.{◌≡◌, take, map}
use Rattle.std.specs.Prelude.{false}
use Rattle.clap.specs.{Simple.{new_shape, shape_of}, declared.builder.command.Command.TheViews.out-Command as fields_of}
use Rattle.pc_args.specs.{Asked.texts, Line.positional}
use Rattle.pc_args.proofs.words.make_leaf.Given as goal

abbrev pub invariant-loop-id : goal.invariant-loop-id
invariant-loop-id l = record {
  shape : shape_of l.leaf ≡ record (new_shape l.name) { rules = map positional (texts (take l.id-index l.ids)) };
  local : (fields_of l.leaf).has_globals ≡ false;
}
