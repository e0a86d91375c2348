use Rattle.std.proofs.Common.{subst}
use Rattle.pc_grammar.specs.Spells.{SpellsFile}
use Rattle.pc_tree.specs.View.{file_view}
use Rattle.pc_test_inputs.proofs.texts.tree_of.Goals as goal

pub returns : goal.returns
returns c = (c.in_ok-tokens.tokens, subst (SpellsFile (file_view c.in_ok-tree.tree)) c.as_slice.ensures c.in_ok-tree.ensures.read.0, c.in_ok-tokens.ensures.ascend)
