use Rattle.pc_explain_words.proofs.Pushes.{ok_three}
use Rattle.pc_explain.specs.Declarations.{method_node_line}
use Rattle.pc_explain.proofs.declarations.push_method_line.Goals as goal

pub returns : goal.returns
unfolding method_node_line
returns c =
    ok_three _ _ _ _ _ _ _ _
    c.in_ok-push_bytes.ensures
    c.in_ok-push_method.ensures
    c.push_bytes-2.ensures
