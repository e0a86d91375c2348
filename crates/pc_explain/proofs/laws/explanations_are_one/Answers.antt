use Rattle.pc_explain.proofs.OneText.{one_text}
use Rattle.pc_explain.proofs.laws.explanations_are_one.Goals as goal

pub returns : goal.returns
returns c =
    one_text c.faults_are_one.ensures.node c.faults_are_one.ensures.constructor c.faults_are_one.ensures.kind c.one_explanation.ensures c.prefixes_agree.ensures
    c.no_fault_where_declarations_fit.ensures c.one_declaration_fails_first.ensures
