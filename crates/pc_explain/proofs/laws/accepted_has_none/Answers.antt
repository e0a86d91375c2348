use Rattle.pc_explain.proofs.OneText.{none_accepted}
use Rattle.pc_explain.proofs.laws.accepted_has_none.Goals as goal

pub returns : goal.returns
returns c =
    none_accepted c.nothing_is_derivable_with_a_declaration_that_fails.ensures c.nothing_is_derivable_without_a_rule.ensures
    c.nothing_is_derivable_with_a_field_unset.ensures
