use Rattle.pc_top.proofs.Verdicts.{refused_underivable}
use Rattle.pc_top.proofs.laws.refused_sources_have_no_derivation.Goals as goal

pub returns : goal.returns
returns c =
    refused_underivable (record {
      formed = c.cores_of_sources_are_formed.ensures;
      ruleless = c.nothing_is_derivable_without_a_rule.ensures;
      setless = c.nothing_is_derivable_with_a_field_unset.ensures;
      failing = c.nothing_is_derivable_with_a_declaration_that_fails.ensures;
    })
