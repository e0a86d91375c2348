use Rattle.pc_top.proofs.Exact.{statuses_exact}
use Rattle.pc_top.proofs.laws.statuses_are_exact.Goals as goal

pub returns : goal.returns
returns c =
    statuses_exact (record {
      list = c.tokens_are_one.ensures;
      both = c.faults_are_told.ensures.not_both;
      fault = c.faults_are_told.ensures.one;
      tree = c.files_are_read.ensures.answer;
      core = c.cores_are_one.ensures.core;
      misnamed = c.names_are_one.ensures.apart;
      misused = c.cores_are_one.ensures.apart;
      name_fault = c.names_are_one.ensures.fault;
      body_fault = c.cores_are_one.ensures.fault;
    }) (record {
      formed = c.cores_of_sources_are_formed.ensures;
      ruleless = c.nothing_is_derivable_without_a_rule.ensures;
      setless = c.nothing_is_derivable_with_a_field_unset.ensures;
      failing = c.nothing_is_derivable_with_a_declaration_that_fails.ensures;
    })
