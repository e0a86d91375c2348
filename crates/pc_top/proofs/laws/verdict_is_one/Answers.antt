use Rattle.pc_top.proofs.Verdicts.{verdict_one}
use Rattle.pc_top.proofs.laws.verdict_is_one.Goals as goal

pub returns : goal.returns
returns c =
    verdict_one (record {
      source = record {
        list = c.tokens_are_one.ensures;
        both = c.faults_are_told.ensures.not_both;
        fault = c.faults_are_told.ensures.one;
        tree = c.files_are_read.ensures.answer;
        core = c.cores_are_one.ensures.core;
        misnamed = c.names_are_one.ensures.apart;
        misused = c.cores_are_one.ensures.apart;
        name_fault = c.names_are_one.ensures.fault;
        body_fault = c.cores_are_one.ensures.fault;
      };
      refusing = record {
        formed = c.cores_of_sources_are_formed.ensures;
        ruleless = c.nothing_is_derivable_without_a_rule.ensures;
        setless = c.nothing_is_derivable_with_a_field_unset.ensures;
        failing = c.nothing_is_derivable_with_a_declaration_that_fails.ensures;
      };
      fits = c.no_fault_where_declarations_fit.ensures;
      one_declared = c.one_declaration_fails_first.ensures;
      valid = c.one_annotation_is_valid.ensures;
      node = c.faults_are_one.ensures.node;
      constructor = c.faults_are_one.ensures.constructor;
      kind = c.faults_are_one.ensures.kind;
      annotation = c.annotations_are_one.ensures;
      text_fault = c.faults_are_one-2.ensures.one;
      apart = c.faults_are_one-2.ensures.apart;
      first = c.one_fault_is_first.ensures;
      not_valid = c.faulted_is_not_valid.ensures;
      turns = c.turns_are_one.ensures;
      not_both = c.faults_are_told-2.ensures.not_both;
      word = c.faults_are_told-2.ensures.one;
      kept = c.kept_are_not_apart.ensures;
      line = c.lines_are_one.ensures;
      chosen = c.lists_are_one.ensures;
      outcomes = c.answers_are_one.ensures;
      explanation = c.explanations_are_one.ensures;
      unexplained = c.accepted_has_none.ensures;
    })
