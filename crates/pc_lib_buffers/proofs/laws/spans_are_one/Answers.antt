use Rattle.pc_lib_buffers.proofs.OneSpan.{one_span}
use Rattle.pc_lib_buffers.proofs.laws.spans_are_one.Goals as goal

pub returns : goal.returns
returns c =
    one_span (record {
      source = record {
        list = c.tokens_are_one.ensures;
        both = c.faults_are_told.ensures.not_both;
        fault = c.faults_are_told.ensures.one;
        tree = c.files_are_read.ensures.answer;
        core = c.cores_are_one.ensures.core;
        misnamed = c.names_are_one.ensures.apart;
        misused = c.cores_are_one.ensures.apart;
        name_fault = c.names_are_one.ensures.fault;
        body_fault = c.cores_are_one.ensures.fault;
      };
      ascend = c.tokens_are_in_order.ensures.ascend;
      formed = c.cores_are_formed.ensures;
      fits = c.no_fault_where_declarations_fit.ensures;
      one_declared = c.one_declaration_fails_first.ensures;
      ruleless = c.nothing_is_derivable_without_a_rule.ensures;
      setless = c.nothing_is_derivable_with_a_field_unset.ensures;
      failing = c.nothing_is_derivable_with_a_declaration_that_fails.ensures;
      node = c.faults_are_one.ensures.node;
      constructor = c.faults_are_one.ensures.constructor;
      kind = c.faults_are_one.ensures.kind;
    })
