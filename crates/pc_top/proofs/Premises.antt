-- What the laws of the crates below state, on which the laws of verdicts rest.
use Rattle.pc_choose.specs.Laws.{ListsAreOne}
use Rattle.pc_check.specs.Laws.{NoneWithoutRule, NoneWithUnset, NoneWithFault, OneNode, OneConstructor, OneKindOfFault}
use Rattle.pc_explain.specs.Laws.{AcceptedHasNone, ExplanationsAreOne}
use Rattle.pc_deriv.specs.Laws.{OneAnnotation, NoFaultOfText, OneFault as OneTextFault}
use Rattle.pc_judge.specs.Laws.{OneFirst, NotValid}
use Rattle.pc_outcome_laws.specs.Laws.{AnswersAreOne}
use Rattle.pc_sched_lines.specs.Rows.{LinesAreOne}
use Rattle.pc_rules.specs.Statements.{OneValid}
use Rattle.pc_sched.specs.Laws.{OneList, NotBoth, OneFault}
use Rattle.pc_sub.specs.DeclarationLaws.{NoFaultWhereFit, OneFirstFault}
use Rattle.pc_swap.specs.Laws.{KeptAreNotApart}
use Rattle.pc_refusals.proofs.OneSource.{SourceLaws}
use Rattle.pc_top.specs.CoresFormed.{CoresAreFormed}

-- For that a source that is refused with 1 has no derivation.
pub record Refusing : Type 0 where
  pub formed : CoresAreFormed
  pub ruleless : NoneWithoutRule
  pub setless : NoneWithUnset
  pub failing : NoneWithFault

-- For that there is one verdict.
pub record Laws : Type 0 where
  pub source : SourceLaws
  pub refusing : Refusing
  pub fits : NoFaultWhereFit
  pub one_declared : OneFirstFault
  pub valid : OneValid
  pub node : OneNode
  pub constructor : OneConstructor
  pub kind : OneKindOfFault
  pub annotation : OneAnnotation
  pub text_fault : OneTextFault
  pub apart : NoFaultOfText
  pub first : OneFirst
  pub not_valid : NotValid
  pub turns : OneList
  pub not_both : NotBoth
  pub word : OneFault
  pub kept : KeptAreNotApart
  pub line : LinesAreOne
  pub chosen : ListsAreOne
  pub outcomes : AnswersAreOne
  pub explanation : ExplanationsAreOne
  pub unexplained : AcceptedHasNone
