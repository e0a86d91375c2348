use Rattle.std.proofs.Common.{◌≡◌, ◌∙◌, ap, subst}
use Rattle.pc_print.specs.Printing.{printed}
use Rattle.pc_base.specs.Lists.{Text}
use Rattle.pc_refusals.specs.{Source.{AcceptedStage, source_limit}, Verdict.text_as, Inner.Stages.PartEnds}
use Rattle.pc_commands.specs.Make.{made_name}
use Rattle.pc_gen.specs.Generated.{generated_text}
use Rattle.pc_gen.proofs.Printed.{program_printed}
use Rattle.pc_top.proofs.commands.make.accept_made.Goals as goal

pub returns : goal.returns
returns c =
    let same : c.from_vec.result ≡ generated_text c.args.seed c.args.size = c.from_vec.ensures ∙ (c.into_vec.ensures ∙ (c.in_ok-text.ensures ∙ (ap printed c.in_ok-file.ensures ∙ program_printed c.args.seed c.args.size))) in
    subst (λ (text : Text). PartEnds source_limit (AcceptedStage made_name) (text_as made_name text) c.accept_text.result) same c.accept_text.ensures
