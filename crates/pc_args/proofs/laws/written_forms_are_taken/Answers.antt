use Rattle.pc_args.proofs.Forms.{forms_taken}
use Rattle.pc_args.proofs.laws.written_forms_are_taken.Goals as goal

pub returns : goal.returns
returns c = forms_taken
