use Rattle.pc_lib_call.proofs.{Asked.answers_as, Commands.shown}
use Rattle.pc_lib_call.proofs.sources.show.Goals as goal

pub returns : goal.returns
returns c = answers_as _ _ _ _ _ _ _ (shown c.written_forms_are_taken.ensures c.args.source.now) c.ask.ensures.answers
