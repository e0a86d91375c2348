use Rattle.pc_lib_call.proofs.{Asked.answers_as, Commands.placed}
use Rattle.pc_lib_call.proofs.sources.places.Goals as goal

pub returns : goal.returns
returns c = answers_as _ _ _ _ _ _ _ (placed c.written_forms_are_taken.ensures c.args.source.now) c.ask.ensures.answers
