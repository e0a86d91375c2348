use Rattle.pc_args.specs.Asked.{texts}
use Rattle.pc_lib_buffers.specs.Laying.{buffer}
use Rattle.pc_lib_call.proofs.Asked.{accepting_status, answers, handed}
use Rattle.pc_lib_call.proofs.asking.ask_files.Goals as goal

pub returns-clause-answers : goal.returns-clause-answers
returns-clause-answers c =
    let out = buffer c.args.out.now c.hand_over.new.out c.hand_over.new.answer.out_length in
    let err = buffer c.args.err.now c.hand_over.new.err c.hand_over.new.answer.err_length in
    let place = c.hand_over.new.answer.place in
    answers c.args.files.now.entries c.rcap-status.new.files.taken c.args.source.now c.args.beside c.requires (texts c.args.words.now) c.rcap-status.new.out c.rcap-status.new.err c.rcap-status.result c.hand_over.result out err
    place _ _ c.new-to_out.ensures c.new-to_err.ensures c.rcap-status.ensures.completes c.hand_over.ensures.status
    (handed c.args.source.now c.args.beside c.hand_over.result out err place c.bytes.result.now c.rcap-status.new.out c.bytes-2.result.now c.rcap-status.new.err c.bytes.ensures c.bytes-2.ensures c.hand_over.ensures.texts)
    c.hand_over.ensures.memory

pub returns-clause-accepted : goal.returns-clause-accepted
returns-clause-accepted c accepting = (c.args.files.now.entries, c.requires, c.rcap-status.ensures.accepted (accepting_status c.rcap-status.result c.hand_over.result c.hand_over.ensures.status accepting))

pub returns-clause-safe : goal.returns-clause-safe
returns-clause-safe c accepting = (c.args.files.now.entries, c.requires, c.rcap-status.ensures.safe (accepting_status c.rcap-status.result c.hand_over.result c.hand_over.ensures.status accepting))

pub returns-clause-isolated : goal.returns-clause-isolated
returns-clause-isolated c accepting = (c.args.files.now.entries, c.requires, c.rcap-status.ensures.isolated (accepting_status c.rcap-status.result c.hand_over.result c.hand_over.ensures.status accepting))
