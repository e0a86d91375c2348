use Rattle.pc_sched.proofs.Together.{is_answer, answers_list, answers_fault}
use Rattle.pc_sched.proofs.reading.read.Goals as goal

pub returns-clause-listed : goal.returns-clause-listed
returns-clause-listed c turns is =
    answers_list c.args.bytes.now c.read_all.result turns (is_answer c.args.bytes.now c.read_all.result c.read_all.ensures.ok c.read_all.ensures.err) is

pub returns-clause-faulty : goal.returns-clause-faulty
returns-clause-faulty c fault is =
    answers_fault c.args.bytes.now c.read_all.result fault (is_answer c.args.bytes.now c.read_all.result c.read_all.ensures.ok c.read_all.ensures.err) is
