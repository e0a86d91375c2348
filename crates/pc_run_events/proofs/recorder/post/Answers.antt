use Rattle.pc_run_events.proofs.Posting.{row_rest, row_taken}
use Rattle.pc_run_events.proofs.recorder.post.Goals as goal

pub returns-in-Take-clause-sent : goal.returns-in-Take-clause-sent
returns-in-Take-clause-sent c =
    let there = rw c.in-Take.is at c.requires in
    rw c.in-Take.is (row_taken c.args.posts.now c.take.new.self c.args.actor c.take.result c.take.ensures there)

pub returns-in-Take-clause-posts : goal.returns-in-Take-clause-posts
returns-in-Take-clause-posts c = rw c.in-Take.is (row_rest c.args.posts.now c.take.new.self c.args.actor c.take.result c.take.ensures)
