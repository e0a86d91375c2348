use Rattle.pc_run_events.proofs.posts.Posts.take.Goals as goal

pub returns : goal.returns
returns c = rw (← c.self.view_is) c.take_at.ensures
