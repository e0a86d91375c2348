use Rattle.pc_run_events.proofs.posts.Posts.put.Goals as goal

pub returns : goal.returns
returns c = rw (← c.self.view_is) c.put_at.ensures
