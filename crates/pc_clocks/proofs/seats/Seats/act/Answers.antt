use Rattle.pc_clocks.proofs.seats.Seats.act.Goals as goal

pub returns : goal.returns
returns c = rw (← c.self.view_is) c.act_at.ensures
