use Rattle.pc_clocks.proofs.seats.Seats.receive.Goals as goal

pub returns : goal.returns
returns c = rw (← c.self.view_is) c.receive_at.ensures
