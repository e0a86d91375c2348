use Rattle.pc_clocks.proofs.seats.Seats.send.Goals as goal

pub returns : goal.returns
returns c = rw (← c.in_ok-letter.ensures, ← c.self.view_is) c.put_at.ensures
