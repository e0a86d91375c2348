use Rattle.pc_lib_buffers.proofs.pointing.place_in_source.Goals as goal

pub returns : goal.returns
returns c = (c.in_ok-end.end, c.in_ok-end.ensures, c.place_to.ensures)
