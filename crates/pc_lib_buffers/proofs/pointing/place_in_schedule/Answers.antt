use Rattle.pc_lib_buffers.proofs.pointing.place_in_schedule.Goals as goal

pub returns : goal.returns
returns c = (c.word_end.result, c.word_end.ensures, c.place_to.ensures)
