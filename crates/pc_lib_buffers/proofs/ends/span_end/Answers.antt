use Rattle.pc_lib_buffers.proofs.ends.span_end.Goals as goal

pub returns : goal.returns
returns c = (c.in_ok-span.span, c.in_ok-span.ensures, c.end_from.ensures)
