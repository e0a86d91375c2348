use Rattle.pc_lib_buffers.proofs.LinesNameSpans.{lines_name}
use Rattle.pc_lib_buffers.proofs.laws.lines_name_spans.Goals as goal

pub returns : goal.returns
returns c = lines_name
