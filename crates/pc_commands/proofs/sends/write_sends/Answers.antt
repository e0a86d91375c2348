use Rattle.std.proofs.Common.{◌∙◌}
use Rattle.pc_commands.proofs.Tables.{lines_tell, noted_whole}
use Rattle.pc_commands.proofs.sends.write_sends.Goals as goal

pub sends-requires-clause-held : goal.sends-requires-clause-held
sends-requires-clause-held c = rw c.as_slice.ensures c.in_ok-noted.ensures.held

pub sends-requires-clause-whole : goal.sends-requires-clause-whole
sends-requires-clause-whole c = noted_whole c.args.core.now c.args.ann.now c.as_slice.result.now c.requires (c.as_slice.ensures ∙ c.in_ok-noted.ensures.noted)

pub returns : goal.returns
returns c =
    lines_tell c.args.core.now c.args.ann.now c.as_slice.result.now c.in_ok-table.table c.write_table.result (c.as_slice.ensures ∙ c.in_ok-noted.ensures.noted) c.in_ok-table.ensures.table
    c.write_table.ensures
