use Rattle.std.proofs.Common.{sym, ◌∙◌}
use Rattle.pc_places.proofs.Searching.{found_after}
use Rattle.pc_places.proofs.locals.token_after.Goals as goal

pub returns : goal.returns
returns c = c.token_at.ensures ∙ sym (found_after c.args.tokens.now c.args.place c.count_until.result c.count_until.ensures)
