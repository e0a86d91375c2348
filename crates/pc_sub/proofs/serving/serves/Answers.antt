use Rattle.std.proofs.Common.{sym, ◌∙◌}
use Rattle.pc_sub.specs.Faults.{stands, stood}
use Rattle.pc_sub.proofs.serving.serves.Goals as goal

pub returns-then-is_like : goal.returns-then-is_like
returns-then-is_like c = (
  λ t. (c.is_like.ensures.0 c.if-is_like.true, stands c.args.core.now c.args.wanted.now c.args.given.now c.formed.ensures (sym c.stands_for.ensures ∙ t)),
  λ s. c.stands_for.ensures ∙ stood c.args.core.now c.args.wanted.now c.args.given.now c.formed.ensures s.1,
)
