use Rattle.pc_safe.proofs.After.{ends_apart}
use Rattle.pc_safe.proofs.safe.accepted_is_safe.Goals as goal

pub returns-clause-safe : goal.returns-clause-safe
returns-clause-safe c = c.valid_is_safe.ensures c.args.core.now c.args.ann.now c.formed.ensures c.requires.valid

pub returns-clause-apart : goal.returns-clause-apart
returns-clause-apart c =
    ends_apart c.args.core.now c.args.actors.now c.accepted_runs.result
    (c.valid_is_safe.ensures c.args.core.now c.args.ann.now c.formed.ensures c.requires.valid) c.accepted_runs.ensures.ends
