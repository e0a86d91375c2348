use Rattle.pc_safe.proofs.safe.derivable_is_safe.Goals as goal

pub returns : goal.returns
returns c = record { safe = c.valid_is_safe.ensures c.args.core.now c.requires.derivable.0 c.formed.ensures c.requires.derivable.1 }
