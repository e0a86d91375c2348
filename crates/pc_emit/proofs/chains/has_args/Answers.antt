use Rattle.std.proofs.{Common.{refl, ◌∙◌}, lemmas.Option.slice_get_read}
use Rattle.pc_emit.specs.Closing.{is_args}
use Rattle.pc_emit.proofs.Suffixes.{tested_some, tested_none, past_none}
use Rattle.pc_emit.proofs.chains.has_args.Goals as goal

pub returns-in-Some : goal.returns-in-Some
returns-in-Some c = c.is_args.ensures ∙ tested_some is_args c.args.suffixes.now c.args.at c.in-Some.suffix.now (slice_get_read c.args.suffixes.now _ c.args.at c.in-Some.suffix.now refl c.in-Some.ensures.lookup.3.0 c.in-Some.ensures.lookup.1)

pub returns-in-None : goal.returns-in-None
returns-in-None c = tested_none is_args c.args.suffixes.now c.args.at (past_none c.args.suffixes.now c.args.at c.in-None.ensures.lookup.3)
