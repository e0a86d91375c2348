use Rattle.pc_args.proofs.words.make_rcap.Goals as goal

pub returns : goal.returns
returns c = c.make_line.ensures
