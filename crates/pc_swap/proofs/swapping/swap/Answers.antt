use Rattle.std.proofs.Common.{refl}
use Rattle.pc_swap.proofs.Whole.{kept_here, exchanged_here}
use Rattle.pc_swap.proofs.swapping.swap.Goals as goal

pub returns-in-Err : goal.returns-in-Err
returns-in-Err c front rest i j is at =
    kept_here c.args.core.now c.args.list.now front rest i j c.args.place is at _ refl c.in_ok-machine.machine c.in_ok-machine.ensures.0 c.in_ok-machine.ensures.1 _ _ refl refl c.in-Err.kept c.in-Err.ensures.first

pub returns : goal.returns
returns c front rest i j is at =
    exchanged_here c.args.core.now c.args.list.now front rest i j c.args.place is at _ refl c.in_ok-machine.machine c.in_ok-machine.ensures.0 c.in_ok-machine.ensures.1 _ _ refl refl c.requires.safe c.in-Ok.ensures.first c.in_ok-exchanged.field-0 c.in_ok-exchanged.ensures
