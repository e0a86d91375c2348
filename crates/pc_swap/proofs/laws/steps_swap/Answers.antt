use Rattle.pc_swap.proofs.Orders.{steps_swap}
use Rattle.pc_swap.proofs.laws.steps_swap.Goals as goal

pub returns : goal.returns
returns c = steps_swap
