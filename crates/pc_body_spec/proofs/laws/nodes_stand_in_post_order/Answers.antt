use Rattle.pc_body_spec.proofs.PostOrders.{post_order}
use Rattle.pc_body_spec.proofs.laws.nodes_stand_in_post_order.Goals as goal

pub returns : goal.returns
returns c = post_order
