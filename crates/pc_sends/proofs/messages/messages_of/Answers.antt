use Rattle.std.proofs.{Common.{[], get_or}, lemmas.Option.slice_get-get_or}
use Rattle.pc_sends.proofs.{Grows.{list_turn, list_all}, Sent.MessageOf}
use Rattle.pc_sends.proofs.messages.messages_of.Goals as goal

pub loop-number-preserved : goal.loop-number-preserved
loop-number-preserved c =
    let ns = c.args.numbers.now in
    let k = c.loop-number.number-index in
    list_turn (MessageOf c.args.core.now) ns k (get_or ns k 0) [] c.loop-number.messages c.find_message.new.messages (slice_get-get_or ns k 0 c.loop-number-test.true) c.loop-number.invariant c.in_ok-find_message.ensures

pub returns : goal.returns
returns c = list_all (MessageOf c.args.core.now) c.args.numbers.now c.loop-number.number-index [] c.loop-number.messages c.loop-number-test.false c.loop-number.invariant
