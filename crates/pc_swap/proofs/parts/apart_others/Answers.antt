use Rattle.std.proofs.Common.{rules, ◌≡◌, true, false}
use Rattle.pc_swap.specs.Ends.{is_moving, one_receiver, two_spawns}
use Rattle.pc_swap.proofs.Telling.{second_stays, to_one, are_apart}
use Rattle.pc_swap.proofs.parts.apart_others.Goals as goal

pub returns-then-not-moves-2 : goal.returns-then-not-moves-2
returns-then-not-moves-2 c =
    let stays : is_moving c.ahead-other.result ≡ false = search rules in
    second_stays c.args.machine.now.core c.args.machine.now.configuration c.args.actor c.args.other_actor c.requires c.ahead-one.result c.ahead-other.result c.ahead-one.ensures c.ahead-other.ensures stays

pub returns-then-send_to_one : goal.returns-then-send_to_one
returns-then-send_to_one c =
    let moves : is_moving c.ahead-one.result ≡ true = search rules in
    let moves_too : is_moving c.ahead-other.result ≡ true = search rules in
    let one : one_receiver c.ahead-one.result c.ahead-other.result ≡ true = search rules in
    to_one c.args.machine.now.core c.args.machine.now.configuration c.args.actor c.args.other_actor c.requires c.ahead-one.result c.ahead-other.result c.ahead-one.ensures c.ahead-other.ensures moves moves_too one

pub returns : goal.returns
returns c =
    let moves : is_moving c.ahead-one.result ≡ true = search rules in
    let moves_too : is_moving c.ahead-other.result ≡ true = search rules in
    let none : one_receiver c.ahead-one.result c.ahead-other.result ≡ false = search rules in
    let not_both : two_spawns c.ahead-one.result c.ahead-other.result ≡ false = search rules in
    are_apart c.args.machine.now.core c.args.machine.now.configuration c.args.actor c.args.other_actor c.requires c.ahead-one.result c.ahead-other.result c.ahead-one.ensures c.ahead-other.ensures moves moves_too none not_both
