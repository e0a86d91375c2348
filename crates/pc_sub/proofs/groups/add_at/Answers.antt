use Rattle.std.proofs.{Common.{ap, length, arith}, lemmas.List.length-set}
use Rattle.pc_sub.proofs.Grouping.{add_is}
use Rattle.pc_sub.proofs.groups.add_at.Goals as goal

pub replace-requires : goal.replace-requires
replace-requires c =
    let low = c.requires in
    let same = ap length c.replace-list.ensures.new in
    let kept = length-set c.args.lists.now c.args.place c.new.result in
    omega (arith, low, same, kept)

pub returns : goal.returns
returns c = add_is c.args.lists.now c.replace-list.new.self c.replace.new.self c.args.place c.args.number c.new.result c.replace-list.result c.push.new.self c.replace-list.ensures.old c.replace-list.ensures.new c.in_ok-push.ensures.ok c.replace.ensures.new
