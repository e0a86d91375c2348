use Rattle.std.proofs.Common.{rules, ◌≡◌, ◌≤◌, ◌∙◌, List, sym, subst}
use Rattle.pc_sched.specs.{Schedules.{turn_limit, total}, declared.turns.Turn.Turn}
use Rattle.pc_gen.specs.Generated.{schedule}
use Rattle.pc_gen.proofs.Turns.{few, one_more}
use Rattle.pc_gen.proofs.schedule.schedule_of.Goals as goal

pub loop-i-preserved : goal.loop-i-preserved
loop-i-preserved c = c.in_ok-push.ensures.ok ∙ one_more c.loop-i.i c.loop-i.turns c.loop-i.invariant

pub returns-clause-few : goal.returns-clause-few
returns-clause-few c =
    let is : c.push-2.new.self ≡ schedule c.args.size = search rules in
    subst (λ (turns : List Turn). total turns ≤ turn_limit) (sym is) (few c.args.size c.requires)
