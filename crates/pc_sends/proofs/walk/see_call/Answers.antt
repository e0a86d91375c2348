use Rattle.std.proofs.lemmas.Result.{on_ok_weaker}
use Rattle.pc_sends.specs.Tables.{MayCall}
use Rattle.pc_sends.proofs.{Grows.grown_there, Walking.known_call}
use Rattle.pc_sends.proofs.walk.see_call.Goals as goal

pub returns-then-has-clause-grown : goal.returns-then-has-clause-grown
returns-then-has-clause-grown c =
    grown_there (MayCall c.args.noted.now.core.now c.args.name c.args.known) c.args.walk.now.found
    (λ t m. c.requires.known c.args.name c.args.known t (c.has.ensures c.if-has.true) m)

pub returns-clause-grown : goal.returns-clause-grown
returns-clause-grown c = on_ok_weaker c.add.result (λ more. c.in_ok-find_targets.ensures) c.add.ensures

pub returns-clause-known : goal.returns-clause-known
returns-clause-known c =
    on_ok_weaker c.add.result
    (known_call c.args.noted.now.core.now c.args.walk.now.calls c.add.new.self c.args.name c.args.known c.args.walk.now.found c.find_targets.new.found c.in_ok-find_targets.ensures c.requires.known)
    c.add.ensures
