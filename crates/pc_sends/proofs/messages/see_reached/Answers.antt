use Rattle.std.proofs.lemmas.Result.{on_ok_weaker}
use Rattle.pc_base.proofs.Bools.{no_both}
use Rattle.pc_sends.specs.Reached.{ReachedUses}
use Rattle.pc_sends.proofs.{Grows.grown_there, Sent.reached_uses}
use Rattle.pc_sends.proofs.messages.see_reached.Goals as goal

pub returns-then-has-clause-grown : goal.returns-then-has-clause-grown
returns-then-has-clause-grown c =
    on_ok_weaker c.see_method.result
    (reached_uses c.args.noted.now.core.now c.args.noted.now.entities.now c.args.number c.args.walk.now.found c.see_method.new.self.found ((c.requires.reached.exact c.args.number).0 (c.has.ensures.0 c.if-has.true)))
    c.see_method.ensures.grown

pub returns-else-has-clause-grown : goal.returns-else-has-clause-grown
returns-else-has-clause-grown c =
    grown_there (ReachedUses c.args.noted.now.core.now c.args.noted.now.entities.now c.args.number) c.args.walk.now.found
    (λ t m. absurd (no_both c.has.result (c.has.ensures.1 ((c.requires.reached.exact c.args.number).1 m.0)) c.if-has.false))
