use Rattle.std.proofs.{Common.{◌≡◌, ℕ, Some, ap, sym, ◌∙◌}, lemmas.Option.same_Some, lemmas.Result.on_ok_weaker}
use Rattle.pc_sends.proofs.{Grows.grown_same, Walking.CalledIn}
use Rattle.pc_sends.proofs.walk.find_called.Goals as goal

pub returns-in-Some : goal.returns-in-Some
returns-in-Some c =
    let number = c.in-Some.number in
    on_ok_weaker c.add.result
    (grown_same (λ (t : ℕ). number ≡ t) (CalledIn c.args.core.now c.args.name c.args.entity) c.args.found.now c.add.new.self
    (λ t e. sym c.in-Some.ensures ∙ ap Some e) (λ t e. same_Some number t (c.in-Some.ensures ∙ e)))
    c.add.ensures
