use Rattle.std.proofs.{Common.{◌≡◌, ℕ, Some, ap, sym, ◌∙◌}, lemmas.Option.same_Some, lemmas.Result.on_ok_weaker}
use Rattle.pc_sends.proofs.{Grows.grown_same, Closing.IsFirst}
use Rattle.pc_sends.proofs.reaching.find_first.Goals as goal

pub returns-in-Some : goal.returns-in-Some
returns-in-Some c =
    let create = c.in-Some.create in
    on_ok_weaker c.add.result
    (grown_same (λ (t : ℕ). create ≡ t) (IsFirst c.args.core.now) c.args.found.now c.add.new.self
    (λ t e. (c.in-Some.field-0-0, sym c.in-Some.ensures ∙ ap (λ (k : ℕ). Some (c.in-Some.field-0-0, k)) e))
    (λ t p. ap (λ (q : ℕ × ℕ). q.1) (same_Some (c.in-Some.field-0-0, create) (p.0, t) (c.in-Some.ensures ∙ p.1))))
    c.add.ensures
