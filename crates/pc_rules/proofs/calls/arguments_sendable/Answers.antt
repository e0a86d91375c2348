use Rattle.std.proofs.Common.{◌≡◌, ◌<◌, ◌&&◌, ◌+◌, length, drop, take, true, false, ap, sym, ◌∙◌}
use Rattle.pc_rules.specs.Children.{sendable_at}
use Rattle.pc_rules.specs.Calls as spec
use Rattle.pc_rules.proofs.{Arguments.{sendable_counts, count_taken}, Further.{sendable_step, all_sendable}}
use Rattle.pc_rules.proofs.calls.arguments_sendable.Goals as goal

pub returns-then-params-count : goal.returns-then-params-count
returns-then-params-count c =
    let ns = c.args.children.now in
    let l : length (take c.args.count ns) ≡ c.args.count = count_taken c.args.count ns c.requires in
    sym (sendable_counts (take c.args.count ns) c.args.params.now (λ e. c.if-params-count.true (e ∙ l)))

pub returns-then-not-sendable_at : goal.returns-then-not-sendable_at
returns-then-not-sendable_at c =
    let ns = c.args.children.now in
    let e : length c.args.params.now ≡ c.args.count = c.if-params-count.false in
    let b : c.loop-index.index < c.args.count = c.loop-index-test.true in
    let f : sendable_at ns c.args.params.now c.loop-index.index ≡ false = sym c.sendable_at.ensures ∙ c.if-not-sendable_at.true in
    let rest = spec.arguments_sendable (drop (c.loop-index.index + 1) (take c.args.count ns)) (drop (c.loop-index.index + 1) c.args.params.now) in
    sym (sendable_step ns c.args.params.now c.args.count c.loop-index.index e c.requires b ∙ ap (λ g. g && rest) f) ∙ c.loop-index.invariant

pub loop-index-preserved : goal.loop-index-preserved
loop-index-preserved c =
    let ns = c.args.children.now in
    let e : length c.args.params.now ≡ c.args.count = c.if-params-count.false in
    let b : c.loop-index.index < c.args.count = c.loop-index-test.true in
    let f : sendable_at ns c.args.params.now c.loop-index.index ≡ true = sym c.sendable_at.ensures ∙ c.if-not-sendable_at.false in
    let rest = spec.arguments_sendable (drop (c.loop-index.index + 1) (take c.args.count ns)) (drop (c.loop-index.index + 1) c.args.params.now) in
    sym (sendable_step ns c.args.params.now c.args.count c.loop-index.index e c.requires b ∙ ap (λ g. g && rest) f) ∙ c.loop-index.invariant

pub returns : goal.returns
returns c = all_sendable c.args.children.now c.args.params.now c.args.count c.loop-index.index c.if-params-count.false c.requires c.loop-index-test.false ∙ c.loop-index.invariant
