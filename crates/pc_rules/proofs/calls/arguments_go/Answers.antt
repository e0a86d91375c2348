use Rattle.std.proofs.Common.{◌≡◌, ◌<◌, ◌&&◌, ◌+◌, length, drop, take, true, false, ap, sym, ◌∙◌}
use Rattle.pc_rules.specs.Children.{goes_at}
use Rattle.pc_rules.specs.Calls as spec
use Rattle.pc_rules.proofs.{Arguments.{counts_differ, count_taken}, Further.{go_at, all_went}}
use Rattle.pc_rules.proofs.calls.arguments_go.Goals as goal

pub returns-then-params-count : goal.returns-then-params-count
returns-then-params-count c =
    let ns = c.args.children.now in
    let l : length (take c.args.count ns) ≡ c.args.count = count_taken c.args.count ns c.requires in
    sym (counts_differ c.args.core.now (take c.args.count ns) c.args.params.now (λ e. c.if-params-count.true (e ∙ l)))

pub returns-then-not-goes_at : goal.returns-then-not-goes_at
returns-then-not-goes_at c =
    let ns = c.args.children.now in
    let e : length c.args.params.now ≡ c.args.count = c.if-params-count.false in
    let b : c.loop-index.index < c.args.count = c.loop-index-test.true in
    let f : goes_at c.args.core.now ns c.args.params.now c.loop-index.index ≡ false = sym c.goes_at.ensures ∙ c.if-not-goes_at.true in
    let rest = spec.arguments_go c.args.core.now (drop (c.loop-index.index + 1) (take c.args.count ns)) (drop (c.loop-index.index + 1) c.args.params.now) in
    sym (go_at c.args.core.now ns c.args.params.now c.args.count c.loop-index.index e c.requires b ∙ ap (λ g. g && rest) f) ∙ c.loop-index.invariant

pub loop-index-preserved : goal.loop-index-preserved
loop-index-preserved c =
    let ns = c.args.children.now in
    let e : length c.args.params.now ≡ c.args.count = c.if-params-count.false in
    let b : c.loop-index.index < c.args.count = c.loop-index-test.true in
    let f : goes_at c.args.core.now ns c.args.params.now c.loop-index.index ≡ true = sym c.goes_at.ensures ∙ c.if-not-goes_at.false in
    let rest = spec.arguments_go c.args.core.now (drop (c.loop-index.index + 1) (take c.args.count ns)) (drop (c.loop-index.index + 1) c.args.params.now) in
    sym (go_at c.args.core.now ns c.args.params.now c.args.count c.loop-index.index e c.requires b ∙ ap (λ g. g && rest) f) ∙ c.loop-index.invariant

pub returns : goal.returns
returns c = all_went c.args.core.now c.args.children.now c.args.params.now c.args.count c.loop-index.index c.if-params-count.false c.requires c.loop-index-test.false ∙ c.loop-index.invariant
