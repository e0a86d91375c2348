use Rattle.std.proofs.Common.{rules, ◌≡◌, true, false, sym, ◌∙◌}
use Rattle.pc_rules.specs.Children.{each_has}
use Rattle.pc_rules.proofs.Gathered.{have_each, says_then, says_else}
use Rattle.pc_rules.proofs.rules.says.Goals as goal

pub says_among-requires : goal.says_among-requires
says_among-requires c =
    let e : each_has c.args.ann.now.notes c.args.node.now.children ≡ true = search rules in
    have_each c.args.ann.now.notes c.args.node.now.children e

pub returns-then-have_notes : goal.returns-then-have_notes
returns-then-have_notes c =
    let e : each_has c.args.ann.now.notes c.args.node.now.children ≡ true = search rules in
    c.says_among.ensures ∙ sym (says_then c.args.core.now c.args.ann.now c.args.node.now c.args.masks c.args.rule c.args.node.now.kind e)

pub returns-else-have_notes : goal.returns-else-have_notes
returns-else-have_notes c =
    let e : each_has c.args.ann.now.notes c.args.node.now.children ≡ false = search rules in
    sym (says_else c.args.core.now c.args.ann.now c.args.node.now c.args.masks c.args.rule c.args.node.now.kind e)
