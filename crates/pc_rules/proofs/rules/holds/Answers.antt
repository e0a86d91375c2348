use Rattle.std.proofs.Common.{◌≡◌, ◌↔◌, IsTrue, Some, List, ◌∙◌, ap, sym, subst}
use Rattle.std.specs.Option.{option_copied}
use Rattle.pc_ann.specs.declared.annotation.Note.{Note}
use Rattle.pc_valid.specs.Words.{before}
use Rattle.pc_rules.specs.Rules as spec
use Rattle.pc_rules.proofs.{Derivations.holds_by, Deciding.none_there}
use Rattle.pc_rules.proofs.rules.holds.Goals as goal

pub returns-in-None : goal.returns-in-None
returns-in-None c = absurd (none_there c.args.core.now.nodes c.args.number c.requires.node (sym c.node_at.ensures ∙ ap option_copied c.in-None.is))

pub returns-in-Some : goal.returns-in-Some
returns-in-Some c =
    let x = c.in-Some.node.now in
    let own = c.args.own.now in
    holds_by c.args.core.now c.formed.ensures c.args.slots.now own c.args.children.now c.args.number x c.meets_by.result (sym c.node_at.ensures ∙ ap option_copied c.in-Some.is)
    (subst (λ (ns : List Note). (IsTrue c.meets_by.result) ↔ (spec.rule_says c.args.core.now c.args.slots.now ns x (before own) own.rule x.kind ≡ Some (spec.said_by own))) c.held.ensures c.meets_by.ensures)
