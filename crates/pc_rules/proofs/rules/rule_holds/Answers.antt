use Rattle.std.proofs.Common.{◌<◌, ◌∙◌, ap, sym, subst}
use Rattle.std.specs.Option.{option_copied}
use Rattle.pc_rules.proofs.{Derivations.met_by, Deciding.{none_there, rule_by}}
use Rattle.pc_rules.proofs.rules.rule_holds.Goals as goal

pub returns-in-Some-Some : goal.returns-in-Some-Some
returns-in-Some-Some c =
    met_by c.args.core.now c.formed.ensures c.args.ann.now c.args.number c.meets.result
    (rule_by c.args.core.now c.args.ann.now c.args.number c.in-Some-Some.node.now c.in-Some-Some.note c.meets.result (sym c.node_at.ensures ∙ ap option_copied c.in-Some-Some.is-0) (sym c.note_at.ensures ∙ c.in-Some-Some.is-1) c.meets.ensures)

pub returns-in_default : goal.returns-in_default
returns-in_default c = absurd (none_there c.args.ann.now.notes c.args.number (subst (λ k. c.args.number < k) (sym c.requires.notes) c.requires.node) (sym c.note_at.ensures ∙ c.in_default.is-1))
