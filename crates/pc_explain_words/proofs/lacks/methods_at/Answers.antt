use Rattle.std.proofs.Common.{sym, ap, ◌∙◌}
use Rattle.std.specs.Option.{option_copied}
use Rattle.pc_core.specs.Members.{methods_within}
use Rattle.pc_explain_words.proofs.lacks.methods_at.Goals as goal

pub methods_of-requires : goal.methods_of-requires
methods_of-requires c = methods_within c.args.core.now c.args.entity c.in-Some.found.now c.formed.ensures (sym c.entity_at.ensures ∙ ap option_copied c.in-Some.is)
