use Rattle.std.proofs.Common.{ℕ, List, ◌∙◌, sym, subst}
use Rattle.pc_tree.specs.View.{file_view}
use Rattle.pc_members.specs.Members.{IsTransitiveClosure}
use Rattle.pc_names.proofs.Founded.{collected_founded}
use Rattle.pc_explain_names.proofs.rows.members_of.Goals as goal

pub list_members-requires-clause-names : goal.list_members-requires-clause-names
list_members-requires-clause-names c = c.entities.ensures ∙ c.requires.entities

pub list_members-requires-clause-closes : goal.list_members-requires-clause-closes
list_members-requires-clause-closes c =
    subst (λ (a : List (List ℕ)). IsTransitiveClosure (file_view c.args.file.now) a) (sym c.all_above.ensures) c.requires.above

pub list_members-requires-clause-founded : goal.list_members-requires-clause-founded
list_members-requires-clause-founded c = collected_founded (file_view c.args.file.now) c.args.names.now c.requires
