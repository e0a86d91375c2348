use Rattle.std.proofs.{Common.{◌≡◌, ◌∙◌, sym, ap}, lemmas.List.map-set, lemmas.Option.same_Some}
use Rattle.pc_base.proofs.{Gets.get_map, Bools.true_false}
use Rattle.pc_tree.specs.{Kinds.is_abstract, View.{entity_view, file_view}}
use Rattle.pc_tree.specs.Tree as t
use Rattle.pc_members.specs.Rounds as spec
use Rattle.pc_members.specs.Numbered.{numbered_table, numbered_view}
use Rattle.pc_members.proofs.{Rounding.{reach_kept, reach_new}, traits.reach_place.Goals.{else-is_abstract-via-then-is_abstract+else-rank_of-rank, else-is_abstract-via-else-is_abstract}}
use Rattle.pc_members.proofs.traits.reach_place.Goals as goal

pub returns-in_ok-members : goal.returns-in_ok-members
returns-in_ok-members c =
    reach_new (file_view c.args.file.now) c.args.entities.now c.args.above.now c.args.rank c.args.place (entity_view c.in-Some.entity.now) (numbered_view c.in_ok-members.members) (numbered_table c.args.table.now) (numbered_table c.replace.new.self) c.requires.names c.requires.closes c.requires.founded
    (get_map entity_view c.args.file.now.entities c.args.place c.in-Some.entity.now (sym c.in-Some.ensures.found))
    (sym c.is_abstract.ensures ∙ c.if-is_abstract.true)
    (sym c.rank_of.ensures ∙ c.if-rank_of-rank.true)
    c.requires.knows
    (c.in_ok-members.ensures ∙ ap (λ t. spec.gathered c.args.entities.now (numbered_table t) (entity_view c.in-Some.entity.now)) c.as_slice.ensures)
    (ap numbered_table c.replace.ensures.new ∙ map-set numbered_view c.args.table.now c.args.place c.in_ok-members.members)

pub returns-else-is_abstract : goal.returns-else-is_abstract
returns-else-is_abstract c =
    reach_kept (file_view c.args.file.now) c.args.above.now c.args.rank c.args.place (numbered_table c.args.table.now)
    (λ e h is g.
    let same : e ≡ entity_view c.in-Some.entity.now = same_Some e (entity_view c.in-Some.entity.now) (sym h ∙ get_map entity_view c.args.file.now.entities c.args.place c.in-Some.entity.now (sym c.in-Some.ensures.found)) in
    elim c.else-is_abstract.branch [
      | else-is_abstract-via-then-is_abstract+else-rank_of-rank w ↦ w.if-rank_of-rank.false (w.rank_of.ensures ∙ g)
      | else-is_abstract-via-else-is_abstract w ↦ true_false (sym is ∙ ap (λ (x : t.Entity). is_abstract x.kind) same ∙ sym c.is_abstract.ensures ∙ w.if-is_abstract.false)
    ])
    c.requires.knows
