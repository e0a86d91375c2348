use Rattle.std.proofs.{Common.{◌≡◌, ◌<◌, Some, ap, sym, subst, length, ◌∙◌, [], arith}, lemmas.Option.{none-some, slice_get-get_or}}
use Rattle.std.specs.Prelude.{ℕ, List, None}
use Rattle.pc_base.specs.Lists.{Has}
use Rattle.pc_base.proofs.Bools.{no_both}
use Rattle.pc_sub.specs.Groups.{IsGroup, first_of}
use Rattle.pc_sub.proofs.{Grouping.{first_within, list_some}, Telling.{tells_next, tells_skip}}
use Rattle.pc_sub.proofs.tables.keep_group.Goals as goal

pub returns-in-None : goal.returns-in-None
returns-in-None c =
    let core = c.args.core.now in
    let g = c.args.groups.now in
    let none : first_of core g.firsts c.args.group ≡ None = ap (λ (fs : List ℕ). first_of core fs c.args.group) (sym c.as_slice.ensures) ∙ sym c.in-None.ensures in
    tells_skip core g c.args.group c.args.sets.now (λ b t es is has abstract. none-some t (sym none ∙ is.0)) c.requires.tells

pub returns-else-any_abstract : goal.returns-else-any_abstract
returns-else-any_abstract c =
    let g = c.args.groups.now in
    tells_skip c.args.core.now g c.args.group c.args.sets.now
    (λ b t es is has abstract.
    let same : c.list_at-entities.result.now ≡ es = c.list_at-entities.ensures ∙ sym (list_some g.entities c.args.group es is.1) in
    no_both c.any_abstract.result (c.any_abstract.ensures.1 (b, subst (λ xs. Has xs b) (sym same) has, abstract)) c.if-any_abstract.false)
    c.requires.tells

pub returns-in_ok-keep_all-in-Some : goal.returns-in_ok-keep_all-in-Some
returns-in_ok-keep_all-in-Some c =
    let core = c.args.core.now in
    let g = c.args.groups.now in
    let n = c.args.group in
    let t = c.in-Some.first.now in
    let first : first_of core g.firsts n ≡ Some t = ap (λ (fs : List ℕ). first_of core fs n) (sym c.as_slice.ensures) ∙ sym c.in-Some.ensures in
    let low = first_within core g.firsts n t first in
    let many = c.requires.grouped.as_many in
    let there : n < length g.entities = omega (arith, low, many) in
    let group : IsGroup core g n t c.list_at-entities.result.now = (first, slice_get-get_or g.entities n [] there ∙ ap Some (sym c.list_at-entities.ensures)) in
    tells_next core g n t c.list_at-entities.result.now c.in_ok-others-in-Some.others c.args.sets.now c.keep_all.new.sets group c.in_ok-others-in-Some.ensures c.in_ok-keep_all-in-Some.ensures c.requires.tells
