use Rattle.std.proofs.{Common.{◌≡◌, ℕ, List, Option, length, map, sym, subst, ap, ◌∙◌}, lemmas.List.length-map, lemmas.Result.IfOk-weaker}
use Rattle.pc_ann.specs.declared.annotation.Note.{Note}
use Rattle.pc_sends.specs.Held.{Held}
use Rattle.pc_noted_receivers.specs.Parts.{noted_in}
use Rattle.pc_noted_receivers.proofs.noted.entities.Goals as goal

pub returns-clause-held : goal.returns-clause-held
returns-clause-held c =
    let core = c.args.core.now in
    let notes = c.as_slice.result.now in
    let held = c.accepted_held.ensures core c.args.ann.now c.formed.ensures c.requires.valid in
    IfOk-weaker c.all_noted.result (λ (list : List (Option ℕ)). list ≡ map noted_in notes) (Held core)
    (λ list is. subst (Held core) (sym (is ∙ ap (λ (ns : List Note). map noted_in ns) c.as_slice.ensures)) held) c.all_noted.ensures

pub returns-clause-whole : goal.returns-clause-whole
returns-clause-whole c =
    let notes = c.as_slice.result.now in
    IfOk-weaker c.all_noted.result (λ (list : List (Option ℕ)). list ≡ map noted_in notes) (λ (list : List (Option ℕ)). length list ≡ length c.args.core.now.nodes)
    (λ list is. ap length is ∙ length-map notes noted_in ∙ ap length c.as_slice.ensures ∙ c.requires.valid.notes) c.all_noted.ensures
