use Rattle.std.proofs.Common.{◌≡◌, slice_get, Some, true, false, sym, subst, ◌<◌, ◌≤◌, ◌∙◌}
use Rattle.pc_rules.specs.Parts.{starts}
use Rattle.pc_rules.proofs.{Further.{through_stops, through_goes, all_through}, Deciding.none_there}
use Rattle.pc_rules.proofs.parts.through_notes.Goals as goal

pub returns-then-not-starts : goal.returns-then-not-starts
returns-then-not-starts c =
    let e : slice_get c.args.children.now c.loop-index.index ≡ Some c.in_ok-note.note = sym c.note.ensures ∙ c.in_ok-note.was in
    let f : starts c.in_ok-note.note c.loop-index.reached ≡ false = sym c.starts.ensures ∙ c.if-not-starts.true in
    sym (through_stops c.args.children.now c.loop-index.index c.in_ok-note.note c.loop-index.reached e f) ∙ c.loop-index.invariant

pub loop-index-preserved : goal.loop-index-preserved
loop-index-preserved c =
    let e : slice_get c.args.children.now c.loop-index.index ≡ Some c.in_ok-note.note = sym c.note.ensures ∙ c.in_ok-note.was in
    let f : starts c.in_ok-note.note c.loop-index.reached ≡ true = sym c.starts.ensures ∙ c.if-not-starts.false in
    sym (through_goes c.args.children.now c.loop-index.index c.in_ok-note.note c.loop-index.reached e f) ∙ c.loop-index.invariant

pub returns-in_err-note : goal.returns-in_err-note
returns-in_err-note c = absurd (none_there c.args.children.now c.loop-index.index (subst (λ k. c.loop-index.index < k) c.count-index-end.ensures c.loop-index-test.true) (sym c.note.ensures ∙ c.in_err-note.was))

pub returns : goal.returns
returns c = all_through c.args.children.now c.loop-index.index c.loop-index.reached (subst (λ k. k ≤ c.loop-index.index) c.count-index-end.ensures c.loop-index-test.false) ∙ c.loop-index.invariant
