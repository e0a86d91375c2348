use Rattle.std.proofs.{Common.{◌+◌, sym, ◌∙◌, refl, arith}, lemmas.Result.err_from_is_err_and}
use Rattle.pc_deriv.proofs.{Reached.{head_bad, too_many, slots_refused, notes_refused, bad_rest, some_left, none_left, whole_text}, reading.read_lines.Goals.{then-slot_count-gt-PROGRAM_SLOT_LIMIT-via-then-slot_count-gt-PROGRAM_SLOT_LIMIT, then-slot_count-gt-PROGRAM_SLOT_LIMIT-via-else-slot_count-gt-PROGRAM_SLOT_LIMIT+then-node_count-gt-NODE_LIMIT}}
use Rattle.pc_deriv.proofs.reading.read_lines.Goals as goal

pub returns-in-None-clause-err : goal.returns-in-None-clause-err
returns-in-None-clause-err c = head_bad c.args.bytes.now (sym c.in-None.ensures)

pub returns-then-slot_count-gt-PROGRAM_SLOT_LIMIT-clause-err : goal.returns-then-slot_count-gt-PROGRAM_SLOT_LIMIT-clause-err
returns-then-slot_count-gt-PROGRAM_SLOT_LIMIT-clause-err c =
    let head = c.in-Some.head in
    too_many c.args.bytes.now head.0.0 head.0.1.0 head.0.1.1 head.1.now (sym c.in-Some.ensures) (λ within. elim c.then-slot_count-gt-PROGRAM_SLOT_LIMIT.branch [
      | then-slot_count-gt-PROGRAM_SLOT_LIMIT-via-then-slot_count-gt-PROGRAM_SLOT_LIMIT w ↦ omega (arith, within.0, w.if-slot_count-gt-PROGRAM_SLOT_LIMIT.true)
      | then-slot_count-gt-PROGRAM_SLOT_LIMIT-via-else-slot_count-gt-PROGRAM_SLOT_LIMIT+then-node_count-gt-NODE_LIMIT w ↦ omega (arith, within.1, w.if-node_count-gt-NODE_LIMIT.true)
    ])

pub returns-in_err-slots-clause-err : goal.returns-in_err-slots-clause-err
returns-in_err-slots-clause-err c =
    let p = err_from_is_err_and c.from_residual.result c.from_residual.ensures.1 in
    let head = c.in-Some.head in
    rw (p.1, p.2) (slots_refused c.args.bytes.now head.0.0 head.0.1.0 head.0.1.1 head.1.now (sym c.in-Some.ensures) c.in_err-slots.field-0.0
    (omega (arith, c.if-slot_count-gt-PROGRAM_SLOT_LIMIT.false), omega (arith, c.if-node_count-gt-NODE_LIMIT.false)) c.in_err-slots.ensures.err)

pub returns-in_err-notes-clause-err : goal.returns-in_err-notes-clause-err
returns-in_err-notes-clause-err c =
    let p = err_from_is_err_and c.from_residual-in_err-notes.result c.from_residual-in_err-notes.ensures.1 in
    let head = c.in-Some.head in
    let read = c.in_ok-slots.ensures.ok in
    rw (p.1, p.2) (notes_refused c.args.bytes.now head.0.0 head.0.1.0 head.0.1.1 head.1.now (sym c.in-Some.ensures) c.in_ok-slots.slots c.in_ok-slots.text.now
    (omega (arith, c.if-slot_count-gt-PROGRAM_SLOT_LIMIT.false), omega (arith, c.if-node_count-gt-NODE_LIMIT.false)) read.0 read.1 c.in_err-notes.field-0.0 c.in_err-notes.ensures.err)

pub returns-then-not-is_empty-clause-err : goal.returns-then-not-is_empty-clause-err
returns-then-not-is_empty-clause-err c =
    let head = c.in-Some.head in
    let slots = c.in_ok-slots.ensures.ok in
    let notes = c.in_ok-notes.ensures.ok in
    let some = some_left c.in_ok-notes.text.now (sym c.is_empty.ensures ∙ c.if-not-is_empty.true) in
    bad_rest c.args.bytes.now head.0.0 head.0.1.0 head.0.1.1 head.1.now (sym c.in-Some.ensures) c.in_ok-slots.slots c.in_ok-slots.text.now
    (omega (arith, c.if-slot_count-gt-PROGRAM_SLOT_LIMIT.false), omega (arith, c.if-node_count-gt-NODE_LIMIT.false)) slots.0 slots.1 c.in_ok-notes.notes c.in_ok-notes.text.now notes.0 notes.1
    (head.0.1.0 + head.0.1.1 + 2) some refl

pub returns-clause-ok : goal.returns-clause-ok
returns-clause-ok c =
    let head = c.in-Some.head in
    let slots = c.in_ok-slots.ensures.ok in
    let notes = c.in_ok-notes.ensures.ok in
    let none = none_left c.in_ok-notes.text.now (sym c.is_empty.ensures ∙ c.if-not-is_empty.false) in
    whole_text c.args.bytes.now head.0.0 head.0.1.0 head.0.1.1 head.1.now (sym c.in-Some.ensures) c.in_ok-slots.slots c.in_ok-slots.text.now
    (omega (arith, c.if-slot_count-gt-PROGRAM_SLOT_LIMIT.false), omega (arith, c.if-node_count-gt-NODE_LIMIT.false)) slots.0 slots.1 c.in_ok-notes.notes c.in_ok-notes.text.now notes.0 notes.1 none
