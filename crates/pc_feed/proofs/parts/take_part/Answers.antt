use Rattle.std.proofs.{Common.{ℕ, List, length, refl, ap, sym, subst, ◌∙◌}, lemmas.Result.err_from_is_err_and}
use Rattle.pc_feed.specs.Parts.{IsPartAt}
use Rattle.pc_feed.proofs.FileParts.{part_stopped, too_long, not_past, size_of}
use Rattle.pc_feed.proofs.parts.take_part.Goals as goal

pub returns-in_err-feed_part-clause-taken : goal.returns-in_err-feed_part-clause-taken
returns-in_err-feed_part-clause-taken g c = λ core bytes h.
    let p = err_from_is_err_and c.from_residual-in_err-feed_part.result c.from_residual-in_err-feed_part.ensures.1 in
    let name = c.args.name.now in
    rw (p.1, p.2)
    (part_stopped core (g.F.Files.bytes c.args.files.now name) c.args.from bytes c.as_slice-bytes.result.now (g.F.Files.faults c.args.files.now name) (g.F.Files.faults c.read_part.new.files name) (g.F.Files.taken c.read_part.new.files)
    c.feed_part.new.stream (g.R.Referee.asked c.args.referee.now) (g.R.Referee.asked c.feed_part.new.referee) c.in_err-feed_part.field-0.0 (c.in_err-feed_part.ensures core bytes h))

pub returns-then-is_past-clause-taken : goal.returns-then-is_past-clause-taken
returns-then-is_past-clause-taken g c = λ core bytes h.
    let past = c.is_past.ensures.0 c.if-is_past.true in
    let same = c.as_slice-bytes.ensures in
    let ok = c.in_ok-part.ensures.ok in
    too_long (g.F.Files.bytes c.args.files.now c.args.name.now) c.args.from (g.F.Files.taken c.read_part.new.files) c.as_slice-bytes.result.now past.0 past.1
    (subst (IsPartAt (g.F.Files.bytes c.args.files.now c.args.name.now) c.args.from) (sym same) ok.0) (ok.1 ∙ ap (λ (x : List ℕ). length x) (sym same))

pub returns-clause-taken : goal.returns-clause-taken
returns-clause-taken g c = λ core bytes h.
    let at = subst (IsPartAt (g.F.Files.bytes c.args.files.now c.args.name.now) c.args.from) (sym c.as_slice-bytes.ensures) c.in_ok-part.ensures.ok.0 in
    let none = not_past c.args.from c.as_slice-bytes.result.now c.is_past.result c.if-is_past.false (c.is_past.ensures.1) in
    (c.as_slice-bytes.result.now, at, size_of c.args.from (length c.as_slice-bytes.result.now) c.as_slice-bytes.result.now refl at.0 none c.requires.place, c.in_ok-feed_part.ensures core bytes h)
