use Rattle.std.proofs.Common.{Ok, refl, ◌∙◌, arith}
use Rattle.pc_feed.proofs.FileParts.{no_parts, next_part, last_part, part_of_same}
use Rattle.pc_feed.proofs.parts.take_parts.Goals as goal

pub parts-init : goal.parts-init
parts-init g c = record {
  fulls = no_parts c.args.stream.now.core (g.F.Files.bytes c.args.files.now c.args.name.now) c.args.stream.now (g.R.Referee.asked c.args.referee.now) c.requires;
  later = λ n. omega arith;
  same = λ n. refl;
}

pub returns-then-not-is_full-clause-ends : goal.returns-then-not-is_full-clause-ends
returns-then-not-is_full-clause-ends g c =
    let name = c.args.name.now in
    let known = g.F.Files.bytes c.args.files.now name in
    let so = c.parts.invariant.fulls in
    let before = g.F.Files.faults c.parts.files name in
    let now = g.F.Files.faults c.take_part.new.files name in
    let taken = g.F.Files.taken c.take_part.new.files in
    let old = g.R.Referee.asked c.parts.referee in
    let new = g.R.Referee.asked c.take_part.new.referee in
    last_part c.args.stream.now.core known c.parts.from c.parts.stream (g.R.Referee.asked c.args.referee.now) old so before now taken c.take_part.new.stream new c.in_ok-is_full.is_full c.if-not-is_full.true
    (part_of_same c.args.stream.now.core known (g.F.Files.bytes c.parts.files name) c.parts.from so.read.bytes before now taken c.take_part.new.stream old new (Ok c.in_ok-is_full.is_full) (c.parts.invariant.same name)
    (c.in_ok-is_full.ensures.taken c.args.stream.now.core so.read.bytes so.read.fed))

pub parts-preserved : goal.parts-preserved
parts-preserved g c =
    let name = c.args.name.now in
    let known = g.F.Files.bytes c.args.files.now name in
    let so = c.parts.invariant.fulls in
    let before = g.F.Files.faults c.parts.files name in
    let now = g.F.Files.faults c.take_part.new.files name in
    let taken = g.F.Files.taken c.take_part.new.files in
    let old = g.R.Referee.asked c.parts.referee in
    let new = g.R.Referee.asked c.take_part.new.referee in
    record {
      fulls =
          next_part c.args.stream.now.core known c.parts.from c.parts.stream (g.R.Referee.asked c.args.referee.now) old so before now taken c.take_part.new.stream new c.in_ok-is_full.is_full c.if-not-is_full.false
          (part_of_same c.args.stream.now.core known (g.F.Files.bytes c.parts.files name) c.parts.from so.read.bytes before now taken c.take_part.new.stream old new (Ok c.in_ok-is_full.is_full) (c.parts.invariant.same name)
          (c.in_ok-is_full.ensures.taken c.args.stream.now.core so.read.bytes so.read.fed));
      later = λ n. let a = c.parts.invariant.later n in let b = c.in_ok-is_full.ensures.later n in omega (arith, a, b);
      same = λ n. c.in_ok-is_full.ensures.same n ∙ c.parts.invariant.same n;
    }
