-- A stream after its pieces.
use Rattle.std.specs.Prelude.{◌≡◌, ℕ, List, [], ◌++◌, Option, Ok, Err, refl}
use Rattle.std.proofs.Common.{ap, sym, subst, ◌∙◌, arith}
use Rattle.pc_core.specs.CoreData.{CoreData}
use Rattle.pc_ann.specs.declared.annotation.Ann.{Ann}
use Rattle.pc_feed.specs.{Waiting.start, declared.reading.Reading.Reading, Lines.lines_in, Asked.Grew, Feeding.{FeedAnswer, Feeds, EndsSo}, Streams.{no_line, NothingWrong, JudgedSoFar, ReadSo}, Steps.{Went, PieceTaken, JudgedSo, nothing_judged, nothing_read}}
use Rattle.pc_deriv.specs.{declared.version.Version.Version, declared.line.LineFault.LineFault, Text.{IsText, IsFault}, Laws.{as_read, IsRead}, Lines.{Taken, nothing_taken, fed, ended_so, lines_of}}
use Rattle.pc_deriv.proofs.Whole.{read_whole}
use Rattle.pc_referee.specs.Asked.{Pairs}
use Rattle.pc_feed.specs.declared.fault.StreamFault.TheVariants as fault
use Rattle.pc_feed.proofs.Told.{grew_of, grew_part_of}

-- ---- the start

nothing_wrong : (core : CoreData) → NothingWrong core [] nothing_judged
nothing_wrong core = record {
  notes = [];
  lines = no_line refl refl refl;
  count = refl;
  numbers = [];
  waits = start;
  waiting = refl;
  written = λ k y l. absurd (omega (arith, l));
  passed = λ ann b k l. absurd (omega (arith, l));
}

pub nothing_fed : (core : CoreData) → ReadSo core [] nothing_read
nothing_fed core = record { enough = refl; taken = refl; judged = nothing_wrong core }

-- ---- a piece

went_grew : (core : CoreData) (bytes piece : List ℕ) (old new : Reading) (a b : Option Pairs) → ReadSo core bytes old → Went core bytes piece old new a b → Grew core (lines_in bytes) (lines_in (bytes ++ piece)) a b
went_grew core bytes piece old new a b read w = grew_of core (lines_in bytes) (lines_in (bytes ++ piece)) old.judging new.judging a b read.judged w.reads.judged w.grew

pub feeds_by : (core k : CoreData) (bytes piece : List ℕ) (old new : Reading) (a b : Option Pairs) (r : FeedAnswer) → k ≡ core → ReadSo core bytes old → PieceTaken core bytes piece old new a b r
    → Feeds core bytes piece (record { core = k; reading = new }) a b r
feeds_by core k bytes piece old new a b (Ok v) e read h = ((e, h.0.reads), h.1, went_grew core bytes piece old new a b read h.0)
feeds_by core k bytes piece old new a b (Err (fault.Text f)) e read h = ((e, h.0.reads), h.1, went_grew core bytes piece old new a b read h.0)
feeds_by core k bytes piece old new a b (Err (fault.Invalid f)) e read h = h
feeds_by core k bytes piece old new a b (Err fault.Memory) e read h =
    (h.spent, grew_part_of core (lines_in bytes) (lines_in (bytes ++ piece)) h.taken h.rest old.judging h.right a b read.judged h.cut h.found h.grew)

-- the same for the core of the stream
pub feeds_at : (core k : CoreData) (bytes piece : List ℕ) (old new : Reading) (a b : Option Pairs) (r : FeedAnswer) → k ≡ core → ReadSo core bytes old → (ReadSo k bytes old → PieceTaken k bytes piece old new a b r)
    → Feeds core bytes piece (record { core = k; reading = new }) a b r
feeds_at core k bytes piece old new a b r e read take =
    feeds_by core k bytes piece old new a b r e read (subst (λ q. PieceTaken q bytes piece old new a b r) e (take (subst (λ q. ReadSo q bytes old) (sym e) read)))

-- ---- the end

pub text_fault : (bytes : List ℕ) (t : Taken) (f : LineFault) → t ≡ (fed nothing_taken bytes).1 → Err f ≡ ended_so t → IsFault bytes (as_read f)
text_fault bytes t f e h = subst (IsRead bytes (lines_in bytes)) (sym (h ∙ ap ended_so e)) (read_whole bytes)

pub text_ends : (bytes : List ℕ) (t : Taken) (v : Unit {0}) → t ≡ (fed nothing_taken bytes).1 → Ok v ≡ ended_so t → (ann : Ann) × (is : IsText bytes ann) × (lines_in bytes ≡ lines_of is.version ann)
text_ends bytes t v e h = subst (IsRead bytes (lines_in bytes)) (sym (h ∙ ap ended_so e)) (read_whole bytes)

ends_by : (core : CoreData) (bytes : List ℕ) (ann : Ann) (r : FeedAnswer) → IsText bytes ann → JudgedSo core ann r → EndsSo core bytes r
ends_by core bytes ann (Ok v) t h = (ann, t, h)
ends_by core bytes ann (Err (fault.Text f)) t h = absurd h
ends_by core bytes ann (Err (fault.Invalid f)) t h = (ann, t, h)
ends_by core bytes ann (Err fault.Memory) t h = h

pub judged_ends : (core : CoreData) (bytes : List ℕ) (r : Reading) (v : Unit {0}) (answer : FeedAnswer) → ReadSo core bytes r → Ok v ≡ ended_so r.lines → ((w : Version) (ann : Ann) → JudgedSoFar core (lines_of w ann) r.judging → JudgedSo core ann answer) → EndsSo core bytes answer
judged_ends core bytes r v answer read h judge =
    let t = text_ends bytes r.lines v read.taken h in
    ends_by core bytes t.0 answer t.1 (judge t.1.version t.0 (subst (λ l. JudgedSoFar core l r.judging) t.2 read.judged))
