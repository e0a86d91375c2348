-- A piece that is processed line by line.
use Rattle.std.specs.Prelude.{◌≡◌, ℕ, zero, suc, ◌+◌, ◌-◌, ◌≤◌, List, [], ◌∷◌, ◌++◌, length, take, drop, slice_range, Option, Some, None, Result, Ok, Err, refl}
use Rattle.std.proofs.{Common.{ap, sym, subst, ◌∙◌, arith, append-nil, append_assoc}, lemmas.List.take-append-drop, lemmas.Option.same_Some, Math.Seq.take-add}
use Rattle.pc_base.proofs.Options.{none_some}
use Rattle.pc_core.specs.CoreData.{CoreData}
use Rattle.pc_deriv.specs.{declared.line.Line.Line, declared.line.LineFault.LineFault, Lines.{Taken, nothing_taken, fed}, Pieces.IsNext}
use Rattle.pc_deriv.proofs.Feeding.{fed_both, fed_stays}
use Rattle.pc_referee.specs.Asked.{Pairs}
use Rattle.pc_feed.specs.{declared.fault.StreamFault.StreamFault, declared.reading.Reading.Reading, Lines.{lines_in, fault_in}, Feeding.FeedAnswer, Streams.{JudgedSoFar, JudgedBy, ReadSo}, Steps.{MayFollow, HasRoom, LineJudged, Went, RanOut, NextTaken, PieceTaken, GrewBy, first_nodes}}
use Rattle.pc_feed.specs.declared.fault.StreamFault.TheVariants as fault
use Rattle.pc_feed.proofs.{Growing.{grew_none, grew_on}, Counting.comes, Places.has_room}

-- ---- a part of a piece

module _ (core : CoreData) (bytes : List ℕ) (old : Reading) (read : ReadSo core bytes old) (part : List ℕ) (ls : List Line) (u : Taken) (taken : fed old.lines part ≡ (ls, u)) where
  all_fed : fed nothing_taken (bytes ++ part) ≡ (lines_in bytes ++ ls, u)
  all_fed =
      fed_both nothing_taken bytes part
      ∙ ap (λ (t : Taken). (lines_in bytes ++ (fed t part).0, (fed t part).1)) (sym read.taken)
      ∙ ap (λ (q : List Line × Taken). (lines_in bytes ++ q.0, q.1)) taken

  lines_are : lines_in (bytes ++ part) ≡ lines_in bytes ++ ls
  lines_are = ap (λ (q : List Line × Taken). q.0) all_fed

  known_is : (fed nothing_taken (bytes ++ part)).1 ≡ u
  known_is = ap (λ (q : List Line × Taken). q.1) all_fed

  pub fault_is : fault_in (bytes ++ part) ≡ u.fault
  fault_is = ap (λ (t : Taken). t.fault) known_is

-- No line ended in it.
module _ (core : CoreData) (bytes : List ℕ) (old : Reading) (read : ReadSo core bytes old) (part : List ℕ) (u : Taken) (taken : fed old.lines part ≡ ([], u)) where
  pub no_line_went : (a : Option Pairs) → Went core bytes part old (record { lines = u; judging = old.judging; spent = old.spent }) a a
  no_line_went a =
      let same : lines_in (bytes ++ part) ≡ lines_in bytes = lines_are core bytes old read part [] u taken ∙ append-nil (lines_in bytes) in
      record {
        reads = record {
          enough = read.enough;
          taken = sym (known_is core bytes old read part [] u taken);
          judged = subst (λ l. JudgedSoFar core l old.judging) (sym same) read.judged;
        };
        grew = grew_none (first_nodes (lines_in bytes) old.judging.right) (first_nodes (lines_in (bytes ++ part)) old.judging.right) a a (ap (λ l. first_nodes l old.judging.right) same) refl;
      }

-- A line ended in it.
module _ (core : CoreData) (bytes : List ℕ) (old : Reading) (read : ReadSo core bytes old) (part : List ℕ) (l : Line) (u : Taken) (taken : fed old.lines part ≡ (l ∷ [], u)) where
  pub line_comes : MayFollow (lines_in bytes) l
  line_comes = comes (bytes ++ part) (lines_in bytes) l (lines_are core bytes old read part (l ∷ []) u taken)

  pub line_room : old.judging.fault ≡ None → HasRoom core old.judging l
  line_room none = has_room core (lines_in bytes) l old.judging (subst (JudgedBy core (lines_in bytes) old.judging) none read.judged) line_comes

  abbrev mid : Reading
  mid = record { lines = u; judging = old.judging; spent = old.spent }

  pub line_went : (new : Reading) (a b : Option Pairs) (v : Unit {0}) → LineJudged core (lines_in bytes) l mid new a b (Ok v) → Went core bytes part old new a b
  line_went new a b v h =
      let same = lines_are core bytes old read part (l ∷ []) u taken in
      record {
        reads = record {
          enough = h.0;
          taken = h.1 ∙ sym (known_is core bytes old read part (l ∷ []) u taken);
          judged = subst (λ x. JudgedSoFar core x new.judging) (sym same) h.2;
        };
        grew = subst (λ x. GrewBy (first_nodes (lines_in bytes) old.judging.right) (first_nodes x new.judging.right) a b) (sym same) h.3;
      }

  pub line_ran_out : (new : Reading) (a b : Option Pairs) (more : List ℕ) → LineJudged core (lines_in bytes) l mid new a b (Err fault.Memory) → RanOut core bytes (part ++ more) old new a b
  line_ran_out new a b more h =
      let same = lines_are core bytes old read part (l ∷ []) u taken in
      record {
        spent = h.0;
        taken = lines_in bytes ++ l ∷ [];
        rest = (fed (fed nothing_taken (bytes ++ part)).1 more).0;
        cut = ap lines_in (sym (append_assoc bytes part more)) ∙ ap (λ (q : List Line × Taken). q.0) (fed_both nothing_taken (bytes ++ part) more)
            ∙ ap (λ x. x ++ (fed (fed nothing_taken (bytes ++ part)).1 more).0) same;
        right = new.judging.right;
        found = h.1;
        grew = h.2;
      }

-- ---- the next line

drop_none : (k : ℕ) → drop {A = ℕ} k [] ≡ []
drop_none zero = refl
drop_none (suc k) = refl

range_rest : (piece : List ℕ) (at stop : ℕ) → at ≤ stop → slice_range piece at stop ++ drop stop piece ≡ drop at piece
range_rest piece at stop l =
    let e : stop ≡ at + (stop - at) = omega (arith, l) in
    ap (λ r. slice_range piece at stop ++ r) (ap (λ n. drop n piece) e ∙ drop_twice at (stop - at) piece) ∙ take-append-drop (stop - at) (drop at piece)
  where
    drop_twice : (a k : ℕ) (xs : List ℕ) → drop (a + k) xs ≡ drop k (drop a xs)
    drop_twice zero k xs = let e : 0 + k ≡ k = omega arith in ap (λ n. drop n xs) e
    drop_twice (suc a) k [] = drop_none (suc a + k) ∙ sym (drop_none k)
    drop_twice (suc a) k (x ∷ xs) = let e : suc a + k ≡ suc (a + k) = omega arith in ap (λ n. drop n (x ∷ xs)) e ∙ drop_twice a k xs

module _ (core : CoreData) (bytes : List ℕ) (old : Reading) (read : ReadSo core bytes old) (piece : List ℕ) (at : ℕ) (u : Taken) where
  abbrev between : Reading
  between = record { lines = u; judging = old.judging; spent = old.spent }

  pub next_fault : (f : LineFault) (a : Option Pairs) → IsNext old.lines piece at (Err f) u → NextTaken core bytes piece at old between a a (Err (fault.Text f))
  next_fault f a h = (no_line_went core bytes old read (drop at piece) u h.0 a, fault_is core bytes old read (drop at piece) [] u h.0 ∙ h.1)

  pub next_none : (stop : ℕ) (o : Option Line) → o ≡ None → (a : Option Pairs) → IsNext old.lines piece at (Ok (stop, o)) u → NextTaken core bytes piece at old between a a (Ok None)
  next_none stop o e a k =
      let h : IsNext old.lines piece at (Ok (stop, None)) u = subst (λ x. IsNext old.lines piece at (Ok (stop, x)) u) e k in
      (no_line_went core bytes old read (drop at piece) u h.2 a, fault_is core bytes old read (drop at piece) [] u h.2 ∙ h.3)

  module _ (stop : ℕ) (o : Option Line) (l : Line) (e : o ≡ Some l) (k : IsNext old.lines piece at (Ok (stop, o)) u) where
    abbrev part : List ℕ
    part = slice_range piece at stop

    is_line : IsNext old.lines piece at (Ok (stop, Some l)) u
    is_line = subst (λ x. IsNext old.lines piece at (Ok (stop, x)) u) e k

    pub next_room : old.judging.fault ≡ None → HasRoom core old.judging l
    next_room = line_room core bytes old read part l u is_line.3

    pub next_comes : MayFollow (lines_in bytes) l
    next_comes = line_comes core bytes old read part l u is_line.3

    pub next_line : (new : Reading) (a b : Option Pairs) (v : Unit {0}) → LineJudged core (lines_in bytes) l between new a b (Ok v) → NextTaken core bytes piece at old new a b (Ok (Some stop))
    next_line new a b v h = (is_line.0, is_line.1, line_went core bytes old read part l u is_line.3 new a b v h)

    pub next_ran_out : (new : Reading) (a b : Option Pairs) (f : StreamFault) → LineJudged core (lines_in bytes) l between new a b (Err f) → NextTaken core bytes piece at old new a b (Err f)
    next_ran_out new a b (fault.Text f) h = absurd h
    next_ran_out new a b (fault.Invalid f) h = absurd h
    next_ran_out new a b fault.Memory h =
        let before = is_line.0 in
        subst (λ x. RanOut core bytes x old new a b) (range_rest piece at stop (omega (arith, before)))
        (line_ran_out core bytes old read part l u is_line.3 new a b (drop stop piece) h)

-- ---- after a fault

-- After a fault no line ends, and the fault is returned.
pub no_line_behind : (old u : Taken) (piece : List ℕ) (at stop : ℕ) (o : Option Line) (f : LineFault) → old.fault ≡ Some f → IsNext old piece at (Ok (stop, o)) u → ⊥
no_line_behind old u piece at stop None f e h =
    let same : u ≡ old = ap (λ (q : List Line × Taken). q.1) (sym h.2 ∙ fed_stays old f (drop at piece) e) in
    none_some (sym h.3 ∙ ap (λ (t : Taken). t.fault) same ∙ e)
no_line_behind old u piece at stop (Some l) f e h =
    let lines : l ∷ [] ≡ [] = ap (λ (q : List Line × Taken). q.0) (sym h.3 ∙ fed_stays old f (slice_range piece at stop) e) in
    cc

pub same_fault_behind : (old u : Taken) (piece : List ℕ) (at : ℕ) (f g : LineFault) → old.fault ≡ Some f → IsNext old piece at (Err g) u → g ≡ f
same_fault_behind old u piece at f g e h =
    let same : u ≡ old = ap (λ (q : List Line × Taken). q.1) (sym h.0 ∙ fed_stays old f (drop at piece) e) in
    same_Some g f (sym h.1 ∙ ap (λ (t : Taken). t.fault) same ∙ e)

-- what was answered
abbrev Next : Type 0
Next = Result (Option ℕ) StreamFault

pub not_both : (o : Option ℕ) (f : LineFault) → ◌≡◌ {A = Next} (Ok o) (Err (fault.Text f)) → ⊥
not_both o f e = cc

pub same_err : (g : StreamFault) (f : LineFault) → ◌≡◌ {A = Next} (Err g) (Err (fault.Text f))
    → ◌≡◌ {A = FeedAnswer} (Err g) (Err (fault.Text f))
same_err g f e = let same : g ≡ fault.Text f = cc in ap Err same

-- ---- a whole piece

went_on : (core : CoreData) (bytes a b : List ℕ) (old mid new : Reading) (x y z : Option Pairs) → Went core bytes a old mid x y → Went core (bytes ++ a) b mid new y z → Went core bytes (a ++ b) old new x z
went_on core bytes a b old mid new x y z h k =
    let on = append_assoc bytes a b in
    record {
      reads = subst (λ q. ReadSo core q new) on k.reads;
      grew = grew_on (first_nodes (lines_in bytes) old.judging.right) (first_nodes (lines_in (bytes ++ a)) mid.judging.right) (first_nodes (lines_in (bytes ++ (a ++ b))) new.judging.right) x y z h.grew
          (subst (λ q. GrewBy (first_nodes (lines_in (bytes ++ a)) mid.judging.right) (first_nodes (lines_in q) new.judging.right) y z) on k.grew);
    }

ran_out_on : (core : CoreData) (bytes a b : List ℕ) (old mid new : Reading) (x y z : Option Pairs) → Went core bytes a old mid x y → RanOut core (bytes ++ a) b mid new y z → RanOut core bytes (a ++ b) old new x z
ran_out_on core bytes a b old mid new x y z h k =
    record {
      spent = k.spent;
      taken = k.taken;
      rest = k.rest;
      cut = ap lines_in (sym (append_assoc bytes a b)) ∙ k.cut;
      right = k.right;
      found = k.found;
      grew = grew_on (first_nodes (lines_in bytes) old.judging.right) (first_nodes (lines_in (bytes ++ a)) mid.judging.right) (first_nodes k.taken k.right) x y z h.grew k.grew;
    }

-- The first part of a piece was processed.
pub record Underway (core : CoreData) (bytes piece : List ℕ) (at : ℕ) (old now : Reading) (a b : Option Pairs) : Type 0 where
  pub within : at ≤ length piece
  pub went : Went core bytes (take at piece) old now a b

take_range : (piece : List ℕ) (at stop : ℕ) → at ≤ stop → take at piece ++ slice_range piece at stop ≡ take stop piece
take_range piece at stop l =
    let e : at + (stop - at) ≡ stop = omega (arith, l) in
    sym (take-add at (stop - at) piece) ∙ ap (λ n. take n piece) e

module _ (core : CoreData) (bytes piece : List ℕ) (at : ℕ) (old now new : Reading) (a b d : Option Pairs) (so : Underway core bytes piece at old now a b) where
  pub underway_next : (stop : ℕ) → NextTaken core (bytes ++ take at piece) piece at now new b d (Ok (Some stop)) → Underway core bytes piece stop old new a d
  underway_next stop h =
      let before = h.0 in
      record {
        within = h.1;
        went = subst (λ x. Went core bytes x old new a d) (take_range piece at stop (omega (arith, before))) (went_on core bytes (take at piece) (slice_range piece at stop) old now new a b d so.went h.2);
      }

  whole : take at piece ++ drop at piece ≡ piece
  whole = take-append-drop at piece

  whole_behind : (bytes ++ take at piece) ++ drop at piece ≡ bytes ++ piece
  whole_behind = append_assoc bytes (take at piece) (drop at piece) ∙ ap (λ x. bytes ++ x) whole

  all_went : Went core (bytes ++ take at piece) (drop at piece) now new b d → Went core bytes piece old new a d
  all_went h = subst (λ x. Went core bytes x old new a d) whole (went_on core bytes (take at piece) (drop at piece) old now new a b d so.went h)

  pub piece_taken : (v : Unit {0}) → NextTaken core (bytes ++ take at piece) piece at now new b d (Ok None) → PieceTaken core bytes piece old new a d (Ok v)
  piece_taken v h = (all_went h.0, ap fault_in (sym whole_behind) ∙ h.1)

  pub piece_stopped : (f : StreamFault) → NextTaken core (bytes ++ take at piece) piece at now new b d (Err f) → PieceTaken core bytes piece old new a d (Err f)
  piece_stopped (fault.Text f) h = (all_went h.0, ap fault_in (sym whole_behind) ∙ h.1)
  piece_stopped (fault.Invalid f) h = absurd h
  piece_stopped fault.Memory h = subst (λ x. RanOut core bytes x old new a d) whole (ran_out_on core bytes (take at piece) (drop at piece) old now new a b d so.went h)

  -- the same for the result
  pub underway_by : (o : Option ℕ) (stop : ℕ) → o ≡ Some stop → NextTaken core (bytes ++ take at piece) piece at now new b d (Ok o) → Underway core bytes piece stop old new a d
  underway_by o stop e h = underway_next stop (subst (λ x. NextTaken core (bytes ++ take at piece) piece at now new b d (Ok x)) e h)

  pub taken_by : (o : Option ℕ) → o ≡ None → NextTaken core (bytes ++ take at piece) piece at now new b d (Ok o) → PieceTaken core bytes piece old new a d (Ok tt)
  taken_by o e h = piece_taken tt (subst (λ x. NextTaken core (bytes ++ take at piece) piece at now new b d (Ok x)) e h)
