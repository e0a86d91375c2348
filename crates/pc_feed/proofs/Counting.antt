-- Which lines end in some bytes: counts, slots and nodes, in the numbers that the counts state.
use Rattle.std.specs.Prelude.{◌≡◌, ℕ, suc, ◌+◌, ◌<◌, ◌≤◌, Bool, true, false, cond, ◌&&◌, ◌==◌, nat_le, List, [], ◌∷◌, ◌++◌, length, map, Option, Some, None, option_map, Result, Ok, Err, refl}
use Rattle.std.proofs.{Common.{subst, arith}, lemmas.Option.same_Some, lemmas.Bool.Decides.nat_tests}
use Rattle.pc_ann.specs.declared.annotation.Note.{Note}
use Rattle.pc_valid.specs.Words.{Slots}
use Rattle.pc_base.proofs.Options.{none_some}
use Rattle.pc_deriv.specs.{declared.version.Version.Version, declared.line.Line.Line, declared.line.LineFault.LineFault, Parts.{derivation_slot_limit, derivation_node_limit}, Reading.{head_at, read_slot, note_at}, Lines.{Taken, nothing_taken, longest_line, slot_line_in, node_in, line_in, within_limits, checked, line_meaning, counts_with, behind, answered, with_line_byte, took_at, took, with_first_line, fed, line_of_slot}}
use Rattle.pc_deriv.specs.declared.line.Line.TheVariants as line
use Rattle.pc_deriv.specs.declared.line.LineFault.TheVariants as fault
use Rattle.pc_feed.specs.{Lines.lines_in, Steps.{LineFits, Counted, MayFollow}}

-- ---- one line

mapped : {A B : Type 0} → (f : A → B) (o : Option A) (y : B) → option_map f o ≡ Some y → (x : A) × (f x ≡ y)
mapped f None y e = absurd (none_some e)
mapped f (Some x) y e = (x, same_Some (f x) y e)

module _ (v : Version) (c : ℕ × ℕ) (n : ℕ) (bytes : List ℕ) (l : Line) where
  slot_fits : n ≤ c.0 → slot_line_in bytes ≡ Some l → LineFits (Some c) n l
  slot_fits h e = let m = mapped _ (read_slot bytes) l e in subst (LineFits (Some c) n) m.1 h

  node_fits : c.0 < n → n ≤ c.0 + c.1 → node_in v bytes ≡ Some l → LineFits (Some c) n l
  node_fits h k e = let m = mapped _ (note_at v bytes) l e in subst (LineFits (Some c) n) m.1 (h, k)

  second_by : (b : Bool) → nat_le n (c.0 + c.1) ≡ b → c.0 < n → cond b (node_in v bytes) None ≡ Some l → LineFits (Some c) n l
  second_by true p h e = let k : n ≤ c.0 + c.1 = grind (arith, nat_tests) in node_fits h k e
  second_by false p h e = absurd (none_some e)

  first_by : (b : Bool) → nat_le n c.0 ≡ b → cond b (slot_line_in bytes) (cond (nat_le n (c.0 + c.1)) (node_in v bytes) None) ≡ Some l → LineFits (Some c) n l
  first_by true p e = let h : n ≤ c.0 = grind (arith, nat_tests) in slot_fits h e
  first_by false p e = let h : c.0 < n = grind (arith, nat_tests) in second_by (nat_le n (c.0 + c.1)) refl h e

line_fits : (v : Version) (c : Option (ℕ × ℕ)) (n : ℕ) (bytes : List ℕ) (l : Line) → line_in v c n bytes ≡ Some l → LineFits c n l
line_fits v None n bytes l e = let m = mapped _ (head_at bytes) l e in subst (LineFits None n) m.1 tt
line_fits v (Some c) n bytes l e = first_by v c n bytes l (nat_le n c.0) refl e

same_line : (v a b : ℕ) (t : Bool) (l : Line) → cond t (Ok (line.Head v a b)) (Err fault.TooMany) ≡ Ok l → line.Head v a b ≡ l
same_line v a b true l e = cc
same_line v a b false l e = cc

limits_keep : (k l : Line) → within_limits k ≡ Ok l → k ≡ l
limits_keep (line.Head v a b) l e = same_line v a b (nat_le a derivation_slot_limit && nat_le b derivation_node_limit) l e
limits_keep (line.Slot e k) l q = cc
limits_keep (line.Node t) l q = cc

checked_fits : (c : Option (ℕ × ℕ)) (n : ℕ) (o : Option Line) (l : Line) → ((k : Line) → o ≡ Some k → LineFits c n k) → checked (n + 1) o ≡ Ok l → LineFits c n l
checked_fits c n None l h e = cc
checked_fits c n (Some k) l h e = subst (LineFits c n) (limits_keep k l e) (h k refl)

-- ---- one byte

abbrev Answer : Type 0
Answer = Result (Option Line) LineFault

-- The result fits, and the counts and the number are those after it.
abbrev Goes : Taken → Answer → Taken → Type 0
Goes t (Ok (Some l)) u = LineFits t.counts t.ended l × (u.counts ≡ counts_with t.counts l) × (u.ended ≡ t.ended + 1)
Goes t (Ok None) u = (u.counts ≡ t.counts) × (u.ended ≡ t.ended)
Goes t (Err f) u = (u.counts ≡ t.counts) × (u.ended ≡ t.ended)

closed_goes : (t : Taken) (r : Result Line LineFault) → ((l : Line) → r ≡ Ok l → LineFits t.counts t.ended l) → Goes t (answered r) (behind t r)
closed_goes t (Ok l) h = (h l refl, refl, refl)
closed_goes t (Err f) h = (refl, refl)

kept_goes : (t : Taken) (b : ℕ) (long : Bool) → Goes t (with_line_byte t b long).0 (with_line_byte t b long).1
kept_goes t b true = (refl, refl)
kept_goes t b false = (refl, refl)

module _ (t : Taken) (b : ℕ) where
  abbrev line_said : Result Line LineFault
  line_said = line_meaning t.version t.counts t.ended (t.pending ++ b ∷ [])

  said_fits : (l : Line) → line_said ≡ Ok l → LineFits t.counts t.ended l
  said_fits l e =
      checked_fits t.counts t.ended (line_in t.version t.counts t.ended (t.pending ++ b ∷ [])) l (λ k h. line_fits t.version t.counts t.ended (t.pending ++ b ∷ []) k h) e

  abbrev step_of : Bool → Answer × Taken
  step_of ends = cond ends (answered line_said, behind t line_said) (with_line_byte t b (length t.pending + 1 == longest_line))

  went_goes : (ends : Bool) → Goes t (step_of ends).0 (step_of ends).1
  went_goes true = closed_goes t line_said said_fits
  went_goes false = kept_goes t b (length t.pending + 1 == longest_line)

  took_goes_at : (o : Option LineFault) → Goes t (took_at o t b).0 (took_at o t b).1
  took_goes_at None = went_goes (b == 10)
  took_goes_at (Some f) = (refl, refl)

  took_goes : Goes t (took t b).0 (took t b).1
  took_goes = took_goes_at t.fault

-- ---- all bytes

counted_from : (c d e : Option (ℕ × ℕ)) (n m k : ℕ) (ls : List Line) → c ≡ d → n ≡ m → Counted c n ls e k → Counted d m ls e k
counted_from c d e n m k ls p q h = subst (λ x. Counted x m ls e k) p (subst (λ x. Counted c x ls e k) q h)

more_counted : (t : Taken) (a : Answer) (u : Taken) (ls : List Line) (d : Option (ℕ × ℕ)) (m : ℕ) → Goes t a u → Counted u.counts u.ended ls d m → Counted t.counts t.ended (with_first_line a ls) d m
more_counted t (Ok (Some l)) u ls d m h k = (h.0, counted_from u.counts (counts_with t.counts l) d u.ended (t.ended + 1) m ls h.1 h.2 k)
more_counted t (Ok None) u ls d m h k = counted_from u.counts t.counts d u.ended t.ended m ls h.0 h.1 k
more_counted t (Err f) u ls d m h k = counted_from u.counts t.counts d u.ended t.ended m ls h.0 h.1 k

fed_counted : (t : Taken) (bytes : List ℕ) → Counted t.counts t.ended (fed t bytes).0 (fed t bytes).1.counts (fed t bytes).1.ended
fed_counted t [] = (refl, refl)
fed_counted t (b ∷ bs) =
    let u = (took t b).1 in
    more_counted t (took t b).0 u (fed u bs).0 (fed u bs).1.counts (fed u bs).1.ended (took_goes t b) (fed_counted u bs)

-- ---- the last line

-- The last of some lines may follow those before it.
last_comes : (c d : Option (ℕ × ℕ)) (n m : ℕ) (ls : List Line) (l : Line) → Counted c n (ls ++ l ∷ []) d m
    → (e : Option (ℕ × ℕ)) × (k : ℕ) × Counted c n ls e k × LineFits e k l
last_comes c d n m [] l h = (c, n, (refl, refl), h.0)
last_comes c d n m (x ∷ ls) l h =
    let more = last_comes (counts_with c x) d (n + 1) m ls l h.1 in
    (more.0, more.1, (h.0, more.2), more.3)

pub comes : (bytes : List ℕ) (ls : List Line) (l : Line) → lines_in bytes ≡ ls ++ l ∷ [] → MayFollow ls l
comes bytes ls l e =
    let all = fed_counted nothing_taken bytes in
    let u = (fed nothing_taken bytes).1 in
    let h = last_comes None u.counts 0 u.ended ls l (subst (λ x. Counted None 0 x u.counts u.ended) e all) in
    record { counts = h.0; ended = h.1; counted = h.2; fits = h.3 }

-- ---- counts, slots and nodes

pub counted_nodes : (c d : Option (ℕ × ℕ)) (n m : ℕ) (notes : List Note) → Counted c n (map line.Node notes) d m → (c ≡ d) × (n + length notes ≡ m)
counted_nodes c d n m [] h = let e = h.1 in (h.0, omega (arith, e))
counted_nodes c d n m (t ∷ notes) h =
    let k = counted_nodes c d (n + 1) m notes h.1 in
    let e = k.1 in
    let size : length (t ∷ notes) ≡ suc (length notes) = refl in
    (k.0, omega (arith, e, size))

pub counted_slots : (c d : Option (ℕ × ℕ)) (n m : ℕ) (slots : Slots) (notes : List Note) → Counted c n (map line_of_slot slots ++ map line.Node notes) d m → (c ≡ d) × (n + length slots + length notes ≡ m)
counted_slots c d n m [] notes h =
    let k = counted_nodes c d n m notes h in
    let e = k.1 in
    let none : Slots = [] in
    let size : length none ≡ 0 = refl in
    (k.0, omega (arith, e, size))
counted_slots c d n m ((e, k) ∷ slots) notes h =
    let more = counted_slots c d (n + 1) m slots notes h.1 in
    let same = more.1 in
    let size : length ((e, k) ∷ slots) ≡ suc (length slots) = refl in
    (more.0, omega (arith, same, size))

-- after the first line, the counts are its own, and the number is one more than that of slots and nodes
pub counted_behind : (v a b : ℕ) (d : Option (ℕ × ℕ)) (m : ℕ) (slots : Slots) (notes : List Note)
    → Counted None 0 (line.Head v a b ∷ (map line_of_slot slots ++ map line.Node notes)) d m
    → (Some (a, b) ≡ d) × (1 + length slots + length notes ≡ m)
counted_behind v a b d m slots notes h =
    let k = counted_slots (Some (a, b)) d (0 + 1) m slots notes h.1 in
    let e = k.1 in
    (k.0, omega (arith, e))
