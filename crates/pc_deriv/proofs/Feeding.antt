-- Bytes that are taken one by one, whatever the pieces are.
use Rattle.std.proofs.{Common.{◌≡◌, ◌≢◌, ℕ, zero, suc, ◌+◌, ◌-◌, ◌<◌, ◌≤◌, Bool, true, false, cond, ◌==◌, List, [], ◌∷◌, ◌++◌, Option, Some, None, Ok, Err, length, take, drop, get_or, refl, sym, ap, ap₂, ◌∙◌, subst, arith, length-drop}, lemmas.Bool.{true≢false, eqb-true, eq-eqb}, lemmas.Slice.between_to_end, lemmas.List.take-append-drop}
use Rattle.std.specs.Prelude.{Result, slice_range}
use Rattle.pc_deriv.specs.{declared.line.Line.Line, declared.line.LineFault.LineFault, Lines.{Taken, line_meaning, behind, answered, with_line_byte, went_on, took_at, took, with_first_line, fed, longest_line}, Pieces.{NoEnd, IsNext}}
use Rattle.pc_deriv.specs.declared.line.LineFault.TheVariants as fault

abbrev Answer : Type 0
Answer = Result (Option Line) LineFault

-- ---- bytes after bytes

pub more_app : (a : Answer) (xs ys : List Line) → with_first_line a (xs ++ ys) ≡ with_first_line a xs ++ ys
more_app (Ok (Some l)) xs ys = refl
more_app (Ok None) xs ys = refl
more_app (Err f) xs ys = refl

-- the state after two pieces
pub fed_now : (t : Taken) (a b : List ℕ) → (fed t (a ++ b)).1 ≡ (fed (fed t a).1 b).1
fed_now t [] b = refl
fed_now t (x ∷ a) b = fed_now (took t x).1 a b

-- the lines of two pieces
pub fed_lines : (t : Taken) (a b : List ℕ) → (fed t (a ++ b)).0 ≡ (fed t a).0 ++ (fed (fed t a).1 b).0
fed_lines t [] b = refl
fed_lines t (x ∷ a) b = ap (with_first_line (took t x).0) (fed_lines (took t x).1 a b) ∙ more_app (took t x).0 (fed (took t x).1 a).0 (fed (fed (took t x).1 a).1 b).0

pub fed_both : (t : Taken) (a b : List ℕ) → fed t (a ++ b) ≡ ((fed t a).0 ++ (fed (fed t a).1 b).0, (fed (fed t a).1 b).1)
fed_both t a b = ap₂ (λ (x : List Line) (y : Taken). (x, y)) (fed_lines t a b) (fed_now t a b)

-- after a fault nothing is taken
stays_at : (t : Taken) (f : LineFault) (b : ℕ) → t.fault ≡ Some f → took t b ≡ (Err f, t)
stays_at t f b e = ap (λ o. took_at o t b) e

pub fed_stays : (t : Taken) (f : LineFault) (bs : List ℕ) → t.fault ≡ Some f → fed t bs ≡ ([], t)
fed_stays t f [] e = refl
fed_stays t f (b ∷ bs) e = ap (λ (s : Answer × Taken). (with_first_line s.0 (fed s.1 bs).0, (fed s.1 bs).1)) (stays_at t f b e) ∙ fed_stays t f bs e

-- ---- one byte

went : (t : Taken) (b : ℕ) (r : Answer × Taken) → t.fault ≡ None → r ≡ took t b → r ≡ went_on t b
went t b r e h = h ∙ ap (λ o. took_at o t b) e

line_is_some : (s : Result Line LineFault) → Ok None ≡ answered s → ⊥
line_is_some (Ok l) e = cc
line_is_some (Err f) e = cc

not_kept : (l : Line) (t : Taken) (b : ℕ) (long : Bool) (u : Taken) → (Ok (Some l), u) ≡ with_line_byte t b long → ⊥
not_kept l t b true u e = let h : Ok (Some l) ≡ Err (fault.BadLine (t.ended + 1)) = ap (λ (x : Answer × Taken). x.0) e in cc
not_kept l t b false u e = let none : Option Line = None in let h : Ok (Some l) ≡ Ok none = ap (λ (x : Answer × Taken). x.0) e in cc

kept_on : (t : Taken) (b : ℕ) (long : Bool) (u : Taken) → t.fault ≡ None → (Ok None, u) ≡ with_line_byte t b long → u.fault ≡ None
kept_on t b true u none e = let h : Ok None ≡ Err (fault.BadLine (t.ended + 1)) = ap (λ (x : Answer × Taken). x.0) e in cc
kept_on t b false u none e = ap (λ (x : Answer × Taken). x.1.fault) e ∙ none

-- a byte that ends no line, and is no line end
quiet_by : (t u : Taken) (b : ℕ) (ends : Bool) → (b == 10) ≡ ends → t.fault ≡ None
    → (Ok None, u) ≡ cond ends (answered (line_meaning t.version t.counts t.ended (t.pending ++ b ∷ [])), behind t (line_meaning t.version t.counts t.ended (t.pending ++ b ∷ []))) (with_line_byte t b (length t.pending + 1 == longest_line))
    → (b ≢ 10) × (u.fault ≡ None)
quiet_by t u b true p none e = absurd (line_is_some (line_meaning t.version t.counts t.ended (t.pending ++ b ∷ [])) (ap (λ (x : Answer × Taken). x.0) e))
quiet_by t u b false p none e = (λ q. true≢false (sym (eq-eqb b 10 q) ∙ p), kept_on t b (length t.pending + 1 == longest_line) u none e)

pub quiet : (t u : Taken) (b : ℕ) → t.fault ≡ None → (Ok None, u) ≡ took t b → (b ≢ 10) × (u.fault ≡ None)
quiet t u b none e = quiet_by t u b (b == 10) refl none (went t b (Ok None, u) none e)

-- a byte that ends a line is a line end
ends_by : (l : Line) (t u : Taken) (b : ℕ) (ends : Bool) → (b == 10) ≡ ends
    → (Ok (Some l), u) ≡ cond ends (answered (line_meaning t.version t.counts t.ended (t.pending ++ b ∷ [])), behind t (line_meaning t.version t.counts t.ended (t.pending ++ b ∷ []))) (with_line_byte t b (length t.pending + 1 == longest_line)) → b ≡ 10
ends_by l t u b true p e = eqb-true b 10 p
ends_by l t u b false p e = absurd (not_kept l t b (length t.pending + 1 == longest_line) u e)

pub ends : (l : Line) (t u : Taken) (b : ℕ) → t.fault ≡ None → (Ok (Some l), u) ≡ took t b → b ≡ 10
ends l t u b none e = ends_by l t u b (b == 10) refl (went t b (Ok (Some l), u) none e)

-- the fault is part of the state after it
fault_behind : (f : LineFault) (t : Taken) (s : Result Line LineFault) → Err f ≡ answered s → (behind t s).fault ≡ Some f
fault_behind f t (Ok l) e = cc
fault_behind f t (Err g) e = cc

fault_kept : (f : LineFault) (t : Taken) (b : ℕ) (long : Bool) (u : Taken) → (Err f, u) ≡ with_line_byte t b long → u.fault ≡ Some f
fault_kept f t b true u e = let h : Err f ≡ Err (fault.BadLine (t.ended + 1)) = ap (λ (x : Answer × Taken). x.0) e in let k : u.fault ≡ Some (fault.BadLine (t.ended + 1)) = ap (λ (x : Answer × Taken). x.1.fault) e in cc
fault_kept f t b false u e = let none : Option Line = None in let h : Err f ≡ Ok none = ap (λ (x : Answer × Taken). x.0) e in cc

fault_by : (f : LineFault) (t u : Taken) (b : ℕ) (ends : Bool)
    → (Err f, u) ≡ cond ends (answered (line_meaning t.version t.counts t.ended (t.pending ++ b ∷ [])), behind t (line_meaning t.version t.counts t.ended (t.pending ++ b ∷ []))) (with_line_byte t b (length t.pending + 1 == longest_line)) → u.fault ≡ Some f
fault_by f t u b true e = ap (λ (x : Answer × Taken). x.1.fault) e ∙ fault_behind f t (line_meaning t.version t.counts t.ended (t.pending ++ b ∷ [])) (ap (λ (x : Answer × Taken). x.0) e)
fault_by f t u b false e = fault_kept f t b (length t.pending + 1 == longest_line) u e

pub faulty : (f : LineFault) (t u : Taken) (b : ℕ) → t.fault ≡ None → (Err f, u) ≡ took t b → u.fault ≡ Some f
faulty f t u b none e = fault_by f t u b (b == 10) (went t b (Err f, u) none e)

-- ---- a piece from one place on

pub no_end_app : (a b : List ℕ) → NoEnd a → NoEnd b → NoEnd (a ++ b)
no_end_app [] b p q = q
no_end_app (x ∷ a) b p q = (p.0, no_end_app a b p.1 q)

-- A part of a piece was taken: no line ended in it, and there was no fault.
pub record Quiet (old : Taken) (piece : List ℕ) (at stop : ℕ) (now : Taken) : Type 0 where
  pub from : at ≤ stop
  pub to : stop ≤ length piece
  pub taken : fed old (slice_range piece at stop) ≡ ([], now)
  pub none : NoEnd (slice_range piece at stop)
  pub right : now.fault ≡ None

range_none : (piece : List ℕ) (at : ℕ) → slice_range piece at at ≡ []
range_none piece at = let z : at - at ≡ 0 = omega arith in ap (λ n. take n (drop at piece)) z

take_next : (xs : List ℕ) (n : ℕ) → n < length xs → take (suc n) xs ≡ take n xs ++ get_or xs n 0 ∷ []
take_next [] n l = absurd (omega (arith, l))
take_next (x ∷ xs) zero l = refl
take_next (x ∷ xs) (suc n) l = ap (λ ys. x ∷ ys) (take_next xs n (omega (arith, l)))

get_drop : (xs : List ℕ) (at n : ℕ) → get_or (drop at xs) n 0 ≡ get_or xs (at + n) 0
get_drop xs zero n = let e : n ≡ 0 + n = omega arith in ap (λ k. get_or xs k 0) e
get_drop [] (suc at) n = refl
get_drop (x ∷ xs) (suc at) n = let e : suc (at + n) ≡ suc at + n = omega arith in get_drop xs at n ∙ ap (λ k. get_or (x ∷ xs) k 0) e

range_next : (piece : List ℕ) (at stop : ℕ) → at ≤ stop → stop < length piece → slice_range piece at (stop + 1) ≡ slice_range piece at stop ++ get_or piece stop 0 ∷ []
range_next piece at stop l m =
    let count : stop + 1 - at ≡ suc (stop - at) = omega (arith, l) in
    let place : at + (stop - at) ≡ stop = omega (arith, l) in
    let size = length-drop at piece in
    ap (λ n. take n (drop at piece)) count ∙ take_next (drop at piece) (stop - at) (omega (arith, size, l, m))
    ∙ ap (λ b. slice_range piece at stop ++ b ∷ []) (get_drop piece at (stop - at) ∙ ap (λ k. get_or piece k 0) place)

module _ (old : Taken) (piece : List ℕ) (at stop : ℕ) (now : Taken) (so : Quiet old piece at stop now) (within : stop < length piece) where
  byte : ℕ
  byte = get_or piece stop 0

  abbrev part : List ℕ
  part = slice_range piece at stop

  longer : slice_range piece at (stop + 1) ≡ part ++ get_or piece stop 0 ∷ []
  longer = range_next piece at stop so.from within

  taken_on : (a : Answer) (u : Taken) → (a, u) ≡ took now (get_or piece stop 0)
      → fed old (part ++ get_or piece stop 0 ∷ []) ≡ (with_first_line a [], u)
  taken_on a u e =
      fed_both old part (get_or piece stop 0 ∷ [])
      ∙ ap (λ (s : List Line × Taken). (s.0 ++ (fed s.1 (get_or piece stop 0 ∷ [])).0, (fed s.1 (get_or piece stop 0 ∷ [])).1)) so.taken
      ∙ ap (λ (s : Answer × Taken). (with_first_line s.0 [], s.1)) (sym e)

  pub quiet_on : (u : Taken) → (Ok None, u) ≡ took now (get_or piece stop 0) → Quiet old piece at (stop + 1) u
  quiet_on u e =
      let q = quiet now u (get_or piece stop 0) so.right e in
      record {
        from = omega (arith, so.from);
        to = omega (arith, within);
        taken = ap (fed old) longer ∙ taken_on (Ok None) u e;
        none = subst NoEnd (sym longer) (no_end_app part (get_or piece stop 0 ∷ []) so.none (q.0, tt));
        right = q.1;
      }

  pub next_line : (l : Line) (u : Taken) → (Ok (Some l), u) ≡ took now (get_or piece stop 0) → IsNext old piece at (Ok (stop + 1, Some l)) u
  next_line l u e = (
    omega (arith, so.from),
    omega (arith, within),
    (part, so.none, longer ∙ ap (λ b. part ++ b ∷ []) (ends l now u (get_or piece stop 0) so.right e)),
    ap (fed old) longer ∙ taken_on (Ok (Some l)) u e,
  )

  rest : drop at piece ≡ (part ++ get_or piece stop 0 ∷ []) ++ drop (stop + 1 - at) (drop at piece)
  rest = sym (take-append-drop (stop + 1 - at) (drop at piece)) ∙ ap (λ l. l ++ drop (stop + 1 - at) (drop at piece)) longer

  pub next_fault : (f : LineFault) (u : Taken) → (Err f, u) ≡ took now (get_or piece stop 0) → IsNext old piece at (Err f) u
  next_fault f u e =
      let wrong = faulty f now u (get_or piece stop 0) so.right e in
      let more = drop (stop + 1 - at) (drop at piece) in (
        ap (fed old) rest ∙ fed_both old (part ++ get_or piece stop 0 ∷ []) more
            ∙ ap (λ (s : List Line × Taken). (s.0 ++ (fed s.1 more).0, (fed s.1 more).1)) (taken_on (Err f) u e)
            ∙ fed_stays u f more wrong,
        wrong,
      )

pub next_none : (old : Taken) (piece : List ℕ) (at stop : ℕ) (now : Taken) → Quiet old piece at stop now → length piece ≤ stop → IsNext old piece at (Ok (stop, None)) now
next_none old piece at stop now so l =
    let all : stop ≡ length piece = omega (arith, so.to, l) in
    let same : slice_range piece at stop ≡ drop at piece = between_to_end piece at stop l in
    (all, subst NoEnd same so.none, sym (ap (fed old) same) ∙ so.taken, so.right)

pub next_again : (old : Taken) (piece : List ℕ) (at : ℕ) (f : LineFault) → old.fault ≡ Some f → IsNext old piece at (Err f) old
next_again old piece at f e = (fed_stays old f (drop at piece) e, e)
