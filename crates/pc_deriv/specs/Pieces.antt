-- A piece of a text, from one place on: up to and including its next line end, or else to its end.
use Rattle.std.specs.Prelude.{◌≡◌, ◌≢◌, ℕ, ◌<◌, ◌≤◌, List, [], ◌∷◌, ◌++◌, length, drop, slice_range, Option, Some, None, Result, Ok, Err, ⊤}
use Rattle.pc_deriv.specs.{declared.line.Line.Line, declared.line.LineFault.LineFault, Lines.{Taken, fed}}

-- no byte is a line end
abbrev pub NoEnd : List ℕ → Type 0
NoEnd [] = ⊤
NoEnd (b ∷ bs) = (b ≢ 10) × NoEnd bs

-- the only line end is the last byte
abbrev pub EndsOnce : List ℕ → Type 0
EndsOnce bytes = (front : List ℕ) × NoEnd front × (bytes ≡ front ++ 10 ∷ [])

-- The result for a piece from one place on, and the state after it. A line: it ended at the first line end. No line:
-- there is no line end, and the whole piece was taken. A fault: no line ended before it.
abbrev pub IsNext : Taken → List ℕ → (at : ℕ) → Result (ℕ × Option Line) LineFault → Taken → Type 0
IsNext old piece at (Ok (stop, Some l)) new = (at < stop) × (stop ≤ length piece) × EndsOnce (slice_range piece at stop) × (fed old (slice_range piece at stop) ≡ (l ∷ [], new))
IsNext old piece at (Ok (stop, None)) new = (stop ≡ length piece) × NoEnd (drop at piece) × (fed old (drop at piece) ≡ ([], new)) × (new.fault ≡ None)
IsNext old piece at (Err f) new = (fed old (drop at piece) ≡ ([], new)) × (new.fault ≡ Some f)
