-- From the result of reading one file to its stages, whatever they are.
use Rattle.std.proofs.Common.{◌≡◌, ◌≤◌, ◌<◌, ℕ, Option, Ok, Err, subst, arith}
use Rattle.std.specs.Prelude.{Result}
use Rattle.pc_base.specs.Lists.{Text}
use Rattle.pc_refusals.specs.{Source.{After, Length}, Source.After.{stops, goes}, Inner.Reading.NotRead, Inner.Stages.{PartStops, PartGives, PartEnds, StageEnds}, Verdict.{Reading, whole, longer, Named, IsReadingOf, IsReading, Verdict, refused}, Source.Length.fits, declared.stop.Stop.Stop, declared.stop.Stop.TheVariants.{Refused, File, Sink, Memory}}
use Rattle.pc_refusal_lines.specs.Lines.{longer_line}

module _ {T : Type 0} (limit : ℕ) (Stage : Reading → Result T Verdict → Type 0) where
  -- a file that was not read
  pub not_read : (file : Named) (s : Stop) → Stage longer (Err (refused 8 (longer_line file.name limit)))
      → NotRead file.name limit file.known file.before file.now file.taken s → PartStops limit Stage file s
  not_read file (Refused status line) long h = (longer, h.2, rw (h.0, h.1) long)
  not_read file (File name) long h = h
  not_read file Sink long h = h
  not_read file Memory long h = tt

  -- a stage after a part
  pub stops_behind : {U : Type 0} (Next : T → Result U Verdict → Type 0) (file : Named) (s : Stop) → PartStops limit Stage file s
      → PartStops limit (λ r. After (Stage r) Next) file s
  stops_behind Next file (Refused status line) h = (h.0, h.1, stops h.2)
  stops_behind Next file (File name) h = h
  stops_behind Next file Sink h = h
  stops_behind Next file Memory h = tt

  pub ends_behind : {U : Type 0} (Next : T → Result U Verdict → Type 0) (file : Named) (x : T) (result : Result U Stop) → PartGives limit Stage file x
      → StageEnds (Next x) result → PartEnds limit (λ r. After (Stage r) Next) file result
  ends_behind Next file x (Ok y) h e = (h.0, h.1, goes h.2 e)
  ends_behind Next file x (Err (Refused status line)) h e = (h.0, h.1, goes h.2 e)
  ends_behind Next file x (Err (File name)) h e = absurd e
  ends_behind Next file x (Err Sink) h e = absurd e
  ends_behind Next file x (Err Memory) h e = tt

  -- Later faults do not matter to a part that gave a value, since it read its file whole.
  pub gives_later : (file : Named) (now taken : ℕ) (x : T) → (Stage longer (Ok x) → ⊥) → PartGives limit Stage file x
      → PartGives limit Stage (record file { now = now; taken = taken }) x
  gives_later file now taken x never (whole bytes, g, s) = (whole bytes, g, s)
  gives_later file now taken x never (longer, g, s) = absurd (never s)

  -- what was said from a moment within the call, said from its start
  reading_from_start : (known later : Option Text) (before mid now taken : ℕ) (r : Reading) → later ≡ known → before ≤ mid → mid ≤ now
      → IsReading limit later mid now taken r → IsReading limit known before now taken r
  reading_from_start known later before mid now taken (whole bytes) e a b g = (g.0, rw (← e) g.1)
  reading_from_start known later before mid now taken longer e a b g = (g.0, λ same. rw (← e) (g.1 (omega arith)))

  pub gives_from_start : (file : Named) (later : Option Text) (mid : ℕ) (x : T) → later ≡ file.known → file.before ≤ mid → mid ≤ file.now
      → PartGives limit Stage (record file { known = later; before = mid }) x → PartGives limit Stage file x
  gives_from_start file later mid x e a b h =
      (h.0, reading_from_start file.known later file.before mid file.now file.taken h.0 e a b h.1, h.2)

  pub stops_from_start : (file : Named) (later : Option Text) (mid : ℕ) (s : Stop) → later ≡ file.known → file.before ≤ mid → mid ≤ file.now
      → PartStops limit Stage (record file { known = later; before = mid }) s → PartStops limit Stage file s
  stops_from_start file later mid (Refused status line) e a b h =
      (h.0, reading_from_start file.known later file.before mid file.now file.taken h.0 e a b h.1, h.2)
  stops_from_start file later mid (File name) e a b h = (h.0, let rose : mid < file.now = h.1 in omega arith)
  stops_from_start file later mid Sink e a b h = h
  stops_from_start file later mid Memory e a b h = tt

-- the stage of a file that was read whole
pub whole_ends : {U : Type 0} (limit : ℕ) (Next : Text → Result U Verdict → Type 0) (file : Named) (bytes shown : Text) (result : Result U Stop)
    → IsReadingOf file limit (whole bytes) → shown ≡ bytes → StageEnds (Next shown) result → PartEnds limit (λ r. After (Length limit file.name r) Next) file result
whole_ends limit Next file bytes shown (Ok x) g same e = (whole bytes, g, goes (fits g.0) (subst (λ (b : Text). Next b (Ok x)) same e))
whole_ends limit Next file bytes shown (Err (Refused status line)) g same e = (whole bytes, g, goes (fits g.0) (subst (λ (b : Text). Next b (Err (refused status line))) same e))
whole_ends limit Next file bytes shown (Err (File n)) g same e = absurd e
whole_ends limit Next file bytes shown (Err Sink) g same e = absurd e
whole_ends limit Next file bytes shown (Err Memory) g same e = tt
