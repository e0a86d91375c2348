-- Two files that are read one after another.
use Rattle.std.proofs.Common.{◌≡◌, ◌∙◌, ◌≤◌, ℕ, Option, Ok, inr, arith}
use Rattle.std.specs.Prelude.{Result}
use Rattle.pc_base.specs.Lists.{Text}
use Rattle.pc_refusals.specs.{Inner.Stages.{PartGives, PartStops}, Inner.TwoFiles.{BothGive, OneStops}, Verdict.{Files, Named, Reading, file_at, files_change, longer, named, Verdict}, declared.stop.Stop.Stop}
use Rattle.pc_refusals.proofs.Parts.{gives_from_start, gives_later, stops_from_start}

-- The first file, a, gave x. Then the second, b, was read.
module _ {T U : Type 0} (first second : ℕ) (One : Reading → Result T Verdict → Type 0) (Two : Reading → Result U Verdict → Type 0) (a b : Text)
    (known later : Text → Option Text) (before mid now : Text → ℕ) (taken last_taken second_taken : ℕ) (x : T) (never : One longer (Ok x) → ⊥) (given : PartGives first One (file_at known before mid taken a) x)
    (same : later b ≡ known b) (risen : before b ≤ mid b) (rises : mid b ≤ now b) where
  abbrev files : Files
  files = files_change known before now last_taken

  -- the second, by how much of it is said to be taken
  abbrev behind : Named
  behind = file_at known before now second_taken b

  still : PartGives first One (named files a) x
  still = gives_later first One (file_at known before mid taken a) (now a) last_taken x never given

  -- b was refused or not read
  pub second_stops : (s : Stop) → PartStops second Two (file_at later mid now second_taken b) s → OneStops first second One Two (named files a) behind s
  second_stops s h = inr (x, still, stops_from_start second Two behind (later b) (mid b) s same risen rises h)

  -- b gave y
  pub second_gives : (y : U) → PartGives second Two (file_at later mid now second_taken b) y → BothGive first second One Two (named files a) behind x y
  second_gives y h = (still, gives_from_start second Two behind (later b) (mid b) y same risen rises h)

-- ---- what two readings leave of all files

pub both_later : (first middle last : Text → ℕ) → ((n : Text) → first n ≤ middle n) → ((n : Text) → middle n ≤ last n) → (n : Text) → first n ≤ last n
both_later first middle last one two n =
    let rises = one n in
    let again = two n in
    omega (arith, rises, again)

pub both_same : (first middle last : Text → Option Text) → ((n : Text) → middle n ≡ first n) → ((n : Text) → last n ≡ middle n) → (n : Text) → last n ≡ first n
both_same first middle last one two n = two n ∙ one n
