-- Real files, of which nothing is known but what earlier reads left.
use Rattle.std.specs.Prelude.{ℕ, List, [], ◌∷◌, ◌++◌, Result, Ok, Err}
use Rattle.pc_io.specs.{declared.files.FileFault.FileFault, declared.files.FileFault.TheVariants.{TooLong, Memory, Failed}, declared.bytes.Bytes.Bytes}

-- The names whose reading failed, the latest last; how many bytes the last call took.
pub record Readings : Type 0 where
  pub failed : List (List ℕ)
  pub taken : ℕ

-- no call so far
abbrev pub no_readings : Readings
no_readings = record { failed = []; taken = 0 }

-- the names of failures after a call: a failure is recorded under its name
abbrev pub failed_after : List (List ℕ) → List ℕ → Result Bytes FileFault → List (List ℕ)
failed_after failed name (Ok _) = failed
failed_after failed name (Err TooLong) = failed
failed_after failed name (Err Failed) = failed ++ name ∷ []
failed_after failed name (Err Memory) = failed
