-- What a sink does with a piece of text, and what happened to it.
use Rattle.std.specs.{Prelude.{ℕ, ◌+◌, ◌-◌, ◌^◌, min, List, ◌≤◌, take}, declared.option.Option.Option, Io.KnownBytes.Appends}

-- the next value of a counter, which stays at its last value
abbrev pub one_more : ℕ → ℕ
one_more count = min (count + 1) (2 ^ 64 - 1)

-- What a sink reported as written and how often it had failed, before and after a call.
pub record Change : Type 0 where
  pub before : Option (List ℕ)
  pub now : Option (List ℕ)
  pub faults_before : ℕ
  pub faults_now : ℕ

abbrev pub change : Option (List ℕ) → Option (List ℕ) → (faults_before faults_now : ℕ) → Change
change before now faults_before faults_now =
    record { before = before; now = now; faults_before = faults_before; faults_now = faults_now }

-- A counter rose, or is at its last value.
abbrev pub HasRisen : (before now : ℕ) → Type 0
HasRisen before now = one_more before ≤ now

-- What is known to be written grew by a prefix of the piece.
abbrev pub GrowsByPrefix : Option (List ℕ) → Option (List ℕ) → List ℕ → Type 0
GrowsByPrefix before now piece = (n : ℕ) × Appends before now (take n piece)
