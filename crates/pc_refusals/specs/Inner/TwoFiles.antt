-- How reading two files ended, one after another, each through its stages.
use Rattle.std.specs.Prelude.{ℕ, ◌⊎◌, Result}
use Rattle.pc_refusals.specs.{Inner.Stages.{PartGives, PartStops}, Verdict.{Named, Reading, Verdict}, declared.stop.Stop.Stop}

-- They gave these values.
abbrev pub BothGive : {T U : Type 0} → (first second : ℕ) → (Reading → Result T Verdict → Type 0) → (Reading → Result U Verdict → Type 0) → Named → Named → T → U → Type 0
BothGive first second One Two a b x y = PartGives first One a x × PartGives second Two b y

-- The first gave no value, or it did but the second did not.
abbrev pub OneStops : {T U : Type 0} → (first second : ℕ) → (Reading → Result T Verdict → Type 0) → (Reading → Result U Verdict → Type 0) → Named → Named → Stop → Type 0
OneStops {T} first second One Two a b s = PartStops first One a s ⊎ ((x : T) × PartGives first One a x × PartStops second Two b s)
