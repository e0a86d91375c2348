-- Stages that have one end.
use Rattle.std.specs.Prelude.{◌≡◌, Result}
use Rattle.pc_refusals.specs.Verdict.{Verdict}

-- Any two results of a stage are equal.
abbrev pub HasOneEnd : {T : Type 0} → (Result T Verdict → Type 0) → Type 0
HasOneEnd {T} Stage = (x y : Result T Verdict) → Stage x → Stage y → x ≡ y
