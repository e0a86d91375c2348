-- What a call returns, and what it leaves in its buffers.
use Rattle.std.specs.Prelude.{ℕ, ◌≡◌}
use Rattle.pc_lib_buffers.specs.{Laying.{Buffer, BufferHolds, IsUntouched}, Places.no_place, declared.place.Place.Place}
use Rattle.pc_base.specs.Lists.{Text}
use Rattle.pc_refusals.specs.Verdict.{Verdict}

-- What a call returns: a status, two buffers and a place.
pub data CallAnswers (V : Verdict → Type 0) (Points : Text → Place → Type 0) (status : ℕ) (out err : Buffer) (place : Place) : Type 0 where
  -- the status is the verdict's, both of its texts are in the buffers, and its line points at the place
  verdict : (v : Verdict) → V v → status ≡ v.status → BufferHolds out v.out → BufferHolds err v.err → Points v.err place → CallAnswers V Points status out err place
  -- memory ran out
  no_memory : status ≡ 11 → IsUntouched out → IsUntouched err → place ≡ no_place → CallAnswers V Points status out err place
