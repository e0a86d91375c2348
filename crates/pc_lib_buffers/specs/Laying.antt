-- Texts in buffers.
use Rattle.std.specs.Prelude.{ℕ, ◌≡◌, ◌++◌, List, length, min, take, drop}
use Rattle.pc_base.specs.Lists.{Text}

-- A buffer after a text was copied into it: as much of the text as there is room for, followed by what was there
-- before.
abbrev pub laid : Text → List ℕ → List ℕ
laid text before = take (min (length text) (length before)) text ++ drop (min (length text) (length before)) before

-- A buffer before and after a call, and the length that was returned for its text.
pub record Buffer : Type 0 where
  pub before : List ℕ
  pub now : List ℕ
  pub answered : ℕ

abbrev pub buffer : (before now : List ℕ) → ℕ → Buffer
buffer before now answered = record { before = before; now = now; answered = answered }

-- The text's whole length is returned, and the text was copied into the buffer.
abbrev pub BufferHolds : Buffer → Text → Type 0
BufferHolds b text = (b.answered ≡ length text) × (b.now ≡ laid text b.before)

-- No text is returned, and the buffer is unchanged.
abbrev pub IsUntouched : Buffer → Type 0
IsUntouched b = (b.answered ≡ 0) × (b.now ≡ b.before)
