-- What reading a file returns.
use Rattle.std.specs.{Prelude.{◌≡◌, ◌<◌, ◌≤◌, ◌+◌, ℕ, List, length, take, drop, IfSome, Result, Ok, Err}, declared.option.Option.Option}
use Rattle.pc_io.specs.{declared.files.FileFault.FileFault, declared.files.FileFault.TheVariants.{TooLong, Memory, Failed}, declared.bytes.Bytes.Bytes}

-- if the bytes are known and no failure of the name was counted, there are more bytes than the limit
abbrev pub TooLongOnly : (limit : ℕ) → Option (List ℕ) → (before now : ℕ) → Type 0
TooLongOnly limit bytes before now = now ≡ before → IfSome bytes (λ known. limit < length known)

-- a read of these bytes took `taken` of them, and returns them all, or refuses them as more than the limit
abbrev pub IsCopy : List ℕ → (limit taken : ℕ) → Result Bytes FileFault → Type 0
IsCopy bytes limit taken (Ok copy) = (copy ≡ bytes) × (length bytes ≤ limit) × (taken ≡ length bytes)
IsCopy bytes limit taken (Err TooLong) = (limit < length bytes) × (taken ≡ limit + 1)
IsCopy bytes limit taken (Err Memory) = (length bytes ≤ limit) × (taken ≡ 0)
IsCopy bytes limit taken (Err Failed) = ⊥

-- the bytes from a place on, up to a limit
abbrev pub part_of : List ℕ → (from limit : ℕ) → List ℕ
part_of bytes from limit = take limit (drop from bytes)

-- a read of a part of these bytes took `taken` of them, and returns the part
abbrev pub IsPart : List ℕ → (from limit taken : ℕ) → Result Bytes FileFault → Type 0
IsPart bytes from limit taken (Ok copy) = (copy ≡ part_of bytes from limit) × (taken ≡ length copy)
IsPart bytes from limit taken (Err TooLong) = ⊥
IsPart bytes from limit taken (Err Memory) = taken ≡ 0
IsPart bytes from limit taken (Err Failed) = ⊥
