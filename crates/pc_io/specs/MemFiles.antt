-- Files in memory, of which chosen reads fail.
use Rattle.std.specs.{Prelude.{◌≡◌, ◌≤◌, ◌<◌, ◌+◌, nat_eq, ⊤, ℕ, Bool, false, List, [], ◌∷◌, ◌++◌, length, Result, Ok, Err, Some, None, IsSomeAnd}, List.list_any}
use Rattle.pc_io.specs.{declared.files.FileFault.FileFault, declared.files.FileFault.TheVariants.{TooLong, Memory, Failed}, declared.bytes.Bytes.Bytes, declared.entries.Entry.Entry, Sink.one_more, Entries.held, Files.part_of}

-- The files; the numbers of the calls that fail; the number of the next call; the names whose reading failed, the
-- latest last; how many bytes the last call took.
pub record Store : Type 0 where
  pub entries : List Entry
  pub failing : List ℕ
  pub next_call : ℕ
  pub failed : List (List ℕ)
  pub taken : ℕ

-- no files, and no calls so far
abbrev pub new_store : List ℕ → Store
new_store failing = record { entries = []; failing = failing; next_call = 1; failed = []; taken = 0 }

-- whether the next call is one of those that fail
abbrev pub fails_next : Store → Bool
fails_next store = list_any (nat_eq store.next_call) store.failing

-- Each answer of the next call, and when it comes. Running out of memory is always allowed.
abbrev pub IsAnswerOf : Store → List ℕ → ℕ → Result Bytes FileFault → Type 0
IsAnswerOf store name limit (Ok bytes) = (fails_next store ≡ false) × (held store.entries name ≡ Some bytes) × (length bytes ≤ limit)
IsAnswerOf store name limit (Err TooLong) = (fails_next store ≡ false) × IsSomeAnd (held store.entries name) (λ bytes. limit < length bytes)
IsAnswerOf store name limit (Err Failed) = fails_next store ≡ false → held store.entries name ≡ None
IsAnswerOf store name limit (Err Memory) = ⊤

-- What a call leaves: it is counted, a failure is recorded under its name, and the bytes that were taken are counted.
abbrev pub after_read : Store → List ℕ → ℕ → Result Bytes FileFault → Store
after_read store name limit (Ok bytes) = record store { next_call = one_more store.next_call; taken = length bytes }
after_read store name limit (Err TooLong) = record store { next_call = one_more store.next_call; taken = limit + 1 }
after_read store name limit (Err Failed) = record store { next_call = one_more store.next_call; failed = store.failed ++ name ∷ []; taken = 0 }
after_read store name limit (Err Memory) = record store { next_call = one_more store.next_call; taken = 0 }

-- The same for a call that reads a part, which is never too long.
abbrev pub IsPartOf : Store → List ℕ → (from limit : ℕ) → Result Bytes FileFault → Type 0
IsPartOf store name from limit (Ok bytes) = (fails_next store ≡ false) × IsSomeAnd (held store.entries name) (λ known. bytes ≡ part_of known from limit)
IsPartOf store name from limit (Err TooLong) = ⊥
IsPartOf store name from limit (Err Failed) = fails_next store ≡ false → held store.entries name ≡ None
IsPartOf store name from limit (Err Memory) = ⊤

abbrev pub after_part : Store → List ℕ → Result Bytes FileFault → Store
after_part store name (Ok bytes) = record store { next_call = one_more store.next_call; taken = length bytes }
after_part store name (Err TooLong) = record store { next_call = one_more store.next_call; taken = 0 }
after_part store name (Err Failed) = record store { next_call = one_more store.next_call; failed = store.failed ++ name ∷ []; taken = 0 }
after_part store name (Err Memory) = record store { next_call = one_more store.next_call; taken = 0 }
