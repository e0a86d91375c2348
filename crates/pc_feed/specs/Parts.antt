-- A file that is judged in parts.
use Rattle.std.specs.Prelude.{◌≡◌, ℕ, ◌<◌, ◌≤◌, Bool, true, false, List, ◌++◌, length, take, drop, Option, Some, None, IfSome, Result, Ok, Err}
use Rattle.pc_core.specs.CoreData.{CoreData}
use Rattle.pc_ann.specs.declared.annotation.Ann.{Ann}
use Rattle.pc_deriv.specs.{Text.{derivation_limit, IsText, IsFault}, Laws.as_read}
use Rattle.pc_valid.specs.Valid.{Valid}
use Rattle.pc_judge.specs.Faults.{FirstAnnotationFault}
use Rattle.pc_referee.specs.Asked.{Pairs}
use Rattle.pc_feed.specs.{declared.parts.DerivationFault.DerivationFault, Lines.lines_in, Asked.IsAsked, Streams.{StreamData, IsFed}}
use Rattle.pc_feed.specs.declared.parts.DerivationFault.TheVariants as fault

-- how many bytes a part has
abbrev pub part_size : ℕ
part_size = 65536

-- A referee's list, if it is known, grew by the nodes that are found right in the text of these bytes.
abbrev pub AsksNodes : CoreData → List ℕ → Option Pairs → Option Pairs → Type 0
AsksNodes core bytes None after = after ≡ None
AsksNodes core bytes (Some pairs) after = (more : Pairs) × IsAsked core (lines_in bytes) more × (after ≡ Some (pairs ++ more))

-- The whole file was read: these are all its bytes, if they are known, and not more than a derivation may have.
pub record ReadWhole (known : Option (List ℕ)) (bytes : List ℕ) : Type 0 where
  pub within : length bytes ≤ derivation_limit
  pub all : IfSome known (λ t. bytes ≡ t)

-- How judging a file ended, depending on what is known of the file, on how often reading it had failed before and after
-- the call, on how many bytes the last part had, and on the referee's list.
abbrev pub FileJudged : CoreData → Option (List ℕ) → (before now taken : ℕ) → Option Pairs → Option Pairs → Result (Unit {0}) DerivationFault → Type 0
FileJudged core known before now taken old new (Ok _) =
    (bytes : List ℕ) × ReadWhole known bytes × ((ann : Ann) × IsText bytes ann × Valid core ann) × AsksNodes core bytes old new
FileJudged core known before now taken old new (Err (fault.Text f)) = (bytes : List ℕ) × ReadWhole known bytes × IsFault bytes (as_read f) × AsksNodes core bytes old new
FileJudged core known before now taken old new (Err (fault.Invalid f)) =
    (bytes : List ℕ) × ReadWhole known bytes × ((ann : Ann) × IsText bytes ann × FirstAnnotationFault core ann f) × AsksNodes core bytes old new
-- Its faults rose.
FileJudged core known before now taken old new (Err fault.Failed) = before < now
-- The part after the greatest number of bytes of a derivation is not empty.
FileJudged core known before now taken old new (Err fault.TooLong) = (0 < taken) × IfSome known (λ t. derivation_limit < length t)
FileJudged core known before now taken old new (Err fault.Memory) = Unit {0}

-- ---- the parts

-- The first bytes of a file were read and fed.
pub record PartsRead (core : CoreData) (known : Option (List ℕ)) (from : ℕ) (stream : StreamData) (old new : Option Pairs) : Type 0 where
  pub bytes : List ℕ
  pub size : length bytes ≡ from
  pub front : IfSome known (λ t. bytes ≡ take from t)
  pub fed : IsFed core bytes stream
  pub asks : AsksNodes core bytes old new

-- All of the file was read and fed.
pub record AllRead (core : CoreData) (known : Option (List ℕ)) (stream : StreamData) (old new : Option Pairs) : Type 0 where
  pub bytes : List ℕ
  pub read : ReadWhole known bytes
  pub fed : IsFed core bytes stream
  pub asks : AsksNodes core bytes old new

-- A part was fed, or memory ran out.
abbrev pub PartFed : CoreData → (bytes part : List ℕ) → StreamData → Option Pairs → Option Pairs → Result (Unit {0}) DerivationFault → Type 0
PartFed core bytes part new old after (Ok _) = IsFed core (bytes ++ part) new × ((before : Option Pairs) → AsksNodes core bytes before old → AsksNodes core (bytes ++ part) before after)
PartFed core bytes part new old after (Err fault.Failed) = ⊥
PartFed core bytes part new old after (Err fault.TooLong) = ⊥
PartFed core bytes part new old after (Err (fault.Text f)) = ⊥
PartFed core bytes part new old after (Err (fault.Invalid f)) = ⊥
PartFed core bytes part new old after (Err fault.Memory) = Unit {0}

-- What is read if a part begins at this place.
abbrev pub IsPartAt : Option (List ℕ) → ℕ → List ℕ → Type 0
IsPartAt known from part = (length part ≤ part_size) × IfSome known (λ t. part ≡ take part_size (drop from t))

-- Why no part was read.
abbrev pub NoPart : (before now : ℕ) → DerivationFault → Type 0
NoPart before now fault.Failed = before < now
NoPart before now fault.TooLong = ⊥
NoPart before now (fault.Text f) = ⊥
NoPart before now (fault.Invalid f) = ⊥
NoPart before now fault.Memory = Unit {0}

-- A full part, or the last one.
abbrev pub Size : (from : ℕ) → List ℕ → Bool → Type 0
Size from part true = (length part ≡ part_size) × (from < derivation_limit)
Size from part false = (length part < part_size) × (from ≡ derivation_limit → length part ≡ 0)

-- A part was read and fed after these bytes.
abbrev pub PartTaken : CoreData → Option (List ℕ) → (from : ℕ) → List ℕ → (before now taken : ℕ) → StreamData → Option Pairs → Option Pairs → Result Bool DerivationFault → Type 0
PartTaken core known from bytes before now taken new old after (Ok full) = (part : List ℕ) × IsPartAt known from part × Size from part full × PartFed core bytes part new old after (Ok tt)
PartTaken core known from bytes before now taken new old after (Err fault.Failed) = before < now
PartTaken core known from bytes before now taken new old after (Err fault.TooLong) = (0 < taken) × IfSome known (λ t. derivation_limit < length t)
PartTaken core known from bytes before now taken new old after (Err (fault.Text f)) = ⊥
PartTaken core known from bytes before now taken new old after (Err (fault.Invalid f)) = ⊥
PartTaken core known from bytes before now taken new old after (Err fault.Memory) = Unit {0}

-- How reading all parts ended.
abbrev pub PartsEnd : CoreData → Option (List ℕ) → (before now taken : ℕ) → StreamData → Option Pairs → Option Pairs → Result (Unit {0}) DerivationFault → Type 0
PartsEnd core known before now taken new old after (Ok _) = AllRead core known new old after
PartsEnd core known before now taken new old after (Err fault.Failed) = before < now
PartsEnd core known before now taken new old after (Err fault.TooLong) = (0 < taken) × IfSome known (λ t. derivation_limit < length t)
PartsEnd core known before now taken new old after (Err (fault.Text f)) = ⊥
PartsEnd core known before now taken new old after (Err (fault.Invalid f)) = ⊥
PartsEnd core known before now taken new old after (Err fault.Memory) = Unit {0}
