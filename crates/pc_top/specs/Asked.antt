-- The verdict on the words of a command line.
use Rattle.std.specs.Prelude.{ℕ, ◌≡◌, Option, Some, None, List, IfSome, IsTrue}
use Rattle.pc_args.specs.{Line.{IsSeed, IsSize}, Asked.{Asked, make, command_of}}
use Rattle.pc_gen.specs.Generated.{generated_text}
use Rattle.pc_base.specs.Lists.{Text}
use Rattle.pc_refusals.specs.Verdict.{Files, Verdict}
use Rattle.pc_top.specs.{Commands.{FailedOf, IsVerdictOf, infers, source_of}, CoreOf.{IsDerivable, IsUnderivable, HasSafeCore}, Guarantees.{HasDecidedCore, HasFrozenCore, HasOwnedCore, HasProgressingCore}, IsolatedCore.HasIsolatedCore}

-- The verdict on the words: a status, a text on out and a line on err.
abbrev pub IsVerdict : Files → List Text → Verdict → Type 0
IsVerdict files words v = IsVerdictOf files (command_of words) v

-- A file that the command could not read.
abbrev pub FailedIn : Files → List Text → Text → Type 0
FailedIn files words name = FailedOf files (command_of words) name

-- ---- what holds of the source

-- This holds of the text of the program that `make` generates from these words.
abbrev pub OfMade : (Text → Type 0) → Text → Text → Type 0
OfMade Holds seed size = (a b : ℕ) × IsSeed seed a × IsSize size b × Holds (generated_text a b)

-- This holds of a file's bytes, if they are known and the command has a file whose core must have a derivation.
abbrev pub OfFile : (Text → Type 0) → (Text → Option Text) → Option Text → Type 0
OfFile Holds known None = Unit {0}
OfFile Holds known (Some source) = IfSome (known source) Holds

-- This holds of the source that must have a derivation: of the command's file, if its bytes are known, and of the
-- program that `make` generates.
abbrev pub OfSource : (Text → Type 0) → (Text → Option Text) → Option Asked → Type 0
OfSource Holds known None = ⊥
OfSource Holds known (Some asked) = OfFile Holds known (source_of asked) × ((seed size : Text) → asked ≡ make seed size → OfMade Holds seed size)

-- The source has a core with a derivation.
abbrev pub Accepts : (Text → Option Text) → List Text → Type 0
Accepts known words = OfSource IsDerivable known (command_of words)

-- The source has a core that is safe.
abbrev pub IsMadeSafe : (Text → Option Text) → List Text → Type 0
IsMadeSafe known words = OfSource HasSafeCore known (command_of words)

-- The source has a core whose waiting messages are isolated in depth.
abbrev pub IsMadeIsolated : (Text → Option Text) → List Text → Type 0
IsMadeIsolated known words = OfSource HasIsolatedCore known (command_of words)

-- The source has a core on which a compiler may rely in this way.
abbrev pub IsMadeFrozen : (Text → Option Text) → List Text → Type 0
IsMadeFrozen known words = OfSource HasFrozenCore known (command_of words)

abbrev pub IsMadeOwned : (Text → Option Text) → List Text → Type 0
IsMadeOwned known words = OfSource HasOwnedCore known (command_of words)

abbrev pub IsMadeProgressing : (Text → Option Text) → List Text → Type 0
IsMadeProgressing known words = OfSource HasProgressingCore known (command_of words)

abbrev pub IsMadeDecided : (Text → Option Text) → List Text → Type 0
IsMadeDecided known words = OfSource HasDecidedCore known (command_of words)

-- The command looks for a derivation of the source, which has a core without one.
abbrev pub HasNoDerivationOf : (Text → Option Text) → Option Asked → Type 0
HasNoDerivationOf known None = ⊥
HasNoDerivationOf known (Some asked) = IsTrue (infers asked) × OfSource IsUnderivable known (Some asked)

abbrev pub HasNoDerivation : (Text → Option Text) → List Text → Type 0
HasNoDerivation known words = HasNoDerivationOf known (command_of words)
