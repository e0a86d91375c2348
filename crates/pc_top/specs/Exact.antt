-- What the statuses 0 and 1 mean for a source, exactly.
use Rattle.std.specs.Prelude.{ℕ, ◌≡◌, ◌↔◌, Some, List, [], ◌∷◌, IsTrue}
use Rattle.pc_ann.specs.declared.annotation.Ann.{Ann}
use Rattle.pc_core.specs.CoreData.{CoreData}
use Rattle.pc_deriv.specs.Text.{IsText}
use Rattle.pc_valid.specs.Valid.{Valid}
use Rattle.pc_args.specs.{Line.{IsSeed, IsSize}, Asked.{Asked, check, judge, make, upgrade, command_of}}
use Rattle.pc_gen.specs.Generated.{generated_text}
use Rattle.pc_base.specs.Lists.{Text}
use Rattle.pc_top.specs.{Asked.IsVerdict, Words.HasNumber, Commands.{infers, source_of}, CoreOf.{CoreOf, IsDerivable, IsUnderivable}}
use Rattle.pc_refusals.specs.{Verdict.{Files, Verdict}, Knowing.NoneFailed}

-- The words ask for this, and have this verdict. The bytes of the command's source are known, and no reading of it
-- failed.
pub record ReadsSource (files : Files) (words : List Text) (asked : Asked) (source bytes : Text) (v : Verdict) : Type 0 where
  pub asks : command_of words ≡ Some asked
  pub is_source : source_of asked ≡ Some source
  pub has_number : HasNumber asked
  pub tells : files.known source ≡ Some bytes
  pub unfailed : files.now source ≡ files.before source
  pub verdict : IsVerdict files words v

-- The status of `check` is 0 iff the source has a core with a derivation. If a command looks for the derivation itself,
-- its status is 1 iff the source has a core without one; for `make`, the source is the program that it generates.
pub record StatusesAreExact : Type 0 where
  pub accepted : (files : Files) (words : List Text) (source bytes : Text) (v : Verdict) → ReadsSource files words (check source) source bytes v
      → (v.status ≡ 0) ↔ IsDerivable bytes
  pub refused : (files : Files) (words : List Text) (asked : Asked) (source bytes : Text) (v : Verdict) → ReadsSource files words asked source bytes v
      → IsTrue (infers asked) → (v.status ≡ 1) ↔ IsUnderivable bytes
  pub made : (files : Files) (words : List Text) (seed size : Text) (a b : ℕ) (v : Verdict) → command_of words ≡ Some (make seed size) → IsSeed seed a → IsSize size b
      → IsVerdict files words v → (v.status ≡ 1) ↔ IsUnderivable (generated_text a b)

-- ---- a derivation

-- The text is that of a valid annotation of the source's core.
abbrev pub IsDerivationOf : (source text : Text) → Type 0
IsDerivationOf source text = (core : CoreData) × CoreOf source core × (ann : Ann) × IsText text ann × Valid core ann

-- The words ask for this, and have this verdict. The bytes of the command's two files are known, and no reading of them
-- failed.
pub record ReadsBoth (files : Files) (words : List Text) (asked : Asked) (source derivation bytes text : Text) (v : Verdict) : Type 0 where
  pub asks : command_of words ≡ Some asked
  pub tells : files.known source ≡ Some bytes
  pub tells_text : files.known derivation ≡ Some text
  pub unfailed : NoneFailed files (source ∷ derivation ∷ [])
  pub verdict : IsVerdict files words v

-- The status of `judge` and of `upgrade` is 0 iff the derivation is the text of a valid annotation of the source's
-- core.
pub record JudgedAreExact : Type 0 where
  pub judged : (files : Files) (words : List Text) (source derivation bytes text : Text) (v : Verdict) → ReadsBoth files words (judge source derivation) source derivation bytes text v
      → (v.status ≡ 0) ↔ IsDerivationOf bytes text
  pub upgraded : (files : Files) (words : List Text) (source derivation bytes text : Text) (v : Verdict) → ReadsBoth files words (upgrade source derivation) source derivation bytes text v
      → (v.status ≡ 0) ↔ IsDerivationOf bytes text
