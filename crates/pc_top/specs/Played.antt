-- From what `schedule` writes to what `play` and `run` do with it.
use Rattle.std.specs.Prelude.{◌≡◌, Some, List}
use Rattle.pc_base.specs.Lists.{Text}
use Rattle.pc_args.specs.Asked.{Asked, command_of, play, run, schedule_of}
use Rattle.pc_refusals.specs.Verdict.{Files, Verdict, done}
use Rattle.pc_top.specs.{Asked.IsVerdict, One.UnfailedOf}

-- The words ask for this of a source whose bytes are known to be these, they have this verdict, and no reading of the
-- command's files failed.
pub record Answered (files : Files) (words : List Text) (asked : Asked) (source bytes : Text) (v : Verdict) : Type 0 where
  pub asks : command_of words ≡ Some asked
  pub tells : files.known source ≡ Some bytes
  pub unfailed : UnfailedOf files (Some asked)
  pub verdict : IsVerdict files words v

-- If `schedule` is done with a line for a source and a seed, then `play` of that source and that seed, and `run` of
-- that source by a file with this line, have the same status and write the same text on out. The three may read their
-- files at any time and from anywhere.
abbrev pub PlayedAsRun : Type 0
PlayedAsRun =
    (chosen played ran : Files) (choosing playing running : List Text) (source bytes seed schedule line : Text) (v w : Verdict)
    → Answered chosen choosing (schedule_of source seed) source bytes (done line) → Answered played playing (play source seed) source bytes v
    → Answered ran running (run source schedule) source bytes w → ran.known schedule ≡ Some line
    → (v.status ≡ w.status) × (v.out ≡ w.out)
