-- What a command means: a record for each, in the file of its name.
use Rattle.std.specs.Prelude.{Bool, Option, List}
use Rattle.pc_base.specs.Lists.{Text}
use Rattle.pc_io.specs.Sink.{Change}
use Rattle.pc_refusals.specs.Verdict.{Files, Verdict}

pub record CommandMeaning : Type 1 where
  -- its verdict
  pub verdict : Files → Verdict → Type 0
  -- The file that it could not read: its failures rose. Those of a later file are a cause only if the command gets that
  -- far.
  pub failed : Files → Text → Type 0
  -- The file among them whose core must have a derivation, if there is one. The program of `make` is in no file.
  pub source : Option Text
  -- whether it looks for this derivation itself
  pub infers : Bool
  -- What is on out after it has passed all its stages, if the bytes of its files are known. `swap`, `trace` and `events`
  -- write nothing if a text ended the run.
  pub on_out : (Text → Option Text) → Change → Type 0
  -- the files that it reads, in this order
  pub files : List Text
  -- The number among its words is one that it takes. For `make`, the laws about it state this themselves.
  pub has_number : Type 0
