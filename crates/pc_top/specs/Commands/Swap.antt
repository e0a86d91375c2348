-- `swap SRC SCHED PLACE`.
use Rattle.std.specs.{Prelude.{ℕ, ◌≡◌, ◌⊎◌, true, List, [], ◌∷◌, Some, IfSome}, Io.KnownBytes.Appends}
use Rattle.pc_io.specs.Sink.{Change}
use Rattle.pc_core.specs.CoreData.{CoreData}
use Rattle.pc_run.specs.Spreading.{spread}
use Rattle.pc_sched.specs.{Schedules.TurnList, declared.turns.Turn.Turn}
use Rattle.pc_base.specs.Lists.{Text}
use Rattle.pc_refusal_lines.specs.Lines.{usage_line}
use Rattle.pc_refusals.specs.Verdict.{Named, EndsWith, Verdict, refused, named}
use Rattle.pc_commands.specs.Swap.{IsPlace, Neighbours, StandAt, SwapText, Swapping}
use Rattle.pc_top.specs.{CoreOf.CoreOf, Shapes.{OfScheduled, UnreadScheduled}, Meaning.CommandMeaning}

-- The exchange at this place of an accepted source's schedule.
abbrev pub IsSwapAt : Named → Named → ℕ → Verdict → Type 0
IsSwapAt source schedule place = OfScheduled (λ name core list. EndsWith (Swapping name core list place)) source schedule

-- The verdict of `swap` on this source, this schedule and this word: the one for the place that it denotes, or 2 if it
-- denotes none.
pub data IsSwap (source schedule : Named) (place : Text) (v : Verdict) : Type 0 where
  placed : (n : ℕ) → IsPlace place n → IsSwapAt source schedule n v → IsSwap source schedule place v
  no_number : ((n : ℕ) → IsPlace place n → ⊥) → v ≡ refused 2 usage_line → IsSwap source schedule place v

-- The file that could not be read. That is a cause only if the word denotes a place.
abbrev pub UnreadSwap : Named → Named → Text → Text → Type 0
UnreadSwap source schedule place name = ((n : ℕ) × IsPlace place n) × UnreadScheduled source schedule name

-- Out grew by what is reported of the turns at a place of the schedule and after it: the schedule with both exchanged,
-- if their steps are apart, or else why they keep their order.
abbrev pub WritesSwap : Change → Text → Text → ℕ → Type 0
WritesSwap out source schedule place =
    (core : CoreData) × CoreOf source core × (turns : List Turn) × TurnList schedule turns × (t : Neighbours) × StandAt (spread turns) place t
    × (text : Text) × SwapText core t text × Appends out.before out.now text

-- What `swap` means.
abbrev pub swap_meaning : Text → Text → Text → CommandMeaning
swap_meaning source schedule place = record {
  verdict = λ files. IsSwap (named files source) (named files schedule) place;
  failed = λ files. UnreadSwap (named files source) (named files schedule) place;
  source = Some source;
  infers = true;
  on_out = λ known out.
      IfSome (known source) (λ bytes. IfSome (known schedule) (λ text. (n : ℕ) × IsPlace place n × (WritesSwap out bytes text n ⊎ Appends out.before out.now [])));
  files = source ∷ schedule ∷ [];
  has_number = (n : ℕ) × IsPlace place n;
}
