-- The room of `judge`, and what the referee was asked.
use Rattle.std.proofs.Common.{◌≡◌, ℕ, Option, Ok, Err, refl, sym, subst, arith}
use Rattle.std.specs.{Prelude.Result, Io.KnownBytes.Appends}
use Rattle.pc_base.specs.Lists.{Text}
use Rattle.pc_args.specs.Asked.{judge}
use Rattle.pc_referee.specs.Asked.{Pairs}
use Rattle.pc_refusals.specs.{Derivation.{in_parts, JudgedFile}, Inner.Answering.Puts, Inner.Derivations.NotDone, Inner.Stages.{PartGives, PartStops, StageWrote}, Verdict.{Files, Named, named, Verdict}, Source.{SourceStage, source_limit}, declared.source.Source.Source, declared.stop.Stop.Stop, declared.stop.Stop.TheVariants.{Refused, File, Sink, Memory}}
use Rattle.pc_refusals.proofs.Statuses.{IsOther, source_other}
use Rattle.pc_io.specs.Sink.{Change}
use Rattle.pc_commands.specs.Judge.{accepted_text}
use Rattle.pc_top.specs.{Inner.Asking.JudgeAsks, Referee.JudgedAll}
use Rattle.pc_top.proofs.{Accepted.source_whole, Deriving.source_says, DerivingRoom.derivation_room, Room.Room}

pub judge_room : (files : Files) (source derivation : Text) → Room files (judge source derivation)
judge_room files source derivation =
    derivation_room (λ ann. accepted_text) files (judge source derivation) source (named files source) (in_parts (named files derivation)) refl refl refl (λ v is. is)
    (λ unfailed known. (known.0, unfailed.0, known.1.0, unfailed.1.0))
    (λ v out e o d. subst (λ (w : Verdict). Appends out.before out.now w.out) d.done_with o)

-- ---- what the referee was asked

other_not_zero : (status : ℕ) → IsOther status → status ≡ 0 → ⊥
other_not_zero status l z = let low = l.0 in omega (arith, low, z)

-- if the source was refused
pub source_not_done : (name : Text) (file : Named) (s : Stop) → PartStops source_limit (SourceStage name) file s → NotDone s
source_not_done name file (Refused status line) h = other_not_zero status (source_other h.2)
source_not_done name file (File n) h = tt
source_not_done name file Sink h = tt
source_not_done name file Memory h = tt

-- the source that was read, and its derivation
pub judged_all : (file : Named) (known later : Option Text) (s : Source) (before after : Option Pairs) → later ≡ known → PartGives source_limit (SourceStage file.name) file s → JudgedFile s.core later before after
    → JudgedAll file.known known before after
judged_all file known later s before after e g h =
    let judged = subst (λ (o : Option Text). JudgedFile s.core o before after) e h in
    record { bytes = s.bytes; of_file = (source_whole file g.0 s g.1 g.2).1; core = s.core; core_of = (source_says g.2).1; judged = judged }

-- if out failed
wrote_not_done : (text : Text) (out : Change) (s : Stop) → StageWrote text out (Err s) → NotDone s
wrote_not_done text out (Refused status line) h = absurd h
wrote_not_done text out (File n) h = tt
wrote_not_done text out Sink h = tt
wrote_not_done text out Memory h = tt

-- and if the answer was written
pub asks_put : (source derivation : Option Text) (before after : Option Pairs) (out : Change) (answer : Result Text Stop) (result : Result (Unit {0}) Stop)
    → JudgeAsks source derivation before after answer → Puts answer out result → JudgeAsks source derivation before after result
asks_put source derivation before after out (Ok text) (Ok x) h w = h
asks_put source derivation before after out (Ok text) (Err s) h w = wrote_not_done text out s w
asks_put source derivation before after out (Err s) result h w = subst (λ (r : Result (Unit {0}) Stop). JudgeAsks source derivation before after r) (sym w.0) h
