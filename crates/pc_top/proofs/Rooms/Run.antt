-- The room of `run`.
use Rattle.std.proofs.Common.{inl, refl, subst}
use Rattle.std.specs.Io.KnownBytes.{Appends}
use Rattle.pc_base.specs.Lists.{Text}
use Rattle.pc_args.specs.Asked.{run}
use Rattle.pc_run.specs.Spreading.{spread}
use Rattle.pc_semantics.specs.Text.{run_text}
use Rattle.pc_refusals.specs.Verdict.{Files, named}
use Rattle.pc_commands.proofs.Ran.{one_ran, ran_late, ran_says}
use Rattle.pc_commands.specs.Run.{Ran}
use Rattle.pc_top.specs.{Commands.Run.WritesRun, Shapes.OfTurns}
use Rattle.pc_top.proofs.{Begins.begins, Room.{Room, inferring}, Shapes.{scheduled_one, scheduled_says, turns_late}}

pub run_room : (files : Files) (source schedule : Text) → Room files (run source schedule)
run_room files source schedule =
    let file = named files source in
    let turns = named files schedule in
    inferring files (run source schedule) source refl refl
    (λ v is. inl (begins (OfTurns Ran turns) file (turns_late Ran file turns ran_late) v is))
    (λ laws unfailed known. scheduled_one Ran file turns laws known.0 unfailed.0 known.1.0 unfailed.1.0 one_ran)
    (λ tells v out is e o. scheduled_says Ran file turns (WritesRun out) v e
    (λ bytes text core list of_bytes is_list ran.
    let grew : Appends out.before out.now (run_text core (spread list)) = subst (λ (x : Text). Appends out.before out.now x) (ran_says ran) o in
    (core, of_bytes, list, is_list, grew)) is)
