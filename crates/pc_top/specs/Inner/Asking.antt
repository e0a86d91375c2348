-- What the referee was asked by a command that ended in this way.
use Rattle.std.specs.Prelude.{◌≡◌, Option, Some, Result, Ok, Err}
use Rattle.pc_referee.specs.Asked.{Pairs}
use Rattle.pc_base.specs.Lists.{Text}
use Rattle.pc_args.specs.Asked.{Asked, judge}
use Rattle.pc_refusals.specs.{Inner.Derivations.NotDone, declared.stop.Stop.Stop}
use Rattle.pc_top.specs.Referee.{IsNoJudge, JudgedAll}

abbrev pub JudgeAsks : {T : Type 0} → Option Text → Option Text → Option Pairs → Option Pairs → Result T Stop → Type 0
JudgeAsks source derivation before after (Ok _) = JudgedAll source derivation before after
JudgeAsks source derivation before after (Err s) = NotDone s

-- No command but `judge` asks the referee.
abbrev pub AsksSo : (Text → Option Text) → Option Asked → Option Pairs → Option Pairs → Result (Unit {0}) Stop → Type 0
AsksSo known asked before after result =
    ((source derivation : Text) → asked ≡ Some (judge source derivation) → JudgeAsks (known source) (known derivation) before after result)
    × (IsNoJudge asked → after ≡ before)
