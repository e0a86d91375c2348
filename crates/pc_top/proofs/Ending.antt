-- From how a command ended to how its words did.
use Rattle.std.proofs.Common.{◌≡◌, List, Option, Some, None, refl, sym, subst}
use Rattle.std.specs.Prelude.{Result}
use Rattle.pc_base.specs.Lists.{Text}
use Rattle.pc_args.specs.Asked.{Asked, command_of}
use Rattle.pc_io.specs.Sink.{Change}
use Rattle.pc_refusals.specs.{Inner.Answering.{AnswersText, CommandStops, EndsCommand, Puts}, Inner.Refusals.IsRefusal, Verdict.Files, declared.stop.Stop.Stop}
use Rattle.pc_refusal_lines.specs.Lines.{usage_line}
use Rattle.pc_refusals.proofs.Ending.{put_ends, stop_ends, words_stop}
use Rattle.pc_top.specs.{Asked.{FailedIn, IsVerdict}, Commands.{FailedOf, IsVerdictOf}}

module _ (files : Files) (out : Change) where
  -- a command that writes, by what it is called with
  pub command_ends : (own asked : Asked) (result : Result (Unit {0}) Stop) → own ≡ asked → EndsCommand (IsVerdictOf files (Some asked)) (FailedOf files (Some asked)) out result
      → EndsCommand (IsVerdictOf files (Some own)) (FailedOf files (Some own)) out result
  command_ends own asked result e h = subst (λ (a : Asked). EndsCommand (IsVerdictOf files (Some a)) (FailedOf files (Some a)) out result) (sym e) h

  -- one that returns a text
  pub command_puts : (own asked : Asked) (answer : Result Text Stop) (result : Result (Unit {0}) Stop) → own ≡ asked → AnswersText (IsVerdictOf files (Some asked)) (FailedOf files (Some asked)) answer → Puts answer out result
      → EndsCommand (IsVerdictOf files (Some own)) (FailedOf files (Some own)) out result
  command_puts own asked answer result e h p = command_ends own asked result e (put_ends (IsVerdictOf files (Some asked)) (FailedOf files (Some asked)) out answer result h p)

  -- a command ends as its words ask for
  pub words_end : (words : List Text) (asked : Asked) (result : Result (Unit {0}) Stop) → command_of words ≡ Some asked
      → EndsCommand (IsVerdictOf files (Some asked)) (FailedOf files (Some asked)) out result
      → EndsCommand (IsVerdict files words) (FailedIn files words) out result
  words_end words asked result e h = subst (λ (o : Option Asked). EndsCommand (IsVerdictOf files o) (FailedOf files o) out result) (sym e) h

  pub words_refused : (words : List Text) (s : Stop) → command_of words ≡ None → IsRefusal 2 usage_line s → out.now ≡ out.before → CommandStops (IsVerdict files words) (FailedIn files words) out s
  words_refused words s e h same =
      subst (λ (o : Option Asked). CommandStops (IsVerdictOf files o) (FailedOf files o) out s) (sym e)
      (stop_ends (IsVerdictOf files None) (FailedOf files None) out s (words_stop (IsVerdictOf files None) (FailedOf files None) 2 usage_line s refl h) same)
