-- What the referee was asked, from how a command ended to the answer.
use Rattle.std.proofs.{Common.{◌≡◌, ℕ, Option, Some, None, Ok, Err, refl, sym, subst, ◌∙◌, inl, inr, arith}, lemmas.Option.{none-some, same_Some}}
use Rattle.std.specs.Prelude.{Result}
use Rattle.pc_base.specs.Lists.{Text}
use Rattle.pc_args.specs.Asked.{Asked, judge}
use Rattle.pc_io.specs.Sink.{Change}
use Rattle.pc_referee.specs.Asked.{Pairs}
use Rattle.pc_refusals.specs.{Inner.Derivations.NotDone, Inner.Finishing.{Finishes, LineEnds, StopFinishes}, declared.stop.Stop.Stop, declared.stop.Stop.TheVariants.{Refused, File, Sink, Memory}}
use Rattle.pc_top.specs.{Inner.Asking.{AsksSo, JudgeAsks}, Referee.{Asks, JudgedAll}}

-- a command that the words ask for
pub asks_end : (known : Text → Option Text) (asked : Asked) (o : Option Asked) (a b : Option Pairs) (r : Result (Unit {0}) Stop) → o ≡ Some asked → AsksSo known (Some asked) a b r → AsksSo known o a b r
asks_end known asked o a b r e h = subst (λ (x : Option Asked). AsksSo known x a b r) (sym e) h

-- no command
pub asks_nobody : (known : Text → Option Text) (o : Option Asked) (a : Option Pairs) (r : Result (Unit {0}) Stop) → o ≡ None → AsksSo known o a a r
asks_nobody known o a r e = (λ source derivation is. absurd (none-some (judge source derivation) (sym e ∙ is)), λ other. refl)

pub asks_no_memory : (known : Text → Option Text) (o : Option Asked) (a : Option Pairs) → AsksSo known o a a (Err Memory)
asks_no_memory known o a = (λ source derivation is. tt, λ other. refl)

-- another command than `judge`
pub asks_other : (known : Text → Option Text) (own asked : Asked) (a : Option Pairs) (r : Result (Unit {0}) Stop) → own ≡ asked → ((source derivation : Text) → asked ≡ judge source derivation → ⊥) → AsksSo known (Some own) a a r
asks_other known own asked a r e differs =
    (λ source derivation is. absurd (differs source derivation (sym e ∙ same_Some own (judge source derivation) is)), λ other. refl)

-- and `judge`
pub asks_judge : (known : Text → Option Text) (own : Asked) (source derivation : Text) (a b : Option Pairs) (r : Result (Unit {0}) Stop) → own ≡ judge source derivation → JudgeAsks (known source) (known derivation) a b r
    → AsksSo known (Some own) a b r
asks_judge known own source derivation a b r e h =
    (λ s d is. same_asked known source derivation s d a b r (sym e ∙ same_Some own (judge s d) is) h, λ other. absurd (other source derivation (some_same own (judge source derivation) e)))
  where
    same_asked : (known : Text → Option Text) (source derivation s d : Text) (a b : Option Pairs) (r : Result (Unit {0}) Stop) → judge source derivation ≡ judge s d → JudgeAsks (known source) (known derivation) a b r → JudgeAsks (known s) (known d) a b r
    same_asked known source derivation s d a b r is h =
        let first : source ≡ s = cc is in
        let second : derivation ≡ d = cc is in
        subst (λ (x : Text). JudgeAsks (known x) (known d) a b r) first (subst (λ (y : Text). JudgeAsks (known source) (known y) a b r) second h)

    some_same : (x y : Asked) → x ≡ y → Some x ≡ Some y
    some_same x y e = subst (λ (z : Asked). Some x ≡ Some z) e refl

-- ---- a command that is not done has another status

line_status : (err : Change) (status wanted : ℕ) (line : Text) → LineEnds err status wanted line → status ≡ 0 → wanted ≡ 0
line_status err status wanted line (inl h) z = sym h.0 ∙ z
line_status err status wanted line (inr (inl h)) z = let e = h.0 in absurd (omega (arith, e, z))
line_status err status wanted line (inr (inr h)) z = let e = h.0 in absurd (omega (arith, e, z))

stop_status : (err : Change) (status : ℕ) (s : Stop) → NotDone s → StopFinishes err status s → status ≡ 0 → ⊥
stop_status err status (Refused wanted line) n h z = n (line_status err status wanted line h z)
stop_status err status (File name) n h z = let e = line_status err status 9 _ h z in omega (arith, e)
stop_status err status Sink n h z = let e = h.0 in omega (arith, e, z)
stop_status err status Memory n h z = let e = h.0 in omega (arith, e, z)

judge_answer : (source derivation : Option Text) (a b : Option Pairs) (err : Change) (status : ℕ) (r : Result (Unit {0}) Stop) → JudgeAsks source derivation a b r → Finishes err status r → status ≡ 0 → JudgedAll source derivation a b
judge_answer source derivation a b err status (Ok v) h f z = h
judge_answer source derivation a b err status (Err s) h f z = absurd (stop_status err status s h f z)

pub asks_answer : (known : Text → Option Text) (o : Option Asked) (a b : Option Pairs) (err : Change) (status : ℕ) (r : Result (Unit {0}) Stop) → AsksSo known o a b r → Finishes err status r → Asks known o status a b
asks_answer known o a b err status r h f = (λ source derivation is z. judge_answer (known source) (known derivation) a b err status r (h.0 source derivation is) f z, h.1)
