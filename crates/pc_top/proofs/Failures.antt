-- What each status of a failure means.
use Rattle.std.proofs.Common.{◌≡◌, ◌≤◌, ℕ, List, inl, inr, arith}
use Rattle.std.specs.Prelude.{◌⊎◌}
use Rattle.pc_base.specs.Lists.{Text}
use Rattle.pc_io.specs.Sink.{Change}
use Rattle.pc_refusals.specs.{Verdict.Answer.{given as answer_given, file as answer_file, out_failed, err_failed, file_err_failed, no_memory}, Verdict.Files}
use Rattle.pc_refusals.proofs.Statuses.{IsOwn}
use Rattle.pc_top.specs.Failures.{AnswersVerdict, ErrFailed, FailuresAreTold, OutFailed, Unread, WantsMemory}
use Rattle.pc_top.proofs.Verdicts.{verdicts_own}

-- no verdict has a status from 9 to 11
not_own : (status n : ℕ) → n ≡ status → 9 ≤ n → n ≤ 11 → IsOwn status → ⊥
not_own status n e low high (inl small) = omega (arith, e, low, high, small)
not_own status n e low high (inr (inl twelve)) = omega (arith, e, low, high, twelve)
not_own status n e low high (inr (inr fifteen)) = omega (arith, e, low, high, fifteen)

unread : (files : Files) (words : List Text) (out err : Change) → AnswersVerdict files words out err 9 → Unread files words out err
unread files words out err (answer_given v is s o l) = absurd (not_own v.status 9 s (omega arith) (omega arith) (verdicts_own files words v is))
unread files words out err (answer_file n f s o l) = (n, f, o, l)
unread files words out err (out_failed s r t l) = absurd (omega (arith, s))
unread files words out err (err_failed v is s r o l) = absurd (omega (arith, s))
unread files words out err (file_err_failed n f s r o l) = absurd (omega (arith, s))
unread files words out err (no_memory s o l) = absurd (omega (arith, s))

sink : (files : Files) (words : List Text) (out err : Change) → AnswersVerdict files words out err 10 → OutFailed files words out err ⊎ ErrFailed files words out err
sink files words out err (answer_given v is s o l) = absurd (not_own v.status 10 s (omega arith) (omega arith) (verdicts_own files words v is))
sink files words out err (answer_file n f s o l) = absurd (omega (arith, s))
sink files words out err (out_failed s r t l) = inl (r, t, l)
sink files words out err (err_failed v is s r o l) = inr (r, inl (v, is, o, l))
sink files words out err (file_err_failed n f s r o l) = inr (r, inr (n, f, o, l))
sink files words out err (no_memory s o l) = absurd (omega (arith, s))

memory : (files : Files) (words : List Text) (out err : Change) → AnswersVerdict files words out err 11 → WantsMemory files words out err
memory files words out err (answer_given v is s o l) = absurd (not_own v.status 11 s (omega arith) (omega arith) (verdicts_own files words v is))
memory files words out err (answer_file n f s o l) = absurd (omega (arith, s))
memory files words out err (out_failed s r t l) = absurd (omega (arith, s))
memory files words out err (err_failed v is s r o l) = absurd (omega (arith, s))
memory files words out err (file_err_failed n f s r o l) = absurd (omega (arith, s))
memory files words out err (no_memory s o l) = (o, l)

pub failures_told : FailuresAreTold
failures_told = record { unread = unread; sink = sink; memory = memory }
