-- From how a command ended and how its line was written to the program's answer.
use Rattle.std.proofs.{Common.{ℕ, [], Option, Some, None, inl, inr, Ok, Err, length, sym, ◌∙◌}, Math.Seq.take-length}
use Rattle.std.specs.{Prelude.Result, Io.KnownBytes.{Appends, Keeps}}
use Rattle.pc_base.specs.Lists.{Text}
use Rattle.pc_io.specs.Sink.{Change}
use Rattle.pc_refusals.specs.{Verdict.{Answer, Completes, Verdict}, Verdict.Answer.{given, file, out_failed, err_failed, file_err_failed, no_memory}, Inner.Answering.{EndsCommand, WritesVerdict}, Inner.Finishing.{Finishes, LineEnds}, declared.stop.Stop.Stop, declared.stop.Stop.TheVariants.{Refused, File, Sink, Memory}}
use Rattle.pc_refusals.proofs.Ending.{unchanged}

-- what was kept had nothing added
added_nothing : (before now : Option Text) → Keeps before now → Appends before now []
added_nothing None now k = tt
added_nothing (Some xs) None k = absurd k
added_nothing (Some xs) (Some ys) k = k ∙ unchanged (Some xs)

module _ (V : Verdict → Type 0) (Failed : Text → Type 0) (out err : Change) (status : ℕ) where
  refusal : (wanted : ℕ) (line : Text) → WritesVerdict V out wanted line → LineEnds err status wanted line → Answer V Failed out err status
  refusal wanted line t (inl e) = given t.0 t.1 (e.0 ∙ sym t.2) t.4 (rw t.3 e.1)
  refusal wanted line t (inr (inl e)) = err_failed t.0 t.1 e.0 e.1 t.4 (rw t.3 e.2)
  refusal wanted line t (inr (inr e)) = no_memory e.0 (inr (t.0, t.1, (length t.0.out, rw take-length t.4))) e.1

  pub answer_of : (ended : Result (Unit {0}) Stop) → EndsCommand V Failed out ended → Finishes err status ended → Answer V Failed out err status
  answer_of (Ok x) t e = given t.0 t.1 (e.0 ∙ sym t.2) t.4 (rw t.3 (added_nothing _ _ e.1))
  answer_of (Err (Refused wanted line)) t e = refusal wanted line t e
  answer_of (Err (File name)) f (inl e) = file name f.0 e.0 f.1 e.1
  answer_of (Err (File name)) f (inr (inl e)) = file_err_failed name f.0 e.0 e.1 f.1 e.2
  answer_of (Err (File name)) f (inr (inr e)) = no_memory e.0 (inl f.1) e.1
  answer_of (Err Sink) s e = out_failed e.0 s.0 s.1 e.1
  answer_of (Err Memory) m e = no_memory e.0 m e.1

  -- if nothing failed
  pub completes : Answer V Failed out err status → Completes V Failed out err status
  completes (given v is s o l) f g h = inr (v, is, s, o, l)
  completes (file n f0 s o l) f g h = absurd (f n f0)
  completes (out_failed s r t l) f g h = absurd (g r)
  completes (err_failed v is s r o l) f g h = absurd (h r)
  completes (file_err_failed n f0 s r o l) f g h = absurd (h r)
  completes (no_memory s o l) f g h = inl s
