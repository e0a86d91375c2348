-- What is known of the bytes of a source that was read, and of the known bytes of its file.
use Rattle.std.proofs.Common.{◌≡◌, ◌≤◌, ℕ, List, Option, Some, None, Ok, inl, inr, subst, arith}
use Rattle.std.specs.{Prelude.IfSome, Io.KnownBytes.Appends}
use Rattle.pc_ann.specs.declared.annotation.Ann.{Ann}
use Rattle.pc_base.specs.Lists.{Text}
use Rattle.pc_io.specs.Sink.{Change}
use Rattle.pc_valid.specs.Valid.{Valid}
use Rattle.pc_refusals.specs.{Verdict.{Answer, Files, Named, Reading, whole, IsReadingOf, Verdict, IsAccepting}, Verdict.Answer.{given as answer_given, file as answer_file, out_failed, err_failed, file_err_failed, no_memory}, Source.{SourceStage, source_limit}, declared.source.Source.Source}
use Rattle.pc_top.specs.{Asked.{IsVerdict, FailedIn}, CoreOf.IsDerivable}
use Rattle.pc_top.proofs.Deriving.{source_says}

-- what holds of the bytes that were read holds of those that are known
pub of_told : (Holds : Text → Type 0) (known : Option Text) (bytes : Text) → Holds bytes → IfSome known (λ b. bytes ≡ b) → IfSome known Holds
of_told Holds None bytes h e = tt
of_told Holds (Some b) bytes h e = subst Holds e h

-- what follows for known bytes
pub some_by : (P Q : Text → Type 0) (o : Option Text) → ((x : Text) → P x → Q x) → IfSome o P → IfSome o Q
some_by P Q None by h = tt
some_by P Q (Some x) by h = by x h

pub both_by : (P Q : Text → Text → Type 0) (o p : Option Text) → ((x y : Text) → P x y → Q x y) → IfSome o (λ x. IfSome p (P x)) → IfSome o (λ x. IfSome p (Q x))
both_by P Q o p by h = some_by (λ x. IfSome p (P x)) (λ x. IfSome p (Q x)) o (λ x. some_by (P x) (Q x) p (by x)) h

-- a source that was read was read whole
pub source_whole : (file : Named) (r : Reading) (s : Source) → IsReadingOf file source_limit r → SourceStage file.name r (Ok s) → IsReadingOf file source_limit (whole s.bytes)
source_whole file r s g h = subst (λ (q : Reading). IsReadingOf file source_limit q) (source_says h).0 g

-- what holds of its bytes
pub of_source : (Holds : Text → Type 0) (file : Named) (r : Reading) (s : Source) → IsReadingOf file source_limit r → SourceStage file.name r (Ok s) → Holds s.bytes → IfSome file.known Holds
of_source Holds file r s g h holds = of_told Holds file.known s.bytes holds (source_whole file r s g h).1

pub derivable : (file : Named) (r : Reading) (s : Source) (ann : Ann) → IsReadingOf file source_limit r → SourceStage file.name r (Ok s) → Valid s.core ann → IfSome file.known IsDerivable
derivable file r s ann g h v = of_source IsDerivable file r s g h (s.core, (source_says h).1, (ann, v))

-- ---- an answer

-- only the verdict's answer accepts
faults_refuse : (status n : ℕ) → status ≡ n → 9 ≤ n → n ≤ 11 → IsAccepting status → ⊥
faults_refuse status n is low high (inl e) = omega (arith, is, low, high, e)
faults_refuse status n is low high (inr e) = omega (arith, is, low, high, e)

pub accepting : (files : Files) (words : List Text) (out err : Change) (status : ℕ) → Answer (IsVerdict files words) (FailedIn files words) out err status → IsAccepting status
    → (v : Verdict) × IsVerdict files words v × (status ≡ v.status) × Appends out.before out.now v.out
accepting files words out err status (answer_given v is s o l) e = (v, is, s, o)
accepting files words out err status (answer_file n f s o l) e = absurd (faults_refuse status 9 s (omega arith) (omega arith) e)
accepting files words out err status (out_failed s r t l) e = absurd (faults_refuse status 10 s (omega arith) (omega arith) e)
accepting files words out err status (err_failed v is s r o l) e = absurd (faults_refuse status 10 s (omega arith) (omega arith) e)
accepting files words out err status (file_err_failed n f s r o l) e = absurd (faults_refuse status 10 s (omega arith) (omega arith) e)
accepting files words out err status (no_memory s o l) e = absurd (faults_refuse status 11 s (omega arith) (omega arith) e)
