-- The room of `show`, whose source need not have a derivation.
use Rattle.std.proofs.Common.{◌≡◌, ℕ, refl, sym, ap, subst, ◌∙◌}
use Rattle.std.specs.{Prelude.IfSome, Io.KnownBytes.Appends}
use Rattle.pc_base.specs.Lists.{Text}
use Rattle.pc_args.specs.Asked.{make, show}
use Rattle.pc_io.specs.Sink.{Change}
use Rattle.pc_print.specs.Printing.{printed}
use Rattle.pc_refusals.specs.{Verdict.{Files, IsReadingOf, Named, Reading, named, whole, Verdict, IsAccepting}, Source.{FileStage, source_limit}}
use Rattle.pc_refusals.proofs.{LastStages.{from_status, passed}, OneSource.{one_file, one_from}, Statuses.{IsOther, IsOwn, file_other, other_not_one, other_own, other_refuses}}
use Rattle.pc_top.specs.Commands.Show.{IsShow, Shown, WritesTree}
use Rattle.pc_top.proofs.{Accepted.of_told, Deriving.file_says, Room.{NotOne, Room, looks_for_none, zero_not_one, zero_own}}

-- Which statuses its verdicts have.
statuses : (P : ℕ → Type 0) → ((status : ℕ) → IsOther status → P status) → P 0 → (file : Named) (v : Verdict) → IsShow file v → P v.status
statuses P other zero file =
    from_status file source_limit (FileStage file.name) Shown P (λ r w h. other w.status (file_other h)) (λ tree w l. subst P (sym (ap (λ (x : Verdict). x.status) l)) zero)

show_on_out : (file : Named) (v : Verdict) (out : Change) → IsShow file v → IsAccepting v.status → Appends out.before out.now v.out → IfSome file.known (WritesTree out)
show_on_out file v out is e o =
    let p = passed file source_limit (FileStage file.name) Shown v (λ r h. other_refuses v.status (file_other h) e) is in
    let s = file_says p.3 in
    let grew : Appends out.before out.now (printed p.1) = subst (λ (w : Verdict). Appends out.before out.now w.out) p.4 o in
    let read : IsReadingOf file source_limit (whole s.0) = subst (λ (x : Reading). IsReadingOf file source_limit x) s.1 p.2 in
    of_told (WritesTree out) file.known s.0 (s.3, s.4, p.1, s.5, grew) read.1

no_make : (source seed size : Text) → show source ≡ make seed size → ⊥
no_make source seed size e = cc

pub show_room : (files : Files) (source : Text) → Room files (show source)
show_room files source =
    let file = named files source in
    record {
      one = λ laws unfailed known v w. one_from file source_limit (FileStage source) Shown known.0 unfailed.0 (one_file laws.source source) (λ r x h v w l m. l ∙ sym m) v w;
      own = λ v is. statuses IsOwn other_own zero_own file v is;
      accepts = λ v is e. (tt, λ seed size same. absurd (no_make source seed size same));
      refuses = λ laws v is e. absurd (statuses NotOne other_not_one zero_not_one file v is e);
      exact = λ sources laws other bytes of known unfailed has i v is u. absurd (looks_for_none (show source) refl i);
      writes = λ tells v out is e o. show_on_out file v out is e o;
    }
