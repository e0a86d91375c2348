-- The room of `explain`, whose source need not have a derivation.
use Rattle.std.proofs.Common.{◌≡◌, ℕ, Ok, Err, refl, sym, ap, subst, ◌∙◌}
use Rattle.std.specs.{Prelude.{IfSome, Result}, Io.KnownBytes.Appends}
use Rattle.pc_base.specs.Lists.{Text}
use Rattle.pc_args.specs.Asked.{explain, make}
use Rattle.pc_io.specs.Sink.{Change}
use Rattle.pc_tree.specs.Tree as t
use Rattle.pc_refusals.specs.{Verdict.{Files, IsReadingOf, Named, Reading, named, whole, IsAccepting, Verdict}, Source.{FileStage, source_limit}}
use Rattle.pc_refusals.proofs.{LastStages.{from_status, passed}, OneSource.one_from, Statuses.{IsOther, IsOwn, file_other, other_not_one, other_own, other_refuses}}
use Rattle.pc_explain_command.specs.Explain.{Explaining}
use Rattle.pc_top.specs.{Commands.Explain.{Explained, ExplainedStage, IsExplain, WritesExplained}, Commands.Explain.ExplainedStage.{has_none, has_tree}}
use Rattle.pc_explain_command.proofs.Explained.{IsOtherEnd, explaining_other}
use Rattle.pc_top.proofs.{Accepted.of_told, Deriving.file_says, Room.{NotOne, Room, looks_for_none, zero_not_one, zero_own}, Rooms.Explain.One.one_explained}
pub mod Ends
pub mod One

-- ---- its statuses

end_other : (name : Text) (r : Reading) (end : Result Text Verdict) → ExplainedStage name r end → IsOtherEnd end
end_other name _ _ (has_tree {bytes = b} {file = f} {end = e} a k) = explaining_other name b f e k
end_other name _ _ (has_none h) = file_other h

refusal_other : (name : Text) (r : Reading) (v : Verdict) → ExplainedStage name r (Err v) → IsOther v.status
refusal_other name r v h = end_other name r (Err v) h

statuses : (P : ℕ → Type 0) → ((status : ℕ) → IsOther status → P status) → P 0 → (file : Named) (v : Verdict) → IsExplain file v → P v.status
statuses P other zero file =
    from_status file source_limit (ExplainedStage file.name) Explained P (λ r w h. other w.status (refusal_other file.name r w h))
    (λ text w l. subst P (sym (ap (λ (x : Verdict). x.status) l)) zero)

-- ---- what is on out

-- A text is that of a tree of a source that was read whole.
tree_of : {name text : Text} {r : Reading} → ExplainedStage name r (Ok text)
    → (bytes : Text) × (r ≡ whole bytes) × (file : t.File) × FileStage name (whole bytes) (Ok file) × Explaining name bytes file (Ok text)
tree_of (has_tree {bytes = b} {file = f} a k) = (b, refl, f, a, k)

whole_same : (a b : Text) → whole a ≡ whole b → a ≡ b
whole_same a b e = cc e

explained_on_out : (file : Named) (v : Verdict) (out : Change) → IsExplain file v → IsAccepting v.status → Appends out.before out.now v.out → IfSome file.known (WritesExplained out file.name)
explained_on_out file v out is e o =
    let p = passed file source_limit (ExplainedStage file.name) Explained v (λ r h. other_refuses v.status (refusal_other file.name r v h) e) is in
    let grew : Appends out.before out.now p.1 = subst (λ (w : Verdict). Appends out.before out.now w.out) p.4 o in
    let tree = tree_of p.3 in
    let says = file_says tree.3 in
    let same : tree.0 ≡ says.0 = whole_same tree.0 says.0 says.1 in
    let said : Explaining file.name says.0 tree.2 (Ok p.1) = subst (λ (b : Text). Explaining file.name b tree.2 (Ok p.1)) same tree.4 in
    let read : IsReadingOf file source_limit (whole says.0) = subst (λ (x : Reading). IsReadingOf file source_limit x) (tree.1 ∙ says.1) p.2 in
    of_told (WritesExplained out file.name) file.known says.0 (says.3, says.4, tree.2, says.5, p.1, said, grew) read.1

no_make : (source seed size : Text) → explain source ≡ make seed size → ⊥
no_make source seed size e = cc

pub explain_room : (files : Files) (source : Text) → Room files (explain source)
explain_room files source =
    let file = named files source in
    record {
      one = λ laws unfailed known v w. one_from file source_limit (ExplainedStage source) Explained known.0 unfailed.0 (one_explained laws source) (λ r x h v w l m. l ∙ sym m) v w;
      own = λ v is. statuses IsOwn other_own zero_own file v is;
      accepts = λ v is e. (tt, λ seed size same. absurd (no_make source seed size same));
      refuses = λ laws v is e. absurd (statuses NotOne other_not_one zero_not_one file v is e);
      exact = λ sources laws other bytes of known unfailed has i v is u. absurd (looks_for_none (explain source) refl i);
      writes = λ tells v out is e o. explained_on_out file v out is e o;
    }
