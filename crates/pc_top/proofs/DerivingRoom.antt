-- The room of a command that is given a derivation, and looks for none itself.
use Rattle.std.proofs.Common.{◌≡◌, Option, Some, subst, false}
use Rattle.std.specs.{Prelude.{IfSome, IsSome}, Io.KnownBytes.Appends}
use Rattle.pc_ann.specs.declared.annotation.Ann.{Ann}
use Rattle.pc_base.specs.Lists.{Text}
use Rattle.pc_args.specs.Asked.{Asked}
use Rattle.pc_io.specs.Sink.{Change}
use Rattle.pc_refusals.specs.{Verdict.{Files, Named, Verdict, IsAccepting}, Knowing.{AllKnown, NoneFailed}}
use Rattle.pc_refusals.proofs.Statuses.{IsOwn, other_not_one, other_own}
use Rattle.pc_top.specs.{Commands.{IsVerdictOf, OnOutOf, infers, source_of}, Words.files_of, CoreOf.IsDerivable, Shapes.OfDerivation}
use Rattle.pc_top.proofs.{Room.{NotOne, Room, looks_for_none, of_file, zero_not_one, zero_own}, Shapes.{Derives, derivation_accepts, derivation_derives, derivation_one, derivation_status}}

-- The bytes of both files are known, and no reading of them failed.
abbrev pub BothTell : Named → Named → Type 0
BothTell file derivation = IsSome file.known × (file.now ≡ file.before) × IsSome derivation.known × (derivation.now ≡ derivation.before)

module _ (text : Ann → Text) (files : Files) (asked : Asked) (source : Text) (file derivation : Named) (its : source_of asked ≡ Some source) (known : file.known ≡ files.known source) (looks : infers asked ≡ false)
    (is_of : (v : Verdict) → IsVerdictOf files (Some asked) v → OfDerivation text file derivation v) (tell : NoneFailed files (files_of asked) → AllKnown files.known (files_of asked) → BothTell file derivation)
    (writes : (v : Verdict) (out : Change) → IsAccepting v.status → Appends out.before out.now v.out → Derives text file derivation v → OnOutOf files.known (Some asked) out) where
  pub derivation_room : Room files asked
  derivation_room = record {
    one = λ laws unfailed all v w a b. let t = tell unfailed all in derivation_one text file derivation laws t.0 t.1 t.2 t.3 v w (is_of v a) (is_of w b);
    own = λ v is. derivation_status text file derivation IsOwn other_own zero_own v (is_of v is);
    accepts = λ v is e.
        of_file IsDerivable files.known asked source its (subst (λ (o : Option Text). IfSome o IsDerivable) known (derivation_accepts text file derivation v e (is_of v is)));
    refuses = λ laws v is e. absurd (derivation_status text file derivation NotOne other_not_one zero_not_one v (is_of v is) e);
    exact = λ sources laws other bytes of tells unfailed has i v is u. absurd (looks_for_none asked looks i);
    writes = λ tells v out is e o. writes v out e o (derivation_derives text file derivation v e (is_of v is));
  }
