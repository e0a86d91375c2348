-- The room of `check`.
use Rattle.std.proofs.Common.{◌≡◌, inl, refl, sym, ap, subst, ◌∙◌}
use Rattle.std.specs.Io.KnownBytes.{Appends}
use Rattle.pc_base.specs.Lists.{Text}
use Rattle.pc_args.specs.Asked.{check}
use Rattle.pc_deriv.specs.{Text.deriv_text, declared.version.Version.Version}
use Rattle.pc_refusals.specs.{Verdict.{Files, named, Verdict, done}, declared.typing.Accepted.Accepted}
use Rattle.pc_refusals.proofs.Statuses.{IsLate}
use Rattle.pc_top.specs.Commands.Check.{Derived, WritesDerivation}
use Rattle.pc_top.proofs.{Begins.begins, Room.{Room, inferring}, Shapes.{accepted_one, accepted_says}}

derived_late : (a : Accepted) (v : Verdict) → Derived a v → IsLate v.status
derived_late a v d = inl (ap (λ (w : Verdict). w.status) d.3)

one_derived : (a : Accepted) (v w : Verdict) → Derived a v → Derived a w → v ≡ w
one_derived a v w (text, t, first, is) (other, u, also, was) = is ∙ (ap done (t.same ∙ (ap (λ (x : Version). deriv_text x a.ann) (first ∙ sym also) ∙ sym u.same)) ∙ sym was)

pub check_room : (files : Files) (source : Text) → Room files (check source)
check_room files source =
    let file = named files source in
    inferring files (check source) source refl refl
    (λ v is. inl (begins Derived file derived_late v is))
    (λ laws unfailed known. accepted_one Derived file laws known.0 unfailed.0 one_derived)
    (λ tells v out is e o. accepted_says Derived file (WritesDerivation out) v e
    (λ a of_bytes valid d.
    let grew : Appends out.before out.now d.0 = subst (λ (w : Verdict). Appends out.before out.now w.out) d.3 o in
    (a.source.core, of_bytes, a.ann, valid, d.0, d.1, d.2, grew)) is)
