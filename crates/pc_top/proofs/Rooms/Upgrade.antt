-- The room of `upgrade`.
use Rattle.std.proofs.Common.{refl, subst}
use Rattle.std.specs.{Prelude.IfSome, Io.KnownBytes.Appends}
use Rattle.pc_base.specs.Lists.{Text}
use Rattle.pc_args.specs.Asked.{upgrade}
use Rattle.pc_deriv.specs.Text.{deriv_text}
use Rattle.pc_deriv.specs.declared.version.Version.TheVariants as version
use Rattle.pc_io.specs.Sink.{Change}
use Rattle.pc_refusals.specs.Verdict.{Files, Named, named, Verdict}
use Rattle.pc_top.specs.Commands.Upgrade.{WritesUpgraded}
use Rattle.pc_top.proofs.{Accepted.{of_source, of_told}, Deriving.source_says, DerivingRoom.derivation_room, Room.Room, Shapes.Derives}

upgrade_on_out : (file derivation : Named) (v : Verdict) (out : Change) → Appends out.before out.now v.out → Derives (deriv_text version.Two) file derivation v
    → IfSome file.known (λ bytes. IfSome derivation.known (WritesUpgraded out bytes))
upgrade_on_out file derivation v out o d =
    let core = d.source.core in
    let grew : Appends out.before out.now (deriv_text version.Two d.ann) = subst (λ (w : Verdict). Appends out.before out.now w.out) d.done_with o in
    let inner : IfSome derivation.known (WritesUpgraded out d.source.bytes) =
    of_told (WritesUpgraded out d.source.bytes) derivation.known d.bytes (core, (source_says d.passes).1, d.ann, d.valid, d.is_text, grew) d.of_file in
    of_source (λ bytes. IfSome derivation.known (WritesUpgraded out bytes)) file d.reading d.source d.is_reading d.passes inner

pub upgrade_room : (files : Files) (source derivation : Text) → Room files (upgrade source derivation)
upgrade_room files source derivation =
    derivation_room (deriv_text version.Two) files (upgrade source derivation) source (named files source) (named files derivation) refl refl refl (λ v is. is)
    (λ unfailed known. (known.0, unfailed.0, known.1.0, unfailed.1.0))
    (λ v out e o d. upgrade_on_out (named files source) (named files derivation) v out o d)
