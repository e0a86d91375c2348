-- The room of `play`.
use Rattle.std.proofs.Common.{◌≡◌, ℕ, refl, subst}
use Rattle.std.specs.Io.KnownBytes.{Appends}
use Rattle.pc_args.specs.{Asked.play, Line.IsSeed}
use Rattle.pc_base.specs.Lists.{Text}
use Rattle.pc_semantics.specs.Text.{run_text}
use Rattle.pc_refusals.specs.{Verdict.{Files, named, Verdict}, declared.typing.Accepted.Accepted}
use Rattle.pc_refusals.proofs.Statuses.{IsLate}
use Rattle.pc_commands.proofs.{Chosen.{chosen_late, one_chosen}, Ran.ran_says}
use Rattle.pc_top.specs.Commands.Play.{Played, WritesPlay}
use Rattle.pc_top.proofs.{NumberRoom.numbered, Premises.Laws, Room.Room, Rooms.Schedule.one_seed, Shapes.accepted_says}
pub mod AsRun

played_late : (name : Text) (n : ℕ) (a : Accepted) (v : Verdict) → Played name n a v → IsLate v.status
played_late name n a = chosen_late name n a.source.core

one_played : (name : Text) → Laws → (n : ℕ) (a : Accepted) (v w : Verdict) → Played name n a v → Played name n a w → v ≡ w
one_played name laws n a = one_chosen laws.chosen name n a.source.core

pub play_room : (files : Files) (source seed : Text) → Room files (play source seed)
play_room files source seed =
    numbered files (play source seed) source refl refl (λ known. known.0) (λ unfailed. unfailed.0) (IsSeed seed) (Played source) (λ v is. is) (λ has. has) (one_seed seed) (played_late source) (one_played source)
    (λ v out n p is e o. accepted_says (Played source n) (named files source) (λ bytes. (m : ℕ) × IsSeed seed m × WritesPlay out m bytes) v e
    (λ a of_bytes valid r.
    let grew : Appends out.before out.now (run_text a.source.core r.0) = subst (λ (t : Text). Appends out.before out.now t) (ran_says r.2) o in
    (n, p, (a.source.core, of_bytes, r.0, r.1, grew))) is)
