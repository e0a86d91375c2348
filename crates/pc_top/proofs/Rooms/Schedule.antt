-- The room of `schedule`.
use Rattle.std.proofs.Common.{◌≡◌, ℕ, inl, refl, sym, ap, subst, ◌∙◌}
use Rattle.std.specs.Io.KnownBytes.{Appends}
use Rattle.pc_args.specs.{Asked.schedule_of, Line.IsSeed}
use Rattle.pc_base.specs.Lists.{Text}
use Rattle.pc_refusals.specs.{Verdict.{Files, named, Verdict, done}, declared.typing.Accepted.Accepted}
use Rattle.pc_refusals.proofs.Statuses.{IsLate}
use Rattle.pc_commands.proofs.Chosen.{one_line}
use Rattle.pc_top.specs.Commands.Schedule.{Scheduled, WritesSchedule}
use Rattle.pc_top.proofs.{NumberRoom.numbered, Premises.Laws, Room.Room, Shapes.accepted_says}

-- the seed that a word spells
pub one_seed : (word : Text) (n m : ℕ) → IsSeed word n → IsSeed word m → n ≡ m
one_seed word n m p q = p.0.2 ∙ sym q.0.2

scheduled_late : (n : ℕ) (a : Accepted) (v : Verdict) → Scheduled n a v → IsLate v.status
scheduled_late n a v s = inl (ap (λ (w : Verdict). w.status) s.2)

one_scheduled : Laws → (n : ℕ) (a : Accepted) (v w : Verdict) → Scheduled n a v → Scheduled n a w → v ≡ w
one_scheduled laws n a v w s t = s.2 ∙ ap done (one_line laws.chosen laws.line a.source.core n s.0 t.0 s.1 t.1) ∙ sym t.2

pub schedule_room : (files : Files) (source seed : Text) → Room files (schedule_of source seed)
schedule_room files source seed =
    numbered files (schedule_of source seed) source refl refl (λ known. known.0) (λ unfailed. unfailed.0) (IsSeed seed) Scheduled (λ v is. is) (λ has. has) (one_seed seed) scheduled_late one_scheduled
    (λ v out n p is e o. accepted_says (Scheduled n) (named files source) (λ bytes. (m : ℕ) × IsSeed seed m × WritesSchedule out m bytes) v e
    (λ a of_bytes valid s.
    let grew : Appends out.before out.now s.0 = subst (λ (w : Verdict). Appends out.before out.now w.out) s.2 o in
    (n, p, (a.source.core, of_bytes, s.0, s.1, grew))) is)
