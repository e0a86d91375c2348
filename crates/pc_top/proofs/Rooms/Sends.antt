-- The room of `sends`.
use Rattle.std.proofs.Common.{◌≡◌, List, ℕ, inl, refl, ap, subst, ◌∙◌}
use Rattle.std.specs.Io.KnownBytes.{Appends}
use Rattle.pc_base.specs.Lists.{Text}
use Rattle.pc_args.specs.Asked.{sends}
use Rattle.pc_refusals.specs.{Verdict.{Files, named, Verdict}, declared.typing.Accepted.Accepted}
use Rattle.pc_refusals.proofs.Statuses.{IsLate}
use Rattle.pc_commands.specs.Sends.{table_text}
use Rattle.pc_top.specs.Commands.Sends.{Sent, WritesSends}
use Rattle.pc_top.proofs.{Begins.begins, Room.{Room, inferring}, Rooms.Sends.One.one_sent, Shapes.{accepted_one, accepted_says}}
pub mod One
pub mod Tells

sent_late : (a : Accepted) (v : Verdict) → Sent a v → IsLate v.status
sent_late a v s = inl (ap (λ (w : Verdict). w.status) s.2)

pub sends_room : (files : Files) (source : Text) → Room files (sends source)
sends_room files source =
    let file = named files source in
    inferring files (sends source) source refl refl
    (λ v is. inl (begins Sent file sent_late v is))
    (λ laws unfailed known. accepted_one Sent file laws known.0 unfailed.0 one_sent)
    (λ tells v out is e o. accepted_says Sent file (WritesSends out) v e
    (λ a of_bytes valid s.
    let core = a.source.core in
    let table = s.1.0 in
    let known = tells a.source.bytes core a.ann table of_bytes valid s.1.1 in
    let same : v.out ≡ table_text core table = ap (λ (w : Verdict). w.out) s.2 ∙ s.1.2 in
    let grew : Appends out.before out.now (table_text core table) = subst (λ (t : List ℕ). Appends out.before out.now t) same o in
    (core, of_bytes, a.ann, valid, table, s.1.1, grew, known.0, known.1)) is)
