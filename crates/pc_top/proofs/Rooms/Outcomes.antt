-- The room of `outcomes`.
use Rattle.std.proofs.Common.{◌≡◌, ℕ, inl, inr, refl, subst}
use Rattle.std.specs.Io.KnownBytes.{Appends}
use Rattle.pc_args.specs.Asked.{outcomes}
use Rattle.pc_base.specs.Lists.{Text}
use Rattle.pc_outcomes.specs.Texts.{outcomes_text}
use Rattle.pc_refusals.specs.{Verdict.{Files, named, Verdict}, declared.typing.Accepted.Accepted}
use Rattle.pc_refusals.proofs.{LastStages.{ends_cases, ends_one, ends_status}, Statuses.IsLate}
use Rattle.pc_commands.specs.Outcomes.{IsCount, OutcomesTelling}
use Rattle.pc_top.specs.Commands.Outcomes.{Tabled, WritesOutcomes}
use Rattle.pc_commands.proofs.OneOutcome.{one_count, one_telling, refusal_other, table_by}
use Rattle.pc_top.proofs.{NumberRoom.numbered, Premises.Laws, Room.Room, Shapes.accepted_says}

tabled_late : (name : Text) (n : ℕ) (a : Accepted) (v : Verdict) → Tabled name n a v → IsLate v.status
tabled_late name n a = ends_status (λ text. text) (OutcomesTelling name a.source.core n) IsLate (inl refl) (λ w h. inr (inl (refusal_other h)))

one_tabled : (name : Text) → Laws → (n : ℕ) (a : Accepted) (v w : Verdict) → Tabled name n a v → Tabled name n a w → v ≡ w
one_tabled name laws n a = ends_one (λ text. text) (OutcomesTelling name a.source.core n) (one_telling laws.outcomes name a.source.core n)

pub outcomes_room : (files : Files) (source count : Text) → Room files (outcomes source count)
outcomes_room files source count =
    numbered files (outcomes source count) source refl refl (λ known. known.0) (λ unfailed. unfailed.0) (IsCount count) (Tabled source) (λ v is. is) (λ has. has) (one_count count) (tabled_late source) (one_tabled source)
    (λ v out n p is e o. accepted_says (Tabled source n) (named files source) (λ bytes. (m : ℕ) × IsCount count m × WritesOutcomes out m bytes) v e
    (λ a of_bytes valid l.
    let t = table_by e (ends_cases (λ (x : Text). x) (OutcomesTelling source a.source.core n) v l) in
    let grew : Appends out.before out.now (outcomes_text n t.0) = subst (λ (x : Text). Appends out.before out.now x) t.2 o in
    (n, p, (a.source.core, of_bytes, t.0, t.1, grew))) is)
