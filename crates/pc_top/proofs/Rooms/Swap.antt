-- The room of `swap`.
use Rattle.std.proofs.Common.{◌≡◌, ◌⊎◌, ℕ, List, [], Ok, Err, inl, inr, refl, sym, ap, subst, ◌∙◌, arith}
use Rattle.std.specs.{Prelude.{IfSome, IsSome}, Io.KnownBytes.Appends}
use Rattle.pc_base.specs.Lists.{Text}
use Rattle.pc_args.specs.Asked.{swap}
use Rattle.pc_core.specs.CoreData.{CoreData}
use Rattle.pc_io.specs.Sink.{Change}
use Rattle.pc_run.specs.Spreading.{spread}
use Rattle.pc_refusals.specs.Verdict.{Files, Named, named, EndsWith, Verdict, IsAccepting, done}
use Rattle.pc_refusals.proofs.{LastStages.{ends_cases, ends_one, ends_status}, Statuses.IsLate}
use Rattle.pc_commands.specs.Swap.{IsPlace, Neighbours, StandAt, SwapText, Swapping}
use Rattle.pc_top.specs.{Commands.Swap.{IsSwap, IsSwapAt, WritesSwap}, Commands.Swap.IsSwap.{placed, no_number}, Shapes.{LastOfTurns, OfTurns}}
use Rattle.pc_top.proofs.{Accepted.both_by, Begins.begins, Premises.Laws, Room.{Goes, Room, inferring, two_refuses}, Shapes.{scheduled_one, scheduled_says, turns_late}}
use Rattle.pc_commands.proofs.{OneSwap.{one_place, one_swapping}, SwapTold.{swap_cut, swap_says, swapping_late}}

abbrev Last : ℕ → LastOfTurns
Last place name core list = EndsWith (Swapping name core list place)

-- ---- its statuses

swapped_late : (place : ℕ) (name : Text) (core : CoreData) (list : List ℕ) (v : Verdict) → Last place name core list v → IsLate v.status
swapped_late place name core list = ends_status (λ text. text) (Swapping name core list place) IsLate (inl refl) (λ w h. swapping_late h)

goes : (files : Files) (source schedule place : Text) (v : Verdict) → IsSwap (named files source) (named files schedule) place v → Goes files (swap source schedule place) source refl refl v
goes files source schedule place v (placed n p is) =
    inl (begins (OfTurns (Last n) (named files schedule)) (named files source) (turns_late (Last n) (named files source) (named files schedule) (swapped_late n)) v is)
goes files source schedule place v (no_number none is) = inr (ap (λ (x : Verdict). x.status) is, λ has. none has.0 has.1)

-- ---- one verdict

module _ (laws : Laws) (file schedule : Named) (known : IsSome file.known) (unfailed : file.now ≡ file.before) (also : IsSome schedule.known) (too : schedule.now ≡ schedule.before) where
  one_at : (place : ℕ) (v w : Verdict) → IsSwapAt file schedule place v → IsSwapAt file schedule place w → v ≡ w
  one_at place = scheduled_one (Last place) file schedule laws known unfailed also too (λ name core list. ends_one (λ text. text) (Swapping name core list place) (one_swapping laws.kept laws.line name core list place))

  one_swap : (place : Text) (v w : Verdict) → IsSwap file schedule place v → IsSwap file schedule place w → v ≡ w
  one_swap place v w (placed n p a) (placed m q b) = one_at n v w a (subst (λ (k : ℕ). IsSwapAt file schedule k w) (one_place place m n q p) b)
  one_swap place v w (placed n p a) (no_number none is) = absurd (none n p)
  one_swap place v w (no_number none is) (placed m q b) = absurd (none m q)
  one_swap place v w (no_number none is) (no_number other was) = is ∙ sym was

-- ---- what is on out

-- Out grew by the report on the turns, or by nothing, and then the status is 12.
abbrev Wrote : Change → ℕ → ℕ → Text → Text → Type 0
Wrote out status place source schedule = WritesSwap out source schedule place ⊎ ((status ≡ 12) × Appends out.before out.now [])

wrote_by : (out : Change) (place : ℕ) (v : Verdict) (name : Text) (core : CoreData) (list : List ℕ) (source schedule : Text) → IsAccepting v.status → Appends out.before out.now v.out
    → ((t : Neighbours) → StandAt list place t → (text : Text) → SwapText core t text → Appends out.before out.now text → WritesSwap out source schedule place)
    → ((text : Text) × Swapping name core list place (Ok text) × (v ≡ done text)) ⊎ Swapping name core list place (Err v) → Wrote out v.status place source schedule
wrote_by out place v name core list source schedule e o by (inl (text, h, is)) =
    let t = swap_says h in
    inl (by t.0 t.1 text t.2 (subst (λ (w : Verdict). Appends out.before out.now w.out) is o))
wrote_by out place v name core list source schedule e o by (inr h) =
    let c = swap_cut h e in
    inr (c.0, subst (λ (t : Text). Appends out.before out.now t) c.1 o)

at_on_out : (file schedule : Named) (place : ℕ) (v : Verdict) (out : Change) → IsSwapAt file schedule place v → IsAccepting v.status → Appends out.before out.now v.out
    → IfSome file.known (λ bytes. IfSome schedule.known (Wrote out v.status place bytes))
at_on_out file schedule place v out is e o =
    scheduled_says (Last place) file schedule (Wrote out v.status place) v e
    (λ bytes text core turns of_bytes is_list l.
    wrote_by out place v schedule.name core (spread turns) bytes text e o (λ t a known h g. (core, of_bytes, turns, is_list, t, a, known, h, g))
    (ends_cases (λ (x : Text). x) (Swapping schedule.name core (spread turns) place) v l)) is

-- what `swap` wrote, or nothing
abbrev Grew : Change → Text → Text → Text → Type 0
Grew out place source schedule = (n : ℕ) × IsPlace place n × (WritesSwap out source schedule n ⊎ Appends out.before out.now [])

grew_by : (out : Change) (place : Text) (status n : ℕ) (source schedule : Text) → IsPlace place n → Wrote out status n source schedule → Grew out place source schedule
grew_by out place status n source schedule p (inl w) = (n, p, inl w)
grew_by out place status n source schedule p (inr w) = (n, p, inr w.1)

swap_on_out : (file schedule : Named) (place : Text) (v : Verdict) (out : Change) → IsSwap file schedule place v → IsAccepting v.status → Appends out.before out.now v.out
    → IfSome file.known (λ bytes. IfSome schedule.known (Grew out place bytes))
swap_on_out file schedule place v out (placed n p is) e o =
    both_by (Wrote out v.status n) (Grew out place) file.known schedule.known (λ x y. grew_by out place v.status n x y p) (at_on_out file schedule n v out is e o)
swap_on_out file schedule place v out (no_number none is) e o = absurd (two_refuses v.status (ap (λ (x : Verdict). x.status) is) e)

-- the same if it is done
abbrev Done : Change → Text → Text → Text → Type 0
Done out place source schedule = (n : ℕ) × IsPlace place n × WritesSwap out source schedule n

done_by : (out : Change) (place : Text) (status n : ℕ) (source schedule : Text) → status ≡ 0 → IsPlace place n → Wrote out status n source schedule → Done out place source schedule
done_by out place status n source schedule zero p (inl w) = (n, p, w)
done_by out place status n source schedule zero p (inr w) = let twelve = w.0 in absurd (omega (arith, zero, twelve))

pub swap_done : (file schedule : Named) (place : Text) (v : Verdict) (out : Change) → IsSwap file schedule place v → v.status ≡ 0 → Appends out.before out.now v.out
    → IfSome file.known (λ bytes. IfSome schedule.known (Done out place bytes))
swap_done file schedule place v out (placed n p is) e o =
    both_by (Wrote out v.status n) (Done out place) file.known schedule.known (λ x y. done_by out place v.status n x y e p) (at_on_out file schedule n v out is (inl e) o)
swap_done file schedule place v out (no_number none is) e o = absurd (two_refuses v.status (ap (λ (x : Verdict). x.status) is) (inl e))

pub swap_room : (files : Files) (source schedule place : Text) → Room files (swap source schedule place)
swap_room files source schedule place =
    inferring files (swap source schedule place) source refl refl (goes files source schedule place)
    (λ laws unfailed known. one_swap laws (named files source) (named files schedule) known.0 unfailed.0 known.1.0 unfailed.1.0 place)
    (λ tells v out is e o. swap_on_out (named files source) (named files schedule) place v out is e o)
