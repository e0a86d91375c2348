-- From the answer of `rcap` over files in memory to that of a call.
use Rattle.std.proofs.{Common.{◌≡◌, ◌∙◌, ℕ, Bool, true, false, List, [], Option, Some, None, inl, inr, refl, sym, ap, subst, true≢false, arith}, lemmas.Bool.eqb-true}
use Rattle.std.specs.{Prelude.{◌≢◌, ◌⊎◌, ◌==◌, Result}, Io.KnownBytes.Appends}
use Rattle.pc_args.specs.Asked.{Asked, check, command_of, events, explain, judge, make, outcomes, places, play, run, schedule_of, sends, show, swap, trace, upgrade}
use Rattle.pc_lib_buffers.specs.{Holding.HoldsTexts, Laying.{Buffer, BufferHolds, IsUntouched, buffer}, Places.no_place, Points.{Pointing, Points}, declared.beside.Beside.Beside, declared.place.Place.Place}
use Rattle.pc_io.specs.{Sink.{change, HasRisen}, declared.entries.Entry.Entry}
use Rattle.pc_base.specs.Lists.{Text}
use Rattle.pc_refusals.specs.{Source.{AcceptedStage, FailedInTurn, SourceStage, source_limit}, Verdict.{Completes, FailedAt, Reading, named, IsAccepting, Verdict}}
use Rattle.pc_top.specs.{Asked.{FailedIn, IsVerdict}, Commands.FailedOf}
use Rattle.pc_lib_call.specs.{Answers.{CallAnswers, no_memory, verdict}, Inner.Shelves.{IsVerdictOn, shelf}}

-- no reading of a shelf fails
never_at : (entries : List Entry) (taken : ℕ) (n name : Text) → FailedAt (named (shelf entries taken) n) name → ⊥
never_at entries taken n name f = omega (arith, f.1)

never_in_turn : {T : Type 0} → (entries : List Entry) (taken : ℕ) (a b : Text) (limit : ℕ) (Stages : Reading → Result T Verdict → Type 0) (name : Text)
    → FailedInTurn (named (shelf entries taken) a) limit Stages (named (shelf entries taken) b) name → ⊥
never_in_turn entries taken a b limit Stages name (inl f) = never_at entries taken a name f
never_in_turn entries taken a b limit Stages name (inr f) = never_at entries taken b name f.1

never_fails : (entries : List Entry) (taken : ℕ) (asked : Option Asked) (name : Text) → FailedOf (shelf entries taken) asked name → ⊥
never_fails entries taken None name f = f
never_fails entries taken (Some (check source)) name f = never_at entries taken source name f
never_fails entries taken (Some (judge source derivation)) name f = never_in_turn entries taken source derivation source_limit (SourceStage source) name f
never_fails entries taken (Some (run source schedule)) name f = never_in_turn entries taken source schedule source_limit (AcceptedStage source) name f
never_fails entries taken (Some (show source)) name f = never_at entries taken source name f
never_fails entries taken (Some (make seed size)) name f = f
never_fails entries taken (Some (swap source schedule place)) name f = never_in_turn entries taken source schedule source_limit (AcceptedStage source) name f.1
never_fails entries taken (Some (trace source schedule)) name f = never_in_turn entries taken source schedule source_limit (AcceptedStage source) name f
never_fails entries taken (Some (sends source)) name f = never_at entries taken source name f
never_fails entries taken (Some (upgrade source derivation)) name f = never_in_turn entries taken source derivation source_limit (SourceStage source) name f
never_fails entries taken (Some (schedule_of source seed)) name (p, f) = never_at entries taken source name f
never_fails entries taken (Some (play source seed)) name (p, f) = never_at entries taken source name f
never_fails entries taken (Some (outcomes source count)) name (p, f) = never_at entries taken source name f
never_fails entries taken (Some (places source)) name f = never_at entries taken source name f
never_fails entries taken (Some (events source schedule)) name f = never_in_turn entries taken source schedule source_limit (AcceptedStage source) name f
never_fails entries taken (Some (explain source)) name f = never_at entries taken source name f

-- a count that is unchanged did not rise
never_rose : HasRisen 0 0 → ⊥
never_rose r = omega (arith, r)

module _ (entries : List Entry) (taken : ℕ) (source : Text) (beside : Beside) (holds : HoldsTexts entries source beside) (words : List Text) (out err : Text) (status result : ℕ) (a b : Buffer) (place : Place) where
  -- the command's status is a verdict's, and it is answered
  whole : (status ≡ 11 → ⊥) → result ≡ status → BufferHolds a out → BufferHolds b err → Points source beside err place
      → ((status ≡ 11) ⊎ ((v : Verdict) × IsVerdict (shelf entries taken) words v × (status ≡ v.status) × Appends (Some []) (Some out) v.out × Appends (Some []) (Some err) v.err))
      → CallAnswers (IsVerdictOn source beside words) (Points source beside) result a b place
  whole other same l m p (inl e) = absurd (other e)
  whole other same l m p (inr h) =
      verdict h.0 (entries, holds, taken, h.1) (same ∙ h.2) (subst (BufferHolds a) h.3 l) (subst (BufferHolds b) h.4 m) (subst (λ (t : Text). Points source beside t place) h.4 p)

  -- What is handed over of a status, by what is answered.
  by_result : (is_memory : Bool) → (result == 11) ≡ is_memory → (result ≢ 11 → result ≡ status) → (result ≢ 11 → BufferHolds a out × BufferHolds b err × Points source beside err place)
      → (result ≡ 11 → IsUntouched a × IsUntouched b × (place ≡ no_place))
      → ((status ≡ 11) ⊎ ((v : Verdict) × IsVerdict (shelf entries taken) words v × (status ≡ v.status) × Appends (Some []) (Some out) v.out × Appends (Some []) (Some err) v.err))
      → CallAnswers (IsVerdictOn source beside words) (Points source beside) result a b place
  by_result true e same handed untouched h = let u = untouched (eqb-true result 11 e) in no_memory (eqb-true result 11 e) u.0 u.1 u.2
  by_result false e same handed untouched h =
      let other : result ≡ 11 → ⊥ = λ s. true≢false (sym (ap (λ (n : ℕ). n == 11) s) ∙ e) in
      let p = handed other in whole (λ s. other (same other ∙ s)) (same other) p.0 p.1 p.2 h

  -- The sinks were empty, nothing failed, and what the command answered was handed over.
  pub answers : (old_out old_err : Text) → old_out ≡ [] → old_err ≡ []
      → Completes (IsVerdict (shelf entries taken) words) (FailedIn (shelf entries taken) words) (change (Some old_out) (Some out) 0 0) (change (Some old_err) (Some err) 0 0) status
      → (result ≢ 11 → result ≡ status) → (result ≢ 11 → BufferHolds a out × BufferHolds b err × Points source beside err place) → (result ≡ 11 → IsUntouched a × IsUntouched b × (place ≡ no_place))
      → CallAnswers (IsVerdictOn source beside words) (Points source beside) result a b place
  answers old_out old_err e f done same handed untouched =
      let begins : Completes (IsVerdict (shelf entries taken) words) (FailedIn (shelf entries taken) words) (change (Some []) (Some out) 0 0) (change (Some []) (Some err) 0 0) status =
      subst (λ (x : Text). Completes (IsVerdict (shelf entries taken) words) (FailedIn (shelf entries taken) words) (change (Some x) (Some out) 0 0) (change (Some []) (Some err) 0 0) status) e
      (subst (λ (x : Text). Completes (IsVerdict (shelf entries taken) words) (FailedIn (shelf entries taken) words) (change (Some old_out) (Some out) 0 0) (change (Some x) (Some err) 0 0) status) f done) in
      by_result (result == 11) refl same handed untouched (begins (λ name g. never_fails entries taken (command_of words) name g) never_rose never_rose)

-- The texts that are handed over are those that the sinks hold.
pub handed : (source : Text) (beside : Beside) (status : ℕ) (a b : Buffer) (place : Place) (written out line err : Text) → written ≡ out → line ≡ err
    → (status ≢ 11 → BufferHolds a written × BufferHolds b line × Points source beside line place) → status ≢ 11 → BufferHolds a out × BufferHolds b err × Points source beside err place
handed source beside status a b place written out line err e f h other =
    let p = h other in (subst (BufferHolds a) e p.0, subst (BufferHolds b) f p.1, subst (λ (t : Text). Points source beside t place) f p.2)

-- Memory ran out, and nothing was laid.
pub refused : (V : Verdict → Type 0) (P : Pointing) (status : ℕ) (out err : Text) (n m : ℕ) (place : Place) → status ≡ 11 → n ≡ 0 → m ≡ 0 → place ≡ no_place
    → CallAnswers V P status (buffer out out n) (buffer err err m) place
refused V P status out err n m place s a b p = no_memory s (a, refl) (b, refl) p

pub not_accepting : (status : ℕ) → status ≡ 11 → IsAccepting status → ⊥
not_accepting status e (inl z) = omega (arith, e, z)
not_accepting status e (inr z) = omega (arith, e, z)

-- What is answered as accepting is the command's status.
pub accepting_status : (status result : ℕ) → (result ≢ 11 → result ≡ status) → IsAccepting result → IsAccepting status
accepting_status status result same accepting = subst IsAccepting (same (λ e. not_accepting result e accepting)) accepting

-- If the result answers a verdict, it answers whatever follows from the verdict.
pub answers_as : (V W : Verdict → Type 0) (P : Pointing) (status : ℕ) (a b : Buffer) (place : Place) → ((v : Verdict) → V v → W v) → CallAnswers V P status a b place → CallAnswers W P status a b place
answers_as V W P status a b place f (verdict v h s l m p) = verdict v (f v h) s l m p
answers_as V W P status a b place f (no_memory s l m p) = no_memory s l m p
