-- What holds of a command's verdict, from what holds of its stages.
use Rattle.std.proofs.Common.{◌≡◌, ◌⊎◌, ℕ, Ok, Err, inl, inr, sym, ap, ◌∙◌, subst}
use Rattle.std.specs.Prelude.{Result}
use Rattle.pc_base.specs.Lists.{Text}
use Rattle.pc_refusals.specs.{Source.FromFile, Ends.HasOneEnd, Source.FromFile.{refuses, goes_on}, Verdict.{Named, Reading, IsReadingOf, EndsAs, Verdict, done, ended}}

-- ---- a last stage

module _ {T : Type 0} (text : T → Text) (Stage : Result T Verdict → Type 0) where
  -- it is done with a value's text, or the stage refused
  cases : (v : Verdict) (end : Result T Verdict) → Stage end → v ≡ ended text end → ((x : T) × Stage (Ok x) × (v ≡ done (text x))) ⊎ Stage (Err v)
  cases v (Ok x) h e = inl (x, h, e)
  cases v (Err w) h e = inr (subst (λ (z : Verdict). Stage (Err z)) (sym e) h)

  pub ends_cases : (v : Verdict) → EndsAs text Stage v → ((x : T) × Stage (Ok x) × (v ≡ done (text x))) ⊎ Stage (Err v)
  ends_cases v (end, h, e) = cases v end h e

  by_cases : (P : ℕ → Type 0) → P 0 → ((w : Verdict) → Stage (Err w) → P w.status) → (v : Verdict) → ((x : T) × Stage (Ok x) × (v ≡ done (text x))) ⊎ Stage (Err v) → P v.status
  by_cases P zero refusals v (inl (x, h, e)) = subst P (sym (ap (λ (w : Verdict). w.status) e)) zero
  by_cases P zero refusals v (inr h) = refusals v h

  -- what holds of 0 and of its refusals' statuses
  pub ends_status : (P : ℕ → Type 0) → P 0 → ((w : Verdict) → Stage (Err w) → P w.status) → (v : Verdict) → EndsAs text Stage v → P v.status
  ends_status P zero refusals v h = by_cases P zero refusals v (ends_cases v h)

  -- if the stage has one end, there is one verdict
  pub ends_one : HasOneEnd Stage → (v w : Verdict) → EndsAs text Stage v → EndsAs text Stage w → v ≡ w
  ends_one one v w (end, h, e) (other, k, f) = e ∙ (ap (ended text) (one end other h k) ∙ sym f)

-- ---- a file

module _ {T : Type 0} (file : Named) (limit : ℕ) (Stages : Reading → Result T Verdict → Type 0) (Last : T → Verdict → Type 0) where
  -- what holds of the statuses of its stages' refusals, and of what goes on
  pub from_status : (P : ℕ → Type 0) → ((r : Reading) (w : Verdict) → Stages r (Err w) → P w.status) → ((x : T) (w : Verdict) → Last x w → P w.status)
      → (v : Verdict) → FromFile file limit Stages Last v → P v.status
  from_status P refusals last v (refuses r g h) = refusals r v h
  from_status P refusals last v (goes_on r x g h l) = last x v l

  -- what its stages gave, if none of their refusals is the verdict
  pub passed : (v : Verdict) → ((r : Reading) → Stages r (Err v) → ⊥) → FromFile file limit Stages Last v → (r : Reading) × (x : T) × IsReadingOf file limit r × Stages r (Ok x) × Last x v
  passed v never (refuses r g h) = absurd (never r h)
  passed v never (goes_on r x g h l) = (r, x, g, h, l)
