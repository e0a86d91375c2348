-- What the top needs to know of a command: one record for each, made in the file of its name.
use Rattle.std.proofs.{Common.{◌≡◌, ◌⊎◌, ℕ, Option, Some, inl, inr, sym, ap, ◌∙◌, subst, arith, true, false}, lemmas.Option.{none-some, same_Some}}
use Rattle.std.specs.{Prelude.{IfSome, IsTrue}, Io.KnownBytes.Appends}
use Rattle.pc_base.specs.Lists.{Text}
use Rattle.pc_args.specs.Asked.{Asked}
use Rattle.pc_io.specs.Sink.{Change}
use Rattle.pc_refusals.specs.{Verdict.{Files, named, Verdict, IsAccepting}, Knowing.{AllKnown, NoneFailed}}
use Rattle.pc_refusals.proofs.{OneSource.SourceLaws, Statuses.IsOwn}
use Rattle.pc_top.specs.{Asked.{HasNoDerivationOf, OfFile, OfSource}, Commands.{IsVerdictOf, OnOutOf, infers, source_of}, Words.{HasNumber, files_of}, Laws.TablesTell, CoreOf.{IsDerivable, IsUnderivable}}
use Rattle.pc_top.proofs.{Begins.{Begins, begins_accepts, begins_exact, begins_own, begins_refuses}, Premises.{Laws, Refusing}}

pub record Room (files : Files) (asked : Asked) : Type 0 where
  -- if the bytes of its files are known and no reading failed, it has one verdict
  pub one : Laws → NoneFailed files (files_of asked) → AllKnown files.known (files_of asked) → (v w : Verdict) → IsVerdictOf files (Some asked) v → IsVerdictOf files (Some asked) w → v ≡ w
  -- whose status is that of no failure
  pub own : (v : Verdict) → IsVerdictOf files (Some asked) v → IsOwn v.status
  -- an accepting one means that its source has a derivation, if it must have one
  pub accepts : (v : Verdict) → IsVerdictOf files (Some asked) v → IsAccepting v.status → OfSource IsDerivable files.known (Some asked)
  -- one with status 1, that it looks for a derivation and there is none
  pub refuses : Refusing → (v : Verdict) → IsVerdictOf files (Some asked) v → v.status ≡ 1 → HasNoDerivationOf files.known (Some asked)
  -- and if there is none and it looks for one, that is its status
  pub exact : SourceLaws → Refusing → (source bytes : Text) → source_of asked ≡ Some source → files.known source ≡ Some bytes → files.now source ≡ files.before source → HasNumber asked → IsTrue (infers asked)
      → (v : Verdict) → IsVerdictOf files (Some asked) v → IsUnderivable bytes → v.status ≡ 1
  -- what out got with an accepting one
  pub writes : TablesTell → (v : Verdict) (out : Change) → IsVerdictOf files (Some asked) v → IsAccepting v.status → Appends out.before out.now v.out → OnOutOf files.known (Some asked) out

-- ---- words that are refused

pub two_own : (status : ℕ) → status ≡ 2 → IsOwn status
two_own status e = inl (omega (arith, e))

pub two_refuses : (status : ℕ) → status ≡ 2 → IsAccepting status → ⊥
two_refuses status is (inl e) = omega (arith, is, e)
two_refuses status is (inr e) = omega (arith, is, e)

pub two_not_one : (status : ℕ) → status ≡ 2 → status ≡ 1 → ⊥
two_not_one status is e = omega (arith, is, e)

-- ---- a command that is done

pub zero_own : IsOwn 0
zero_own = inl (omega arith)

abbrev pub NotOne : ℕ → Type 0
NotOne status = status ≡ 1 → ⊥

pub zero_not_one : NotOne 0
zero_not_one e = omega (arith, e)

-- ---- the source of a command

module _ (Holds : Text → Type 0) (known : Text → Option Text) (asked : Asked) where
  -- what holds of its file
  pub of_file : (source : Text) → source_of asked ≡ Some source → IfSome (known source) Holds → OfSource Holds known (Some asked)
  of_file source e h =
      (subst (λ (o : Option Text). OfFile Holds known o) (sym e) h, λ seed size is. absurd (none-some source (sym (ap source_of is) ∙ e)))

-- ---- a command that looks for a derivation of a file's source

module _ (files : Files) (asked : Asked) (source : Text) (its : source_of asked ≡ Some source) (looks : IsTrue (infers asked)) where
  -- A verdict of it: it begins with the source, or its number is refused.
  abbrev pub Goes : Verdict → Type 0
  Goes v = Begins (named files source) v ⊎ ((v.status ≡ 2) × (HasNumber asked → ⊥))

  goes_own : (v : Verdict) → Goes v → IsOwn v.status
  goes_own v (inl b) = begins_own b
  goes_own v (inr n) = two_own v.status n.0

  goes_accepts : (v : Verdict) → IsAccepting v.status → Goes v → OfSource IsDerivable files.known (Some asked)
  goes_accepts v e (inl b) = of_file IsDerivable files.known asked source its (begins_accepts b e)
  goes_accepts v e (inr n) = absurd (two_refuses v.status n.0 e)

  goes_refuses : Refusing → (v : Verdict) → v.status ≡ 1 → Goes v → HasNoDerivationOf files.known (Some asked)
  goes_refuses laws v e (inl b) = (looks, of_file IsUnderivable files.known asked source its (begins_refuses laws b e))
  goes_refuses laws v e (inr n) = absurd (two_not_one v.status n.0 e)

  goes_exact : SourceLaws → Refusing → (bytes : Text) → files.known source ≡ Some bytes → files.now source ≡ files.before source → HasNumber asked → (v : Verdict) → IsUnderivable bytes → Goes v → v.status ≡ 1
  goes_exact sources laws bytes known unfailed has v u (inl b) = begins_exact sources laws (named files source) bytes known unfailed v b u
  goes_exact sources laws bytes known unfailed has v u (inr n) = absurd (n.1 has)

  -- Its room, from what is its own.
  pub inferring : ((v : Verdict) → IsVerdictOf files (Some asked) v → Goes v)
      → (Laws → NoneFailed files (files_of asked) → AllKnown files.known (files_of asked) → (v w : Verdict) → IsVerdictOf files (Some asked) v → IsVerdictOf files (Some asked) w → v ≡ w)
      → (TablesTell → (v : Verdict) (out : Change) → IsVerdictOf files (Some asked) v → IsAccepting v.status → Appends out.before out.now v.out → OnOutOf files.known (Some asked) out)
      → Room files asked
  inferring goes one writes = record {
    one = one;
    own = λ v is. goes_own v (goes v is);
    accepts = λ v is e. goes_accepts v e (goes v is);
    refuses = λ laws v is e. goes_refuses laws v e (goes v is);
    exact = λ sources laws other bytes of known unfailed has i v is u.
        let same : source ≡ other = same_Some source other (sym its ∙ of) in
        goes_exact sources laws bytes (subst (λ (x : Text). files.known x ≡ Some bytes) (sym same) known) (subst (λ (x : Text). files.now x ≡ files.before x) (sym same) unfailed) has v u (goes v is);
    writes = writes;
  }

-- A command that looks for no derivation.
pub looks_for_none : (b : Asked) → infers b ≡ false → IsTrue (infers b) → ⊥
looks_for_none b e i = let bad : false ≡ true = sym e ∙ i in cc
