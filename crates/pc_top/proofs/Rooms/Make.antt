-- The room of `make`.
use Rattle.std.proofs.{Common.{◌≡◌, ◌<◌, ℕ, ◌++◌, length, refl, sym, ap, ap₂, subst, ◌∙◌, arith}, lemmas.Option.none-some}
use Rattle.std.specs.Io.KnownBytes.{Appends}
use Rattle.pc_base.specs.Lists.{Text}
use Rattle.pc_args.specs.{Asked.make, Line.{IsSeed, IsSize}}
use Rattle.pc_core.specs.CoreData.{CoreData}
use Rattle.pc_gen.specs.Generated.{generated_text, schedule}
use Rattle.pc_io.specs.Sink.{Change}
use Rattle.pc_run.specs.Spreading.{spread}
use Rattle.pc_semantics.specs.Text.{run_text}
use Rattle.pc_refusal_lines.specs.Lines.{counts_line}
use Rattle.pc_refusals.specs.{Verdict.{FailedAt, Files, text_as, Verdict, IsAccepting, headed}, declared.typing.Accepted.Accepted}
use Rattle.pc_refusals.proofs.{OneSource.SourceLaws, Statuses.{IsLate, IsOwn}}
use Rattle.pc_top.specs.{Asked.OfMade, Commands.Make.{IsMade, IsMake, MadeRun, WritesMade}, Commands.Make.IsMake.{made, no_numbers}, CoreOf.{CoreOf, IsDerivable, IsUnderivable}}
use Rattle.pc_commands.specs.Make.{made_line, made_name}
use Rattle.pc_top.proofs.{Begins.{Begins, begins, begins_accepts, begins_exact, begins_own, begins_refuses}, Premises.{Laws, Refusing}, Room.{Room, two_not_one, two_own, two_refuses}, Shapes.{accepted_one, accepted_says}}
use Rattle.pc_commands.proofs.Ran.{one_ran, ran_late, ran_says}

-- a text that is in no file is read without a failure
pub never_failed : (name text n : Text) → FailedAt (text_as name text) n → ⊥
never_failed name text n f = let rose : 0 < 0 = f.1 in omega (arith, rose)

made_late : (seed size : ℕ) (a : Accepted) (v : Verdict) → MadeRun seed size a v → IsLate v.status
made_late seed size a v (w, r, is) = subst IsLate (sym (ap (λ (x : Verdict). x.status) is)) (ran_late made_name a.source.core (spread (schedule size)) w r)

made_begins : (a b : ℕ) (v : Verdict) → IsMade a b v → Begins (text_as made_name (generated_text a b)) v
made_begins a b = begins (MadeRun a b) (text_as made_name (generated_text a b)) (made_late a b)

-- ---- one verdict

module _ (laws : Laws) where
  one_made_run : (seed size : ℕ) (a : Accepted) (v w : Verdict) → MadeRun seed size a v → MadeRun seed size a w → v ≡ w
  one_made_run seed size a v w (x, r, is) (y, s, was) =
      is ∙ (ap (headed (made_line seed size a.source.core)) (one_ran made_name a.source.core (spread (schedule size)) x y r s) ∙ sym was)

  one_made : (a b : ℕ) (v w : Verdict) → IsMade a b v → IsMade a b w → v ≡ w
  one_made a b = accepted_one (MadeRun a b) (text_as made_name (generated_text a b)) laws refl refl (one_made_run a b)

  one_make : (seed size : Text) (v w : Verdict) → IsMake seed size v → IsMake seed size w → v ≡ w
  one_make seed size v w (made a b s t is) (made c d u z was) =
      let same : IsMade c d w ≡ IsMade a b w = ap₂ (λ (m n : ℕ). IsMade m n w) (u.0.2 ∙ sym s.0.2) (z.0.2 ∙ sym t.0.2) in
      one_made a b v w is (subst (λ (X : Type 0). X) same was)
  one_make seed size v w (made a b s t is) (no_numbers none was) = absurd (none a b s t)
  one_make seed size v w (no_numbers none is) (made a b s t was) = absurd (none a b s t)
  one_make seed size v w (no_numbers none is) (no_numbers other was) = is ∙ sym was

-- ---- its statuses

make_own : (seed size : Text) (v : Verdict) → IsMake seed size v → IsOwn v.status
make_own seed size v (made a b s t is) = begins_own (made_begins a b v is)
make_own seed size v (no_numbers n is) = two_own v.status (ap (λ (x : Verdict). x.status) is)

make_accepts : (seed size : Text) (v : Verdict) → IsMake seed size v → IsAccepting v.status → OfMade IsDerivable seed size
make_accepts seed size v (made a b s t is) e = (a, b, s, t, begins_accepts (made_begins a b v is) e)
make_accepts seed size v (no_numbers n is) e = absurd (two_refuses v.status (ap (λ (x : Verdict). x.status) is) e)

make_refuses : Refusing → (seed size : Text) (v : Verdict) → IsMake seed size v → v.status ≡ 1 → OfMade IsUnderivable seed size
make_refuses laws seed size v (made a b s t is) e = (a, b, s, t, begins_refuses laws (made_begins a b v is) e)
make_refuses laws seed size v (no_numbers n is) e = absurd (two_not_one v.status (ap (λ (x : Verdict). x.status) is) e)

-- the program of these numbers
pub make_exact : SourceLaws → Refusing → (seed size : Text) (a b : ℕ) (v : Verdict) → IsSeed seed a → IsSize size b → IsMake seed size v → IsUnderivable (generated_text a b) → v.status ≡ 1
make_exact sources laws seed size a b v s t (made c d u z is) under =
    let same : IsMade c d v ≡ IsMade a b v = ap₂ (λ (m n : ℕ). IsMade m n v) (u.0.2 ∙ sym s.0.2) (z.0.2 ∙ sym t.0.2) in
    begins_exact sources laws (text_as made_name (generated_text a b)) (generated_text a b) refl refl v (made_begins a b v (subst (λ (X : Type 0). X) same is)) under
make_exact sources laws seed size a b v s t (no_numbers none is) under = absurd (none a b s t)

pub make_underived : Refusing → (seed size : Text) (a b : ℕ) (v : Verdict) → IsSeed seed a → IsSize size b → IsMake seed size v → v.status ≡ 1 → IsUnderivable (generated_text a b)
make_underived laws seed size a b v s t is e =
    let m = make_refuses laws seed size v is e in
    let same : IsUnderivable (generated_text m.0 m.1) ≡ IsUnderivable (generated_text a b) = ap₂ (λ (x y : ℕ). IsUnderivable (generated_text x y)) (m.2.0.2 ∙ sym s.0.2) (m.3.0.2 ∙ sym t.0.2) in
    subst (λ (X : Type 0). X) same m.4

-- ---- what is on out

made_on_out : (a b : ℕ) (v : Verdict) (out : Change) → IsMade a b v → IsAccepting v.status → Appends out.before out.now v.out → WritesMade out a b
made_on_out a b v out is e o =
    let Holds : Text → Type 0 = λ text. (core : CoreData) × CoreOf text core × Appends out.before out.now (counts_line a b (length core.nodes) ++ run_text core (spread (schedule b))) in
    accepted_says (MadeRun a b) (text_as made_name (generated_text a b)) Holds v e
    (λ x of_bytes valid m.
    let grew : Appends out.before out.now (made_line a b x.source.core ++ m.0.out) = subst (λ (w : Verdict). Appends out.before out.now w.out) m.2 o in
    (x.source.core, of_bytes, subst (λ (t : Text). Appends out.before out.now (made_line a b x.source.core ++ t)) (ran_says m.1) grew)) is

make_on_out : (seed size : Text) (v : Verdict) (out : Change) → IsMake seed size v → IsAccepting v.status → Appends out.before out.now v.out
    → (a b : ℕ) × IsSeed seed a × IsSize size b × WritesMade out a b
make_on_out seed size v out (made a b s t is) e o = (a, b, s, t, made_on_out a b v out is e o)
make_on_out seed size v out (no_numbers n is) e o = absurd (two_refuses v.status (ap (λ (x : Verdict). x.status) is) e)

-- the words of the one command are those of the other
made_same : (Holds : Text → Type 0) (seed size a b : Text) → make seed size ≡ make a b → OfMade Holds seed size → OfMade Holds a b
made_same Holds seed size a b same h =
    let first : seed ≡ a = cc same in
    let second : size ≡ b = cc same in
    subst (λ (x : Text). OfMade Holds x b) first (subst (λ (y : Text). OfMade Holds seed y) second h)

pub make_room : (files : Files) (seed size : Text) → Room files (make seed size)
make_room files seed size = record {
  one = λ laws unfailed known v w a b. one_make laws seed size v w a b;
  own = λ v is. make_own seed size v is;
  accepts = λ v is e. (tt, λ a b same. made_same IsDerivable seed size a b same (make_accepts seed size v is e));
  refuses = λ laws v is e. (refl, (tt, λ a b same. made_same IsUnderivable seed size a b same (make_refuses laws seed size v is e)));
  exact = λ sources laws other bytes of known unfailed has i v is u. absurd (none-some other of);
  writes = λ tells v out is e o. make_on_out seed size v out is e o;
}
