-- A verdict of a command that looks for a derivation of its source.
use Rattle.std.proofs.Common.{◌≡◌, ◌≤◌, ◌<◌, ℕ, length, Option, Some, Ok, Err, refl, sym, ap, subst, arith}
use Rattle.std.specs.Prelude.{IfSome}
use Rattle.pc_base.specs.Lists.{Text}
use Rattle.pc_core.specs.{CoreData.CoreData, Formed.Formed}
use Rattle.pc_valid.specs.Valid.{Derivable}
use Rattle.pc_refusals.specs.{Source.{AcceptedStage, Typing, SourceStage, source_limit}, Source.Typing.{declared, no_rule, unset}, Source.After.{stops, goes}, Source.FromFile.{refuses, goes_on}, Verdict.{Named, Reading, whole, longer, IsReading, IsReadingOf, Verdict, IsAccepting}, declared.source.Source.Source, declared.typing.Accepted.Accepted}
use Rattle.pc_refusals.proofs.{OneSource.{SourceLaws, differ, ok_same, one_source}, Statuses.{IsLate, IsOwn, accepted_own, accepted_refuses, late_not_one, late_own, other_not_one, source_other, typing_one}}
use Rattle.pc_top.specs.{CoreOf.{CoreOf, IsDerivable, IsUnderivable}, Shapes.OfAccepted}
use Rattle.pc_top.proofs.{Accepted.{derivable, of_source}, Deriving.{accepted_source, core_passes, source_formed, source_says}, Premises.Refusing}

-- It is that of a source that is refused, or the source is accepted and the verdict has a late status.
pub data Begins (file : Named) (v : Verdict) : Type 0 where
  refused : (r : Reading) → IsReadingOf file source_limit r → AcceptedStage file.name r (Err v) → Begins file v
  accepted : (r : Reading) (a : Accepted) → IsReadingOf file source_limit r → AcceptedStage file.name r (Ok a) → IsLate v.status → Begins file v

pub begins : (Last : Accepted → Verdict → Type 0) (file : Named) → ((a : Accepted) (w : Verdict) → Last a w → IsLate w.status) → (v : Verdict) → OfAccepted Last file v → Begins file v
begins Last file late v (refuses r g h) = refused r g h
begins Last file late v (goes_on r a g h l) = accepted r a g h (late a v l)

pub begins_own : {file : Named} {v : Verdict} → Begins file v → IsOwn v.status
begins_own (refused r g h) = accepted_own h
begins_own {v = v} (accepted r a g h l) = late_own v.status l

pub begins_accepts : {file : Named} {v : Verdict} → Begins file v → IsAccepting v.status → IfSome file.known IsDerivable
begins_accepts (refused r g h) e = absurd (accepted_refuses h e)
begins_accepts {file = file} (accepted r a g h l) e = let s = accepted_source h in derivable file r a.source a.ann g s.0 s.1

-- ---- status 1

module _ (laws : Refusing) where
  pub typing_refuses : {name : Text} {s : Source} {v : Verdict} → Formed s.core → Typing name s (Err v) → Derivable s.core → ⊥
  typing_refuses {s = s} is (declared f g) d = laws.failing s.core f is g d
  typing_refuses {s = s} is (no_rule ann n h) d = laws.ruleless s.core ann n is h d
  typing_refuses {s = s} is (unset ann m left) d = laws.setless s.core ann m is left d

  underived : (file : Named) (r : Reading) (v : Verdict) → IsReadingOf file source_limit r → AcceptedStage file.name r (Err v) → v.status ≡ 1 → IfSome file.known IsUnderivable
  underived file r v g (stops h) e = absurd (other_not_one v.status (source_other h) e)
  underived file r v g (goes {x = s} h t) e = of_source IsUnderivable file r s g h (s.core, (source_says h).1, typing_refuses (source_formed laws.formed h).0 t)

  pub begins_refuses : {file : Named} {v : Verdict} → Begins file v → v.status ≡ 1 → IfSome file.known IsUnderivable
  begins_refuses {file = file} {v = v} (refused r g h) e = underived file r v g h e
  begins_refuses {v = v} (accepted r a g h l) e = absurd (late_not_one v.status l e)

-- A source whose bytes are known and within the limit is read whole.
some_whole : (bytes : Text) (before now taken : ℕ) (r : Reading) → now ≡ before → length bytes ≤ source_limit → IsReading source_limit (Some bytes) before now taken r → r ≡ whole bytes
some_whole bytes before now taken (whole b) n l g = ap whole g.1
some_whole bytes before now taken longer n l g = let long : source_limit < length bytes = g.1 n in absurd (omega (arith, l, long))

reads_whole : (file : Named) (bytes : Text) (r : Reading) → file.known ≡ Some bytes → file.now ≡ file.before → length bytes ≤ source_limit → IsReadingOf file source_limit r → r ≡ whole bytes
reads_whole file bytes r e n l g = some_whole bytes file.before file.now file.taken r n l (subst (λ (o : Option Text). IsReading source_limit o file.before file.now file.taken r) e g)

module _ (sources : SourceLaws) (laws : Refusing) (file : Named) (bytes : Text) (tells : file.known ≡ Some bytes) (unfailed : file.now ≡ file.before) where
  -- its stages let a source with a core pass, and give the core
  module _ (core : CoreData) (c : CoreOf bytes core) where
    abbrev passed : Source
    passed = record { bytes = bytes; core = core }

    passes : (r : Reading) → IsReadingOf file source_limit r → SourceStage file.name r (Ok passed)
    passes r g = subst (λ (q : Reading). SourceStage file.name q (Ok passed)) (sym (reads_whole file bytes r tells unfailed c.short g)) (core_passes file.name bytes core c)

    not_refused : (r : Reading) (v : Verdict) → IsReadingOf file source_limit r → SourceStage file.name r (Err v) → ⊥
    not_refused r v g h = differ passed v (Ok passed) (Err v) refl refl (one_source sources file.name r (Ok passed) (Err v) (passes r g) h)

    same_core : (r : Reading) (s : Source) → IsReadingOf file source_limit r → SourceStage file.name r (Ok s) → s.core ≡ core
    same_core r s g h = ap (λ (x : Source). x.core) (ok_same s passed (Ok s) (Ok passed) refl refl (one_source sources file.name r (Ok s) (Ok passed) h (passes r g)))

    -- with a derivation, so does the last stage
    let_pass : (r : Reading) (v : Verdict) → Derivable core → IsReadingOf file source_limit r → AcceptedStage file.name r (Err v) → ⊥
    let_pass r v d g (stops h) = not_refused r v g h
    let_pass r v d g (goes {x = s} h t) = typing_refuses laws (source_formed laws.formed h).0 t (subst Derivable (sym (same_core r s g h)) d)

    pub went_on : (Last : Accepted → Verdict → Type 0) (v : Verdict) → Derivable core → OfAccepted Last file v → (a : Accepted) × Last a v
    went_on Last v d (refuses r g h) = absurd (let_pass r v d g h)
    went_on Last v d (goes_on r a g h l) = (a, l)

    -- without one, it refuses with 1
    pub refused_one : (v : Verdict) → (Derivable core → ⊥) → Begins file v → v.status ≡ 1
    refused_one v none (refused r g (stops h)) = absurd (not_refused r v g h)
    refused_one v none (refused r g (goes {x = s} h t)) = typing_one t
    refused_one v none (accepted r a g h l) =
        let s = accepted_source h in
        absurd (none (subst Derivable (same_core r a.source g s.0) (a.ann, s.1)))

  pub begins_exact : (v : Verdict) → Begins file v → IsUnderivable bytes → v.status ≡ 1
  begins_exact v b u = refused_one u.0 u.1 v u.2 b
