-- Any two ends of the stages after a source are equal.
use Rattle.std.proofs.{Common.{◌≡◌, ℕ, List, Ok, Err, refl, sym, ◌∙◌, ap}, lemmas.Option.same_Some}
use Rattle.std.specs.Prelude.{slice_get, codes}
use Rattle.pc_ann.specs.declared.annotation.Ann.{Ann}
use Rattle.pc_core.specs.{declared.declarations.Method.Method, declared.nodes.Node.Node, CoreData.CoreData, Formed.Formed}
use Rattle.pc_deriv.specs.{Text.derivation_limit, declared.fault.DerivFault.DerivFault}
use Rattle.pc_judge.specs.declared.faults.JudgeFault.{JudgeFault}
use Rattle.pc_valid.specs.NoRule.{NoRule, Unset}
use Rattle.pc_sched.specs.{Schedules.schedule_limit, declared.fault.SchedFault.TheVariants.{BadWord, TooMany}, declared.turns.Turn.Turn}
use Rattle.pc_sub.specs.{Declarations.DeclOk, FirstFault.IsFirstDeclarationFault, declared.faults.DeclFault.DeclFault}
use Rattle.pc_base.specs.Lists.{Text}
use Rattle.pc_refusals.specs.{Source.{AcceptedStage, Typing, ScheduleStage, Scheduling, Length, SourceStage}, Ends.HasOneEnd, Source.Typing.{typed, declared, no_rule, unset}, FaultLines.{decl_offset, decl_text}, Derivation.{Deriving, DerivationStage, Judging, judge_line, text_status, text_line}, Derivation.Deriving.{reads, garbled}, Derivation.Judging.{holds, fails}, Verdict.{Reading, refused}, Source.Scheduling.{scheduled, bad_word, too_many}, declared.source.Source.Source}
use Rattle.pc_refusal_lines.specs.Lines.{offset_line}
use Rattle.pc_refusals.proofs.OneSource.{after_is_one, one_length, one_source}
use Rattle.pc_top.proofs.{Deriving.source_formed, Premises.Laws}

-- the place of a schedule's fault
bad_same : (p q : ℕ) → BadWord p ≡ BadWord q → p ≡ q
bad_same p q e = cc e

many_same : (p q : ℕ) → TooMany p ≡ TooMany q → p ≡ q
many_same p q e = cc e

bad_many : {C : Type 0} (p q : ℕ) → BadWord p ≡ TooMany q → C
bad_many p q e = cc

module _ (laws : Laws) where
  -- ---- the annotation of a core

  no_fault : (core : CoreData) (f : DeclFault) → Formed core → DeclOk core → IsFirstDeclarationFault core f → ⊥
  no_fault core f is d e = (laws.fits core is).0 d f e

  node_same : (core : CoreData) (a b : Ann) (n m : ℕ) (s : NoRule core a n) (t : NoRule core b m) → n ≡ m → s.at ≡ t.at
  node_same core a b n m s t e = same_Some s.at t.at (sym s.is_at ∙ (ap (slice_get core.nodes) e ∙ t.is_at))

  method_same : (core : CoreData) (a b : Ann) (n m : ℕ) (s : Unset core a n) (t : Unset core b m) → n ≡ m → s.method ≡ t.method
  method_same core a b n m s t e = same_Some s.method t.method (sym s.is_method ∙ (ap (slice_get core.methods) e ∙ t.is_method))

  module _ (name : Text) (s : Source) (is : Formed s.core) where
    one_typing : HasOneEnd (Typing name s)
    one_typing _ _ (typed a v) (typed b w) = ap (λ (x : Ann). Ok (record { source = s; ann = x })) (laws.valid s.core a b is v w)
    one_typing _ _ (typed a v) (declared f e) = absurd (laws.refusing.failing s.core f is e (a, v))
    one_typing _ _ (typed a v) (no_rule b n h) = absurd (laws.refusing.ruleless s.core b n is h (a, v))
    one_typing _ _ (typed a v) (unset b m left) = absurd (laws.refusing.setless s.core b m is left (a, v))
    one_typing _ _ (declared f e) (typed a v) = absurd (laws.refusing.failing s.core f is e (a, v))
    one_typing _ _ (declared f e) (declared g h) = ap (λ (x : DeclFault). Err (refused 1 (offset_line name s.bytes (decl_offset s.core x) (decl_text x)))) (laws.one_declared s.core f g is e h)
    one_typing _ _ (declared f e) (no_rule b n h) = absurd (no_fault s.core f is h.declarations e)
    one_typing _ _ (declared f e) (unset b m left) = absurd (no_fault s.core f is left.declarations e)
    one_typing _ _ (no_rule a n h) (typed b v) = absurd (laws.refusing.ruleless s.core a n is h (b, v))
    one_typing _ _ (no_rule a n h) (declared f e) = absurd (no_fault s.core f is h.declarations e)
    one_typing _ _ (no_rule a n h) (no_rule b m i) =
        ap (λ (x : Node). Err (refused 1 (offset_line name s.bytes x.span.start (codes "no rule")))) (node_same s.core a b n m h i (laws.node s.core a b n m is h i))
    one_typing _ _ (no_rule a n h) (unset b m left) = absurd (laws.kind s.core a b n m is h left)
    one_typing _ _ (unset a m left) (typed b v) = absurd (laws.refusing.setless s.core a m is left (b, v))
    one_typing _ _ (unset a m left) (declared f e) = absurd (no_fault s.core f is left.declarations e)
    one_typing _ _ (unset a m left) (no_rule b n h) = absurd (laws.kind s.core b a n m is h left)
    one_typing _ _ (unset a m left) (unset b k right) =
        ap (λ (x : Method). Err (refused 1 (offset_line name s.bytes x.span.start (codes "field not set")))) (method_same s.core a b m k left right (laws.constructor s.core a b m k is left right))

  -- the core of a source that all stages let pass
  pub formed_of : {name : Text} {r : Reading} {s : Source} → SourceStage name r (Ok s) → Formed s.core
  formed_of h = (source_formed laws.refusing.formed h).0

  pub one_accepted : (name : Text) (r : Reading) → HasOneEnd (AcceptedStage name r)
  one_accepted name r = after_is_one (SourceStage name r) (Typing name) (one_source laws.source name r) (λ s h. one_typing name s (formed_of h))

  -- ---- a derivation

  one_deriving : (name bytes : Text) → HasOneEnd (Deriving name bytes)
  one_deriving name bytes _ _ (reads {ann = a} t) (reads {ann = b} u) = ap (λ (x : Ann). Ok x) (laws.annotation bytes a b t u)
  one_deriving name bytes _ _ (reads {ann = a} t) (garbled f h) = absurd (laws.apart bytes a f t h)
  one_deriving name bytes _ _ (garbled f h) (reads {ann = a} t) = absurd (laws.apart bytes a f t h)
  one_deriving name bytes _ _ (garbled f h) (garbled g i) = ap (λ (x : DerivFault). Err (refused (text_status x) (text_line name x))) (laws.text_fault bytes f g h i)

  pub one_derivation : (name : Text) (r : Reading) → HasOneEnd (DerivationStage name r)
  one_derivation name r = after_is_one (Length derivation_limit name r) (Deriving name) (one_length derivation_limit name r) (λ bytes l. one_deriving name bytes)

  pub one_judging : (source_name name : Text) (s : Source) (ann : Ann) → Formed s.core → HasOneEnd (Judging source_name name s ann)
  one_judging source_name name s ann is _ _ (holds v) (holds w) = refl
  one_judging source_name name s ann is _ _ (holds v) (fails f h) = absurd (laws.not_valid s.core ann f is h v)
  one_judging source_name name s ann is _ _ (fails f h) (holds v) = absurd (laws.not_valid s.core ann f is h v)
  one_judging source_name name s ann is _ _ (fails f h) (fails g i) = ap (λ (x : JudgeFault). Err (refused 6 (judge_line source_name name s x))) (laws.first s.core ann f g is h i)

  -- ---- a schedule

  one_scheduling : (name bytes : Text) → HasOneEnd (Scheduling name bytes)
  one_scheduling name bytes _ _ (scheduled {turns = t} h) (scheduled {turns = u} k) = ap (λ (x : List Turn). Ok x) (laws.turns bytes t u h.0 k.0)
  one_scheduling name bytes _ _ (scheduled {turns = t} h) (bad_word at k) = absurd (laws.not_both bytes t (BadWord at) h k)
  one_scheduling name bytes _ _ (scheduled {turns = t} h) (too_many at k) = absurd (laws.not_both bytes t (TooMany at) h k)
  one_scheduling name bytes _ _ (bad_word at h) (scheduled {turns = t} k) = absurd (laws.not_both bytes t (BadWord at) k h)
  one_scheduling name bytes _ _ (bad_word at h) (bad_word p k) =
      ap (λ (x : ℕ). Err (refused 7 (offset_line name bytes x (codes "bad word")))) (bad_same at p (laws.word bytes (BadWord at) (BadWord p) h k))
  one_scheduling name bytes _ _ (bad_word at h) (too_many p k) = bad_many at p (laws.word bytes (BadWord at) (TooMany p) h k)
  one_scheduling name bytes _ _ (too_many at h) (scheduled {turns = t} k) = absurd (laws.not_both bytes t (TooMany at) k h)
  one_scheduling name bytes _ _ (too_many at h) (bad_word p k) = bad_many p at (laws.word bytes (BadWord p) (TooMany at) k h)
  one_scheduling name bytes _ _ (too_many at h) (too_many p k) =
      ap (λ (x : ℕ). Err (refused 8 (offset_line name bytes x (codes "too many steps")))) (many_same at p (laws.word bytes (TooMany at) (TooMany p) h k))

  pub one_schedule : (name : Text) (r : Reading) → HasOneEnd (ScheduleStage name r)
  one_schedule name r = after_is_one (Length schedule_limit name r) (Scheduling name) (one_length schedule_limit name r) (λ bytes l. one_scheduling name bytes)
