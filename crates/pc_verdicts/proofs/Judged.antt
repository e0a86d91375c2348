-- An annotation is valid or has a first fault.
use Rattle.std.proofs.{Common.{◌≡◌, ◌⊎◌, ◌<◌, ◌+◌, ℕ, zero, suc, Bool, true, false, length, Option, Some, None, Ok, Err, inl, inr, refl, sym, ap, ◌∙◌, subst, arith}, lemmas.Bool.cases_eq, lemmas.Option.{get_or_from_slice_get, none-some, same_Some}}
use Rattle.std.specs.Prelude.{slice_get}
use Rattle.pc_ann.specs.{declared.annotation.Ann.Ann, declared.annotation.Note.Note}
use Rattle.pc_caps.specs.declared.capability.Cap.{Cap}
use Rattle.pc_core.specs.{CoreData.CoreData, Formed.Formed, declared.nodes.Node.Node, declared.nodes.Slot.Slot}
use Rattle.pc_judge.proofs.{AtNode.{fails_set, passes}, Exact.{before_all, before_next}, Kept.{KeptBefore, kept_all, kept_next}}
use Rattle.pc_judge.specs.{Computed.leaves_unset, declared.faults.JudgeFault.JudgeFault}
use Rattle.pc_judge.specs.Faults as spec
use Rattle.pc_judge.specs.declared.faults.JudgeFault.TheVariants as fault
use Rattle.pc_base.proofs.Gets.{get_below, get_within}
use Rattle.pc_base.specs.Lists.{Text}
use Rattle.pc_valid.specs.{Words.before, Valid.{KeepsWritten, MeetsRule, Valid}}
use Rattle.pc_rules.specs.Rules.{IsSaid, said_by, says}
use Rattle.pc_rules.proofs.Derivations.{rule_to, to_rule}
use Rattle.pc_sub.specs.{Declarations.DeclOk, DeclarationFaults.first_fault, Faults.none_iff_fits, declared.faults.DeclFault.DeclFault}
use Rattle.pc_sub.proofs.FirstFaults.{first_is}
use Rattle.pc_refusals.specs.{Derivation.{Judging, judge_line}, Derivation.Judging.{fails, holds}, Verdict.refused, declared.source.Source.Source}
use Rattle.pc_verdicts.proofs.{Same.{Told, same_option, same_said, same_type}, Stages.HasEnd}

module _ (core : CoreData) (ann : Ann) (formed : Formed core) where
  abbrev Judged : Type 0
  Judged = Valid core ann ⊎ ((f : JudgeFault) × spec.FirstAnnotationFault core ann f)

  -- ---- nodes

  met : (n : ℕ) → n < length core.nodes → length ann.notes ≡ length core.nodes → Told (MeetsRule core ann n)
  met n l count =
      let x = get_within core.nodes n l in
      let t = get_within ann.notes n (omega (arith, l, count)) in
      elim (same_option same_said (says core ann x.0 (before t.0) t.0.rule x.0.kind) (Some (said_by t.0))) [
        | inl e ↦ inl (rule_to core formed ann n (x.0, t.0, x.1, t.1, e))
        | inr d ↦ inr (λ r. let h = to_rule core formed ann n r in d (subst (λ (y : Node). IsSaid core ann y t.0) (same_Some h.0 x.0 (sym h.2 ∙ x.1)) (subst (λ (s : Note). IsSaid core ann h.0 s) (same_Some h.1 t.0 (sym h.3 ∙ t.1)) h.4)))
      ]

  module _ (n : ℕ) (x : Node) (g : slice_get core.nodes n ≡ Some x) (b : spec.NothingWrongBefore core ann n) (on : spec.NothingWrongBefore core ann (n + 1) → Judged) where
    by_fields : MeetsRule core ann n → (c : Bool) → leaves_unset core ann n x.method ≡ c → Judged
    by_fields h true e =
        let u = (fails_set core ann n x.method formed h e).1 in
        inr (fault.Unset x.method, (u.0, n, u.1, u.2, b, h, u.3))
    by_fields h false e = on (before_next core ann n b (passes core ann n x formed g h e))

    by_rule : Told (MeetsRule core ann n) → Judged
    by_rule (inl h) = by_fields h (leaves_unset core ann n x.method) refl
    by_rule (inr d) = inr (fault.Node n, (get_below core.nodes n x g, b, d))

  nodes_judged : (rest n : ℕ) → n + rest ≡ length core.nodes → spec.NothingWrongBefore core ann n → Judged
  nodes_judged zero n count b = inl (before_all core ann n formed (omega (arith, count)) b)
  nodes_judged (suc rest) n count b =
      let x = get_within core.nodes n (omega (arith, count)) in
      by_rule n x.0 x.1 b (λ c. nodes_judged rest (n + 1) (omega (arith, count)) c) (met n (omega (arith, count)) b.shape.1)

  -- ---- slots

  keeps : (k : ℕ) (y : Slot) (o : Option (ℕ × Cap)) → y.written ≡ o → Told (spec.KeepsType ann k y)
  keeps k y None e = inl (λ ty is. absurd (none-some ty (sym e ∙ is)))
  keeps k y (Some ty) e = elim (same_option same_type (slice_get ann.slots k) (Some ty)) [
    | inl s ↦ inl (λ u is. s ∙ ap Some (same_Some ty u (sym e ∙ is)))
    | inr d ↦ inr (λ h. d (h ty e))
  ]

  kept_more : (k : ℕ) (y : Slot) → slice_get core.slots k ≡ Some y → KeptBefore core ann k → spec.KeepsType ann k y → KeptBefore core ann (k + 1)
  kept_more k y g kept right =
      let same = get_or_from_slice_get core.slots k y y g in
      kept_next core ann core.slots k k y refl (get_below core.slots k y g) refl kept (subst (λ (z : Slot). spec.KeepsType ann k z) (sym same) right)

  slots_told : (rest k : ℕ) → k + rest ≡ length core.slots → KeptBefore core ann k → KeepsWritten core ann ⊎ ((j : ℕ) × spec.FirstWrong core ann j)
  slots_told zero k count kept = inl (kept_all core ann core.slots k refl (omega (arith, count)) kept)
  slots_told (suc rest) k count kept =
      let y = get_within core.slots k (omega (arith, count)) in
      elim (keeps k y.0 y.0.written refl) [
        | inl right ↦ slots_told rest (k + 1) (omega (arith, count)) (kept_more k y.0 y.1 kept right)
        | inr d ↦ inr (k, (y.0, (y.1, d, kept)))
      ]

  -- ---- all of it

  shape_told : Told (spec.HasShape core ann)
  shape_told = elim (cases_eq (length ann.slots) (length core.slots)) [
    | inl e ↦ elim (cases_eq (length ann.notes) (length core.nodes)) [ inl f ↦ inl (e, f) | inr d ↦ inr (λ h. d h.1) ]
    | inr d ↦ inr (λ h. d h.0)
  ]

  by_slots : DeclOk core → spec.HasShape core ann → KeepsWritten core ann ⊎ ((j : ℕ) × spec.FirstWrong core ann j) → Judged
  by_slots ok shape (inl kept) =
      nodes_judged (length core.nodes) 0 (omega arith)
      (record { declarations = ok; shape = shape; written = kept; rules = λ k l. absurd (omega (arith, l)); sets = λ k l. absurd (omega (arith, l)) })
  by_slots ok shape (inr wrong) = inr (fault.Slot wrong.0, (ok, shape, wrong.1))

  by_shape : DeclOk core → Told (spec.HasShape core ann) → Judged
  by_shape ok (inl shape) = by_slots ok shape (slots_told (length core.slots) 0 (omega arith) (λ j y l. absurd (omega (arith, l))))
  by_shape ok (inr d) = inr (fault.Shape, (ok, d))

  by_declarations : (o : Option DeclFault) → first_fault core ≡ o → Judged
  by_declarations (Some f) e = inr (fault.Decl f, first_is core formed f e)
  by_declarations None e = by_shape ((none_iff_fits core formed).0 e) shape_told

  pub judged : Valid core ann ⊎ ((f : JudgeFault) × spec.FirstAnnotationFault core ann f)
  judged = by_declarations (first_fault core) refl

pub judging_ends : (source_name name : Text) (source : Source) (ann : Ann) → Formed source.core → HasEnd (Judging source_name name source ann)
judging_ends source_name name source ann formed = elim (judged source.core ann formed) [
  | inl v ↦ (Ok tt, holds v)
  | inr f ↦ (Err (refused 6 (judge_line source_name name source f.0)), fails f.0 f.1)
]
