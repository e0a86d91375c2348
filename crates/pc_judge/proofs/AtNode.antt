-- The fault at one node.
use Rattle.std.specs.Prelude.{◌≡◌, ℕ, Bool, true, false, not, Option, Some, None, slice_get, refl}
use Rattle.std.proofs.{Common.{ap, sym, subst, ◌∙◌}, lemmas.Bool.{and_parts, eqb-true, eq-eqb, and_from}, lemmas.Option.{same_Some, none-some}}
use Rattle.pc_base.proofs.{Gets.get_below, Bools.no_both}
use Rattle.pc_core.specs.{declared.declarations.Method.Method, declared.nodes.Node.Node, CoreData.CoreData, Formed.Formed}
use Rattle.pc_ann.specs.{declared.annotation.Note.Note, declared.annotation.Ann.Ann}
use Rattle.pc_rules.specs.Parts.{full}
use Rattle.pc_valid.specs.Valid.{MeetsRule, SetsFields}
use Rattle.pc_rules.proofs.RecordWords.{constructs_iff, all_set_iff}
use Rattle.pc_judge.specs.declared.faults.JudgeFault.TheVariants as fault
use Rattle.pc_judge.specs.AtNodes as spec
use Rattle.pc_judge.specs.Computed as computed
use Rattle.pc_judge.proofs.Bodies.{body_method}

not_both : (b : Bool) → b ≡ true → not b ≡ true → ⊥
not_both true e f = cc f
not_both false e f = cc e

true_or : (b : Bool) → (not b ≡ true → ⊥) → b ≡ true
true_or true f = refl
true_or false f = absurd (f refl)

ends_at : (o : Option ℕ) (n : ℕ) → computed.ends o n ≡ true → o ≡ Some n
ends_at None n e = absurd (let bad : false ≡ true = e in cc)
ends_at (Some b) n e = ap Some (eqb-true b n e)

at_ends : (o : Option ℕ) (n : ℕ) → o ≡ Some n → computed.ends o n ≡ true
at_ends None n e = absurd (none-some n e)
at_ends (Some b) n e = eq-eqb b n (same_Some b n e)

-- If the computation says that a field is not set, it is not.
unset_method : (core : CoreData) (ann : Ann) (n m : ℕ) (o : Option Method) (p : Option Note) → Formed core → slice_get core.methods m ≡ o → slice_get ann.notes n ≡ p → computed.unset_of core n o p ≡ true → (x : Method) × (slice_get core.methods m ≡ Some x) × (x.body ≡ Some n) × (SetsFields core ann x → ⊥)
unset_method core ann n m None None f g h e = absurd (let bad : false ≡ true = e in cc)
unset_method core ann n m None (Some t) f g h e = absurd (let bad : false ≡ true = e in cc)
unset_method core ann n m (Some x) None f g h e = absurd (let bad : false ≡ true = e in cc)
unset_method core ann n m (Some x) (Some t) f g h e =
    let a = and_parts _ _ e in
    let b = and_parts _ _ a.1 in
    let at = ends_at x.body n b.0 in
    (x, g, at, λ s. not_both (full core x.entity t.set_after) ((all_set_iff core x.entity t.set_after f).1 (s ((constructs_iff x.kind).0 a.0) n t at h)) b.1)

-- If it does not say so, the fields are set.
set_method : (core : CoreData) (ann : Ann) (n : ℕ) (x : Method) → Formed core → computed.unset_of core n (Some x) (slice_get ann.notes n) ≡ false → x.body ≡ Some n → SetsFields core ann x
set_method core ann n x f e at c b t body there =
    let same : n ≡ b = same_Some n b (sym at ∙ body) in
    let note : slice_get ann.notes n ≡ Some t = ap (slice_get ann.notes) same ∙ there in
    let unset : computed.unset_behind core n x t ≡ false = subst (λ (o : Option Note). computed.unset_of core n (Some x) o ≡ false) note e in
    (all_set_iff core x.entity t.set_after f).0 (true_or (full core x.entity t.set_after) (λ h. no_both _ (and_from _ _ ((constructs_iff x.kind).1 c) (and_from _ _ (at_ends x.body n at) h)) unset))

-- ---- the three results

pub fails_rule : (core : CoreData) (ann : Ann) (n : ℕ) (x : Node) → slice_get core.nodes n ≡ Some x → (MeetsRule core ann n → ⊥) → spec.FailsAt core ann n (fault.Node n)
fails_rule core ann n x g h = (refl, get_below core.nodes n x g, h)

pub fails_set : (core : CoreData) (ann : Ann) (n m : ℕ) → Formed core → MeetsRule core ann n → computed.leaves_unset core ann n m ≡ true → spec.FailsAt core ann n (fault.Unset m)
fails_set core ann n m f h e = (h, unset_method core ann n m (slice_get core.methods m) (slice_get ann.notes n) f refl refl e)

pub passes : (core : CoreData) (ann : Ann) (n : ℕ) (y : Node) → Formed core → slice_get core.nodes n ≡ Some y → MeetsRule core ann n → computed.leaves_unset core ann n y.method ≡ false → spec.NodePasses core ann n
passes core ann n y f g h e = (
  h,
  λ m x there body.
      let own : y.method ≡ m = body_method core m n x y f there body g in
      let found : slice_get core.methods y.method ≡ Some x = ap (slice_get core.methods) own ∙ there in
      set_method core ann n x f (subst (λ (o : Option Method). computed.unset_of core n o (slice_get ann.notes n) ≡ false) found e) body,
)
