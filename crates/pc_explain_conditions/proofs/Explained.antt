-- The conditions are the rule, and a node to which no rule applies has its reasons.
use Rattle.std.specs.Prelude.{◌≡◌, ◌⊎◌, ◌↔◌, ℕ, ◌&&◌, Bool, true, false, not, List, [], ◌∷◌, Option, Some, None, slice_get, if◌then◌else◌, refl}
use Rattle.std.proofs.{Common.{inl, inr, ap, sym, subst, ◌∙◌}, lemmas.List.length-set, lemmas.Option.none-some, lemmas.Bool.Decides.eqb_tells}
use Rattle.pc_base.specs.Lists.{◌>>=◌, Each, Has}
use Rattle.pc_base.proofs.{Bools.false_true, Gets.get_set_other, Options.bind_is}
use Rattle.pc_ann.specs.{declared.annotation.Ann.Ann, declared.annotation.Note.Note, declared.annotation.Rule.Rule}
use Rattle.pc_ann.specs.declared.annotation.Rule.TheVariants as rule
use Rattle.pc_caps.specs.declared.capability.Cap.{Cap}
use Rattle.pc_core.specs.{CoreData.CoreData, Formed.Formed, declared.declarations.Method.Method, declared.declarations.MethodKind.MethodKind, declared.nodes.Node.Node, declared.nodes.NodeKind.NodeKind}
use Rattle.pc_core.specs.declared.declarations.MethodKind.TheVariants as method
use Rattle.pc_core.specs.declared.nodes.NodeKind.TheVariants as node
use Rattle.pc_tree.specs.declared.kinds.Op.{Op}
use Rattle.pc_rules.specs.{declared.said.Said.Said, Parts.{through_notes, one_type, two_types, notes_of}, Calls.{called, calls, recovers, sends, is_function, is_behaviour, same_text, has_text}, Fields.incomplete, Operators.{is_arithmetic, is_comparison, is_equality, is_add, is_xor}, Rules.{rule_says, said_by}}
use Rattle.pc_valid.specs.{Words.{Ty, Masks, Slots, before}, Valid.Means, NoRule.{NoRule, DifferAt}}
use Rattle.pc_rules.proofs.{Records.rules_say_what_is_meant, Derivations.to_no_rule}
use Rattle.pc_check.specs.Inference.{rules_for, with_inferred, with_inferred_slot, inferred_slot, note_of}
use Rattle.pc_check.proofs.Definitions.{inferred_inv}
use Rattle.pc_explain_conditions.specs.{Chosen.{is_chosen, calls_function, calls_behaviour, names_string}, Conditions.callee, Failing.{Because, failing}, Laws.{ReachedNode, ConditionsAreTheRule, ConditionsAreTheRecord, EachRuleFails}, declared.condition.Condition.Condition}
use Rattle.pc_explain_conditions.proofs.{Opposed.{opposed_none, opposed_fails, opposed_some, opposed_holds}, TheRule.{one_rule, more_rules, each_rule}}

-- ---- a rule that is not considered does not apply

skip_if : {A : Type 0} → (b : Bool) (s : Option A) → not b ≡ false → (if b then None else s) ≡ None
skip_if true s e = refl
skip_if false s e = absurd (false_true (sym e))

skip_else : {A : Type 0} → (b : Bool) (s : Option A) → b ≡ false → (if b then s else None) ≡ None
skip_else false s e = refl
skip_else true s e = absurd (false_true (sym e))

skip_and : {A : Type 0} → (a b : Bool) (s : Option A) → a ≡ false → (if a && b then s else None) ≡ None
skip_and false b s e = refl
skip_and true b s e = absurd (false_true (sym e))

skip_each : {A B : Type 0} → (o : Option A) (f : A → Option B) → ((a : A) → o ≡ Some a → f a ≡ None) → (o >>= f) ≡ None
skip_each None f h = refl
skip_each (Some a) f h = h a refl

first_and : (a b : Bool) → a ≡ false → (a && b) ≡ false
first_and false b e = refl
first_and true b e = absurd (false_true (sym e))

not_false : (b : Bool) → not b ≡ false → b ≡ true
not_false true e = refl
not_false false e = absurd (false_true (sym e))

no_function : (k : MethodKind) → is_behaviour k ≡ true → is_function k ≡ false
no_function method.Be e = refl
no_function method.Fun e = absurd (false_true e)
no_function method.New e = absurd (false_true e)
no_function method.Spawn e = absurd (false_true e)

module _ (core : CoreData) (ns : List Note) (x : Node) (m : Masks) where
  -- A rule for calls of another kind of method.
  no_call : (name : ℕ) (test : Ty → Method → Bool) (g : Ty → Method → Masks → Said) → ((o : Ty) (f : Method) → callee core ns name ≡ Some f → test o f ≡ false)
      → (called core ns name >>= λ i. slice_get core.methods i.1 >>= λ f. through_notes ns m >>= λ k. if test i.0 f then Some (g i.0 f k) else None) ≡ None
  no_call name test g h =
      skip_each (called core ns name) _ (λ i e.
      skip_each (slice_get core.methods i.1) _ (λ f d.
      skip_each (through_notes ns m) _ (λ k c.
      skip_else (test i.0 f) (Some (g i.0 f k)) (h i.0 f (bind_is (called core ns name) (λ (j : Ty × ℕ). slice_get core.methods j.1) i e ∙ d)))))

  abbrev Skips : Slots → NodeKind → Rule → Type 0
  Skips slots k r = is_chosen core ns x r k ≡ false → rule_says core slots ns x m r k ≡ None

  always : (slots : Slots) (k : NodeKind) (r : Rule) → is_chosen core ns x r k ≡ true → Each (λ i q. Skips slots k q) (r ∷ [])
  always slots k r t = one_rule (Skips slots k) r (λ c. absurd (false_true (sym c ∙ t)))

  call_skips : (slots : Slots) (name : ℕ) → Each (λ i q. Skips slots (node.Call name) q) (rules_for (node.Call name))
  call_skips slots name =
      let skips = Skips slots (node.Call name) in
      more_rules skips rule.Call (rule.CallRecover ∷ rule.Send ∷ rule.Builtin ∷ [])
      (λ c. no_call name (λ o f. calls core ns o f) _ (λ o f e. first_and (is_function f.kind) _ (no_function f.kind (sym (ap calls_behaviour e) ∙ not_false (calls_behaviour (callee core ns name)) c))))
      (more_rules skips rule.CallRecover (rule.Send ∷ rule.Builtin ∷ [])
      (λ c. no_call name (λ o f. recovers core ns o f) _ (λ o f e. first_and (is_function f.kind && _) _ (first_and (is_function f.kind) _ (sym (ap calls_function e) ∙ c))))
      (more_rules skips rule.Send (rule.Builtin ∷ [])
      (λ c. no_call name (λ o f. sends core ns f) _ (λ o f e. first_and (is_behaviour f.kind) _ (sym (ap calls_behaviour e) ∙ c)))
      (one_rule skips rule.Builtin
      (λ c. skip_each (one_type ns) _ (λ v e. skip_each (slice_get core.names name) _ (λ text d. skip_each (through_notes ns m) _ (λ k g. skip_and (same_text text _) (has_text v) _ (sym (ap names_string d) ∙ c))))))))

  binary_skips : (slots : Slots) (o : Op) → Each (λ i q. Skips slots (node.Binary o) q) (rules_for (node.Binary o))
  binary_skips slots o =
      let skips = Skips slots (node.Binary o) in
      more_rules skips rule.Arith (rule.Compare ∷ rule.Equal ∷ rule.Join ∷ rule.Logic ∷ []) (λ c. skip_each (two_types ns) _ (λ vs e. skip_and (is_arithmetic o) _ _ c))
      (more_rules skips rule.Compare (rule.Equal ∷ rule.Join ∷ rule.Logic ∷ []) (λ c. skip_each (two_types ns) _ (λ vs e. skip_and (is_comparison o) _ _ c))
      (more_rules skips rule.Equal (rule.Join ∷ rule.Logic ∷ []) (λ c. skip_each (two_types ns) _ (λ vs e. skip_and (is_equality o) _ _ c))
      (more_rules skips rule.Join (rule.Logic ∷ []) (λ c. skip_each (two_types ns) _ (λ vs e. skip_and (is_add o) _ _ c)) (one_rule skips rule.Logic (λ c. skip_each (two_types ns) _ (λ vs e. skip_and (is_xor o) _ _ c))))))

  skipped : (slots : Slots) (k : NodeKind) → Each (λ i r. Skips slots k r) (rules_for k)
  skipped slots (node.Field name) = more_rules (Skips slots (node.Field name)) rule.Get (rule.GetOwn ∷ []) (λ c. skip_if (incomplete core ns x) _ c) (one_rule (Skips slots (node.Field name)) rule.GetOwn (λ c. skip_else (incomplete core ns x) _ c))
  skipped slots (node.SetField name) = more_rules (Skips slots (node.SetField name)) rule.Put (rule.PutOwn ∷ []) (λ c. skip_if (incomplete core ns x) _ c) (one_rule (Skips slots (node.SetField name)) rule.PutOwn (λ c. skip_else (incomplete core ns x) _ c))
  skipped slots (node.Call name) = call_skips slots name
  skipped slots (node.Binary o) = binary_skips slots o
  skipped slots k = always slots k _ refl

-- ---- in both directions

module _ (core : CoreData) (ann : Ann) (n : ℕ) (x : Node) (m : Masks) (ns : List Note) (r : Rule) (at : ReachedNode core ann n x m ns) (has : Has (rules_for x.kind) r) where
  abbrev Says : Option Said → Type 0
  Says s = rule_says core (with_inferred core ann x).slots ns x m r x.kind ≡ s

  abbrev Fails : Option Condition → Type 0
  Fails f = failing core (with_inferred core ann x).slots ns x m r ≡ f

  nothing_by : (b : Bool) → is_chosen core ns x r x.kind ≡ b → Says None
      → (is_chosen core ns x r x.kind ≡ false) ⊎ ((c : Condition) × Fails (Some c))
  nothing_by false e none = inl e
  nothing_by true e none = inr (opposed_none _ _ (each_rule core ann n x m ns at x.kind refl has.0 r has.1 e) none)

  fails_by : (b : Bool) → is_chosen core ns x r x.kind ≡ b → ((c : Condition) × Fails (Some c)) → Says None
  fails_by false e c = skipped core ns x m (with_inferred core ann x).slots x.kind has.0 r has.1 e
  fails_by true e c = opposed_fails _ _ c.0 (each_rule core ann n x m ns at x.kind refl has.0 r has.1 e) c.1

  both_ways : Says None ↔ ((is_chosen core ns x r x.kind ≡ false) ⊎ ((c : Condition) × Fails (Some c)))
  both_ways = (
    nothing_by (is_chosen core ns x r x.kind) refl,
    λ h. elim h [ inl e ↦ skipped core ns x m (with_inferred core ann x).slots x.kind has.0 r has.1 e | inr c ↦ fails_by (is_chosen core ns x r x.kind) refl c ],
  )

  meant_by : (b : Bool) (q : Said) → is_chosen core ns x r x.kind ≡ b → Says (Some q) → (is_chosen core ns x r x.kind ≡ true) × Fails None
  meant_by false q e s = absurd (none-some q (sym (skipped core ns x m (with_inferred core ann x).slots x.kind has.0 r has.1 e) ∙ s))
  meant_by true q e s = (e, opposed_some _ _ q (each_rule core ann n x m ns at x.kind refl has.0 r has.1 e) s)

  to_record : ((own : Note) × (before own ≡ m) × Means core (with_inferred core ann x).slots own ns x r x.kind) → (is_chosen core ns x r x.kind ≡ true) × Fails None
  to_record h =
      let said = (rules_say_what_is_meant core at.formed (with_inferred core ann x).slots h.0 ns x r x.kind).1 h.2 in
      meant_by (is_chosen core ns x r x.kind) (said_by h.0) refl (subst (λ (k : Masks). rule_says core (with_inferred core ann x).slots ns x k r x.kind ≡ Some (said_by h.0)) h.1 said)

  from_record : (is_chosen core ns x r x.kind ≡ true) × Fails None → (own : Note) × (before own ≡ m) × Means core (with_inferred core ann x).slots own ns x r x.kind
  from_record h =
      let q = opposed_holds _ _ (each_rule core ann n x m ns at x.kind refl has.0 r has.1 h.0) h.1 in
      let own = note_of r m q.0 in
      (own, refl, (rules_say_what_is_meant core at.formed (with_inferred core ann x).slots own ns x r x.kind).0 q.1)

pub conditions_are_the_rule : ConditionsAreTheRule
conditions_are_the_rule core ann n x m ns r at has = both_ways core ann n x m ns r at has

pub conditions_are_the_record : ConditionsAreTheRecord
conditions_are_the_record core ann n x m ns r at has = (to_record core ann n x m ns r at has, from_record core ann n x m ns r at has)

-- ---- if no rule applies

differ : (core : CoreData) (ann : Ann) (x : Node) (o : Option (ℕ × (ℕ × Cap))) → inferred_slot core ann x x.kind ≡ o → DifferAt core x ann.slots (with_inferred_slot ann o).slots
differ core ann x None e = (refl, λ k h. refl)
differ core ann x (Some i) e =
    let d = inferred_inv core ann x i e in (
      length-set ann.slots i.0 i.1,
      λ k h. elim (eqb_tells k i.0) [
        | inl same ↦ absurd (h (d.slot, d.method, d.declared, d.defines, d.is_method, same.1 ∙ d.place, ap (slice_get core.slots) same.1 ∙ d.is_declared, d.none))
        | inr apart ↦ get_set_other ann.slots i.0 i.1 k apart.1
      ],
    )

module _ (core : CoreData) (ann : Ann) (n : ℕ) (ns : List Note) (formed : Formed core) (stop : NoRule core ann n) (are : notes_of ann.notes stop.at.children ≡ Some ns) where
  pub stopped : ReachedNode core ann n stop.at stop.masks ns
  stopped = record { formed = formed; prefix = record { slots = stop.slots; written = stop.written; before = stop.nodes_before }; is_at = stop.is_at; reaches = stop.reaches; are_children = are }

  pub says_nothing : (r : Rule) → rule_says core (with_inferred core ann stop.at).slots ns stop.at stop.masks r stop.at.kind ≡ None
  says_nothing r =
      sym (bind_is (notes_of ann.notes stop.at.children) (λ ts. rule_says core (with_inferred core ann stop.at).slots ts stop.at stop.masks r stop.at.kind) ns are)
      ∙ (to_no_rule core formed ann n stop).none r (with_inferred core ann stop.at).slots (differ core ann stop.at (inferred_slot core ann stop.at stop.at.kind) refl)

  same_notes : (o : Option (ℕ × (ℕ × Cap))) → (with_inferred_slot ann o).notes ≡ ann.notes
  same_notes None = refl
  same_notes (Some i) = refl

  pub because : (r : Rule) → Has (rules_for stop.at.kind) r → is_chosen core ns stop.at r stop.at.kind ≡ true → (c : Condition) × (failing core (with_inferred core ann stop.at).slots ns stop.at stop.masks r ≡ Some c)
  because r has e = opposed_none _ _ (each_rule core ann n stop.at stop.masks ns stopped stop.at.kind refl has.0 r has.1 e) (says_nothing r)

  pub shown : (r : Rule) → Has (rules_for stop.at.kind) r → is_chosen core ns stop.at r stop.at.kind ≡ true → (c : Condition) × Because core (with_inferred core ann stop.at) n stop.masks r c
  shown r has e =
      let c = because r has e in
      (c.0, record { at = stop.at; is_at = stop.is_at; children = ns; are_children = ap (λ ts. notes_of ts stop.at.children) (same_notes (inferred_slot core ann stop.at stop.at.kind)) ∙ are; is_chosen = e; first = c.1 })

pub each_rule_fails : EachRuleFails
each_rule_fails core ann n r ns formed stop has are e = shown core ann n ns formed stop are r has e
