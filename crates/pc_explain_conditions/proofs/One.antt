-- A core has only one node to which no rule applies, and only one list of reasons.
use Rattle.std.specs.Prelude.{◌≡◌, ℕ, suc, ◌+◌, Bool, true, false, ◌&&◌, List, [], ◌∷◌, ◌++◌, length, Option, Some, None, slice_get, if◌then◌else◌, refl}
use Rattle.std.proofs.{Common.{ap, sym, subst, ◌∙◌, arith}, lemmas.Option.{same_Some, none-some}}
use Rattle.pc_base.specs.Lists.{◌>>=◌, Each}
use Rattle.pc_base.proofs.{Bools.false_true, Options.bind_is}
use Rattle.pc_masks.specs.Masks.{has}
use Rattle.pc_ann.specs.{declared.annotation.Ann.Ann, declared.annotation.Note.Note, declared.annotation.Rule.Rule}
use Rattle.pc_ann.specs.declared.annotation.Rule.TheVariants as rule
use Rattle.pc_caps.specs.{declared.capability.Cap.Cap, Computed.fits}
use Rattle.pc_core.specs.{CoreData.CoreData, Formed.Formed, declared.declarations.Method.Method, declared.declarations.ParamInfo.ParamInfo, declared.nodes.Node.Node, declared.nodes.NodeKind.NodeKind, declared.nodes.Slot.Slot, Methods.UsesSlot, Nodes.{HasArity, NamesFit, NamesSlot}}
use Rattle.pc_core.specs.declared.nodes.NodeKind.TheVariants as node
use Rattle.pc_rules.specs.{Parts.{slot_of, reachable, notes_of}, Calls.is_function, Fields.own_field, Children.type_at, Values.is_var}
use Rattle.pc_valid.specs.{Words.{Ty, Masks, Slots}, NoRule.{NoRule, Reaches}}
use Rattle.pc_rules.proofs.{Derivations.{reaches_to, to_reaches, to_reached}, Alike.{looked_at, bind_same, slot_same}, Agreeing.{Agree, use_alike}, Homes.children_before}
use Rattle.pc_sub.specs.Computed.{is_sub}
use Rattle.pc_check.specs.Inference.{rules_for, with_inferred, inferred_slot, with_inferred_slot}
use Rattle.pc_check.proofs.OneFault.{agree_both, carried, reaches_one, one_node}
use Rattle.pc_explain_conditions.specs.{Chosen.is_chosen, Failing.{failure, with_reason, reasons_among, reasons, reasons_at, first_false, holds_of, on, is_found}, Laws.{ReachedNode, OneExplanation}, declared.condition.Condition.Condition}
use Rattle.pc_explain_conditions.proofs.Started.{notes_length, slot_at, placed}
use Rattle.pc_explain_conditions.specs.Conditions as asked
use Rattle.pc_explain_conditions.specs.declared.condition.Condition.TheVariants as asks

-- ---- conditions that depend on no slot

abbrev pub slotless : Condition → Bool
slotless (asks.Reached s) = false
slotless (asks.Variable s) = false
slotless c = true

abbrev pub all_slotless : List Condition → Bool
all_slotless [] = true
all_slotless (c ∷ cs) = slotless c && all_slotless cs

both_slotless : (cs ds : List Condition) → all_slotless cs ≡ true → all_slotless ds ≡ true → all_slotless (cs ++ ds) ≡ true
both_slotless [] ds e f = f
both_slotless (c ∷ cs) ds e f = keep (slotless c) (all_slotless cs) (all_slotless (cs ++ ds)) e (λ g. both_slotless cs ds g f)
  where
    keep : (a b d : Bool) → (a && b) ≡ true → (b ≡ true → d ≡ true) → (a && d) ≡ true
    keep true b d e h = h e
    keep false b d e h = absurd (false_true e)

arguments_slotless : (i : ℕ) (ps : List ParamInfo) → all_slotless (asked.argument_conditions i ps) ≡ true
arguments_slotless i [] = refl
arguments_slotless i (p ∷ ps) = arguments_slotless (i + 1) ps

sent_slotless : (i : ℕ) (ps : List ParamInfo) → all_slotless (asked.arguments_sent i ps) ≡ true
sent_slotless i [] = refl
sent_slotless i (p ∷ ps) = sent_slotless (i + 1) ps

found_slotless : {A : Type 0} → (o : Option A) (ask : A → List Condition) → ((a : A) → all_slotless (ask a) ≡ true) → all_slotless (asked.of_found o ask) ≡ true
found_slotless None ask h = refl
found_slotless (Some a) ask h = h a

body_slotless : (b : Bool) (f : Method) → all_slotless (if b then asks.Typed 0 ∷ asks.Under 0 f.result.0 ∷ asks.Below 0 f.result.1 ∷ [] else []) ≡ true
body_slotless true f = refl
body_slotless false f = refl

call_slotless : (o : ℕ) (f : Method) → all_slotless (asked.call_conditions o f) ≡ true
call_slotless o f = both_slotless (asked.all_go o f.params) (asks.Fits o f.receiver ∷ []) (arguments_slotless 0 f.params) refl

recover_slotless : (o : ℕ) (f : Method) → all_slotless (asked.call_recover_conditions o f) ≡ true
recover_slotless o f = both_slotless (asked.all_go o f.params) (asks.Unfit o f.receiver ∷ asks.Isolated o ∷ asks.Lent f.receiver ∷ asked.arguments_sent 0 f.params) (arguments_slotless 0 f.params) (sent_slotless 0 f.params)

rule_slotless : (core : CoreData) (slots : Slots) (ns : List Note) (x : Node) (r : Rule) (k : NodeKind) → looked_at k ≡ None → all_slotless (asked.conditions core slots ns x r k) ≡ true
rule_slotless core slots ns x rule.Local (node.Local s) e = absurd (none-some s (sym e))
rule_slotless core slots ns x rule.Consume (node.Consume s) e = absurd (none-some s (sym e))
rule_slotless core slots ns x rule.Define (node.Define s) e = absurd (none-some s (sym e))
rule_slotless core slots ns x rule.Assign (node.Assign s) e = absurd (none-some s (sym e))
rule_slotless core slots ns x rule.Get (node.Field name) e = found_slotless (asked.child_field core ns 0 name) asked.get_conditions (λ f. refl)
rule_slotless core slots ns x rule.GetOwn (node.Field name) e = found_slotless (own_field core x name) asked.get_own_conditions (λ f. refl)
rule_slotless core slots ns x rule.Put (node.SetField name) e = found_slotless (asked.child_field core ns 1 name) asked.put_conditions (λ f. refl)
rule_slotless core slots ns x rule.PutOwn (node.SetField name) e = found_slotless (own_field core x name) asked.put_own_conditions (λ f. refl)
rule_slotless core slots ns x rule.New (node.New m) e = found_slotless (slice_get core.methods m) (λ f. asked.all_go (length ns) f.params) (λ f. arguments_slotless 0 f.params)
rule_slotless core slots ns x rule.Spawn (node.Spawn m) e = found_slotless (slice_get core.methods m) (λ f. asked.all_go (length ns) f.params) (λ f. arguments_slotless 0 f.params)
rule_slotless core slots ns x rule.Call (node.Call name) e = found_slotless (asked.callee core ns name) (asked.call_conditions (asked.receiver_index ns)) (λ f. call_slotless (asked.receiver_index ns) f)
rule_slotless core slots ns x rule.CallRecover (node.Call name) e = found_slotless (asked.callee core ns name) (asked.call_recover_conditions (asked.receiver_index ns)) (λ f. recover_slotless (asked.receiver_index ns) f)
rule_slotless core slots ns x rule.Send (node.Call name) e = found_slotless (asked.callee core ns name) (asked.send_conditions (asked.receiver_index ns)) (λ f. arguments_slotless 0 f.params)
rule_slotless core slots ns x rule.Equal (node.Binary o) e = found_slotless (type_at ns 0) asked.same_read (λ v. refl)
rule_slotless core slots ns x rule.Body node.Body e = found_slotless (slice_get core.methods x.method) asked.body_conditions (λ f. body_slotless (is_function f.kind) f)
rule_slotless core slots ns x r (node.Number v) e = refl
rule_slotless core slots ns x r k e = refl

-- ---- what is the same with other slots

module _ (core : CoreData) (a b : Slots) (ns : List Note) (x : Node) (m : Masks) where
  holds_alike : (c : Condition) → slotless c ≡ true → holds_of core a ns x m c ≡ holds_of core b ns x m c
  holds_alike (asks.Reached s) e = absurd (false_true e)
  holds_alike (asks.Variable s) e = absurd (false_true e)
  holds_alike c e = refl

  first_alike : (cs : List Condition) → all_slotless cs ≡ true → first_false (holds_of core a ns x m) cs ≡ first_false (holds_of core b ns x m) cs
  first_alike [] e = refl
  first_alike (c ∷ cs) e = step (slotless c) (all_slotless cs) (holds_of core a ns x m c) (holds_of core b ns x m c) (first_false (holds_of core a ns x m) cs) (first_false (holds_of core b ns x m) cs) c e (λ s. holds_alike c s) (λ s. first_alike cs s) refl
    where
      step : (s t h g : Bool) (f d : Option Condition) (c : Condition) → (s && t) ≡ true → (s ≡ true → h ≡ g) → (t ≡ true → f ≡ d) → s ≡ s → (if h then f else Some c) ≡ (if g then d else Some c)
      step true true h g f d c e p q i = ap (λ b. if b then f else Some c) (p refl) ∙ ap (λ o. if g then o else Some c) (q refl)
      step true false h g f d c e p q i = absurd (false_true e)
      step false t h g f d c e p q i = absurd (false_true e)

  conditions_alike : (r : Rule) (k : NodeKind) → looked_at k ≡ None → asked.conditions core a ns x r k ≡ asked.conditions core b ns x r k
  conditions_alike rule.Define (node.Define s) e = absurd (none-some s (sym e))
  conditions_alike rule.Assign (node.Assign s) e = absurd (none-some s (sym e))
  conditions_alike r (node.Number v) e = refl
  conditions_alike r k e = refl

  pub other_alike : (r : Rule) (k : NodeKind) → looked_at k ≡ None → first_false (holds_of core a ns x m) (asked.conditions core a ns x r k) ≡ first_false (holds_of core b ns x m) (asked.conditions core b ns x r k)
  other_alike r k e = first_alike (asked.conditions core a ns x r k) (rule_slotless core a ns x r k e) ∙ ap (first_false (holds_of core b ns x m)) (conditions_alike r k e)

  -- A slot with the same type in both.
  pub used_alike : (s : ℕ) → slot_of core a x.method s ≡ slot_of core b x.method s → first_false (holds_of core a ns x m) (asks.Live s ∷ asks.Reached s ∷ []) ≡ first_false (holds_of core b ns x m) (asks.Live s ∷ asks.Reached s ∷ [])
  used_alike s e = ap (λ o. if has m.0 s then (if on o (reachable x) then None else Some (asks.Reached s)) else Some (asks.Live s)) e

  goes_alike : (i : ℕ) (o : Option (Slot × (ℕ × Cap))) → first_false (holds_of core a ns x m) (asked.of_found (o >>= λ i. Some i.1) (asked.goes 0)) ≡ first_false (holds_of core b ns x m) (asked.of_found (o >>= λ i. Some i.1) (asked.goes 0))
  goes_alike i None = refl
  goes_alike i (Some j) = refl

  pub define_alike : (s : ℕ) → slot_of core a x.method s ≡ slot_of core b x.method s → first_false (holds_of core a ns x m) (asked.of_found (asked.slot_type core a x.method s) (asked.goes 0)) ≡ first_false (holds_of core b ns x m) (asked.of_found (asked.slot_type core b x.method s) (asked.goes 0))
  define_alike s e = goes_alike 0 (slot_of core a x.method s) ∙ ap (λ o. first_false (holds_of core b ns x m) (asked.of_found (o >>= λ i. Some i.1) (asked.goes 0))) e

  rest_alike : (o : Option (Slot × (ℕ × Cap))) → first_false (holds_of core a ns x m) (asked.of_found (o >>= λ i. Some i.1) asked.assign_conditions) ≡ first_false (holds_of core b ns x m) (asked.of_found (o >>= λ i. Some i.1) asked.assign_conditions)
  rest_alike None = refl
  rest_alike (Some j) = refl

  pub assign_alike : (s : ℕ) → slot_of core a x.method s ≡ slot_of core b x.method s
      → first_false (holds_of core a ns x m) (asks.Typed 0 ∷ asks.Variable s ∷ asks.Reached s ∷ asked.of_found (asked.slot_type core a x.method s) asked.assign_conditions)
      ≡ first_false (holds_of core b ns x m) (asks.Typed 0 ∷ asks.Variable s ∷ asks.Reached s ∷ asked.of_found (asked.slot_type core b x.method s) asked.assign_conditions)
  assign_alike s e =
      ap (λ o. if is_found (type_at ns 0) then (if on (slot_of core a x.method s) (λ i. is_var i.0.kind) then (if on (slot_of core a x.method s) (reachable x) then o else Some (asks.Reached s)) else Some (asks.Variable s)) else Some (asks.Typed 0)) (rest_alike (slot_of core a x.method s))
      ∙ ap (λ o. if is_found (type_at ns 0) then (if on o (λ i. is_var i.0.kind) then (if on o (reachable x) then first_false (holds_of core b ns x m) (asked.of_found (o >>= λ i. Some i.1) asked.assign_conditions) else Some (asks.Reached s)) else Some (asks.Variable s)) else Some (asks.Typed 0)) e

-- ---- the notes of children, and the reasons

pub notes_same : (a b : List Note) (cs : List ℕ) → Each (λ i c. slice_get a c ≡ slice_get b c) cs → notes_of a cs ≡ notes_of b cs
notes_same a b [] h = refl
notes_same a b (c ∷ cs) h =
    bind_same (slice_get a c) (slice_get b c) _ _ (h 0 c refl) (λ t e.
    bind_same (notes_of a cs) (notes_of b cs) _ _ (notes_same a b cs (λ i d g. h (suc i) d g)) (λ ts f. refl))

-- ---- two partial annotations up to one node

abbrev pair : {A B : Type 0} → A → B → A × B
pair a b = (a, b)

module _ (core : CoreData) (a b : Ann) (n : ℕ) (formed : Formed core) (p : NoRule core a n) (q : NoRule core b n) (ns : List Note) (x : Node) (m : Masks) (is_at : slice_get core.nodes n ≡ Some x) (at : ReachedNode core a n x m ns) (to : ReachedNode core b n x m ns) where
  same : Agree core a b n
  same = agree_both core a b formed p.written q.written n (λ k l. to_reached core formed a k (p.nodes_before k l)) (λ k l. to_reached core formed b k (q.nodes_before k l))

  abbrev From : Slots
  From = (with_inferred core a x).slots

  abbrev To : Slots
  To = (with_inferred core b x).slots

  abbrev FailAlike : NodeKind → Rule → Type 0
  FailAlike k r = first_false (holds_of core From ns x m) (asked.conditions core From ns x r k) ≡ first_false (holds_of core To ns x m) (asked.conditions core To ns x r k)

  -- A slot of a node that defines none.
  slot_kept : (s : ℕ) (k : NodeKind) → x.kind ≡ k → inferred_slot core a x k ≡ None → inferred_slot core b x k ≡ None → UsesSlot s k → NamesSlot core x.method s → slot_of core From x.method s ≡ slot_of core To x.method s
  slot_kept s k e f g u names =
      let mine : inferred_slot core a x x.kind ≡ None = ap (inferred_slot core a x) e ∙ f in
      let other : inferred_slot core b x x.kind ≡ None = ap (inferred_slot core b x) e ∙ g in
      ap (λ o. slot_of core (with_inferred_slot a o).slots x.method s) mine
      ∙ slot_same a b core x.method s (λ h i. use_alike core a b formed p.written q.written n x k s same is_at e u names h i)
      ∙ sym (ap (λ o. slot_of core (with_inferred_slot b o).slots x.method s) other)

  -- The slot that the node defines, if its value has a type.
  slot_placed : (s : ℕ) (t : Note) (v : Ty) → x.kind ≡ node.Define s → ns ≡ t ∷ [] → t.ty ≡ Some v → slot_of core From x.method s ≡ slot_of core To x.method s
  slot_placed s t v k e is =
      let local = subst (NamesFit core x.method) k (formed.nodes n x is_at).names in
      let i = slot_at core a n x m ns at s local.0 local.1 local.2 local.4 in
      let j = slot_at core b n x m ns to s local.0 local.1 local.2 local.4 in
      let mine = placed core a n x m ns at s local.0 local.1 t v local.1.written k local.2 local.3 local.4 refl (at.are_children ∙ ap Some e) is in
      let other = placed core b n x m ns to s local.0 local.1 t v local.1.written k local.2 local.3 local.4 refl (to.are_children ∙ ap Some e) is in
      let ty : i.0 ≡ j.0 = same_Some i.0 j.0 (sym i.1 ∙ mine ∙ sym other ∙ j.1) in
      i.2 ∙ ap (λ (z : ℕ × Cap). Some (pair local.1 z)) ty ∙ sym j.2

  -- If it has none, that is what fails.
  untyped : (slots : Slots) (s : ℕ) (t : Note) (i : Slot × (ℕ × Cap)) → slot_of core slots x.method s ≡ Some i → t.ty ≡ None
      → first_false (holds_of core slots (t ∷ []) x m) (asked.of_found (asked.slot_type core slots x.method s) (asked.goes 0)) ≡ Some (asks.Typed 0)
  untyped slots s t i e f =
      ap (λ w. first_false (holds_of core slots (t ∷ []) x m) (asked.of_found (w >>= λ i. Some i.1) (asked.goes 0))) e
      ∙ ap (λ o. if is_found o then (if on o (λ v. is_sub core v.0 i.1.0) then (if on o (λ v. fits v.1 i.1.1) then None else Some (asks.Fits 0 i.1.1)) else Some (asks.Under 0 i.1.0)) else Some (asks.Typed 0)) f

  defined_by : (s : ℕ) (t : Note) (o : Option Ty) → x.kind ≡ node.Define s → ns ≡ t ∷ [] → t.ty ≡ o → FailAlike (node.Define s) rule.Define
  defined_by s t (Some v) k e is = define_alike core From To ns x m s (slot_placed s t v k e is)
  defined_by s t None k e is =
      let local = subst (NamesFit core x.method) k (formed.nodes n x is_at).names in
      let i = slot_at core a n x m ns at s local.0 local.1 local.2 local.4 in
      let j = slot_at core b n x m ns to s local.0 local.1 local.2 local.4 in
      subst (λ ts. first_false (holds_of core From ts x m) (asked.of_found (asked.slot_type core From x.method s) (asked.goes 0)) ≡ first_false (holds_of core To ts x m) (asked.of_found (asked.slot_type core To x.method s) (asked.goes 0))) (sym e)
      (untyped From s t (pair local.1 i.0) i.2 is ∙ sym (untyped To s t (pair local.1 j.0) j.2 is))

  only_child : (ts : List Note) → length ts ≡ 1 → (t : Note) × (ts ≡ t ∷ [])
  only_child [] l = absurd (omega (arith, l))
  only_child (t ∷ []) l = (t, refl)
  only_child (t ∷ u ∷ ts) l = absurd (omega (arith, l))

  defined : (s : ℕ) → x.kind ≡ node.Define s → FailAlike (node.Define s) rule.Define
  defined s k =
      let count = notes_length a.notes x.children ns at.are_children in
      let arity = subst (λ j. HasArity j (length x.children)) k (formed.nodes n x is_at).arity in
      let t = only_child ns (count ∙ arity) in
      defined_by s t.0 t.0.ty k t.1 refl

  fail_alike : (k : NodeKind) (r : Rule) → x.kind ≡ k → FailAlike k r
  fail_alike (node.Local s) rule.Local e = used_alike core From To ns x m s (slot_kept s (node.Local s) e refl refl refl (subst (NamesFit core x.method) e (formed.nodes n x is_at).names))
  fail_alike (node.Consume s) rule.Consume e = used_alike core From To ns x m s (slot_kept s (node.Consume s) e refl refl refl (subst (NamesFit core x.method) e (formed.nodes n x is_at).names))
  fail_alike (node.Assign s) rule.Assign e = assign_alike core From To ns x m s (slot_kept s (node.Assign s) e refl refl refl (subst (NamesFit core x.method) e (formed.nodes n x is_at).names))
  fail_alike (node.Define s) rule.Define e = defined s e
  fail_alike (node.Local s) r e = refl
  fail_alike (node.Consume s) r e = refl
  fail_alike (node.Assign s) r e = refl
  fail_alike (node.Define s) r e = refl
  fail_alike node.This rule.This e = refl
  fail_alike node.This r e = refl
  fail_alike k r e = other_alike core From To ns x m r k refl

  failure_alike : (r : Rule) → failure core From ns x m r ≡ failure core To ns x m r
  failure_alike r = ap (λ o. if is_chosen core ns x r x.kind then o else None) (fail_alike x.kind r refl)

  pub reasons_alike : (rs : List Rule) → reasons_among core From ns x m rs ≡ reasons_among core To ns x m rs
  reasons_alike [] = refl
  reasons_alike (r ∷ rs) = ap (λ o. with_reason r o (reasons_among core From ns x m rs)) (failure_alike r) ∙ ap (with_reason r (failure core To ns x m r)) (reasons_alike rs)

all_noted : (notes : List Note) (cs : List ℕ) → ((i c : ℕ) → slice_get cs i ≡ Some c → (t : Note) × (slice_get notes c ≡ Some t)) → (ns : List Note) × (notes_of notes cs ≡ Some ns)
all_noted notes [] h = ([], refl)
all_noted notes (c ∷ cs) h =
    let t = h 0 c refl in
    let ts = all_noted notes cs (λ i d e. h (suc i) d e) in
    (t.0 ∷ ts.0, bind_is (slice_get notes c) _ t.0 t.1 ∙ bind_is (notes_of notes cs) _ ts.0 ts.1)

same_notes : (ann : Ann) (o : Option (ℕ × (ℕ × Cap))) → (with_inferred_slot ann o).notes ≡ ann.notes
same_notes ann None = refl
same_notes ann (Some i) = refl

-- The reasons in an annotation, if the children's notes are known.
reasons_are : (core : CoreData) (ann : Ann) (x : Node) (m : Masks) (ns : List Note) → notes_of ann.notes x.children ≡ Some ns → reasons_at core (with_inferred core ann x) x m ≡ Some (reasons core (with_inferred core ann x).slots ns x m)
reasons_are core ann x m ns e = bind_is (notes_of (with_inferred core ann x).notes x.children) (λ ts. Some (reasons core (with_inferred core ann x).slots ts x m)) ns (ap (λ ts. notes_of ts x.children) (same_notes ann (inferred_slot core ann x x.kind)) ∙ e)

module _ (core : CoreData) (a b : Ann) (n : ℕ) (formed : Formed core) (p : NoRule core a n) (q : NoRule core b n) where
  agreed : Agree core a b n
  agreed = agree_both core a b formed p.written q.written n (λ k l. to_reached core formed a k (p.nodes_before k l)) (λ k l. to_reached core formed b k (q.nodes_before k l))

  one_at : p.at ≡ q.at
  one_at = same_Some p.at q.at (sym p.is_at ∙ q.is_at)

  reached_too : Reaches core b n p.masks
  reached_too = reaches_to core formed b n p.masks (carried core a b formed p.written q.written n p.at p.masks agreed p.is_at (to_reaches core formed a n p.masks p.reaches))

  one_masks : p.masks ≡ q.masks
  one_masks = reaches_one core b formed n p.masks q.masks (to_reaches core formed b n p.masks reached_too) (to_reaches core formed b n q.masks q.reaches)

  noted_child : (i c : ℕ) → slice_get p.at.children i ≡ Some c → (t : Note) × (slice_get a.notes c ≡ Some t)
  noted_child i c e = let h = p.nodes_before c (children_before core n p.at formed p.is_at i c e) in (h.1, h.3)

  one_list : reasons_at core (with_inferred core a p.at) p.at p.masks ≡ reasons_at core (with_inferred core b p.at) p.at p.masks
  one_list =
      let ns = all_noted a.notes p.at.children noted_child in
      let too : notes_of b.notes p.at.children ≡ Some ns.0 = sym (notes_same a.notes b.notes p.at.children (λ i c e. agreed.notes c (children_before core n p.at formed p.is_at i c e))) ∙ ns.1 in
      let at : ReachedNode core a n p.at p.masks ns.0 = record { formed = formed; prefix = record { slots = p.slots; written = p.written; before = p.nodes_before }; is_at = p.is_at; reaches = p.reaches; are_children = ns.1 } in
      let to : ReachedNode core b n p.at p.masks ns.0 = record { formed = formed; prefix = record { slots = q.slots; written = q.written; before = q.nodes_before }; is_at = p.is_at; reaches = reached_too; are_children = too } in
      reasons_are core a p.at p.masks ns.0 ns.1
      ∙ ap Some (reasons_alike core a b n formed p q ns.0 p.at p.masks p.is_at at to (rules_for p.at.kind))
      ∙ sym (reasons_are core b p.at p.masks ns.0 too)

  one_there : (p.at ≡ q.at) × (p.masks ≡ q.masks) × (reasons_at core (with_inferred core a p.at) p.at p.masks ≡ reasons_at core (with_inferred core b q.at) q.at q.masks)
  one_there = (
    one_at,
    one_masks,
    one_list ∙ ap (λ (y : Node). reasons_at core (with_inferred core b y) y p.masks) one_at ∙ ap (λ (k : Masks). reasons_at core (with_inferred core b q.at) q.at k) one_masks,
  )

pub one_explanation : OneExplanation
one_explanation core a b n k formed p q =
    let same_node = one_node core a b n k formed p q in
    subst
    (λ j. (r : NoRule core b j) → (n ≡ j) × (p.at ≡ r.at) × (p.masks ≡ r.masks) × (reasons_at core (with_inferred core a p.at) p.at p.masks ≡ reasons_at core (with_inferred core b r.at) r.at r.masks))
    same_node (λ r. let t = one_there core a b n formed p r in (refl, t.0, t.1, t.2)) q
