-- The conditions of each rule are the rule.
use Rattle.std.specs.Prelude.{◌≡◌, ℕ, zero, suc, ◌+◌, ◌-◌, ◌≤◌, Bool, true, false, ◌&&◌, not, List, [], ◌∷◌, length, Option, Some, None, cond, slice_get, if◌then◌else◌, refl}
use Rattle.std.proofs.{Common.{ap, sym, subst, arith}, lemmas.Bool.eq-eqb, lemmas.Option.{same_Some, none-some}}
use Rattle.pc_base.specs.Lists.{◌>>=◌, Each}
use Rattle.pc_base.proofs.{Bools.false_true, Gets.get_within}
use Rattle.pc_masks.specs.Masks.{first, same}
use Rattle.pc_ann.specs.{declared.annotation.Ann.Ann, declared.annotation.Note.Note, declared.annotation.Rule.Rule}
use Rattle.pc_ann.specs.declared.annotation.Rule.TheVariants as rule
use Rattle.pc_caps.specs.declared.capability.Cap.{Cap}
use Rattle.pc_caps.specs.declared.capability.Form.TheVariants as form
use Rattle.pc_core.specs.{CoreData.CoreData, Nodes.{HasArity, NamesFit}, declared.nodes.Node.Node, declared.nodes.NodeKind.NodeKind}
use Rattle.pc_core.specs.declared.nodes.NodeKind.TheVariants as node
use Rattle.pc_tree.specs.declared.kinds.Op.{Op}
use Rattle.pc_rules.specs.{Parts.{says_of, starts, through_notes, notes_of, slot_of}, Fields.incomplete, Control.{starts_method, start_set, without_items}, Values.this_form, Operators.{both_read_as, meet_masks, lazy_masks, is_arithmetic, is_comparison, is_equality, is_add, is_xor}, Checks.is_else}
use Rattle.pc_valid.specs.Words.{Masks, masks_after}
use Rattle.pc_rules.proofs.Derivations.{to_reaches}
use Rattle.pc_check.specs.Inference.{rules_for, with_inferred}
use Rattle.pc_check.proofs.OneFault.{body_one}
use Rattle.pc_explain_conditions.specs.{Chosen.is_chosen, Conditions.both_read, Failing.{first_false, holds_of}, Laws.ReachedNode}
use Rattle.pc_explain_conditions.proofs.{Opposed.{Opposed, goes_through, is_some}, Plain.{AtNode, local_at, consume_at, get_at, get_own_at, put_at, put_own_at, define_at, assign_at, both_at, value_there, not_at, identity_at, if_at, while_at, recover_at, body_at}, Calling.{new_at, spawn_at, call_at, call_recover_at, send_at, text_at, equal_at}, Started.{notes_length, starts_at, first_before, next_before, else_before, through_at, slot_there, this_there, own_method, define_place, slot_at}}

-- ---- lists of rules, and of notes

pub one_rule : (P : Rule → Type 0) (r : Rule) → P r → Each (λ i q. P q) (r ∷ [])
one_rule P r p zero q e = subst P (same_Some r q e) p
one_rule P r p (suc i) q e = absurd (none-some q e)

pub more_rules : (P : Rule → Type 0) (r : Rule) (rs : List Rule) → P r → Each (λ i q. P q) rs → Each (λ i q. P q) (r ∷ rs)
more_rules P r rs p h zero q e = subst P (same_Some r q e) p
more_rules P r rs p h (suc i) q e = h i q e

with_one : (P : List Note → Type 0) (ns : List Note) → length ns ≡ 1 → ((t : Note) → P (t ∷ [])) → P ns
with_one P [] l h = absurd (omega (arith, l))
with_one P (t ∷ []) l h = h t
with_one P (t ∷ u ∷ ts) l h = absurd (omega (arith, l))

with_two : (P : List Note → Type 0) (ns : List Note) → length ns ≡ 2 → ((t u : Note) → P (t ∷ u ∷ [])) → P ns
with_two P [] l h = absurd (omega (arith, l))
with_two P (t ∷ []) l h = absurd (omega (arith, l))
with_two P (t ∷ u ∷ []) l h = h t u
with_two P (t ∷ u ∷ v ∷ ts) l h = absurd (omega (arith, l))

with_three : (P : List Note → Type 0) (ns : List Note) → length ns ≡ 3 → ((t u v : Note) → P (t ∷ u ∷ v ∷ [])) → P ns
with_three P [] l h = absurd (omega (arith, l))
with_three P (t ∷ []) l h = absurd (omega (arith, l))
with_three P (t ∷ u ∷ []) l h = absurd (omega (arith, l))
with_three P (t ∷ u ∷ v ∷ []) l h = h t u v
with_three P (t ∷ u ∷ v ∷ w ∷ ts) l h = absurd (omega (arith, l))

both_true : (a b : Bool) → a ≡ true → b ≡ true → (a && b) ≡ true
both_true true true e f = refl
both_true true false e f = absurd (false_true f)
both_true false b e f = absurd (false_true e)

not_true : (b : Bool) → not b ≡ true → b ≡ false
not_true false e = refl
not_true true e = absurd (false_true e)

module _ (core : CoreData) (ann : Ann) (n : ℕ) (x : Node) (m : Masks) (ns : List Note) (at : ReachedNode core ann n x m ns) where
  abbrev Held : List Note → Rule → NodeKind → Type 0
  Held ts r k = AtNode core (with_inferred core ann x).slots ts x m r k

  -- If the rule is considered.
  abbrev Law : List Note → NodeKind → Rule → Type 0
  Law ts k r = is_chosen core ts x r k ≡ true → Held ts r k

  count : (k : NodeKind) → x.kind ≡ k → HasArity k (length ns)
  count k e = subst (HasArity k) (sym (notes_length ann.notes x.children ns at.are_children)) (subst (λ j. HasArity j (length x.children)) e (at.formed.nodes n x at.is_at).arity)

  names : (k : NodeKind) → x.kind ≡ k → NamesFit core x.method k
  names k e = subst (NamesFit core x.method) e (at.formed.nodes n x at.is_at).names

  no_else : (k : NodeKind) → x.kind ≡ k → ((i : ℕ) → is_else k i ≡ false) → (l : Masks) × (through_notes ns m ≡ Some l)
  no_else k e h = through_at core ann n x m ns at (λ i. subst (λ j. is_else j i ≡ false) (sym e) (h i))

  -- Two children, one evaluated after the other.
  second_starts : (t u : Note) → ns ≡ t ∷ u ∷ [] → is_else x.kind 1 ≡ false → (starts t m && starts u (masks_after t)) ≡ true
  second_starts t u e k =
      both_true (starts t m) (starts u (masks_after t)) (starts_at t m (first_before core ann n x m ns at t (ap (λ ts. slice_get ts 0) e)))
      (starts_at u (masks_after t) (next_before core ann n x m ns at 0 u t k (ap (λ ts. slice_get ts 1) e) (ap (λ ts. slice_get ts 0) e)))

  not_branch : (k : NodeKind) → x.kind ≡ k → is_else k 1 ≡ false → is_else x.kind 1 ≡ false
  not_branch k e h = subst (λ j. is_else j 1 ≡ false) (sym e) h

  -- ---- one child

  field_rules : (name : ℕ) (ts : List Note) → length ts ≡ 1 → (l : Masks) × (through_notes ts m ≡ Some l) → Each (λ i r. Law ts (node.Field name) r) (rules_for (node.Field name))
  field_rules name ts l g =
      with_one (λ ts. (l : Masks) × (through_notes ts m ≡ Some l) → Each (λ i r. Law ts (node.Field name) r) (rules_for (node.Field name))) ts l
      (λ t g.
      more_rules (Law (t ∷ []) (node.Field name)) rule.Get (rule.GetOwn ∷ [])
      (λ c. get_at core (with_inferred core ann x).slots x m t t.ty name g.0 (not_true (incomplete core (t ∷ []) x) c) g.1)
      (one_rule (Law (t ∷ []) (node.Field name)) rule.GetOwn (λ c. get_own_at core (with_inferred core ann x).slots x m (t ∷ []) name g.0 c g.1)))
      g

  not_rules : (ts : List Note) → length ts ≡ 1 → (l : Masks) × (through_notes ts m ≡ Some l) → Held ts rule.Logic node.Not
  not_rules ts l g = with_one (λ ts. (l : Masks) × (through_notes ts m ≡ Some l) → Held ts rule.Logic node.Not) ts l (λ t g. not_at core (with_inferred core ann x).slots x m t t.ty g.0 g.1) g

  recover_rules : (k : Option Cap) (ts : List Note) → length ts ≡ 1 → (l : Masks) × (through_notes ts m ≡ Some l) → Held ts rule.Recover (node.Recover k)
  recover_rules k ts l g = with_one (λ ts. (l : Masks) × (through_notes ts m ≡ Some l) → Held ts rule.Recover (node.Recover k)) ts l (λ t g. recover_at core (with_inferred core ann x).slots x m t t.ty k g.0 g.1) g

  assign_rules : (s : ℕ) (ts : List Note) → x.kind ≡ node.Assign s → length ts ≡ 1 → (l : Masks) × (through_notes ts m ≡ Some l) → Held ts rule.Assign (node.Assign s)
  assign_rules s ts k l g =
      let slot = names (node.Assign s) k in
      let i = slot_there core ann n x m ns at s slot.1.0 slot.1.1 slot.1.2 in
      with_one (λ ts. (l : Masks) × (through_notes ts m ≡ Some l) → Held ts rule.Assign (node.Assign s)) ts l (λ t g. assign_at core (with_inferred core ann x).slots x m t t.ty s i.0 g.0 i.1 g.1) g

  define_rules : (s : ℕ) (ts : List Note) → x.kind ≡ node.Define s → length ts ≡ 1 → notes_of ann.notes x.children ≡ Some ts → (l : Masks) × (through_notes ts m ≡ Some l) → Held ts rule.Define (node.Define s)
  define_rules s ts k l are g =
      let local = names (node.Define s) k in
      let i = slot_at core ann n x m ns at s local.0 local.1 local.2 local.4 in
      with_one (λ ts. notes_of ann.notes x.children ≡ Some ts → (l : Masks) × (through_notes ts m ≡ Some l) → Held ts rule.Define (node.Define s)) ts l
      (λ t are g. define_at core (with_inferred core ann x).slots x m t t.ty s (local.1, i.0) g.0 i.2 (λ v is. define_place core ann n x m ns at s local.0 local.1 i.0 t v k local.2 local.3 local.4 i.1 are is) g.1)
      are g

  body_rules : (ts : List Note) → x.kind ≡ node.Body → length ts ≡ 1 → (l : Masks) × (through_notes ts m ≡ Some l) → Held ts rule.Body node.Body
  body_rules ts k l g =
      let f = own_method core ann n x m ns at in
      let start = body_one core ann at.formed n x f.0 m at.is_at k f.1 (to_reaches core at.formed ann n m at.reaches) in
      let own : starts_method core f.0 (first (1 + length f.0.params), start_set core f.0) ≡ true = both_true (same (first (1 + length f.0.params)) (first (1 + length f.0.params))) (same (start_set core f.0) (start_set core f.0)) (eq-eqb (first (1 + length f.0.params)).0 (first (1 + length f.0.params)).0 refl) (eq-eqb (start_set core f.0).0 (start_set core f.0).0 refl) in
      with_one (λ ts. (l : Masks) × (through_notes ts m ≡ Some l) → Held ts rule.Body node.Body) ts l
      (λ t g. body_at core (with_inferred core ann x).slots x m t t.ty f.0 g.0 f.1 (subst (λ (k : Masks). starts_method core f.0 k ≡ true) start own) g.1) g

  -- ---- two children

  set_field_rules : (name : ℕ) (ts : List Note) → length ts ≡ 2 → (l : Masks) × (through_notes ts m ≡ Some l) → Each (λ i r. Law ts (node.SetField name) r) (rules_for (node.SetField name))
  set_field_rules name ts l g =
      with_two (λ ts. (l : Masks) × (through_notes ts m ≡ Some l) → Each (λ i r. Law ts (node.SetField name) r) (rules_for (node.SetField name))) ts l
      (λ t u g.
      more_rules (Law (t ∷ u ∷ []) (node.SetField name)) rule.Put (rule.PutOwn ∷ [])
      (λ c. put_at core (with_inferred core ann x).slots x m t u t.ty u.ty name g.0 (not_true (incomplete core (t ∷ u ∷ []) x) c) g.1)
      (one_rule (Law (t ∷ u ∷ []) (node.SetField name)) rule.PutOwn (λ c. put_own_at core (with_inferred core ann x).slots x m t u t.ty name g.0 c g.1)))
      g

  binary_rules : (o : Op) (ts : List Note) → length ts ≡ 2 → (l : Masks) × (through_notes ts m ≡ Some l) → Each (λ i r. Law ts (node.Binary o) r) (rules_for (node.Binary o))
  binary_rules o ts l g =
      with_two (λ ts. (l : Masks) × (through_notes ts m ≡ Some l) → Each (λ i r. Law ts (node.Binary o) r) (rules_for (node.Binary o))) ts l
      (λ t u g.
      let slots = (with_inferred core ann x).slots in
      let value = λ (e : ℕ). value_there core slots x m e (t ∷ u ∷ []) g.0 g.1 in
      let law = Law (t ∷ u ∷ []) (node.Binary o) in
      more_rules law rule.Arith (rule.Compare ∷ rule.Equal ∷ rule.Join ∷ rule.Logic ∷ []) (λ c. both_at core slots x m (is_arithmetic o) 1 t u t.ty u.ty _ c (value 1))
      (more_rules law rule.Compare (rule.Equal ∷ rule.Join ∷ rule.Logic ∷ []) (λ c. both_at core slots x m (is_comparison o) 1 t u t.ty u.ty _ c (value 2))
      (more_rules law rule.Equal (rule.Join ∷ rule.Logic ∷ []) (λ c. equal_at (is_equality o) _ c (value 2) core slots x m t u t.ty u.ty)
      (more_rules law rule.Join (rule.Logic ∷ []) (λ c. both_at core slots x m (is_add o) 3 t u t.ty u.ty _ c (value 3)) (one_rule law rule.Logic (λ c. both_at core slots x m (is_xor o) 2 t u t.ty u.ty _ c (value 2)))))))
      g

  same_rules : (v : Bool) (ts : List Note) → length ts ≡ 2 → (l : Masks) × (through_notes ts m ≡ Some l) → Held ts rule.Identity (node.Same v)
  same_rules v ts l g = with_two (λ ts. (l : Masks) × (through_notes ts m ≡ Some l) → Held ts rule.Identity (node.Same v)) ts l (λ t u g. identity_at core (with_inferred core ann x).slots x m t u t.ty u.ty v g.0 g.1) g

  lazy_row : (t u : Note) (k : Masks) → lazy_masks (t ∷ u ∷ []) m ≡ Some k → Held (t ∷ u ∷ []) rule.Lazy node.And
  lazy_row t u k e =
      is_some (lazy_masks (t ∷ u ∷ []) m) k e
      (λ w. Opposed ((t.ty >>= λ p. u.ty >>= λ q. Some (p, q)) >>= λ vs. w >>= λ n. if both_read_as 2 vs then Some (says_of (Some (2, form.Val)) n) else None)
      (first_false (holds_of core (with_inferred core ann x).slots (t ∷ u ∷ []) x m) (both_read 2)))
      (both_at core (with_inferred core ann x).slots x m true 2 t u t.ty u.ty _ refl tt)

  lazy_rules : (ts : List Note) → length ts ≡ 2 → ns ≡ ts → is_else x.kind 1 ≡ false → Held ts rule.Lazy node.And
  lazy_rules ts l e k =
      with_two (λ ts. ns ≡ ts → Held ts rule.Lazy node.And) ts l
      (λ t u e. lazy_row t u (meet_masks (masks_after t) (masks_after u))
      (ap (λ b. cond b (Some (meet_masks (masks_after t) (masks_after u))) None) (second_starts t u e k))) e

  while_rules : (ts : List Note) → length ts ≡ 2 → ns ≡ ts → is_else x.kind 1 ≡ false → Held ts rule.While node.While
  while_rules ts l e k = with_two (λ ts. ns ≡ ts → Held ts rule.While node.While) ts l (λ t u e. while_at core (with_inferred core ann x).slots x m t u t.ty (second_starts t u e k)) e

  -- ---- three children

  if_rules : (ts : List Note) → x.kind ≡ node.If → length ts ≡ 3 → ns ≡ ts → Held ts rule.If node.If
  if_rules ts k l e =
      with_three (λ ts. ns ≡ ts → Held ts rule.If node.If) ts l
      (λ t u v e.
      let a = starts_at t m (first_before core ann n x m ns at t (ap (λ ts. slice_get ts 0) e)) in
      let b = starts_at u (masks_after t) (next_before core ann n x m ns at 0 u t (not_branch node.If k refl) (ap (λ ts. slice_get ts 1) e) (ap (λ ts. slice_get ts 0) e)) in
      let c = starts_at v (masks_after t) (else_before core ann n x m ns at v t k (ap (λ ts. slice_get ts 2) e) (ap (λ ts. slice_get ts 0) e)) in
      let all = both_true (starts t m) (starts u (masks_after t) && starts v (masks_after t)) a
      (both_true (starts u (masks_after t)) (starts v (masks_after t)) b c) in
      if_at core (with_inferred core ann x).slots x m t u v t.ty (meet_masks (masks_after u) (masks_after v)) (ap (λ b. cond b (Some (meet_masks (masks_after u) (masks_after v))) None) all))
      e

  -- ---- each kind

  local_rule : (s : ℕ) → x.kind ≡ node.Local s → Held ns rule.Local (node.Local s)
  local_rule s k = let slot = names (node.Local s) k in let i = slot_there core ann n x m ns at s slot.1.0 slot.1.1 slot.1.2 in local_at core (with_inferred core ann x).slots x m ns s i.0 i.1

  consume_rule : (s : ℕ) → x.kind ≡ node.Consume s → Held ns rule.Consume (node.Consume s)
  consume_rule s k = let slot = names (node.Consume s) k in let i = slot_there core ann n x m ns at s slot.1.0 slot.1.1 slot.1.2 in consume_at core (with_inferred core ann x).slots x m ns s i.0 i.1

  this_rule : Held ns rule.This node.This
  this_rule =
      let f = own_method core ann n x m ns at in
      let i = this_there core ann n x m ns at f.0 f.1 in
      is_some (slice_get core.methods x.method) f.0 f.1
      (λ w. Opposed (w >>= λ f. slot_of core (with_inferred core ann x).slots x.method 0 >>= λ i. Some (says_of (Some (f.entity, this_form core x f.entity i m.1)) m)) None)
      (is_some (slot_of core (with_inferred core ann x).slots x.method 0) i.0 i.1 (λ w. Opposed (w >>= λ i. Some (says_of (Some (f.0.entity, this_form core x f.0.entity i m.1)) m)) None) tt)

  seq_row : (ts : List Note) (l : Masks) → 1 ≤ length ts → through_notes ts m ≡ Some l → Held ts rule.Seq node.Seq
  seq_row ts l c g =
      let t = get_within ts (length ts - 1) (omega (arith, c)) in
      is_some (slice_get ts (length ts - 1)) t.0 t.1
      (λ w. Opposed (w >>= λ t. through_notes ts m >>= λ n. Some (says_of t.ty (without_items core x.children n.0, n.1))) None)
      (goes_through (through_notes ts m) l (λ n. says_of t.0.ty (without_items core x.children n.0, n.1)) g)

  pub each_rule : (k : NodeKind) → x.kind ≡ k → Each (λ i r. Law ns k r) (rules_for k)
  each_rule (node.Number v) k = one_rule (Law ns (node.Number v)) rule.Number (λ c. tt)
  each_rule (node.Truth v) k = one_rule (Law ns (node.Truth v)) rule.Truth (λ c. tt)
  each_rule (node.Text v) k = one_rule (Law ns (node.Text v)) rule.Text (λ c. tt)
  each_rule (node.Prim e) k = one_rule (Law ns (node.Prim e)) rule.Prim (λ c. tt)
  each_rule node.This k = one_rule (Law ns node.This) rule.This (λ c. this_rule)
  each_rule (node.Local s) k = one_rule (Law ns (node.Local s)) rule.Local (λ c. local_rule s k)
  each_rule (node.Consume s) k = one_rule (Law ns (node.Consume s)) rule.Consume (λ c. consume_rule s k)
  each_rule (node.Field name) k = field_rules name ns (count (node.Field name) k) (no_else (node.Field name) k (λ i. refl))
  each_rule (node.SetField name) k = set_field_rules name ns (count (node.SetField name) k) (no_else (node.SetField name) k (λ i. refl))
  each_rule (node.Define s) k = one_rule (Law ns (node.Define s)) rule.Define (λ c. define_rules s ns k (count (node.Define s) k) at.are_children (no_else (node.Define s) k (λ i. refl)))
  each_rule (node.Assign s) k = one_rule (Law ns (node.Assign s)) rule.Assign (λ c. assign_rules s ns k (count (node.Assign s) k) (no_else (node.Assign s) k (λ i. refl)))
  each_rule (node.New e) k = let f = names (node.New e) k in let g = no_else (node.New e) k (λ i. refl) in one_rule (Law ns (node.New e)) rule.New (λ c. new_at core (with_inferred core ann x).slots ns x m e f.0 g.0 f.1 g.1)
  each_rule (node.Spawn e) k = let f = names (node.Spawn e) k in let g = no_else (node.Spawn e) k (λ i. refl) in one_rule (Law ns (node.Spawn e)) rule.Spawn (λ c. spawn_at core (with_inferred core ann x).slots ns x m e f.0 g.0 f.1 g.1)
  each_rule (node.Call name) k =
      let g = no_else (node.Call name) k (λ i. refl) in
      let slots = (with_inferred core ann x).slots in
      let law = Law ns (node.Call name) in
      more_rules law rule.Call (rule.CallRecover ∷ rule.Send ∷ rule.Builtin ∷ []) (λ c. call_at core slots ns x m name g.0 g.1)
      (more_rules law rule.CallRecover (rule.Send ∷ rule.Builtin ∷ []) (λ c. call_recover_at core slots ns x m name g.0 g.1)
      (more_rules law rule.Send (rule.Builtin ∷ []) (λ c. send_at core slots ns x m name g.0 g.1) (one_rule law rule.Builtin (λ c. text_at core slots x m ns name g.0 (count (node.Call name) k) c g.1))))
  each_rule (node.Binary o) k = binary_rules o ns (count (node.Binary o) k) (no_else (node.Binary o) k (λ i. refl))
  each_rule node.Not k = one_rule (Law ns node.Not) rule.Logic (λ c. not_rules ns (count node.Not k) (no_else node.Not k (λ i. refl)))
  each_rule node.And k = one_rule (Law ns node.And) rule.Lazy (λ c. lazy_rules ns (count node.And k) refl (not_branch node.And k refl))
  each_rule node.Or k = one_rule (Law ns node.Or) rule.Lazy (λ c. lazy_rules ns (count node.Or k) refl (not_branch node.Or k refl))
  each_rule (node.Same v) k = one_rule (Law ns (node.Same v)) rule.Identity (λ c. same_rules v ns (count (node.Same v) k) (no_else (node.Same v) k (λ i. refl)))
  each_rule node.Seq k = let g = no_else node.Seq k (λ i. refl) in one_rule (Law ns node.Seq) rule.Seq (λ c. seq_row ns g.0 (count node.Seq k) g.1)
  each_rule node.If k = one_rule (Law ns node.If) rule.If (λ c. if_rules ns k (count node.If k) refl)
  each_rule node.While k = one_rule (Law ns node.While) rule.While (λ c. while_rules ns (count node.While k) refl (not_branch node.While k refl))
  each_rule (node.Recover e) k = one_rule (Law ns (node.Recover e)) rule.Recover (λ c. recover_rules e ns (count (node.Recover e) k) (no_else (node.Recover e) k (λ i. refl)))
  each_rule node.Body k = one_rule (Law ns node.Body) rule.Body (λ c. body_rules ns k (count node.Body k) (no_else node.Body k (λ i. refl)))
