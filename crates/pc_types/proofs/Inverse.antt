-- What a note states that meets its rule, by the kind of its node: values, slots and control.
use Rattle.std.specs.Prelude.{◌≡◌, ℕ, true, ◌&&◌, List, [], ◌∷◌, Option, Some, None, nat_eq, slice_get, refl}
use Rattle.std.proofs.{Common.{ap, sym, subst, ◌∙◌}, lemmas.Option.{same_Some, none-some}, lemmas.Bool.{and_parts, eqb-true}}
use Rattle.pc_caps.specs.{declared.capability.Cap.Cap, declared.capability.Form.Form, Tables.{plain, unalias}}
use Rattle.pc_caps.specs.declared.capability.Form.TheVariants as form
use Rattle.pc_core.specs.{declared.declarations.Method.Method, declared.nodes.Slot.Slot, declared.nodes.Node.Node, CoreData.CoreData}
use Rattle.pc_core.specs.declared.nodes.NodeKind.TheVariants as nodes
use Rattle.pc_base.proofs.{Options.{bind_some, kept}, Bools.false_true}
use Rattle.pc_masks.specs.{declared.mask.Mask.Mask, Masks.{has, without_number, within, same}}
use Rattle.pc_ann.specs.{declared.annotation.Note.Note, declared.annotation.Ann.Ann, declared.annotation.Rule.Rule}
use Rattle.pc_ann.specs.declared.annotation.Rule.TheVariants as rule
use Rattle.pc_rules.specs.{declared.said.Said.Said, Parts.{says_of, reads_as, readable, reachable, through, type_of, one_child, last_child}, Values.this_form, Operators.{both_read_as, meet_masks}, Control.{without_items, joined, is_condition, recovered}, Rules.said_by}
use Rattle.pc_valid.specs.Words.{Ty, Masks, before}
use Rattle.pc_rules.proofs.ByNumber.{slot_of, two_children, three_children, two_types, this_says, used, lazy_masks, lazy_says, branch_masks, branch_types, loop_masks, seq_says, if_says, while_says, recover_says, says}
use Rattle.pc_types.proofs.Begin.{only_one}

-- ---- children

pub pair_is : (cs : List ℕ) (c : ℕ × ℕ) → two_children cs ≡ Some c → cs ≡ c.0 ∷ c.1 ∷ []
pair_is [] c e = absurd (none-some c e)
pair_is (a ∷ []) c e = absurd (none-some c e)
pair_is (a ∷ b ∷ []) c e = ap (λ (p : ℕ × ℕ). p.0 ∷ p.1 ∷ []) (same_Some (a, b) c e)
pair_is (a ∷ b ∷ d ∷ cs) c e = absurd (none-some c e)

triple_is : (cs : List ℕ) (c : ℕ × ℕ × ℕ) → three_children cs ≡ Some c → cs ≡ c.0 ∷ c.1 ∷ c.2 ∷ []
triple_is [] c e = absurd (none-some c e)
triple_is (a ∷ []) c e = absurd (none-some c e)
triple_is (a ∷ b ∷ []) c e = absurd (none-some c e)
triple_is (a ∷ b ∷ d ∷ []) c e = ap (λ (p : ℕ × ℕ × ℕ). p.0 ∷ p.1 ∷ p.2 ∷ []) (same_Some (a, b, d) c e)
triple_is (a ∷ b ∷ d ∷ f ∷ cs) c e = absurd (none-some c e)

-- Two children, and their types.
pub record TwoTypes (ann : Ann) (cs : List ℕ) (vs : Ty × Ty) : Type 0 where
  pub left : ℕ
  pub right : ℕ
  pub children : cs ≡ left ∷ right ∷ []
  pub left_type : type_of ann left ≡ Some vs.0
  pub right_type : type_of ann right ≡ Some vs.1

pub types_are : (ann : Ann) (cs : List ℕ) (vs : Ty × Ty) → two_types ann cs ≡ Some vs → TwoTypes ann cs vs
types_are ann cs vs e =
    let c = bind_some (two_children cs) _ vs e in
    let a = bind_some (type_of ann c.0.0) _ vs c.2 in
    let b = bind_some (type_of ann c.0.1) _ vs a.2 in
    let is : ◌≡◌ {A = Ty × Ty} (a.0, b.0) vs = same_Some (a.0, b.0) vs b.2 in
    record {
      left = c.0.0;
      right = c.0.1;
      children = pair_is cs c.0 c.1;
      left_type = a.1 ∙ ap (λ (p : Ty × Ty). Some p.0) is;
      right_type = b.1 ∙ ap (λ (p : Ty × Ty). Some p.1) is;
    }

-- ---- notes

-- The note has this type and these masks.
pub record Says (t : Note) (v : Option Ty) (n : Masks) : Type 0 where
  pub ty : t.ty ≡ v
  pub live : t.live_after ≡ n.0
  pub set : t.set_after ≡ n.1

pub says_is : (t : Note) (ty : Option Ty) (n : Masks) → Some (says_of ty n) ≡ Some (said_by t) → Says t ty n
says_is t ty n e =
    let is : says_of ty n ≡ said_by t = same_Some (says_of ty n) (said_by t) e in
    record { ty = sym (ap (λ (q : Said). q.ty) is); live = sym (ap (λ (q : Said). q.live) is); set = sym (ap (λ (q : Said). q.set) is) }

-- The same of an equal type and equal masks.
pub said_as : (t : Note) (v w : Option Ty) (n m : Masks) → v ≡ w → n ≡ m → Some (says_of w m) ≡ Some (said_by t) → Says t v n
said_as t v w n m e g h = subst (λ (k : Masks). Says t v k) (sym g) (subst (λ (o : Option Ty). Says t o m) (sym e) (says_is t w m h))

pub said_type : (t : Note) (v w : Ty) (n m : Masks) → v ≡ w → n ≡ m → Some (says_of (Some w) m) ≡ Some (said_by t) → Says t (Some v) n
said_type t v w n m e g h = said_as t (Some v) (Some w) n m (ap Some e) g h

-- ---- slots

-- A live and reachable slot.
pub record Used (core : CoreData) (ann : Ann) (x : Node) (s : ℕ) (l : Mask) (i : ℕ × Cap) : Type 0 where
  pub slot : Slot × (ℕ × Cap)
  pub is_slot : slot_of core ann x.method s ≡ Some slot
  pub live : has l s ≡ true
  pub near : reachable x slot ≡ true
  pub ty : slot.1 ≡ i

used_is : (core : CoreData) (ann : Ann) (x : Node) (s : ℕ) (l : Mask) (i : ℕ × Cap) → used core ann x s l ≡ Some i → Used core ann x s l i
used_is core ann x s l i e =
    let a = bind_some (slot_of core ann x.method s) _ i e in
    let k = kept (has l s && reachable x a.0) (Some a.0.1) i a.2 in
    let p = and_parts (has l s) (reachable x a.0) k.0 in
    record { slot = a.0; is_slot = a.1; live = p.0; near = p.1; ty = same_Some a.0.1 i k.1 }

-- ---- the rules by kind

module _ (core : CoreData) (ann : Ann) (x : Node) (t : Note) where
  pub number_rule : (r : Rule) (k : ℕ) → says core ann x (before t) r (nodes.Number k) ≡ Some (said_by t) → Says t (Some (1, form.Val)) (before t)
  number_rule rule.Number k e = says_is t (Some (1, form.Val)) (before t) e
  number_rule r k e = absurd (none-some (said_by t) e)

  pub truth_rule : (r : Rule) (k : _) → says core ann x (before t) r (nodes.Truth k) ≡ Some (said_by t) → Says t (Some (2, form.Val)) (before t)
  truth_rule rule.Truth k e = says_is t (Some (2, form.Val)) (before t) e
  truth_rule r k e = absurd (none-some (said_by t) e)

  pub text_rule : (r : Rule) (k : _) → says core ann x (before t) r (nodes.Text k) ≡ Some (said_by t) → Says t (Some (3, form.Val)) (before t)
  text_rule rule.Text k e = says_is t (Some (3, form.Val)) (before t) e
  text_rule r k e = absurd (none-some (said_by t) e)

  pub prim_rule : (r : Rule) (k : ℕ) → says core ann x (before t) r (nodes.Prim k) ≡ Some (said_by t) → Says t (Some (k, form.Val)) (before t)
  prim_rule rule.Prim k e = says_is t (Some (k, form.Val)) (before t) e
  prim_rule r k e = absurd (none-some (said_by t) e)

  -- `this`, in the form that its slot gives.
  pub record ThisRule : Type 0 where
    pub own : Method
    pub is_own : slice_get core.methods x.method ≡ Some own
    pub slot : Slot × (ℕ × Cap)
    pub is_slot : slot_of core ann x.method 0 ≡ Some slot
    pub says : Says t (Some (own.entity, this_form core x own.entity slot t.set_before)) (before t)

  this_is : this_says core ann x (before t) ≡ Some (said_by t) → ThisRule
  this_is e =
      let a = bind_some (slice_get core.methods x.method) _ (said_by t) e in
      let b = bind_some (slot_of core ann x.method 0) _ (said_by t) a.2 in
      record { own = a.0; is_own = a.1; slot = b.0; is_slot = b.1; says = says_is t (Some (a.0.entity, this_form core x a.0.entity b.0 t.set_before)) (before t) b.2 }

  pub this_rule : (r : Rule) → says core ann x (before t) r nodes.This ≡ Some (said_by t) → ThisRule
  this_rule rule.This e = this_is e
  this_rule r e = absurd (none-some (said_by t) e)

  -- A slot that is read.
  pub record LocalRule (s : ℕ) : Type 0 where
    pub place : ℕ × Cap
    pub used : Used core ann x s t.live_before place
    pub says : Says t (Some (place.0, plain place.1)) (before t)

  pub local_rule : (r : Rule) (s : ℕ) → says core ann x (before t) r (nodes.Local s) ≡ Some (said_by t) → LocalRule s
  local_rule rule.Local s e =
      let a = bind_some (used core ann x s t.live_before) _ (said_by t) e in
      record { place = a.0; used = used_is core ann x s t.live_before a.0 a.1; says = says_is t (Some (a.0.0, plain a.0.1)) (before t) a.2 }
  local_rule r s e = absurd (none-some (said_by t) e)

  -- A slot that is taken.
  pub record ConsumeRule (s : ℕ) : Type 0 where
    pub place : ℕ × Cap
    pub used : Used core ann x s t.live_before place
    pub says : Says t (Some (place.0, unalias place.1)) (without_number t.live_before s, t.set_before)

  pub consume_rule : (r : Rule) (s : ℕ) → says core ann x (before t) r (nodes.Consume s) ≡ Some (said_by t) → ConsumeRule s
  consume_rule rule.Consume s e =
      let a = bind_some (used core ann x s t.live_before) _ (said_by t) e in
      record { place = a.0; used = used_is core ann x s t.live_before a.0 a.1; says = says_is t (Some (a.0.0, unalias a.0.1)) (without_number t.live_before s, t.set_before) a.2 }
  consume_rule r s e = absurd (none-some (said_by t) e)

  -- ---- control

  -- The left side, and then perhaps the right side.
  pub record LazyRule : Type 0 where
    pub left : ℕ
    pub right : ℕ
    pub children : x.children ≡ left ∷ right ∷ []
    pub left_type : Ty
    pub is_left : type_of ann left ≡ Some left_type
    pub left_reads : reads_as 2 left_type ≡ true
    pub right_type : Ty
    pub is_right : type_of ann right ≡ Some right_type
    pub right_reads : reads_as 2 right_type ≡ true
    pub behind_left : Masks
    pub is_behind_left : through ann (left ∷ []) (before t) ≡ Some behind_left
    pub behind : Masks
    pub is_behind : through ann (right ∷ []) behind_left ≡ Some behind
    pub says : Says t (Some (2, form.Val)) (meet_masks behind_left behind)

  lazy_is : lazy_says ann x (before t) ≡ Some (said_by t) → LazyRule
  lazy_is e =
      let v = bind_some (two_types ann x.children) _ (said_by t) e in
      let n = bind_some (lazy_masks ann x.children (before t)) _ (said_by t) v.2 in
      let k = kept (both_read_as 2 v.0) (Some (says_of (Some (2, form.Val)) n.0)) (said_by t) n.2 in
      let p = and_parts (reads_as 2 v.0.0) (reads_as 2 v.0.1) k.0 in
      let ts = types_are ann x.children v.0 v.1 in
      let masks : lazy_masks ann (ts.left ∷ ts.right ∷ []) (before t) ≡ Some n.0 = ap (λ (cs : List ℕ). lazy_masks ann cs (before t)) (sym ts.children) ∙ n.1 in
      let a = bind_some (through ann (ts.left ∷ []) (before t)) _ n.0 masks in
      let b = bind_some (through ann (ts.right ∷ []) a.0) _ n.0 a.2 in
      record {
        left = ts.left;
        right = ts.right;
        children = ts.children;
        left_type = v.0.0;
        is_left = ts.left_type;
        left_reads = p.0;
        right_type = v.0.1;
        is_right = ts.right_type;
        right_reads = p.1;
        behind_left = a.0;
        is_behind_left = a.1;
        behind = b.0;
        is_behind = b.1;
        says = said_as t (Some (2, form.Val)) (Some (2, form.Val)) (meet_masks a.0 b.0) n.0 refl (same_Some (meet_masks a.0 b.0) n.0 b.2) k.1;
      }

  pub and_rule : (r : Rule) → says core ann x (before t) r nodes.And ≡ Some (said_by t) → LazyRule
  and_rule rule.Lazy e = lazy_is e
  and_rule r e = absurd (none-some (said_by t) e)

  pub or_rule : (r : Rule) → says core ann x (before t) r nodes.Or ≡ Some (said_by t) → LazyRule
  or_rule rule.Lazy e = lazy_is e
  or_rule r e = absurd (none-some (said_by t) e)

  -- A condition, and two branches that both start after it.
  pub record IfRule : Type 0 where
    pub condition : ℕ
    pub then_branch : ℕ
    pub else_branch : ℕ
    pub children : x.children ≡ condition ∷ then_branch ∷ else_branch ∷ []
    pub is_condition : is_condition (type_of ann condition) ≡ true
    pub behind : Masks
    pub is_behind : through ann (condition ∷ []) (before t) ≡ Some behind
    pub behind_then : Masks
    pub is_then : through ann (then_branch ∷ []) behind ≡ Some behind_then
    pub behind_else : Masks
    pub is_else : through ann (else_branch ∷ []) behind ≡ Some behind_else
    pub then_note : Note
    pub is_then_note : slice_get ann.notes then_branch ≡ Some then_note
    pub else_note : Note
    pub is_else_note : slice_get ann.notes else_branch ≡ Some else_note
    pub says : Says t (joined core then_note.ty else_note.ty) (meet_masks behind_then behind_else)

  if_is : if_says core ann x (before t) ≡ Some (said_by t) → IfRule
  if_is e =
      let c = bind_some (three_children x.children) _ (said_by t) e in
      let n = bind_some (branch_masks ann c.0 (before t)) _ (said_by t) c.2 in
      let ts = bind_some (branch_types ann c.0) _ (said_by t) n.2 in
      let k = kept (is_condition (type_of ann c.0.0)) (Some (says_of (joined core ts.0.0 ts.0.1) n.0)) (said_by t) ts.2 in
      let m = bind_some (through ann (c.0.0 ∷ []) (before t)) _ n.0 n.1 in
      let a = bind_some (through ann (c.0.1 ∷ []) m.0) _ n.0 m.2 in
      let b = bind_some (through ann (c.0.2 ∷ []) m.0) _ n.0 a.2 in
      let u = bind_some (slice_get ann.notes c.0.1) _ ts.0 ts.1 in
      let v = bind_some (slice_get ann.notes c.0.2) _ ts.0 u.2 in
      let types : ◌≡◌ {A = Option Ty × Option Ty} (u.0.ty, v.0.ty) ts.0 = same_Some (u.0.ty, v.0.ty) ts.0 v.2 in
      let masks : meet_masks a.0 b.0 ≡ n.0 = same_Some (meet_masks a.0 b.0) n.0 b.2 in
      record {
        condition = c.0.0;
        then_branch = c.0.1;
        else_branch = c.0.2;
        children = triple_is x.children c.0 c.1;
        is_condition = k.0;
        behind = m.0;
        is_behind = m.1;
        behind_then = a.0;
        is_then = a.1;
        behind_else = b.0;
        is_else = b.1;
        then_note = u.0;
        is_then_note = u.1;
        else_note = v.0;
        is_else_note = v.1;
        says = said_as t (joined core u.0.ty v.0.ty) (joined core ts.0.0 ts.0.1) (meet_masks a.0 b.0) n.0 (ap (λ (p : Option Ty × Option Ty). joined core p.0 p.1) types) masks k.1;
      }

  pub if_rule : (r : Rule) → says core ann x (before t) r nodes.If ≡ Some (said_by t) → IfRule
  if_rule rule.If e = if_is e
  if_rule r e = absurd (none-some (said_by t) e)

  -- A condition, and a body that comes back to before the condition.
  pub record WhileRule : Type 0 where
    pub condition : ℕ
    pub body : ℕ
    pub children : x.children ≡ condition ∷ body ∷ []
    pub is_condition : is_condition (type_of ann condition) ≡ true
    pub behind : Masks
    pub is_behind : through ann (condition ∷ []) (before t) ≡ Some behind
    pub behind_body : Masks
    pub is_body : through ann (body ∷ []) behind ≡ Some behind_body
    pub keeps_live : within t.live_before behind_body.0 ≡ true
    pub keeps_set : same behind_body.1 t.set_before ≡ true
    pub says : Says t (Some (0, form.Val)) behind

  while_is : while_says ann x (before t) ≡ Some (said_by t) → WhileRule
  while_is e =
      let c = bind_some (two_children x.children) _ (said_by t) e in
      let n = bind_some (loop_masks ann c.0 (before t)) _ (said_by t) c.2 in
      let k = kept (is_condition (type_of ann c.0.0)) (Some (says_of (Some (0, form.Val)) n.0)) (said_by t) n.2 in
      let a = bind_some (through ann (c.0.0 ∷ []) (before t)) _ n.0 n.1 in
      let b = bind_some (through ann (c.0.1 ∷ []) a.0) _ n.0 a.2 in
      let l = kept (within t.live_before b.0.0 && same b.0.1 t.set_before) (Some a.0) n.0 b.2 in
      let p = and_parts (within t.live_before b.0.0) (same b.0.1 t.set_before) l.0 in
      record {
        condition = c.0.0;
        body = c.0.1;
        children = pair_is x.children c.0 c.1;
        is_condition = k.0;
        behind = a.0;
        is_behind = a.1;
        behind_body = b.0;
        is_body = b.1;
        keeps_live = p.0;
        keeps_set = p.1;
        says = said_as t (Some (0, form.Val)) (Some (0, form.Val)) a.0 n.0 refl (same_Some a.0 n.0 l.1) k.1;
      }

  pub while_rule : (r : Rule) → says core ann x (before t) r nodes.While ≡ Some (said_by t) → WhileRule
  while_rule rule.While e = while_is e
  while_rule r e = absurd (none-some (said_by t) e)

  -- Items, one after another.
  pub record SeqRule : Type 0 where
    pub last : ℕ
    pub is_last : last_child x.children ≡ Some last
    pub note : Note
    pub is_note : slice_get ann.notes last ≡ Some note
    pub behind : Masks
    pub is_behind : through ann x.children (before t) ≡ Some behind
    pub says : Says t note.ty (without_items core x.children behind.0, behind.1)

  seq_is : seq_says core ann x (before t) ≡ Some (said_by t) → SeqRule
  seq_is e =
      let c = bind_some (last_child x.children) _ (said_by t) e in
      let u = bind_some (slice_get ann.notes c.0) _ (said_by t) c.2 in
      let n = bind_some (through ann x.children (before t)) _ (said_by t) u.2 in
      record { last = c.0; is_last = c.1; note = u.0; is_note = u.1; behind = n.0; is_behind = n.1; says = says_is t u.0.ty (without_items core x.children n.0.0, n.0.1) n.2 }

  pub seq_rule : (r : Rule) → says core ann x (before t) r nodes.Seq ≡ Some (said_by t) → SeqRule
  seq_rule rule.Seq e = seq_is e
  seq_rule r e = absurd (none-some (said_by t) e)

  -- One child, whose value comes out in another form.
  pub record RecoverRule (k : Option Cap) : Type 0 where
    pub child : ℕ
    pub children : x.children ≡ child ∷ []
    pub value : Ty
    pub is_value : type_of ann child ≡ Some value
    pub form : Form
    pub is_form : recovered k value.1 ≡ Some form
    pub behind : Masks
    pub is_behind : through ann x.children (before t) ≡ Some behind
    pub says : Says t (Some (value.0, form)) behind

  recover_is : (k : Option Cap) → recover_says ann x k (before t) ≡ Some (said_by t) → RecoverRule k
  recover_is k e =
      let c = bind_some (one_child x.children) _ (said_by t) e in
      let v = bind_some (type_of ann c.0) _ (said_by t) c.2 in
      let f = bind_some (recovered k v.0.1) _ (said_by t) v.2 in
      let n = bind_some (through ann x.children (before t)) _ (said_by t) f.2 in
      record { child = c.0; children = only_one x.children c.0 c.1; value = v.0; is_value = v.1; form = f.0; is_form = f.1; behind = n.0; is_behind = n.1; says = says_is t (Some (v.0.0, f.0)) n.0 n.2 }

  pub recover_rule : (r : Rule) (k : Option Cap) → says core ann x (before t) r (nodes.Recover k) ≡ Some (said_by t) → RecoverRule k
  recover_rule rule.Recover k e = recover_is k e
  recover_rule r k e = absurd (none-some (said_by t) e)

-- ---- types that are required

pub read_is : (n : ℕ) (v : Ty) → reads_as n v ≡ true → (v.0 ≡ n) × (readable v.1 ≡ true)
read_is n v e = let p = and_parts (nat_eq v.0 n) (readable v.1) e in (eqb-true v.0 n p.0, p.1)

pub condition_is : (o : Option Ty) → is_condition o ≡ true → (f : Form) × (o ≡ Some (2, f))
condition_is None e = absurd (false_true e)
condition_is (Some v) e = (v.1, ap (λ (n : ℕ). Some (n, v.1)) (read_is 2 v e).0)
