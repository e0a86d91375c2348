-- What is live after a node that meets its rule: what is live before it or after one of its children, and the slot that
-- the node itself sets. What the items of a sequence define is not live after it.
use Rattle.std.specs.Prelude.{◌≡◌, ◌⊎◌, ℕ, zero, suc, Bool, cond, List, [], ◌∷◌, Option, Some, None, slice_get, refl}
use Rattle.std.proofs.{Common.{inl, inr, ap, sym, subst, ◌∙◌}, lemmas.Option.{same_Some, none-some}}
use Rattle.pc_caps.specs.{Tables.view, declared.capability.Cap.Cap}
use Rattle.pc_caps.specs.declared.capability.Form.TheVariants as form
use Rattle.pc_core.specs.{declared.declarations.Method.Method, declared.nodes.Node.Node, declared.nodes.NodeKind.NodeKind, CoreData.CoreData}
use Rattle.pc_core.specs.declared.nodes.NodeKind.TheVariants as node
use Rattle.pc_base.specs.Lists.{◌>>=◌}
use Rattle.pc_base.proofs.Options.{bind_some, kept, kept_otherwise}
use Rattle.pc_masks.specs.{declared.mask.Mask.Mask, Masks.{IsInMask, with_number, without_number, meet}, MaskLaws.{meet_bits, with_number_bits, without_number_bits}}
use Rattle.pc_ann.specs.{declared.annotation.Note.Note, declared.annotation.Ann.Ann, declared.annotation.Rule.Rule}
use Rattle.pc_ann.specs.declared.annotation.Rule.TheVariants as rule
use Rattle.pc_rules.specs.{declared.said.Said.Said, Parts.{says_of, through, type_of, one_child}, Values.{defines, old_value, assigns}, Fields.{own_field, field_type, old_type}, Control.{without_definition, without_item, without_items, recovered}, Rules.said_by}
use Rattle.pc_valid.specs.Words.{Ty, Masks, before, masks_after, Defines}
use Rattle.pc_rules.proofs.ByNumber.{two_types, slot_of, used, this_says, local_says, consume_says, defined, define_says, assigned, assign_says, incomplete, read_says, own_read_says, write_says, value_type, own_write_says, called, builtin_says, value_says, not_says, identity_says, recover_says, body_says, says, IsSaid, own_seen}
use Rattle.pc_types.proofs.{Tasks.Within, EvalChildren.{first_of_them, items_less}, Inverse.{LazyRule, IfRule, WhileRule, SeqRule, and_rule, or_rule, if_rule, while_rule, seq_rule}}

-- ---- after children

-- The slot is live after the child with index j.
pub record BehindChild (ann : Ann) (cs : List ℕ) (j s : ℕ) : Type 0 where
  pub child : ℕ
  pub is_child : slice_get cs j ≡ Some child
  pub note : Note
  pub is_note : slice_get ann.notes child ≡ Some note
  pub live : IsInMask note.live_after s

-- It is live before them, or after one of them.
abbrev pub Remains : Ann → List ℕ → Mask → ℕ → Type 0
Remains ann cs l s = IsInMask l s ⊎ ((j : ℕ) × BehindChild ann cs j s)

-- What is live after children that are evaluated one after another.
pub through_remains : (ann : Ann) (cs : List ℕ) (m n : Masks) (s : ℕ) → through ann cs m ≡ Some n → IsInMask n.0 s → Remains ann cs m.0 s
through_remains ann [] m n s e h = inl (subst (λ (k : Masks). IsInMask k.0 s) (sym (same_Some m n e)) h)
through_remains ann (c ∷ cs) m n s e h =
    let f = first_of_them ann c cs m n e in
    elim (through_remains ann cs (masks_after f.note) n s f.rest h) [
      | inl l ↦ inr (0, record { child = c; is_child = refl; note = f.note; is_note = f.is_note; live = l })
      | inr q ↦ inr (suc q.0, record { child = q.1.child; is_child = q.1.is_child; note = q.1.note; is_note = q.1.is_note; live = q.1.live })
    ]

-- What is live after one child.
one_behind : (ann : Ann) (c : ℕ) (m n : Masks) (s : ℕ) → through ann (c ∷ []) m ≡ Some n → IsInMask n.0 s → (u : Note) × (slice_get ann.notes c ≡ Some u) × IsInMask u.live_after s
one_behind ann c m n s e h =
    let f = first_of_them ann c [] m n e in
    (f.note, f.is_note, subst (λ (k : Masks). IsInMask k.0 s) (sym (same_Some (masks_after f.note) n f.rest)) h)

-- ---- what a rule states

by_said : (ty : Option Ty) (n : Masks) (q : Said) → Some (says_of ty n) ≡ Some q → Within q.live n.0
by_said ty n q e s h = subst (λ (p : Said). IsInMask p.live s) (sym (same_Some (says_of ty n) q e)) h

-- Under a condition.
if_said : (b : Bool) (ty : Option Ty) (n : Masks) (q : Said) → cond b (Some (says_of ty n)) None ≡ Some q → Within q.live n.0
if_said b ty n q e = by_said ty n q (kept b (Some (says_of ty n)) q e).1

-- The slot that the node sets.
abbrev pub Sets : NodeKind → ℕ → Type 0
Sets k s = (k ≡ node.Define s) ⊎ (k ≡ node.Assign s)

module _ (core : CoreData) (ann : Ann) (x : Node) (m : Masks) (q : Said) (s : ℕ) (live : IsInMask q.live s) where
  -- The last step of a rule looks at the masks after the children.
  ends : (f : Masks → Option Said) → (through ann x.children m >>= f) ≡ Some q → ((n : Masks) → f n ≡ Some q → Within q.live n.0) → Remains ann x.children m.0 s
  ends f e within =
      let n = bind_some (through ann x.children m) f q e in
      through_remains ann x.children m n.0 s n.1 (within n.0 n.2 s live)

  literal_remains : (ty : Option Ty) → Some (says_of ty m) ≡ Some q → Remains ann x.children m.0 s
  literal_remains ty e = inl (by_said ty m q e s live)

  this_remains : this_says core ann x m ≡ Some q → Remains ann x.children m.0 s
  this_remains e =
      let a = bind_some (slice_get core.methods x.method) _ q e in
      let b = bind_some (slot_of core ann x.method 0) _ q a.2 in
      inl (by_said _ m q b.2 s live)

  local_remains : (i : ℕ) → local_says core ann x i m ≡ Some q → Remains ann x.children m.0 s
  local_remains i e = let a = bind_some (used core ann x i m.0) _ q e in inl (by_said _ m q a.2 s live)

  consume_remains : (i : ℕ) → consume_says core ann x i m ≡ Some q → Remains ann x.children m.0 s
  consume_remains i e =
      let a = bind_some (used core ann x i m.0) _ q e in
      inl ((without_number_bits m.0 i s).0 (by_said _ (without_number m.0 i, m.1) q a.2 s live)).1

  read_remains : (name : ℕ) → read_says core ann x name m ≡ Some q → Remains ann x.children m.0 s
  read_remains name e =
      let a = bind_some (one_child x.children) _ q e in
      let b = bind_some (type_of ann a.0) _ q a.2 in
      let c = bind_some (field_type core b.0 name) _ q b.2 in
      ends _ c.2 (λ n h. by_said _ n q h)

  own_read_remains : (name : ℕ) → own_read_says core ann x name m ≡ Some q → Remains ann x.children m.0 s
  own_read_remains name e =
      let a = bind_some (own_field core x name) _ q e in
      let b = bind_some (view form.Ref a.0.1.cap) (λ v. through ann x.children m >>= own_seen a.0 v) q a.2 in
      ends (own_seen a.0 b.0) b.2 (λ n h. if_said _ _ n q h)

  write_remains : (name : ℕ) → write_says core ann x name m ≡ Some q → Remains ann x.children m.0 s
  write_remains name e =
      let a = bind_some (two_types ann x.children) _ q e in
      let b = bind_some (old_type core a.0.0 a.0.1 name) _ q a.2 in
      ends _ b.2 (λ n h. by_said _ n q h)

  own_write_remains : (name : ℕ) → own_write_says core ann x name m ≡ Some q → Remains ann x.children m.0 s
  own_write_remains name e =
      let a = bind_some (own_field core x name) _ q e in
      let b = bind_some (value_type ann x.children) _ q a.2 in
      ends _ b.2 (λ n h. if_said _ _ (n.0, with_number n.1 a.0.0) q h)

  -- A slot that is set is live, besides what remains.
  set_remains : (i : ℕ) (ty : Option Ty) (n : Masks) → through ann x.children m ≡ Some n → Some (says_of ty (with_number n.0 i, n.1)) ≡ Some q → Remains ann x.children m.0 s ⊎ (s ≡ i)
  set_remains i ty n is e =
      elim ((with_number_bits n.0 i s).0 (by_said ty (with_number n.0 i, n.1) q e s live)) [
        | inl own ↦ inr own.0
        | inr other ↦ inl (through_remains ann x.children m n s is other)
      ]

  define_remains : (i : ℕ) → define_says core ann x i m ≡ Some q → Remains ann x.children m.0 s ⊎ (s ≡ i)
  define_remains i e =
      let a = bind_some (one_child x.children) _ q e in
      let b = bind_some (type_of ann a.0) _ q a.2 in
      let c = bind_some (slot_of core ann x.method i) _ q b.2 in
      let n = bind_some (through ann x.children m) _ q (kept (defines core c.0 b.0) (defined ann x i m) q c.2).1 in
      set_remains i None n.0 n.1 n.2

  assign_remains : (i : ℕ) → assign_says core ann x i m ≡ Some q → Remains ann x.children m.0 s ⊎ (s ≡ i)
  assign_remains i e =
      let a = bind_some (one_child x.children) _ q e in
      let b = bind_some (type_of ann a.0) _ q a.2 in
      let c = bind_some (slot_of core ann x.method i) _ q b.2 in
      let n = bind_some (through ann x.children m) _ q (kept (assigns core x c.0 b.0) (assigned ann x i c.0.1 m) q c.2).1 in
      set_remains i (old_value i c.0.1 n.0.0) n.0 n.1 n.2

  made_remains : (k : ℕ) (f : Method → Masks → Option Said) → (slice_get core.methods k >>= λ g. through ann x.children m >>= f g) ≡ Some q → ((g : Method) (n : Masks) → f g n ≡ Some q → Within q.live n.0) → Remains ann x.children m.0 s
  made_remains k f e within = let a = bind_some (slice_get core.methods k) _ q e in ends (f a.0) a.2 (within a.0)

  called_remains : (name : ℕ) (f : Ty × ℕ → Method → Masks → Option Said) → (called core ann x name >>= λ i. slice_get core.methods i.1 >>= λ g. through ann x.children m >>= f i g) ≡ Some q
      → ((i : Ty × ℕ) (g : Method) (n : Masks) → f i g n ≡ Some q → Within q.live n.0) → Remains ann x.children m.0 s
  called_remains name f e within =
      let a = bind_some (called core ann x name) _ q e in
      let b = bind_some (slice_get core.methods a.0.1) _ q a.2 in
      ends (f a.0 b.0) b.2 (within a.0 b.0)

  builtin_remains : (name : ℕ) → builtin_says core ann x name m ≡ Some q → Remains ann x.children m.0 s
  builtin_remains name e =
      let a = bind_some (one_child x.children) _ q e in
      let b = bind_some (type_of ann a.0) _ q a.2 in
      let c = bind_some (slice_get core.names name) _ q b.2 in
      ends _ c.2 (λ n h. if_said _ _ n q h)

  value_remains : (e : ℕ) → value_says e ann x m ≡ Some q → Remains ann x.children m.0 s
  value_remains e h = ends _ h (λ n g. by_said _ n q g)

  tested_remains : (e : ℕ) (t : Ty × Ty → Bool) → (two_types ann x.children >>= λ v. cond (t v) (value_says e ann x m) None) ≡ Some q → Remains ann x.children m.0 s
  tested_remains e t h =
      let a = bind_some (two_types ann x.children) _ q h in
      value_remains e (kept (t a.0) (value_says e ann x m) q a.2).1

  not_remains : not_says ann x m ≡ Some q → Remains ann x.children m.0 s
  not_remains e =
      let a = bind_some (one_child x.children) _ q e in
      let b = bind_some (type_of ann a.0) _ q a.2 in
      value_remains 2 (kept _ (value_says 2 ann x m) q b.2).1

  identity_remains : identity_says ann x m ≡ Some q → Remains ann x.children m.0 s
  identity_remains e = let a = bind_some (two_types ann x.children) _ q e in value_remains 2 a.2

  recover_remains : (k : Option Cap) → recover_says ann x k m ≡ Some q → Remains ann x.children m.0 s
  recover_remains k e =
      let a = bind_some (one_child x.children) _ q e in
      let b = bind_some (type_of ann a.0) _ q a.2 in
      let f = bind_some (recovered k b.0.1) _ q b.2 in
      ends _ f.2 (λ n h. by_said _ n q h)

  body_remains : body_says core ann x m ≡ Some q → Remains ann x.children m.0 s
  body_remains e =
      let a = bind_some (slice_get core.methods x.method) _ q e in
      let b = bind_some (one_child x.children) _ q a.2 in
      let c = bind_some (slice_get ann.notes b.0) _ q b.2 in
      ends _ c.2 (λ n h. if_said _ _ n q h)

-- ---- control

module _ (core : CoreData) (ann : Ann) (x : Node) (t : Note) (s : ℕ) (live : IsInMask t.live_after s) where
  -- A child with this index, after which the masks have the slot.
  behind_one : (j c : ℕ) (cs : List ℕ) (m n : Masks) → x.children ≡ cs → slice_get cs j ≡ Some c → through ann (c ∷ []) m ≡ Some n → IsInMask n.0 s → Remains ann x.children t.live_before s
  behind_one j c cs m n are at e h =
      let u = one_behind ann c m n s e h in
      inr (j, record { child = c; is_child = ap (λ (ds : List ℕ). slice_get ds j) are ∙ at; note = u.0; is_note = u.1; live = u.2 })

  lazy_remains : LazyRule core ann x t → Remains ann x.children t.live_before s
  lazy_remains r =
      let both : IsInMask (meet r.behind_left.0 r.behind.0) s = subst (λ (l : Mask). IsInMask l s) r.says.live live in
      behind_one 1 r.right (r.left ∷ r.right ∷ []) r.behind_left r.behind r.children refl r.is_behind ((meet_bits r.behind_left.0 r.behind.0 s).0 both).1

  if_remains : IfRule core ann x t → Remains ann x.children t.live_before s
  if_remains r =
      let both : IsInMask (meet r.behind_then.0 r.behind_else.0) s = subst (λ (l : Mask). IsInMask l s) r.says.live live in
      behind_one 2 r.else_branch (r.condition ∷ r.then_branch ∷ r.else_branch ∷ []) r.behind r.behind_else r.children refl r.is_else ((meet_bits r.behind_then.0 r.behind_else.0 s).0 both).1

  while_remains : WhileRule core ann x t → Remains ann x.children t.live_before s
  while_remains r = behind_one 0 r.condition (r.condition ∷ r.body ∷ []) (before t) r.behind r.children refl r.is_behind (subst (λ (l : Mask). IsInMask l s) r.says.live live)

  seq_remains : SeqRule core ann x t → Remains ann x.children t.live_before s
  seq_remains r =
      through_remains ann x.children (before t) r.behind s r.is_behind
      (items_less core x.children r.behind.0 s (subst (λ (l : Mask). IsInMask l s) r.says.live live))

  -- ---- each rule

  slot_set : (i : ℕ) (k : NodeKind) → (s ≡ i → Sets k s) → Remains ann x.children t.live_before s ⊎ (s ≡ i) → Remains ann x.children t.live_before s ⊎ Sets k s
  slot_set i k sets r = elim r [ inl h ↦ inl h | inr e ↦ inr (sets e) ]

  says_remains : (r : Rule) (k : NodeKind) → says core ann x (before t) r k ≡ Some (said_by t) → Remains ann x.children t.live_before s ⊎ Sets k s
  says_remains rule.Number (node.Number v) e = inl (literal_remains core ann x (before t) (said_by t) s live _ e)
  says_remains rule.Truth (node.Truth v) e = inl (literal_remains core ann x (before t) (said_by t) s live _ e)
  says_remains rule.Text (node.Text v) e = inl (literal_remains core ann x (before t) (said_by t) s live _ e)
  says_remains rule.Prim (node.Prim v) e = inl (literal_remains core ann x (before t) (said_by t) s live _ e)
  says_remains rule.This node.This e = inl (this_remains core ann x (before t) (said_by t) s live e)
  says_remains rule.Local (node.Local i) e = inl (local_remains core ann x (before t) (said_by t) s live i e)
  says_remains rule.Consume (node.Consume i) e = inl (consume_remains core ann x (before t) (said_by t) s live i e)
  says_remains rule.Get (node.Field name) e = inl (read_remains core ann x (before t) (said_by t) s live name (kept_otherwise (incomplete core ann x) (read_says core ann x name (before t)) (said_by t) e).1)
  says_remains rule.GetOwn (node.Field name) e = inl (own_read_remains core ann x (before t) (said_by t) s live name (kept (incomplete core ann x) (own_read_says core ann x name (before t)) (said_by t) e).1)
  says_remains rule.Put (node.SetField name) e = inl (write_remains core ann x (before t) (said_by t) s live name (kept_otherwise (incomplete core ann x) (write_says core ann x name (before t)) (said_by t) e).1)
  says_remains rule.PutOwn (node.SetField name) e = inl (own_write_remains core ann x (before t) (said_by t) s live name (kept (incomplete core ann x) (own_write_says core ann x name (before t)) (said_by t) e).1)
  says_remains rule.Define (node.Define i) e = slot_set i (node.Define i) (λ h. inl (ap (λ (j : ℕ). node.Define j) (sym h))) (define_remains core ann x (before t) (said_by t) s live i e)
  says_remains rule.Assign (node.Assign i) e = slot_set i (node.Assign i) (λ h. inr (ap (λ (j : ℕ). node.Assign j) (sym h))) (assign_remains core ann x (before t) (said_by t) s live i e)
  says_remains rule.New (node.New k) e = inl (made_remains core ann x (before t) (said_by t) s live k _ e (λ g n h. if_said _ _ n (said_by t) h))
  says_remains rule.Spawn (node.Spawn k) e = inl (made_remains core ann x (before t) (said_by t) s live k _ e (λ g n h. if_said _ _ n (said_by t) h))
  says_remains rule.Call (node.Call name) e = inl (called_remains core ann x (before t) (said_by t) s live name _ e (λ i g n h. if_said _ _ n (said_by t) h))
  says_remains rule.CallRecover (node.Call name) e = inl (called_remains core ann x (before t) (said_by t) s live name _ e (λ i g n h. if_said _ _ n (said_by t) h))
  says_remains rule.Send (node.Call name) e = inl (called_remains core ann x (before t) (said_by t) s live name _ e (λ i g n h. if_said _ _ n (said_by t) h))
  says_remains rule.Builtin (node.Call name) e = inl (builtin_remains core ann x (before t) (said_by t) s live name e)
  says_remains rule.Arith (node.Binary o) e = inl (tested_remains core ann x (before t) (said_by t) s live 1 _ e)
  says_remains rule.Compare (node.Binary o) e = inl (tested_remains core ann x (before t) (said_by t) s live 2 _ e)
  says_remains rule.Equal (node.Binary o) e = inl (tested_remains core ann x (before t) (said_by t) s live 2 _ e)
  says_remains rule.Join (node.Binary o) e = inl (tested_remains core ann x (before t) (said_by t) s live 3 _ e)
  says_remains rule.Logic (node.Binary o) e = inl (tested_remains core ann x (before t) (said_by t) s live 2 _ e)
  says_remains rule.Logic node.Not e = inl (not_remains core ann x (before t) (said_by t) s live e)
  says_remains rule.Lazy node.And e = inl (lazy_remains (and_rule core ann x t rule.Lazy e))
  says_remains rule.Lazy node.Or e = inl (lazy_remains (or_rule core ann x t rule.Lazy e))
  says_remains rule.Identity (node.Same v) e = inl (identity_remains core ann x (before t) (said_by t) s live e)
  says_remains rule.Seq node.Seq e = inl (seq_remains (seq_rule core ann x t rule.Seq e))
  says_remains rule.If node.If e = inl (if_remains (if_rule core ann x t rule.If e))
  says_remains rule.While node.While e = inl (while_remains (while_rule core ann x t rule.While e))
  says_remains rule.Recover (node.Recover k) e = inl (recover_remains core ann x (before t) (said_by t) s live k e)
  says_remains rule.Body node.Body e = inl (body_remains core ann x (before t) (said_by t) s live e)
  says_remains r k e = absurd (none-some (said_by t) e)

  pub live_behind : IsSaid core ann x t → Remains ann x.children t.live_before s ⊎ Sets x.kind s
  live_behind e = says_remains t.rule x.kind e

-- ---- sequences

definition_out : (i : ℕ) (k : NodeKind) (l : Mask) → k ≡ node.Define i → IsInMask (without_definition k l) i → ⊥
definition_out i k l e h = ((without_number_bits l i i).0 (subst (λ (j : NodeKind). IsInMask (without_definition j l) i) e h)).0 refl

-- What an item defines is taken out.
items_out : (core : CoreData) (cs : List ℕ) (l : Mask) (i c j : ℕ) (y : Node) → slice_get cs j ≡ Some c → slice_get core.nodes c ≡ Some y → y.kind ≡ node.Define i → IsInMask (without_items core cs l) i → ⊥
items_out core [] l i c j y at is k h = none-some c at
items_out core (d ∷ cs) l i c zero y at is k h =
    let here : slice_get core.nodes d ≡ Some y = ap (slice_get core.nodes) (same_Some d c at) ∙ is in
    let first = items_less core cs (without_item (slice_get core.nodes d) l) i h in
    definition_out i y.kind l k (subst (λ (o : Option Node). IsInMask (without_item o l) i) here first)
items_out core (d ∷ cs) l i c (suc j) y at is k h = items_out core cs (without_item (slice_get core.nodes d) l) i c j y at is k h

-- After a sequence, what its items define is not live.
pub defined_out : (core : CoreData) (ann : Ann) (x : Node) (t : Note) (s : ℕ) → IsInMask t.live_after s → IsSaid core ann x t → x.kind ≡ node.Seq → Defines core x.children s → ⊥
defined_out core ann x t s live e is d =
    let r = seq_rule core ann x t t.rule (subst (λ (k : NodeKind). says core ann x (before t) t.rule k ≡ Some (said_by t)) is e) in
    items_out core x.children r.behind.0 s d.0 d.2.0 d.1 d.2.1 d.3 d.4 (subst (λ (l : Mask). IsInMask l s) r.says.live live)
