-- If a rule applies to a node, it is the only one, and the node's children are evaluated one after the other, except
-- for the branches of an `if`, which both follow the condition.
use Rattle.std.specs.Prelude.{◌≡◌, ℕ, zero, suc, Bool, true, false, cond, List, [], ◌∷◌, length, Option, Some, None, slice_get, if◌then◌else◌, refl}
use Rattle.std.proofs.{Common.{ap, sym, subst, ◌∙◌}, lemmas.Option.{same_Some, none-some}, lemmas.Bool.{and_parts, eqb-true}}
use Rattle.pc_caps.specs.{declared.capability.Cap.Cap, Tables.view}
use Rattle.pc_caps.specs.declared.capability.Form.TheVariants as form
use Rattle.pc_core.specs.{declared.declarations.Method.Method, declared.nodes.Node.Node, declared.nodes.NodeKind.NodeKind, CoreData.CoreData, Formed.Formed, Nodes.HasArity}
use Rattle.pc_core.specs.declared.nodes.NodeKind.TheVariants as node
use Rattle.pc_base.specs.Lists.{◌>>=◌}
use Rattle.pc_base.proofs.{Options.{bind_some, kept, kept_otherwise, bind_is}, Bools.false_true, Cuts.without_length}
use Rattle.pc_masks.specs.{declared.mask.Mask.Mask, Masks.same}
use Rattle.pc_ann.specs.{declared.annotation.Note.Note, declared.annotation.Ann.Ann, declared.annotation.Rule.Rule}
use Rattle.pc_ann.specs.declared.annotation.Rule.TheVariants as rule
use Rattle.pc_rules.specs.{declared.said.Said.Said, Parts.{starts, through, type_of, one_child, last_child}, Values.{defines, assigns}, Fields.{own_field, field_type, old_type}, Operators.{is_arithmetic, is_comparison, is_equality, is_add, is_xor, both_read_as, comparable}, Control.recovered}
use Rattle.pc_valid.specs.Words.{Ty, Masks, before, masks_after}
use Rattle.pc_rules.proofs.{OneRule.{call_rule, operator_rule, is_call, is_callrecover, is_send, is_builtin, is_arith, is_join, is_compare, is_equal, is_logic, asked}, ByNumber.{two_children, three_children, two_types, slot_of, defined, assigned, incomplete, read_says, own_read_says, write_says, value_type, own_write_says, called, value_says, lazy_masks, branch_masks, loop_masks, says, own_seen}}

-- The children are evaluated one after the other.
abbrev pub Threaded : Ann → List ℕ → Masks → Type 0
Threaded ann cs m = (n : Masks) × (through ann cs m ≡ Some n)

leaf : (ann : Ann) (cs : List ℕ) (m : Masks) → length cs ≡ 0 → Threaded ann cs m
leaf ann cs m e = (m, ap (λ (ds : List ℕ). through ann ds m) (without_length cs e))

threaded : (ann : Ann) (cs : List ℕ) (m : Masks) (f : Masks → Option Said) (q : Said) → (through ann cs m >>= f) ≡ Some q → Threaded ann cs m
threaded ann cs m f q e = let a = bind_some (through ann cs m) f q e in (a.0, a.1)

-- After one node, and then after another.
through_one : (ann : Ann) (c : ℕ) (m n : Masks) → through ann (c ∷ []) m ≡ Some n → (t : Note) × (slice_get ann.notes c ≡ Some t) × (starts t m ≡ true) × (masks_after t ≡ n)
through_one ann c m n e =
    let a = bind_some (slice_get ann.notes c) _ n e in
    let k = kept (starts a.0 m) (Some (masks_after a.0)) n a.2 in
    (a.0, a.1, k.0, same_Some (masks_after a.0) n k.1)

through_two : (ann : Ann) (c d : ℕ) (m n k : Masks) → through ann (c ∷ []) m ≡ Some n → through ann (d ∷ []) n ≡ Some k → through ann (c ∷ d ∷ []) m ≡ Some k
through_two ann c d m n k e f =
    let t = through_one ann c m n e in
    bind_is (slice_get ann.notes c) (λ u. cond (starts u m) (through ann (d ∷ []) (masks_after u)) None) t.0 t.1
    ∙ ap (λ b. cond b (through ann (d ∷ []) (masks_after t.0)) None) t.2 ∙ ap (through ann (d ∷ [])) t.3 ∙ f

two_are : (cs : List ℕ) (c : ℕ × ℕ) → two_children cs ≡ Some c → cs ≡ c.0 ∷ c.1 ∷ []
two_are [] c e = absurd (none-some c e)
two_are (a ∷ []) c e = absurd (none-some c e)
two_are (a ∷ b ∷ []) c e = ap (λ (p : ℕ × ℕ). p.0 ∷ p.1 ∷ []) (same_Some (a, b) c e)
two_are (a ∷ b ∷ d ∷ cs) c e = absurd (none-some c e)

three_are : (cs : List ℕ) (c : ℕ × ℕ × ℕ) → three_children cs ≡ Some c → cs ≡ c.0 ∷ c.1 ∷ c.2 ∷ []
three_are [] c e = absurd (none-some c e)
three_are (a ∷ []) c e = absurd (none-some c e)
three_are (a ∷ b ∷ []) c e = absurd (none-some c e)
three_are (a ∷ b ∷ d ∷ []) c e = ap (λ (p : ℕ × ℕ × ℕ). p.0 ∷ p.1 ∷ p.2 ∷ []) (same_Some (a, b, d) c e)
three_are (a ∷ b ∷ d ∷ f ∷ cs) c e = absurd (none-some c e)

-- Both of two children.
pair_threaded : (ann : Ann) (cs : List ℕ) (c : ℕ × ℕ) (m n k : Masks) → two_children cs ≡ Some c → through ann (c.0 ∷ []) m ≡ Some n → through ann (c.1 ∷ []) n ≡ Some k → Threaded ann cs m
pair_threaded ann cs c m n k e f g = (k, ap (λ (ds : List ℕ). through ann ds m) (two_are cs c e) ∙ through_two ann c.0 c.1 m n k f g)

lazy_threaded : (ann : Ann) (cs : List ℕ) (m : Masks) (f : Masks → Option Said) (q : Said) → (lazy_masks ann cs m >>= f) ≡ Some q → Threaded ann cs m
lazy_threaded ann cs m f q e =
    let a = bind_some (lazy_masks ann cs m) f q e in
    let c = bind_some (two_children cs) _ a.0 a.1 in
    let n = bind_some (through ann (c.0.0 ∷ []) m) _ a.0 c.2 in
    let k = bind_some (through ann (c.0.1 ∷ []) n.0) _ a.0 n.2 in
    pair_threaded ann cs c.0 m n.0 k.0 c.1 n.1 k.1

-- ---- each rule

-- The rule that can apply to node x.
abbrev pub rule_at : CoreData → Ann → Node → NodeKind → Rule
rule_at core ann x (node.Number v) = rule.Number
rule_at core ann x (node.Truth v) = rule.Truth
rule_at core ann x (node.Text v) = rule.Text
rule_at core ann x (node.Prim e) = rule.Prim
rule_at core ann x node.This = rule.This
rule_at core ann x (node.Local s) = rule.Local
rule_at core ann x (node.Consume s) = rule.Consume
rule_at core ann x (node.Field name) = if incomplete core ann x then rule.GetOwn else rule.Get
rule_at core ann x (node.SetField name) = if incomplete core ann x then rule.PutOwn else rule.Put
rule_at core ann x (node.Define s) = rule.Define
rule_at core ann x (node.Assign s) = rule.Assign
rule_at core ann x (node.New k) = rule.New
rule_at core ann x (node.Spawn k) = rule.Spawn
rule_at core ann x (node.Call name) = call_rule core (called core ann x name)
rule_at core ann x (node.Binary o) = operator_rule o (two_types ann x.children)
rule_at core ann x node.Not = rule.Logic
rule_at core ann x node.And = rule.Lazy
rule_at core ann x node.Or = rule.Lazy
rule_at core ann x (node.Same v) = rule.Identity
rule_at core ann x node.Seq = rule.Seq
rule_at core ann x node.If = rule.If
rule_at core ann x node.While = rule.While
rule_at core ann x (node.Recover k) = rule.Recover
rule_at core ann x node.Body = rule.Body

-- The two paths through an `if`.
abbrev pub then_way : List ℕ → List ℕ
then_way (c ∷ a ∷ b ∷ []) = c ∷ a ∷ []
then_way cs = []

abbrev pub else_way : List ℕ → List ℕ
else_way (c ∷ a ∷ b ∷ []) = c ∷ b ∷ []
else_way cs = []

abbrev pub is_branch : NodeKind → Bool
is_branch node.If = true
is_branch k = false

module _ (core : CoreData) (ann : Ann) (x : Node) (m : Masks) (q : Said) where
  read_threads : (name : ℕ) → read_says core ann x name m ≡ Some q → Threaded ann x.children m
  read_threads name e =
      let a = bind_some (one_child x.children) _ q e in
      let b = bind_some (type_of ann a.0) _ q a.2 in
      let c = bind_some (field_type core b.0 name) _ q b.2 in
      threaded ann x.children m _ q c.2

  own_read_threads : (name : ℕ) → own_read_says core ann x name m ≡ Some q → Threaded ann x.children m
  own_read_threads name e =
      let a = bind_some (own_field core x name) _ q e in
      let b = bind_some (view form.Ref a.0.1.cap) (λ s. through ann x.children m >>= own_seen a.0 s) q a.2 in
      threaded ann x.children m (own_seen a.0 b.0) q b.2

  write_threads : (name : ℕ) → write_says core ann x name m ≡ Some q → Threaded ann x.children m
  write_threads name e =
      let a = bind_some (two_types ann x.children) _ q e in
      let b = bind_some (old_type core a.0.0 a.0.1 name) _ q a.2 in
      threaded ann x.children m _ q b.2

  own_write_threads : (name : ℕ) → own_write_says core ann x name m ≡ Some q → Threaded ann x.children m
  own_write_threads name e =
      let a = bind_some (own_field core x name) _ q e in
      let b = bind_some (value_type ann x.children) _ q a.2 in
      threaded ann x.children m _ q b.2

  called_threads : (name : ℕ) (f : Ty × ℕ → Method → Masks → Option Said) → (called core ann x name >>= λ i. slice_get core.methods i.1 >>= λ g. through ann x.children m >>= f i g) ≡ Some q → Threaded ann x.children m
  called_threads name f e =
      let a = bind_some (called core ann x name) _ q e in
      let b = bind_some (slice_get core.methods a.0.1) _ q a.2 in
      threaded ann x.children m _ q b.2

  tested_threads : (e : ℕ) (t : Ty × Ty → Bool) → (two_types ann x.children >>= λ v. cond (t v) (value_says e ann x m) None) ≡ Some q → Threaded ann x.children m
  tested_threads e t h =
      let a = bind_some (two_types ann x.children) _ q h in
      let k = kept (t a.0) (value_says e ann x m) q a.2 in
      threaded ann x.children m _ q k.1

  define_threads : (s : ℕ) → says core ann x m rule.Define (node.Define s) ≡ Some q → Threaded ann x.children m
  define_threads s e =
      let a = bind_some (one_child x.children) _ q e in
      let b = bind_some (type_of ann a.0) _ q a.2 in
      let c = bind_some (slot_of core ann x.method s) _ q b.2 in
      threaded ann x.children m _ q (kept (defines core c.0 b.0) (defined ann x s m) q c.2).1

  assign_threads : (s : ℕ) → says core ann x m rule.Assign (node.Assign s) ≡ Some q → Threaded ann x.children m
  assign_threads s e =
      let a = bind_some (one_child x.children) _ q e in
      let b = bind_some (type_of ann a.0) _ q a.2 in
      let c = bind_some (slot_of core ann x.method s) _ q b.2 in
      threaded ann x.children m _ q (kept (assigns core x c.0 b.0) (assigned ann x s c.0.1 m) q c.2).1

  new_threads : (k : ℕ) → says core ann x m rule.New (node.New k) ≡ Some q → Threaded ann x.children m
  new_threads k e = let a = bind_some (slice_get core.methods k) _ q e in threaded ann x.children m _ q a.2

  spawn_threads : (k : ℕ) → says core ann x m rule.Spawn (node.Spawn k) ≡ Some q → Threaded ann x.children m
  spawn_threads k e = let a = bind_some (slice_get core.methods k) _ q e in threaded ann x.children m _ q a.2

  builtin_threads : (name : ℕ) → says core ann x m rule.Builtin (node.Call name) ≡ Some q → Threaded ann x.children m
  builtin_threads name e =
      let a = bind_some (one_child x.children) _ q e in
      let b = bind_some (type_of ann a.0) _ q a.2 in
      let c = bind_some (slice_get core.names name) _ q b.2 in
      threaded ann x.children m _ q c.2

  not_threads : says core ann x m rule.Logic node.Not ≡ Some q → Threaded ann x.children m
  not_threads e =
      let a = bind_some (one_child x.children) _ q e in
      let b = bind_some (type_of ann a.0) _ q a.2 in
      threaded ann x.children m _ q (kept _ (value_says 2 ann x m) q b.2).1

  and_threads : says core ann x m rule.Lazy node.And ≡ Some q → Threaded ann x.children m
  and_threads e = let a = bind_some (two_types ann x.children) _ q e in lazy_threaded ann x.children m _ q a.2

  or_threads : says core ann x m rule.Lazy node.Or ≡ Some q → Threaded ann x.children m
  or_threads e = let a = bind_some (two_types ann x.children) _ q e in lazy_threaded ann x.children m _ q a.2

  identity_threads : (v : Bool) → says core ann x m rule.Identity (node.Same v) ≡ Some q → Threaded ann x.children m
  identity_threads v e = let a = bind_some (two_types ann x.children) _ q e in threaded ann x.children m _ q a.2

  seq_threads : says core ann x m rule.Seq node.Seq ≡ Some q → Threaded ann x.children m
  seq_threads e =
      let a = bind_some (last_child x.children) _ q e in
      let b = bind_some (slice_get ann.notes a.0) _ q a.2 in
      threaded ann x.children m _ q b.2

  while_threads : says core ann x m rule.While node.While ≡ Some q → Threaded ann x.children m
  while_threads e =
      let c = bind_some (two_children x.children) _ q e in
      let l = bind_some (loop_masks ann c.0 m) _ q c.2 in
      let n = bind_some (through ann (c.0.0 ∷ []) m) _ l.0 l.1 in
      let k = bind_some (through ann (c.0.1 ∷ []) n.0) _ l.0 n.2 in
      pair_threaded ann x.children c.0 m n.0 k.0 c.1 n.1 k.1

  recover_threads : (c : Option Cap) → says core ann x m rule.Recover (node.Recover c) ≡ Some q → Threaded ann x.children m
  recover_threads c e =
      let a = bind_some (one_child x.children) _ q e in
      let b = bind_some (type_of ann a.0) _ q a.2 in
      let f = bind_some (recovered c b.0.1) _ q b.2 in
      threaded ann x.children m _ q f.2

  body_threads : says core ann x m rule.Body node.Body ≡ Some q → Threaded ann x.children m
  body_threads e =
      let a = bind_some (slice_get core.methods x.method) _ q e in
      let b = bind_some (one_child x.children) _ q a.2 in
      let c = bind_some (slice_get ann.notes b.0) _ q b.2 in
      threaded ann x.children m _ q c.2

  -- It is the one that can apply to this node, and the children are evaluated one after the other.
  abbrev Applies : Rule → NodeKind → Type 0
  Applies r k = (Formed core → r ≡ rule_at core ann x k) × (is_branch k ≡ false → HasArity k (length x.children) → Threaded ann x.children m)

  applies : (r : Rule) (k : NodeKind) → says core ann x m r k ≡ Some q → Applies r k
  applies rule.Number (node.Number v) e = (λ f. refl, λ p h. leaf ann x.children m h)
  applies rule.Truth (node.Truth v) e = (λ f. refl, λ p h. leaf ann x.children m h)
  applies rule.Text (node.Text v) e = (λ f. refl, λ p h. leaf ann x.children m h)
  applies rule.Prim (node.Prim v) e = (λ f. refl, λ p h. leaf ann x.children m h)
  applies rule.This node.This e = (λ f. refl, λ p h. leaf ann x.children m h)
  applies rule.Local (node.Local s) e = (λ f. refl, λ p h. leaf ann x.children m h)
  applies rule.Consume (node.Consume s) e = (λ f. refl, λ p h. leaf ann x.children m h)
  applies rule.Get (node.Field name) e =
      let a = kept_otherwise (incomplete core ann x) (read_says core ann x name m) q e in
      (λ f. sym (ap (λ t. cond t rule.GetOwn rule.Get) a.0), λ p h. read_threads name a.1)
  applies rule.GetOwn (node.Field name) e =
      let a = kept (incomplete core ann x) (own_read_says core ann x name m) q e in
      (λ f. sym (ap (λ t. cond t rule.GetOwn rule.Get) a.0), λ p h. own_read_threads name a.1)
  applies rule.Put (node.SetField name) e =
      let a = kept_otherwise (incomplete core ann x) (write_says core ann x name m) q e in
      (λ f. sym (ap (λ t. cond t rule.PutOwn rule.Put) a.0), λ p h. write_threads name a.1)
  applies rule.PutOwn (node.SetField name) e =
      let a = kept (incomplete core ann x) (own_write_says core ann x name m) q e in
      (λ f. sym (ap (λ t. cond t rule.PutOwn rule.Put) a.0), λ p h. own_write_threads name a.1)
  applies rule.Define (node.Define s) e = (λ f. refl, λ p h. define_threads s e)
  applies rule.Assign (node.Assign s) e = (λ f. refl, λ p h. assign_threads s e)
  applies rule.New (node.New k) e = (λ f. refl, λ p h. new_threads k e)
  applies rule.Spawn (node.Spawn k) e = (λ f. refl, λ p h. spawn_threads k e)
  applies rule.Call (node.Call name) e = (λ f. is_call core ann x m q name e, λ p h. called_threads name _ e)
  applies rule.CallRecover (node.Call name) e = (λ f. is_callrecover core ann x m q name e, λ p h. called_threads name _ e)
  applies rule.Send (node.Call name) e = (λ f. is_send core ann x m q name e, λ p h. called_threads name _ e)
  applies rule.Builtin (node.Call name) e = (λ f. is_builtin core ann x m q name f e, λ p h. builtin_threads name e)
  applies rule.Arith (node.Binary o) e =
      let a = asked ann x m q 1 (is_arithmetic o) (both_read_as 1) e in
      (λ f. is_arith o (two_types ann x.children) a.0 a.1 a.2 a.3, λ p h. tested_threads 1 _ e)
  applies rule.Compare (node.Binary o) e =
      let a = asked ann x m q 2 (is_comparison o) (both_read_as 1) e in
      (λ f. is_compare o (two_types ann x.children) a.2, λ p h. tested_threads 2 _ e)
  applies rule.Equal (node.Binary o) e =
      let a = asked ann x m q 2 (is_equality o) comparable e in
      (λ f. is_equal o (two_types ann x.children) a.2, λ p h. tested_threads 2 _ e)
  applies rule.Join (node.Binary o) e =
      let a = asked ann x m q 3 (is_add o) (both_read_as 3) e in
      (λ f. is_join o (two_types ann x.children) a.0 a.1 a.2 a.3, λ p h. tested_threads 3 _ e)
  applies rule.Logic (node.Binary o) e =
      let a = asked ann x m q 2 (is_xor o) (both_read_as 2) e in
      (λ f. is_logic o (two_types ann x.children) a.2, λ p h. tested_threads 2 _ e)
  applies rule.Logic node.Not e = (λ f. refl, λ p h. not_threads e)
  applies rule.Lazy node.And e = (λ f. refl, λ p h. and_threads e)
  applies rule.Lazy node.Or e = (λ f. refl, λ p h. or_threads e)
  applies rule.Identity (node.Same v) e = (λ f. refl, λ p h. identity_threads v e)
  applies rule.Seq node.Seq e = (λ f. refl, λ p h. seq_threads e)
  applies rule.While node.While e = (λ f. refl, λ p h. while_threads e)
  applies rule.Recover (node.Recover c) e = (λ f. refl, λ p h. recover_threads c e)
  applies rule.Body node.Body e = (λ f. refl, λ p h. body_threads e)
  applies rule.If node.If e = (λ f. refl, λ p h. absurd (false_true (sym p)))
  applies r k e = absurd (none-some q e)

  -- The children of such a node are evaluated one after the other.
  pub threads : (r : Rule) (k : NodeKind) → is_branch k ≡ false → HasArity k (length x.children) → says core ann x m r k ≡ Some q → Threaded ann x.children m
  threads r k p h e = (applies r k e).1 p h

  -- Each branch of an `if` follows the condition.
  branch_threads : says core ann x m rule.If node.If ≡ Some q → Threaded ann (then_way x.children) m × Threaded ann (else_way x.children) m
  branch_threads e =
      let c = bind_some (three_children x.children) _ q e in
      let b = bind_some (branch_masks ann c.0 m) _ q c.2 in
      let n = bind_some (through ann (c.0.0 ∷ []) m) _ b.0 b.1 in
      let k = bind_some (through ann (c.0.1 ∷ []) n.0) _ b.0 n.2 in
      let l = bind_some (through ann (c.0.2 ∷ []) n.0) _ b.0 k.2 in
      let are = three_are x.children c.0 c.1 in (
        (k.0, ap (λ (cs : List ℕ). through ann (then_way cs) m) are ∙ through_two ann c.0.0 c.0.1 m n.0 k.0 n.1 k.1),
        (l.0, ap (λ (cs : List ℕ). through ann (else_way cs) m) are ∙ through_two ann c.0.0 c.0.2 m n.0 l.0 n.1 l.1),
      )

  if_rule : (r : Rule) → says core ann x m r node.If ≡ Some q → Threaded ann (then_way x.children) m × Threaded ann (else_way x.children) m
  if_rule rule.If e = branch_threads e
  if_rule r e = absurd (none-some q e)

  pub if_threads : (r : Rule) → x.kind ≡ node.If → says core ann x m r x.kind ≡ Some q → Threaded ann (then_way x.children) m × Threaded ann (else_way x.children) m
  if_threads r i e = if_rule r (subst (λ j. says core ann x m r j ≡ Some q) i e)

pub is_rule_at : (core : CoreData) (ann : Ann) (x : Node) (m : Masks) (r : Rule) (k : NodeKind) (q : Said) → Formed core → says core ann x m r k ≡ Some q → r ≡ rule_at core ann x k
is_rule_at core ann x m r k q f e = (applies core ann x m q r k e).0 f

-- ---- from child to child

abbrev made : ℕ → ℕ → Masks
made n k = (record { 0 = n }, record { 0 = k })

masks_are : (a b c d : Mask) → a.0 ≡ b.0 → c.0 ≡ d.0 → ◌≡◌ {A = Masks} (a, c) (b, d)
masks_are a b c d e f = ap (λ (n : ℕ). made n c.0) e ∙ ap (λ (n : ℕ). made b.0 n) f

pub starts_so : (t : Note) (m : Masks) → starts t m ≡ true → before t ≡ m
starts_so t m e =
    let p = and_parts (same t.live_before m.0) (same t.set_before m.1) e in
    masks_are t.live_before m.0 t.set_before m.1 (eqb-true t.live_before.0 m.0.0 p.0) (eqb-true t.set_before.0 m.1.0 p.1)

-- The first child starts from the masks, and every other one from those after the one before it.
pub first_starts : (ann : Ann) (cs : List ℕ) (m : Masks) (c : ℕ) (t : Note) → Threaded ann cs m → slice_get cs 0 ≡ Some c → slice_get ann.notes c ≡ Some t → before t ≡ m
first_starts ann [] m c t h e g = absurd (none-some c e)
first_starts ann (d ∷ cs) m c t h e g =
    let a = bind_some (slice_get ann.notes d) _ h.0 h.1 in
    let k = kept (starts a.0 m) (through ann cs (masks_after a.0)) h.0 a.2 in
    let is : a.0 ≡ t = same_Some a.0 t (sym a.1 ∙ ap (slice_get ann.notes) (same_Some d c e) ∙ g) in
    ap before (sym is) ∙ starts_so a.0 m k.0

pub next_starts : (ann : Ann) (cs : List ℕ) (m : Masks) (i c d : ℕ) (t u : Note) → Threaded ann cs m → slice_get cs i ≡ Some c → slice_get cs (suc i) ≡ Some d → slice_get ann.notes c ≡ Some t → slice_get ann.notes d ≡ Some u → before u ≡ masks_after t
next_starts ann [] m i c d t u h e f g k = absurd (none-some c e)
next_starts ann (b ∷ cs) m zero c d t u h e f g k =
    let a = bind_some (slice_get ann.notes b) _ h.0 h.1 in
    let n = kept (starts a.0 m) (through ann cs (masks_after a.0)) h.0 a.2 in
    let is : a.0 ≡ t = same_Some a.0 t (sym a.1 ∙ ap (slice_get ann.notes) (same_Some b c e) ∙ g) in
    first_starts ann cs (masks_after a.0) d u (h.0, n.1) f k ∙ ap masks_after is
next_starts ann (b ∷ cs) m (suc i) c d t u h e f g k =
    let a = bind_some (slice_get ann.notes b) _ h.0 h.1 in
    let n = kept (starts a.0 m) (through ann cs (masks_after a.0)) h.0 a.2 in
    next_starts ann cs (masks_after a.0) i c d t u (h.0, n.1) e f g k
