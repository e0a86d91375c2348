-- The task Apply: operators, `not`, `is` and `isnt`.
use Rattle.std.specs.Prelude.{◌≡◌, ℕ, Bool, true, false, not, ◌&&◌, ◌||◌, cond, List, [], ◌∷◌, ◌++◌, length, Option, Some, None, nat_lt, refl}
use Rattle.std.proofs.{Common.{inl, inr, ap, sym, subst, ◌∙◌}, lemmas.Option.{same_Some, none-some}, lemmas.Bool.{and_parts, or_cases}}
use Rattle.pc_heap.specs.{declared.value.Value.Value, declared.value.Value.TheVariants.{Num, Truth, Text, At}}
use Rattle.pc_caps.specs.declared.capability.Form.TheVariants as form
use Rattle.pc_tree.specs.declared.kinds.Op.{Op}
use Rattle.pc_tree.specs.declared.kinds.Op.TheVariants as op
use Rattle.pc_core.specs.{declared.nodes.Node.Node, declared.nodes.NodeKind.NodeKind, CoreData.CoreData}
use Rattle.pc_core.specs.declared.nodes.NodeKind.TheVariants as nodes
use Rattle.pc_base.specs.{Lists.◌>>=◌, Limits.text_limit}
use Rattle.pc_base.proofs.{Options.{bind_some, kept}, Bools.false_true}
use Rattle.pc_ann.specs.{declared.annotation.Note.Note, declared.annotation.Ann.Ann, declared.annotation.Rule.Rule}
use Rattle.pc_ann.specs.declared.annotation.Rule.TheVariants as rule
use Rattle.pc_semantics.specs.{declared.frames.Frame.Frame, Configurations.{Around, Move, Overflows, Goes, with_stack, pushed}, Parts.{push_or_lack, joined_text, with_second_number, with_truth, with_text, negated, compared}, Evaluation.{of_numbers, of_truths, of_texts, binary, same_truth, same_value, apply_task}}
use Rattle.pc_semantics.specs.declared.frames.Task.TheVariants as task
use Rattle.pc_rules.specs.{Parts.{reads_as, through, type_of, one_child}, Fields.is_this, Operators.{is_arithmetic, is_comparison, is_equality, is_add, is_xor, both_read_as, comparable}, Rules.said_by}
use Rattle.pc_valid.specs.Words.{Ty, Masks, before}
use Rattle.pc_rules.proofs.ByNumber.{two_types, value_says, not_says, identity_says, says}
use Rattle.pc_types.proofs.{Types.{OfType, OfSome, StackOk}, Tasks.{applies, FinishOk, TasksOk}, Moves.{MoveOk, Runs}, Needs.Needs, Values.{is_number, is_truth, is_text}, Steps.Keeps, Begin.only_one, Inverse.{TwoTypes, types_are, Says, says_is, read_is}, Finish.{one_top, two_tops, done_ok, rule_is, at_this, read_at, at_top, at_tops}}

-- ---- what operators give

arithmetic_gives : (o : Op) (a b : ℕ) → is_arithmetic o ≡ true → (n : ℕ) × (of_numbers o a b ≡ Some (Num n))
arithmetic_gives op.Add a b h = (_, refl)
arithmetic_gives op.Sub a b h = (_, refl)
arithmetic_gives op.Mul a b h = (_, refl)
arithmetic_gives op.Div a b h = (_, refl)
arithmetic_gives op.Rem a b h = (_, refl)
arithmetic_gives o a b h = absurd (false_true h)

comparison_gives : (o : Op) (a b : ℕ) → is_comparison o ≡ true → (t : Bool) × (of_numbers o a b ≡ Some (Truth t))
comparison_gives op.Lt a b h = (_, refl)
comparison_gives op.Le a b h = (_, refl)
comparison_gives op.Gt a b h = (_, refl)
comparison_gives op.Ge a b h = (_, refl)
comparison_gives o a b h = absurd (false_true h)

equality_gives : (o : Op) (a b : ℕ) → is_equality o ≡ true → (t : Bool) × (of_numbers o a b ≡ Some (Truth t))
equality_gives op.Eq a b h = (_, refl)
equality_gives op.Ne a b h = (_, refl)
equality_gives o a b h = absurd (false_true h)

truths_give : (o : Op) (a b : Bool) → is_equality o ≡ true → (t : Bool) × (of_truths o a b ≡ Some (Truth t))
truths_give op.Eq a b h = (_, refl)
truths_give op.Ne a b h = (_, refl)
truths_give o a b h = absurd (false_true h)

xor_gives : (o : Op) (a b : Bool) → is_xor o ≡ true → (t : Bool) × (of_truths o a b ≡ Some (Truth t))
xor_gives op.Xor a b h = (_, refl)
xor_gives o a b h = absurd (false_true h)

texts_give : (g : Frame) (o : Op) (a b : List ℕ) → is_equality o ≡ true → (t : Bool) × (of_texts g o a b ≡ Goes (pushed g (Truth t)))
texts_give g op.Eq a b h = (_, refl)
texts_give g op.Ne a b h = (_, refl)
texts_give g o a b h = absurd (false_true h)

add_gives : (g : Frame) (o : Op) (a b : List ℕ) → is_add o ≡ true → of_texts g o a b ≡ joined_text g (a ++ b)
add_gives g op.Add a b h = refl
add_gives g o a b h = absurd (false_true h)

-- ---- what the rules state

-- The operator, and the types of both sides, are what the rule requires.
record Asked (ann : Ann) (cs : List ℕ) (t : Note) (behind : Masks) (k : ℕ) (a : Bool) (test : Ty × Ty → Bool) : Type 0 where
  vs : Ty × Ty
  types : TwoTypes ann cs vs
  operator : a ≡ true
  reads : test vs ≡ true
  says : Says t (Some (k, form.Val)) behind

value_is : (ann : Ann) (x : Node) (t : Note) (behind : Masks) (k : ℕ) → through ann x.children (before t) ≡ Some behind → value_says k ann x (before t) ≡ Some (said_by t) → Says t (Some (k, form.Val)) behind
value_is ann x t behind k is e =
    let n = bind_some (through ann x.children (before t)) _ (said_by t) e in
    subst (λ (m : Masks). Says t (Some (k, form.Val)) m) (same_Some n.0 behind (sym n.1 ∙ is)) (says_is t (Some (k, form.Val)) n.0 n.2)

asked : (ann : Ann) (x : Node) (t : Note) (behind : Masks) (k : ℕ) (a : Bool) (test : Ty × Ty → Bool) → through ann x.children (before t) ≡ Some behind → (two_types ann x.children >>= λ v. cond (a && test v) (value_says k ann x (before t)) None) ≡ Some (said_by t) → Asked ann x.children t behind k a test
asked ann x t behind k a test is e =
    let v = bind_some (two_types ann x.children) _ (said_by t) e in
    let q = kept (a && test v.0) (value_says k ann x (before t)) (said_by t) v.2 in
    let p = and_parts a (test v.0) q.0 in
    record { vs = v.0; types = types_are ann x.children v.0 v.1; operator = p.0; reads = p.1; says = value_is ann x t behind k is q.1 }

-- Not an object's address.
abbrev pub no_object : Value → Bool
no_object (At a) = false
no_object v = true

applies_this : (k : NodeKind) → applies k ≡ true → is_this k ≡ true → ⊥
applies_this nodes.This a h = false_true a
applies_this k a h = false_true h

-- ---- the task

module _ (core : CoreData) (ann : Ann) (needs : Needs core ann) (around : Around) (f : Frame) (fs : List Frame) (r : Runs core ann around f fs) (n : ℕ) (e : FinishOk core ann f.method r.held.live r.held.set r.held.wants applies n (λ l s g. TasksOk core ann f.method f.tasks l s g))
    -- what holds if a text is too long, and if the result, which is no object's address, is left above what the
    -- operands leave
    (Holds : Move → Type 0) (long : Holds Overflows)
    (done : (us rest : List Value) (ty : Ty) (v : Value) → f.stack ≡ us ++ rest → length us ≡ length e.node.children → Says e.note (Some ty) e.behind → StackOk core around.objects r.held.this e.below rest → OfType core around.objects ty v → no_object v ≡ true → Holds (Goes (pushed (with_stack f rest) v))) where
  module _ (us rest : List Value) (at : f.stack ≡ us ++ rest) (all : length us ≡ length e.node.children) (ok : StackOk core around.objects r.held.this e.below rest) where
    number_ok : (k : ℕ) → Says e.note (Some (1, form.Val)) e.behind → Holds (Goes (pushed (with_stack f rest) (Num k)))
    number_ok k s = done us rest (1, form.Val) (Num k) at all s ok (record { entity = 1; is_entity = refl; below = inl refl; kind = tt; finished = λ h. tt }) refl

    truth_ok : (b : Bool) → Says e.note (Some (2, form.Val)) e.behind → Holds (Goes (pushed (with_stack f rest) (Truth b)))
    truth_ok b s = done us rest (2, form.Val) (Truth b) at all s ok (record { entity = 2; is_entity = refl; below = inl refl; kind = tt; finished = λ h. tt }) refl

    text_ok : (x : List ℕ) → Says e.note (Some (3, form.Val)) e.behind → Holds (Goes (pushed (with_stack f rest) (Text x)))
    text_ok x s = done us rest (3, form.Val) (Text x) at all s ok (record { entity = 3; is_entity = refl; below = inl refl; kind = tt; finished = λ h. tt }) refl

    -- A text that is not too long.
    long_ok : (b : Bool) (x : List ℕ) → Says e.note (Some (3, form.Val)) e.behind → Holds (cond b Overflows (Goes (pushed (with_stack f rest) (Text x))))
    long_ok true x s = long
    long_ok false x s = text_ok x s

    -- Both values, of a type that is read.
    record Numbers (v w : Value) : Type 0 where
      one : ℕ
      is_one : v ≡ Num one
      two : ℕ
      is_two : w ≡ Num two

    record Truths (v w : Value) : Type 0 where
      one : Bool
      is_one : v ≡ Truth one
      two : Bool
      is_two : w ≡ Truth two

    record Texts (v w : Value) : Type 0 where
      one : List ℕ
      is_one : v ≡ Text one
      two : List ℕ
      is_two : w ≡ Text two

    module _ (o : Op) (v w : Value) where
      by_numbers : (b : Numbers v w) → Holds (push_or_lack (with_stack f rest) (of_numbers o b.one b.two)) → Holds (binary (with_stack f rest) o v w)
      by_numbers b k = subst (λ (x : Value). Holds (binary (with_stack f rest) o x w)) (sym b.is_one) (subst (λ (x : Value). Holds (with_second_number (with_stack f rest) o b.one x)) (sym b.is_two) k)

      by_truths : (b : Truths v w) → Holds (push_or_lack (with_stack f rest) (of_truths o b.one b.two)) → Holds (binary (with_stack f rest) o v w)
      by_truths b k = subst (λ (x : Value). Holds (binary (with_stack f rest) o x w)) (sym b.is_one) (subst (λ (x : Value). Holds (with_truth (with_stack f rest) o b.one x)) (sym b.is_two) k)

      by_texts : (b : Texts v w) → Holds (of_texts (with_stack f rest) o b.one b.two) → Holds (binary (with_stack f rest) o v w)
      by_texts b k = subst (λ (x : Value). Holds (binary (with_stack f rest) o x w)) (sym b.is_one) (subst (λ (x : Value). Holds (with_text (with_stack f rest) o b.one x)) (sym b.is_two) k)

      module _ (vs : Ty × Ty) (types : TwoTypes ann e.node.children vs) (gets : OfSome core around.objects (type_of ann types.left) v) (gets_too : OfSome core around.objects (type_of ann types.right) w) where
        numbers : both_read_as 1 vs ≡ true → Numbers v w
        numbers h =
            let p = and_parts (reads_as 1 vs.0) (reads_as 1 vs.1) h in
            let a = is_number core ann needs around.objects vs.0.1 v (read_at core ann around types.left vs.0 1 v types.left_type (read_is 1 vs.0 p.0).0 gets) in
            let b = is_number core ann needs around.objects vs.1.1 w (read_at core ann around types.right vs.1 1 w types.right_type (read_is 1 vs.1 p.1).0 gets_too) in
            record { one = a.0; is_one = a.1; two = b.0; is_two = b.1 }

        truths : both_read_as 2 vs ≡ true → Truths v w
        truths h =
            let p = and_parts (reads_as 2 vs.0) (reads_as 2 vs.1) h in
            let a = is_truth core ann needs around.objects vs.0.1 v (read_at core ann around types.left vs.0 2 v types.left_type (read_is 2 vs.0 p.0).0 gets) in
            let b = is_truth core ann needs around.objects vs.1.1 w (read_at core ann around types.right vs.1 2 w types.right_type (read_is 2 vs.1 p.1).0 gets_too) in
            record { one = a.0; is_one = a.1; two = b.0; is_two = b.1 }

        texts : both_read_as 3 vs ≡ true → Texts v w
        texts h =
            let p = and_parts (reads_as 3 vs.0) (reads_as 3 vs.1) h in
            let a = is_text core ann needs around.objects vs.0.1 v (read_at core ann around types.left vs.0 3 v types.left_type (read_is 3 vs.0 p.0).0 gets) in
            let b = is_text core ann needs around.objects vs.1.1 w (read_at core ann around types.right vs.1 3 w types.right_type (read_is 3 vs.1 p.1).0 gets_too) in
            record { one = a.0; is_one = a.1; two = b.0; is_two = b.1 }

        arith_ok : is_arithmetic o ≡ true → both_read_as 1 vs ≡ true → Says e.note (Some (1, form.Val)) e.behind → Holds (binary (with_stack f rest) o v w)
        arith_ok a h s =
            let b = numbers h in
            let g = arithmetic_gives o b.one b.two a in
            by_numbers b (subst (λ (x : Option Value). Holds (push_or_lack (with_stack f rest) x)) (sym g.1) (number_ok g.0 s))

        compare_ok : is_comparison o ≡ true → both_read_as 1 vs ≡ true → Says e.note (Some (2, form.Val)) e.behind → Holds (binary (with_stack f rest) o v w)
        compare_ok a h s =
            let b = numbers h in
            let g = comparison_gives o b.one b.two a in
            by_numbers b (subst (λ (x : Option Value). Holds (push_or_lack (with_stack f rest) x)) (sym g.1) (truth_ok g.0 s))

        xor_ok : is_xor o ≡ true → both_read_as 2 vs ≡ true → Says e.note (Some (2, form.Val)) e.behind → Holds (binary (with_stack f rest) o v w)
        xor_ok a h s =
            let b = truths h in
            let g = xor_gives o b.one b.two a in
            by_truths b (subst (λ (x : Option Value). Holds (push_or_lack (with_stack f rest) x)) (sym g.1) (truth_ok g.0 s))

        join_ok : is_add o ≡ true → both_read_as 3 vs ≡ true → Says e.note (Some (3, form.Val)) e.behind → Holds (binary (with_stack f rest) o v w)
        join_ok a h s =
            let b = texts h in
            by_texts b (subst (Holds) (sym (add_gives (with_stack f rest) o b.one b.two a)) (long_ok (nat_lt text_limit (length (b.one ++ b.two))) (b.one ++ b.two) s))

        equal_numbers : is_equality o ≡ true → both_read_as 1 vs ≡ true → Says e.note (Some (2, form.Val)) e.behind → Holds (binary (with_stack f rest) o v w)
        equal_numbers a h s =
            let b = numbers h in
            let g = equality_gives o b.one b.two a in
            by_numbers b (subst (λ (x : Option Value). Holds (push_or_lack (with_stack f rest) x)) (sym g.1) (truth_ok g.0 s))

        equal_truths : is_equality o ≡ true → both_read_as 2 vs ≡ true → Says e.note (Some (2, form.Val)) e.behind → Holds (binary (with_stack f rest) o v w)
        equal_truths a h s =
            let b = truths h in
            let g = truths_give o b.one b.two a in
            by_truths b (subst (λ (x : Option Value). Holds (push_or_lack (with_stack f rest) x)) (sym g.1) (truth_ok g.0 s))

        equal_texts : is_equality o ≡ true → both_read_as 3 vs ≡ true → Says e.note (Some (2, form.Val)) e.behind → Holds (binary (with_stack f rest) o v w)
        equal_texts a h s =
            let b = texts h in
            let g = texts_give (with_stack f rest) o b.one b.two a in
            by_texts b (subst (Holds) (sym g.1) (truth_ok g.0 s))

        equal_ok : is_equality o ≡ true → comparable vs ≡ true → Says e.note (Some (2, form.Val)) e.behind → Holds (binary (with_stack f rest) o v w)
        equal_ok a h s =
            elim (or_cases (both_read_as 1 vs) (both_read_as 2 vs || both_read_as 3 vs) h) [
              | inl one ↦ equal_numbers a one s
              | inr more ↦ elim (or_cases (both_read_as 2 vs) (both_read_as 3 vs) more) [
                | inl two ↦ equal_truths a two s
                | inr three ↦ equal_texts a three s
              ]
            ]

  -- ---- by the rule

  -- Both values, and then what the operator makes of them.
  on_both : (o : Op) (vs : Ty × Ty) (types : TwoTypes ann e.node.children vs)
      → ((us : List Value) (v w : Value) (rest : List Value) → f.stack ≡ us ++ rest → length us ≡ length e.node.children → StackOk core around.objects r.held.this e.below rest → OfSome core around.objects (type_of ann types.left) v → OfSome core around.objects (type_of ann types.right) w → Holds (binary (with_stack f rest) o v w))
      → Holds (apply_task f (nodes.Binary o))
  on_both o vs types k =
      let t = two_tops core ann needs around f fs r applies n e types.left types.right types.children in
      at_tops Holds f t.second t.first t.rest (λ w v h. binary h o v w) t.is (k (t.second ∷ t.first ∷ []) t.first t.second t.rest t.is (sym (ap length types.children)) t.ok t.first_answers.0 t.second_answers.0)

  binary_rule : (u : Rule) (o : Op) → says core ann e.node (before e.note) u (nodes.Binary o) ≡ Some (said_by e.note) → Holds (apply_task f (nodes.Binary o))
  binary_rule rule.Arith o q =
      let a = asked ann e.node e.note e.behind 1 (is_arithmetic o) (both_read_as 1) e.is_behind q in
      on_both o a.vs a.types (λ us v w rest at all ok g h. arith_ok us rest at all ok o v w a.vs a.types g h a.operator a.reads a.says)
  binary_rule rule.Compare o q =
      let a = asked ann e.node e.note e.behind 2 (is_comparison o) (both_read_as 1) e.is_behind q in
      on_both o a.vs a.types (λ us v w rest at all ok g h. compare_ok us rest at all ok o v w a.vs a.types g h a.operator a.reads a.says)
  binary_rule rule.Equal o q =
      let a = asked ann e.node e.note e.behind 2 (is_equality o) comparable e.is_behind q in
      on_both o a.vs a.types (λ us v w rest at all ok g h. equal_ok us rest at all ok o v w a.vs a.types g h a.operator a.reads a.says)
  binary_rule rule.Join o q =
      let a = asked ann e.node e.note e.behind 3 (is_add o) (both_read_as 3) e.is_behind q in
      on_both o a.vs a.types (λ us v w rest at all ok g h. join_ok us rest at all ok o v w a.vs a.types g h a.operator a.reads a.says)
  binary_rule rule.Logic o q =
      let a = asked ann e.node e.note e.behind 2 (is_xor o) (both_read_as 2) e.is_behind q in
      on_both o a.vs a.types (λ us v w rest at all ok g h. xor_ok us rest at all ok o v w a.vs a.types g h a.operator a.reads a.says)
  binary_rule u o q = absurd (none-some (said_by e.note) q)

  same_is : (b : Bool) → identity_says ann e.node (before e.note) ≡ Some (said_by e.note) → Holds (apply_task f (nodes.Same b))
  same_is b q =
      let v = bind_some (two_types ann e.node.children) _ (said_by e.note) q in
      let types = types_are ann e.node.children v.0 v.1 in
      let t = two_tops core ann needs around f fs r applies n e types.left types.right types.children in
      at_tops Holds f t.second t.first t.rest (λ w v h. compared h b v w) t.is
      (truth_ok (t.second ∷ t.first ∷ []) t.rest t.is (sym (ap length types.children)) t.ok (same_truth b (same_value t.first t.second)) (value_is ann e.node e.note e.behind 2 e.is_behind v.2))

  same_rule : (u : Rule) (b : Bool) → says core ann e.node (before e.note) u (nodes.Same b) ≡ Some (said_by e.note) → Holds (apply_task f (nodes.Same b))
  same_rule rule.Identity b q = same_is b q
  same_rule u b q = absurd (none-some (said_by e.note) q)

  not_is : not_says ann e.node (before e.note) ≡ Some (said_by e.note) → Holds (apply_task f nodes.Not)
  not_is q =
      let c = bind_some (one_child e.node.children) _ (said_by e.note) q in
      let v = bind_some (type_of ann c.0) _ (said_by e.note) c.2 in
      let k = kept (reads_as 2 v.0) (value_says 2 ann e.node (before e.note)) (said_by e.note) v.2 in
      let t = one_top core ann needs around f fs r applies n e c.0 (only_one e.node.children c.0 c.1) in
      let b = is_truth core ann needs around.objects v.0.1 t.top (read_at core ann around c.0 v.0 2 t.top v.1 (read_is 2 v.0 k.0).0 t.answers.0) in
      at_top Holds f t.top t.below (λ v g. negated g v) t.is
      (subst (λ (x : Value). Holds (negated (with_stack f t.below) x)) (sym b.1) (truth_ok (t.top ∷ []) t.below t.is (sym (ap length (only_one e.node.children c.0 c.1))) t.ok (not b.0) (value_is ann e.node e.note e.behind 2 e.is_behind k.1)))

  not_rule : (u : Rule) → says core ann e.node (before e.note) u nodes.Not ≡ Some (said_by e.note) → Holds (apply_task f nodes.Not)
  not_rule rule.Logic q = not_is q
  not_rule u q = absurd (none-some (said_by e.note) q)

  pub apply_kind : (k : NodeKind) → e.node.kind ≡ k → applies k ≡ true → says core ann e.node (before e.note) e.note.rule k ≡ Some (said_by e.note) → Holds (apply_task f k)
  apply_kind (nodes.Binary o) is h q = binary_rule e.note.rule o q
  apply_kind (nodes.Same b) is h q = same_rule e.note.rule b q
  apply_kind nodes.Not is h q = not_rule e.note.rule q
  apply_kind k is h q = absurd (false_true h)

pub keeps_apply : (n : ℕ) → Keeps (task.Apply n)
keeps_apply n core ann needs around f fs r e =
    at_this core ann needs around f fs r applies n e (λ x. apply_task f x.kind)
    (apply_kind core ann needs around f fs r n e (MoveOk core ann around fs) tt
    (λ us rest ty v at all s ok typed plain. done_ok core ann needs around f fs r applies n e (Some ty) v rest s ok typed (applies_this e.node.kind e.kind))
    e.node.kind refl e.kind (rule_is core ann needs around f fs r applies n e))
