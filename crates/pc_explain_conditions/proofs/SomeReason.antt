-- A node to which no rule applies has a reason.
use Rattle.std.specs.Prelude.{◌≡◌, ℕ, zero, suc, Bool, true, false, not, List, [], ◌∷◌, length, Option, Some, None, slice_get, if◌then◌else◌, refl}
use Rattle.std.proofs.{Common.{ap, sym, ◌∙◌, arith}, lemmas.Option.{same_Some, none-some}}
use Rattle.pc_base.specs.Lists.{Has}
use Rattle.pc_base.proofs.Bools.{false_true}
use Rattle.pc_ann.specs.{declared.annotation.Note.Note, declared.annotation.Rule.Rule}
use Rattle.pc_ann.specs.declared.annotation.Rule.TheVariants as rule
use Rattle.pc_core.specs.{CoreData.CoreData, Nodes.{NamesFit, is_binary}, declared.nodes.Node.Node, declared.nodes.NodeKind.NodeKind}
use Rattle.pc_core.specs.declared.nodes.NodeKind.TheVariants as node
use Rattle.pc_tree.specs.declared.kinds.Op.{Op}
use Rattle.pc_tree.specs.declared.kinds.Op.TheVariants as op
use Rattle.pc_valid.specs.Words.{Masks, Slots}
use Rattle.pc_rules.specs.Fields.{incomplete}
use Rattle.pc_check.specs.Inference.{rules_for, with_inferred}
use Rattle.pc_explain_conditions.specs.{Chosen.{is_chosen, calls_behaviour}, Conditions.callee, Failing.{failure, with_reason, reasons_among}, Laws.SomeReason, declared.condition.Condition.Condition, declared.reason.Reason.Reason}
use Rattle.pc_explain_conditions.proofs.Explained.{because}

-- ---- one of the rules is considered

abbrev ChosenOne : CoreData → List Note → Node → NodeKind → Type 0
ChosenOne core ns x k = (r : Rule) × Has (rules_for k) r × (is_chosen core ns x r k ≡ true)

binary_chosen : (core : CoreData) (ns : List Note) (x : Node) (o : Op) → is_binary o ≡ true → ChosenOne core ns x (node.Binary o)
binary_chosen core ns x op.Lt e = (rule.Compare, (1, refl), refl)
binary_chosen core ns x op.Le e = (rule.Compare, (1, refl), refl)
binary_chosen core ns x op.Gt e = (rule.Compare, (1, refl), refl)
binary_chosen core ns x op.Ge e = (rule.Compare, (1, refl), refl)
binary_chosen core ns x op.Eq e = (rule.Equal, (2, refl), refl)
binary_chosen core ns x op.Ne e = (rule.Equal, (2, refl), refl)
binary_chosen core ns x op.Xor e = (rule.Logic, (4, refl), refl)
binary_chosen core ns x op.And e = absurd (false_true e)
binary_chosen core ns x op.Or e = absurd (false_true e)
binary_chosen core ns x op.Is e = absurd (false_true e)
binary_chosen core ns x op.Isnt e = absurd (false_true e)
binary_chosen core ns x o e = (rule.Arith, (0, refl), refl)

field_chosen : (core : CoreData) (ns : List Note) (x : Node) (name : ℕ) (b : Bool) → incomplete core ns x ≡ b → ChosenOne core ns x (node.Field name)
field_chosen core ns x name true e = (rule.GetOwn, (1, refl), e)
field_chosen core ns x name false e = (rule.Get, (0, refl), ap not e)

set_chosen : (core : CoreData) (ns : List Note) (x : Node) (name : ℕ) (b : Bool) → incomplete core ns x ≡ b → ChosenOne core ns x (node.SetField name)
set_chosen core ns x name true e = (rule.PutOwn, (1, refl), e)
set_chosen core ns x name false e = (rule.Put, (0, refl), ap not e)

call_chosen : (core : CoreData) (ns : List Note) (x : Node) (name : ℕ) (b : Bool) → calls_behaviour (callee core ns name) ≡ b → ChosenOne core ns x (node.Call name)
call_chosen core ns x name true e = (rule.Send, (2, refl), e)
call_chosen core ns x name false e = (rule.Call, (0, refl), ap not e)

one_chosen : (core : CoreData) (ns : List Note) (x : Node) (k : NodeKind) → NamesFit core x.method k → ChosenOne core ns x k
one_chosen core ns x (node.Field name) h = field_chosen core ns x name (incomplete core ns x) refl
one_chosen core ns x (node.SetField name) h = set_chosen core ns x name (incomplete core ns x) refl
one_chosen core ns x (node.Call name) h = call_chosen core ns x name (calls_behaviour (callee core ns name)) refl
one_chosen core ns x (node.Binary o) h = binary_chosen core ns x o h
one_chosen core ns x k h = (_, (0, refl), refl)

-- ---- and so there is a reason

not_empty : (r : Reason) (rs : List Reason) → r ∷ rs ≡ [] → ⊥
not_empty r rs e = let l = ap length e in omega (arith, l)

more_reasons : (r : Rule) (o : Option Condition) (rs : List Reason) → (rs ≡ [] → ⊥) → with_reason r o rs ≡ [] → ⊥
more_reasons r None rs h e = h e
more_reasons r (Some c) rs h e = not_empty _ rs e

some_among : (core : CoreData) (slots : Slots) (ns : List Note) (x : Node) (m : Masks) (rs : List Rule) (i : ℕ) (r : Rule) (c : Condition) → slice_get rs i ≡ Some r → failure core slots ns x m r ≡ Some c → reasons_among core slots ns x m rs ≡ [] → ⊥
some_among core slots ns x m [] i r c e f h = none-some r e
some_among core slots ns x m (q ∷ rs) zero r c e f h =
    let is : failure core slots ns x m q ≡ Some c = ap (failure core slots ns x m) (same_Some q r e) ∙ f in
    not_empty (record { rule = q; condition = c }) (reasons_among core slots ns x m rs) (sym (ap (λ o. with_reason q o (reasons_among core slots ns x m rs)) is) ∙ h)
some_among core slots ns x m (q ∷ rs) (suc i) r c e f h = more_reasons q (failure core slots ns x m q) (reasons_among core slots ns x m rs) (some_among core slots ns x m rs i r c e f) h

fails_chosen : (b : Bool) (f : Option Condition) (c : Condition) → b ≡ true → f ≡ Some c → (if b then f else None) ≡ Some c
fails_chosen true f c e g = g
fails_chosen false f c e g = absurd (false_true e)

pub some_reason : SomeReason
some_reason core ann n ns formed stop are e =
    let one = one_chosen core ns stop.at stop.at.kind (formed.nodes n stop.at stop.is_at).names in
    let c = because core ann n ns formed stop are one.0 one.1 one.2 in
    some_among core (with_inferred core ann stop.at).slots ns stop.at stop.masks (rules_for stop.at.kind) one.1.0 one.0 c.0 one.1.1 (fails_chosen (is_chosen core ns stop.at one.0 stop.at.kind) _ c.0 one.2 c.1) e
