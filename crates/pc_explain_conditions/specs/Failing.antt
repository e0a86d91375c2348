-- Whether the conditions of a rule hold, and the first one that does not.
use Rattle.std.specs.Prelude.{◌≡◌, ℕ, Bool, true, false, ◌||◌, not, List, [], ◌∷◌, Option, Some, None, nat_eq, slice_get, if◌then◌else◌}
use Rattle.pc_ann.specs.{declared.annotation.Ann.Ann, declared.annotation.Note.Note, declared.annotation.Rule.Rule}
use Rattle.pc_masks.specs.Masks.{has, within, same}
use Rattle.pc_caps.specs.{Computed.{is_below, fits, may_write}, Tables.{view, taken, sendable, sendable_form}}
use Rattle.pc_core.specs.{CoreData.CoreData, declared.nodes.Node.Node}
use Rattle.pc_base.specs.Lists.{◌>>=◌}
use Rattle.pc_sub.specs.Computed.{is_sub}
use Rattle.pc_check.specs.Inference.{rules_for}
use Rattle.pc_rules.specs.{Parts.{readable, slot_of, reachable, through_notes, notes_of}, Values.is_var, Fields.own_field, Calls.{is_function, is_behaviour, is_isolated, is_lent}, Children.type_at, Control.recovered}
use Rattle.pc_valid.specs.Words.{Ty, Masks, Slots}
use Rattle.pc_explain_conditions.specs.{Conditions.{u64, bool, string, child_field, callee, conditions}, Chosen.is_chosen, declared.condition.Condition.Condition, declared.reason.Reason.Reason}
use Rattle.pc_explain_conditions.specs.declared.condition.Condition.TheVariants as asks

-- ---- whether a condition holds

-- It is there, and has this property.
abbrev pub on : {A : Type 0} → Option A → (A → Bool) → Bool
on None p = false
on (Some a) p = p a

abbrev pub is_found : {A : Type 0} → Option A → Bool
is_found None = false
is_found (Some a) = true

-- A U64 or a Bool, and in addition a String.
abbrev pub is_printable : Ty → Bool
is_printable v = nat_eq v.0 u64 || nat_eq v.0 bool

abbrev pub is_comparable : Ty → Bool
is_comparable v = nat_eq v.0 u64 || (nat_eq v.0 bool || nat_eq v.0 string)

-- The condition holds of node x, whose children have these notes, with these masks before it.
abbrev pub holds_of : CoreData → Slots → List Note → Node → Masks → Condition → Bool
holds_of core slots ns x m (asks.Typed i) = is_found (type_at ns i)
holds_of core slots ns x m (asks.Under i e) = on (type_at ns i) (λ v. is_sub core v.0 e)
holds_of core slots ns x m (asks.Fits i k) = on (type_at ns i) (λ v. fits v.1 k)
holds_of core slots ns x m (asks.Below i f) = on (type_at ns i) (λ v. is_below v.1 f)
holds_of core slots ns x m (asks.IsA i e) = on (type_at ns i) (λ v. nat_eq v.0 e)
holds_of core slots ns x m (asks.Comparable i) = on (type_at ns i) is_comparable
holds_of core slots ns x m (asks.Printable i) = on (type_at ns i) is_printable
holds_of core slots ns x m (asks.Readable i) = on (type_at ns i) (λ v. readable v.1)
holds_of core slots ns x m (asks.Live s) = has m.0 s
holds_of core slots ns x m (asks.Reached s) = on (slot_of core slots x.method s) (reachable x)
holds_of core slots ns x m (asks.Variable s) = on (slot_of core slots x.method s) (λ i. is_var i.0.kind)
holds_of core slots ns x m (asks.HasField i name) = is_found (child_field core ns i name)
holds_of core slots ns x m (asks.HasOwnField name) = is_found (own_field core x name)
holds_of core slots ns x m (asks.Seen i k) = on (type_at ns i) (λ v. is_found (view v.1 k))
holds_of core slots ns x m (asks.NotFixed b) = not b
holds_of core slots ns x m (asks.Writable i k) = on (type_at ns i) (λ v. is_found (taken v.1 k))
holds_of core slots ns x m (asks.Enters k) = on (type_at ns 0) (λ v. on (type_at ns 1) (λ o. may_write o.1 v.1 k))
holds_of core slots ns x m (asks.Set i) = on (through_notes ns m) (λ n. has n.1 i)
holds_of core slots ns x m (asks.SetOnce b i) = on (through_notes ns m) (λ n. not b || not (has n.1 i))
holds_of core slots ns x m (asks.HasMethod name) = is_found (callee core ns name)
holds_of core slots ns x m (asks.Function k) = is_function k
holds_of core slots ns x m (asks.Behaviour k) = is_behaviour k
holds_of core slots ns x m (asks.Counted n k) = nat_eq n k
holds_of core slots ns x m (asks.Unfit i k) = on (type_at ns i) (λ v. not (fits v.1 k))
holds_of core slots ns x m (asks.Isolated i) = on (type_at ns i) (λ v. is_isolated v.1)
holds_of core slots ns x m (asks.Lent k) = is_lent k
holds_of core slots ns x m (asks.Sent i k) = on (type_at ns i) (λ v. sendable_form v.1 || sendable k)
holds_of core slots ns x m asks.KeepsLive = on (slice_get ns 1) (λ t. within m.0 t.live_after)
holds_of core slots ns x m asks.KeepsSet = on (slice_get ns 1) (λ t. same t.set_after m.1)
holds_of core slots ns x m (asks.Lifted k) = on (type_at ns 0) (λ v. is_found (recovered k v.1))

-- ---- the first that does not hold

abbrev pub first_false : (Condition → Bool) → List Condition → Option Condition
first_false holds [] = None
first_false holds (c ∷ cs) = if holds c then first_false holds cs else Some c

-- The first condition of a rule that does not hold for node x.
abbrev pub failing : CoreData → Slots → List Note → Node → Masks → Rule → Option Condition
failing core slots ns x m r = first_false (holds_of core slots ns x m) (conditions core slots ns x r x.kind)

-- Evidence that a rule does not apply to node n, with these masks before it, because of a condition: the rule is
-- considered, all earlier conditions hold, and this one does not.
pub record Because (core : CoreData) (ann : Ann) (n : ℕ) (m : Masks) (r : Rule) (c : Condition) : Type 0 where
  pub at : Node
  pub is_at : slice_get core.nodes n ≡ Some at
  pub children : List Note
  pub are_children : notes_of ann.notes at.children ≡ Some children
  pub is_chosen : is_chosen core children at r at.kind ≡ true
  pub first : failing core ann.slots children at m r ≡ Some c

-- ---- all rules for a node

-- Why a rule does not apply, if it is considered.
abbrev pub failure : CoreData → Slots → List Note → Node → Masks → Rule → Option Condition
failure core slots ns x m r = if is_chosen core ns x r x.kind then failing core slots ns x m r else None

abbrev pub with_reason : Rule → Option Condition → List Reason → List Reason
with_reason r None more = more
with_reason r (Some c) more = record { rule = r; condition = c } ∷ more

-- Those of these rules, in order, that are considered and have a condition that does not hold, each with the first such
-- condition.
abbrev pub reasons_among : CoreData → Slots → List Note → Node → Masks → List Rule → List Reason
reasons_among core slots ns x m [] = []
reasons_among core slots ns x m (r ∷ rs) = with_reason r (failure core slots ns x m r) (reasons_among core slots ns x m rs)

-- The same for the rules for node x.
abbrev pub reasons : CoreData → Slots → List Note → Node → Masks → List Reason
reasons core slots ns x m = reasons_among core slots ns x m (rules_for x.kind)

-- The same in an annotation, which has the notes of the children. None if one of them has no note.
abbrev pub reasons_at : CoreData → Ann → Node → Masks → Option (List Reason)
reasons_at core ann x m = do
  ns ← notes_of ann.notes x.children
  Some (reasons core ann.slots ns x m)
