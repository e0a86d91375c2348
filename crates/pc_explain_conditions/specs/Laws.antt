-- Laws of the conditions of the rules.
use Rattle.std.specs.Prelude.{◌≡◌, ◌≢◌, ◌⊎◌, ◌↔◌, ℕ, ◌<◌, List, [], length, Some, None, true, false, slice_get}
use Rattle.pc_ann.specs.{declared.annotation.Ann.Ann, declared.annotation.Note.Note, declared.annotation.Rule.Rule}
use Rattle.pc_core.specs.{CoreData.CoreData, Formed.Formed, declared.nodes.Node.Node}
use Rattle.pc_base.specs.Lists.{Has}
use Rattle.pc_rules.specs.{Parts.notes_of, Rules.rule_says}
use Rattle.pc_valid.specs.{Words.{Masks, before}, Valid.{Means, KeepsWritten}, NoRule.{NoRule, Reaches, MeetsReached}}
use Rattle.pc_check.specs.Inference.{rules_for, with_inferred}
use Rattle.pc_explain_conditions.specs.{Chosen.is_chosen, Failing.{Because, failing, reasons, reasons_at}, declared.condition.Condition.Condition}

-- The notes of the nodes before n, each of which satisfies its rule from the masks that reach it.
pub record Prefix (core : CoreData) (ann : Ann) (n : ℕ) : Type 0 where
  pub slots : length ann.slots ≡ length core.slots
  pub written : KeepsWritten core ann
  pub before : (k : ℕ) → k < n → MeetsReached core ann k

-- A node that was reached: its masks, and the notes of its children. The type of a slot that the node defines is the
-- one that follows from its value.
pub record ReachedNode (core : CoreData) (ann : Ann) (n : ℕ) (x : Node) (m : Masks) (ns : List Note) : Type 0 where
  pub formed : Formed core
  pub prefix : Prefix core ann n
  pub is_at : slice_get core.nodes n ≡ Some x
  pub reaches : Reaches core ann n m
  pub are_children : notes_of ann.notes x.children ≡ Some ns

-- The conditions are the rule: a rule for a node does not apply to it iff it is not considered or one of its conditions
-- fails.
abbrev pub ConditionsAreTheRule : Type 0
ConditionsAreTheRule =
    (core : CoreData) (ann : Ann) (n : ℕ) (x : Node) (m : Masks) (ns : List Note) (r : Rule) → ReachedNode core ann n x m ns → Has (rules_for x.kind) r
    → let slots = (with_inferred core ann x).slots in
    (rule_says core slots ns x m r x.kind ≡ None) ↔ ((is_chosen core ns x r x.kind ≡ false) ⊎ ((c : Condition) × (failing core slots ns x m r ≡ Some c)))

-- So they are the rule's record: it holds for some note of the node iff the rule is considered and all its conditions
-- hold.
abbrev pub ConditionsAreTheRecord : Type 0
ConditionsAreTheRecord =
    (core : CoreData) (ann : Ann) (n : ℕ) (x : Node) (m : Masks) (ns : List Note) (r : Rule) → ReachedNode core ann n x m ns → Has (rules_for x.kind) r
    → let slots = (with_inferred core ann x).slots in
    ((own : Note) × (before own ≡ m) × Means core slots own ns x r x.kind) ↔ ((is_chosen core ns x r x.kind ≡ true) × (failing core slots ns x m r ≡ None))

-- If no rule applies, each rule that is considered has one condition by which it fails.
abbrev pub EachRuleFails : Type 0
EachRuleFails =
    (core : CoreData) (ann : Ann) (n : ℕ) (r : Rule) (ns : List Note) → Formed core → (stop : NoRule core ann n) → Has (rules_for stop.at.kind) r
    → notes_of ann.notes stop.at.children ≡ Some ns → is_chosen core ns stop.at r stop.at.kind ≡ true
    → (c : Condition) × Because core (with_inferred core ann stop.at) n stop.masks r c

-- One rule is considered, so there is a reason.
abbrev pub SomeReason : Type 0
SomeReason =
    (core : CoreData) (ann : Ann) (n : ℕ) (ns : List Note) → Formed core → (stop : NoRule core ann n) → notes_of ann.notes stop.at.children ≡ Some ns
    → reasons core (with_inferred core ann stop.at).slots ns stop.at stop.masks ≢ []

-- A core has one node to which no rule applies, and the reasons are the same whichever notes lead to it.
abbrev pub OneExplanation : Type 0
OneExplanation =
    (core : CoreData) (a b : Ann) (n k : ℕ) → Formed core → (p : NoRule core a n) → (q : NoRule core b k)
    → (n ≡ k) × (p.at ≡ q.at) × (p.masks ≡ q.masks)
    × (reasons_at core (with_inferred core a p.at) p.at p.masks ≡ reasons_at core (with_inferred core b q.at) q.at q.masks)
