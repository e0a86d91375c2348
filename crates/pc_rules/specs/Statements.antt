-- Laws of the rules.
use Rattle.std.specs.Prelude.{◌≡◌, ◌≢◌, ◌⊎◌, ◌↔◌, ℕ, ◌<◌, List, Some}
use Rattle.pc_base.specs.Limits.{slot_limit}
use Rattle.pc_core.specs.{declared.nodes.Node.Node, declared.nodes.NodeKind.NodeKind, CoreData.CoreData, Formed.Formed}
use Rattle.pc_ann.specs.{declared.annotation.Note.Note, declared.annotation.Ann.Ann, declared.annotation.Rule.Rule}
use Rattle.pc_masks.specs.Masks.{IsInMask}
use Rattle.pc_rules.specs.{declared.said.Said.Said, Parts.through, Rules.{says, said_by, IsSaid, NoteIsSaid, rule_says}, Checks.{Checks, SaysNothing, StaysUnset}}
use Rattle.pc_valid.specs.{Words.{Masks, Slots, before, Defines}, Valid.{Means, MeetsRule, Valid}, NoRule.{NoRule, Unset}}
use Rattle.pc_core.specs.declared.nodes.NodeKind.TheVariants as node
use Rattle.pc_ann.specs.declared.annotation.Rule.TheVariants as rule

-- Two notes of one node that satisfy the same rule from the same masks have the same type and the same masks after it.
abbrev pub RulesDetermine : Type 0
RulesDetermine = (core : CoreData) (ann : Ann) (x : Node) (a b : Note) → a.rule ≡ b.rule → before a ≡ before b → IsSaid core ann x a → IsSaid core ann x b → said_by a ≡ said_by b

-- After a consume exactly its slot is no longer live, and the set fields are as before.
abbrev pub ConsumeTakesOut : Type 0
ConsumeTakesOut =
    (core : CoreData) (ann : Ann) (x : Node) (s : ℕ) (m : Masks) (r : Said) → says core ann x m rule.Consume (node.Consume s) ≡ Some r
    → ((i : ℕ) → (IsInMask r.live i) ↔ ((i ≢ s) × IsInMask m.0 i)) × (r.set ≡ m.1)

-- After a definition exactly its slot is live in addition to what is live after the value, and the set fields are as
-- there.
abbrev pub DefinePutsIn : Type 0
DefinePutsIn =
    (core : CoreData) (ann : Ann) (x : Node) (s : ℕ) (m n : Masks) (r : Said) → says core ann x m rule.Define (node.Define s) ≡ Some r → through ann x.children m ≡ Some n
    → ((i : ℕ) → (IsInMask r.live i) ↔ (((i ≡ s) × (s < slot_limit)) ⊎ IsInMask n.0 i)) × (r.set ≡ n.1)

-- After a sequence exactly the slots that its items define are no longer live, and the set fields are as after its last
-- item.
abbrev pub SeqTakesOut : Type 0
SeqTakesOut =
    (core : CoreData) (ann : Ann) (x : Node) (m n : Masks) (r : Said) → says core ann x m rule.Seq node.Seq ≡ Some r → through ann x.children m ≡ Some n
    → ((i : ℕ) → (IsInMask r.live i) ↔ (IsInMask n.0 i × ((Defines core x.children i) → ⊥))) × (r.set ≡ n.1)

-- At most one annotation of a core is valid.
abbrev pub OneValid : Type 0
OneValid = (core : CoreData) (a b : Ann) → Formed core → Valid core a → Valid core b → a ≡ b

-- ---- what is computed is what the records define, in a core whose parts fit together

-- The conclusion of a rule for a node is what the node's note states iff the record of this rule holds for the note.
abbrev pub SaysWhatIsMeant : Type 0
SaysWhatIsMeant =
    (core : CoreData) → Formed core → (slots : Slots) (own : Note) (ns : List Note) (x : Node) (r : Rule) (k : NodeKind)
    → (rule_says core slots ns x (before own) r k ≡ Some (said_by own)) ↔ Means core slots own ns x r k

abbrev pub MeetsTheSameRules : Type 0
MeetsTheSameRules = (core : CoreData) → Formed core → (ann : Ann) (n : ℕ) → NoteIsSaid core ann n ↔ MeetsRule core ann n

abbrev pub SameAreValid : Type 0
SameAreValid = (core : CoreData) → Formed core → (ann : Ann) → Checks core ann ↔ Valid core ann

abbrev pub SameHaveNoRule : Type 0
SameHaveNoRule = (core : CoreData) → Formed core → (ann : Ann) (n : ℕ) → SaysNothing core ann n ↔ NoRule core ann n

abbrev pub SameAreUnset : Type 0
SameAreUnset = (core : CoreData) → Formed core → (ann : Ann) (m : ℕ) → StaysUnset core ann m ↔ Unset core ann m
