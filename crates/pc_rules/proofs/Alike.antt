-- The conclusion of a rule for a node is the same in two annotations with the same notes of its children and the same
-- type of the slot that it uses.
use Rattle.std.specs.Prelude.{◌≡◌, ℕ, suc, ◌+◌, List, [], ◌∷◌, Option, Some, None, slice_get, refl}
use Rattle.std.proofs.{Common.{ap, ◌∙◌}, lemmas.Option.none-some}
use Rattle.pc_core.specs.{declared.declarations.Method.Method, declared.nodes.Node.Node, declared.nodes.NodeKind.NodeKind, CoreData.CoreData}
use Rattle.pc_core.specs.declared.nodes.NodeKind.TheVariants as node
use Rattle.pc_base.specs.Lists.{Each, ◌>>=◌}
use Rattle.pc_ann.specs.{declared.annotation.Note.Note, declared.annotation.Ann.Ann, declared.annotation.Rule.Rule}
use Rattle.pc_ann.specs.declared.annotation.Rule.TheVariants as rule
use Rattle.pc_rules.specs.{Parts.{type_of, one_child, one_type, notes_of}, Rules.{rule_says, says}}
use Rattle.pc_valid.specs.Words.{Masks}
use Rattle.pc_rules.specs.Parts as parts
use Rattle.pc_rules.specs.Values as values
use Rattle.pc_rules.proofs.ByNumber.{slot_of}

pub bind_same : {A B : Type 0} → (o p : Option A) (f g : A → Option B) → o ≡ p → ((x : A) → p ≡ Some x → f x ≡ g x) → (o >>= f) ≡ (p >>= g)
bind_same o None f g e h = ap (λ q. q >>= f) e
bind_same o (Some x) f g e h = ap (λ q. q >>= f) e ∙ h x refl

-- The index of the slot that a node of this kind uses.
abbrev pub looked_at : NodeKind → Option ℕ
looked_at node.This = Some 0
looked_at (node.Local s) = Some s
looked_at (node.Consume s) = Some s
looked_at (node.Define s) = Some s
looked_at (node.Assign s) = Some s
looked_at k = None

-- A node of this kind in method m uses a slot with the same type in both.
abbrev pub LooksAlike : CoreData → Ann → Ann → ℕ → NodeKind → Type 0
LooksAlike core a b m k = (s : ℕ) → looked_at k ≡ Some s → slot_of core a m s ≡ slot_of core b m s

-- Both have the same note of this node, and of each of these.
abbrev pub SameNote : Ann → Ann → ℕ → Type 0
SameNote a b c = slice_get a.notes c ≡ slice_get b.notes c

abbrev pub SameNotes : Ann → Ann → List ℕ → Type 0
SameNotes a b cs = Each (λ i c. SameNote a b c) cs

module _ (a b : Ann) where
  notes_same : (cs : List ℕ) → SameNotes a b cs → notes_of a.notes cs ≡ notes_of b.notes cs
  notes_same [] h = refl
  notes_same (c ∷ cs) h =
      bind_same (slice_get a.notes c) (slice_get b.notes c) _ _ (h 0 c refl) (λ t e.
      bind_same (notes_of a.notes cs) (notes_of b.notes cs) _ _ (notes_same cs (λ i d g. h (suc i) d g)) (λ ts f. refl))

  pub type_same : (c : ℕ) → SameNote a b c → type_of a c ≡ type_of b c
  type_same c e = ap (λ (o : Option Note). o >>= λ t. t.ty) e

  pub at_one : (cs : List ℕ) (c : ℕ) → SameNotes a b cs → one_child cs ≡ Some c → SameNote a b c
  at_one [] c h e = absurd (none-some c e)
  at_one (d ∷ []) c h e = h 0 c e
  at_one (d ∷ f ∷ cs) c h e = absurd (none-some c e)

  pub slot_same : (core : CoreData) (m s : ℕ) → ((f : Method) → slice_get core.methods m ≡ Some f → slice_get a.slots (f.first_slot + s) ≡ slice_get b.slots (f.first_slot + s)) → slot_of core a m s ≡ slot_of core b m s
  slot_same core m s k =
      bind_same (slice_get core.methods m) (slice_get core.methods m) _ _ refl (λ f i.
      bind_same (slice_get core.slots (f.first_slot + s)) (slice_get core.slots (f.first_slot + s)) _ _ refl (λ y j.
      bind_same (slice_get a.slots (f.first_slot + s)) (slice_get b.slots (f.first_slot + s)) _ _ (k f i) (λ ty g. refl)))

  used_same : (core : CoreData) (x : Node) (s : ℕ) (m : Masks) → slot_of core a x.method s ≡ slot_of core b x.method s → values.used core a.slots x s m.0 ≡ values.used core b.slots x s m.0
  used_same core x s m k = bind_same (parts.slot_of core a.slots x.method s) (parts.slot_of core b.slots x.method s) _ _ k (λ i j. refl)

  -- A rule depends on at most one slot.
  rule_same : (core : CoreData) (x : Node) (ns : List Note) (r : Rule) (k : NodeKind) (m : Masks) → LooksAlike core a b x.method k → rule_says core a.slots ns x m r k ≡ rule_says core b.slots ns x m r k
  rule_same core x ns rule.This node.This m l =
      bind_same (slice_get core.methods x.method) (slice_get core.methods x.method) _ _ refl (λ f i.
      bind_same (parts.slot_of core a.slots x.method 0) (parts.slot_of core b.slots x.method 0) _ _ (l 0 refl) (λ s j. refl))
  rule_same core x ns rule.Local (node.Local s) m l = bind_same (values.used core a.slots x s m.0) (values.used core b.slots x s m.0) _ _ (used_same core x s m (l s refl)) (λ i e. refl)
  rule_same core x ns rule.Consume (node.Consume s) m l = bind_same (values.used core a.slots x s m.0) (values.used core b.slots x s m.0) _ _ (used_same core x s m (l s refl)) (λ i e. refl)
  rule_same core x ns rule.Define (node.Define s) m l =
      bind_same (one_type ns) (one_type ns) _ _ refl (λ v e.
      bind_same (parts.slot_of core a.slots x.method s) (parts.slot_of core b.slots x.method s) _ _ (l s refl) (λ i j. refl))
  rule_same core x ns rule.Assign (node.Assign s) m l =
      bind_same (one_type ns) (one_type ns) _ _ refl (λ v e.
      bind_same (parts.slot_of core a.slots x.method s) (parts.slot_of core b.slots x.method s) _ _ (l s refl) (λ i j. refl))
  rule_same core x ns r k m l = refl

pub says_same : (core : CoreData) (a b : Ann) (x : Node) → SameNotes a b x.children → (r : Rule) (k : NodeKind) (m : Masks) → LooksAlike core a b x.method k → says core a x m r k ≡ says core b x m r k
says_same core a b x h r k m l = bind_same (notes_of a.notes x.children) (notes_of b.notes x.children) _ _ (notes_same a b x.children h) (λ ns e. rule_same a b core x ns r k m l)
