-- The laws of the rules, proved.
use Rattle.std.specs.Prelude.{◌≡◌, ◌≢◌, ◌⊎◌, ◌↔◌, ℕ, zero, suc, ◌<◌, Bool, true, false, cond, List, [], ◌∷◌, Option, Some, None, slice_get, refl}
use Rattle.std.proofs.{Common.{ap, sym, subst, ◌∙◌}, lemmas.Option.{same_Some, none-some}}
use Rattle.pc_core.specs.{declared.nodes.Node.Node, declared.nodes.NodeKind.NodeKind, CoreData.CoreData}
use Rattle.pc_core.specs.declared.nodes.NodeKind.TheVariants as node
use Rattle.pc_base.proofs.Options.{bind_some}
use Rattle.pc_masks.specs.{declared.mask.Mask.Mask, Masks.{IsInMask, with_number}, MaskLaws.{without_number_bits, with_number_bits}}
use Rattle.pc_ann.specs.declared.annotation.Rule.TheVariants as rule
use Rattle.pc_rules.specs.{declared.said.Said.Said, Parts.{through, one_child, type_of, last_child}, Values.defines, Control.{without_definition, without_item, without_items}, Rules.{says, said_by}, Statements.{RulesDetermine, ConsumeTakesOut, DefinePutsIn, SeqTakesOut}}
use Rattle.pc_valid.specs.Words.{Masks, before, Defines}
use Rattle.pc_rules.proofs.{ByNumber.{slot_of, used, defined}, Bridge.by_number}

pub rules_determine : RulesDetermine
rules_determine core ann x a b r m p q =
    same_Some (said_by a) (said_by b) (sym p ∙ ap (λ k. says core ann x (before a) k x.kind) r ∙ ap (λ k. says core ann x k b.rule x.kind) m ∙ q)

pub consume_takes_out : ConsumeTakesOut
consume_takes_out core ann x s m r e =
    let a = bind_some (used core ann x s m.0) _ r (by_number core ann x m rule.Consume (node.Consume s) r e) in
    let same = same_Some _ r a.2 in (
      λ i. subst (λ (q : Said). (IsInMask q.live i) ↔ ((i ≢ s) × IsInMask m.0 i)) same (without_number_bits m.0 s i),
      sym
          (ap (λ (q : Said). q.set) same),
    )

-- The result under a condition.
kept : {A : Type 0} → (b : Bool) (o : Option A) (y : A) → cond b o None ≡ Some y → o ≡ Some y
kept true o y e = e
kept false o y e = absurd (none-some y e)

pub define_puts_in : DefinePutsIn
define_puts_in core ann x s m n r e t =
    let a = bind_some (one_child x.children) _ r (by_number core ann x m rule.Define (node.Define s) r e) in
    let b = bind_some (type_of ann a.0) _ r a.2 in
    let c = bind_some (slot_of core ann x.method s) _ r b.2 in
    let d = kept (defines core c.0 b.0) (defined ann x s m) r c.2 in
    let f = bind_some (through ann x.children m) _ r d in
    let same = same_Some _ r f.2 in
    let at = same_Some f.0 n (sym f.1 ∙ t) in (
      λ i. subst (λ (q : Said). (IsInMask q.live i) ↔ (((i ≡ s) × (s < 64)) ⊎ IsInMask n.0 i)) same (subst (λ (k : Masks). (IsInMask (with_number f.0.0 s) i) ↔ (((i ≡ s) × (s < 64)) ⊎ IsInMask k.0 i)) at (with_number_bits f.0.0 s i)),
      sym (ap (λ (q : Said). q.set) same) ∙ ap (λ (k : Masks). k.1) at,
    )

abbrev slot_in : NodeKind → ℕ
slot_in (node.Define s) = s
slot_in k = 0

defined_slot : (s i : ℕ) → node.Define s ≡ node.Define i → s ≡ i
defined_slot s i e = ap slot_in e

-- An item removes the slot that it defines.
definition_bits : (k : NodeKind) (l : Mask) (i : ℕ) → (IsInMask (without_definition k l) i) ↔ (IsInMask l i × (k ≡ node.Define i → ⊥))
definition_bits (node.Define s) l i = (
  λ h. let p = (without_number_bits l s i).0 h in (p.1, λ e. p.0 (sym (defined_slot s i e))),
  λ h. (without_number_bits l s i).1 (λ e. h.1 (ap node.Define (sym e)), h.0),
)
definition_bits k l i = (λ h. (h, λ e. cc e), λ h. h.0)

item_bits : (o : Option Node) (l : Mask) (i : ℕ) → (IsInMask (without_item o l) i) ↔ (IsInMask l i × ((y : Node) → o ≡ Some y → y.kind ≡ node.Define i → ⊥))
item_bits None l i = (λ h. (h, λ y e k. none-some y e), λ h. h.0)
item_bits (Some x) l i = (
  λ h. let p = (definition_bits x.kind l i).0 h in (p.0, λ y e k. p.1 (ap (λ (z : Node). z.kind) (same_Some x y e) ∙ k)),
  λ h. (definition_bits x.kind l i).1 (h.0, λ k. h.1 x refl k),
)

split : (core : CoreData) (c : ℕ) (cs : List ℕ) (i d : ℕ) (y : Node) (k : ℕ) → slice_get (c ∷ cs) k ≡ Some d → slice_get core.nodes d ≡ Some y → y.kind ≡ node.Define i → ((y : Node) → slice_get core.nodes c ≡ Some y → y.kind ≡ node.Define i → ⊥) → ((Defines core cs i) → ⊥) → ⊥
split core c cs i d y zero e f g p q = p y (ap (slice_get core.nodes) (same_Some c d e) ∙ f) g
split core c cs i d y (suc k) e f g p q = q (d, y, (k, e), f, g)

either : (core : CoreData) (c : ℕ) (cs : List ℕ) (i : ℕ) → Defines core (c ∷ cs) i → ((y : Node) → slice_get core.nodes c ≡ Some y → y.kind ≡ node.Define i → ⊥) → ((Defines core cs i) → ⊥) → ⊥
either core c cs i d p q = split core c cs i d.0 d.1 d.2.0 d.2.1 d.3 d.4 p q

pub items_bits : (core : CoreData) (cs : List ℕ) (l : Mask) (i : ℕ)
    → (IsInMask (without_items core cs l) i) ↔ (IsInMask l i × ((Defines core cs i) → ⊥))
items_bits core [] l i = (λ h. (h, λ d. none-some d.0 d.2.1), λ h. h.0)
items_bits core (c ∷ cs) l i =
    let rest = items_bits core cs (without_item (slice_get core.nodes c) l) i in
    let first = item_bits (slice_get core.nodes c) l i in (
      λ h. let p = rest.0 h in let q = first.0 p.0 in (q.0, λ d. either core c cs i d q.1 p.1),
      λ h. rest.1 (first.1 (h.0, λ y e k. h.1 (c, y, (0, refl), e, k)), λ d. h.1 (d.0, d.1, (suc d.2.0, d.2.1), d.3, d.4)),
    )

pub seq_takes_out : SeqTakesOut
seq_takes_out core ann x m n r e t =
    let a = bind_some (last_child x.children) _ r (by_number core ann x m rule.Seq node.Seq r e) in
    let b = bind_some (slice_get ann.notes a.0) _ r a.2 in
    let f = bind_some (through ann x.children m) _ r b.2 in
    let same = same_Some _ r f.2 in
    let at = same_Some f.0 n (sym f.1 ∙ t) in (
      λ i. subst (λ (q : Said). (IsInMask q.live i) ↔ (IsInMask n.0 i × ((Defines core x.children i) → ⊥))) same (subst (λ (k : Masks). (IsInMask (without_items core x.children f.0.0) i) ↔ (IsInMask k.0 i × ((Defines core x.children i) → ⊥))) at (items_bits core x.children f.0.0 i)),
      sym (ap (λ (q : Said). q.set) same) ∙ ap (λ (k : Masks). k.1) at,
    )
