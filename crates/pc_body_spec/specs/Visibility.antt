-- Which locals a rose may refer to: those defined before it in the sequences around it.
use Rattle.std.specs.Prelude.{ℕ, List, [], ◌∷◌, ◌++◌, map}
use Rattle.pc_core.specs.declared.nodes.NodeKind.{NodeKind}
use Rattle.pc_body_spec.specs.Bodies.{Rose, Roses, rose, more, no_roses, Scope}
use Rattle.pc_base.specs.Lists.{IsIn}
use Rattle.pc_core.specs.declared.nodes.NodeKind.TheVariants as node

-- The requirement for a node of this kind: `all` says that its children refer only to what is visible, and `items` that
-- they do so as the items of a sequence. A definition may only be such an item.
abbrev pub AsksVisible : NodeKind → List ℕ → Type 0 → Type 0 → Type 0
AsksVisible (node.Local s) visible all items = IsIn s visible × all
AsksVisible (node.Consume s) visible all items = IsIn s visible × all
AsksVisible (node.Assign s) visible all items = IsIn s visible × all
AsksVisible (node.Define s) visible all items = ⊥
AsksVisible node.Seq visible all items = items
AsksVisible k visible all items = all

-- An item that defines a local makes it visible to the later ones.
abbrev pub ItemAsks : NodeKind → List ℕ → Type 0 → Type 0 → (List ℕ → Type 0) → Type 0
ItemAsks (node.Define s) visible all part rest = all × rest (visible ++ s ∷ [])
ItemAsks k visible all part rest = part × rest visible

-- A rose refers only to locals whose slots are visible.
abbrev mutual
  pub Scoped : List ℕ → Rose → Type 0
  Scoped visible (rose k s d rs) = AsksVisible k visible (AllScoped visible rs) (ItemsScoped visible rs)

  pub AllScoped : List ℕ → Roses → Type 0
  AllScoped visible no_roses = Unit {0}
  AllScoped visible (more r rs) = Scoped visible r × AllScoped visible rs

  pub ItemsScoped : List ℕ → Roses → Type 0
  ItemsScoped visible no_roses = Unit {0}
  ItemsScoped visible (more (rose k s d cs) rs) = ItemAsks k visible (AllScoped visible cs) (AsksVisible k visible (AllScoped visible cs) (ItemsScoped visible cs)) (λ v. ItemsScoped v rs)

abbrev pub slots : Scope → List ℕ
slots = map (λ v. v.slot)
