-- The note of a node meets its rule, and what was read of a node or a method is what is there.
use Rattle.std.specs.{Prelude.{◌≡◌, ℕ, ◌+◌, true, Some, nat_eq, slice_get, false, length}, Int.bit_at}
use Rattle.std.proofs.{Common.{ap, sym, subst, ◌∙◌}, lemmas.Option.same_Some, lemmas.Bool.eqb-true}
use Rattle.pc_base.proofs.{Gets.get_below, Options.bind_some}
use Rattle.pc_caps.specs.declared.capability.Cap.{Cap}
use Rattle.pc_core.specs.{declared.declarations.Method.Method, declared.nodes.Node.Node, declared.nodes.Slot.Slot, CoreData.CoreData, Nodes.{NamesFit, HasArity}, declared.nodes.NodeKind.NodeKind}
use Rattle.pc_masks.specs.{declared.mask.Mask.Mask, Masks.same}
use Rattle.pc_ann.specs.{declared.annotation.Note.Note, declared.annotation.Ann.Ann}
use Rattle.pc_valid.specs.Words.{before}
use Rattle.pc_rules.specs.Rules.{said_by}
use Rattle.pc_rules.proofs.{ByNumber.{slot_of, IsSaid, says}, Bridge.meets_by_number, Threads.{is_branch, Threaded, threads}}
use Rattle.pc_types.proofs.{Tasks.Within, Needs.Needs}

module _ (core : CoreData) (ann : Ann) (needs : Needs core ann) where
  -- A node has a note, which meets its rule.
  pub note_at : (n : ℕ) (x : Node) → slice_get core.nodes n ≡ Some x → (t : Note) × (slice_get ann.notes n ≡ Some t) × IsSaid core ann x t
  note_at n x e =
      let r = needs.valid.rules n (get_below core.nodes n x e) in
      let is : r.0 ≡ x = same_Some r.0 x (sym r.2 ∙ e) in
      (r.1, r.3, subst (λ (y : Node). IsSaid core ann y r.1) is (meets_by_number core ann r.0 r.1 r.4))

  pub meets : (n : ℕ) (x : Node) (t : Note) → slice_get core.nodes n ≡ Some x → slice_get ann.notes n ≡ Some t → IsSaid core ann x t
  meets n x t e g =
      let r = note_at n x e in
      let is : r.0 ≡ t = same_Some r.0 t (sym r.1 ∙ g) in
      subst (λ (u : Note). IsSaid core ann x u) is r.2

-- What a node names exists, and it has as many children as its kind requires.
pub names_fit : (core : CoreData) (ann : Ann) → Needs core ann → (n : ℕ) (x : Node) → slice_get core.nodes n ≡ Some x → (k : NodeKind) → x.kind ≡ k → NamesFit core x.method k
names_fit core ann needs n x at k is = subst (NamesFit core x.method) is (needs.formed.nodes n x at).names

pub arity_fits : (core : CoreData) (ann : Ann) → Needs core ann → (n : ℕ) (x : Node) → slice_get core.nodes n ≡ Some x → (k : NodeKind) → x.kind ≡ k → HasArity k (length x.children)
arity_fits core ann needs n x at k is = subst (λ (j : NodeKind). HasArity j (length x.children)) is (needs.formed.nodes n x at).arity

-- The children of a node of this kind are evaluated one after another.
pub children_threaded : (core : CoreData) (ann : Ann) → Needs core ann → (n : ℕ) (x : Node) (t : Note) → slice_get core.nodes n ≡ Some x → (k : NodeKind) → x.kind ≡ k → is_branch k ≡ false
    → says core ann x (before t) t.rule k ≡ Some (said_by t) → Threaded ann x.children (before t)
children_threaded core ann needs n x t at k is other q = threads core ann x (before t) (said_by t) t.rule k other (arity_fits core ann needs n x at k is) q

-- The type of a slot.
pub slot_at : (core : CoreData) (ann : Ann) (m s : ℕ) (f : Method) (i : Slot × (ℕ × Cap)) → slice_get core.methods m ≡ Some f → slot_of core ann m s ≡ Some i → slice_get ann.slots (f.first_slot + s) ≡ Some i.1
slot_at core ann m s f i e g =
    let a = bind_some (slice_get core.methods m) _ i g in
    let b = bind_some (slice_get core.slots (a.0.first_slot + s)) _ i a.2 in
    let c = bind_some (slice_get ann.slots (a.0.first_slot + s)) _ i b.2 in
    let is : a.0 ≡ f = same_Some a.0 f (sym a.1 ∙ e) in
    let ty : c.0 ≡ i.1 = ap (λ (j : Slot × (ℕ × Cap)). j.1) (same_Some (b.0, c.0) i c.2) in
    subst (λ (y : Method). slice_get ann.slots (y.first_slot + s) ≡ Some i.1) is (c.1 ∙ ap Some ty)

-- Equal masks have the same numbers.
pub same_within : (a b : Mask) → same a b ≡ true → Within a b
same_within a b e i h = subst (λ (n : ℕ). nat_eq (bit_at n i) 1 ≡ true) (eqb-true a.0 b.0 e) h
