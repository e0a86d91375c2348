-- The slot that a node defines, and the nodes that use it.
use Rattle.std.specs.Prelude.{◌≡◌, ◌⊎◌, ℕ, ◌+◌, ◌<◌, Option, Some, None, slice_get, refl}
use Rattle.std.proofs.{Common.{inl, inr, ap, sym, subst, ◌∙◌, arith}, lemmas.Option.{same_Some, none-some}}
use Rattle.pc_base.proofs.{Gets.get_below, Options.{bind_some, bind_is}}
use Rattle.pc_caps.specs.{Tables.stored, declared.capability.Cap.Cap}
use Rattle.pc_core.specs.{declared.declarations.Method.Method, declared.nodes.Slot.Slot, declared.nodes.Node.Node, declared.nodes.NodeKind.NodeKind, CoreData.CoreData, Methods.{LocalFits, UsesSlot}, Entities.this_slot, Nodes.NamesFit, Formed.Formed}
use Rattle.pc_core.specs.declared.nodes.NodeKind.TheVariants as node
use Rattle.pc_ann.specs.declared.annotation.Ann.{Ann}
use Rattle.pc_rules.specs.Parts.{type_of, one_child}
use Rattle.pc_valid.specs.Words.{Ty}
use Rattle.pc_rules.proofs.{Alike.looked_at, Slotted.{slot_known, this_known}}
use Rattle.pc_check.specs.Inference.{unwritten, inferred_slot_type, inferred_slot}
use Rattle.pc_core.proofs.Homes.{home, home_method}

-- ---- what follows for the slot

-- Slot i.0 gets type i.1 at node x.
pub record Inferred (core : CoreData) (ann : Ann) (x : Node) (i : ℕ × (ℕ × Cap)) : Type 0 where
  pub slot : ℕ
  pub defines : x.kind ≡ node.Define slot
  pub method : Method
  pub is_method : slice_get core.methods x.method ≡ Some method
  pub declared : Slot
  pub place : i.0 ≡ method.first_slot + slot
  pub is_declared : slice_get core.slots i.0 ≡ Some declared
  pub none : declared.written ≡ None

unwritten_none : (ann : Ann) (x : Node) (o : Option (ℕ × Cap)) (v : Ty) → unwritten ann x.children o ≡ Some v → o ≡ None
unwritten_none ann x (Some ty) v e = absurd (none-some v e)
unwritten_none ann x None v e = refl

inferred_of : (core : CoreData) (ann : Ann) (x : Node) (k : NodeKind) (i : ℕ × (ℕ × Cap)) → x.kind ≡ k → inferred_slot core ann x k ≡ Some i → Inferred core ann x i
inferred_of core ann x (node.Define s) i k e =
    let a = bind_some (slice_get core.methods x.method) _ i e in
    let b = bind_some (slice_get core.slots (a.0.first_slot + s)) _ i a.2 in
    let c = bind_some (unwritten ann x.children b.0.written) _ i b.2 in
    let is = same_Some (a.0.first_slot + s, (c.0.0, stored c.0.1)) i c.2 in
    let place : a.0.first_slot + s ≡ i.0 = ap (λ (j : ℕ × (ℕ × Cap)). j.0) is in
    record {
      slot = s;
      defines = k;
      method = a.0;
      is_method = a.1;
      declared = b.0;
      place = sym place;
      is_declared = ap (slice_get core.slots) (sym place) ∙ b.1;
      none = unwritten_none ann x b.0.written c.0 c.1;
    }
inferred_of core ann x k i e f = absurd (none-some i f)

pub inferred_inv : (core : CoreData) (ann : Ann) (x : Node) (i : ℕ × (ℕ × Cap)) → inferred_slot core ann x x.kind ≡ Some i → Inferred core ann x i
inferred_inv core ann x i e = inferred_of core ann x x.kind i refl e

-- It follows if the value has a type and none is written.
pub slot_follows : (core : CoreData) (ann : Ann) (x : Node) (s : ℕ) (f : Method) (y : Slot) (c : ℕ) (v : Ty) → slice_get core.methods x.method ≡ Some f → slice_get core.slots (f.first_slot + s) ≡ Some y → y.written ≡ None → one_child x.children ≡ Some c → type_of ann c ≡ Some v → inferred_slot_type core ann x s ≡ Some (f.first_slot + s, (v.0, stored v.1))
slot_follows core ann x s f y c v g h w k t =
    let u : unwritten ann x.children y.written ≡ Some v = ap (unwritten ann x.children) w ∙ bind_is (one_child x.children) (type_of ann) c k ∙ t in
    bind_is (slice_get core.methods x.method) _ f g ∙ bind_is (slice_get core.slots (f.first_slot + s)) _ y h ∙ bind_is (unwritten ann x.children y.written) _ v u

-- ---- which nodes use it

pub looked_kind : (k : NodeKind) (s : ℕ) → looked_at k ≡ Some s → ((k ≡ node.This) × (s ≡ 0)) ⊎ (UsesSlot s k ⊎ (k ≡ node.Define s))
looked_kind node.This s e = inl (refl, sym (same_Some 0 s e))
looked_kind (node.Local i) s e = inr (inl (same_Some i s e))
looked_kind (node.Consume i) s e = inr (inl (same_Some i s e))
looked_kind (node.Assign i) s e = inr (inl (same_Some i s e))
looked_kind (node.Define i) s e = inr (inr (ap node.Define (same_Some i s e)))
looked_kind k s e = absurd (none-some s e)

uses_below : (core : CoreData) (m : ℕ) (k : NodeKind) (s : ℕ) (f : Method) → NamesFit core m k → UsesSlot s k → slice_get core.methods m ≡ Some f → s < f.slots
uses_below core m (node.Local i) s f h u g = subst (λ j. j < f.slots) u (subst (λ (z : Method). i < z.slots) (same_Some h.1.0 f (sym h.1.1 ∙ g)) h.1.2)
uses_below core m (node.Consume i) s f h u g = subst (λ j. j < f.slots) u (subst (λ (z : Method). i < z.slots) (same_Some h.1.0 f (sym h.1.1 ∙ g)) h.1.2)
uses_below core m (node.Assign i) s f h u g = subst (λ j. j < f.slots) u (subst (λ (z : Method). i < z.slots) (same_Some h.1.0 f (sym h.1.1 ∙ g)) h.1.2)
uses_below core m k s f h u g = absurd u

pub defines_below : (core : CoreData) (m : ℕ) (k : NodeKind) (s : ℕ) (f : Method) → NamesFit core m k → k ≡ node.Define s → slice_get core.methods m ≡ Some f → s < f.slots
defines_below core m k s f h e g =
    let n = subst (NamesFit core m) e h in
    subst (λ (z : Method). s < z.slots) (same_Some n.0 f (sym n.2 ∙ g)) n.3

local_of : (core : CoreData) (m s : ℕ) (f : Method) (y : Slot) → Formed core → slice_get core.methods m ≡ Some f → s < f.slots → slice_get core.slots (f.first_slot + s) ≡ Some y → y.written ≡ None → LocalFits core m s y
local_of core m s f y formed g l h w = elim (slot_known core m f s y formed g l h) [ inl t ↦ absurd (none-some t.0 (sym w ∙ t.1)) | inr fit ↦ fit ]

-- The slot of `this` has a written type, in each method with a body.
this_written : (core : CoreData) (m : ℕ) (f : Method) (b : ℕ) (y : Slot) → Formed core → slice_get core.methods m ≡ Some f → f.body ≡ Some b → slice_get core.slots (f.first_slot + 0) ≡ Some y → y.written ≡ None → ⊥
this_written core m f b y formed g e h w =
    let is = same_Some y (this_slot m f) (sym h ∙ this_known core m f b formed g e) in
    none-some (f.entity, f.receiver) (sym w ∙ ap (λ (k : Slot). k.written) is)

-- A node that comes before the definition of a slot without a written type does not use the slot.
pub other_place : (core : CoreData) (ann : Ann) (n j : ℕ) (x z : Node) (i : ℕ × (ℕ × Cap)) (s : ℕ) (f : Method) → Formed core → slice_get core.nodes n ≡ Some x → Inferred core ann x i → j < n → slice_get core.nodes j ≡ Some z → looked_at z.kind ≡ Some s → slice_get core.methods z.method ≡ Some f → f.first_slot + s ≡ i.0 → ⊥
other_place core ann n j x z i s f formed g def l h look gf e =
    let below = defines_below core x.method x.kind def.slot def.method (formed.nodes n x g).names def.defines def.is_method in
    let fit = local_of core x.method def.slot def.method def.declared formed def.is_method below (ap (slice_get core.slots) (sym def.place) ∙ def.is_declared) def.none in
    let at : n ≡ fit.define = fit.only n x g refl def.defines in
    let there : slice_get core.slots (f.first_slot + s) ≡ Some def.declared = ap (slice_get core.slots) e ∙ def.is_declared in
    elim (looked_kind z.kind s look) [
      | inl this ↦ let m = home core j formed (get_below core.nodes j z h) in
          let is : f ≡ m.method = same_Some f m.method (sym gf ∙ ap (slice_get core.methods) (home_method core j z m h) ∙ m.is_method) in
          this_written core z.method f m.body def.declared formed gf (ap (λ (k : Method). k.body) is ∙ m.is_body) (ap (λ k. slice_get core.slots (f.first_slot + k)) (sym this.1) ∙ there) def.none
      | inr used ↦ let names = (formed.nodes j z h).names in
          let within : s < f.slots = elim used [ inl u ↦ uses_below core z.method z.kind s f names u gf | inr d ↦ defines_below core z.method z.kind s f names d gf ] in
          let local = local_of core z.method s f def.declared formed gf within there def.none in
          let own : z.method ≡ x.method = sym local.method ∙ fit.method in
          let is : f ≡ def.method = same_Some f def.method (sym gf ∙ ap (slice_get core.methods) own ∙ def.is_method) in
          let first : f.first_slot ≡ def.method.first_slot = ap (λ (k : Method). k.first_slot) is in
          let place = def.place in
          let same : s ≡ def.slot = omega (arith, e, first, place) in
          elim used [
            | inl u ↦ let later = (fit.later j z h own (subst (λ k. UsesSlot k z.kind) same u)).0 in omega (arith, later, at, l)
            | inr d ↦ let only = fit.only j z h own (d ∙ ap node.Define same) in omega (arith, only, at, l)
          ]
    ]
