-- What shows that there is no annotation.
use Rattle.std.specs.Prelude.{◌≡◌, ℕ, zero, suc, ◌+◌, ◌<◌, Bool, true, false, not, List, [], ◌∷◌, length, Option, Some, None, slice_get, slice_set, if◌then◌else◌, refl}
use Rattle.std.proofs.{Common.{inl, inr, ap, sym, subst, ◌∙◌, arith}, lemmas.List.length-append, lemmas.Option.{same_Some, none-some}, lemmas.Bool.{and_parts, not-true}}
use Rattle.pc_base.proofs.{Gets.{get_below, get_set_same}, Bools.false_true}
use Rattle.pc_caps.specs.{Computed.fits, Tables.stored, declared.capability.Cap.Cap}
use Rattle.pc_tree.specs.declared.kinds.Op.{Op}
use Rattle.pc_tree.specs.declared.kinds.Op.TheVariants as op
use Rattle.pc_core.specs.{declared.declarations.Method.Method, declared.nodes.Slot.Slot, declared.nodes.Node.Node, declared.nodes.NodeKind.NodeKind, CoreData.CoreData, Methods.UsesSlot, Nodes.NamesFit, Formed.Formed}
use Rattle.pc_core.specs.declared.nodes.NodeKind.TheVariants as node
use Rattle.pc_base.specs.Lists.{Each, Has}
use Rattle.pc_ann.specs.{declared.annotation.Note.Note, declared.annotation.Ann.Ann, declared.annotation.Rule.Rule}
use Rattle.pc_ann.specs.declared.annotation.Rule.TheVariants as rule
use Rattle.pc_sub.specs.Declarations.{DeclOk}
use Rattle.pc_rules.specs.{declared.said.Said.Said, Parts.{constructs, full}, Values.defined_type, Calls.is_behaviour, Operators.both_read_as, Rules.{says, IsSaid}, Checks.StartsFrom}
use Rattle.pc_valid.specs.{Words.{Ty, Masks, before}, NoRule.{Infers, DifferAt}}
use Rattle.pc_rules.proofs.{Derivations.{no_rule_to, unset_to}, Alike.{looked_at, LooksAlike, slot_same, says_same}, OneRule.{define_rule, method_rule, call_rule, operator_rule}, Threads.{rule_at, is_rule_at}, ByNumber.{incomplete, called, two_types}, Bridge.by_number, Agreeing.{define_inv, slot_parts}, Homes.home_body}
use Rattle.pc_check.specs.{declared.sources.Source.Source, Sources.Sourced, Inference.{inferred_slot, with_inferred_slot, with_inferred, rules_for, note_or_else, first_note, is_body, lacks_field, leaves_unset}, SourceMasks.masks_from, Faults.{StopsAt, InferenceLeavesUnset}, Walked.Walked}
use Rattle.pc_core.proofs.Homes.{home, home_method}
use Rattle.pc_check.proofs.{Parents.earlier_body, Definitions.{slot_follows, looked_kind}, Walking.{walked_infer, reached, reaches_infer, noted, note_here, meets_noted, sets_noted, with_notes}}

-- ---- no rule

says_none : (r : Rule) (m : Masks) (o : Option Said) (rest : Option Note) → note_or_else r m o rest ≡ None → (o ≡ None) × (rest ≡ None)
says_none r m None rest e = (refl, e)
says_none r m (Some q) rest e = absurd (none-some _ (sym e))

-- None of these rules applies.
each_none : (core : CoreData) (ann : Ann) (x : Node) (m : Masks) (rs : List Rule) → first_note core ann x m rs ≡ None → Each (λ i r. says core ann x m r x.kind ≡ None) rs
each_none core ann x m [] e i r g = absurd (none-some r g)
each_none core ann x m (q ∷ rs) e zero r g = subst (λ (k : Rule). says core ann x m k x.kind ≡ None) (same_Some q r g) (says_none q m (says core ann x m q x.kind) (first_note core ann x m rs) e).0
each_none core ann x m (q ∷ rs) e (suc i) r g = each_none core ann x m rs (says_none q m (says core ann x m q x.kind) (first_note core ann x m rs) e).1 i r g

if_among : (rs : List Rule) (b : Bool) (r q : Rule) → Has rs r → Has rs q → Has rs (if b then r else q)
if_among rs true r q h g = h
if_among rs false r q h g = g

method_among : (name : ℕ) (to : Ty) (o : Option Method) → Has (rules_for (node.Call name)) (method_rule to o)
method_among name to None = (3, refl)
method_among name to (Some f) =
    let rules = rules_for (node.Call name) in
    if_among rules (is_behaviour f.kind) rule.Send _ (2, refl) (if_among rules (fits to.1 f.receiver) rule.Call rule.CallRecover (0, refl) (1, refl))

call_among : (core : CoreData) (name : ℕ) (o : Option (Ty × ℕ)) → Has (rules_for (node.Call name)) (call_rule core o)
call_among core name None = (3, refl)
call_among core name (Some i) = method_among name i.0 (slice_get core.methods i.1)

operator_among : (o : Op) (vs : Option (Ty × Ty)) → Has (rules_for (node.Binary o)) (operator_rule o vs)
operator_among op.Add None = (0, refl)
operator_among op.Add (Some vs) = if_among (rules_for (node.Binary op.Add)) (both_read_as 3 vs) rule.Join rule.Arith (3, refl) (0, refl)
operator_among op.Lt vs = (1, refl)
operator_among op.Le vs = (1, refl)
operator_among op.Gt vs = (1, refl)
operator_among op.Ge vs = (1, refl)
operator_among op.Eq vs = (2, refl)
operator_among op.Ne vs = (2, refl)
operator_among op.Xor vs = (4, refl)
operator_among o vs = (0, refl)

-- The rule that can apply to a node is one of those for its kind.
rule_among : (core : CoreData) (ann : Ann) (x : Node) (k : NodeKind) → Has (rules_for k) (rule_at core ann x k)
rule_among core ann x (node.Field name) = if_among (rules_for (node.Field name)) (incomplete core ann x) rule.GetOwn rule.Get (1, refl) (0, refl)
rule_among core ann x (node.SetField name) = if_among (rules_for (node.SetField name)) (incomplete core ann x) rule.PutOwn rule.Put (1, refl) (0, refl)
rule_among core ann x (node.Call name) = call_among core name (called core ann x name)
rule_among core ann x (node.Binary o) = operator_among o (two_types ann x.children)
rule_among core ann x k = (0, refl)

is_none : {A : Type 0} → (o : Option A) → ((q : A) → o ≡ Some q → ⊥) → o ≡ None
is_none None h = refl
is_none (Some q) h = absurd (h q refl)

-- If none of these rules applies, no rule does.
no_rule_says : (core : CoreData) (ann : Ann) (x : Node) (m : Masks) → Formed core → first_note core ann x m (rules_for x.kind) ≡ None → (r : Rule) → says core ann x m r x.kind ≡ None
no_rule_says core ann x m formed e r =
    is_none (says core ann x m r x.kind) (λ q s.
    let is = is_rule_at core ann x m r x.kind q formed (by_number core ann x m r x.kind q s) in
    let has = rule_among core ann x x.kind in
    none-some q (sym (each_none core ann x m (rules_for x.kind) e has.0 r (has.1 ∙ ap Some (sym is))) ∙ s))

-- ---- whatever the type of the slot

-- If a rule applies to a definition without a written type, its slot has the type that follows.
type_follows : (core : CoreData) (a : Ann) (slots : List (ℕ × Cap)) (x : Node) (m : Masks) (r : Rule) (s : ℕ) (f : Method) (y : Slot) (q : Said) → x.kind ≡ node.Define s → slice_get core.methods x.method ≡ Some f → slice_get core.slots (f.first_slot + s) ≡ Some y → y.written ≡ None → says core (record { slots = slots; notes = a.notes }) x m r x.kind ≡ Some q → (ty : ℕ × Cap) × (inferred_slot core a x x.kind ≡ Some (f.first_slot + s, ty)) × (slice_get slots (f.first_slot + s) ≡ Some ty)
type_follows core a slots x m r s f y q k g h w e =
    let d = define_inv core (record { slots = slots; notes = a.notes }) x s m q (define_rule core (record { slots = slots; notes = a.notes }) x m r s q (by_number core (record { slots = slots; notes = a.notes }) x m r (node.Define s) q (subst (λ (j : NodeKind). says core (record { slots = slots; notes = a.notes }) x m r j ≡ Some q) k e))) in
    let p = slot_parts core (record { slots = slots; notes = a.notes }) x.method s d.slot d.is_slot f g in
    let is : d.slot.0 ≡ y = same_Some d.slot.0 y (sym p.0 ∙ h) in
    let v = d.value in
    let ty : d.slot.1 ≡ (v.0, stored v.1) = d.ty ∙ ap (λ (z : Slot). defined_type z.written v) is ∙ ap (λ o. defined_type o v) w in (
      (v.0, stored v.1),
      ap (inferred_slot core a x) k ∙ slot_follows core a x s f y d.child v g h w d.is_child d.is_value,
      p.1 ∙ ap Some ty,
    )

this_clash : {s : ℕ} → node.This ≡ node.Define s → ⊥
this_clash e = cc e

-- With any other type a rule concludes nothing that it does not conclude with the type that follows.
module _ (core : CoreData) (a : Ann) (n : ℕ) (x : Node) (formed : Formed core) (g : slice_get core.nodes n ≡ Some x) (count : length a.slots ≡ length core.slots) where
  kind_clash : (s i : ℕ) → UsesSlot s x.kind → x.kind ≡ node.Define i → ⊥
  kind_clash s i u e = subst (UsesSlot s) e u

  written_kept : (k : ℕ) (y : Slot) (ty : ℕ × Cap) → slice_get core.slots k ≡ Some y → y.written ≡ Some ty → Infers core x k → ⊥
  written_kept k y ty h w i = none-some ty (sym i.7 ∙ ap (λ (z : Slot). z.written) (same_Some i.2 y (sym i.6 ∙ h)) ∙ w)

  defined_kept : (slots : List (ℕ × Cap)) (m : Masks) (r : Rule) (s : ℕ) (f : Method) (y : Slot) (q : Said) (w : Option (ℕ × Cap)) (o : Option (ℕ × (ℕ × Cap))) → inferred_slot core a x x.kind ≡ o → DifferAt core x (with_inferred_slot a o).slots slots → says core (record { slots = slots; notes = a.notes }) x m r x.kind ≡ Some q → x.kind ≡ node.Define s → slice_get core.methods x.method ≡ Some f → slice_get core.slots (f.first_slot + s) ≡ Some y → y.written ≡ w → slice_get slots (f.first_slot + s) ≡ slice_get (with_inferred_slot a o).slots (f.first_slot + s)
  defined_kept slots m r s f y q (Some ty) o i d e k gf h w = d.1 (f.first_slot + s) (written_kept (f.first_slot + s) y ty h w)
  defined_kept slots m r s f y q None None i d e k gf h w =
      let t = type_follows core a slots x m r s f y q k gf h w e in
      absurd (none-some _ (sym i ∙ t.1))
  defined_kept slots m r s f y q None (Some p) i d e k gf h w =
      let t = type_follows core a slots x m r s f y q k gf h w e in
      let is : p ≡ (f.first_slot + s, t.0) = same_Some p (f.first_slot + s, t.0) (sym i ∙ t.1) in
      let low = get_below core.slots (f.first_slot + s) y h in
      let within : f.first_slot + s < length a.slots = omega (arith, low, count) in
      t.2 ∙ sym (get_set_same a.slots (f.first_slot + s) t.0 within) ∙ ap (λ (z : ℕ × (ℕ × Cap)). slice_get (slice_set a.slots z.0 z.1) (f.first_slot + s)) (sym is)

  slots_kept : (slots : List (ℕ × Cap)) (m : Masks) (r : Rule) (q : Said) (o : Option (ℕ × (ℕ × Cap))) (s : ℕ) (f : Method) → inferred_slot core a x x.kind ≡ o → DifferAt core x (with_inferred_slot a o).slots slots → says core (record { slots = slots; notes = a.notes }) x m r x.kind ≡ Some q → looked_at x.kind ≡ Some s → slice_get core.methods x.method ≡ Some f → slice_get slots (f.first_slot + s) ≡ slice_get (with_inferred_slot a o).slots (f.first_slot + s)
  slots_kept slots m r q o s f i d e look gf =
      elim (looked_kind x.kind s look) [
        | inl this ↦ d.1 (f.first_slot + s) (λ inf. this_clash (sym this.0 ∙ inf.3))
        | inr other ↦ elim other [
          | inl used ↦ d.1 (f.first_slot + s) (λ inf. kind_clash s inf.0 used inf.3)
          | inr def ↦ let names = subst (NamesFit core x.method) def (formed.nodes n x g).names in
              let is : names.0 ≡ f = same_Some names.0 f (sym names.2 ∙ gf) in
              let h : slice_get core.slots (f.first_slot + s) ≡ Some names.1 = subst (λ (z : Method). slice_get core.slots (z.first_slot + s) ≡ Some names.1) is names.4 in
              defined_kept slots m r s f names.1 q names.1.written o i d e def gf h refl
        ]
      ]

  none_with : (slots : List (ℕ × Cap)) (m : Masks) (r : Rule) (o : Option (ℕ × (ℕ × Cap))) → inferred_slot core a x x.kind ≡ o → says core (with_inferred_slot a o) x m r x.kind ≡ None → DifferAt core x (with_inferred_slot a o).slots slots → says core (record { slots = slots; notes = a.notes }) x m r x.kind ≡ None
  none_with slots m r o i none d = is_none (says core (record { slots = slots; notes = a.notes }) x m r x.kind) (λ q e.
      let looks : LooksAlike core (record { slots = slots; notes = a.notes }) (with_inferred_slot a o) x.method x.kind = λ s look. slot_same (record { slots = slots; notes = a.notes }) (with_inferred_slot a o) core x.method s (λ f gf. slots_kept slots m r q o s f i d e look gf) in
      none-some q (sym none ∙ sym (says_same core (record { slots = slots; notes = a.notes }) (with_inferred_slot a o) x (λ j c h. ap (λ ts. slice_get ts c) (sym (with_notes a o))) r x.kind m looks) ∙ e))

-- ---- the result of the walk

-- At a node, with its slot's type: what came before, and the masks.
pub ready : (core : CoreData) (sources : List Source) (a b : Ann) (n : ℕ) (x : Node) (s : Source) (m : Masks) → Formed core → Sourced core sources → Walked core a n → slice_get core.nodes n ≡ Some x → slice_get sources n ≡ Some s → m ≡ masks_from core a s → b ≡ with_inferred core a x → Walked core b n × StartsFrom core b n m
ready core sources a b n x s m formed sourced w g e me be =
    let r = subst (StartsFrom core a n) (sym me) (reached core a n s w.notes (sourced.1 n s e)) in
    subst (λ (z : Ann). Walked core z n × StartsFrom core z n m) (sym be) (walked_infer core a n x formed g w, reaches_infer core a n x m r)

stop_at : (core : CoreData) (a : Ann) (n : ℕ) (x : Node) (m : Masks) → Formed core → DeclOk core → length a.slots ≡ length core.slots → slice_get core.nodes n ≡ Some x → Walked core (with_inferred core a x) n → StartsFrom core (with_inferred core a x) n m → first_note core (with_inferred core a x) x m (rules_for x.kind) ≡ None → StopsAt core n m (with_inferred core a x)
stop_at core a n x m formed ok count g w r e = (
  no_rule_to core formed (with_inferred core a x) n (record {
    declarations = ok;
    slots = w.slots;
    written = w.written;
    before = w.before;
    sets = w.sets;
    at = x;
    is_at = g;
    masks = m;
    reaches = r;
    none = λ k slots d. subst (λ ts. says core (record { slots = slots; notes = ts }) x m k x.kind ≡ None) (sym (with_notes a (inferred_slot core a x x.kind)))
        (none_with core a n x formed g count slots m k (inferred_slot core a x x.kind) refl (no_rule_says core (with_inferred core a x) x m formed e k) d);
  }),
  refl,
  w.notes,
)

pub stops : (core : CoreData) (a b : Ann) (n : ℕ) (x : Node) (m : Masks) → Formed core → DeclOk core → Walked core a n → slice_get core.nodes n ≡ Some x → b ≡ with_inferred core a x → Walked core b n × StartsFrom core b n m → first_note core b x m (rules_for x.kind) ≡ None → StopsAt core n m b
stops core a b n x m formed ok w g be h e =
    subst (StopsAt core n m) (sym be)
    (stop_at core a n x m formed ok w.slots g (subst (λ (z : Ann). Walked core z n) be h.0) (subst (λ (z : Ann). StartsFrom core z n m) be h.1) (subst (λ (z : Ann). first_note core z x m (rules_for x.kind) ≡ None) be e))

-- ---- a field that is not set

this_body : (k : NodeKind) → is_body k ≡ true → k ≡ node.Body
this_body node.Body e = refl
this_body k e = absurd (false_true e)

lacks_inv : (core : CoreData) (o : Option Method) (f : Method) (t : Note) → o ≡ Some f → lacks_field core o t.set_after ≡ true → (constructs f.kind ≡ true) × (full core f.entity t.set_after ≡ false)
lacks_inv core None f t g e = absurd (none-some f g)
lacks_inv core (Some h) f t g e =
    subst (λ (z : Method). (constructs z.kind ≡ true) × (full core z.entity t.set_after ≡ false)) (same_Some h f g)
    (let p = and_parts (constructs h.kind) (not (full core h.entity t.set_after)) e in (p.0, not-true (full core h.entity t.set_after) p.1))

pub leaves : (core : CoreData) (b : Ann) (n : ℕ) (x : Node) (t : Note) → Formed core → DeclOk core → slice_get core.nodes n ≡ Some x → Walked core b n → IsSaid core b x t → StartsFrom core b n (before t) → leaves_unset core x t ≡ true → InferenceLeavesUnset core x.method (noted b t)
leaves core b n x t formed ok g w meets r e =
    let p = and_parts (is_body x.kind) (lacks_field core (slice_get core.methods x.method) t.set_after) e in
    let h = home core n formed (get_below core.nodes n x g) in
    let own = home_method core n x h g in
    let at = home_body core n x h g (this_body x.kind p.0) in
    let is : slice_get core.methods x.method ≡ Some h.method = ap (slice_get core.methods) own ∙ h.is_method in
    let l = lacks_inv core (slice_get core.methods x.method) h.method t is p.1 in
    let body : h.method.body ≡ Some n = h.is_body ∙ ap Some (sym at) in (
      unset_to core formed (noted b t) x.method (record {
        declarations = ok;
        slots = w.slots;
        written = w.written;
        method = h.method;
        is_method = is;
        constructor = l.0;
        body = n;
        is_body = body;
        before = meets_noted core b n x t formed g w meets r;
        note = t;
        is_note = note_here b t n w.notes;
        lacks = l.1;
        sets = λ k f i below. sets_noted core b n t w k f i (λ c ce. earlier_body core k x.method c n f h.method formed below i is ce body);
      }),
      let count = w.notes in omega (arith, count, length-append b.notes (t ∷ [])),
    )
