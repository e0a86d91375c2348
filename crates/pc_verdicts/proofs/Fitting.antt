-- What rules state is small enough for a derivation's text: entities are below 2^32, and masks below 2^64.
use Rattle.std.proofs.{Common.{◌≡◌, ◌<◌, ◌≤◌, ◌+◌, ◌-◌, ◌^◌, ℕ, zero, suc, min, Bool, true, false, ◌&&◌, List, [], ◌∷◌, ◌++◌, map, length, Option, Some, None, inl, inr, refl, sym, ap, ◌∙◌, subst, arith, if◌then◌else◌}, lemmas.Bool.{cases_lt, ltb-true}, lemmas.Nat.{and_le_l, or_lt, pow_below}, lemmas.Option.{none-some, same_Some}}
use Rattle.std.specs.{Prelude.{bit_or, nat_lt, slice_get, slice_set}, List.AllByRecursion}
use Rattle.pc_ann.specs.{declared.annotation.Ann.Ann, declared.annotation.Note.Note, declared.annotation.Rule.Rule}
use Rattle.pc_ann.specs.declared.annotation.Rule.TheVariants as rule
use Rattle.pc_caps.specs.{Tables.{plain, stored, taken, unalias, view}, declared.capability.Cap.Cap, declared.capability.Form.Form}
use Rattle.pc_caps.specs.declared.capability.Form.TheVariants as form
use Rattle.pc_check.specs.Inference.{first_note, first_types, inferred_slot, note_of, note_or_else, inferred_slot_type, unwritten, with_inferred, with_inferred_slot, written_type}
use Rattle.pc_core.specs.{CoreData.{CoreData, field_named}, Formed.Formed, Methods.SlotsFit, Entities.{param_slot, this_slot}, Nodes.NamesFit, declared.declarations.EntityDef.EntityDef, declared.declarations.FieldInfo.FieldInfo, declared.declarations.Method.Method, declared.nodes.Node.Node, declared.nodes.NodeKind.NodeKind, declared.nodes.Slot.Slot}
use Rattle.pc_core.specs.declared.nodes.NodeKind.TheVariants as node
use Rattle.pc_deriv.specs.Text.{MaskFits, NoteFits, SlotFits, TypeFits}
use Rattle.pc_base.proofs.{Gets.{append_get, get_below, map_get, range_get}, Options.{bind_some, kept, kept_otherwise}, Ranges.run_around}
use Rattle.pc_base.specs.Lists.{◌>>=◌}
use Rattle.pc_masks.specs.{Masks.{empty, first, has, meet, with_number, without_number}, declared.mask.Mask.Mask}
use Rattle.pc_rules.specs.Calls as call
use Rattle.pc_rules.specs.Control as control
use Rattle.pc_rules.specs.Fields as field
use Rattle.pc_rules.specs.Operators as operator
use Rattle.pc_rules.specs.{Parts.{all_fields, constructs, field_count, last_note, notes_of, one_child, one_note, one_type, says_of, slot_of, starts, three_notes, through_notes, two_notes, two_types}, Rules.{rule_says, says}, Checks.StartsFrom, Checks.StartsFrom.{body as starts_body, else_branch, first_child, next_child}, declared.said.Said.Said}
use Rattle.pc_valid.specs.Words.{Masks, Slots, Ty, masks_after}
use Rattle.pc_rules.specs.Values as value

-- ---- masks

-- Both masks.
abbrev pub BothFit : Masks → Type 0
BothFit m = MaskFits m.0 × MaskFits m.1

empty_fits : MaskFits empty
empty_fits = omega arith

first_fits : (n : ℕ) → MaskFits (first n)
first_fits n = by (min n 64) (let l : min n 64 ≤ 64 = omega arith in l)
  where
    by : (k : ℕ) → k ≤ 64 → 2 ^ k - 1 < 2 ^ 64
    by k l = elim (cases_lt k 64) [
      | inl less ↦ let p = pow_below k 64 less in omega (arith, p)
      | inr more ↦ let same : 64 ≡ k = omega (arith, l, more) in subst (λ j. 2 ^ j - 1 < 2 ^ 64) same (omega arith)
    ]

with_fits : (m : Mask) (i : ℕ) → MaskFits m → MaskFits (with_number m i)
with_fits m i f = by (nat_lt i 64) refl
  where
    by : (b : Bool) → nat_lt i 64 ≡ b → (if b then bit_or m.0 (2 ^ i) else m.0) < 2 ^ 64
    by true e = or_lt 64 m.0 (2 ^ i) f (pow_below i 64 (ltb-true i 64 e))
    by false e = f

without_fits : (m : Mask) (i : ℕ) → MaskFits m → MaskFits (without_number m i)
without_fits m i f = omega (arith, f)

meet_fits : (a b : Mask) → MaskFits a → MaskFits (meet a b)
meet_fits a b f = let l = and_le_l a.0 b.0 in omega (arith, f, l)

both_meet : (a b : Masks) → BothFit a → BothFit (operator.meet_masks a b)
both_meet a b f = (meet_fits a.0 b.0 f.0, meet_fits a.1 b.1 f.1)

-- ---- types and notes

abbrev Small : ℕ → Type 0
Small e = e < 2 ^ 32

type_small : (v : Ty) → TypeFits (Some v) → Small v.0
type_small (e, f) l = l

small_type : (v : Ty) → Small v.0 → TypeFits (Some v)
small_type (e, f) l = l

slot_small : (v : ℕ × Cap) → SlotFits v → Small v.0
slot_small (e, k) l = l

small_slot : (v : ℕ × Cap) → Small v.0 → SlotFits v
small_slot (e, k) l = l

abbrev pub NotesFit : List Note → Type 0
NotesFit ns = AllByRecursion NoteFits ns

abbrev pub SlotsAreSmall : Slots → Type 0
SlotsAreSmall slots = AllByRecursion SlotFits slots

note_at : (ns : List Note) (i : ℕ) (t : Note) → NotesFit ns → slice_get ns i ≡ Some t → NoteFits t
note_at [] i t f e = absurd (none-some t e)
note_at (x ∷ ns) zero t f e = subst NoteFits (same_Some x t e) f.0
note_at (x ∷ ns) (suc i) t f e = note_at ns i t f.1 e

slot_at : (ss : Slots) (i : ℕ) (v : ℕ × Cap) → SlotsAreSmall ss → slice_get ss i ≡ Some v → SlotFits v
slot_at [] i v f e = absurd (none-some v e)
slot_at (x ∷ ss) zero v f e = subst SlotFits (same_Some x v e) f.0
slot_at (x ∷ ss) (suc i) v f e = slot_at ss i v f.1 e

slots_set : (ss : Slots) (i : ℕ) (v : ℕ × Cap) → SlotsAreSmall ss → SlotFits v → SlotsAreSmall (slice_set ss i v)
slots_set [] i v f s = tt
slots_set (x ∷ ss) zero v f s = (s, f.1)
slots_set (x ∷ ss) (suc i) v f s = (f.0, slots_set ss i v f.1 s)

after_fits : (t : Note) → NoteFits t → BothFit (masks_after t)
after_fits t f = f.1.1

-- the notes of some nodes
notes_fit : (notes : List Note) (cs : List ℕ) (ns : List Note) → NotesFit notes → notes_of notes cs ≡ Some ns → NotesFit ns
notes_fit notes [] ns f e = subst NotesFit (same_Some [] ns e) tt
notes_fit notes (c ∷ cs) ns f e =
    let a = bind_some (slice_get notes c) _ ns e in
    let b = bind_some (notes_of notes cs) (λ ts. Some (a.0 ∷ ts)) ns a.2 in
    subst NotesFit (same_Some (a.0 ∷ b.0) ns b.2) (note_at notes c a.0 f a.1, notes_fit notes cs b.0 f b.1)

through_fits : (ns : List Note) (m n : Masks) → NotesFit ns → BothFit m → through_notes ns m ≡ Some n → BothFit n
through_fits [] m n f b e = subst BothFit (same_Some m n e) b
through_fits (t ∷ ts) m n f b e = through_fits ts (masks_after t) n f.1 (after_fits t f.0) (kept (starts t m) (through_notes ts (masks_after t)) n e).1

one_fits : (ns : List Note) (t : Note) → NotesFit ns → one_note ns ≡ Some t → NoteFits t
one_fits [] t f e = absurd (none-some t e)
one_fits (a ∷ []) t f e = subst NoteFits (same_Some a t e) f.0
one_fits (a ∷ b ∷ ns) t f e = absurd (none-some t e)

two_fit : (ns : List Note) (c : Note × Note) → NotesFit ns → two_notes ns ≡ Some c → NoteFits c.0 × NoteFits c.1
two_fit [] c f e = absurd (none-some c e)
two_fit (a ∷ []) c f e = absurd (none-some c e)
two_fit (a ∷ b ∷ []) c f e = subst (λ (d : Note × Note). NoteFits d.0 × NoteFits d.1) (same_Some (a, b) c e) (f.0, f.1.0)
two_fit (a ∷ b ∷ d ∷ ns) c f e = absurd (none-some c e)

three_fit : (ns : List Note) (c : Note × Note × Note) → NotesFit ns → three_notes ns ≡ Some c → NoteFits c.0 × (NoteFits c.1 × NoteFits c.2)
three_fit [] c f e = absurd (none-some c e)
three_fit (a ∷ []) c f e = absurd (none-some c e)
three_fit (a ∷ b ∷ []) c f e = absurd (none-some c e)
three_fit (a ∷ b ∷ d ∷ []) c f e = subst (λ (x : Note × Note × Note). NoteFits x.0 × (NoteFits x.1 × NoteFits x.2)) (same_Some (a, b, d) c e) (f.0, (f.1.0, f.1.1.0))
three_fit (a ∷ b ∷ d ∷ g ∷ ns) c f e = absurd (none-some c e)

typed_small : (t : Note) (v : Ty) → NoteFits t → t.ty ≡ Some v → Small v.0
typed_small t v f e = type_small v (subst TypeFits e f.0)

one_small : (ns : List Note) (v : Ty) → NotesFit ns → one_type ns ≡ Some v → Small v.0
one_small ns v f e = let a = bind_some (one_note ns) (λ t. t.ty) v e in typed_small a.0 v (one_fits ns a.0 f a.1) a.2

-- ---- what a rule states

abbrev pub SaidFits : Said → Type 0
SaidFits q = TypeFits q.ty × BothFit (q.live, q.set)

said : (ty : Option Ty) (n : Masks) (q : Said) → TypeFits ty → BothFit n → Some (says_of ty n) ≡ Some q → SaidFits q
said ty n q f b e = subst SaidFits (same_Some (says_of ty n) q e) (f, b)

-- the value of an entity, as `val`
val_said : (e : ℕ) (n : Masks) (q : Said) → Small e → BothFit n → Some (says_of (Some (e, form.Val)) n) ≡ Some q → SaidFits q
val_said e n q l b is = said (Some (e, form.Val)) n q (small_type (e, form.Val) l) b is

module _ (core : CoreData) (formed : Formed core) where
  entity_small : (e : ℕ) (x : EntityDef) → slice_get core.entities e ≡ Some x → Small e
  entity_small e x g = let low = get_below core.entities e x g in let few = formed.few_entities in omega (arith, low, few)

  own_small : (m : ℕ) (f : Method) → slice_get core.methods m ≡ Some f → Small f.entity
  own_small m f g = let fits = formed.methods m f g in entity_small f.entity fits.owner fits.is_owner

  result_small : (m : ℕ) (f : Method) → slice_get core.methods m ≡ Some f → Small f.result.0
  result_small m f g = let low = (formed.methods m f g).result in let few = formed.few_entities in omega (arith, low, few)

  field_small : (e name : ℕ) (f : ℕ × FieldInfo) → field.field_of core e name ≡ Some f → Small f.1.entity
  field_small e name f is =
      let a = bind_some (field_named core e name) _ f is in
      let b = bind_some (slice_get core.entities e) _ f a.2 in
      let c = bind_some (slice_get b.0.fields a.0) (λ (y : FieldInfo). Some (a.0, y)) f b.2 in
      let low = ((formed.entities e b.0 b.1).fields a.0 c.0 c.1).1 in
      let few = formed.few_entities in
      subst (λ (g : ℕ × FieldInfo). Small g.1.entity) (same_Some (a.0, c.0) f c.2) (omega (arith, low, few))

  own_field_small : (x : Node) (name : ℕ) (f : ℕ × FieldInfo) → field.own_field core x name ≡ Some f → Small f.1.entity
  own_field_small x name f is = let a = bind_some (slice_get core.methods x.method) _ f is in field_small a.0.entity name f a.2

  slot_of_small : (slots : Slots) (m s : ℕ) (i : Slot × (ℕ × Cap)) → SlotsAreSmall slots → slot_of core slots m s ≡ Some i → Small i.1.0
  slot_of_small slots m s i f is =
      let a = bind_some (slice_get core.methods m) _ i is in
      let b = bind_some (slice_get core.slots (a.0.first_slot + s)) _ i a.2 in
      let c = bind_some (slice_get slots (a.0.first_slot + s)) (λ (ty : ℕ × Cap). Some (b.0, ty)) i b.2 in
      subst (λ (j : Slot × (ℕ × Cap)). Small j.1.0) (same_Some (b.0, c.0) i c.2) (slot_small c.0 (slot_at slots (a.0.first_slot + s) c.0 f c.1))

  small_same : (a b : Ty) → a ≡ b → Small a.0 → Small b.0
  small_same a b e l = subst (λ (v : Ty). Small v.0) e l

  small_field : (a b : FieldInfo) → a ≡ b → Small a.entity → Small b.entity
  small_field a b e l = subst (λ (y : FieldInfo). Small y.entity) e l

  -- ---- rule by rule

  module _ (slots : Slots) (ns : List Note) (x : Node) (m : Masks) (q : Said) (small : SlotsAreSmall slots) (notes : NotesFit ns) (masks : BothFit m) where
    literal : (e : ℕ) → Small e → value.literal_says e m ≡ Some q → SaidFits q
    literal e l is = val_said e m q l masks is

    this : value.this_says core slots x m ≡ Some q → SaidFits q
    this is =
        let a = bind_some (slice_get core.methods x.method) _ q is in
        let b = bind_some (slot_of core slots x.method 0) _ q a.2 in
        said (Some (a.0.entity, value.this_form core x a.0.entity b.0 m.1)) m q (small_type (a.0.entity, value.this_form core x a.0.entity b.0 m.1) (own_small x.method a.0 a.1)) masks b.2

    used_small : (s : ℕ) (i : ℕ × Cap) → value.used core slots x s m.0 ≡ Some i → Small i.0
    used_small s i is =
        let a = bind_some (slot_of core slots x.method s) _ i is in
        let k = kept _ (Some a.0.1) i a.2 in
        subst (λ (j : ℕ × Cap). Small j.0) (same_Some a.0.1 i k.1) (slot_of_small slots x.method s a.0 small a.1)

    local : (s : ℕ) → value.local_says core slots x s m ≡ Some q → SaidFits q
    local s is = let a = bind_some (value.used core slots x s m.0) _ q is in said (Some (a.0.0, plain a.0.1)) m q (small_type (a.0.0, plain a.0.1) (used_small s a.0 a.1)) masks a.2

    consume : (s : ℕ) → value.consume_says core slots x s m ≡ Some q → SaidFits q
    consume s is =
        let a = bind_some (value.used core slots x s m.0) _ q is in
        said (Some (a.0.0, unalias a.0.1)) (without_number m.0 s, m.1) q (small_type (a.0.0, unalias a.0.1) (used_small s a.0 a.1)) (without_fits m.0 s masks.0, masks.1) a.2

    define : (s : ℕ) → value.define_says core slots ns x s m ≡ Some q → SaidFits q
    define s is =
        let a = bind_some (one_type ns) _ q is in
        let b = bind_some (slot_of core slots x.method s) _ q a.2 in
        let k = kept (value.defines core b.0 a.0) (value.defined ns s m) q b.2 in
        let n = bind_some (through_notes ns m) _ q k.1 in
        let f = through_fits ns m n.0 notes masks n.1 in
        said None (with_number n.0.0 s, n.0.1) q tt (with_fits n.0.0 s f.0, f.1) n.2

    old_fits : (s : ℕ) (i : ℕ × Cap) (l : Mask) → Small i.0 → TypeFits (value.old_value s i l)
    old_fits s i l e = by (has l s)
      where
        by : (b : Bool) → TypeFits (if b then Some (i.0, unalias i.1) else None)
        by true = small_type (i.0, unalias i.1) e
        by false = tt

    assign : (s : ℕ) → value.assign_says core slots ns x s m ≡ Some q → SaidFits q
    assign s is =
        let a = bind_some (one_type ns) _ q is in
        let b = bind_some (slot_of core slots x.method s) _ q a.2 in
        let k = kept (value.assigns core x b.0 a.0) (value.assigned ns s b.0.1 m) q b.2 in
        let n = bind_some (through_notes ns m) _ q k.1 in
        let f = through_fits ns m n.0 notes masks n.1 in
        said (value.old_value s b.0.1 n.0.0) (with_number n.0.0 s, n.0.1) q (old_fits s b.0.1 n.0.0 (slot_of_small slots x.method s b.0 small b.1)) (with_fits n.0.0 s f.0, f.1) n.2

    read : (name : ℕ) → field.get_says core ns x name m ≡ Some q → SaidFits q
    read name is =
        let k = kept_otherwise (field.incomplete core ns x) (field.read_says core ns name m) q is in
        let o = bind_some (one_type ns) _ q k.1 in
        let ty = bind_some (field.field_type core o.0 name) _ q o.2 in
        let n = bind_some (through_notes ns m) _ q ty.2 in
        let f = bind_some (field.field_of core o.0.0 name) _ ty.0 ty.1 in
        let seen = bind_some (view o.0.1 f.0.1.cap) (λ (s : Form). Some (f.0.1.entity, s)) ty.0 f.2 in
        let low = subst (λ (v : Ty). Small v.0) (same_Some (f.0.1.entity, seen.0) ty.0 seen.2) (field_small o.0.0 name f.0 f.1) in
        said (Some ty.0) n.0 q (small_type ty.0 low) (through_fits ns m n.0 notes masks n.1) n.2

    read_own : (name : ℕ) → field.getown_says core ns x name m ≡ Some q → SaidFits q
    read_own name is =
        let k = kept (field.incomplete core ns x) (field.own_read_says core ns x name m) q is in
        let f = bind_some (field.own_field core x name) _ q k.1 in
        let seen =
        bind_some (view form.Ref f.0.1.cap) (λ (v : Form). through_notes ns m >>= (λ (n : Masks). if has n.1 f.0.0 then Some (says_of (Some (f.0.1.entity, v)) n) else None)) q f.2
        in
        let n = bind_some (through_notes ns m) (λ (n : Masks). if has n.1 f.0.0 then Some (says_of (Some (f.0.1.entity, seen.0)) n) else None) q seen.2 in
        let j = kept (has n.0.1 f.0.0) (Some (says_of (Some (f.0.1.entity, seen.0)) n.0)) q n.2 in
        said (Some (f.0.1.entity, seen.0)) n.0 q (small_type (f.0.1.entity, seen.0) (own_field_small x name f.0 f.1)) (through_fits ns m n.0 notes masks n.1) j.1

    write : (name : ℕ) → field.put_says core ns x name m ≡ Some q → SaidFits q
    write name is =
        let k = kept_otherwise (field.incomplete core ns x) (field.write_says core ns name m) q is in
        let vs = bind_some (two_types ns) _ q k.1 in
        let ty = bind_some (field.old_type core vs.0.0 vs.0.1 name) _ q vs.2 in
        let n = bind_some (through_notes ns m) _ q ty.2 in
        let w = bind_some (field.written_field core vs.0.0 vs.0.1 name) _ ty.0 ty.1 in
        let old = bind_some (taken vs.0.1.1 w.0.cap) (λ (s : Form). Some (w.0.entity, s)) ty.0 w.2 in
        let f = bind_some (field.field_of core vs.0.1.0 name) _ w.0 w.1 in
        let j = kept (field.writes core vs.0.0 vs.0.1.1 f.0.1) (Some f.0.1) w.0 f.2 in
        let low = small_field f.0.1 w.0 (same_Some f.0.1 w.0 j.1) (field_small vs.0.1.0 name f.0 f.1) in
        said (Some ty.0) n.0 q (small_type ty.0 (small_same (w.0.entity, old.0) ty.0 (same_Some (w.0.entity, old.0) ty.0 old.2) low)) (through_fits ns m n.0 notes masks n.1) n.2

    own_old_fits : (f : ℕ × FieldInfo) (s : Mask) → Small f.1.entity → TypeFits (field.own_old f s)
    own_old_fits f s l = by (taken form.Ref f.1.cap) (has s f.0)
      where
        by : (o : Option Form) (b : Bool) → TypeFits (o >>= λ old. if b then Some (f.1.entity, old) else None)
        by None b = tt
        by (Some old) true = small_type (f.1.entity, old) l
        by (Some old) false = tt

    write_own : (name : ℕ) → field.putown_says core ns x name m ≡ Some q → SaidFits q
    write_own name is =
        let k = kept (field.incomplete core ns x) (field.own_write_says core ns x name m) q is in
        let f = bind_some (field.own_field core x name) _ q k.1 in
        let v = bind_some (field.value_type ns) _ q f.2 in
        let n = bind_some (through_notes ns m) _ q v.2 in
        let j = kept (field.own_writes core v.0 f.0 n.0.1) _ q n.2 in
        let b = through_fits ns m n.0 notes masks n.1 in
        said (field.own_old f.0 n.0.1) (n.0.0, with_number n.0.1 f.0.0) q (own_old_fits f.0 n.0.1 (own_field_small x name f.0 f.1)) (b.0, with_fits n.0.1 f.0.0 b.1) j.1

    make : (k : ℕ) → call.new_says core ns k m ≡ Some q → SaidFits q
    make k is =
        let f = bind_some (slice_get core.methods k) _ q is in
        let n = bind_some (through_notes ns m) _ q f.2 in
        let j = kept (call.arguments_go core ns f.0.params) _ q n.2 in
        said (Some f.0.result) n.0 q (small_type f.0.result (result_small k f.0 f.1)) (through_fits ns m n.0 notes masks n.1) j.1

    spawn : (k : ℕ) → call.spawn_says core ns k m ≡ Some q → SaidFits q
    spawn k is =
        let f = bind_some (slice_get core.methods k) _ q is in
        let n = bind_some (through_notes ns m) _ q f.2 in
        let j = kept (call.arguments_go core ns f.0.params) _ q n.2 in
        said (Some (f.0.entity, form.Tag)) n.0 q (small_type (f.0.entity, form.Tag) (own_small k f.0 f.1)) (through_fits ns m n.0 notes masks n.1) j.1

    call_of : (name : ℕ) → call.call_says core ns name m ≡ Some q → SaidFits q
    call_of name is =
        let i = bind_some (call.called core ns name) _ q is in
        let f = bind_some (slice_get core.methods i.0.1) _ q i.2 in
        let n = bind_some (through_notes ns m) _ q f.2 in
        let j = kept (call.calls core ns i.0.0 f.0) _ q n.2 in
        said (Some f.0.result) n.0 q (small_type f.0.result (result_small i.0.1 f.0 f.1)) (through_fits ns m n.0 notes masks n.1) j.1

    recovered_fits : (r : Ty) → Small r.0 → TypeFits (call.recovered_result r)
    recovered_fits r l = by _
      where
        by : (b : Bool) → TypeFits (if b then Some r else None)
        by true = small_type r l
        by false = tt

    call_lent : (name : ℕ) → call.callrecover_says core ns name m ≡ Some q → SaidFits q
    call_lent name is =
        let i = bind_some (call.called core ns name) _ q is in
        let f = bind_some (slice_get core.methods i.0.1) _ q i.2 in
        let n = bind_some (through_notes ns m) _ q f.2 in
        let j = kept (call.recovers core ns i.0.0 f.0) _ q n.2 in
        said (call.recovered_result f.0.result) n.0 q (recovered_fits f.0.result (result_small i.0.1 f.0 f.1)) (through_fits ns m n.0 notes masks n.1) j.1

    send : (name : ℕ) → call.send_says core ns name m ≡ Some q → SaidFits q
    send name is =
        let i = bind_some (call.called core ns name) _ q is in
        let f = bind_some (slice_get core.methods i.0.1) _ q i.2 in
        let n = bind_some (through_notes ns m) _ q f.2 in
        let j = kept (call.sends core ns f.0) _ q n.2 in
        val_said 0 n.0 q (omega arith) (through_fits ns m n.0 notes masks n.1) j.1

    text_of : (name : ℕ) → call.builtin_says core ns name m ≡ Some q → SaidFits q
    text_of name is =
        let v = bind_some (one_type ns) _ q is in
        let t = bind_some (slice_get core.names name) _ q v.2 in
        let n = bind_some (through_notes ns m) _ q t.2 in
        let j = kept (call.has_string t.0 v.0) _ q n.2 in
        val_said 3 n.0 q (omega arith) (through_fits ns m n.0 notes masks n.1) j.1

    value_of : (e : ℕ) → Small e → operator.value_says e ns m ≡ Some q → SaidFits q
    value_of e l is = let n = bind_some (through_notes ns m) _ q is in val_said e n.0 q l (through_fits ns m n.0 notes masks n.1) n.2

    of_two : (e : ℕ) (test : Ty × Ty → Bool) → Small e → (two_types ns >>= λ vs. if test vs then operator.value_says e ns m else None) ≡ Some q → SaidFits q
    of_two e test l is =
        let vs = bind_some (two_types ns) _ q is in
        value_of e l (kept (test vs.0) (operator.value_says e ns m) q vs.2).1

    negated : operator.not_says ns m ≡ Some q → SaidFits q
    negated is = let v = bind_some (one_type ns) _ q is in value_of 2 (omega arith) (kept _ (operator.value_says 2 ns m) q v.2).1

    compared : operator.identity_says ns m ≡ Some q → SaidFits q
    compared is = let vs = bind_some (two_types ns) _ q is in value_of 2 (omega arith) vs.2

    lazy : operator.lazy_says ns m ≡ Some q → SaidFits q
    lazy is =
        let vs = bind_some (two_types ns) _ q is in
        let n = bind_some (operator.lazy_masks ns m) _ q vs.2 in
        let c = bind_some (two_notes ns) _ n.0 n.1 in
        let j = kept _ (Some (operator.meet_masks (masks_after c.0.0) (masks_after c.0.1))) n.0 c.2 in
        let f = two_fit ns c.0 notes c.1 in
        let b = subst BothFit (same_Some (operator.meet_masks (masks_after c.0.0) (masks_after c.0.1)) n.0 j.1) (both_meet (masks_after c.0.0) (masks_after c.0.1) (after_fits c.0.0 f.0)) in
        let k = kept _ (Some (says_of (Some (2, form.Val)) n.0)) q n.2 in
        val_said 2 n.0 q (omega arith) b k.1

    item_fits : (o : Option Node) (l : Mask) → MaskFits l → MaskFits (control.without_item o l)
    item_fits None l f = f
    item_fits (Some y) l f = by y.kind
      where
        by : (k : NodeKind) → MaskFits (control.without_definition k l)
        by (node.Define s) = without_fits l s f
        by k = f

    items_fit : (cs : List ℕ) (l : Mask) → MaskFits l → MaskFits (control.without_items core cs l)
    items_fit [] l f = f
    items_fit (c ∷ cs) l f = items_fit cs (control.without_item (slice_get core.nodes c) l) (item_fits (slice_get core.nodes c) l f)

    sequence : control.seq_says core ns x m ≡ Some q → SaidFits q
    sequence is =
        let t = bind_some (last_note ns) _ q is in
        let n = bind_some (through_notes ns m) _ q t.2 in
        let b = through_fits ns m n.0 notes masks n.1 in
        said t.0.ty (control.without_items core x.children n.0.0, n.0.1) q (note_at ns (length ns - 1) t.0 notes t.1).0 (items_fit x.children n.0.0 b.0, b.1) n.2

    joined_fits : (a b : Option Ty) → TypeFits a → TypeFits b → TypeFits (control.joined core a b)
    joined_fits None b f g = tt
    joined_fits (Some u) None f g = tt
    joined_fits (Some u) (Some v) f g = by _ _
      where
        by : (s t : Bool) → TypeFits (if s then Some v else (if t then Some u else None))
        by true t = g
        by false true = f
        by false false = tt

    branches : control.if_says core ns m ≡ Some q → SaidFits q
    branches is =
        let c = bind_some (three_notes ns) _ q is in
        let n = bind_some (control.branch_masks c.0 m) _ q c.2 in
        let f = three_fit ns c.0 notes c.1 in
        let j = kept _ (Some (operator.meet_masks (masks_after c.0.1) (masks_after c.0.2))) n.0 n.1 in
        let b = subst BothFit (same_Some (operator.meet_masks (masks_after c.0.1) (masks_after c.0.2)) n.0 j.1) (both_meet (masks_after c.0.1) (masks_after c.0.2) (after_fits c.0.1 f.1.0)) in
        let k = kept (control.is_condition c.0.0.ty) _ q n.2 in
        said (control.joined core c.0.1.ty c.0.2.ty) n.0 q (joined_fits c.0.1.ty c.0.2.ty f.1.0.0 f.1.1.0) b k.1

    loop : control.while_says ns m ≡ Some q → SaidFits q
    loop is =
        let c = bind_some (two_notes ns) _ q is in
        let n = bind_some (control.loop_masks c.0 m) _ q c.2 in
        let f = two_fit ns c.0 notes c.1 in
        let j = kept _ (Some (masks_after c.0.0)) n.0 n.1 in
        let b = subst BothFit (same_Some (masks_after c.0.0) n.0 j.1) (after_fits c.0.0 f.0) in
        let k = kept (control.is_condition c.0.0.ty) _ q n.2 in
        val_said 0 n.0 q (omega arith) b k.1

    lifted : (k : Option Cap) → control.recover_says ns k m ≡ Some q → SaidFits q
    lifted k is =
        let v = bind_some (one_type ns) _ q is in
        let f = bind_some (control.recovered k v.0.1) _ q v.2 in
        let n = bind_some (through_notes ns m) _ q f.2 in
        said (Some (v.0.0, f.0)) n.0 q (small_type (v.0.0, f.0) (one_small ns v.0 notes v.1)) (through_fits ns m n.0 notes masks n.1) n.2

    body : control.body_says core ns x m ≡ Some q → SaidFits q
    body is =
        let f = bind_some (slice_get core.methods x.method) _ q is in
        let t = bind_some (one_note ns) _ q f.2 in
        let n = bind_some (through_notes ns m) _ q t.2 in
        let j = kept _ (Some (says_of None n.0)) q n.2 in
        said None n.0 q tt (through_fits ns m n.0 notes masks n.1) j.1

    prim_small : (e : ℕ) → NamesFit core x.method (node.Prim e) → Small e
    prim_small e (inl none) = let z = none in omega (arith, z)
    prim_small e (inr h) = entity_small e h.1.0 h.1.1

    pub rule_fits : (r : Rule) (k : NodeKind) → NamesFit core x.method k → rule_says core slots ns x m r k ≡ Some q → SaidFits q
    rule_fits rule.Number (node.Number v) h is = literal 1 (omega arith) is
    rule_fits rule.Truth (node.Truth v) h is = literal 2 (omega arith) is
    rule_fits rule.Text (node.Text v) h is = literal 3 (omega arith) is
    rule_fits rule.Prim (node.Prim e) h is = literal e (prim_small e h) is
    rule_fits rule.This node.This h is = this is
    rule_fits rule.Local (node.Local s) h is = local s is
    rule_fits rule.Consume (node.Consume s) h is = consume s is
    rule_fits rule.Get (node.Field name) h is = read name is
    rule_fits rule.GetOwn (node.Field name) h is = read_own name is
    rule_fits rule.Put (node.SetField name) h is = write name is
    rule_fits rule.PutOwn (node.SetField name) h is = write_own name is
    rule_fits rule.Define (node.Define s) h is = define s is
    rule_fits rule.Assign (node.Assign s) h is = assign s is
    rule_fits rule.New (node.New k) h is = make k is
    rule_fits rule.Spawn (node.Spawn k) h is = spawn k is
    rule_fits rule.Call (node.Call name) h is = call_of name is
    rule_fits rule.CallRecover (node.Call name) h is = call_lent name is
    rule_fits rule.Send (node.Call name) h is = send name is
    rule_fits rule.Builtin (node.Call name) h is = text_of name is
    rule_fits rule.Arith (node.Binary o) h is = of_two 1 (λ vs. operator.is_arithmetic o && operator.both_read_as 1 vs) (omega arith) is
    rule_fits rule.Compare (node.Binary o) h is = of_two 2 (λ vs. operator.is_comparison o && operator.both_read_as 1 vs) (omega arith) is
    rule_fits rule.Equal (node.Binary o) h is = of_two 2 (λ vs. operator.is_equality o && operator.comparable vs) (omega arith) is
    rule_fits rule.Join (node.Binary o) h is = of_two 3 (λ vs. operator.is_add o && operator.both_read_as 3 vs) (omega arith) is
    rule_fits rule.Logic (node.Binary o) h is = of_two 2 (λ vs. operator.is_xor o && operator.both_read_as 2 vs) (omega arith) is
    rule_fits rule.Logic node.Not h is = negated is
    rule_fits rule.Lazy node.And h is = lazy is
    rule_fits rule.Lazy node.Or h is = lazy is
    rule_fits rule.Identity (node.Same v) h is = compared is
    rule_fits rule.Seq node.Seq h is = sequence is
    rule_fits rule.If node.If h is = branches is
    rule_fits rule.While node.While h is = loop is
    rule_fits rule.Recover (node.Recover k) h is = lifted k is
    rule_fits rule.Body node.Body h is = body is
    rule_fits r k h is = absurd (none-some q is)

  -- ---- what is noted

  says_fits : (ann : Ann) (n : ℕ) (x : Node) (m : Masks) (r : Rule) (q : Said) → slice_get core.nodes n ≡ Some x → SlotsAreSmall ann.slots → NotesFit ann.notes → BothFit m
      → says core ann x m r x.kind ≡ Some q → SaidFits q
  says_fits ann n x m r q g small notes masks is =
      let ns = bind_some (notes_of ann.notes x.children) _ q is in
      rule_fits ann.slots ns.0 x m q small (notes_fit ann.notes x.children ns.0 notes ns.1) masks r x.kind (formed.nodes n x g).names ns.2

  module _ (ann : Ann) (n : ℕ) (x : Node) (m : Masks) (g : slice_get core.nodes n ≡ Some x) (small : SlotsAreSmall ann.slots) (notes : NotesFit ann.notes) (masks : BothFit m) where
    by_rule : (r : Rule) (o : Option Said) (rest : Option Note) (t : Note) → says core ann x m r x.kind ≡ o → (rest ≡ Some t → NoteFits t) → note_or_else r m o rest ≡ Some t → NoteFits t
    by_rule r None rest t is later e = later e
    by_rule r (Some q) rest t is later e =
        let f = says_fits ann n x m r q g small notes masks is in
        subst NoteFits (same_Some (note_of r m q) t e) (f.0, (masks, f.1))

    pub noted_fits : (rs : List Rule) (t : Note) → first_note core ann x m rs ≡ Some t → NoteFits t
    noted_fits [] t e = absurd (none-some t e)
    noted_fits (r ∷ rs) t e = by_rule r (says core ann x m r x.kind) (first_note core ann x m rs) t refl (noted_fits rs t) e

  -- ---- the type of a slot

  value_small : (ann : Ann) (cs : List ℕ) (o : Option (ℕ × Cap)) (v : Ty) → NotesFit ann.notes → unwritten ann cs o ≡ Some v → Small v.0
  value_small ann cs (Some ty) v f e = absurd (none-some v e)
  value_small ann cs None v f e =
      let c = bind_some (one_child cs) _ v e in
      let t = bind_some (slice_get ann.notes c.0) (λ (y : Note). y.ty) v c.2 in
      typed_small t.0 v (note_at ann.notes c.0 t.0 f t.1) t.2

  slot_type_small : (ann : Ann) (x : Node) (s : ℕ) (i : ℕ × (ℕ × Cap)) → NotesFit ann.notes → inferred_slot_type core ann x s ≡ Some i
      → SlotFits i.1
  slot_type_small ann x s i f e =
      let a = bind_some (slice_get core.methods x.method) _ i e in
      let b = bind_some (slice_get core.slots (a.0.first_slot + s)) _ i a.2 in
      let v = bind_some (unwritten ann x.children b.0.written) _ i b.2 in
      subst (λ (j : ℕ × (ℕ × Cap)). SlotFits j.1) (same_Some (a.0.first_slot + s, (v.0.0, stored v.0.1)) i v.2) (small_slot (v.0.0, stored v.0.1) (value_small ann x.children b.0.written v.0 f v.1))

  inferred_small : (ann : Ann) (x : Node) (k : NodeKind) (i : ℕ × (ℕ × Cap)) → NotesFit ann.notes → inferred_slot core ann x k ≡ Some i → SlotFits i.1
  inferred_small ann x (node.Define s) i f e = slot_type_small ann x s i f e
  inferred_small ann x k i f e = absurd (none-some i e)

  with_small : (ann : Ann) (o : Option (ℕ × (ℕ × Cap))) → SlotsAreSmall ann.slots → ((i : ℕ × (ℕ × Cap)) → o ≡ Some i → SlotFits i.1) → SlotsAreSmall (with_inferred_slot ann o).slots
  with_small ann None s h = s
  with_small ann (Some i) s h = slots_set ann.slots i.0 i.1 s (h i refl)

  pub inferred_slots : (ann : Ann) (x : Node) → SlotsAreSmall ann.slots → NotesFit ann.notes → SlotsAreSmall (with_inferred core ann x).slots
  inferred_slots ann x s f = with_small ann (inferred_slot core ann x x.kind) s (λ i e. inferred_small ann x x.kind i f e)

  -- ---- the masks before a node

  start_fits : (f : Method) → MaskFits (control.start_set core f)
  start_fits f = by (constructs f.kind)
    where
      by : (b : Bool) → MaskFits (if b then empty else all_fields core f.entity)
      by true = empty_fits
      by false = first_fits (field_count core f.entity)

  pub reaches_fit : (ann : Ann) (n : ℕ) (m : Masks) → NotesFit ann.notes → StartsFrom core ann n m → BothFit m
  reaches_fit ann n _ fit (starts_body x f g k e) = (first_fits (1 + length f.params), start_fits f)
  reaches_fit ann n m fit (first_child p x g e r) = reaches_fit ann p m fit r
  reaches_fit ann n _ fit (else_branch p c x t g k e h i) = after_fits t (note_at ann.notes c t fit i)
  reaches_fit ann n _ fit (next_child p c i x t g k e h j) = after_fits t (note_at ann.notes c t fit j)

  -- ---- before the first node

  count_small : (e : ℕ) → e < length core.entities → Small e
  count_small e l = let few = formed.few_entities in omega (arith, l, few)

  module _ (i : ℕ) (x : Method) (g : slice_get core.methods i ≡ Some x) (fit : SlotsFit core i x) (y : Slot) (ty : ℕ × Cap) (is : y.written ≡ Some ty) where
    slot_written : (s : ℕ) → slice_get (this_slot i x ∷ map (param_slot i) x.params ++ fit.0) s ≡ Some y → Small ty.0
    slot_written zero e =
        let own : Some (x.entity, x.receiver) ≡ Some ty = ap (λ (z : Slot). z.written) (same_Some (this_slot i x) y e) ∙ is in
        subst (λ (v : ℕ × Cap). Small v.0) (same_Some (x.entity, x.receiver) ty own) (own_small i x g)
    slot_written (suc j) e =
        elim (append_get (map (param_slot i) x.params) fit.0 j y e) [
          | inl p ↦ let q = map_get (param_slot i) x.params j y p in
              let own : Some (q.0.entity, q.0.cap) ≡ Some ty = ap (λ (z : Slot). z.written) q.2 ∙ is in
              subst (λ (v : ℕ × Cap). Small v.0) (same_Some (q.0.entity, q.0.cap) ty own) (count_small q.0.entity ((formed.methods i x g).params j q.0 q.1))
          | inr l ↦ count_small ty.0 ((fit.2 (j - length (map (param_slot i) x.params)) y l.1).written ty is)
        ]

  written_small : (k : ℕ) (y : Slot) (ty : ℕ × Cap) → slice_get core.slots k ≡ Some y → y.written ≡ Some ty → Small ty.0
  written_small k y ty e is =
      let low = get_below core.slots k y e in
      let run = run_around 0 (map (λ (x : Method). (x.first_slot, x.slots)) core.methods) (length core.slots) k formed.slots_follow (omega arith) low in
      let x = map_get (λ (z : Method). (z.first_slot, z.slots)) core.methods run.0 run.1 run.2 in
      let from : x.0.first_slot ≡ run.1.0 = ap (λ (p : ℕ × ℕ). p.0) x.2 in
      let many : x.0.slots ≡ run.1.1 = ap (λ (p : ℕ × ℕ). p.1) x.2 in
      let first = run.3 in
      let last = run.4 in
      elim (formed.methods run.0 x.0 x.1).slots [
        | inl z ↦ let none : x.0.slots ≡ 0 = ap (λ (w : Method). w.slots) (same_Some x.0 _ (sym (ap (slice_get core.methods) (sym z) ∙ x.1) ∙ formed.built_in.method)) in absurd (omega (arith, none, many, from, first, last))
        | inr fit ↦ slot_written run.0 x.0 x.1 fit y ty is (k - x.0.first_slot)
            (ap (λ zs. slice_get zs (k - x.0.first_slot)) (sym fit.1) ∙ range_get core.slots x.0.first_slot (x.0.first_slot + x.0.slots) k y (omega (arith, from, first)) (omega (arith, from, many, last)) e)
      ]

  first_small : (o : Option (ℕ × Cap)) → ((ty : ℕ × Cap) → o ≡ Some ty → Small ty.0) → SlotFits (written_type o)
  first_small None h = omega arith
  first_small (Some ty) h = small_slot ty (h ty refl)

  types_small : (ys : List Slot) → ((k : ℕ) (y : Slot) (ty : ℕ × Cap) → slice_get ys k ≡ Some y → y.written ≡ Some ty → Small ty.0) → SlotsAreSmall (map (λ (y : Slot). written_type y.written) ys)
  types_small [] h = tt
  types_small (y ∷ ys) h = (first_small y.written (λ ty is. h 0 y ty refl is), types_small ys (λ k z ty e is. h (suc k) z ty e is))

  pub first_slots : SlotsAreSmall (first_types core)
  first_slots = types_small core.slots written_small
