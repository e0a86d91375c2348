-- The vocabulary of the rules as relations, and how it is computed.
use Rattle.std.specs.{Prelude.{◌≡◌, ◌↔◌, ℕ, zero, suc, ◌+◌, ◌-◌, ◌<◌, ◌≤◌, Bool, true, false, cond, List, [], ◌∷◌, ◌++◌, length, map, Option, Some, None, slice_get, bit_and, min, refl}, Int.bit_at}
use Rattle.std.proofs.{Common.{inl, inr, ap, sym, subst, ◌∙◌, arith}, lemmas.Option.{same_Some, none-some}, lemmas.Bool.{and_parts, and_from, eqb-true}, lemmas.Nat.Bits.{bit_at_and, same_from_bits}}
use Rattle.pc_caps.specs.{Computed.{is_below, fits}, Closure.below_iff, Tables.{unalias, lift, taken, at}, declared.capability.Cap.Cap, declared.capability.Form.Form}
use Rattle.pc_caps.specs.declared.capability.Form.TheVariants as form
use Rattle.pc_core.specs.{declared.declarations.EntityDef.EntityDef, declared.declarations.FieldInfo.FieldInfo, declared.declarations.Method.Method, declared.declarations.MethodKind.MethodKind, declared.declarations.ParamInfo.ParamInfo, declared.nodes.Slot.Slot, declared.nodes.Node.Node, declared.nodes.NodeKind.NodeKind, CoreData.{CoreData, own_methods, field_named, method_named, IsMethod}, Parts.{field_name, method_name, IsField}, Formed.Formed, Members.{method_among, field_found, field_missed, method_found, method_missed}}
use Rattle.pc_core.specs.declared.declarations.MethodKind.TheVariants as method
use Rattle.pc_core.specs.declared.nodes.NodeKind.TheVariants as node
use Rattle.pc_tree.specs.declared.kinds.Op.{Op}
use Rattle.pc_tree.specs.declared.kinds.Op.TheVariants as op
use Rattle.pc_base.proofs.{Gets.{get_below, get_front, get_append, get_map, range_get}, Options.{bind_some, bind_is, kept}, Bools.false_true}
use Rattle.pc_sub.specs.{Computed.is_sub, Agreement.is_sub_iff}
use Rattle.pc_masks.specs.{declared.mask.Mask.Mask, Masks.{IsInMask, empty, first, within}, MaskLaws.{within_bits, first_bits, without_number_bits}}
use Rattle.pc_ann.specs.declared.annotation.Note.{Note}
use Rattle.pc_rules.specs.{Parts.{constructs, fields_in, field_count, all_fields, full, goes_to, lower, slot_of}, Values.defined_type, Fields.{field_of, own_field}, Operators.{is_arithmetic, is_comparison, is_equality, is_add, is_xor}, Checks.is_else, Control.{without_definition, without_item, without_items, joined, recovered, start_set}}
use Rattle.pc_rules.proofs.Lawful.{items_bits}
use Rattle.pc_rules.proofs.Meaning as mirror
use Rattle.pc_valid.specs.{Valid.{arithmetic, comparisons, equalities, IsOneOf}, Words.{Masks, masks_after, OneAfterOther, Sendable, Defines, Ty, Place, FormFits, IsLower, GoesTo, ReadsValue, Joined, to_second, to_first, to_none, no_first, no_second, Recovers, as_lifted, as_written, IsConstructor, AllSet, StartsSet, Slots, SlotOf, DefinedAs, FieldOf, Called, Go, Incomplete}}

-- ---- types

pub lower_iff : (core : CoreData) (v w : Ty) → Formed core → (lower core v w ≡ true) ↔ IsLower core v w
lower_iff core v w f = (
  λ e. let k = and_parts (is_sub core v.0 w.0) (is_below v.1 w.1) e in ((is_sub_iff core v.0 w.0 f).0 k.0, (below_iff v.1 w.1).0 k.1),
  λ h. and_from (is_sub core v.0 w.0) (is_below v.1 w.1) ((is_sub_iff core v.0 w.0 f).1 h.0) ((below_iff v.1 w.1).1 h.1),
)

pub fits_iff : (f : Form) (k : Cap) → (fits f k ≡ true) ↔ FormFits f k
fits_iff f k = below_iff f (unalias k)

pub goes_iff : (core : CoreData) (v : Ty) (p : Place) → Formed core → (goes_to core v p ≡ true) ↔ GoesTo core v p
goes_iff core v p f = (
  λ e. let k = and_parts (is_sub core v.0 p.0) (fits v.1 p.1) e in ((is_sub_iff core v.0 p.0 f).0 k.0, (fits_iff v.1 p.1).0 k.1),
  λ h. and_from (is_sub core v.0 p.0) (fits v.1 p.1) ((is_sub_iff core v.0 p.0 f).1 h.0) ((fits_iff v.1 p.1).1 h.1),
)

pub reads_iff : (e : ℕ) (o : Option Ty) → mirror.Reads e o ↔ ReadsValue e o
reads_iff e o = (
  λ r. (r.0.1, r.1 ∙ ap (λ (n : ℕ). Some (n, r.0.1)) r.2, (below_iff r.0.1 form.Box).0 r.3),
  λ r. ((e, r.0), r.1, refl, (below_iff r.0 form.Box).1 r.2),
)

-- ---- a choice by a test

pub choice : {A : Type 0} → (b : Bool) (a c o : A) → o ≡ cond b a c → (b ≡ true → o ≡ a) × ((b ≡ true → ⊥) → o ≡ c)
choice true a c o e = (λ h. e, λ n. absurd (n refl))
choice false a c o e = (λ h. absurd (false_true h), λ n. e)

pub chosen : {A : Type 0} → (b : Bool) (a c o : A) → (b ≡ true → o ≡ a) → ((b ≡ true → ⊥) → o ≡ c) → o ≡ cond b a c
chosen true a c o h n = h refl
chosen false a c o h n = n false_true

-- ---- branches and recover

module _ (core : CoreData) (f : Formed core) where
  picked : (v w : Ty) (o : Option Ty) (p q : Bool) → lower core v w ≡ p → lower core w v ≡ q → o ≡ cond p (Some w) (cond q (Some v) None) → Joined core (Some v) (Some w) o
  picked v w o true q g h e = subst (Joined core (Some v) (Some w)) (sym e) (to_second ((lower_iff core v w f).0 g))
  picked v w o false true g h e = subst (Joined core (Some v) (Some w)) (sym e) (to_first (λ l. false_true (sym g ∙ (lower_iff core v w f).1 l)) ((lower_iff core w v f).0 h))
  picked v w o false false g h e =
      subst (Joined core (Some v) (Some w)) (sym e) (to_none (λ l. false_true (sym g ∙ (lower_iff core v w f).1 l)) (λ l. false_true (sym h ∙ (lower_iff core w v f).1 l)))

  pub joined_to : (a b o : Option Ty) → o ≡ joined core a b → Joined core a b o
  joined_to None b o e = subst (Joined core None b) (sym e) no_first
  joined_to (Some v) None o e = subst (Joined core (Some v) None) (sym e) no_second
  joined_to (Some v) (Some w) o e = picked v w o (lower core v w) (lower core w v) refl refl e

  not_lower : (v w : Ty) → (IsLower core v w → ⊥) → lower core v w ≡ false
  not_lower v w n = tells (lower core v w) refl
    where
      tells : (b : Bool) → lower core v w ≡ b → b ≡ false
      tells true e = absurd (n ((lower_iff core v w f).0 e))
      tells false e = refl

  pub to_joined : (a b o : Option Ty) → Joined core a b o → o ≡ joined core a b
  to_joined a b o (to_second {left = v} {right = w} l) = sym (ap (λ p. cond p (Some w) (cond (lower core w v) (Some v) None)) ((lower_iff core v w f).1 l))
  to_joined a b o (to_first {left = v} {right = w} n l) =
      sym (ap (λ p. cond p (Some w) (cond (lower core w v) (Some v) None)) (not_lower v w n) ∙ ap (λ p. cond p (Some v) None) ((lower_iff core w v f).1 l))
  to_joined a b o (to_none {left = v} {right = w} n m) =
      sym (ap (λ p. cond p (Some w) (cond (lower core w v) (Some v) None)) (not_lower v w n) ∙ ap (λ p. cond p (Some v) None) (not_lower w v m))
  to_joined a b o no_first = refl
  to_joined a b o no_second = refl

pub recovers_to : (k : Option Cap) (f g : Form) → recovered k f ≡ Some g → Recovers k f g
recovers_to None f g e = subst (Recovers None f) (same_Some (lift f) g e) as_lifted
recovers_to (Some k) f g e =
    let q = kept (fits (lift f) k) (Some (unalias k)) g e in
    subst (Recovers (Some k) f) (same_Some (unalias k) g q.1) (as_written ((fits_iff (lift f) k).0 q.0))

pub to_recovers : (k : Option Cap) (f g : Form) → Recovers k f g → recovered k f ≡ Some g
to_recovers k f g as_lifted = refl
to_recovers k f g (as_written {body = h} {written = j} p) = ap (λ b. cond b (Some (unalias j)) None) ((fits_iff (lift h) j).1 p)

-- ---- constructors and their fields

constructs_is : (k : MethodKind) → constructs k ≡ true → IsConstructor k
constructs_is method.New e = inl refl
constructs_is method.Spawn e = inr refl
constructs_is k e = absurd (false_true e)

pub constructs_iff : (k : MethodKind) → (constructs k ≡ true) ↔ IsConstructor k
constructs_iff k = (constructs_is k, λ h. elim h [ inl e ↦ ap constructs e | inr e ↦ ap constructs e ])

field_in : (core : CoreData) (e : ℕ) (s : Mask) (i : ℕ) (o : Option EntityDef) → slice_get core.entities e ≡ o → AllSet core e s → i < fields_in o → IsInMask s i
field_in core e s i None g h l = absurd (omega (arith, l))
field_in core e s i (Some x) g h l = h x g i l

pub all_set_iff : (core : CoreData) (e : ℕ) (s : Mask) → Formed core → (full core e s ≡ true) ↔ AllSet core e s
all_set_iff core e s f = (
  λ h x g i l.
      let few = (f.entities e x g).few_fields in
      let less : i < field_count core e = subst (λ c. i < c) (sym (ap fields_in g)) l in
      let low : i < 64 = omega (arith, few, l) in
      (within_bits (all_fields core e) s).0 h i ((first_bits (field_count core e) i).1 (less, low)),
  λ h. (within_bits (all_fields core e) s).1 (λ i p. field_in core e s i (slice_get core.entities e) refl h ((first_bits (field_count core e) i).0 p).0),
)

pub starts_to : (core : CoreData) (m : Method) (s : Mask) → s ≡ start_set core m → StartsSet core m s
starts_to core m s e =
    let c = choice (constructs m.kind) empty (all_fields core m.entity) s e in
    (λ k. c.0 ((constructs_iff m.kind).1 k), λ n x g. c.1 (λ h. n ((constructs_iff m.kind).0 h)) ∙ ap (λ (o : Option EntityDef). first (fields_in o)) g)

pub to_starts : (core : CoreData) (n : ℕ) (m : Method) (s : Mask) → Formed core → slice_get core.methods n ≡ Some m → StartsSet core m s → s ≡ start_set core m
to_starts core n m s f g h =
    let fit = f.methods n m g in
    chosen (constructs m.kind) empty (all_fields core m.entity) s (λ k. h.0 ((constructs_iff m.kind).0 k))
    (λ k. h.1 (λ c. k ((constructs_iff m.kind).1 c)) fit.owner fit.is_owner ∙ sym (ap (λ (o : Option EntityDef). first (fields_in o)) fit.is_owner))

-- ---- slots

pub slot_parts : (core : CoreData) (slots : Slots) (x : Node) (s : ℕ) (i : Slot × Place) → slot_of core slots x.method s ≡ Some i
    → (m : Method) × (slice_get core.methods x.method ≡ Some m) × (slice_get core.slots (m.first_slot + s) ≡ Some i.0) × (slice_get slots (m.first_slot + s) ≡ Some i.1)
slot_parts core slots x s i e =
    let m = bind_some (slice_get core.methods x.method) _ i e in
    let y = bind_some (slice_get core.slots (m.0.first_slot + s)) _ i m.2 in
    let t = bind_some (slice_get slots (m.0.first_slot + s)) (λ (ty : Place). Some (y.0, ty)) i y.2 in
    let is : (y.0, t.0) ≡ i = same_Some (y.0, t.0) i t.2 in
    (m.0, m.1, y.1 ∙ ap (λ (q : Slot × Place). Some q.0) is, t.1 ∙ ap (λ (q : Slot × Place). Some q.1) is)

abbrev pub slot_to : (core : CoreData) (slots : Slots) (x : Node) (s : ℕ) (i : Slot × Place) → slot_of core slots x.method s ≡ Some i → SlotOf core slots x s
slot_to core slots x s i e =
    record { home = (slot_parts core slots x s i e).0; is_home = (slot_parts core slots x s i e).1; slot = i.0; is_slot = (slot_parts core slots x s i e).2; entity = i.1.0; cap = i.1.1; holds = (slot_parts core slots x s i e).3 }

pub to_slot : (core : CoreData) (slots : Slots) (x : Node) (s : ℕ) (c : SlotOf core slots x s) → slot_of core slots x.method s ≡ Some (c.slot, (c.entity, c.cap))
to_slot core slots x s c =
    bind_is (slice_get core.methods x.method) _ c.home c.is_home ∙ bind_is (slice_get core.slots (c.home.first_slot + s)) _ c.slot c.is_slot
    ∙ bind_is (slice_get slots (c.home.first_slot + s)) (λ (ty : Place). Some (c.slot, ty)) (c.entity, c.cap) c.holds

pub defined_to : (w : Option Place) (v : Ty) (p : Place) → p ≡ defined_type w v → DefinedAs w v p
defined_to None v p e = inr (refl, e)
defined_to (Some u) v p e = inl (ap Some (sym e))

pub to_defined : (w : Option Place) (v : Ty) (p : Place) → DefinedAs w v p → p ≡ defined_type w v
to_defined w v p h = elim h [
  | inl e ↦ sym (ap (λ (o : Option Place). defined_type o v) e)
  | inr e ↦ e.1 ∙ sym (ap (λ (o : Option Place). defined_type o v) e.0)
]

-- ---- fields and methods by name

one_field : (core : CoreData) (e name i j : ℕ) → Formed core → IsField core e name i → IsField core e name j → i ≡ j
one_field core e name i j f a b =
    let same : b.0 ≡ a.0 = same_Some b.0 a.0 (sym b.2 ∙ a.2) in
    let names = λ (x : EntityDef). map field_name x.fields ++ map method_name (own_methods core x) in
    let there : (n : ℕ) (g : FieldInfo) → slice_get a.0.fields n ≡ Some g → g.name ≡ name → slice_get (map field_name a.0.fields ++ map method_name (own_methods core a.0)) n ≡ Some name =
    λ n g p q. get_front (map field_name a.0.fields) (map method_name (own_methods core a.0)) n name (get_map field_name a.0.fields n g p ∙ ap Some q) in
    (f.entities e a.0 a.2).names i j name (there i a.1 a.3 a.4) (there j b.1 (ap (λ (x : EntityDef). slice_get x.fields j) (sym same) ∙ b.3) b.4)

field_is : (core : CoreData) (e name i : ℕ) (o : Option ℕ) → Formed core → IsField core e name i → field_named core e name ≡ o → o ≡ Some i
field_is core e name i None f h g = absurd (field_missed core e name g i h)
field_is core e name i (Some j) f h g = ap Some (one_field core e name j i f (field_found core e name j g) h)

pub field_parts : (core : CoreData) (e name : ℕ) (i : ℕ × FieldInfo) → field_of core e name ≡ Some i → (x : EntityDef) × (slice_get core.entities e ≡ Some x) × (slice_get x.fields i.0 ≡ Some i.1) × (i.1.name ≡ name)
field_parts core e name i h =
    let n = bind_some (field_named core e name) _ i h in
    let x = bind_some (slice_get core.entities e) _ i n.2 in
    let g = bind_some (slice_get x.0.fields n.0) (λ (f : FieldInfo). Some (n.0, f)) i x.2 in
    let is : (n.0, g.0) ≡ i = same_Some (n.0, g.0) i g.2 in
    let k = field_found core e name n.0 n.1 in
    let same : k.0 ≡ x.0 = same_Some k.0 x.0 (sym k.2 ∙ x.1) in
    let found : k.1 ≡ g.0 = same_Some k.1 g.0 (sym k.3 ∙ ap (λ (z : EntityDef). slice_get z.fields n.0) same ∙ g.1) in
    (x.0, x.1, subst (λ (q : ℕ × FieldInfo). slice_get x.0.fields q.0 ≡ Some q.1) is g.1, subst (λ (q : ℕ × FieldInfo). q.1.name ≡ name) is (ap (λ (z : FieldInfo). z.name) (sym found) ∙ k.4))

abbrev pub field_to : (core : CoreData) (e name : ℕ) (i : ℕ × FieldInfo) → field_of core e name ≡ Some i → FieldOf core e name
field_to core e name i h =
    record { owner = (field_parts core e name i h).0; is_owner = (field_parts core e name i h).1; number = i.0; field = i.1; is_field = (field_parts core e name i h).2; has_name = (field_parts core e name i h).3 }

pub to_field : (core : CoreData) (e name : ℕ) → Formed core → (c : FieldOf core e name) → field_of core e name ≡ Some (c.number, c.field)
to_field core e name f c =
    let named : field_named core e name ≡ Some c.number = field_is core e name c.number (field_named core e name) f (c.owner, c.field, c.is_owner, c.is_field, c.has_name) refl in
    bind_is (field_named core e name) _ c.number named ∙ bind_is (slice_get core.entities e) _ c.owner c.is_owner
    ∙ bind_is (slice_get c.owner.fields c.number) (λ (g : FieldInfo). Some (c.number, g)) c.field c.is_field

pub own_at : (core : CoreData) (x : Node) (name : ℕ) (m : Method) (i : ℕ × FieldInfo) → slice_get core.methods x.method ≡ Some m → own_field core x name ≡ Some i → field_of core m.entity name ≡ Some i
own_at core x name m i g h =
    let k = bind_some (slice_get core.methods x.method) _ i h in
    subst (λ (z : Method). field_of core z.entity name ≡ Some i) (same_Some k.0 m (sym k.1 ∙ g)) k.2

pub at_own : (core : CoreData) (x : Node) (name : ℕ) (m : Method) (i : ℕ × FieldInfo) → slice_get core.methods x.method ≡ Some m → field_of core m.entity name ≡ Some i → own_field core x name ≡ Some i
at_own core x name m i g h = bind_is (slice_get core.methods x.method) _ m g ∙ h

-- A `ref` gives up each field.
abbrev pub given_up : Cap → Form
given_up k = at form.IsoE form.TrnE form.Ref form.Val form.Box form.Tag k

abbrev pub gives_up : (k : Cap) → (g : Form) × (taken form.Ref k ≡ Some g)
gives_up k = (given_up k, refl)

method_place : (core : CoreData) (e name m : ℕ) (x : EntityDef) → Formed core → slice_get core.entities e ≡ Some x → IsMethod core e name m
    → (x.first_method ≤ m) × (slice_get (map field_name x.fields ++ map method_name (own_methods core x)) (length (map field_name x.fields) + (m - x.first_method)) ≡ Some name)
method_place core e name m x f g h =
    let r = method_among core m h.0 f h.1 (get_below core.methods m h.0 h.1) in
    let same : r.0 ≡ x = same_Some r.0 x (sym r.1 ∙ ap (slice_get core.entities) h.2 ∙ g) in
    let low : x.first_method ≤ m = subst (λ (z : EntityDef). z.first_method ≤ m) same r.2 in
    let high : m < x.first_method + x.methods = subst (λ (z : EntityDef). m < z.first_method + z.methods) same r.3 in
    let own = range_get core.methods x.first_method (x.first_method + x.methods) m h.0 low high h.1 in
    (low, get_append (map field_name x.fields) (map method_name (own_methods core x)) (m - x.first_method) ∙ get_map method_name (own_methods core x) (m - x.first_method) h.0 own ∙ ap Some h.3)

same_number : (a l m n : ℕ) → a ≤ m → a ≤ n → l + (m - a) ≡ l + (n - a) → m ≡ n
same_number a l m n p q e = omega (arith, p, q, e)

one_method : (core : CoreData) (e name m k : ℕ) → Formed core → IsMethod core e name m → IsMethod core e name k → m ≡ k
one_method core e name m k f h i =
    let r = method_among core m h.0 f h.1 (get_below core.methods m h.0 h.1) in
    let g : slice_get core.entities e ≡ Some r.0 = ap (slice_get core.entities) (sym h.2) ∙ r.1 in
    let a = method_place core e name m r.0 f g h in
    let b = method_place core e name k r.0 f g i in
    same_number r.0.first_method (length (map field_name r.0.fields)) m k a.0 b.0 ((f.entities e r.0 g).names _ _ name a.1 b.1)

pub method_is : (core : CoreData) (e name m : ℕ) (o : Option ℕ) → Formed core → IsMethod core e name m → method_named core e name ≡ o → o ≡ Some m
method_is core e name m None f h g = absurd (method_missed core e name f g m (get_below core.methods m h.0 h.1) h)
method_is core e name m (Some k) f h g = ap Some (one_method core e name k m f (method_found core e name k f g) h)

-- ---- calls and arguments

module _ (core : CoreData) (f : Formed core) where
  pub go_to : (ts : List Note) (ps : List ParamInfo) → mirror.Go core ts ps → Go core ts ps
  go_to [] [] h = tt
  go_to [] (p ∷ ps) h = absurd h
  go_to (t ∷ ts) [] h = absurd h
  go_to (t ∷ ts) (p ∷ ps) h = ((h.0.0, h.0.1, (goes_iff core h.0.0 (p.entity, p.cap) f).0 h.0.2), go_to ts ps h.1)

  pub to_go : (ts : List Note) (ps : List ParamInfo) → Go core ts ps → mirror.Go core ts ps
  to_go [] [] h = tt
  to_go [] (p ∷ ps) h = absurd h
  to_go (t ∷ ts) [] h = absurd h
  to_go (t ∷ ts) (p ∷ ps) h = ((h.0.0, h.0.1, (goes_iff core h.0.0 (p.entity, p.cap) f).1 h.0.2), to_go ts ps h.1)

  module _ (ns : List Note) (name : ℕ) where
    pub called_parts : (c : mirror.Called core ns name) → (c.called.entity ≡ c.to.0) × (c.called.name ≡ name)
    called_parts c =
        let k = method_found core c.to.0 name c.number f c.is_number in
        let is : k.0 ≡ c.called = same_Some k.0 c.called (sym k.1 ∙ c.is_called) in
        (ap (λ (z : Method). z.entity) (sym is) ∙ k.2, ap (λ (z : Method). z.name) (sym is) ∙ k.3)

    abbrev pub called_to : mirror.Called core ns name → Called core ns name
    called_to c =
        record { arguments = c.arguments; receiver = c.receiver; children = c.children; to = c.to; is_to = c.is_to; number = c.number; called = c.called; is_called = c.is_called; has_entity = (called_parts c).0; has_name = (called_parts c).1 }

    pub number_of : (c : Called core ns name) → method_named core c.to.0 name ≡ Some c.number
    number_of c = method_is core c.to.0 name c.number (method_named core c.to.0 name) f (c.called, c.is_called, c.has_entity, c.has_name) refl

    abbrev pub to_called : Called core ns name → mirror.Called core ns name
    to_called c =
        record { arguments = c.arguments; receiver = c.receiver; children = c.children; to = c.to; is_to = c.is_to; number = c.number; is_number = number_of c; called = c.called; is_called = c.is_called }

  module _ (ns : List Note) (x : Node) where
    abbrev pub incomplete_to : mirror.Incomplete core ns x → Incomplete core ns x
    incomplete_to i =
        record {
          home = i.own;
          is_home = i.is_own;
          constructor = (constructs_iff i.own.kind).0 i.constructor;
          in_no_recover = i.outside;
          child = i.child;
          is_child = i.is_child;
          origin = i.origin;
          is_origin = i.is_origin;
          is_this = i.is_this;
          note = i.note;
          is_note = i.is_note;
          not_all_set = λ a. i.lacks ((all_set_iff core i.own.entity i.note.set_before f).1 a);
        }

    abbrev pub to_incomplete : Incomplete core ns x → mirror.Incomplete core ns x
    to_incomplete i =
        record {
          own = i.home;
          is_own = i.is_home;
          constructor = (constructs_iff i.home.kind).1 i.constructor;
          outside = i.in_no_recover;
          child = i.child;
          is_child = i.is_child;
          origin = i.origin;
          is_origin = i.is_origin;
          is_this = i.is_this;
          note = i.note;
          is_note = i.is_note;
          lacks = λ a. i.not_all_set ((all_set_iff core i.home.entity i.note.set_before f).0 a);
        }

-- ---- lists of notes

pub order_iff : (ns : List Note) (from to : Masks) → mirror.OneAfterOther ns from to ↔ OneAfterOther ns from to
order_iff [] from to = (λ e. e, λ e. e)
order_iff (t ∷ ts) from to = (λ e. (e.0, (order_iff ts (masks_after t) to).0 e.1), λ e. (e.0, (order_iff ts (masks_after t) to).1 e.1))

pub sendable_iff : (ts : List Note) (ps : List ParamInfo) → mirror.Sendable ts ps ↔ Sendable ts ps
sendable_iff [] [] = (λ h. tt, λ h. tt)
sendable_iff [] (p ∷ ps) = (λ h. absurd h, λ h. absurd h)
sendable_iff (t ∷ ts) [] = (λ h. absurd h, λ h. absurd h)
sendable_iff (t ∷ ts) (p ∷ ps) = (λ h. (h.0, (sendable_iff ts ps).0 h.1), λ h. (h.0, (sendable_iff ts ps).1 h.1))

-- ---- operators

pub arithmetic_iff : (o : Op) → (is_arithmetic o ≡ true) ↔ IsOneOf arithmetic o
arithmetic_iff o = (
  to o,
  λ h. elim h [
    | inl e ↦ ap is_arithmetic e
    | inr h ↦ elim h [ inl e ↦ ap is_arithmetic e | inr h ↦ elim h [ inl e ↦ ap is_arithmetic e | inr h ↦ elim h [ inl e ↦ ap is_arithmetic e | inr h ↦ elim h [ inl e ↦ ap is_arithmetic e | inr h ↦ absurd h ] ] ] ]
  ],
)
  where
    to : (o : Op) → is_arithmetic o ≡ true → IsOneOf arithmetic o
    to op.Add e = inl refl
    to op.Sub e = inr (inl refl)
    to op.Mul e = inr (inr (inl refl))
    to op.Div e = inr (inr (inr (inl refl)))
    to op.Rem e = inr (inr (inr (inr (inl refl))))
    to o e = absurd (false_true e)

pub comparison_iff : (o : Op) → (is_comparison o ≡ true) ↔ IsOneOf comparisons o
comparison_iff o = (
  to o,
  λ h. elim h [
    | inl e ↦ ap is_comparison e
    | inr h ↦ elim h [ inl e ↦ ap is_comparison e | inr h ↦ elim h [ inl e ↦ ap is_comparison e | inr h ↦ elim h [ inl e ↦ ap is_comparison e | inr h ↦ absurd h ] ] ]
  ],
)
  where
    to : (o : Op) → is_comparison o ≡ true → IsOneOf comparisons o
    to op.Lt e = inl refl
    to op.Le e = inr (inl refl)
    to op.Gt e = inr (inr (inl refl))
    to op.Ge e = inr (inr (inr (inl refl)))
    to o e = absurd (false_true e)

pub equality_iff : (o : Op) → (is_equality o ≡ true) ↔ IsOneOf equalities o
equality_iff o = (to o, λ h. elim h [ inl e ↦ ap is_equality e | inr h ↦ elim h [ inl e ↦ ap is_equality e | inr h ↦ absurd h ] ])
  where
    to : (o : Op) → is_equality o ≡ true → IsOneOf equalities o
    to op.Eq e = inl refl
    to op.Ne e = inr (inl refl)
    to o e = absurd (false_true e)

add_is : (o : Op) → is_add o ≡ true → o ≡ op.Add
add_is op.Add e = refl
add_is o e = absurd (false_true e)

pub add_iff : (o : Op) → (is_add o ≡ true) ↔ (o ≡ op.Add)
add_iff o = (add_is o, λ e. ap is_add e)

xor_is : (o : Op) → is_xor o ≡ true → o ≡ op.Xor
xor_is op.Xor e = refl
xor_is o e = absurd (false_true e)

pub xor_iff : (o : Op) → (is_xor o ≡ true) ↔ (o ≡ op.Xor)
xor_iff o = (xor_is o, λ e. ap is_xor e)

-- ---- the definitions in a sequence

pub ends_to : (core : CoreData) (cs : List ℕ) (l m : Mask) → m ≡ without_items core cs l → (s : ℕ) → IsInMask m s ↔ (IsInMask l s × (Defines core cs s → ⊥))
ends_to core cs l m e s = subst (λ (k : Mask). IsInMask k s ↔ (IsInMask l s × (Defines core cs s → ⊥))) (sym e) (items_bits core cs l s)

min_other : (x y : ℕ) → min x y ≡ min y x
min_other x y = omega arith

and_other : (a b : ℕ) → bit_and a b ≡ bit_and b a
and_other a b = same_from_bits (bit_and a b) (bit_and b a) (λ i. bit_at_and a b i ∙ min_other (bit_at a i) (bit_at b i) ∙ sym (bit_at_and b a i))

-- Masks with the same numbers are equal.
within_both : (a b : Mask) → within a b ≡ true → within b a ≡ true → a ≡ b
within_both a b e g =
    let p : bit_and a.0 b.0 ≡ a.0 = eqb-true (bit_and a.0 b.0) a.0 e in
    let q : bit_and b.0 a.0 ≡ b.0 = eqb-true (bit_and b.0 a.0) b.0 g in
    ap (λ (n : ℕ). record { 0 = n }) (sym p ∙ and_other a.0 b.0 ∙ q)

pub to_ends : (core : CoreData) (cs : List ℕ) (l m : Mask) → ((s : ℕ) → IsInMask m s ↔ (IsInMask l s × (Defines core cs s → ⊥))) → m ≡ without_items core cs l
to_ends core cs l m h =
    within_both m (without_items core cs l)
    ((within_bits m (without_items core cs l)).1 (λ i p. (items_bits core cs l i).1 ((h i).0 p)))
    ((within_bits (without_items core cs l) m).1 (λ i p. (h i).1 ((items_bits core cs l i).0 p)))

-- ---- an `else` branch

pub else_to : (k : NodeKind) (i : ℕ) → is_else k (suc i) ≡ false → k ≡ node.If → i ≡ 1 → ⊥
else_to k i e g h = false_true (sym e ∙ ap (λ (j : NodeKind). is_else j (suc i)) g ∙ ap (λ (j : ℕ). is_else node.If (suc j)) h)

pub to_else : (k : NodeKind) (i : ℕ) → (k ≡ node.If → i ≡ 1 → ⊥) → is_else k (suc i) ≡ false
to_else node.If zero h = refl
to_else node.If (suc zero) h = absurd (h refl refl)
to_else node.If (suc (suc i)) h = refl
to_else k i h = refl
