-- The computed rules conclude what the records of the rules require, in both directions: values, slots, fields and
-- operators.
use Rattle.std.specs.Prelude.{◌≡◌, ◌⊎◌, ◌↔◌, ℕ, Bool, true, false, cond, ◌&&◌, ◌||◌, not, nat_eq, List, [], ◌∷◌, Option, Some, None, slice_get, refl}
use Rattle.std.proofs.{Common.{inl, inr, ap, sym, subst, ◌∙◌}, lemmas.Option.{same_Some, none-some}, lemmas.Bool.{and_parts, eqb-true, eq-eqb, and_from, or_cases, or_left, or_right}}
use Rattle.pc_caps.specs.{Tables.{view, sendable, plain, unalias, taken}, Computed.may_write, declared.capability.Cap.Cap, declared.capability.Form.Form}
use Rattle.pc_caps.specs.declared.capability.Cap.TheVariants as cap
use Rattle.pc_caps.specs.declared.capability.Form.TheVariants as form
use Rattle.pc_core.specs.{declared.declarations.FieldInfo.FieldInfo, declared.declarations.Method.Method, declared.nodes.Slot.Slot, declared.nodes.SlotKind.SlotKind, declared.nodes.Node.Node, declared.nodes.NodeKind.NodeKind, CoreData.CoreData}
use Rattle.pc_core.specs.declared.nodes.SlotKind.TheVariants as slot_kind
use Rattle.pc_core.specs.declared.nodes.NodeKind.TheVariants as node
use Rattle.pc_base.proofs.{Options.{bind_some, kept, kept_otherwise, bind_is}, Bools.false_true}
use Rattle.pc_base.specs.Lists.{◌>>=◌}
use Rattle.pc_masks.specs.{declared.mask.Mask.Mask, Masks.{has, same, with_number, without_number}}
use Rattle.pc_ann.specs.declared.annotation.Note.{Note}
use Rattle.pc_rules.specs.{declared.said.Said.Said, Parts.{says_of, starts, constructs, full, reachable, readable, reads_as, goes_to, slot_of, last_child, through_notes, one_note, two_notes, three_notes, last_note, one_type, types_of, two_types}, Values.{literal_says, this_form, this_says, used, local_says, consume_says, same_cap, same_place, defined_type, defines, defined, define_says, is_var, old_value, assigns, assigned, assign_says}, Fields.{is_this, lacks_fields, own_set, incomplete_in, incomplete, field_of, own_field, field_type, read_says, get_says, own_read_says, getown_says, writes, written_field, old_type, write_says, put_says, value_type, own_old, own_writes, own_write_says, putown_says}, Operators.{both_read_as, value_says, not_says, identity_says, lazy_masks, lazy_says, meet_masks}, Rules.said_by}
use Rattle.pc_valid.specs.Words.{Ty, Masks, Slots, before, masks_after, place}
use Rattle.pc_rules.proofs.{Meaning.{OneAfterOther, Reachable, Reads, BothRead, Incomplete, Literal, This, Local, Consume, Define, Assign, Get, GetOwn, Put, PutOwn, Not, Lazy, Identity}, Threads.starts_so, Agreeing.places_equal}

-- ---- the conclusion of a rule, in parts

pub said_parts : (own : Note) (ty : Option Ty) (m : Masks) → Some (says_of ty m) ≡ Some (said_by own) → (own.ty ≡ ty) × (masks_after own ≡ m)
said_parts own ty m h = let e = same_Some (says_of ty m) (said_by own) h in (sym (ap (λ (s : Said). s.ty) e), sym (ap (λ (s : Said). (s.live, s.set)) e))

pub parts_said : (own : Note) (ty : Option Ty) (m : Masks) → own.ty ≡ ty → masks_after own ≡ m → Some (says_of ty m) ≡ Some (said_by own)
parts_said own ty m a b = ap (λ v. Some (says_of v m)) (sym a) ∙ ap (λ (k : Masks). Some (says_of own.ty k)) (sym b)

-- ---- tests

pub not_true : (a : Bool) → (a ≡ true → ⊥) → a ≡ false
not_true true h = absurd (h refl)
not_true false h = refl

pub is_false : (a : Bool) → not a ≡ true → a ≡ false
is_false true e = absurd (false_true e)
is_false false e = refl

false_no : (a : Bool) → a ≡ false → a ≡ true → ⊥
false_no a e f = false_true (sym e ∙ f)

same_self : (a : Mask) → same a a ≡ true
same_self a = eq-eqb a.0 a.0 refl

pub is_starts : (t : Note) (m : Masks) → before t ≡ m → starts t m ≡ true
is_starts t m e = subst (λ k. starts t k ≡ true) e (and_from (same t.live_before t.live_before) (same t.set_before t.set_before) (same_self t.live_before) (same_self t.set_before))

pub mask_same : (a b : Mask) → a ≡ b → same a b ≡ true
mask_same a b e = ap (same a) (sym e) ∙ same_self a

reaches : (x : Node) (i : Slot × (ℕ × Cap)) → (reachable x i ≡ true) ↔ (Reachable x i)
reaches x i = (
  λ e. elim (or_cases (nat_eq i.0.depth x.depth) (sendable i.1.1) e) [ inl p ↦ inl (eqb-true i.0.depth x.depth p) | inr p ↦ inr p ],
  λ r. elim r [ inl p ↦ or_left (nat_eq i.0.depth x.depth) (sendable i.1.1) (eq-eqb i.0.depth x.depth p) | inr p ↦ or_right (nat_eq i.0.depth x.depth) (sendable i.1.1) p ],
)

-- ---- children

pub through_means : (ns : List Note) (m n : Masks) → through_notes ns m ≡ Some n → OneAfterOther ns m n
through_means [] m n e = same_Some m n e
through_means (t ∷ ts) m n e = let k = kept (starts t m) (through_notes ts (masks_after t)) n e in (starts_so t m k.0, through_means ts (masks_after t) n k.1)

pub means_through : (ns : List Note) (m n : Masks) → OneAfterOther ns m n → through_notes ns m ≡ Some n
means_through [] m n e = ap Some e
means_through (t ∷ ts) m n e = ap (λ b. cond b (through_notes ts (masks_after t)) None) (is_starts t m e.0) ∙ means_through ts (masks_after t) n e.1

pub one_is : (ns : List Note) (t : Note) → one_note ns ≡ Some t → ns ≡ t ∷ []
one_is [] t e = absurd (none-some t e)
one_is (s ∷ []) t e = ap (λ r. r ∷ []) (same_Some s t e)
one_is (s ∷ r ∷ ns) t e = absurd (none-some t e)

pub two_are : (ns : List Note) (c : Note × Note) → two_notes ns ≡ Some c → ns ≡ c.0 ∷ c.1 ∷ []
two_are [] c e = absurd (none-some c e)
two_are (s ∷ []) c e = absurd (none-some c e)
two_are (s ∷ r ∷ []) c e = ap (λ (p : Note × Note). p.0 ∷ p.1 ∷ []) (same_Some (s, r) c e)
two_are (s ∷ r ∷ q ∷ ns) c e = absurd (none-some c e)

pub three_are : (ns : List Note) (c : Note × Note × Note) → three_notes ns ≡ Some c → ns ≡ c.0 ∷ c.1 ∷ c.2 ∷ []
three_are [] c e = absurd (none-some c e)
three_are (s ∷ []) c e = absurd (none-some c e)
three_are (s ∷ r ∷ []) c e = absurd (none-some c e)
three_are (s ∷ r ∷ q ∷ []) c e = ap (λ (p : Note × Note × Note). p.0 ∷ p.1 ∷ p.2 ∷ []) (same_Some (s, r, q) c e)
three_are (s ∷ r ∷ q ∷ o ∷ ns) c e = absurd (none-some c e)

-- The only child and its type.
pub one_typed : (ns : List Note) (v : Ty) → one_type ns ≡ Some v → (t : Note) × (ns ≡ t ∷ []) × (t.ty ≡ Some v)
one_typed ns v e = let t = bind_some (one_note ns) (λ t. t.ty) v e in (t.0, one_is ns t.0 t.1, t.2)

pub typed_one : (ns : List Note) (t : Note) (v : Ty) → ns ≡ t ∷ [] → t.ty ≡ Some v → one_type ns ≡ Some v
typed_one ns t v e f = bind_is (one_note ns) (λ t. t.ty) t (ap one_note e) ∙ f

abbrev pair : Ty → Ty → Option (Ty × Ty)
pair v w = Some (v, w)

-- Two children and their types.
pub two_typed : (ns : List Note) (vs : Ty × Ty) → two_types ns ≡ Some vs → (a : Note) × (b : Note) × (ns ≡ a ∷ b ∷ []) × (a.ty ≡ Some vs.0) × (b.ty ≡ Some vs.1)
two_typed ns vs e =
    let c = bind_some (two_notes ns) types_of vs e in
    let a = bind_some c.0.0.ty (λ v. c.0.1.ty >>= pair v) vs c.2 in
    let b = bind_some c.0.1.ty (pair a.0) vs a.2 in
    let is : (a.0, b.0) ≡ vs = same_Some (a.0, b.0) vs b.2 in
    (c.0.0, c.0.1, two_are ns c.0 c.1, a.1 ∙ ap (λ (q : Ty × Ty). Some q.0) is, b.1 ∙ ap (λ (q : Ty × Ty). Some q.1) is)

pub typed_two : (ns : List Note) (a b : Note) (v w : Ty) → ns ≡ a ∷ b ∷ [] → a.ty ≡ Some v → b.ty ≡ Some w → two_types ns ≡ Some (v, w)
typed_two ns a b v w e f g = bind_is (two_notes ns) types_of (a, b) (ap two_notes e) ∙ bind_is a.ty (λ u. b.ty >>= pair u) v f ∙ bind_is b.ty (pair v) w g

reads_is : (e : ℕ) (v : Ty) → reads_as e v ≡ true → Reads e (Some v)
reads_is e v h = let p = and_parts (nat_eq v.0 e) (readable v.1) h in (v, refl, eqb-true v.0 e p.0, p.1)

pub reads_so : (e : ℕ) (o : Option Ty) (v : Ty) → o ≡ Some v → reads_as e v ≡ true → Reads e o
reads_so e o v i h = subst (Reads e) (sym i) (reads_is e v h)

pub so_reads : (e : ℕ) (o : Option Ty) (r : Reads e o) → reads_as e r.0 ≡ true
so_reads e o r = and_from (nat_eq r.0.0 e) (readable r.0.1) (eq-eqb r.0.0 e r.2) r.3

-- ---- how a rule ends

module _ (own : Note) (ns : List Note) where
  -- The masks after the children, and a type.
  pub ends : (ty : Option Ty) → (through_notes ns (before own) >>= λ n. Some (says_of ty n)) ≡ Some (said_by own) → (own.ty ≡ ty) × OneAfterOther ns (before own) (masks_after own)
  ends ty h =
      let n = bind_some (through_notes ns (before own)) _ (said_by own) h in
      let p = said_parts own ty n.0 n.2 in
      (p.0, subst (OneAfterOther ns (before own)) (sym p.1) (through_means ns (before own) n.0 n.1))

  pub ended : (ty : Option Ty) → own.ty ≡ ty → OneAfterOther ns (before own) (masks_after own) → (through_notes ns (before own) >>= λ n. Some (says_of ty n)) ≡ Some (said_by own)
  ended ty t m = bind_is (through_notes ns (before own)) _ (masks_after own) (means_through ns (before own) (masks_after own) m)
      ∙ parts_said own ty (masks_after own) t refl

  -- The same under a condition.
  pub ends_if : (b : Bool) (ty : Option Ty) → (through_notes ns (before own) >>= λ n. cond b (Some (says_of ty n)) None) ≡ Some (said_by own) → (b ≡ true) × (own.ty ≡ ty) × OneAfterOther ns (before own) (masks_after own)
  ends_if b ty h =
      let n = bind_some (through_notes ns (before own)) _ (said_by own) h in
      let k = kept b (Some (says_of ty n.0)) (said_by own) n.2 in
      let p = said_parts own ty n.0 k.1 in
      (k.0, p.0, subst (OneAfterOther ns (before own)) (sym p.1) (through_means ns (before own) n.0 n.1))

  pub ended_if : (b : Bool) (ty : Option Ty) → b ≡ true → own.ty ≡ ty → OneAfterOther ns (before own) (masks_after own) → (through_notes ns (before own) >>= λ n. cond b (Some (says_of ty n)) None) ≡ Some (said_by own)
  ended_if b ty e t m =
      bind_is (through_notes ns (before own)) _ (masks_after own) (means_through ns (before own) (masks_after own) m)
      ∙ ap (λ c. cond c (Some (says_of ty (masks_after own))) None) e ∙ parts_said own ty (masks_after own) t refl

  -- A type and masks that follow from those after the children.
  pub ends_at : (g : Masks → Option Ty) (u : Masks → Masks) → (through_notes ns (before own) >>= λ n. Some (says_of (g n) (u n))) ≡ Some (said_by own) → (n : Masks) × OneAfterOther ns (before own) n × (own.ty ≡ g n) × (masks_after own ≡ u n)
  ends_at g u h =
      let n = bind_some (through_notes ns (before own)) _ (said_by own) h in
      let p = said_parts own (g n.0) (u n.0) n.2 in
      (n.0, through_means ns (before own) n.0 n.1, p.0, p.1)

  pub ended_at : (g : Masks → Option Ty) (u : Masks → Masks) (n : Masks) → OneAfterOther ns (before own) n → own.ty ≡ g n → masks_after own ≡ u n → (through_notes ns (before own) >>= λ n. Some (says_of (g n) (u n))) ≡ Some (said_by own)
  ended_at g u n m t k = bind_is (through_notes ns (before own)) _ n (means_through ns (before own) n m) ∙ parts_said own (g n) (u n) t k

  -- An operator on two values with this property.
  pub tested_means : (test : Ty × Ty → Bool) (e : ℕ) → (two_types ns >>= λ v. cond (test v) (value_says e ns (before own)) None) ≡ Some (said_by own) → (vs : Ty × Ty) × (two_types ns ≡ Some vs) × (test vs ≡ true) × (own.ty ≡ Some (e, form.Val)) × OneAfterOther ns (before own) (masks_after own)
  tested_means test e h =
      let v = bind_some (two_types ns) _ (said_by own) h in
      let k = kept (test v.0) (value_says e ns (before own)) (said_by own) v.2 in
      let p = ends (Some (e, form.Val)) k.1 in
      (v.0, v.1, k.0, p.0, p.1)

  pub means_tested : (test : Ty × Ty → Bool) (e : ℕ) (vs : Ty × Ty) → two_types ns ≡ Some vs → test vs ≡ true → own.ty ≡ Some (e, form.Val) → OneAfterOther ns (before own) (masks_after own) → (two_types ns >>= λ v. cond (test v) (value_says e ns (before own)) None) ≡ Some (said_by own)
  means_tested test e vs h t ty m =
      bind_is (two_types ns) _ vs h ∙ ap (λ c. cond c (value_says e ns (before own)) None) t ∙ ended (Some (e, form.Val)) ty m

  pub both_read : (e : ℕ) (vs : Ty × Ty) → two_types ns ≡ Some vs → both_read_as e vs ≡ true → BothRead e ns
  both_read e vs h b =
      let c = two_typed ns vs h in
      let p = and_parts (reads_as e vs.0) (reads_as e vs.1) b in
      (c.0, c.1, c.2, reads_so e c.0.ty vs.0 c.3 p.0, reads_so e c.1.ty vs.1 c.4 p.1)

  pub read_both : (e : ℕ) → BothRead e ns → (vs : Ty × Ty) × (two_types ns ≡ Some vs) × (both_read_as e vs ≡ true)
  read_both e r =
      let a = r.3 in let b = r.4 in
      ((a.0, b.0), typed_two ns r.0 r.1 a.0 b.0 r.2 a.1 b.1, and_from (reads_as e a.0) (reads_as e b.0) (so_reads e r.0.ty a) (so_reads e r.1.ty b))

-- ---- values and slots

pub literal_means : (own : Note) (e : ℕ) → literal_says e (before own) ≡ Some (said_by own) → Literal own e
literal_means own e h = let p = said_parts own (Some (e, form.Val)) (before own) h in record { type = p.0; masks = p.1 }

pub means_literal : (own : Note) (e : ℕ) → Literal own e → literal_says e (before own) ≡ Some (said_by own)
means_literal own e r = parts_said own (Some (e, form.Val)) (before own) r.type r.masks

either_way : (b : Bool) → (b ≡ true) ⊎ (b ≡ false)
either_way true = inl refl
either_way false = inr refl

module _ (core : CoreData) (slots : Slots) (own : Note) (ns : List Note) (x : Node) where
  pub this_means : this_says core slots x (before own) ≡ Some (said_by own) → This core slots own x
  this_means h =
      let f = bind_some (slice_get core.methods x.method) _ (said_by own) h in
      let i = bind_some (slot_of core slots x.method 0) _ (said_by own) f.2 in
      let seen = this_form core x f.0.entity i.0 own.set_before in
      let p = said_parts own (Some (f.0.entity, seen)) (before own) i.2 in
      let test = full core f.0.entity own.set_before && reachable x i.0 in
      record {
        home = f.0;
        is_home = f.1;
        slot = i.0;
        is_slot = i.1;
        seen = seen;
        whole = λ a r. ap (λ b. cond b (plain i.0.1.1) form.Tag) (and_from (full core f.0.entity own.set_before) (reachable x i.0) a ((reaches x i.0).1 r));
        else_tag = λ n. ap (λ b. cond b (plain i.0.1.1) form.Tag) (not_true test (λ e. let q = and_parts (full core f.0.entity own.set_before) (reachable x i.0) e in n q.0 ((reaches x i.0).0 q.1)));
        type = p.0;
        masks = p.1;
      }

  pub means_this : This core slots own x → this_says core slots x (before own) ≡ Some (said_by own)
  means_this r =
      let test = full core r.home.entity own.set_before && reachable x r.slot in
      let is : r.seen ≡ this_form core x r.home.entity r.slot own.set_before = elim (either_way test) [
        | inl e ↦ let q = and_parts (full core r.home.entity own.set_before) (reachable x r.slot) e in
            r.whole q.0 ((reaches x r.slot).0 q.1) ∙ sym (ap (λ b. cond b (plain r.slot.1.1) form.Tag) e)
        | inr e ↦ r.else_tag (λ a b. false_no test e (and_from (full core r.home.entity own.set_before) (reachable x r.slot) a ((reaches x r.slot).1 b)))
            ∙ sym (ap (λ b. cond b (plain r.slot.1.1) form.Tag) e)
      ] in
      bind_is (slice_get core.methods x.method) _ r.home r.is_home ∙ bind_is (slot_of core slots x.method 0) _ r.slot r.is_slot
      ∙ parts_said own (Some (r.home.entity, this_form core x r.home.entity r.slot own.set_before)) (before own) (r.type ∙ ap (λ (g : Form). Some (r.home.entity, g)) is) r.masks

  -- A live and reachable slot.
  found : (s : ℕ) (i : ℕ × Cap) → used core slots x s own.live_before ≡ Some i → (j : Slot × (ℕ × Cap)) × (slot_of core slots x.method s ≡ Some j) × (has own.live_before s ≡ true) × Reachable x j × (j.1 ≡ i)
  found s i h =
      let j = bind_some (slot_of core slots x.method s) _ i h in
      let k = kept (has own.live_before s && reachable x j.0) (Some j.0.1) i j.2 in
      let t = and_parts (has own.live_before s) (reachable x j.0) k.0 in
      (j.0, j.1, t.0, (reaches x j.0).0 t.1, same_Some j.0.1 i k.1)

  is_used : (s : ℕ) (j : Slot × (ℕ × Cap)) → slot_of core slots x.method s ≡ Some j → has own.live_before s ≡ true → Reachable x j → used core slots x s own.live_before ≡ Some j.1
  is_used s j h l r =
      bind_is (slot_of core slots x.method s) _ j h ∙ ap (λ b. cond b (Some j.1) None) (and_from (has own.live_before s) (reachable x j) l ((reaches x j).1 r))

  pub local_means : (s : ℕ) → local_says core slots x s (before own) ≡ Some (said_by own) → Local core slots own x s
  local_means s h =
      let u = bind_some (used core slots x s own.live_before) _ (said_by own) h in
      let j = found s u.0 u.1 in
      let p = said_parts own (Some (u.0.0, plain u.0.1)) (before own) u.2 in
      record { slot = j.0; is_slot = j.1; live = j.2; reachable = j.3; type = p.0 ∙ ap (λ (i : ℕ × Cap). Some (i.0, plain i.1)) (sym j.4); masks = p.1 }

  pub means_local : (s : ℕ) → Local core slots own x s → local_says core slots x s (before own) ≡ Some (said_by own)
  means_local s r =
      bind_is (used core slots x s own.live_before) _ r.slot.1 (is_used s r.slot r.is_slot r.live r.reachable)
      ∙ parts_said own (Some (r.slot.1.0, plain r.slot.1.1)) (before own) r.type r.masks

  pub consume_means : (s : ℕ) → consume_says core slots x s (before own) ≡ Some (said_by own) → Consume core slots own x s
  consume_means s h =
      let u = bind_some (used core slots x s own.live_before) _ (said_by own) h in
      let j = found s u.0 u.1 in
      let p = said_parts own (Some (u.0.0, unalias u.0.1)) (without_number own.live_before s, own.set_before) u.2 in
      record { slot = j.0; is_slot = j.1; live = j.2; reachable = j.3; type = p.0 ∙ ap (λ (i : ℕ × Cap). Some (i.0, unalias i.1)) (sym j.4); masks = p.1 }

  pub means_consume : (s : ℕ) → Consume core slots own x s → consume_says core slots x s (before own) ≡ Some (said_by own)
  means_consume s r =
      bind_is (used core slots x s own.live_before) _ r.slot.1 (is_used s r.slot r.is_slot r.live r.reachable)
      ∙ parts_said own (Some (r.slot.1.0, unalias r.slot.1.1)) (without_number own.live_before s, own.set_before) r.type r.masks

  cap_self : (k : Cap) → same_cap k k ≡ true
  cap_self cap.Iso = refl
  cap_self k = refl

  place_same : (a b : ℕ × Cap) → a ≡ b → same_place a b ≡ true
  place_same a b e = subst (λ c. same_place a c ≡ true) e (and_from (nat_eq a.0 a.0) (same_cap a.1 a.1) (eq-eqb a.0 a.0 refl) (cap_self a.1))

  pub define_means : (s : ℕ) → define_says core slots ns x s (before own) ≡ Some (said_by own) → Define core slots own ns x s
  define_means s h =
      let v = bind_some (one_type ns) _ (said_by own) h in
      let t = one_typed ns v.0 v.1 in
      let i = bind_some (slot_of core slots x.method s) _ (said_by own) v.2 in
      let k = kept (defines core i.0 v.0) (defined ns s (before own)) (said_by own) i.2 in
      let q = and_parts (same_place i.0.1 (defined_type i.0.0.written v.0)) (goes_to core v.0 i.0.1) k.0 in
      let p = ends_at own ns (λ n. None) (λ n. (with_number n.0 s, n.1)) k.1 in
      record { child = t.0; children = t.1; value = v.0; is_value = t.2; slot = i.0; is_slot = i.1; has_type = places_equal i.0.1 (defined_type i.0.0.written v.0) q.0; goes = q.1; type = p.2; after_children = p.0; in_order = p.1; masks = p.3 }

  pub means_define : (s : ℕ) → Define core slots own ns x s → define_says core slots ns x s (before own) ≡ Some (said_by own)
  means_define s r =
      let test : defines core r.slot r.value ≡ true =
      and_from (same_place r.slot.1 (defined_type r.slot.0.written r.value)) (goes_to core r.value r.slot.1) (place_same r.slot.1 (defined_type r.slot.0.written r.value) r.has_type) r.goes in
      bind_is (one_type ns) _ r.value (typed_one ns r.child r.value r.children r.is_value) ∙ bind_is (slot_of core slots x.method s) _ r.slot r.is_slot
      ∙ ap (λ b. cond b (defined ns s (before own)) None) test ∙ ended_at own ns (λ n. None) (λ n. (with_number n.0 s, n.1)) r.after_children r.in_order r.type r.masks

  var_is : (k : SlotKind) → is_var k ≡ true → k ≡ slot_kind.Var
  var_is slot_kind.Var e = refl
  var_is k e = absurd (false_true e)

  pub assign_means : (s : ℕ) → assign_says core slots ns x s (before own) ≡ Some (said_by own) → Assign core slots own ns x s
  assign_means s h =
      let v = bind_some (one_type ns) _ (said_by own) h in
      let t = one_typed ns v.0 v.1 in
      let i = bind_some (slot_of core slots x.method s) _ (said_by own) v.2 in
      let k = kept (assigns core x i.0 v.0) (assigned ns s i.0.1 (before own)) (said_by own) i.2 in
      let q = and_parts (is_var i.0.0.kind) (reachable x i.0 && goes_to core v.0 i.0.1) k.0 in
      let w = and_parts (reachable x i.0) (goes_to core v.0 i.0.1) q.1 in
      let p = ends_at own ns (λ n. old_value s i.0.1 n.0) (λ n. (with_number n.0 s, n.1)) k.1 in
      record { child = t.0; children = t.1; value = v.0; is_value = t.2; slot = i.0; is_slot = i.1; variable = var_is i.0.0.kind q.0; reachable = (reaches x i.0).0 w.0; goes = w.1; after_children = p.0; in_order = p.1; type = p.2; masks = p.3 }

  pub means_assign : (s : ℕ) → Assign core slots own ns x s → assign_says core slots ns x s (before own) ≡ Some (said_by own)
  means_assign s r =
      let test : assigns core x r.slot r.value ≡ true =
      and_from (is_var r.slot.0.kind) (reachable x r.slot && goes_to core r.value r.slot.1) (ap is_var r.variable)
      (and_from (reachable x r.slot) (goes_to core r.value r.slot.1) ((reaches x r.slot).1 r.reachable) r.goes) in
      bind_is (one_type ns) _ r.value (typed_one ns r.child r.value r.children r.is_value) ∙ bind_is (slot_of core slots x.method s) _ r.slot r.is_slot
      ∙ ap (λ b. cond b (assigned ns s r.slot.1 (before own)) None) test ∙ ended_at own ns (λ n. old_value s r.slot.1 n.0) (λ n. (with_number n.0 s, n.1)) r.after_children r.in_order r.type r.masks

-- ---- fields

module _ (core : CoreData) (own : Note) (ns : List Note) (x : Node) where
  this_is : (k : NodeKind) → is_this k ≡ true → k ≡ node.This
  this_is node.This e = refl
  this_is k e = absurd (false_true e)

  lacks_some : (e : ℕ) (o : Option Mask) → lacks_fields core e o ≡ true → (k : Mask) × (o ≡ Some k) × (full core e k ≡ true → ⊥)
  lacks_some e None h = absurd (false_true h)
  lacks_some e (Some k) h = (k, refl, λ f. false_true (ap not (sym f) ∙ h))

  incomplete_means : (o : Option Method) → slice_get core.methods x.method ≡ o → incomplete_in core ns x o ≡ true → Incomplete core ns x
  incomplete_means None i e = absurd (false_true e)
  incomplete_means (Some f) i e =
      let a = and_parts (constructs f.kind) (nat_eq x.depth 0 && lacks_fields core f.entity (own_set core x.children ns)) e in
      let b = and_parts (nat_eq x.depth 0) (lacks_fields core f.entity (own_set core x.children ns)) a.1 in
      let s = lacks_some f.entity (own_set core x.children ns) b.1 in
      let c = bind_some (last_child x.children) _ s.0 s.1 in
      let y = bind_some (slice_get core.nodes c.0) _ s.0 c.2 in
      let t = bind_some (last_note ns) _ s.0 y.2 in
      let k = kept (is_this y.0.kind) (Some t.0.set_before) s.0 t.2 in
      record {
        own = f;
        is_own = i;
        constructor = a.0;
        outside = eqb-true x.depth 0 b.0;
        child = c.0;
        is_child = c.1;
        origin = y.0;
        is_origin = y.1;
        is_this = this_is y.0.kind k.0;
        note = t.0;
        is_note = t.1;
        lacks = λ g. s.2 (ap (full core f.entity) (sym (same_Some t.0.set_before s.0 k.1)) ∙ g);
      }

  means_incomplete : Incomplete core ns x → incomplete core ns x ≡ true
  means_incomplete r =
      let set : own_set core x.children ns ≡ Some r.note.set_before =
      bind_is (last_child x.children) _ r.child r.is_child ∙ bind_is (slice_get core.nodes r.child) _ r.origin r.is_origin ∙ bind_is (last_note ns) _ r.note r.is_note
      ∙ ap (λ k. cond (is_this k) (Some r.note.set_before) None) r.is_this in
      ap (incomplete_in core ns x) r.is_own
      ∙ and_from (constructs r.own.kind) (nat_eq x.depth 0 && lacks_fields core r.own.entity (own_set core x.children ns)) r.constructor
      (and_from (nat_eq x.depth 0) (lacks_fields core r.own.entity (own_set core x.children ns)) (eq-eqb x.depth 0 r.outside)
      (ap (lacks_fields core r.own.entity) set ∙ ap not (not_true (full core r.own.entity r.note.set_before) r.lacks)))

  is_complete : incomplete core ns x ≡ false → Incomplete core ns x → ⊥
  is_complete e i = false_true (sym e ∙ means_incomplete i)

  complete_is : (Incomplete core ns x → ⊥) → incomplete core ns x ≡ false
  complete_is h = not_true (incomplete core ns x) (λ e. h (incomplete_means (slice_get core.methods x.method) refl e))

  pub get_means : (name : ℕ) → get_says core ns x name (before own) ≡ Some (said_by own) → Get core own ns x name
  get_means name h =
      let w = kept_otherwise (incomplete core ns x) (read_says core ns name (before own)) (said_by own) h in
      let o = bind_some (one_type ns) _ (said_by own) w.1 in
      let t = one_typed ns o.0 o.1 in
      let ty = bind_some (field_type core o.0 name) _ (said_by own) o.2 in
      let f = bind_some (field_of core o.0.0 name) _ ty.0 ty.1 in
      let v = bind_some (view o.0.1 f.0.1.cap) _ ty.0 f.2 in
      let p = ends own ns (Some ty.0) ty.2 in
      record { complete = is_complete w.0; child = t.0; children = t.1; origin = o.0; is_origin = t.2; field = f.0; is_field = f.1; seen = v.0; sees = v.1; type = p.0 ∙ sym v.2; masks = p.1 }

  pub means_get : (name : ℕ) → Get core own ns x name → get_says core ns x name (before own) ≡ Some (said_by own)
  means_get name r =
      let ty : field_type core r.origin name ≡ Some (r.field.1.entity, r.seen) = bind_is (field_of core r.origin.0 name) _ r.field r.is_field ∙ bind_is (view r.origin.1 r.field.1.cap) _ r.seen r.sees in
      ap (λ b. cond b None (read_says core ns name (before own))) (complete_is r.complete)
      ∙ bind_is (one_type ns) _ r.origin (typed_one ns r.child r.origin r.children r.is_origin)
      ∙ bind_is (field_type core r.origin name) _ (r.field.1.entity, r.seen) ty ∙ ended own ns (Some (r.field.1.entity, r.seen)) r.type r.masks

  abbrev seen_there : ℕ × FieldInfo → Form → Masks → Option Said
  seen_there f s n = cond (has n.1 f.0) (Some (says_of (Some (f.1.entity, s)) n)) None

  pub getown_means : (name : ℕ) → getown_says core ns x name (before own) ≡ Some (said_by own) → GetOwn core own ns x name
  getown_means name h =
      let w = kept (incomplete core ns x) (own_read_says core ns x name (before own)) (said_by own) h in
      let f = bind_some (own_field core x name) _ (said_by own) w.1 in
      let v = bind_some (view form.Ref f.0.1.cap) (λ s. through_notes ns (before own) >>= seen_there f.0 s) (said_by own) f.2 in
      let n = bind_some (through_notes ns (before own)) (seen_there f.0 v.0) (said_by own) v.2 in
      let k = kept (has n.0.1 f.0.0) (Some (says_of (Some (f.0.1.entity, v.0)) n.0)) (said_by own) n.2 in
      let p = said_parts own (Some (f.0.1.entity, v.0)) n.0 k.1 in
      record {
        incomplete = incomplete_means (slice_get core.methods x.method) refl w.0;
        field = f.0;
        is_field = f.1;
        seen = v.0;
        sees = v.1;
        set = subst (λ (m : Masks). has m.1 f.0.0 ≡ true) (sym p.1) k.0;
        type = p.0;
        masks = subst (OneAfterOther ns (before own)) (sym p.1) (through_means ns (before own) n.0 n.1);
      }

  pub means_getown : (name : ℕ) → GetOwn core own ns x name → getown_says core ns x name (before own) ≡ Some (said_by own)
  means_getown name r =
      ap (λ b. cond b (own_read_says core ns x name (before own)) None) (means_incomplete r.incomplete)
      ∙ bind_is (own_field core x name) _ r.field r.is_field
      ∙ bind_is (view form.Ref r.field.1.cap) (λ s. through_notes ns (before own) >>= seen_there r.field s) r.seen r.sees
      ∙ bind_is (through_notes ns (before own)) (seen_there r.field r.seen) (masks_after own) (means_through ns (before own) (masks_after own) r.masks)
      ∙ ap (λ b. cond b (Some (says_of (Some (r.field.1.entity, r.seen)) (masks_after own))) None) r.set
      ∙ parts_said own (Some (r.field.1.entity, r.seen)) (masks_after own) r.type refl

  pub put_means : (name : ℕ) → put_says core ns x name (before own) ≡ Some (said_by own) → Put core own ns x name
  put_means name h =
      let w = kept_otherwise (incomplete core ns x) (write_says core ns name (before own)) (said_by own) h in
      let vs = bind_some (two_types ns) _ (said_by own) w.1 in
      let c = two_typed ns vs.0 vs.1 in
      let ty = bind_some (old_type core vs.0.0 vs.0.1 name) _ (said_by own) vs.2 in
      let g = bind_some (written_field core vs.0.0 vs.0.1 name) _ ty.0 ty.1 in
      let f = bind_some (field_of core vs.0.1.0 name) _ g.0 g.1 in
      let k = kept (writes core vs.0.0 vs.0.1.1 f.0.1) (Some f.0.1) g.0 f.2 in
      let is : g.0 ≡ f.0.1 = sym (same_Some f.0.1 g.0 k.1) in
      let o = bind_some (taken vs.0.1.1 g.0.cap) _ ty.0 g.2 in
      let q = and_parts (not f.0.1.fixed) (goes_to core vs.0.0 (place f.0.1) && may_write vs.0.1.1 vs.0.0.1 f.0.1.cap) k.0 in
      let u = and_parts (goes_to core vs.0.0 (place f.0.1)) (may_write vs.0.1.1 vs.0.0.1 f.0.1.cap) q.1 in
      let p = ends own ns (Some ty.0) ty.2 in
      record {
        complete = is_complete w.0;
        first = c.0;
        second = c.1;
        children = c.2;
        value = vs.0.0;
        is_value = c.3;
        origin = vs.0.1;
        is_origin = c.4;
        field = f.0;
        is_field = f.1;
        variable = is_false f.0.1.fixed q.0;
        goes = u.0;
        may = u.1;
        old = o.0;
        takes = ap (λ (i : FieldInfo). taken vs.0.1.1 i.cap) (sym is) ∙ o.1;
        type = p.0 ∙ sym o.2 ∙ ap (λ (i : FieldInfo). Some (i.entity, o.0)) is;
        masks = p.1;
      }

  pub means_put : (name : ℕ) → Put core own ns x name → put_says core ns x name (before own) ≡ Some (said_by own)
  means_put name r =
      let test : writes core r.value r.origin.1 r.field.1 ≡ true =
      and_from (not r.field.1.fixed) (goes_to core r.value (place r.field.1) && may_write r.origin.1 r.value.1 r.field.1.cap) (ap not r.variable)
      (and_from (goes_to core r.value (place r.field.1)) (may_write r.origin.1 r.value.1 r.field.1.cap) r.goes r.may) in
      let g : written_field core r.value r.origin name ≡ Some r.field.1 = bind_is (field_of core r.origin.0 name) _ r.field r.is_field ∙ ap (λ b. cond b (Some r.field.1) None) test in
      let ty : old_type core r.value r.origin name ≡ Some (r.field.1.entity, r.old) = bind_is (written_field core r.value r.origin name) _ r.field.1 g ∙ bind_is (taken r.origin.1 r.field.1.cap) _ r.old r.takes in
      ap (λ b. cond b None (write_says core ns name (before own))) (complete_is r.complete)
      ∙ bind_is (two_types ns) _ (r.value, r.origin) (typed_two ns r.first r.second r.value r.origin r.children r.is_value r.is_origin)
      ∙ bind_is (old_type core r.value r.origin name) _ (r.field.1.entity, r.old) ty ∙ ended own ns (Some (r.field.1.entity, r.old)) r.type r.masks

  or_not : (a b : Bool) → (not a || not b) ≡ true → (a ≡ false) ⊎ (b ≡ true → ⊥)
  or_not a b e = elim (or_cases (not a) (not b) e) [ inl p ↦ inl (is_false a p) | inr p ↦ inr (false_no b (is_false b p)) ]

  not_or : (a b : Bool) → (a ≡ false) ⊎ (b ≡ true → ⊥) → (not a || not b) ≡ true
  not_or a b h = elim h [ inl p ↦ or_left (not a) (not b) (ap not p) | inr p ↦ or_right (not a) (not b) (ap not (not_true b p)) ]

  pub putown_means : (name : ℕ) → putown_says core ns x name (before own) ≡ Some (said_by own) → PutOwn core own ns x name
  putown_means name h =
      let w = kept (incomplete core ns x) (own_write_says core ns x name (before own)) (said_by own) h in
      let f = bind_some (own_field core x name) _ (said_by own) w.1 in
      let v = bind_some (value_type ns) _ (said_by own) f.2 in
      let c = bind_some (two_notes ns) _ v.0 v.1 in
      let n = bind_some (through_notes ns (before own)) _ (said_by own) v.2 in
      let k = kept (own_writes core v.0 f.0 n.0.1) (Some (says_of (own_old f.0 n.0.1) (n.0.0, with_number n.0.1 f.0.0))) (said_by own) n.2 in
      let q = and_parts (not f.0.1.fixed || not (has n.0.1 f.0.0)) (goes_to core v.0 (place f.0.1)) k.0 in
      let p = said_parts own (own_old f.0 n.0.1) (n.0.0, with_number n.0.1 f.0.0) k.1 in
      record {
        incomplete = incomplete_means (slice_get core.methods x.method) refl w.0;
        field = f.0;
        is_field = f.1;
        first = c.0.0;
        second = c.0.1;
        children = two_are ns c.0 c.1;
        value = v.0;
        is_value = c.2;
        after_children = n.0;
        in_order = through_means ns (before own) n.0 n.1;
        may = or_not f.0.1.fixed (has n.0.1 f.0.0) q.0;
        goes = q.1;
        type = p.0;
        masks = p.1;
      }

  pub means_putown : (name : ℕ) → PutOwn core own ns x name → putown_says core ns x name (before own) ≡ Some (said_by own)
  means_putown name r =
      let test : own_writes core r.value r.field r.after_children.1 ≡ true =
      and_from (not r.field.1.fixed || not (has r.after_children.1 r.field.0)) (goes_to core r.value (place r.field.1)) (not_or r.field.1.fixed (has r.after_children.1 r.field.0) r.may) r.goes in
      let v : value_type ns ≡ Some r.value = bind_is (two_notes ns) _ (r.first, r.second) (ap two_notes r.children) ∙ r.is_value in
      ap (λ b. cond b (own_write_says core ns x name (before own)) None) (means_incomplete r.incomplete)
      ∙ bind_is (own_field core x name) _ r.field r.is_field ∙ bind_is (value_type ns) _ r.value v
      ∙ bind_is (through_notes ns (before own)) _ r.after_children (means_through ns (before own) r.after_children r.in_order)
      ∙ ap (λ b. cond b (Some (says_of (own_old r.field r.after_children.1) (r.after_children.0, with_number r.after_children.1 r.field.0))) None) test
      ∙ parts_said own (own_old r.field r.after_children.1) (r.after_children.0, with_number r.after_children.1 r.field.0) r.type r.masks

-- ---- operators on one value, and those that are not tested as a pair

pub not_means : (own : Note) (ns : List Note) → not_says ns (before own) ≡ Some (said_by own) → Not own ns
not_means own ns h =
    let v = bind_some (one_type ns) _ (said_by own) h in
    let t = one_typed ns v.0 v.1 in
    let k = kept (reads_as 2 v.0) (value_says 2 ns (before own)) (said_by own) v.2 in
    let p = ends own ns (Some (2, form.Val)) k.1 in
    record { child = t.0; children = t.1; reads = reads_so 2 t.0.ty v.0 t.2 k.0; type = p.0; masks = p.1 }

pub means_not : (own : Note) (ns : List Note) → Not own ns → not_says ns (before own) ≡ Some (said_by own)
means_not own ns r =
    bind_is (one_type ns) _ r.reads.0 (typed_one ns r.child r.reads.0 r.children r.reads.1)
    ∙ ap (λ b. cond b (value_says 2 ns (before own)) None) (so_reads 2 r.child.ty r.reads) ∙ ended own ns (Some (2, form.Val)) r.type r.masks

pub identity_means : (own : Note) (ns : List Note) → identity_says ns (before own) ≡ Some (said_by own) → Identity own ns
identity_means own ns h =
    let vs = bind_some (two_types ns) _ (said_by own) h in
    let c = two_typed ns vs.0 vs.1 in
    let p = ends own ns (Some (2, form.Val)) vs.2 in
    record { left = c.0; right = c.1; children = c.2; left_type = vs.0.0; is_left = c.3; right_type = vs.0.1; is_right = c.4; type = p.0; masks = p.1 }

pub means_identity : (own : Note) (ns : List Note) → Identity own ns → identity_says ns (before own) ≡ Some (said_by own)
means_identity own ns r =
    bind_is (two_types ns) _ (r.left_type, r.right_type) (typed_two ns r.left r.right r.left_type r.right_type r.children r.is_left r.is_right)
    ∙ ended own ns (Some (2, form.Val)) r.type r.masks

pub lazy_means : (own : Note) (ns : List Note) → lazy_says ns (before own) ≡ Some (said_by own) → Lazy own ns
lazy_means own ns h =
    let vs = bind_some (two_types ns) _ (said_by own) h in
    let n = bind_some (lazy_masks ns (before own)) _ (said_by own) vs.2 in
    let k = kept (both_read_as 2 vs.0) (Some (says_of (Some (2, form.Val)) n.0)) (said_by own) n.2 in
    let a = bind_some (two_notes ns) types_of vs.0 vs.1 in
    let v = bind_some a.0.0.ty (λ v. a.0.1.ty >>= pair v) vs.0 a.2 in
    let w = bind_some a.0.1.ty (pair v.0) vs.0 v.2 in
    let is : (v.0, w.0) ≡ vs.0 = same_Some (v.0, w.0) vs.0 w.2 in
    let q = and_parts (reads_as 2 vs.0.0) (reads_as 2 vs.0.1) k.0 in
    let c = bind_some (two_notes ns) _ n.0 n.1 in
    let same : c.0 ≡ a.0 = same_Some c.0 a.0 (sym c.1 ∙ a.1) in
    let d = subst (λ (t : Note × Note). cond (starts t.0 (before own) && starts t.1 (masks_after t.0)) (Some (meet_masks (masks_after t.0) (masks_after t.1))) None ≡ Some n.0) same c.2 in
    let s = kept (starts a.0.0 (before own) && starts a.0.1 (masks_after a.0.0)) (Some (meet_masks (masks_after a.0.0) (masks_after a.0.1))) n.0 d in
    let u = and_parts (starts a.0.0 (before own)) (starts a.0.1 (masks_after a.0.0)) s.0 in
    let p = said_parts own (Some (2, form.Val)) n.0 k.1 in
    record {
      left = a.0.0;
      right = a.0.1;
      children = two_are ns a.0 a.1;
      left_reads = reads_so 2 a.0.0.ty vs.0.0 (v.1 ∙ ap (λ (t : Ty × Ty). Some t.0) is) q.0;
      right_reads = reads_so 2 a.0.1.ty vs.0.1 (w.1 ∙ ap (λ (t : Ty × Ty). Some t.1) is) q.1;
      type = p.0;
      starts = starts_so a.0.0 (before own) u.0;
      goes_on = starts_so a.0.1 (masks_after a.0.0) u.1;
      masks = p.1 ∙ sym (same_Some (meet_masks (masks_after a.0.0) (masks_after a.0.1)) n.0 s.1);
    }

pub means_lazy : (own : Note) (ns : List Note) → Lazy own ns → lazy_says ns (before own) ≡ Some (said_by own)
means_lazy own ns r =
    let a = r.left_reads in let b = r.right_reads in
    let test = and_from (reads_as 2 a.0) (reads_as 2 b.0) (so_reads 2 r.left.ty a) (so_reads 2 r.right.ty b) in
    let masks : lazy_masks ns (before own) ≡ Some (meet_masks (masks_after r.left) (masks_after r.right)) =
    bind_is (two_notes ns) _ (r.left, r.right) (ap two_notes r.children)
    ∙ ap (λ c. cond c (Some (meet_masks (masks_after r.left) (masks_after r.right))) None) (and_from (starts r.left (before own)) (starts r.right (masks_after r.left)) (is_starts r.left (before own) r.starts) (is_starts r.right (masks_after r.left) r.goes_on)) in
    bind_is (two_types ns) _ (a.0, b.0) (typed_two ns r.left r.right a.0 b.0 r.children a.1 b.1)
    ∙ bind_is (lazy_masks ns (before own)) _ (meet_masks (masks_after r.left) (masks_after r.right)) masks
    ∙ ap (λ c. cond c (Some (says_of (Some (2, form.Val)) (meet_masks (masks_after r.left) (masks_after r.right)))) None) test
    ∙ parts_said own (Some (2, form.Val)) (meet_masks (masks_after r.left) (masks_after r.right)) r.type r.masks
