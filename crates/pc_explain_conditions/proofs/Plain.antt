-- Rules that depend on one slot, on fields, or on one or two children: each against its conditions.
use Rattle.std.specs.Prelude.{◌≡◌, ℕ, Bool, true, false, ◌&&◌, ◌||◌, not, List, [], ◌∷◌, Option, Some, None, nat_eq, slice_get, if◌then◌else◌, refl}
use Rattle.pc_base.specs.Lists.{◌>>=◌}
use Rattle.pc_base.proofs.Bools.{false_true}
use Rattle.pc_masks.specs.Masks.{has, within, same, with_number}
use Rattle.pc_ann.specs.{declared.annotation.Note.Note, declared.annotation.Rule.Rule}
use Rattle.pc_ann.specs.declared.annotation.Rule.TheVariants as rule
use Rattle.pc_caps.specs.{Computed.{is_below, fits, may_write}, Tables.{view, taken}, declared.capability.Cap.Cap, declared.capability.Form.Form}
use Rattle.pc_caps.specs.declared.capability.Form.TheVariants as form
use Rattle.pc_core.specs.{CoreData.CoreData, declared.declarations.FieldInfo.FieldInfo, declared.declarations.Method.Method, declared.declarations.MethodKind.MethodKind, declared.nodes.Node.Node, declared.nodes.NodeKind.NodeKind, declared.nodes.Slot.Slot}
use Rattle.pc_core.specs.declared.declarations.MethodKind.TheVariants as method
use Rattle.pc_core.specs.declared.nodes.NodeKind.TheVariants as node
use Rattle.pc_sub.specs.Computed.{is_sub}
use Rattle.pc_rules.specs.{declared.said.Said.Said, Parts.{says_of, readable, slot_of, reachable, starts, through_notes}, Values.{is_var, same_place, defined_type, defines, assigns, assigned, defined}, Fields.{field_of, own_field, incomplete, own_old, own_writes, writes}, Operators.{value_says, both_read_as}, Control.{recovered, branch_masks, starts_method, result_ok, joined, is_condition}, Calls.is_function, Rules.rule_says}
use Rattle.pc_valid.specs.Words.{Ty, Masks, Slots, masks_after}
use Rattle.pc_explain_conditions.specs.{Conditions.{conditions, of_found, get_conditions, get_own_conditions, put_conditions, put_own_conditions, goes, assign_conditions, body_conditions, reads, both_read}, Failing.{first_false, holds_of, on, is_found}, declared.condition.Condition.Condition}
use Rattle.pc_explain_conditions.specs.declared.condition.Condition.TheVariants as asks
use Rattle.pc_explain_conditions.proofs.Opposed.{Opposed, typed, goes_through, is_some, asks_if, asks_two, if_true, if_false}

-- A rule for node x of kind k against its conditions.
abbrev pub AtNode : CoreData → Slots → List Note → Node → Masks → Rule → NodeKind → Type 0
AtNode core slots ns x m r k = Opposed (rule_says core slots ns x m r k) (first_false (holds_of core slots ns x m) (conditions core slots ns x r k))

-- ---- several tests

four_tests : {A B C : Type 0} → (n s f w t : Bool) (F : A) (k : A → Option B) (l : B → Option C) (cn cs cf ce cw : Condition) → Opposed (k F >>= l) (if t then None else Some cw)
    → Opposed (((if n && ((s && f) && w) then Some F else None) >>= k) >>= l) (if n then (if s then (if f then (if t then (if w then None else Some ce) else Some cw) else Some cf) else Some cs) else Some cn)
four_tests false s f w t F k l cn cs cf ce cw h = tt
four_tests true false f w t F k l cn cs cf ce cw h = tt
four_tests true true false w t F k l cn cs cf ce cw h = tt
four_tests true true true true true F k l cn cs cf ce cw h = h
four_tests true true true true false F k l cn cs cf ce cw h = h
four_tests true true true false true F k l cn cs cf ce cw h = tt
four_tests true true true false false F k l cn cs cf ce cw h = tt

three_tests : {A : Type 0} → (a b d : Bool) (s : Option A) (ca cb cd : Condition) → Opposed s None → Opposed (if a && (b && d) then s else None) (if a then (if b then (if d then None else Some cd) else Some cb) else Some ca)
three_tests false b d s ca cb cd h = tt
three_tests true false d s ca cb cd h = tt
three_tests true true false s ca cb cd h = tt
three_tests true true true s ca cb cd h = h

-- The first of them is not among the conditions, and holds.
given_tests : {A : Type 0} → (p a b : Bool) (s : Option A) (ca cb : Condition) → p ≡ true → Opposed s None → Opposed (if p && (a && b) then s else None) (if a then (if b then None else Some cb) else Some ca)
given_tests false a b s ca cb e h = absurd (false_true e)
given_tests true false b s ca cb e h = tt
given_tests true true false s ca cb e h = tt
given_tests true true true s ca cb e h = h

assign_tests : {A : Type 0} → (v r a b : Bool) (s : Option A) (cv cr ca cb : Condition) → Opposed s None
    → Opposed (if v && (r && (a && b)) then s else None) (if v then (if r then (if a then (if b then None else Some cb) else Some ca) else Some cr) else Some cv)
assign_tests false r a b s cv cr ca cb h = tt
assign_tests true false a b s cv cr ca cb h = tt
assign_tests true true false b s cv cr ca cb h = tt
assign_tests true true true false s cv cr ca cb h = tt
assign_tests true true true true s cv cr ca cb h = h

both_tests : {A : Type 0} → (g a r b t : Bool) (s : Option A) (ca cr cb ct : Condition) → g ≡ true → Opposed s None
    → Opposed (if g && ((a && r) && (b && t)) then s else None) (if a then (if r then (if b then (if t then None else Some ct) else Some cb) else Some cr) else Some ca)
both_tests false a r b t s ca cr cb ct e h = absurd (false_true e)
both_tests true false r b t s ca cr cb ct e h = tt
both_tests true true false b t s ca cr cb ct e h = tt
both_tests true true true false t s ca cr cb ct e h = tt
both_tests true true true true false s ca cr cb ct e h = tt
both_tests true true true true true s ca cr cb ct e h = h

-- The second side has no type.
one_side : (a r : Bool) (ca cr ct : Condition) → Opposed {A = Said} None (if a then (if r then Some ct else Some cr) else Some ca)
one_side false r ca cr ct = tt
one_side true false ca cr ct = tt
one_side true true ca cr ct = tt

loop_tests : {A B : Type 0} → (t w k a r : Bool) (n : A) (g : A → Option B) (ca cr cw ck : Condition) → t ≡ true → Opposed (g n) None
    → Opposed ((if t && (w && k) then Some n else None) >>= λ i. if a && r then g i else None) (if a then (if r then (if w then (if k then None else Some ck) else Some cw) else Some cr) else Some ca)
loop_tests false w k a r n g ca cr cw ck e h = absurd (false_true e)
loop_tests true true true true true n g ca cr cw ck e h = h
loop_tests true true true true false n g ca cr cw ck e h = tt
loop_tests true true true false r n g ca cr cw ck e h = tt
loop_tests true true false true true n g ca cr cw ck e h = tt
loop_tests true true false true false n g ca cr cw ck e h = tt
loop_tests true true false false r n g ca cr cw ck e h = tt
loop_tests true false k true true n g ca cr cw ck e h = tt
loop_tests true false k true false n g ca cr cw ck e h = tt
loop_tests true false k false r n g ca cr cw ck e h = tt

-- The condition of a loop has no type.
loop_untyped : {A : Type 0} → (b : Bool) (n : A) (c : Condition) → Opposed {A = Said} ((if b then Some n else None) >>= λ i. None) (Some c)
loop_untyped true n c = tt
loop_untyped false n c = tt

module _ (core : CoreData) (slots : Slots) (x : Node) (m : Masks) where
  -- ---- slots

  used_row : (a b : Bool) (p : ℕ × Cap) (g : ℕ × Cap → Said) (c d : Condition) → Opposed ((if a && b then Some p else None) >>= λ j. Some (g j)) (if a then (if b then None else Some d) else Some c)
  used_row true true p g c d = tt
  used_row true false p g c d = tt
  used_row false b p g c d = tt

  used_at : (g : ℕ × Cap → Said) (s : ℕ) (i : Slot × (ℕ × Cap)) → slot_of core slots x.method s ≡ Some i
      → Opposed ((slot_of core slots x.method s >>= λ j. if has m.0 s && reachable x j then Some j.1 else None) >>= λ j. Some (g j)) (if has m.0 s then (if on (slot_of core slots x.method s) (reachable x) then None else Some (asks.Reached s)) else Some (asks.Live s))
  used_at g s i e =
      is_some (slot_of core slots x.method s) i e
      (λ o. Opposed ((o >>= λ j. if has m.0 s && reachable x j then Some j.1 else None) >>= λ j. Some (g j)) (if has m.0 s then (if on o (reachable x) then None else Some (asks.Reached s)) else Some (asks.Live s)))
      (used_row (has m.0 s) (reachable x i) i.1 g (asks.Live s) (asks.Reached s))

  pub local_at : (ns : List Note) (s : ℕ) (i : Slot × (ℕ × Cap)) → slot_of core slots x.method s ≡ Some i → AtNode core slots ns x m rule.Local (node.Local s)
  local_at ns s i e = used_at _ s i e

  pub consume_at : (ns : List Note) (s : ℕ) (i : Slot × (ℕ × Cap)) → slot_of core slots x.method s ≡ Some i → AtNode core slots ns x m rule.Consume (node.Consume s)
  consume_at ns s i e = used_at _ s i e

  -- ---- fields

  get_seen : (v : Ty) (f : ℕ × FieldInfo) (ns : List Note) (n : Masks) (u : Option Form) → through_notes ns m ≡ Some n
      → Opposed ((u >>= λ seen. Some (f.1.entity, seen)) >>= λ ty. through_notes ns m >>= λ k. Some (says_of (Some ty) k)) (if is_found u then None else Some (asks.Seen 0 f.1.cap))
  get_seen v f ns n None e = tt
  get_seen v f ns n (Some seen) e = goes_through (through_notes ns m) n (says_of (Some (f.1.entity, seen))) e

  get_found : (t : Note) (v : Ty) (name : ℕ) (n : Masks) (w : Option (ℕ × FieldInfo)) → through_notes (typed t (Some v) ∷ []) m ≡ Some n
      → Opposed ((w >>= λ f. view v.1 f.1.cap >>= λ seen. Some (f.1.entity, seen)) >>= λ ty. through_notes (typed t (Some v) ∷ []) m >>= λ k. Some (says_of (Some ty) k)) (if is_found w then first_false (holds_of core slots (typed t (Some v) ∷ []) x m) (of_found w get_conditions) else Some (asks.HasField 0 name))
  get_found t v name n None e = tt
  get_found t v name n (Some f) e = get_seen v f (typed t (Some v) ∷ []) n (view v.1 f.1.cap) e

  pub get_at : (t : Note) (o : Option Ty) (name : ℕ) (n : Masks) → incomplete core (typed t o ∷ []) x ≡ false → through_notes (typed t o ∷ []) m ≡ Some n → AtNode core slots (typed t o ∷ []) x m rule.Get (node.Field name)
  get_at t None name n c e = if_false (incomplete core (typed t None ∷ []) x) None (Some (asks.Typed 0)) c tt
  get_at t (Some v) name n c e = if_false (incomplete core (typed t (Some v) ∷ []) x) _ _ c (get_found t v name n (field_of core v.0 name) e)

  own_seen : (f : ℕ × FieldInfo) (g : Masks → Said) (n : Masks) (o : Option Masks) → o ≡ Some n → Opposed (o >>= λ k. if has k.1 f.0 then Some (g k) else None) (if on o (λ k. has k.1 f.0) then None else Some (asks.Set f.0))
  own_seen f g n o e = is_some o n e (λ o. Opposed (o >>= λ k. if has k.1 f.0 then Some (g k) else None) (if on o (λ k. has k.1 f.0) then None else Some (asks.Set f.0))) (asks_if (has n.1 f.0) (Some (g n)) None (asks.Set f.0) tt)

  own_found : (ns : List Note) (name : ℕ) (n : Masks) (w : Option (ℕ × FieldInfo)) → through_notes ns m ≡ Some n
      → Opposed (w >>= λ f. view form.Ref f.1.cap >>= λ seen. through_notes ns m >>= λ k. if has k.1 f.0 then Some (says_of (Some (f.1.entity, seen)) k) else None) (if is_found w then first_false (holds_of core slots ns x m) (of_found w get_own_conditions) else Some (asks.HasOwnField name))
  own_found ns name n None e = tt
  own_found ns name n (Some f) e = own_seen f _ n (through_notes ns m) e

  pub get_own_at : (ns : List Note) (name : ℕ) (n : Masks) → incomplete core ns x ≡ true → through_notes ns m ≡ Some n → AtNode core slots ns x m rule.GetOwn (node.Field name)
  get_own_at ns name n c e = if_true (incomplete core ns x) _ _ c (own_found ns name n (own_field core x name) e)

  put_old : (ns : List Note) (f : FieldInfo) (n : Masks) (u : Option Form) → through_notes ns m ≡ Some n → Opposed ((u >>= λ old. Some (f.entity, old)) >>= λ ty. through_notes ns m >>= λ k. Some (says_of (Some ty) k)) (if is_found u then None else Some (asks.Writable 1 f.cap))
  put_old ns f n None e = tt
  put_old ns f n (Some old) e = goes_through (through_notes ns m) n (says_of (Some (f.entity, old))) e

  put_found : (a b : Note) (v o : Ty) (name : ℕ) (n : Masks) (w : Option (ℕ × FieldInfo)) → through_notes (typed a (Some v) ∷ typed b (Some o) ∷ []) m ≡ Some n
      → Opposed
      (((w >>= λ f. if writes core v o.1 f.1 then Some f.1 else None) >>= λ f. taken o.1 f.cap >>= λ old. Some (f.entity, old)) >>= λ ty. through_notes (typed a (Some v) ∷ typed b (Some o) ∷ []) m >>= λ k. Some (says_of (Some ty) k))
      (if is_found w then first_false (holds_of core slots (typed a (Some v) ∷ typed b (Some o) ∷ []) x m) (of_found w put_conditions) else Some (asks.HasField 1 name))
  put_found a b v o name n None e = tt
  put_found a b v o name n (Some f) e =
      four_tests (not f.1.fixed) (is_sub core v.0 f.1.entity) (fits v.1 f.1.cap) (may_write o.1 v.1 f.1.cap) (is_found (taken o.1 f.1.cap)) f.1 _ _
      (asks.NotFixed f.1.fixed) (asks.Under 0 f.1.entity) (asks.Fits 0 f.1.cap) (asks.Enters f.1.cap) (asks.Writable 1 f.1.cap)
      (put_old (typed a (Some v) ∷ typed b (Some o) ∷ []) f.1 n (taken o.1 f.1.cap) e)

  pub put_at : (a b : Note) (v o : Option Ty) (name : ℕ) (n : Masks) → incomplete core (typed a v ∷ typed b o ∷ []) x ≡ false → through_notes (typed a v ∷ typed b o ∷ []) m ≡ Some n → AtNode core slots (typed a v ∷ typed b o ∷ []) x m rule.Put (node.SetField name)
  put_at a b None o name n c e = if_false (incomplete core (typed a None ∷ typed b o ∷ []) x) None (Some (asks.Typed 0)) c tt
  put_at a b (Some v) None name n c e = if_false (incomplete core (typed a (Some v) ∷ typed b None ∷ []) x) None (Some (asks.Typed 1)) c tt
  put_at a b (Some v) (Some o) name n c e = if_false (incomplete core (typed a (Some v) ∷ typed b (Some o) ∷ []) x) _ _ c (put_found a b v o name n (field_of core o.0 name) e)

  own_put : (a b : Note) (v : Ty) (f : ℕ × FieldInfo) (n : Masks) (o : Option Masks) → o ≡ Some n
      → Opposed
      (o >>= λ k. if own_writes core v f k.1 then Some (says_of (own_old f k.1) (k.0, with_number k.1 f.0)) else None)
      (if on o (λ k. not f.1.fixed || not (has k.1 f.0)) then (if is_sub core v.0 f.1.entity then (if fits v.1 f.1.cap then None else Some (asks.Fits 0 f.1.cap)) else Some (asks.Under 0 f.1.entity)) else Some (asks.SetOnce f.1.fixed f.0))
  own_put a b v f n o e =
      is_some o n e
      (λ o. Opposed
      (o >>= λ k. if own_writes core v f k.1 then Some (says_of (own_old f k.1) (k.0, with_number k.1 f.0)) else None)
      (if on o (λ k. not f.1.fixed || not (has k.1 f.0)) then (if is_sub core v.0 f.1.entity then (if fits v.1 f.1.cap then None else Some (asks.Fits 0 f.1.cap)) else Some (asks.Under 0 f.1.entity)) else Some (asks.SetOnce f.1.fixed f.0)))
      (three_tests (not f.1.fixed || not (has n.1 f.0)) (is_sub core v.0 f.1.entity) (fits v.1 f.1.cap) _ (asks.SetOnce f.1.fixed f.0) (asks.Under 0 f.1.entity) (asks.Fits 0 f.1.cap) tt)

  own_put_found : (a b : Note) (v : Option Ty) (name : ℕ) (n : Masks) (w : Option (ℕ × FieldInfo)) → through_notes (typed a v ∷ b ∷ []) m ≡ Some n
      → Opposed
      (w >>= λ f. v >>= λ u. through_notes (typed a v ∷ b ∷ []) m >>= λ k. if own_writes core u f k.1 then Some (says_of (own_old f k.1) (k.0, with_number k.1 f.0)) else None)
      (if is_found w then first_false (holds_of core slots (typed a v ∷ b ∷ []) x m) (of_found w put_own_conditions) else Some (asks.HasOwnField name))
  own_put_found a b v name n None e = tt
  own_put_found a b None name n (Some f) e = tt
  own_put_found a b (Some v) name n (Some f) e = own_put a b v f n (through_notes (typed a (Some v) ∷ b ∷ []) m) e

  pub put_own_at : (a b : Note) (v : Option Ty) (name : ℕ) (n : Masks) → incomplete core (typed a v ∷ b ∷ []) x ≡ true → through_notes (typed a v ∷ b ∷ []) m ≡ Some n → AtNode core slots (typed a v ∷ b ∷ []) x m rule.PutOwn (node.SetField name)
  put_own_at a b v name n c e = if_true (incomplete core (typed a v ∷ b ∷ []) x) _ _ c (own_put_found a b v name n (own_field core x name) e)

  -- ---- definitions and assignments

  define_row : (t : Note) (o : Option Ty) (s : ℕ) (i : Slot × (ℕ × Cap)) (n : Masks) → ((v : Ty) → o ≡ Some v → same_place i.1 (defined_type i.0.written v) ≡ true) → through_notes (typed t o ∷ []) m ≡ Some n
      → Opposed (o >>= λ v. if defines core i v then defined (typed t o ∷ []) s m else None) (first_false (holds_of core slots (typed t o ∷ []) x m) (goes 0 i.1))
  define_row t None s i n p e = tt
  define_row t (Some v) s i n p e = given_tests (same_place i.1 (defined_type i.0.written v)) (is_sub core v.0 i.1.0) (fits v.1 i.1.1) _ (asks.Under 0 i.1.0) (asks.Fits 0 i.1.1) (p v refl) (goes_through (through_notes (typed t (Some v) ∷ []) m) n _ e)

  pub define_at : (t : Note) (o : Option Ty) (s : ℕ) (i : Slot × (ℕ × Cap)) (n : Masks) → slot_of core slots x.method s ≡ Some i → ((v : Ty) → o ≡ Some v → same_place i.1 (defined_type i.0.written v) ≡ true) → through_notes (typed t o ∷ []) m ≡ Some n
      → AtNode core slots (typed t o ∷ []) x m rule.Define (node.Define s)
  define_at t o s i n g p e =
      is_some (slot_of core slots x.method s) i g
      (λ w. Opposed (o >>= λ v. w >>= λ i. if defines core i v then defined (typed t o ∷ []) s m else None) (first_false (holds_of core slots (typed t o ∷ []) x m) (of_found (w >>= λ i. Some i.1) (goes 0))))
      (define_row t o s i n p e)

  assign_row : (t : Note) (v : Ty) (s : ℕ) (i : Slot × (ℕ × Cap)) (n : Masks) → through_notes (typed t (Some v) ∷ []) m ≡ Some n
      → Opposed (if assigns core x i v then assigned (typed t (Some v) ∷ []) s i.1 m else None)
      (if is_var i.0.kind then (if reachable x i then first_false (holds_of core slots (typed t (Some v) ∷ []) x m) (assign_conditions i.1) else Some (asks.Reached s)) else Some (asks.Variable s))
  assign_row t v s i n e =
      assign_tests (is_var i.0.kind) (reachable x i) (is_sub core v.0 i.1.0) (fits v.1 i.1.1) _ (asks.Variable s) (asks.Reached s) (asks.Under 0 i.1.0) (asks.Fits 0 i.1.1) (goes_through (through_notes (typed t (Some v) ∷ []) m) n _ e)

  pub assign_at : (t : Note) (o : Option Ty) (s : ℕ) (i : Slot × (ℕ × Cap)) (n : Masks) → slot_of core slots x.method s ≡ Some i → through_notes (typed t o ∷ []) m ≡ Some n → AtNode core slots (typed t o ∷ []) x m rule.Assign (node.Assign s)
  assign_at t None s i n g e = tt
  assign_at t (Some v) s i n g e =
      is_some (slot_of core slots x.method s) i g
      (λ w. Opposed (w >>= λ i. if assigns core x i v then assigned (typed t (Some v) ∷ []) s i.1 m else None)
      (if on w (λ i. is_var i.0.kind) then (if on w (reachable x) then first_false (holds_of core slots (typed t (Some v) ∷ []) x m) (of_found (w >>= λ i. Some i.1) assign_conditions) else Some (asks.Reached s)) else Some (asks.Variable s)))
      (assign_row t v s i n e)

  -- ---- operators

  pub value_there : (e : ℕ) (ns : List Note) (n : Masks) → through_notes ns m ≡ Some n → Opposed (value_says e ns m) None
  value_there e ns n t = goes_through (through_notes ns m) n (says_of (Some (e, form.Val))) t

  -- Two sides with one entity, and the conclusion of the rule then.
  pub both_at : (g : Bool) (e : ℕ) (a b : Note) (v w : Option Ty) (s : Option Said) → g ≡ true → Opposed s None
      → Opposed ((v >>= λ p. w >>= λ q. Some (p, q)) >>= λ vs. if g && both_read_as e vs then s else None) (first_false (holds_of core slots (typed a v ∷ typed b w ∷ []) x m) (both_read e))
  both_at g e a b None w s c h = tt
  both_at g e a b (Some v) None s c h = one_side (nat_eq v.0 e) (readable v.1) (asks.IsA 0 e) (asks.Readable 0) (asks.Typed 1)
  both_at g e a b (Some v) (Some w) s c h = both_tests g (nat_eq v.0 e) (readable v.1) (nat_eq w.0 e) (readable w.1) s (asks.IsA 0 e) (asks.Readable 0) (asks.IsA 1 e) (asks.Readable 1) c h

  pub not_at : (t : Note) (o : Option Ty) (n : Masks) → through_notes (typed t o ∷ []) m ≡ Some n → AtNode core slots (typed t o ∷ []) x m rule.Logic node.Not
  not_at t None n e = tt
  not_at t (Some v) n e = asks_two (nat_eq v.0 2) (readable v.1) _ None (asks.IsA 0 2) (asks.Readable 0) (value_there 2 (typed t (Some v) ∷ []) n e)

  pub identity_at : (a b : Note) (v w : Option Ty) (is : Bool) (n : Masks) → through_notes (typed a v ∷ typed b w ∷ []) m ≡ Some n → AtNode core slots (typed a v ∷ typed b w ∷ []) x m rule.Identity (node.Same is)
  identity_at a b None w is n e = tt
  identity_at a b (Some v) None is n e = tt
  identity_at a b (Some v) (Some w) is n e = value_there 2 (typed a (Some v) ∷ typed b (Some w) ∷ []) n e

  -- ---- branches, loops and recover

  pub if_at : (t c d : Note) (o : Option Ty) (n : Masks) → branch_masks (typed t o, c, d) m ≡ Some n → AtNode core slots (typed t o ∷ c ∷ d ∷ []) x m rule.If node.If
  if_at t c d o n e = is_some (branch_masks (typed t o, c, d) m) n e (λ w. Opposed (w >>= λ k. if is_condition o then Some (says_of (joined core c.ty d.ty) k) else None) (first_false (holds_of core slots (typed t o ∷ c ∷ d ∷ []) x m) (reads 0 2))) (if_row o)
    where
      if_row : (o : Option Ty) → Opposed (if is_condition o then Some (says_of (joined core c.ty d.ty) n) else None) (first_false (holds_of core slots (typed t o ∷ c ∷ d ∷ []) x m) (reads 0 2))
      if_row None = tt
      if_row (Some v) = asks_two (nat_eq v.0 2) (readable v.1) _ None (asks.IsA 0 2) (asks.Readable 0) tt

  pub while_at : (t b : Note) (o : Option Ty) → (starts t m && starts b (masks_after t)) ≡ true → AtNode core slots (typed t o ∷ b ∷ []) x m rule.While node.While
  while_at t b None e = loop_untyped ((starts t m && starts b (masks_after t)) && (within m.0 b.live_after && same b.set_after m.1)) (masks_after t)
      (asks.Typed 0)
  while_at t b (Some v) e =
      loop_tests (starts t m && starts b (masks_after t)) (within m.0 b.live_after) (same b.set_after m.1) (nat_eq v.0 2) (readable v.1) (masks_after t) _ (asks.IsA 0 2) (asks.Readable 0) asks.KeepsLive asks.KeepsSet e tt

  recover_row : (v : Ty) (k : Option Cap) (ns : List Note) (n : Masks) (u : Option Form) → through_notes ns m ≡ Some n → Opposed (u >>= λ f. through_notes ns m >>= λ k. Some (says_of (Some (v.0, f)) k)) (if is_found u then None else Some (asks.Lifted k))
  recover_row v k ns n None e = tt
  recover_row v k ns n (Some f) e = goes_through (through_notes ns m) n (says_of (Some (v.0, f))) e

  pub recover_at : (t : Note) (o : Option Ty) (k : Option Cap) (n : Masks) → through_notes (typed t o ∷ []) m ≡ Some n → AtNode core slots (typed t o ∷ []) x m rule.Recover (node.Recover k)
  recover_at t None k n e = tt
  recover_at t (Some v) k n e = recover_row v k (typed t (Some v) ∷ []) n (recovered k v.1) e

  -- ---- bodies

  body_row : (t : Note) (o : Option Ty) (f : Method) (n : Masks) (k : MethodKind) (s : Bool) → s ≡ true
      → Opposed (if s && result_ok core k f.result o then Some (says_of None n) else None) (first_false (holds_of core slots (typed t o ∷ []) x m) (if is_function k then asks.Typed 0 ∷ asks.Under 0 f.result.0 ∷ asks.Below 0 f.result.1 ∷ [] else []))
  body_row t o f n k false c = absurd (false_true c)
  body_row t None f n method.Fun true c = tt
  body_row t (Some v) f n method.Fun true c = asks_two (is_sub core v.0 f.result.0) (is_below v.1 f.result.1) _ None (asks.Under 0 f.result.0) (asks.Below 0 f.result.1) tt
  body_row t o f n method.Be true c = tt
  body_row t o f n method.New true c = tt
  body_row t o f n method.Spawn true c = tt

  pub body_at : (t : Note) (o : Option Ty) (f : Method) (n : Masks) → slice_get core.methods x.method ≡ Some f → starts_method core f m ≡ true → through_notes (typed t o ∷ []) m ≡ Some n → AtNode core slots (typed t o ∷ []) x m rule.Body node.Body
  body_at t o f n g c e =
      is_some (slice_get core.methods x.method) f g
      (λ w. Opposed (w >>= λ f. through_notes (typed t o ∷ []) m >>= λ k. if starts_method core f m && result_ok core f.kind f.result o then Some (says_of None k) else None) (first_false (holds_of core slots (typed t o ∷ []) x m) (of_found w body_conditions)))
      (is_some (through_notes (typed t o ∷ []) m) n e
      (λ w. Opposed (w >>= λ k. if starts_method core f m && result_ok core f.kind f.result o then Some (says_of None k) else None) (first_false (holds_of core slots (typed t o ∷ []) x m) (body_conditions f)))
      (body_row t o f n f.kind (starts_method core f m) c))
