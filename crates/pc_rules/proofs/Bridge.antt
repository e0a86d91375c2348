-- The conclusion of a rule for a node of an annotation by the numbers of its children is its conclusion by their notes.
use Rattle.std.specs.Prelude.{◌≡◌, ◌↔◌, ℕ, zero, suc, ◌-◌, Bool, true, false, cond, ◌&&◌, nat_eq, List, [], ◌∷◌, length, take, Option, Some, None, slice_get, refl}
use Rattle.std.proofs.{Common.{ap, sym, subst, ◌∙◌}, lemmas.Option.same_Some}
use Rattle.pc_caps.specs.{declared.capability.Cap.Cap, declared.capability.Form.Form, Tables.view, Computed.fits}
use Rattle.pc_caps.specs.declared.capability.Form.TheVariants as form
use Rattle.pc_core.specs.{declared.declarations.Method.Method, declared.declarations.ParamInfo.ParamInfo, declared.nodes.Node.Node, declared.nodes.NodeKind.NodeKind, CoreData.CoreData, Nodes.HasArity}
use Rattle.pc_core.specs.declared.nodes.NodeKind.TheVariants as node
use Rattle.pc_base.specs.Lists.{◌>>=◌}
use Rattle.pc_base.proofs.Options.{bind_some}
use Rattle.pc_masks.specs.{declared.mask.Mask.Mask, Masks.{within, same}}
use Rattle.pc_ann.specs.{declared.annotation.Note.Note, declared.annotation.Ann.Ann, declared.annotation.Rule.Rule}
use Rattle.pc_ann.specs.declared.annotation.Rule.TheVariants as rule
use Rattle.pc_rules.specs.{declared.said.Said.Said, Parts.{says_of, reads_as, constructs, starts, through, through_notes, type_of, types_of, one_child, one_note, one_type, two_notes, three_notes, last_child, last_note, notes_of}, Fields.lacks_fields, Operators.{is_arithmetic, is_comparison, is_equality, is_add, is_xor, comparable, both_read_as, meet_masks}, Control.{is_condition, joined}, Calls.{argument_goes, argument_sendable, is_function, is_behaviour, lends}, Rules.{rule_says, says, said_by, IsSaid, NoteIsSaid}}
use Rattle.pc_valid.specs.Words.{Ty, Masks, Slots, before, masks_after}
use Rattle.pc_rules.specs.Parts as parts
use Rattle.pc_rules.specs.Values as values
use Rattle.pc_rules.specs.Fields as fields
use Rattle.pc_rules.specs.Calls as calls
use Rattle.pc_rules.specs.Operators as operators
use Rattle.pc_rules.specs.Control as control
use Rattle.pc_rules.proofs.{ByNumber.{two_children, three_children, own_seen}, Alike.bind_same, Threads.{is_branch, Threaded, then_way, else_way, threads, if_threads}}
use Rattle.pc_rules.proofs.ByNumber as numbered

-- The notes of these nodes are these.
abbrev pub Noted : Ann → List ℕ → List Note → Type 0
Noted ann [] [] = Unit {0}
Noted ann (c ∷ cs) (t ∷ ts) = (slice_get ann.notes c ≡ Some t) × Noted ann cs ts
Noted ann cs ts = ⊥

bind_twice : {A B C : Type 0} → (o : Option A) (g : A → Option B) (f : B → Option C) → (o >>= λ c. g c >>= f) ≡ ((o >>= g) >>= f)
bind_twice None g f = refl
bind_twice (Some c) g f = refl

cond_then : {A B : Type 0} → (p : Bool) (a : A) (f : A → Option B) → (cond p (Some a) None >>= f) ≡ cond p (f a) None
cond_then true a f = refl
cond_then false a f = refl

cond_twice : {A : Type 0} → (p q : Bool) (o : Option A) → cond p (cond q o None) None ≡ cond (p && q) o None
cond_twice true q o = refl
cond_twice false q o = refl

module _ (ann : Ann) where
  length_by : (cs : List ℕ) (ns : List Note) → Noted ann cs ns → length cs ≡ length ns
  length_by [] [] h = refl
  length_by [] (t ∷ ts) h = absurd h
  length_by (c ∷ cs) [] h = absurd h
  length_by (c ∷ cs) (t ∷ ts) h = ap suc (length_by cs ts h.1)

  get_by : (cs : List ℕ) (ns : List Note) (i : ℕ) → Noted ann cs ns → (slice_get cs i >>= slice_get ann.notes) ≡ slice_get ns i
  get_by [] [] i h = refl
  get_by [] (t ∷ ts) i h = absurd h
  get_by (c ∷ cs) [] i h = absurd h
  get_by (c ∷ cs) (t ∷ ts) zero h = h.0
  get_by (c ∷ cs) (t ∷ ts) (suc i) h = get_by cs ts i h.1

  take_by : (k : ℕ) (cs : List ℕ) (ns : List Note) → Noted ann cs ns → Noted ann (take k cs) (take k ns)
  take_by zero cs ns h = tt
  take_by (suc k) [] [] h = tt
  take_by (suc k) [] (t ∷ ts) h = absurd h
  take_by (suc k) (c ∷ cs) [] h = absurd h
  take_by (suc k) (c ∷ cs) (t ∷ ts) h = (h.0, take_by k cs ts h.1)

  through_by : (cs : List ℕ) (ns : List Note) (m : Masks) → Noted ann cs ns → through ann cs m ≡ through_notes ns m
  through_by [] [] m h = refl
  through_by [] (t ∷ ts) m h = absurd h
  through_by (c ∷ cs) [] m h = absurd h
  through_by (c ∷ cs) (t ∷ ts) m h =
      ap (λ (o : Option Note). o >>= λ t. cond (starts t m) (through ann cs (masks_after t)) None) h.0
      ∙ ap (λ o. cond (starts t m) o None) (through_by cs ts (masks_after t) h.1)

  type_by : (c : ℕ) (t : Note) → slice_get ann.notes c ≡ Some t → type_of ann c ≡ t.ty
  type_by c t e = ap (λ (o : Option Note). o >>= λ t. t.ty) e

  only_by : (c : ℕ) (t : Note) (m : Masks) → slice_get ann.notes c ≡ Some t → through ann (c ∷ []) m ≡ cond (starts t m) (Some (masks_after t)) None
  only_by c t m e = ap (λ (o : Option Note). o >>= λ t. cond (starts t m) (Some (masks_after t)) None) e

  arguments_by : (core : CoreData) (cs : List ℕ) (ns : List Note) (ps : List ParamInfo) → Noted ann cs ns → numbered.arguments_go core ann cs ps ≡ calls.arguments_go core ns ps
  arguments_by core [] [] [] h = refl
  arguments_by core [] [] (p ∷ ps) h = refl
  arguments_by core [] (t ∷ ts) ps h = absurd h
  arguments_by core (c ∷ cs) [] ps h = absurd h
  arguments_by core (c ∷ cs) (t ∷ ts) [] h = refl
  arguments_by core (c ∷ cs) (t ∷ ts) (p ∷ ps) h =
      ap (λ ty. argument_goes core p ty && numbered.arguments_go core ann cs ps) (type_by c t h.0)
      ∙ ap (λ r. argument_goes core p t.ty && r) (arguments_by core cs ts ps h.1)

  sendable_by : (cs : List ℕ) (ns : List Note) (ps : List ParamInfo) → Noted ann cs ns → numbered.arguments_sendable ann cs ps ≡ calls.arguments_sendable ns ps
  sendable_by [] [] [] h = refl
  sendable_by [] [] (p ∷ ps) h = refl
  sendable_by [] (t ∷ ts) ps h = absurd h
  sendable_by (c ∷ cs) [] ps h = absurd h
  sendable_by (c ∷ cs) (t ∷ ts) [] h = refl
  sendable_by (c ∷ cs) (t ∷ ts) (p ∷ ps) h =
      ap (λ ty. argument_sendable p ty && numbered.arguments_sendable ann cs ps) (type_by c t h.0)
      ∙ ap (λ r. argument_sendable p t.ty && r) (sendable_by cs ts ps h.1)

  one_by : (cs : List ℕ) (ns : List Note) → Noted ann cs ns → (one_child cs >>= slice_get ann.notes) ≡ one_note ns
  one_by [] [] h = refl
  one_by [] (t ∷ ts) h = absurd h
  one_by (c ∷ cs) [] h = absurd h
  one_by (c ∷ []) (t ∷ []) h = h.0
  one_by (c ∷ d ∷ cs) (t ∷ []) h = absurd h.1
  one_by (c ∷ []) (t ∷ s ∷ ts) h = absurd h.1
  one_by (c ∷ d ∷ cs) (t ∷ s ∷ ts) h = refl

  -- Two children, and what is computed from them and from their notes.
  two_by : {A : Type 0} → (cs : List ℕ) (ns : List Note) (f : ℕ × ℕ → Option A) (g : Note × Note → Option A) → Noted ann cs ns
      → ((c : ℕ × ℕ) (t : Note × Note) → slice_get ann.notes c.0 ≡ Some t.0 → slice_get ann.notes c.1 ≡ Some t.1 → f c ≡ g t) → (two_children cs >>= f) ≡ (two_notes ns >>= g)
  two_by [] [] f g h k = refl
  two_by [] (t ∷ ts) f g h k = absurd h
  two_by (c ∷ cs) [] f g h k = absurd h
  two_by (c ∷ []) (t ∷ []) f g h k = refl
  two_by (c ∷ d ∷ cs) (t ∷ []) f g h k = absurd h.1
  two_by (c ∷ []) (t ∷ s ∷ ts) f g h k = absurd h.1
  two_by (c ∷ d ∷ []) (t ∷ s ∷ []) f g h k = k (c, d) (t, s) h.0 h.1.0
  two_by (c ∷ d ∷ []) (t ∷ s ∷ u ∷ ts) f g h k = absurd h.1.1
  two_by (c ∷ d ∷ e ∷ cs) (t ∷ s ∷ []) f g h k = absurd h.1.1
  two_by (c ∷ d ∷ e ∷ cs) (t ∷ s ∷ u ∷ ts) f g h k = refl

  three_by : {A : Type 0} → (cs : List ℕ) (ns : List Note) (f : ℕ × ℕ × ℕ → Option A) (g : Note × Note × Note → Option A) → Noted ann cs ns
      → ((c : ℕ × ℕ × ℕ) (t : Note × Note × Note) → slice_get ann.notes c.0 ≡ Some t.0 → slice_get ann.notes c.1 ≡ Some t.1 → slice_get ann.notes c.2 ≡ Some t.2 → f c ≡ g t)
      → (three_children cs >>= f) ≡ (three_notes ns >>= g)
  three_by [] [] f g h k = refl
  three_by [] (t ∷ ts) f g h k = absurd h
  three_by (c ∷ cs) [] f g h k = absurd h
  three_by (c ∷ []) (t ∷ []) f g h k = refl
  three_by (c ∷ d ∷ cs) (t ∷ []) f g h k = absurd h.1
  three_by (c ∷ []) (t ∷ s ∷ ts) f g h k = absurd h.1
  three_by (c ∷ d ∷ []) (t ∷ s ∷ []) f g h k = refl
  three_by (c ∷ d ∷ []) (t ∷ s ∷ u ∷ ts) f g h k = absurd h.1.1
  three_by (c ∷ d ∷ e ∷ cs) (t ∷ s ∷ []) f g h k = absurd h.1.1
  three_by (c ∷ d ∷ e ∷ []) (t ∷ s ∷ u ∷ []) f g h k = k (c, d, e) (t, s, u) h.0 h.1.0 h.1.1.0
  three_by (c ∷ d ∷ e ∷ []) (t ∷ s ∷ u ∷ v ∷ ts) f g h k = absurd h.1.1.1
  three_by (c ∷ d ∷ e ∷ i ∷ cs) (t ∷ s ∷ u ∷ []) f g h k = absurd h.1.1.1
  three_by (c ∷ d ∷ e ∷ i ∷ cs) (t ∷ s ∷ u ∷ v ∷ ts) f g h k = refl

  lazy_by : (c : ℕ × ℕ) (t : Note × Note) (m : Masks) → slice_get ann.notes c.0 ≡ Some t.0 → slice_get ann.notes c.1 ≡ Some t.1
      → (through ann (c.0 ∷ []) m >>= λ n. through ann (c.1 ∷ []) n >>= λ k. Some (meet_masks n k)) ≡ cond (starts t.0 m && starts t.1 (masks_after t.0)) (Some (meet_masks (masks_after t.0) (masks_after t.1))) None
  lazy_by c t m p q =
      bind_same (through ann (c.0 ∷ []) m) (cond (starts t.0 m) (Some (masks_after t.0)) None) _ _ (only_by c.0 t.0 m p) (λ n e.
      bind_same (through ann (c.1 ∷ []) n) (cond (starts t.1 n) (Some (masks_after t.1)) None) _ _ (only_by c.1 t.1 n q) (λ k f. refl))
      ∙ cond_then (starts t.0 m) (masks_after t.0) _
      ∙ ap (λ o. cond (starts t.0 m) o None) (cond_then (starts t.1 (masks_after t.0)) (masks_after t.1) _)
      ∙ cond_twice (starts t.0 m) (starts t.1 (masks_after t.0)) _

  branch_by : (c : ℕ × ℕ × ℕ) (t : Note × Note × Note) (m : Masks) → slice_get ann.notes c.0 ≡ Some t.0 → slice_get ann.notes c.1 ≡ Some t.1 → slice_get ann.notes c.2 ≡ Some t.2
      → numbered.branch_masks ann c m ≡ control.branch_masks t m
  branch_by c t m p q r =
      bind_same (through ann (c.0 ∷ []) m) (cond (starts t.0 m) (Some (masks_after t.0)) None) _ _ (only_by c.0 t.0 m p) (λ n e.
      bind_same (through ann (c.1 ∷ []) n) (cond (starts t.1 n) (Some (masks_after t.1)) None) _ _ (only_by c.1 t.1 n q) (λ a f.
      bind_same (through ann (c.2 ∷ []) n) (cond (starts t.2 n) (Some (masks_after t.2)) None) _ _ (only_by c.2 t.2 n r) (λ b g. refl)))
      ∙ cond_then (starts t.0 m) (masks_after t.0) _
      ∙ ap (λ o. cond (starts t.0 m) o None)
      (cond_then (starts t.1 (masks_after t.0)) (masks_after t.1) _
      ∙ ap (λ o. cond (starts t.1 (masks_after t.0)) o None) (cond_then (starts t.2 (masks_after t.0)) (masks_after t.2) _)
      ∙ cond_twice (starts t.1 (masks_after t.0)) (starts t.2 (masks_after t.0)) _)
      ∙ cond_twice (starts t.0 m) (starts t.1 (masks_after t.0) && starts t.2 (masks_after t.0)) _

  loop_by : (c : ℕ × ℕ) (t : Note × Note) (m : Masks) → slice_get ann.notes c.0 ≡ Some t.0 → slice_get ann.notes c.1 ≡ Some t.1 → numbered.loop_masks ann c m ≡ control.loop_masks t m
  loop_by c t m p q =
      bind_same (through ann (c.0 ∷ []) m) (cond (starts t.0 m) (Some (masks_after t.0)) None) _ _ (only_by c.0 t.0 m p) (λ n e.
      bind_same (through ann (c.1 ∷ []) n) (cond (starts t.1 n) (Some (masks_after t.1)) None) _ _ (only_by c.1 t.1 n q) (λ k f. refl))
      ∙ cond_then (starts t.0 m) (masks_after t.0) _
      ∙ ap (λ o. cond (starts t.0 m) o None) (cond_then (starts t.1 (masks_after t.0)) (masks_after t.1) _)
      ∙ cond_twice (starts t.0 m) (starts t.1 (masks_after t.0)) _
      ∙ cond_twice (starts t.0 m && starts t.1 (masks_after t.0)) (within m.0 t.1.live_after && same t.1.set_after m.1) _

-- The notes of the children of node x.
module _ (core : CoreData) (ann : Ann) (x : Node) (ns : List Note) (h : Noted ann x.children ns) where
  abbrev slots : Slots
  slots = ann.slots

  last_by : (last_child x.children >>= slice_get ann.notes) ≡ last_note ns
  last_by = get_by ann x.children ns (length x.children - 1) h ∙ ap (λ k. slice_get ns (k - 1)) (length_by ann x.children ns h)

  last_at : (c : ℕ) → last_child x.children ≡ Some c → slice_get ann.notes c ≡ last_note ns
  last_at c e = sym (ap (λ (o : Option ℕ). o >>= slice_get ann.notes) e) ∙ last_by

  given_by : Noted ann (numbered.arguments x.children) (calls.arguments ns)
  given_by = subst (λ k. Noted ann (numbered.arguments x.children) (take (k - 1) ns)) (length_by ann x.children ns h) (take_by ann (length x.children - 1) x.children ns h)

  through_then : (m : Masks) (f g : Masks → Option Said) → ((n : Masks) → f n ≡ g n) → (through ann x.children m >>= f) ≡ (through_notes ns m >>= g)
  through_then m f g k = bind_same (through ann x.children m) (through_notes ns m) f g (through_by ann x.children ns m h) (λ n p. k n)

  note_then : (f g : Note → Option Said) → ((t : Note) → f t ≡ g t) → (one_child x.children >>= λ c. slice_get ann.notes c >>= f) ≡ (one_note ns >>= g)
  note_then f g k = bind_twice (one_child x.children) (slice_get ann.notes) f ∙ bind_same (one_child x.children >>= slice_get ann.notes) (one_note ns) f g (one_by ann x.children ns h) (λ t e. k t)

  one_then : (f g : Ty → Option Said) → ((v : Ty) → f v ≡ g v) → (one_child x.children >>= λ c. type_of ann c >>= f) ≡ (one_type ns >>= g)
  one_then f g k =
      bind_twice (one_child x.children) (type_of ann) f
      ∙ bind_same (one_child x.children >>= type_of ann) (one_type ns) f g
      (bind_twice (one_child x.children) (slice_get ann.notes) (λ t. t.ty) ∙ ap (λ (o : Option Note). o >>= λ t. t.ty) (one_by ann x.children ns h)) (λ v e. k v)

  types_by : numbered.two_types ann x.children ≡ parts.two_types ns
  types_by =
      two_by ann x.children ns _ types_of h (λ c t p q.
      bind_same (type_of ann c.0) t.0.ty _ _ (type_by ann c.0 t.0 p) (λ v e.
      bind_same (type_of ann c.1) t.1.ty _ _ (type_by ann c.1 t.1 q) (λ w f. refl)))

  both_then : (f g : Ty × Ty → Option Said) → ((v : Ty × Ty) → f v ≡ g v) → (numbered.two_types ann x.children >>= f) ≡ (parts.two_types ns >>= g)
  both_then f g k = bind_same (numbered.two_types ann x.children) (parts.two_types ns) f g types_by (λ v e. k v)

  -- ---- values

  define_by : (s : ℕ) (m : Masks) → numbered.define_says core ann x s m ≡ values.define_says core slots ns x s m
  define_by s m =
      one_then _ _ (λ v.
      bind_same (parts.slot_of core slots x.method s) (parts.slot_of core slots x.method s) _ _ refl (λ i j.
      ap (λ o. cond (values.defines core i v) o None) (through_then m _ _ (λ n. refl))))

  assign_by : (s : ℕ) (m : Masks) → numbered.assign_says core ann x s m ≡ values.assign_says core slots ns x s m
  assign_by s m =
      one_then _ _ (λ v.
      bind_same (parts.slot_of core slots x.method s) (parts.slot_of core slots x.method s) _ _ refl (λ i j.
      ap (λ o. cond (values.assigns core x i v) o None) (through_then m _ _ (λ n. refl))))

  -- ---- fields

  own_set_by : numbered.own_set core ann x.children ≡ fields.own_set core x.children ns
  own_set_by =
      bind_same (last_child x.children) (last_child x.children) _ _ refl (λ c e.
      bind_same (slice_get core.nodes c) (slice_get core.nodes c) _ _ refl (λ y f.
      bind_same (slice_get ann.notes c) (last_note ns) _ _ (last_at c e) (λ t g. refl)))

  incomplete_in_by : (o : Option Method) → numbered.incomplete_in core ann x o ≡ fields.incomplete_in core ns x o
  incomplete_in_by None = refl
  incomplete_in_by (Some f) = ap (λ (s : Option Mask). constructs f.kind && (nat_eq x.depth 0 && lacks_fields core f.entity s)) own_set_by

  incomplete_by : numbered.incomplete core ann x ≡ fields.incomplete core ns x
  incomplete_by = incomplete_in_by (slice_get core.methods x.method)

  read_by : (name : ℕ) (m : Masks) → numbered.read_says core ann x name m ≡ fields.read_says core ns name m
  read_by name m =
      one_then _ _ (λ o.
      bind_same (fields.field_type core o name) (fields.field_type core o name) _ _ refl (λ ty e.
      through_then m _ _ (λ n. refl)))

  get_says_by : (name : ℕ) (m : Masks) → numbered.get_says core ann x name m ≡ fields.get_says core ns x name m
  get_says_by name m = ap (λ i. cond i None (numbered.read_says core ann x name m)) incomplete_by ∙ ap (λ o. cond (fields.incomplete core ns x) None o) (read_by name m)

  own_read_by : (name : ℕ) (m : Masks) → numbered.own_read_says core ann x name m ≡ fields.own_read_says core ns x name m
  own_read_by name m =
      bind_same (fields.own_field core x name) (fields.own_field core x name) _ _ refl (λ f e.
      bind_same (view form.Ref f.1.cap) (view form.Ref f.1.cap) _ _ refl (λ (s : Form) g.
      through_then m (own_seen f s) (own_seen f s) (λ n. refl)))

  getown_by : (name : ℕ) (m : Masks) → numbered.getown_says core ann x name m ≡ fields.getown_says core ns x name m
  getown_by name m = ap (λ i. cond i (numbered.own_read_says core ann x name m) None) incomplete_by ∙ ap (λ o. cond (fields.incomplete core ns x) o None) (own_read_by name m)

  write_by : (name : ℕ) (m : Masks) → numbered.write_says core ann x name m ≡ fields.write_says core ns name m
  write_by name m =
      both_then _ _ (λ vs.
      bind_same (fields.old_type core vs.0 vs.1 name) (fields.old_type core vs.0 vs.1 name) _ _ refl (λ ty f.
      through_then m _ _ (λ n. refl)))

  put_by : (name : ℕ) (m : Masks) → numbered.put_says core ann x name m ≡ fields.put_says core ns x name m
  put_by name m = ap (λ i. cond i None (numbered.write_says core ann x name m)) incomplete_by ∙ ap (λ o. cond (fields.incomplete core ns x) None o) (write_by name m)

  value_by : numbered.value_type ann x.children ≡ fields.value_type ns
  value_by = two_by ann x.children ns _ _ h (λ c t p q. type_by ann c.0 t.0 p)

  own_write_by : (name : ℕ) (m : Masks) → numbered.own_write_says core ann x name m ≡ fields.own_write_says core ns x name m
  own_write_by name m =
      bind_same (fields.own_field core x name) (fields.own_field core x name) _ _ refl (λ f e.
      bind_same (numbered.value_type ann x.children) (fields.value_type ns) _ _ value_by (λ v g.
      through_then m _ _ (λ n. refl)))

  putown_by : (name : ℕ) (m : Masks) → numbered.putown_says core ann x name m ≡ fields.putown_says core ns x name m
  putown_by name m = ap (λ i. cond i (numbered.own_write_says core ann x name m) None) incomplete_by ∙ ap (λ o. cond (fields.incomplete core ns x) o None) (own_write_by name m)

  -- ---- calls

  new_by : (k : ℕ) (m : Masks) → numbered.new_says core ann x k m ≡ calls.new_says core ns k m
  new_by k m =
      bind_same (slice_get core.methods k) (slice_get core.methods k) _ _ refl (λ f e.
      through_then m _ _ (λ n. ap (λ t. cond t (Some (says_of (Some f.result) n)) None) (arguments_by ann core x.children ns f.params h)))

  spawn_by : (k : ℕ) (m : Masks) → numbered.spawn_says core ann x k m ≡ calls.spawn_says core ns k m
  spawn_by k m =
      bind_same (slice_get core.methods k) (slice_get core.methods k) _ _ refl (λ f e.
      through_then m _ _ (λ n. ap (λ t. cond t (Some (says_of (Some (f.entity, form.Tag)) n)) None) (arguments_by ann core x.children ns f.params h)))

  receiver_by : (last_child x.children >>= type_of ann) ≡ (last_note ns >>= λ r. r.ty)
  receiver_by = bind_twice (last_child x.children) (slice_get ann.notes) (λ t. t.ty) ∙ ap (λ (o : Option Note). o >>= λ t. t.ty) last_by

  called_by : (name : ℕ) → numbered.called core ann x name ≡ calls.called core ns name
  called_by name =
      bind_twice (last_child x.children) (type_of ann) _
      ∙ bind_same (last_child x.children >>= type_of ann) (last_note ns >>= λ r. r.ty) _ _ receiver_by (λ o e. refl)
      ∙ sym (bind_twice (last_note ns) (λ r. r.ty) _)

  go_by : (f : Method) → numbered.arguments_go core ann (numbered.arguments x.children) f.params ≡ calls.arguments_go core (calls.arguments ns) f.params
  go_by f = arguments_by ann core (numbered.arguments x.children) (calls.arguments ns) f.params given_by

  calls_by : (o : Ty) (f : Method) → numbered.calls core ann x o f ≡ calls.calls core ns o f
  calls_by o f = ap (λ g. is_function f.kind && (g && fits o.1 f.receiver)) (go_by f)

  recovers_by : (o : Ty) (f : Method) → numbered.recovers core ann x o f ≡ calls.recovers core ns o f
  recovers_by o f =
      ap (λ g. (is_function f.kind && g) && (lends o.1 f.receiver && numbered.arguments_sendable ann (numbered.arguments x.children) f.params)) (go_by f)
      ∙ ap (λ g. (is_function f.kind && calls.arguments_go core (calls.arguments ns) f.params) && (lends o.1 f.receiver && g)) (sendable_by ann (numbered.arguments x.children) (calls.arguments ns) f.params given_by)

  sends_by : (f : Method) → numbered.sends core ann x f ≡ calls.sends core ns f
  sends_by f = ap (λ g. is_behaviour f.kind && g) (go_by f)

  call_by : (name : ℕ) (m : Masks) → numbered.call_says core ann x name m ≡ calls.call_says core ns name m
  call_by name m =
      bind_same (numbered.called core ann x name) (calls.called core ns name) _ _ (called_by name) (λ i e.
      bind_same (slice_get core.methods i.1) (slice_get core.methods i.1) _ _ refl (λ f g.
      through_then m _ _ (λ n. ap (λ t. cond t (Some (says_of (Some f.result) n)) None) (calls_by i.0 f))))

  send_by : (name : ℕ) (m : Masks) → numbered.send_says core ann x name m ≡ calls.send_says core ns name m
  send_by name m =
      bind_same (numbered.called core ann x name) (calls.called core ns name) _ _ (called_by name) (λ i e.
      bind_same (slice_get core.methods i.1) (slice_get core.methods i.1) _ _ refl (λ f g.
      through_then m _ _ (λ n. ap (λ t. cond t (Some (says_of (Some (0, form.Val)) n)) None) (sends_by f))))

  callrecover_by : (name : ℕ) (m : Masks) → numbered.callrecover_says core ann x name m ≡ calls.callrecover_says core ns name m
  callrecover_by name m =
      bind_same (numbered.called core ann x name) (calls.called core ns name) _ _ (called_by name) (λ i e.
      bind_same (slice_get core.methods i.1) (slice_get core.methods i.1) _ _ refl (λ f g.
      through_then m _ _ (λ n. ap (λ t. cond t (Some (says_of (calls.recovered_result f.result) n)) None) (recovers_by i.0 f))))

  builtin_by : (name : ℕ) (m : Masks) → numbered.builtin_says core ann x name m ≡ calls.builtin_says core ns name m
  builtin_by name m =
      one_then _ _ (λ v.
      bind_same (slice_get core.names name) (slice_get core.names name) _ _ refl (λ t e.
      through_then m _ _ (λ n. refl)))

  -- ---- operators

  value_says_by : (e : ℕ) (m : Masks) → numbered.value_says e ann x m ≡ operators.value_says e ns m
  value_says_by e m = through_then m _ _ (λ n. refl)

  tested_by : (e : ℕ) (m : Masks) (t : Ty × Ty → Bool) → (numbered.two_types ann x.children >>= λ v. cond (t v) (numbered.value_says e ann x m) None) ≡ (parts.two_types ns >>= λ v. cond (t v) (operators.value_says e ns m) None)
  tested_by e m t = both_then _ _ (λ v. ap (λ o. cond (t v) o None) (value_says_by e m))

  not_by : (m : Masks) → numbered.not_says ann x m ≡ operators.not_says ns m
  not_by m = one_then _ _ (λ v. ap (λ o. cond (reads_as 2 v) o None) (value_says_by 2 m))

  lazy_says_by : (m : Masks) → numbered.lazy_says ann x m ≡ operators.lazy_says ns m
  lazy_says_by m =
      both_then _ _ (λ v.
      bind_same (numbered.lazy_masks ann x.children m) (operators.lazy_masks ns m) _ _ (two_by ann x.children ns _ _ h (λ c t p q. lazy_by ann c t m p q)) (λ n e. refl))

  -- ---- control

  seq_by : (m : Masks) → numbered.seq_says core ann x m ≡ control.seq_says core ns x m
  seq_by m =
      bind_twice (last_child x.children) (slice_get ann.notes) _
      ∙ bind_same (last_child x.children >>= slice_get ann.notes) (last_note ns) _ _ last_by (λ t e.
      through_then m _ _ (λ n. refl))

  if_by : (m : Masks) → numbered.if_says core ann x m ≡ control.if_says core ns m
  if_by m =
      three_by ann x.children ns _ _ h (λ c t p q r.
      bind_same (numbered.branch_masks ann c m) (control.branch_masks t m) _ _ (branch_by ann c t m p q r) (λ n e.
      bind_same (numbered.branch_types ann c) (Some (t.1.ty, t.2.ty)) _ (λ ts. cond (is_condition t.0.ty) (Some (says_of (joined core ts.0 ts.1) n)) None)
      (ap (λ (o : Option Note). o >>= λ a. slice_get ann.notes c.2 >>= λ b. Some (a.ty, b.ty)) q ∙ ap (λ (o : Option Note). o >>= λ b. Some (t.1.ty, b.ty)) r)
      (λ ts f. ap (λ ty. cond (is_condition ty) (Some (says_of (joined core ts.0 ts.1) n)) None) (type_by ann c.0 t.0 p))))

  while_by : (m : Masks) → numbered.while_says ann x m ≡ control.while_says ns m
  while_by m =
      two_by ann x.children ns _ _ h (λ c t p q.
      bind_same (numbered.loop_masks ann c m) (control.loop_masks t m) _ _ (loop_by ann c t m p q) (λ n e.
      ap (λ ty. cond (is_condition ty) (Some (says_of (Some (0, form.Val)) n)) None) (type_by ann c.0 t.0 p)))

  recover_by : (k : Option Cap) (m : Masks) → numbered.recover_says ann x k m ≡ control.recover_says ns k m
  recover_by k m =
      one_then _ _ (λ v.
      bind_same (control.recovered k v.1) (control.recovered k v.1) _ _ refl (λ f e.
      through_then m _ _ (λ n. refl)))

  body_by : (m : Masks) → numbered.body_says core ann x m ≡ control.body_says core ns x m
  body_by m =
      bind_same (slice_get core.methods x.method) (slice_get core.methods x.method) _ _ refl (λ f i.
      note_then _ _ (λ t. through_then m _ _ (λ n. refl)))

  -- ---- every rule

  pub says_by : (r : Rule) (k : NodeKind) (m : Masks) → numbered.says core ann x m r k ≡ rule_says core ann.slots ns x m r k
  says_by rule.Get (node.Field name) m = get_says_by name m
  says_by rule.GetOwn (node.Field name) m = getown_by name m
  says_by rule.Put (node.SetField name) m = put_by name m
  says_by rule.PutOwn (node.SetField name) m = putown_by name m
  says_by rule.Define (node.Define s) m = define_by s m
  says_by rule.Assign (node.Assign s) m = assign_by s m
  says_by rule.New (node.New k) m = new_by k m
  says_by rule.Spawn (node.Spawn k) m = spawn_by k m
  says_by rule.Call (node.Call name) m = call_by name m
  says_by rule.CallRecover (node.Call name) m = callrecover_by name m
  says_by rule.Send (node.Call name) m = send_by name m
  says_by rule.Builtin (node.Call name) m = builtin_by name m
  says_by rule.Arith (node.Binary o) m = tested_by 1 m (λ v. is_arithmetic o && both_read_as 1 v)
  says_by rule.Compare (node.Binary o) m = tested_by 2 m (λ v. is_comparison o && both_read_as 1 v)
  says_by rule.Equal (node.Binary o) m = tested_by 2 m (λ v. is_equality o && comparable v)
  says_by rule.Join (node.Binary o) m = tested_by 3 m (λ v. is_add o && both_read_as 3 v)
  says_by rule.Logic (node.Binary o) m = tested_by 2 m (λ v. is_xor o && both_read_as 2 v)
  says_by rule.Logic node.Not m = not_by m
  says_by rule.Lazy node.And m = lazy_says_by m
  says_by rule.Lazy node.Or m = lazy_says_by m
  says_by rule.Identity (node.Same v) m = both_then _ _ (λ w. value_says_by 2 m)
  says_by rule.Seq node.Seq m = seq_by m
  says_by rule.If node.If m = if_by m
  says_by rule.While node.While m = while_by m
  says_by rule.Recover (node.Recover k) m = recover_by k m
  says_by rule.Body node.Body m = body_by m
  says_by r k m = refl

-- ---- in an annotation

noted_of : (ann : Ann) (cs : List ℕ) (ns : List Note) → notes_of ann.notes cs ≡ Some ns → Noted ann cs ns
noted_of ann [] ns e = subst (Noted ann []) (same_Some [] ns e) tt
noted_of ann (c ∷ cs) ns e =
    let a = bind_some (slice_get ann.notes c) _ ns e in
    let b = bind_some (notes_of ann.notes cs) _ ns a.2 in
    subst (Noted ann (c ∷ cs)) (same_Some (a.0 ∷ b.0) ns b.2) (a.1, noted_of ann cs b.0 b.1)

-- The conclusion by the notes of the children is the one by their numbers.
pub by_number : (core : CoreData) (ann : Ann) (x : Node) (m : Masks) (r : Rule) (k : NodeKind) (q : Said) → says core ann x m r k ≡ Some q → numbered.says core ann x m r k ≡ Some q
by_number core ann x m r k q e =
    let a = bind_some (notes_of ann.notes x.children) _ q e in
    says_by core ann x a.0 (noted_of ann x.children a.0 a.1) r k m ∙ a.2

pub meets_by_number : (core : CoreData) (ann : Ann) (x : Node) (t : Note) → IsSaid core ann x t → numbered.IsSaid core ann x t
meets_by_number core ann x t m = by_number core ann x (before t) t.rule x.kind (said_by t) m

pub meets_threads : (core : CoreData) (ann : Ann) (x : Node) (t : Note) → is_branch x.kind ≡ false → HasArity x.kind (length x.children) → IsSaid core ann x t → Threaded ann x.children (before t)
meets_threads core ann x t plain arity m = threads core ann x (before t) (said_by t) t.rule x.kind plain arity (meets_by_number core ann x t m)

pub meets_if_threads : (core : CoreData) (ann : Ann) (x : Node) (t : Note) → x.kind ≡ node.If → IsSaid core ann x t → Threaded ann (then_way x.children) (before t) × Threaded ann (else_way x.children) (before t)
meets_if_threads core ann x t is m = if_threads core ann x (before t) (said_by t) t.rule is (meets_by_number core ann x t m)
