-- Each record of the rules, and its counterpart in terms of what the rules compute.
use Rattle.std.specs.Prelude.{◌≡◌, ◌⊎◌, ◌↔◌, ℕ, Bool, true, false, List, Option, Some, None, refl}
use Rattle.std.proofs.{Common.{inl, inr, ap, sym, subst, ◌∙◌}, lemmas.Option.{same_Some, none-some}, lemmas.Bool.{and_parts, and_from}}
use Rattle.pc_caps.specs.{Tables.{unalias, enters, sendable_form}, Computed.fits, declared.capability.Cap.Cap, declared.capability.Form.Form}
use Rattle.pc_caps.specs.declared.capability.Form.TheVariants as form
use Rattle.pc_tree.specs.declared.kinds.Op.{Op}
use Rattle.pc_tree.specs.declared.kinds.Op.TheVariants as op
use Rattle.pc_core.specs.{declared.declarations.Method.Method, declared.nodes.Node.Node, declared.nodes.NodeKind.NodeKind, CoreData.CoreData, Formed.Formed}
use Rattle.pc_core.specs.declared.nodes.NodeKind.TheVariants as node
use Rattle.pc_base.proofs.Bools.{false_true}
use Rattle.pc_ann.specs.{declared.annotation.Note.Note, declared.annotation.Rule.Rule}
use Rattle.pc_ann.specs.declared.annotation.Rule.TheVariants as rule
use Rattle.pc_masks.specs.{declared.mask.Mask.Mask, Masks.has, MaskLaws.within_bits}
use Rattle.pc_rules.specs.{Operators.is_equality, Control.without_items, Rules.{rule_says, said_by}, Statements.SaysWhatIsMeant}
use Rattle.pc_rules.proofs.Meaning as mirror
use Rattle.pc_rules.proofs.{Meant.{literal_means, means_literal, this_means, means_this, local_means, means_local, consume_means, means_consume, get_means, means_get, getown_means, means_getown, put_means, means_put, putown_means, means_putown, define_means, means_define, assign_means, means_assign, not_means, means_not, lazy_means, means_lazy, identity_means, means_identity}, MeantCalls.{new_means, means_new, spawn_means, means_spawn, call_means, means_call, callrecover_means, means_callrecover, send_means, means_send, builtin_means, means_builtin, arith_means, means_arith, compare_means, means_compare, equal_means, means_equal, join_means, means_join, xor_means, means_xor, seq_means, means_seq, if_means, means_if, while_means, means_while, recover_means, means_recover, body_means, means_body}, RecordWords.{order_iff, sendable_iff, arithmetic_iff, comparison_iff, equality_iff, add_iff, xor_iff, ends_to, to_ends, lower_iff, fits_iff, goes_iff, reads_iff, choice, chosen, joined_to, to_joined, recovers_to, to_recovers, all_set_iff, starts_to, to_starts, slot_to, to_slot, defined_to, to_defined, field_to, to_field, own_at, at_own, gives_up, go_to, to_go, called_to, to_called, incomplete_to, to_incomplete}}
use Rattle.pc_valid.specs.Words.{Masks, masks_after, Ty, ReadsValue, Slots, before, AllSet}
use Rattle.pc_valid.specs.Valid as spec

either_reads : (d e : ℕ) (o : Option Ty) → (mirror.Reads d o ⊎ mirror.Reads e o) ↔ (ReadsValue d o ⊎ ReadsValue e o)
either_reads d e o = (
  λ h. elim h [ inl r ↦ inl ((reads_iff d o).0 r) | inr r ↦ inr ((reads_iff e o).0 r) ],
  λ h. elim h [ inl r ↦ inl ((reads_iff d o).1 r) | inr r ↦ inr ((reads_iff e o).1 r) ],
)

abbrev pair : Mask → Mask → Masks
pair a b = (a, b)

both_masks : (a b : Mask) (c d : Mask) → a ≡ b → c ≡ d → ◌≡◌ {A = Masks} (a, c) (b, d)
both_masks a b c d e g = ap (λ (m : Mask). pair m c) e ∙ ap (λ (m : Mask). pair b m) g

-- What is computed and what the record says, by way of the step between them.
both_ways : {said step record_holds : Type 0} → (said → step) → (step → said) → (step → record_holds) → (record_holds → step) → said ↔ record_holds
both_ways means meant to from = (λ h. to (means h), λ r. meant (from r))

pub not_so : (b : Bool) → (b ≡ true → ⊥) → b ≡ false
not_so true n = absurd (n refl)
not_so false n = refl

module _ (core : CoreData) (formed : Formed core) (slots : Slots) (own : Note) (ns : List Note) (x : Node) where
  literal_to : (e : ℕ) → mirror.Literal own e → spec.Literal own e
  literal_to e r =
      record {
        type = r.type;
        masks = r.masks;
      }

  to_literal : (e : ℕ) → spec.Literal own e → mirror.Literal own e
  to_literal e r =
      record {
        type = r.type;
        masks = r.masks;
      }

  this_to : mirror.This core slots own x → spec.This core slots own x
  this_to r =
      let c = slot_to core slots x 0 r.slot r.is_slot in
      let is : c.home ≡ r.home = same_Some c.home r.home (sym c.is_home ∙ r.is_home) in
      record {
        this = slot_to core slots x 0 r.slot r.is_slot;
        seen = r.seen;
        whole = λ a q. r.whole ((all_set_iff core r.home.entity own.set_before formed).1 (subst (λ (z : Method). AllSet core z.entity own.set_before) is a)) q;
        else_tag = λ n. r.else_tag (λ a q. n (subst (λ (z : Method). AllSet core z.entity own.set_before) (sym is) ((all_set_iff core r.home.entity own.set_before formed).0 a)) q);
        type = r.type ∙ ap (λ (z : Method). Some (z.entity, r.seen)) (sym is);
        masks = r.masks;
      }

  to_this : spec.This core slots own x → mirror.This core slots own x
  to_this r =
      record {
        home = r.this.home;
        is_home = r.this.is_home;
        slot = (r.this.slot, (r.this.entity, r.this.cap));
        is_slot = to_slot core slots x 0 r.this;
        seen = r.seen;
        whole = λ a q. r.whole ((all_set_iff core r.this.home.entity own.set_before formed).0 a) q;
        else_tag = λ n. r.else_tag (λ a q. n ((all_set_iff core r.this.home.entity own.set_before formed).1 a) q);
        type = r.type;
        masks = r.masks;
      }

  local_to : (s : ℕ) → mirror.Local core slots own x s → spec.LocalRule core slots own x s
  local_to s r =
      record {
        of = slot_to core slots x s r.slot r.is_slot;
        live = r.live;
        reachable = r.reachable;
        type = r.type;
        masks = r.masks;
      }

  to_local : (s : ℕ) → spec.LocalRule core slots own x s → mirror.Local core slots own x s
  to_local s r =
      record {
        slot = (r.of.slot, (r.of.entity, r.of.cap));
        is_slot = to_slot core slots x s r.of;
        live = r.live;
        reachable = r.reachable;
        type = r.type;
        masks = r.masks;
      }

  consume_to : (s : ℕ) → mirror.Consume core slots own x s → spec.Consume core slots own x s
  consume_to s r =
      record {
        of = slot_to core slots x s r.slot r.is_slot;
        live = r.live;
        reachable = r.reachable;
        type = r.type;
        masks = r.masks;
      }

  to_consume : (s : ℕ) → spec.Consume core slots own x s → mirror.Consume core slots own x s
  to_consume s r =
      record {
        slot = (r.of.slot, (r.of.entity, r.of.cap));
        is_slot = to_slot core slots x s r.of;
        live = r.live;
        reachable = r.reachable;
        type = r.type;
        masks = r.masks;
      }

  define_to : (s : ℕ) → mirror.Define core slots own ns x s → spec.Define core slots own ns x s
  define_to s r =
      record {
        child = r.child;
        children = r.children;
        value = r.value;
        is_value = r.is_value;
        of = slot_to core slots x s r.slot r.is_slot;
        has_type = defined_to r.slot.0.written r.value r.slot.1 r.has_type;
        goes = (goes_iff core r.value r.slot.1 formed).0 r.goes;
        type = r.type;
        after_children = r.after_children;
        in_order = (order_iff ns (before own) r.after_children).0 r.in_order;
        masks = r.masks;
      }

  to_define : (s : ℕ) → spec.Define core slots own ns x s → mirror.Define core slots own ns x s
  to_define s r =
      record {
        child = r.child;
        children = r.children;
        value = r.value;
        is_value = r.is_value;
        slot = (r.of.slot, (r.of.entity, r.of.cap));
        is_slot = to_slot core slots x s r.of;
        has_type = to_defined r.of.slot.written r.value (r.of.entity, r.of.cap) r.has_type;
        goes = (goes_iff core r.value (r.of.entity, r.of.cap) formed).1 r.goes;
        type = r.type;
        after_children = r.after_children;
        in_order = (order_iff ns (before own) r.after_children).1 r.in_order;
        masks = r.masks;
      }

  assign_to : (s : ℕ) → mirror.Assign core slots own ns x s → spec.Assign core slots own ns x s
  assign_to s r =
      record {
        child = r.child;
        children = r.children;
        value = r.value;
        is_value = r.is_value;
        of = slot_to core slots x s r.slot r.is_slot;
        variable = r.variable;
        reachable = r.reachable;
        goes = (goes_iff core r.value r.slot.1 formed).0 r.goes;
        after_children = r.after_children;
        in_order = (order_iff ns (before own) r.after_children).0 r.in_order;
        old = (choice (has r.after_children.0 s) (Some (r.slot.1.0, unalias r.slot.1.1)) None own.ty r.type).0;
        no_old = (choice (has r.after_children.0 s) (Some (r.slot.1.0, unalias r.slot.1.1)) None own.ty r.type).1;
        masks = r.masks;
      }

  to_assign : (s : ℕ) → spec.Assign core slots own ns x s → mirror.Assign core slots own ns x s
  to_assign s r =
      record {
        child = r.child;
        children = r.children;
        value = r.value;
        is_value = r.is_value;
        slot = (r.of.slot, (r.of.entity, r.of.cap));
        is_slot = to_slot core slots x s r.of;
        variable = r.variable;
        reachable = r.reachable;
        goes = (goes_iff core r.value (r.of.entity, r.of.cap) formed).1 r.goes;
        after_children = r.after_children;
        in_order = (order_iff ns (before own) r.after_children).1 r.in_order;
        type = chosen (has r.after_children.0 s) (Some (r.of.entity, unalias r.of.cap)) None own.ty r.old r.no_old;
        masks = r.masks;
      }

  get_to : (name : ℕ) → mirror.Get core own ns x name → spec.Get core own ns x name
  get_to name r =
      record {
        complete = λ i. r.complete (to_incomplete core formed ns x i);
        child = r.child;
        children = r.children;
        origin = r.origin;
        is_origin = r.is_origin;
        of = field_to core r.origin.0 name r.field r.is_field;
        seen = r.seen;
        sees = r.sees;
        type = r.type;
        masks = (order_iff ns (before own) (masks_after own)).0 r.masks;
      }

  to_get : (name : ℕ) → spec.Get core own ns x name → mirror.Get core own ns x name
  to_get name r =
      record {
        complete = λ i. r.complete (incomplete_to core formed ns x i);
        child = r.child;
        children = r.children;
        origin = r.origin;
        is_origin = r.is_origin;
        field = (r.of.number, r.of.field);
        is_field = to_field core r.origin.0 name formed r.of;
        seen = r.seen;
        sees = r.sees;
        type = r.type;
        masks = (order_iff ns (before own) (masks_after own)).1 r.masks;
      }

  getown_to : (name : ℕ) → mirror.GetOwn core own ns x name → spec.GetOwn core own ns x name
  getown_to name r =
      record {
        incomplete = incomplete_to core formed ns x r.incomplete;
        of = field_to core r.incomplete.own.entity name r.field (own_at core x name r.incomplete.own r.field r.incomplete.is_own r.is_field);
        seen = r.seen;
        sees = r.sees;
        set = r.set;
        type = r.type;
        masks = (order_iff ns (before own) (masks_after own)).0 r.masks;
      }

  to_getown : (name : ℕ) → spec.GetOwn core own ns x name → mirror.GetOwn core own ns x name
  to_getown name r =
      record {
        incomplete = to_incomplete core formed ns x r.incomplete;
        field = (r.of.number, r.of.field);
        is_field = at_own core x name r.incomplete.home (r.of.number, r.of.field) r.incomplete.is_home (to_field core r.incomplete.home.entity name formed r.of);
        seen = r.seen;
        sees = r.sees;
        set = r.set;
        type = r.type;
        masks = (order_iff ns (before own) (masks_after own)).1 r.masks;
      }

  put_to : (name : ℕ) → mirror.Put core own ns x name → spec.Put core own ns x name
  put_to name r =
      record {
        complete = λ i. r.complete (to_incomplete core formed ns x i);
        first = r.first;
        second = r.second;
        children = r.children;
        value = r.value;
        is_value = r.is_value;
        origin = r.origin;
        is_origin = r.is_origin;
        of = field_to core r.origin.0 name r.field r.is_field;
        variable = r.variable;
        goes = (goes_iff core r.value (r.field.1.entity, r.field.1.cap) formed).0 r.goes;
        may_enter = (and_parts (fits r.value.1 r.field.1.cap) (enters r.origin.1 r.value.1 r.field.1.cap) r.may).1;
        old = r.old;
        takes = r.takes;
        type = r.type;
        masks = (order_iff ns (before own) (masks_after own)).0 r.masks;
      }

  to_put : (name : ℕ) → spec.Put core own ns x name → mirror.Put core own ns x name
  to_put name r =
      record {
        complete = λ i. r.complete (incomplete_to core formed ns x i);
        first = r.first;
        second = r.second;
        children = r.children;
        value = r.value;
        is_value = r.is_value;
        origin = r.origin;
        is_origin = r.is_origin;
        field = (r.of.number, r.of.field);
        is_field = to_field core r.origin.0 name formed r.of;
        variable = r.variable;
        goes = (goes_iff core r.value (r.of.field.entity, r.of.field.cap) formed).1 r.goes;
        may = and_from (fits r.value.1 r.of.field.cap) (enters r.origin.1 r.value.1 r.of.field.cap) ((fits_iff r.value.1 r.of.field.cap).1 r.goes.1) r.may_enter;
        old = r.old;
        takes = r.takes;
        type = r.type;
        masks = (order_iff ns (before own) (masks_after own)).1 r.masks;
      }

  putown_to : (name : ℕ) → mirror.PutOwn core own ns x name → spec.PutOwn core own ns x name
  putown_to name r =
      record {
        incomplete = incomplete_to core formed ns x r.incomplete;
        of = field_to core r.incomplete.own.entity name r.field (own_at core x name r.incomplete.own r.field r.incomplete.is_own r.is_field);
        first = r.first;
        second = r.second;
        children = r.children;
        value = r.value;
        is_value = r.is_value;
        after_children = r.after_children;
        in_order = (order_iff ns (before own) r.after_children).0 r.in_order;
        may = r.may;
        goes = (goes_iff core r.value (r.field.1.entity, r.field.1.cap) formed).0 r.goes;
        old = λ h. ((gives_up r.field.1.cap).0, (gives_up r.field.1.cap).1, (choice (has r.after_children.1 r.field.0) (Some (r.field.1.entity, (gives_up r.field.1.cap).0)) None own.ty r.type).0 h);
        no_old = (choice (has r.after_children.1 r.field.0) (Some (r.field.1.entity, (gives_up r.field.1.cap).0)) None own.ty r.type).1;
        masks = r.masks;
      }

  to_putown : (name : ℕ) → spec.PutOwn core own ns x name → mirror.PutOwn core own ns x name
  to_putown name r =
      record {
        incomplete = to_incomplete core formed ns x r.incomplete;
        field = (r.of.number, r.of.field);
        is_field = at_own core x name r.incomplete.home (r.of.number, r.of.field) r.incomplete.is_home (to_field core r.incomplete.home.entity name formed r.of);
        first = r.first;
        second = r.second;
        children = r.children;
        value = r.value;
        is_value = r.is_value;
        after_children = r.after_children;
        in_order = (order_iff ns (before own) r.after_children).1 r.in_order;
        may = r.may;
        goes = (goes_iff core r.value (r.of.field.entity, r.of.field.cap) formed).1 r.goes;
        type = chosen (has r.after_children.1 r.of.number) (Some (r.of.field.entity, (gives_up r.of.field.cap).0)) None own.ty (λ h. let q = r.old h in q.2 ∙ ap (λ (g : Form). Some (r.of.field.entity, g)) (same_Some q.0 (gives_up r.of.field.cap).0 (sym q.1 ∙ (gives_up r.of.field.cap).1))) r.no_old;
        masks = r.masks;
      }

  new_to : (k : ℕ) → mirror.New core own ns k → spec.New core own ns k
  new_to k r =
      record {
        called = r.called;
        is_called = r.is_called;
        go = go_to core formed ns r.called.params r.go;
        type = r.type;
        masks = (order_iff ns (before own) (masks_after own)).0 r.masks;
      }

  to_new : (k : ℕ) → spec.New core own ns k → mirror.New core own ns k
  to_new k r =
      record {
        called = r.called;
        is_called = r.is_called;
        go = to_go core formed ns r.called.params r.go;
        type = r.type;
        masks = (order_iff ns (before own) (masks_after own)).1 r.masks;
      }

  spawn_to : (k : ℕ) → mirror.Spawn core own ns k → spec.Spawn core own ns k
  spawn_to k r =
      record {
        called = r.called;
        is_called = r.is_called;
        go = go_to core formed ns r.called.params r.go;
        type = r.type;
        masks = (order_iff ns (before own) (masks_after own)).0 r.masks;
      }

  to_spawn : (k : ℕ) → spec.Spawn core own ns k → mirror.Spawn core own ns k
  to_spawn k r =
      record {
        called = r.called;
        is_called = r.is_called;
        go = to_go core formed ns r.called.params r.go;
        type = r.type;
        masks = (order_iff ns (before own) (masks_after own)).1 r.masks;
      }

  call_to : (name : ℕ) → mirror.Call core own ns name → spec.Call core own ns name
  call_to name r =
      record {
        call = called_to core formed ns name r.call;
        function = r.function;
        go = go_to core formed r.call.arguments r.call.called.params r.go;
        fit = (fits_iff r.call.to.1 r.call.called.receiver).0 r.fit;
        type = r.type;
        masks = (order_iff ns (before own) (masks_after own)).0 r.masks;
      }

  to_call : (name : ℕ) → spec.Call core own ns name → mirror.Call core own ns name
  to_call name r =
      record {
        call = to_called core formed ns name r.call;
        function = r.function;
        go = to_go core formed r.call.arguments r.call.called.params r.go;
        fit = (fits_iff r.call.to.1 r.call.called.receiver).1 r.fit;
        type = r.type;
        masks = (order_iff ns (before own) (masks_after own)).1 r.masks;
      }

  callrecover_to : (name : ℕ) → mirror.CallRecover core own ns name → spec.CallRecover core own ns name
  callrecover_to name r =
      record {
        call = called_to core formed ns name r.call;
        function = r.function;
        go = go_to core formed r.call.arguments r.call.called.params r.go;
        no_fit = λ p. false_true (sym r.no_fit ∙ (fits_iff r.call.to.1 r.call.called.receiver).1 p);
        isolated = r.isolated;
        lent = r.lent;
        may_go = (sendable_iff r.call.arguments r.call.called.params).0 r.may_go;
        result = (choice (sendable_form r.call.called.result.1) (Some r.call.called.result) None own.ty r.type).0;
        no_result = (choice (sendable_form r.call.called.result.1) (Some r.call.called.result) None own.ty r.type).1;
        masks = (order_iff ns (before own) (masks_after own)).0 r.masks;
      }

  to_callrecover : (name : ℕ) → spec.CallRecover core own ns name → mirror.CallRecover core own ns name
  to_callrecover name r =
      record {
        call = to_called core formed ns name r.call;
        function = r.function;
        go = to_go core formed r.call.arguments r.call.called.params r.go;
        no_fit = not_so (fits r.call.to.1 r.call.called.receiver) (λ e. r.no_fit ((fits_iff r.call.to.1 r.call.called.receiver).0 e));
        isolated = r.isolated;
        lent = r.lent;
        may_go = (sendable_iff r.call.arguments r.call.called.params).1 r.may_go;
        type = chosen (sendable_form r.call.called.result.1) (Some r.call.called.result) None own.ty r.result r.no_result;
        masks = (order_iff ns (before own) (masks_after own)).1 r.masks;
      }

  send_to : (name : ℕ) → mirror.Send core own ns name → spec.Send core own ns name
  send_to name r =
      record {
        call = called_to core formed ns name r.call;
        behaviour = r.behaviour;
        go = go_to core formed r.call.arguments r.call.called.params r.go;
        type = r.type;
        masks = (order_iff ns (before own) (masks_after own)).0 r.masks;
      }

  to_send : (name : ℕ) → spec.Send core own ns name → mirror.Send core own ns name
  to_send name r =
      record {
        call = to_called core formed ns name r.call;
        behaviour = r.behaviour;
        go = to_go core formed r.call.arguments r.call.called.params r.go;
        type = r.type;
        masks = (order_iff ns (before own) (masks_after own)).1 r.masks;
      }

  builtin_to : (name : ℕ) → mirror.Builtin core own ns name → spec.Builtin core own ns name
  builtin_to name r =
      record {
        child = r.child;
        children = r.children;
        is_string = r.is_string;
        reads = (either_reads 1 2 r.child.ty).0 r.reads;
        type = r.type;
        masks = (order_iff ns (before own) (masks_after own)).0 r.masks;
      }

  to_builtin : (name : ℕ) → spec.Builtin core own ns name → mirror.Builtin core own ns name
  to_builtin name r =
      record {
        child = r.child;
        children = r.children;
        is_string = r.is_string;
        reads = (either_reads 1 2 r.child.ty).1 r.reads;
        type = r.type;
        masks = (order_iff ns (before own) (masks_after own)).1 r.masks;
      }

  operator_to : (e d : ℕ) → mirror.BothRead e ns → own.ty ≡ Some (d, form.Val) → mirror.OneAfterOther ns (before own) (masks_after own) → spec.Operator own ns e d
  operator_to e d r t m =
      record { left = r.0; right = r.1; children = r.2; left_reads = (reads_iff e r.0.ty).0 r.3; right_reads = (reads_iff e r.1.ty).0 r.4; type = t; masks = (order_iff ns (before own) (masks_after own)).0 m }

  to_both : (e d : ℕ) → spec.Operator own ns e d → mirror.BothRead e ns
  to_both e d r = (r.left, r.right, r.children, (reads_iff e r.left.ty).1 r.left_reads, (reads_iff e r.right.ty).1 r.right_reads)

  arith_to : (o : Op) → mirror.Arith own ns o → spec.IsOneOf spec.arithmetic o × spec.Operator own ns 1 1
  arith_to o r = ((arithmetic_iff o).0 r.operator, operator_to 1 1 r.both r.type r.masks)

  to_arith : (o : Op) → spec.IsOneOf spec.arithmetic o × spec.Operator own ns 1 1 → mirror.Arith own ns o
  to_arith o m = record { operator = (arithmetic_iff o).1 m.0; both = to_both 1 1 m.1; type = m.1.type; masks = (order_iff ns (before own) (masks_after own)).1 m.1.masks }

  compare_to : (o : Op) → mirror.Compare own ns o → spec.IsOneOf spec.comparisons o × spec.Operator own ns 1 2
  compare_to o r = ((comparison_iff o).0 r.operator, operator_to 1 2 r.both r.type r.masks)

  to_compare : (o : Op) → spec.IsOneOf spec.comparisons o × spec.Operator own ns 1 2 → mirror.Compare own ns o
  to_compare o m = record { operator = (comparison_iff o).1 m.0; both = to_both 1 2 m.1; type = m.1.type; masks = (order_iff ns (before own) (masks_after own)).1 m.1.masks }

  join_to : (o : Op) → mirror.Join own ns o → (o ≡ op.Add) × spec.Operator own ns 3 3
  join_to o r = ((add_iff o).0 r.operator, operator_to 3 3 r.both r.type r.masks)

  to_join : (o : Op) → (o ≡ op.Add) × spec.Operator own ns 3 3 → mirror.Join own ns o
  to_join o m = record {
    operator = (add_iff o).1 m.0;
    both = to_both 3 3 m.1;
    type = m.1.type;
    masks =
        (order_iff ns (before own) (masks_after own)).1 m.1.masks;
  }

  xor_to : (o : Op) → mirror.Xor own ns o → (o ≡ op.Xor) × spec.Operator own ns 2 2
  xor_to o r = ((xor_iff o).0 r.operator, operator_to 2 2 r.both r.type r.masks)

  to_xor : (o : Op) → (o ≡ op.Xor) × spec.Operator own ns 2 2 → mirror.Xor own ns o
  to_xor o m = record {
    operator = (xor_iff o).1 m.0;
    both = to_both 2 2 m.1;
    type = m.1.type;
    masks =
        (order_iff ns (before own) (masks_after own)).1 m.1.masks;
  }

  abbrev Equals : Type 0
  Equals = spec.Operator own ns 1 2 ⊎ (spec.Operator own ns 2 2 ⊎ spec.Operator own ns 3 2)

  equal_to : (o : Op) → mirror.Equal own ns o → spec.IsOneOf spec.equalities o × Equals
  equal_to o r = (
    (equality_iff o).0 r.operator,
    elim r.both [
      | inl b ↦ inl (operator_to 1 2 b r.type r.masks)
      | inr h ↦ elim h [ inl b ↦ inr (inl (operator_to 2 2 b r.type r.masks)) | inr b ↦ inr (inr (operator_to 3 2 b r.type r.masks)) ]
    ],
  )

  equals : (o : Op) (e : ℕ) → is_equality o ≡ true → mirror.BothRead 1 ns ⊎ (mirror.BothRead 2 ns ⊎ mirror.BothRead 3 ns) → spec.Operator own ns e 2 → mirror.Equal own ns o
  equals o e t b r = record { operator = t; both = b; type = r.type; masks = (order_iff ns (before own) (masks_after own)).1 r.masks }

  to_equal : (o : Op) → spec.IsOneOf spec.equalities o × Equals → mirror.Equal own ns o
  to_equal o m =
      let t = (equality_iff o).1 m.0 in
      elim m.1 [
        | inl r ↦ equals o 1 t (inl (to_both 1 2 r)) r
        | inr h ↦ elim h [ inl r ↦ equals o 2 t (inr (inl (to_both 2 2 r))) r | inr r ↦ equals o 3 t (inr (inr (to_both 3 2 r))) r ]
      ]

  not_to : mirror.Not own ns → spec.Not own ns
  not_to r =
      record {
        child = r.child;
        children = r.children;
        reads = (reads_iff 2 r.child.ty).0 r.reads;
        type = r.type;
        masks = (order_iff ns (before own) (masks_after own)).0 r.masks;
      }

  to_not : spec.Not own ns → mirror.Not own ns
  to_not r =
      record {
        child = r.child;
        children = r.children;
        reads = (reads_iff 2 r.child.ty).1 r.reads;
        type = r.type;
        masks = (order_iff ns (before own) (masks_after own)).1 r.masks;
      }

  lazy_to : mirror.Lazy own ns → spec.Lazy own ns
  lazy_to r =
      record {
        left = r.left;
        right = r.right;
        children = r.children;
        left_reads = (reads_iff 2 r.left.ty).0 r.left_reads;
        right_reads = (reads_iff 2 r.right.ty).0 r.right_reads;
        type = r.type;
        left_starts = r.starts;
        right_starts = r.goes_on;
        masks = r.masks;
      }

  to_lazy : spec.Lazy own ns → mirror.Lazy own ns
  to_lazy r =
      record {
        left = r.left;
        right = r.right;
        children = r.children;
        left_reads = (reads_iff 2 r.left.ty).1 r.left_reads;
        right_reads = (reads_iff 2 r.right.ty).1 r.right_reads;
        type = r.type;
        starts = r.left_starts;
        goes_on = r.right_starts;
        masks = r.masks;
      }

  identity_to : mirror.Identity own ns → spec.Identity own ns
  identity_to r =
      record {
        left = r.left;
        right = r.right;
        children = r.children;
        left_type = r.left_type;
        is_left = r.is_left;
        right_type = r.right_type;
        is_right = r.is_right;
        type = r.type;
        masks = (order_iff ns (before own) (masks_after own)).0 r.masks;
      }

  to_identity : spec.Identity own ns → mirror.Identity own ns
  to_identity r =
      record {
        left = r.left;
        right = r.right;
        children = r.children;
        left_type = r.left_type;
        is_left = r.is_left;
        right_type = r.right_type;
        is_right = r.is_right;
        type = r.type;
        masks = (order_iff ns (before own) (masks_after own)).1 r.masks;
      }

  seq_to : mirror.Seq core own ns x → spec.SeqRule core own ns x
  seq_to r =
      record {
        front = r.front;
        last = r.last;
        children = r.children;
        type = r.type;
        after_children = r.after_children;
        in_order = (order_iff ns (before own) r.after_children).0 r.in_order;
        live = ends_to core x.children r.after_children.0 own.live_after (ap (λ (m : Masks). m.0) r.masks);
        set = ap (λ (m : Masks). m.1) r.masks;
      }

  to_seq : spec.SeqRule core own ns x → mirror.Seq core own ns x
  to_seq r =
      record {
        front = r.front;
        last = r.last;
        children = r.children;
        type = r.type;
        after_children = r.after_children;
        in_order = (order_iff ns (before own) r.after_children).1 r.in_order;
        masks = both_masks own.live_after (without_items core x.children r.after_children.0) own.set_after r.after_children.1 (to_ends core x.children r.after_children.0 own.live_after r.live) r.set;
      }

  if_to : mirror.If core own ns → spec.If core own ns
  if_to r =
      record {
        condition = r.condition;
        first = r.yes;
        second = r.no;
        children = r.children;
        reads = (reads_iff 2 r.condition.ty).0 r.reads;
        type = joined_to core formed r.yes.ty r.no.ty own.ty r.type;
        condition_starts = r.starts;
        first_starts = r.yes_starts;
        second_starts = r.no_starts;
        masks = r.masks;
      }

  to_if : spec.If core own ns → mirror.If core own ns
  to_if r =
      record {
        condition = r.condition;
        yes = r.first;
        no = r.second;
        children = r.children;
        reads = (reads_iff 2 r.condition.ty).1 r.reads;
        type = to_joined core formed r.first.ty r.second.ty own.ty r.type;
        starts = r.condition_starts;
        yes_starts = r.first_starts;
        no_starts = r.second_starts;
        masks = r.masks;
      }

  while_to : mirror.While own ns → spec.While own ns
  while_to r =
      record {
        condition = r.condition;
        body = r.body;
        children = r.children;
        reads = (reads_iff 2 r.condition.ty).0 r.reads;
        type = r.type;
        condition_starts = r.starts;
        body_starts = r.body_starts;
        keeps_live = (within_bits own.live_before r.body.live_after).0 r.keeps;
        keeps_set = r.same_set;
        masks = r.masks;
      }

  to_while : spec.While own ns → mirror.While own ns
  to_while r =
      record {
        condition = r.condition;
        body = r.body;
        children = r.children;
        reads = (reads_iff 2 r.condition.ty).1 r.reads;
        type = r.type;
        starts = r.condition_starts;
        body_starts = r.body_starts;
        keeps = (within_bits own.live_before r.body.live_after).1 r.keeps_live;
        same_set = r.keeps_set;
        masks = r.masks;
      }

  recover_to : (k : Option Cap) → mirror.Recover own ns k → spec.Recover own ns k
  recover_to k r =
      record {
        child = r.child;
        children = r.children;
        value = r.value;
        is_value = r.is_value;
        lifted = r.lifted;
        recovers = recovers_to k r.value.1 r.lifted r.is_lifted;
        type = r.type;
        masks = (order_iff ns (before own) (masks_after own)).0 r.masks;
      }

  to_recover : (k : Option Cap) → spec.Recover own ns k → mirror.Recover own ns k
  to_recover k r =
      record {
        child = r.child;
        children = r.children;
        value = r.value;
        is_value = r.is_value;
        lifted = r.lifted;
        is_lifted = to_recovers k r.value.1 r.lifted r.recovers;
        type = r.type;
        masks = (order_iff ns (before own) (masks_after own)).1 r.masks;
      }

  body_to : mirror.Body core own ns x → spec.Body core own ns x
  body_to r =
      record {
        home = r.home;
        is_home = r.is_home;
        child = r.child;
        children = r.children;
        live = r.live;
        set = starts_to core r.home own.set_before r.set;
        result = λ k. let q = r.result k in (q.0, q.1, (lower_iff core q.0 r.home.result formed).0 q.2);
        type = r.type;
        masks = (order_iff ns (before own) (masks_after own)).0 r.masks;
      }

  to_body : spec.Body core own ns x → mirror.Body core own ns x
  to_body r =
      record {
        home = r.home;
        is_home = r.is_home;
        child = r.child;
        children = r.children;
        live = r.live;
        set = to_starts core x.method r.home own.set_before formed r.is_home r.set;
        result = λ k. let q = r.result k in (q.0, q.1, (lower_iff core q.0 r.home.result formed).1 q.2);
        type = r.type;
        masks = (order_iff ns (before own) (masks_after own)).1 r.masks;
      }

  -- ---- every rule

  -- A rule concludes what the note states iff its record holds for the note.
  said_is_meant : (r : Rule) (k : NodeKind) → (rule_says core slots ns x (before own) r k ≡ Some (said_by own)) ↔ spec.Means core slots own ns x r k
  said_is_meant rule.Number (node.Number v) = both_ways (literal_means own 1) (means_literal own 1) (literal_to 1) (to_literal 1)
  said_is_meant rule.Truth (node.Truth v) = both_ways (literal_means own 2) (means_literal own 2) (literal_to 2) (to_literal 2)
  said_is_meant rule.Text (node.Text v) = both_ways (literal_means own 3) (means_literal own 3) (literal_to 3) (to_literal 3)
  said_is_meant rule.Prim (node.Prim e) = both_ways (literal_means own e) (means_literal own e) (literal_to e) (to_literal e)
  said_is_meant rule.This node.This = both_ways (this_means core slots own ns x) (means_this core slots own ns x) (this_to) (to_this)
  said_is_meant rule.Local (node.Local s) = both_ways (local_means core slots own ns x s) (means_local core slots own ns x s) (local_to s) (to_local s)
  said_is_meant rule.Consume (node.Consume s) = both_ways (consume_means core slots own ns x s) (means_consume core slots own ns x s) (consume_to s) (to_consume s)
  said_is_meant rule.Get (node.Field name) = both_ways (get_means core own ns x name) (means_get core own ns x name) (get_to name) (to_get name)
  said_is_meant rule.GetOwn (node.Field name) = both_ways (getown_means core own ns x name) (means_getown core own ns x name) (getown_to name) (to_getown name)
  said_is_meant rule.Put (node.SetField name) = both_ways (put_means core own ns x name) (means_put core own ns x name) (put_to name) (to_put name)
  said_is_meant rule.PutOwn (node.SetField name) = both_ways (putown_means core own ns x name) (means_putown core own ns x name) (putown_to name) (to_putown name)
  said_is_meant rule.Define (node.Define s) = both_ways (define_means core slots own ns x s) (means_define core slots own ns x s) (define_to s) (to_define s)
  said_is_meant rule.Assign (node.Assign s) = both_ways (assign_means core slots own ns x s) (means_assign core slots own ns x s) (assign_to s) (to_assign s)
  said_is_meant rule.New (node.New k) = both_ways (new_means core own ns k) (means_new core own ns k) (new_to k) (to_new k)
  said_is_meant rule.Spawn (node.Spawn k) = both_ways (spawn_means core own ns k) (means_spawn core own ns k) (spawn_to k) (to_spawn k)
  said_is_meant rule.Call (node.Call name) = both_ways (call_means core own ns name) (means_call core own ns name) (call_to name) (to_call name)
  said_is_meant rule.CallRecover (node.Call name) = both_ways (callrecover_means core own ns name) (means_callrecover core own ns name) (callrecover_to name) (to_callrecover name)
  said_is_meant rule.Send (node.Call name) = both_ways (send_means core own ns name) (means_send core own ns name) (send_to name) (to_send name)
  said_is_meant rule.Builtin (node.Call name) = both_ways (builtin_means core own ns name) (means_builtin core own ns name) (builtin_to name) (to_builtin name)
  said_is_meant rule.Arith (node.Binary o) = both_ways (arith_means own ns o) (means_arith own ns o) (arith_to o) (to_arith o)
  said_is_meant rule.Compare (node.Binary o) = both_ways (compare_means own ns o) (means_compare own ns o) (compare_to o) (to_compare o)
  said_is_meant rule.Equal (node.Binary o) = both_ways (equal_means own ns o) (means_equal own ns o) (equal_to o) (to_equal o)
  said_is_meant rule.Join (node.Binary o) = both_ways (join_means own ns o) (means_join own ns o) (join_to o) (to_join o)
  said_is_meant rule.Logic (node.Binary o) = both_ways (xor_means own ns o) (means_xor own ns o) (xor_to o) (to_xor o)
  said_is_meant rule.Logic node.Not = both_ways (not_means own ns) (means_not own ns) (not_to) (to_not)
  said_is_meant rule.Lazy node.And = both_ways (lazy_means own ns) (means_lazy own ns) (lazy_to) (to_lazy)
  said_is_meant rule.Lazy node.Or = both_ways (lazy_means own ns) (means_lazy own ns) (lazy_to) (to_lazy)
  said_is_meant rule.Identity (node.Same v) = both_ways (identity_means own ns) (means_identity own ns) (identity_to) (to_identity)
  said_is_meant rule.Seq node.Seq = both_ways (seq_means core own ns x) (means_seq core own ns x) (seq_to) (to_seq)
  said_is_meant rule.If node.If = both_ways (if_means core own ns) (means_if core own ns) (if_to) (to_if)
  said_is_meant rule.While node.While = both_ways (while_means core own ns) (means_while core own ns) (while_to) (to_while)
  said_is_meant rule.Recover (node.Recover k) = both_ways (recover_means core own ns k) (means_recover core own ns k) (recover_to k) (to_recover k)
  said_is_meant rule.Body node.Body = both_ways (body_means core own ns x) (means_body core own ns x) (body_to) (to_body)
  said_is_meant r k = (λ h. absurd (none-some (said_by own) h), λ m. absurd m)

pub rules_say_what_is_meant : SaysWhatIsMeant
rules_say_what_is_meant core formed slots own ns x r k = said_is_meant core formed slots own ns x r k
